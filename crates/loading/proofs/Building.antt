-- Building a page of records. Assumes nothing.
use Rattle.std.proofs.Common.{◌≡◌, ℕ, Bool, true, false, cond, List, [], ◌∷◌, ◌++◌, map, Ok, vec_items, Vec, sym, refl, ap, ◌∙◌, subst, arith}
use Rattle.std.proofs.lemmas.List.{append_assoc, append-nil, map_push}
use Rattle.std.proofs.lemmas.Bool.Decides.{nat_tests}
use Rattle.std.specs.declared.alloc.Global.{Global}
use Rattle.blocks.specs.Meanings.{Meaning}
use Rattle.charts.specs.Boxes.{starting}
use Rattle.charts.specs.Pages as Pages
use Rattle.charts.specs.Loading.{Raw, nothing_met, walk_one, is_block, output_in, blocks_in, outputs_in}
use Rattle.charts.specs.declared.page.OutputRecord.{OutputRecord}
use Rattle.loading.specs.Built.{sources_in, BuiltBlock, Built}
use Rattle.loading.specs.Models.{block_model}
use Rattle.loading.specs.Walks.{Begins}
use Rattle.loading.specs.declared.page.Block.{Block}
use Rattle.loading.specs.declared.page.Page.{Page}
use Rattle.loading.proofs.Records.{Records, chart_records, first_record, no_record}

-- ---- one record more

push_cond : {X : Type 0} (b : Bool) (x : X) (xs ys zs : List X) → xs ≡ ys ++ zs → cond b (x ∷ xs) xs ≡ cond b (x ∷ ys) ys ++ zs
push_cond true x xs ys zs e = ap (λ l. x ∷ l) e
push_cond false x xs ys zs e = e

push_cond_else : {X : Type 0} (b : Bool) (x : X) (xs ys zs : List X) → xs ≡ ys ++ zs → cond b xs (x ∷ xs) ≡ cond b ys (x ∷ ys) ++ zs
push_cond_else true x xs ys zs e = e
push_cond_else false x xs ys zs e = ap (λ l. x ∷ l) e

blocks_push : (shapes : Pages.Shapes) (rs : List Raw) (r : Raw) → blocks_in shapes (rs ++ r ∷ []) ≡ blocks_in shapes rs ++ blocks_in shapes (r ∷ [])
blocks_push shapes [] r = refl
blocks_push shapes (x ∷ xs) r = push_cond (is_block x.kind) _ _ _ _ (blocks_push shapes xs r)

outputs_push : (rs : List Raw) (r : Raw) → outputs_in (rs ++ r ∷ []) ≡ outputs_in rs ++ outputs_in (r ∷ [])
outputs_push [] r = refl
outputs_push (x ∷ xs) r = push_cond_else (is_block x.kind) _ _ _ _ (outputs_push xs r)

no_block : (kind : ℕ) → kind ≡ 0 → is_block kind ≡ false
no_block kind e = ap is_block e

some_block : (kind : ℕ) → (kind ≡ 0 → ⊥) → is_block kind ≡ true
some_block kind n = grind (arith, nat_tests)

module _ (m : Meaning) (rs : List Raw) (p : Page) (built : Built m rs p) (kind : ℕ) (body : List ℕ) where
  have_blocks : map block_model (vec_items p.blocks) ≡ blocks_in m.shape rs
  have_blocks = ap (λ q. q.blocks) built.0

  have_outputs : vec_items p.outputs ≡ outputs_in rs
  have_outputs = ap (λ q. q.outputs) built.0

  pub output_added : kind ≡ 0 → (x : OutputRecord) → x ≡ output_in body → (outputs : Vec OutputRecord Global) → vec_items outputs ≡ vec_items p.outputs ++ x ∷ []
      → Built m (rs ++ record { kind = kind; body = body } ∷ []) (record { blocks = p.blocks; outputs = outputs })
  output_added z x x_is outputs e =
      let r : Raw = record { kind = kind; body = body } in
      let none : blocks_in m.shape (r ∷ []) ≡ [] = rw (no_block kind z) in
      let one : outputs_in (r ∷ []) ≡ x ∷ [] = rw (no_block kind z) (ap (λ y. y ∷ []) (sym x_is)) in
      let same : blocks_in m.shape rs ≡ blocks_in m.shape (rs ++ r ∷ []) = sym (blocks_push m.shape rs r ∙ ap (λ l. blocks_in m.shape rs ++ l) none ∙ append-nil (blocks_in m.shape rs)) in
      let more : vec_items outputs ≡ outputs_in (rs ++ r ∷ []) = e ∙ (let back = sym one in λ i. have_outputs i ++ back i) ∙ sym (outputs_push rs r) in
      (λ i. record { blocks = (have_blocks ∙ same) i; outputs = more i }, built.1 ∙ ap (map (λ b. starting m b.kind)) same)

  pub block_added : (kind ≡ 0 → ⊥) → (b : Block) → BuiltBlock m kind body b → (blocks : Vec Block Global) → vec_items blocks ≡ vec_items p.blocks ++ b ∷ []
      → Built m (rs ++ record { kind = kind; body = body } ∷ []) (record { blocks = blocks; outputs = p.outputs })
  block_added n b MadeSo blocks e =
      let r : Raw = record { kind = kind; body = body } in
      let x : Pages.Block = record { kind = kind; pins = sources_in m kind body } in
      let one : blocks_in m.shape (r ∷ []) ≡ x ∷ [] = rw (some_block kind n) in
      let none : outputs_in (r ∷ []) ≡ [] = rw (some_block kind n) in
      let all : blocks_in m.shape (rs ++ r ∷ []) ≡ blocks_in m.shape rs ++ x ∷ [] = blocks_push m.shape rs r ∙ ap (λ l. blocks_in m.shape rs ++ l) one in
      let more : map block_model (vec_items blocks) ≡ blocks_in m.shape (rs ++ r ∷ []) =
      ap (map block_model) e ∙ map_push block_model (vec_items p.blocks) b ∙ (λ i. have_blocks i ++ MadeSo.0 i ∷ []) ∙ sym all in
      let same : vec_items p.outputs ≡ outputs_in (rs ++ r ∷ []) = have_outputs ∙ sym (outputs_push rs r ∙ ap (λ l. outputs_in rs ++ l) none ∙ append-nil (outputs_in rs)) in
      let cells : map (λ y. vec_items y.cells) (vec_items blocks) ≡ map (λ y. starting m y.kind) (blocks_in m.shape (rs ++ r ∷ [])) =
      ap (map (λ y. vec_items y.cells)) e ∙ map_push (λ y. vec_items y.cells) (vec_items p.blocks) b
      ∙ (λ i. built.1 i ++ MadeSo.1 i ∷ [])
      ∙ sym (map_push (λ y. starting m y.kind) (blocks_in m.shape rs) x)
      ∙ ap (map (λ y. starting m y.kind)) (sym all) in
      (λ i. record { blocks = more i; outputs = same i }, cells)

-- ---- a page under way

-- the records that a page has, and those that the rest of the chart holds
pub record UnderWay (m : Meaning) (rs : List Raw) (p : Page) (rest : List ℕ) : Type 0 where
  pub have : List Raw
  pub left : List Raw
  pub all : have ++ left ≡ rs
  pub rest_is : Records m.shape rest left
  pub built : Built m have p

pub begun : (m : Meaning) (limit : ℕ) (chart : List ℕ) (rs : List Raw) (p : Page) → vec_items p.blocks ≡ [] → vec_items p.outputs ≡ []
    → walk_one m.shape limit nothing_met 0 0 chart ≡ Ok rs → UnderWay m rs p chart
begun m limit chart rs p b o e =
    record {
      have = [];
      left = rs;
      all = refl;
      rest_is = chart_records m.shape limit chart rs e;
      built = (λ i. record { blocks = map block_model (b i); outputs = o i }, λ i. map (λ y. vec_items y.cells) (b i));
    }

module _ (m : Meaning) (rs : List Raw) (p : Page) (rest : List ℕ) (u : UnderWay m rs p rest) where
  -- one record on
  pub further : (r : Raw) (behind : List ℕ) → Begins m.shape rest r behind → (p' : Page) → ((have : List Raw) → Built m have p → Built m (have ++ r ∷ []) p') → UnderWay m rs p' behind
  further r behind begins p' added =
      let next = first_record m.shape rest u.left u.rest_is r behind begins in
      record {
        have = u.have ++ r ∷ [];
        left = next.0;
        all = append_assoc u.have (r ∷ []) next.0 ∙ ap (λ others. u.have ++ others) (sym next.1) ∙ u.all;
        rest_is = next.2;
        built = added u.have u.built;
      }

  -- at the end of the chart
  pub ended : ((r : Raw) (behind : List ℕ) → Begins m.shape rest r behind → ⊥) → Built m rs p
  ended none = subst (λ x. Built m x p) (sym (append-nil u.have) ∙ ap (λ others. u.have ++ others) (sym (no_record m.shape rest u.left u.rest_is none)) ∙ u.all) u.built
