-- The page of faultless records: formed, and sound and written so where its bytes are bytes. Assumes nothing.
use Rattle.std.proofs.Common.{◌≡◌, ℕ, suc, ◌+◌, ◌*◌, ◌<◌, ◌≤◌, Bool, true, false, cond, List, [], ◌∷◌, ◌++◌, map, length, get_or, Some, None, Option, sym, refl, ap, ◌∙◌, arith}
use Rattle.std.proofs.ByRecursion.{All-weaker}
use Rattle.std.proofs.lemmas.List.{append_assoc}
use Rattle.std.proofs.lemmas.Bool.{leb-false, both_ways}
use Rattle.std.proofs.lemmas.Bool.Decides.{nat_tests}
use Rattle.std.specs.List.{flat_map, AllByRecursion}
use Rattle.std.specs.Option.{option_map}
use Rattle.signals.specs.Terminals.{terminal_type}
use Rattle.signals.specs.declared.signal.SignalType.{SignalType}
use Rattle.blocks.specs.Meanings.{Shape}
use Rattle.charts.specs.declared.page.Source.{Source}
use Rattle.charts.specs.declared.page.OutputRecord.{OutputRecord}
use Rattle.charts.specs.Pages.{Block, Page, Shapes, wire_type, kinds_of}
use Rattle.charts.specs.Charts.{Bytes, block_bytes, output_bytes}
use Rattle.charts.specs.Loading.{Raw, raw_bytes, Met, reached, met_output, then_met, is_block, body_length, pins_of, pins_in, output_in, sources_of, blocks_in, outputs_in, kinds_in, fault_of_pins, fault_of_output}
use Rattle.charts.specs.Soundness.{Feeds, Fed, SoundBlock, SoundOutput, Above, Rising, Sound}
use Rattle.charts.proofs.FaultOne.{kind_zero, kind_block}
use Rattle.charts.proofs.WalkOne.{Pass, AllPass, output_whole}
use Rattle.charts.proofs.WalkTwo.{FaultlessTwo}
use Rattle.charts.proofs.Sources.{Supplies, Supplied, HeldSource, body_supplies, body_back, fitting}

-- ---- a formed page: sound, but for constants that the machine may not hold

pub record FormedBlock (shapes : Shapes) (kinds : List ℕ) (b : Block) : Type 0 where
  pub no_output : b.kind ≡ 0 → ⊥
  pub form : Shape
  pub formed : shapes b.kind ≡ Some form
  pub supplied : Supplied shapes kinds form.pins b.pins

pub record Formed (shapes : Shapes) (limit : ℕ) (page : Page) : Type 0 where
  pub some_blocks : 1 ≤ length page.blocks
  pub few_blocks : length page.blocks ≤ limit
  pub blocks_formed : AllByRecursion (FormedBlock shapes (kinds_of page)) page.blocks
  pub outputs_sound : AllByRecursion (SoundOutput shapes (kinds_of page)) page.outputs
  pub rising : Rising page.outputs

-- the machine holds every constant of a block
abbrev pub HeldBlock : Block → Type 0
HeldBlock b = AllByRecursion HeldSource b.pins

feeds : (shapes : Shapes) (kinds : List ℕ) (t : SignalType) (x : Source) → Supplies shapes kinds t x → HeldSource x → Feeds shapes kinds t x
feeds shapes kinds t (Source.Constant x) s h = (s.0, s.1, h)
feeds shapes kinds t (Source.Terminal n) s h = s
feeds shapes kinds t (Source.Output b o) s h = s

fed_held : (shapes : Shapes) (kinds : List ℕ) (ts : List SignalType) (xs : List Source) → Supplied shapes kinds ts xs → AllByRecursion HeldSource xs → Fed shapes kinds ts xs
fed_held shapes kinds [] [] s h = tt
fed_held shapes kinds [] (x ∷ xs) s h = s
fed_held shapes kinds (t ∷ ts) [] s h = s
fed_held shapes kinds (t ∷ ts) (x ∷ xs) s h = (feeds shapes kinds t x s.0 h.0, fed_held shapes kinds ts xs s.1 h.1)

blocks_held : (shapes : Shapes) (kinds : List ℕ) (bs : List Block) → AllByRecursion (FormedBlock shapes kinds) bs → AllByRecursion HeldBlock bs → AllByRecursion (SoundBlock shapes kinds) bs
blocks_held shapes kinds [] f h = tt
blocks_held shapes kinds (b ∷ bs) f h =
    let x = f.0 in
    (record { no_output = x.no_output; form = x.form; formed = x.formed; fed = fed_held shapes kinds x.form.pins b.pins x.supplied h.0 }, blocks_held shapes kinds bs f.1 h.1)

-- a formed page of held constants is sound
pub formed_sound : (shapes : Shapes) (limit : ℕ) (page : Page) → Formed shapes limit page → AllByRecursion HeldBlock page.blocks → Sound shapes limit page
formed_sound shapes limit page f h = record {
  some_blocks = f.some_blocks;
  few_blocks = f.few_blocks;
  blocks_sound = blocks_held shapes (kinds_of page) page.blocks f.blocks_formed h;
  outputs_sound = f.outputs_sound;
  rising = f.rising;
}

-- ---- the kinds and the shapes

pub kinds_blocks : (shapes : Shapes) (rs : List Raw) → map (λ b. b.kind) (blocks_in shapes rs) ≡ kinds_in rs
kinds_blocks shapes [] = refl
kinds_blocks shapes (r ∷ rs) = go (is_block r.kind) (kinds_blocks shapes rs)
  where
    pins : List Source
    pins = sources_of (pins_of (shapes r.kind)) (pins_in r.body)

    go : (b : Bool) → map (λ b. b.kind) (blocks_in shapes rs) ≡ kinds_in rs
        → map (λ b. b.kind) (cond b (record { kind = r.kind; pins = pins } ∷ blocks_in shapes rs) (blocks_in shapes rs)) ≡ cond b (r.kind ∷ kinds_in rs) (kinds_in rs)
    go true h = ap (λ ks. r.kind ∷ ks) h
    go false h = h

record Shaped (o : Option Shape) (n : ℕ) : Type 0 where
  form : Shape
  formed : o ≡ Some form
  size : n ≡ 5 * length form.pins

shaped : (o : Option Shape) (n : ℕ) → option_map (λ s. 5 * length s.pins) o ≡ Some n → Shaped o n
shaped None n e = let z : ◌≡◌ {A = ℕ} 0 1 = cc in absurd (omega arith)
shaped (Some s) n e = record { form = s; formed = refl; size = cc }

block_shaped : (shapes : Shapes) (kind n : ℕ) → body_length shapes kind ≡ Some n → is_block kind ≡ true → Shaped (shapes kind) n
block_shaped shapes kind n e b = shaped (shapes kind) n (sym (ap (λ c. cond c (option_map (λ s. 5 * length s.pins) (shapes kind)) (Some 3)) b) ∙ e)

-- above the last terminal, if there is one
abbrev pub AboveLast : Option ℕ → List OutputRecord → Type 0
AboveLast None rs = Unit {0}
AboveLast (Some u) rs = Above u rs

-- an output record without a fault
output_fits : (a b : Option SignalType) → fault_of_output a b ≡ None → (t : SignalType) × (a ≡ Some t) × (b ≡ Some t)
output_fits None b e = let z : ◌≡◌ {A = ℕ} 0 1 = cc in absurd (omega arith)
output_fits (Some t) b e = (t, refl, fitting t b e)

module _ (shapes : Shapes) (limit : ℕ) where
  -- ---- what each record gives

  abbrev block_of : Raw → Block
  block_of r = record { kind = r.kind; pins = sources_of (pins_of (shapes r.kind)) (pins_in r.body) }

  abbrev pins_fault : List ℕ → Raw → Option ℕ
  pins_fault kinds r = fault_of_pins shapes kinds (pins_of (shapes r.kind)) (pins_in r.body)

  abbrev show_fault : List ℕ → Raw → Option ℕ
  show_fault kinds r = fault_of_output (terminal_type (output_in r.body).terminal) (wire_type shapes kinds (output_in r.body).block (output_in r.body).output)

  block_formed : (kinds : List ℕ) (met : Met) (r : Raw) → Pass shapes limit met r → is_block r.kind ≡ true → pins_fault kinds r ≡ None → FormedBlock shapes kinds (block_of r)
  block_formed kinds met r p b e =
      let s = block_shaped shapes r.kind (length r.body) p.whole b in
      let types : pins_of (shapes r.kind) ≡ s.form.pins = ap pins_of s.formed in
      let f : fault_of_pins shapes kinds s.form.pins (pins_in r.body) ≡ None = rw types at e in
      record {
        no_output = kind_block r.kind b;
        form = s.form;
        formed = s.formed;
        supplied = rw types (body_supplies shapes kinds s.form.pins r.body s.size f);
      }

  block_back : (kinds : List ℕ) (met : Met) (r : Raw) → Pass shapes limit met r → is_block r.kind ≡ true → Bytes r.body → pins_fault kinds r ≡ None
      → (block_bytes (block_of r) ≡ raw_bytes r) × HeldBlock (block_of r)
  block_back kinds met r p b h e =
      let s = block_shaped shapes r.kind (length r.body) p.whole b in
      let types : pins_of (shapes r.kind) ≡ s.form.pins = ap pins_of s.formed in
      let f : fault_of_pins shapes kinds s.form.pins (pins_in r.body) ≡ None = rw types at e in
      let back = body_back shapes kinds s.form.pins r.body s.size h f in
      (rw types (ap (λ bytes. r.kind ∷ bytes) back.0), rw types back.1)

  three_bytes : (body : List ℕ) → length body ≡ 3 → get_or body 0 0 ∷ get_or body 1 0 ∷ get_or body 2 0 ∷ [] ≡ body
  three_bytes [] l = absurd (omega arith)
  three_bytes (a ∷ []) l = absurd (omega arith)
  three_bytes (a ∷ b ∷ []) l = absurd (omega arith)
  three_bytes (a ∷ b ∷ c ∷ []) l = refl
  three_bytes (a ∷ b ∷ c ∷ d ∷ more) l = absurd (omega arith)

  output_back : (met : Met) (r : Raw) → Pass shapes limit met r → is_block r.kind ≡ false → output_bytes (output_in r.body) ≡ raw_bytes r
  output_back met r p b =
      let z = kind_zero r.kind b in
      let three = three_bytes r.body (output_whole shapes r.kind (length r.body) p.whole b) in
      λ i. sym z i ∷ three i

  -- ---- all records

  abbrev Next : Met → Raw → Bool → Met
  Next met r b = cond b (record { blocks = suc met.blocks; last = met.last }) (record { blocks = met.blocks; last = Some (get_or r.body 0 0) })

  pub all_formed : (kinds : List ℕ) (met : Met) (rs : List Raw) → AllPass shapes limit met rs → FaultlessTwo shapes kinds rs
      → AllByRecursion (FormedBlock shapes kinds) (blocks_in shapes rs) × AllByRecursion (SoundOutput shapes kinds) (outputs_in rs)
  all_formed kinds met [] p f = (tt, tt)
  all_formed kinds met (r ∷ rs) p f = go (is_block r.kind) refl f.0 (all_formed kinds (then_met met r.kind r.body) rs p.1 f.1)
    where
      go : (b : Bool) → is_block r.kind ≡ b → cond b (pins_fault kinds r) (show_fault kinds r) ≡ None → AllByRecursion (FormedBlock shapes kinds) (blocks_in shapes rs) × AllByRecursion (SoundOutput shapes kinds) (outputs_in rs)
          → AllByRecursion (FormedBlock shapes kinds) (cond b (block_of r ∷ blocks_in shapes rs) (blocks_in shapes rs)) × AllByRecursion (SoundOutput shapes kinds) (cond b (outputs_in rs) (output_in r.body ∷ outputs_in rs))
      go true e q h = ((block_formed kinds met r p.0 e q, h.0), h.1)
      go false e q h =
          let s = output_fits (terminal_type (output_in r.body).terminal) (wire_type shapes kinds (output_in r.body).block (output_in r.body).output) q in
          (h.0, (record { row = s.0; exists = s.1; wired = s.2 }, h.1))

  pub all_rising : (met : Met) (rs : List Raw) → AllPass shapes limit met rs → Rising (outputs_in rs) × AboveLast met.last (outputs_in rs)
  all_rising met [] p = (tt, none met.last)
    where
      none : (o : Option ℕ) → AboveLast o []
      none None = tt
      none (Some u) = tt
  all_rising met (r ∷ rs) p = go (is_block r.kind) p.0.in_place (all_rising (then_met met r.kind r.body) rs p.1)
    where
      t : ℕ
      t = get_or r.body 0 0

      above : (o : Option ℕ) → reached o t ≡ false → Above t (outputs_in rs) → AboveLast o (output_in r.body ∷ outputs_in rs)
      above None e h = tt
      above (Some u) e h = let l = leb-false t u e in (l, All-weaker (λ x. t < x.terminal) (λ x. u < x.terminal) (λ x q. omega arith) (outputs_in rs) h)

      go : (b : Bool) → cond b (met_output met.last) (reached met.last t) ≡ false → Rising (outputs_in rs) × AboveLast (Next met r b).last (outputs_in rs)
          → Rising (cond b (outputs_in rs) (output_in r.body ∷ outputs_in rs)) × AboveLast met.last (cond b (outputs_in rs) (output_in r.body ∷ outputs_in rs))
      go true e h = h
      go false e h = ((h.1, h.0), above met.last e h.1)

  pub few : (met : Met) (rs : List Raw) → AllPass shapes limit met rs → met.blocks ≤ limit → met.blocks + length (kinds_in rs) ≤ limit
  few met [] p l = omega arith
  few met (r ∷ rs) p l = go (is_block r.kind) refl (few (then_met met r.kind r.body) rs p.1)
    where
      go : (b : Bool) → is_block r.kind ≡ b → ((Next met r b).blocks ≤ limit → (Next met r b).blocks + length (kinds_in rs) ≤ limit) → met.blocks + length (cond b (r.kind ∷ kinds_in rs) (kinds_in rs)) ≤ limit
      go true e again =
          let o = p.0.in_limit in
          let under : suc met.blocks ≤ limit = grind (arith, nat_tests) in
          let rest = again under in
          omega arith
      go false e again = again l

  -- no block comes behind an output record
  no_more_blocks : (met : Met) (u : ℕ) → met.last ≡ Some u → (rs : List Raw) → AllPass shapes limit met rs → blocks_in shapes rs ≡ []
  no_more_blocks met u e [] p = refl
  no_more_blocks met u e (r ∷ rs) p = go (is_block r.kind) p.0.in_place (λ w q. no_more_blocks (then_met met r.kind r.body) w q rs p.1)
    where
      go : (b : Bool) → cond b (met_output met.last) (reached met.last (get_or r.body 0 0)) ≡ false → ((w : ℕ) → (Next met r b).last ≡ Some w → blocks_in shapes rs ≡ [])
          → cond b (block_of r ∷ blocks_in shapes rs) (blocks_in shapes rs) ≡ []
      go true q again = absurd (both_ways (met_output met.last) q (ap met_output e))
      go false q again = again (get_or r.body 0 0) refl

  -- ---- the bytes

  abbrev WrittenBack : List Raw → List Block → List OutputRecord → Type 0
  WrittenBack rs bs os = (flat_map block_bytes bs ++ flat_map output_bytes os ≡ flat_map raw_bytes rs) × AllByRecursion HeldBlock bs

  pub all_back : (kinds : List ℕ) (met : Met) (rs : List Raw) → AllPass shapes limit met rs → FaultlessTwo shapes kinds rs → AllByRecursion (λ r. Bytes r.body) rs → WrittenBack rs (blocks_in shapes rs) (outputs_in rs)
  all_back kinds met [] p f h = (refl, tt)
  all_back kinds met (r ∷ rs) p f h =
      go (is_block r.kind) refl f.0 (all_back kinds (then_met met r.kind r.body) rs p.1 f.1 h.1) (λ w q. no_more_blocks (then_met met r.kind r.body) w q rs p.1)
    where
      go : (b : Bool) → is_block r.kind ≡ b → cond b (pins_fault kinds r) (show_fault kinds r) ≡ None → WrittenBack rs (blocks_in shapes rs) (outputs_in rs) → ((w : ℕ) → (Next met r b).last ≡ Some w → blocks_in shapes rs ≡ [])
          → WrittenBack (r ∷ rs) (cond b (block_of r ∷ blocks_in shapes rs) (blocks_in shapes rs)) (cond b (outputs_in rs) (output_in r.body ∷ outputs_in rs))
      go true e q again last =
          let back = block_back kinds met r p.0 e h.0 q in
          (append_assoc (block_bytes (block_of r)) (flat_map block_bytes (blocks_in shapes rs)) (flat_map output_bytes (outputs_in rs)) ∙ (λ i. back.0 i ++ again.0 i), (back.1, again.1))
      go false e q again last =
          let none = last (get_or r.body 0 0) refl in
          let back = output_back met r p.0 e in
          let rest : flat_map output_bytes (outputs_in rs) ≡ flat_map raw_bytes rs = ap (λ bs. flat_map block_bytes bs ++ flat_map output_bytes (outputs_in rs)) (sym none) ∙ again.0 in
          (ap (λ bs. flat_map block_bytes bs ++ flat_map output_bytes (output_in r.body ∷ outputs_in rs)) none ∙ (λ i. back i ++ rest i), again.1)
