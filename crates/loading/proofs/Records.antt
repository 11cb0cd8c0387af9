-- The records that bytes hold, one after the other. Assumes nothing.
use Rattle.std.proofs.Common.{◌≡◌, ℕ, suc, ◌+◌, List, [], ◌∷◌, ◌++◌, length, get_or, take, drop, Some, Ok, sym, refl, ap, ◌∙◌, subst, arith}
use Rattle.std.proofs.lemmas.List.{length-append, take_at, drop_at}
use Rattle.std.specs.List.{flat_map, AllByRecursion}
use Rattle.charts.specs.Pages.{Shapes}
use Rattle.charts.specs.Loading.{Raw, raw_bytes, Met, nothing_met, then_met, body_length, walk_one}
use Rattle.charts.proofs.WalkOne.{AllPass, Walked, walked}
use Rattle.loading.specs.Walks.{Begins}

module _ (shapes : Shapes) where
  -- a record with a body of its kind's length
  abbrev pub Whole : Raw → Type 0
  Whole r = body_length shapes r.kind ≡ Some (length r.body)

  -- bytes that are whole records
  abbrev pub Records : List ℕ → List Raw → Type 0
  Records bytes rs = (bytes ≡ flat_map raw_bytes rs) × AllByRecursion Whole rs

  all_whole : (limit : ℕ) (met : Met) (rs : List Raw) → AllPass shapes limit met rs → AllByRecursion Whole rs
  all_whole limit met [] p = tt
  all_whole limit met (r ∷ rs) p = (p.0.whole, all_whole limit (then_met met r.kind r.body) rs p.1)

  -- what walk one gives are the records of the chart
  pub chart_records : (limit : ℕ) (chart : List ℕ) (rs : List Raw) → walk_one shapes limit nothing_met 0 0 chart ≡ Ok rs → Records chart rs
  chart_records limit chart rs e =
      let w : Walked shapes limit nothing_met 0 chart (Ok rs) = subst (Walked shapes limit nothing_met 0 chart) e (walked shapes limit (length chart) nothing_met 0 chart (omega arith)) in
      (w.1, all_whole limit nothing_met rs w.0)

  -- two records that the same bytes begin with are one, and so is what stands behind them
  alike : (r s : Raw) (more rest : List ℕ) → raw_bytes r ++ more ≡ raw_bytes s ++ rest → Whole r → Whole s → (r ≡ s) × (more ≡ rest)
  alike r s more rest e w v =
      let kinds : r.kind ≡ s.kind = ap (λ bytes. get_or bytes 0 0) e in
      let behind : r.body ++ more ≡ s.body ++ rest = ap (drop 1) e in
      let sizes : Some (length r.body) ≡ Some (length s.body) = sym w ∙ ap (body_length shapes) kinds ∙ v in
      let size : length r.body ≡ length s.body = cc (sizes) in
      let bodies : r.body ≡ s.body = sym (take_at r.body more (length r.body) refl) ∙ ap (take (length r.body)) behind ∙ take_at s.body rest (length r.body) (sym size) in
      (λ i. record { kind = kinds i; body = bodies i }, sym (drop_at r.body more (length r.body) refl) ∙ ap (drop (length r.body)) behind ∙ drop_at s.body rest (length r.body) (sym size))

  -- the record that the bytes begin with is the first, and the others stand behind it
  pub first_record : (bytes : List ℕ) (rs : List Raw) → Records bytes rs → (r : Raw) (behind : List ℕ) → Begins shapes bytes r behind → (later : List Raw) × (rs ≡ r ∷ later) × Records behind later
  first_record bytes [] h r behind b = let none : suc (length (r.body ++ behind)) ≡ 0 = ap length (sym b.0 ∙ h.0) in absurd (omega arith)
  first_record bytes (s ∷ later) h r behind b =
      let same = alike s r (flat_map raw_bytes later) behind (sym h.0 ∙ b.0) h.1.0 b.1 in
      (later, ap (λ x. x ∷ later) same.0, (sym same.1, h.1.1))

  -- bytes that begin with no record hold none
  pub no_record : (bytes : List ℕ) (rs : List Raw) → Records bytes rs → ((r : Raw) (behind : List ℕ) → Begins shapes bytes r behind → ⊥) → rs ≡ []
  no_record bytes [] h none = refl
  no_record bytes (r ∷ later) h none = absurd (none r (flat_map raw_bytes later) (h.0, h.1.0))

  -- a record takes its kind and its body off the bytes
  pub behind_shorter : (bytes : List ℕ) (r : Raw) (behind : List ℕ) → Begins shapes bytes r behind → length bytes ≡ suc (length r.body) + length behind
  behind_shorter bytes r behind b = let e : length bytes ≡ suc (length (r.body ++ behind)) = ap length b.0 in let l = length-append r.body behind in omega arith
