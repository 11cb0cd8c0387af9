-- Walk two as a loop: the records that are left decide the fault. Assumes nothing.
use Rattle.std.proofs.Common.{◌≡◌, ℕ, suc, ◌+◌, ◌-◌, ◌≤◌, List, length, Some, None, Ok, sym, ap, ◌∙◌, arith}
use Rattle.charts.specs.Pages.{Shapes, block_limit}
use Rattle.charts.specs.Loading.{Raw, raw_bytes, nothing_met, walk_one, fault_two, at_place, walk_two}
use Rattle.loading.specs.Walks.{Begins}
use Rattle.loading.proofs.Records.{Records, chart_records, first_record, no_record, behind_shorter}

module _ (shapes : Shapes) (kinds chart : List ℕ) where
  -- the rest of a chart with the records rs: whole records, over which the walk from here on is the walk over rs
  abbrev Left : List Raw → List ℕ → Type 0
  Left rs rest = (todo : List Raw) × Records shapes rest todo × (walk_two shapes kinds (length chart - length rest) todo ≡ walk_two shapes kinds 0 rs)

  abbrev pub RecordsLeft : List ℕ → Type 0
  RecordsLeft rest = (length rest ≤ length chart) × ((rs : List Raw) → walk_one shapes block_limit nothing_met 0 0 chart ≡ Ok rs → Left rs rest)

  pub records_first : RecordsLeft chart
  records_first = (omega arith, λ rs e. let z : length chart - length chart ≡ 0 = omega arith in (rs, chart_records shapes block_limit chart rs e, ap (λ p. walk_two shapes kinds p rs) z))

  module _ (rest : List ℕ) (left : RecordsLeft rest) where
    pub records_over : ((r : Raw) (behind : List ℕ) → Begins shapes rest r behind → ⊥) → (rs : List Raw) → walk_one shapes block_limit nothing_met 0 0 chart ≡ Ok rs → walk_two shapes kinds 0 rs ≡ None
    records_over none rs e = let h = left.1 rs e in sym h.2 ∙ ap (walk_two shapes kinds (length chart - length rest)) (no_record shapes rest h.0 h.1 none)

    -- a turn of the loop, by the record that the rest begins with
    module _ (r : Raw) (behind : List ℕ) (begins : Begins shapes rest r behind) where
      decided : (rs : List Raw) (h : Left rs rest) → let later = (first_record shapes rest h.0 h.1 r behind begins).0 in
          at_place (length chart - length rest) (fault_two shapes kinds r) (walk_two shapes kinds (length chart - length rest + length (raw_bytes r)) later) ≡ walk_two shapes kinds 0 rs
      decided rs h = ap (walk_two shapes kinds (length chart - length rest)) (sym (first_record shapes rest h.0 h.1 r behind begins).1) ∙ h.2

      -- a record that fails is the first to fail
      pub turn_fails : (k : ℕ) → fault_two shapes kinds r ≡ Some k → (rs : List Raw) → walk_one shapes block_limit nothing_met 0 0 chart ≡ Ok rs → walk_two shapes kinds 0 rs ≡ Some (k, length chart - length rest)
      turn_fails k f rs e =
          let h = left.1 rs e in
          let later = (first_record shapes rest h.0 h.1 r behind begins).0 in
          sym (decided rs h) ∙ ap (λ p. at_place (length chart - length rest) p (walk_two shapes kinds (length chart - length rest + length (raw_bytes r)) later)) f

      -- a record that passes leaves those behind it
      pub turn_passes : fault_two shapes kinds r ≡ None → RecordsLeft behind
      turn_passes f = (let l = behind_shorter shapes rest r behind begins in let m = left.0 in omega arith, further)
        where
          further : (rs : List Raw) → walk_one shapes block_limit nothing_met 0 0 chart ≡ Ok rs → Left rs behind
          further rs e =
              let h = left.1 rs e in
              let next = first_record shapes rest h.0 h.1 r behind begins in
              let l = behind_shorter shapes rest r behind begins in
              let m = left.0 in
              let place : length chart - length behind ≡ length chart - length rest + suc (length r.body) = omega arith in (
                next.0,
                next.2,
                ap (λ p. walk_two shapes kinds p next.0) place
                    ∙ ap (λ p. at_place (length chart - length rest) p (walk_two shapes kinds (length chart - length rest + length (raw_bytes r)) next.0)) (sym f) ∙ decided rs h,
              )
