-- Load refuses a chart exactly with its first fault. Assumes nothing.
use Rattle.std.proofs.Common.{◌≡◌, ℕ, ◌+◌, ◌≤◌, List, [], ◌∷◌, ◌++◌, length, Some, None, Ok, Err, Option, Result, sym, refl, ap, ◌∙◌, subst, zero-add, arith}
use Rattle.std.specs.List.{flat_map}
use Rattle.charts.specs.Pages.{Shapes}
use Rattle.charts.specs.Loading.{Fault, Raw, raw_bytes, nothing_met, body_length, fault_one, walk_one, walk_two, kinds_in, page_in, after_one, after_two, with_blocks, load}
use Rattle.charts.specs.Faults.{FailsOne, AllPassOne, FailsTwo, AllPassTwo, FirstFault, in_one, no_block, in_two}
use Rattle.charts.proofs.Determined.{Determined, determined_some}
use Rattle.charts.proofs.FaultOne.{one_determined}
use Rattle.charts.proofs.WalkOne.{Walked, walked, walk_behind, load_records, mets, behind}
use Rattle.charts.proofs.Passes.{passed_one, one_passed}
use Rattle.charts.proofs.WalkTwo.{stops_two, stopped_two, StoppedTwo}

module _ (shapes : Shapes) (limit : ℕ) (chart : List ℕ) where
  stopped_fault : (rs : List Raw) (f : Fault) → AllPassOne shapes limit rs → chart ≡ flat_map raw_bytes rs → 1 ≤ length (kinds_in rs) → StoppedTwo shapes (kinds_in rs) 0 rs f → FirstFault shapes limit chart f
  stopped_fault rs f a c l s =
      let e = s.records_are in
      let kinds = ap kinds_in e in
      let whole = subst (AllPassOne shapes limit) e a in
      let chart_is = c ∙ ap (flat_map raw_bytes) e in
      let some : 1 ≤ length (kinds_in (s.before ++ s.at ∷ s.after)) = rw e at l in
      let passed = subst (λ ks. AllPassTwo shapes ks s.before) kinds s.passed in
      let fails = subst (λ ks. FailsTwo shapes ks s.at s.number) kinds s.fails in
      subst (FirstFault shapes limit chart) (ap (λ k. (s.number, k)) (sym (zero-add (length (flat_map raw_bytes s.before)))) ∙ sym s.fault_is)
      (in_two s.before s.at s.after s.number whole chart_is some passed fails)

  after_two_fault : (rs : List Raw) (f : Fault) → AllPassOne shapes limit rs → chart ≡ flat_map raw_bytes rs → (ks : List ℕ) → kinds_in rs ≡ ks → with_blocks shapes rs ks ≡ Err f → FirstFault shapes limit chart f
  after_two_fault rs f a c [] k e = let q : f ≡ (9, 0) = cc (e) in rw q (no_block rs a c k)
  after_two_fault rs f a c (x ∷ xs) k e = go (walk_two shapes (x ∷ xs) 0 rs) refl e
    where
      go : (o : Option Fault) → walk_two shapes (x ∷ xs) 0 rs ≡ o → after_two (page_in shapes rs) o ≡ Err f → FirstFault shapes limit chart f
      go None w q = let z : ◌≡◌ {A = ℕ} 0 1 = cc (q) in absurd (omega arith)
      go (Some g) w q =
          let same : g ≡ f = cc (q) in
          let l = ap length k in
          stopped_fault rs f a c (omega arith) (stopped_two shapes (kinds_in rs) 0 rs f (ap (λ ks. walk_two shapes ks 0 rs) k ∙ w ∙ ap Some same))

  pub refused_fault : (f : Fault) → load shapes limit chart ≡ Err f → FirstFault shapes limit chart f
  refused_fault f e = go (walk_one shapes limit nothing_met 0 0 chart) (walked shapes limit (length chart) nothing_met 0 chart (omega arith)) e
    where
      go : (w : Result (List Raw) Fault) → Walked shapes limit nothing_met 0 chart w → after_one shapes w ≡ Err f → FirstFault shapes limit chart f
      go (Err g) s q =
          let same : g ≡ f = cc (q) in
          let p = passed_one shapes limit s.before s.passed in
          let d = one_determined (mets nothing_met s.before) s.before p.1 shapes limit s.kind s.rest in
          let fails = (subst (Determined (FailsOne shapes limit s.before s.kind s.rest)) s.fault d).0 in
          subst (FirstFault shapes limit chart) (ap (λ k. (s.number, k)) (sym (zero-add (length (flat_map raw_bytes s.before)))) ∙ sym s.fault_is ∙ same)
          (in_one s.before s.kind s.rest s.number p.0 s.bytes_are fails)
      go (Ok rs) s q = after_two_fault rs f (passed_one shapes limit rs s.0).0 s.1 (kinds_in rs) refl q

  loads_all : (rs : List Raw) → AllPassOne shapes limit rs → chart ≡ flat_map raw_bytes rs → load shapes limit chart ≡ with_blocks shapes rs (kinds_in rs)
  loads_all rs a c = ap (load shapes limit) c ∙ load_records shapes limit rs (one_passed shapes limit rs a).0

  with_some : (rs : List Raw) (f : Fault) (ks : List ℕ) → 1 ≤ length ks → walk_two shapes ks 0 rs ≡ Some f → with_blocks shapes rs ks ≡ Err f
  with_some rs f [] l e = absurd (omega arith)
  with_some rs f (k ∷ ks) l e = rw e

  pub fault_refused : (f : Fault) → FirstFault shapes limit chart f → load shapes limit chart ≡ Err f
  fault_refused f (in_one before kind rest n a c fails) =
      let p = one_passed shapes limit before a in
      let met = mets nothing_met before in
      let d = determined_some (FailsOne shapes limit before kind rest) (fault_one limit met kind rest (body_length shapes kind)) n (one_determined met before p.1 shapes limit kind rest) fails in
      let stop : behind before (walk_one shapes limit met 0 (0 + length (flat_map raw_bytes before)) (kind ∷ rest)) ≡ Err (n, length (flat_map raw_bytes before)) = rw (d, zero-add (length (flat_map raw_bytes before))) in
      ap (load shapes limit) c ∙ ap (after_one shapes) (walk_behind shapes limit nothing_met 0 before (kind ∷ rest) p.0 ∙ stop)
  fault_refused f (no_block all a c k) = loads_all all a c ∙ ap (with_blocks shapes all) k
  fault_refused f (in_two before r after n a c l p fails) =
      let rs = before ++ r ∷ after in
      loads_all rs a c ∙ with_some rs (n, length (flat_map raw_bytes before)) (kinds_in rs) l
      (stops_two shapes (kinds_in rs) 0 r after n fails before p ∙ ap (λ k. Some (n, k)) (zero-add (length (flat_map raw_bytes before))))
