-- Walk two: it passes over records without a fault, and stops at the first with one. Assumes nothing.
use Rattle.std.proofs.Common.{◌≡◌, ℕ, ◌+◌, List, [], ◌∷◌, ◌++◌, length, Some, None, Option, refl, ap, ◌∙◌, add-zero, arith}
use Rattle.std.proofs.lemmas.List.{length-append}
use Rattle.std.specs.List.{flat_map, AllByRecursion}
use Rattle.charts.specs.Pages.{Shapes}
use Rattle.charts.specs.Loading.{Fault, Raw, raw_bytes, fault_two, at_place, walk_two}
use Rattle.charts.specs.Faults.{FailsTwo, AllPassTwo, none, more}
use Rattle.charts.proofs.Determined.{Determined, determined_some, determined_none}
use Rattle.charts.proofs.FaultTwo.{two_determined}

module _ (shapes : Shapes) (kinds : List ℕ) where
  abbrev pub FaultlessTwo : List Raw → Type 0
  FaultlessTwo rs = AllByRecursion (λ r. fault_two shapes kinds r ≡ None) rs

  pub walk_faultless : (place : ℕ) (rs : List Raw) → FaultlessTwo rs → walk_two shapes kinds place rs ≡ None
  walk_faultless place [] h = refl
  walk_faultless place (r ∷ rs) h = rw h.0 (walk_faultless (place + length (raw_bytes r)) rs h.1)

  pub faultless_walk : (place : ℕ) (rs : List Raw) → walk_two shapes kinds place rs ≡ None → FaultlessTwo rs
  faultless_walk place [] e = tt
  faultless_walk place (r ∷ rs) e = go (fault_two shapes kinds r) refl e (λ q. faultless_walk (place + length (raw_bytes r)) rs q)
    where
      go : (o : Option ℕ) → fault_two shapes kinds r ≡ o → at_place place o (walk_two shapes kinds (place + length (raw_bytes r)) rs) ≡ None
          → (walk_two shapes kinds (place + length (raw_bytes r)) rs ≡ None → FaultlessTwo rs) → FaultlessTwo (r ∷ rs)
      go None f q again = (f, again q)
      go (Some n) f q again = let z : ◌≡◌ {A = ℕ} 0 1 = cc (q) in absurd (omega arith)

  same_place : (place : ℕ) (r : Raw) (rs : List Raw) → place + length (raw_bytes r) + length (flat_map raw_bytes rs) ≡ place + length (flat_map raw_bytes (r ∷ rs))
  same_place place r rs = let l = length-append (raw_bytes r) (flat_map raw_bytes rs) in omega arith

  -- the first record that fails stops the walk
  pub stops_two : (place : ℕ) (r : Raw) (after : List Raw) (n : ℕ) → FailsTwo shapes kinds r n → (before : List Raw) → AllPassTwo shapes kinds before
      → walk_two shapes kinds place (before ++ r ∷ after) ≡ Some (n, place + length (flat_map raw_bytes before))
  stops_two place r after n f before none = rw (add-zero place, determined_some (FailsTwo shapes kinds r) (fault_two shapes kinds r) n (two_determined shapes kinds r) f)
  stops_two place r after n f before (more {r = x} {rs = xs} p a) =
      rw (determined_none (FailsTwo shapes kinds x) (fault_two shapes kinds x) (two_determined shapes kinds x) p)
      (stops_two (place + length (raw_bytes x)) r after n f xs a ∙ ap (λ k. Some (n, k)) (same_place place x xs))

  pub record StoppedTwo (place : ℕ) (rs : List Raw) (f : Fault) : Type 0 where
    pub before : List Raw
    pub at : Raw
    pub after : List Raw
    pub number : ℕ
    pub records_are : rs ≡ before ++ at ∷ after
    pub passed : AllPassTwo shapes kinds before
    pub fails : FailsTwo shapes kinds at number
    pub fault_is : f ≡ (number, place + length (flat_map raw_bytes before))

  pub stopped_two : (place : ℕ) (rs : List Raw) (f : Fault) → walk_two shapes kinds place rs ≡ Some f → StoppedTwo place rs f
  stopped_two place [] f e = let z : ◌≡◌ {A = ℕ} 0 1 = cc in absurd (omega arith)
  stopped_two place (r ∷ rs) f e = go (fault_two shapes kinds r) (two_determined shapes kinds r) e (λ q. stopped_two (place + length (raw_bytes r)) rs f q)
    where
      go : (o : Option ℕ) → Determined (FailsTwo shapes kinds r) o → at_place place o (walk_two shapes kinds (place + length (raw_bytes r)) rs) ≡ Some f
          → (walk_two shapes kinds (place + length (raw_bytes r)) rs ≡ Some f → StoppedTwo (place + length (raw_bytes r)) rs f) → StoppedTwo place (r ∷ rs) f
      go None d q again =
          let s = again q in record {
            before = r ∷ s.before;
            at = s.at;
            after = s.after;
            number = s.number;
            records_are = ap (λ xs. r ∷ xs) s.records_are;
            passed = more d s.passed;
            fails = s.fails;
            fault_is = s.fault_is ∙ ap (λ k. (s.number, k)) (same_place place r s.before);
          }
      go (Some n) d q again =
          let e' : f ≡ (n, place) = cc (q) in
          record { before = []; at = r; after = rs; number = n; records_are = refl; passed = none; fails = d.0; fault_is = rw (add-zero place) e' }
