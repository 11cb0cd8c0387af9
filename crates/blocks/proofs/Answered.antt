-- What the layers answer, from what the library below answers. Assumes nothing.
use Rattle.std.proofs.Common.{◌≡◌, ℕ, zero, suc, Bool, true, false, cond, ◌&&◌, ◌||◌, List, [], ◌∷◌, map, Some, None, Ok, Err, Option, Result, sym, refl, ap, ◌∙◌, arith, true-eqb}
use Rattle.std.specs.Option.{option_map}
use Rattle.std.specs.List.{slice_get}
use Rattle.signals.specs.Signals.{type_of, zero_of, one_of}
use Rattle.signals.specs.declared.signal.Signal.{Signal}
use Rattle.signals.specs.declared.signal.SignalType.{SignalType}
use Rattle.blocks.specs.Meanings.{Shape, Meaning, Lawful, rank, same_type, typed, stepped_as, stepped}
use Rattle.blocks.specs.Layers.{lamp_meaning, lamp, any_lit}

pub nth_map : {X Y : Type 0} (f : X → Y) (xs : List X) (i : ℕ) → option_map f (slice_get xs i) ≡ slice_get (map f xs) i
nth_map f [] i = refl
nth_map f (x ∷ xs) zero = refl
nth_map f (x ∷ xs) (suc i) = nth_map f xs i

-- ---- a signal's type, from the test of a step

of_rank : ℕ → SignalType
of_rank zero = SignalType.Bool
of_rank (suc zero) = SignalType.Int
of_rank (suc (suc zero)) = SignalType.Dint
of_rank (suc (suc (suc n))) = SignalType.Real

of_rank_is : (t : SignalType) → of_rank (rank t) ≡ t
unfolding of_rank
of_rank_is SignalType.Bool = refl
of_rank_is SignalType.Int = refl
of_rank_is SignalType.Dint = refl
of_rank_is SignalType.Real = refl

pub same_type_is : (t u : SignalType) → same_type t u ≡ true → u ≡ t
same_type_is t u e = sym (of_rank_is u) ∙ ap of_rank (sym (true-eqb (rank t) (rank u) (sym e))) ∙ of_rank_is t

pub same_type_self : (t : SignalType) → same_type t t ≡ true
same_type_self SignalType.Bool = refl
same_type_self SignalType.Int = refl
same_type_self SignalType.Dint = refl
same_type_self SignalType.Real = refl

pub both : (a b : Bool) → (a && b) ≡ true → (a ≡ true) × (b ≡ true)
both true true e = (refl, refl)
both true false e = (refl, e)
both false b e = (e, absurd (let z : ◌≡◌ {A = ℕ} 0 1 = cc in omega arith))

pub typed_is : (ts : List SignalType) (xs : List Signal) → typed ts xs ≡ true → map type_of xs ≡ ts
typed_is [] [] e = refl
typed_is [] (x ∷ xs) e = absurd (let z : ◌≡◌ {A = ℕ} 0 1 = cc in omega arith)
typed_is (t ∷ ts) [] e = absurd (let z : ◌≡◌ {A = ℕ} 0 1 = cc in omega arith)
typed_is (t ∷ ts) (x ∷ xs) e =
    let h = both (same_type t (type_of x)) (typed ts xs) e in
    λ i. same_type_is t (type_of x) h.0 i ∷ typed_is ts xs h.1 i

-- ---- the step of the lamp layer

-- a lamp depends on a cell through its type alone
by_type : Bool → SignalType → Signal
by_type b t = cond b (one_of t) (zero_of t)

lamps_by_type : (b : Bool) (xs : List Signal) → map (lamp b) xs ≡ map (by_type b) (map type_of xs)
unfolding by_type
lamps_by_type b [] = refl
lamps_by_type b (x ∷ xs) = ap (λ ys. lamp b x ∷ ys) (lamps_by_type b xs)

module _ (m : Meaning) (law : Lawful m) (k : ℕ) (ps cs after : List Signal) where
  lit_step : (s : Shape) → m.shape k ≡ Some s → (b : Bool) → typed s.pins ps && typed s.cells cs ≡ b
      → ◌≡◌ {A = Result (Unit {0}) ℕ × List Signal} (Ok tt, after) (cond b (Ok tt, m.new k ps cs) (Err 11, cs))
      → ◌≡◌ {A = Result (Unit {0}) ℕ × List Signal} (Ok tt, map (lamp (any_lit ps || any_lit cs)) after) (cond b (Ok tt, map (lamp (any_lit ps || any_lit cs)) cs) (Err 11, cs))
  lit_step s sh true t e =
      let h = both (typed s.pins ps) (typed s.cells cs) t in
      let old = typed_is s.cells cs h.1 in
      let new = ap (map type_of) (ap (λ r. r.1) e) ∙ law.steps k s ps cs sh (typed_is s.pins ps h.0) old in
      let b = any_lit ps || any_lit cs in
      let same : map (lamp b) after ≡ map (lamp b) cs = lamps_by_type b after ∙ ap (map (by_type b)) (new ∙ sym old) ∙ sym (lamps_by_type b cs) in
      ap (λ xs. (Ok tt, xs)) same
  lit_step s sh false t e = absurd (let z : ◌≡◌ {A = ℕ} 0 1 = cc (ap (λ r. r.0) e) in omega arith)

  lamp_stepped_as : (o : Option Shape) → m.shape k ≡ o → ◌≡◌ {A = Result (Unit {0}) ℕ × List Signal} (Ok tt, after) (stepped_as o (m.new k) ps cs)
      → ◌≡◌ {A = Result (Unit {0}) ℕ × List Signal} (Ok tt, map (lamp (any_lit ps || any_lit cs)) after) (stepped_as o ((lamp_meaning m).new k) ps cs)
  lamp_stepped_as None sh e = absurd (let z : ◌≡◌ {A = ℕ} 0 1 = cc (ap (λ r. r.0) e) in omega arith)
  lamp_stepped_as (Some s) sh e = lit_step s sh (typed s.pins ps && typed s.cells cs) refl e

  pub lamp_stepped : ◌≡◌ {A = Result (Unit {0}) ℕ × List Signal} (Ok tt, after) (stepped m k ps cs)
      → ◌≡◌ {A = Result (Unit {0}) ℕ × List Signal} (Ok tt, map (lamp (any_lit ps || any_lit cs)) after) (stepped (lamp_meaning m) k ps cs)
  lamp_stepped e = lamp_stepped_as (m.shape k) refl e
