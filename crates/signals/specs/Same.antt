-- `same_real` and `same_signal` decide whether two values are equal. Assumes nothing.
use Rattle.std.proofs.Common.{◌≡◌, Bool, true, false, ◌&&◌, refl, sym, subst, ap, ap₂, ◌∙◌, true≢false}
use Rattle.std.specs.Prelude.{Decides, Float, ◌==◌}
use Rattle.std.specs.Bool.{beq}
use Rattle.std.specs.Ordering.{int_eq}
use Rattle.std.specs.Cmp.{IsPartialEquivalence, booleans_Decides, unsigned_Decides, signed_Decides, decided, partial_equiv_from_equiv}
use Rattle.std.specs.Float.{nan, inf, fin}
use Rattle.signals.specs.Real.{same_real}
use Rattle.signals.specs.Signals.{same_signal}
use Rattle.signals.specs.declared.signal.Signal.{Signal}

both_true : (a b : Bool) → (a && b) ≡ true → (a ≡ true) × (b ≡ true)
both_true true b e = (refl, e)
both_true false b e = absurd (true≢false (sym e))

same_real_self : (x : Float) → same_real x x ≡ true
same_real_self nan = refl
same_real_self (inf s) = (booleans_Decides s s).1 refl
same_real_self (fin s m e) = ap₂ (λ u v. u && v) ((booleans_Decides s s).1 refl) (ap₂ (λ u v. u && v) ((unsigned_Decides m m).1 refl) ((signed_Decides e e).1 refl))

same_real_is : (x y : Float) → same_real x y ≡ true → x ≡ y
same_real_is nan nan q = refl
same_real_is nan (inf t) q = absurd (true≢false (sym q))
same_real_is nan (fin t n f) q = absurd (true≢false (sym q))
same_real_is (inf s) nan q = absurd (true≢false (sym q))
same_real_is (inf s) (inf t) q = ap inf ((booleans_Decides s t).0 q)
same_real_is (inf s) (fin t n f) q = absurd (true≢false (sym q))
same_real_is (fin s m e) nan q = absurd (true≢false (sym q))
same_real_is (fin s m e) (inf t) q = absurd (true≢false (sym q))
same_real_is (fin s m e) (fin t n f) q =
    let both = both_true (beq s t) ((m == n) && int_eq e f) q in
    let rest = both_true (m == n) (int_eq e f) both.1 in
    ap (λ u. fin u m e) ((booleans_Decides s t).0 both.0) ∙ ap₂ (λ v w. fin t v w) ((unsigned_Decides m n).0 rest.0) ((signed_Decides e f).0 rest.1)

pub same_real_Decides : (x y : Float) → Decides (same_real x y) (x ≡ y)
same_real_Decides x y = (same_real_is x y, λ e. subst (λ z. same_real x z ≡ true) e (same_real_self x))

same_signal_self : (x : Signal) → same_signal x x ≡ true
same_signal_self (Signal.Bool a) = (booleans_Decides a a).1 refl
same_signal_self (Signal.Int a) = (signed_Decides a a).1 refl
same_signal_self (Signal.Dint a) = (signed_Decides a a).1 refl
same_signal_self (Signal.Real a) = same_real_self a

same_signal_is : (x y : Signal) → same_signal x y ≡ true → x ≡ y
same_signal_is (Signal.Bool a) (Signal.Bool b) q = ap Signal.Bool ((booleans_Decides a b).0 q)
same_signal_is (Signal.Bool a) (Signal.Int b) q = absurd (true≢false (sym q))
same_signal_is (Signal.Bool a) (Signal.Dint b) q = absurd (true≢false (sym q))
same_signal_is (Signal.Bool a) (Signal.Real b) q = absurd (true≢false (sym q))
same_signal_is (Signal.Int a) (Signal.Bool b) q = absurd (true≢false (sym q))
same_signal_is (Signal.Int a) (Signal.Int b) q = ap Signal.Int ((signed_Decides a b).0 q)
same_signal_is (Signal.Int a) (Signal.Dint b) q = absurd (true≢false (sym q))
same_signal_is (Signal.Int a) (Signal.Real b) q = absurd (true≢false (sym q))
same_signal_is (Signal.Dint a) (Signal.Bool b) q = absurd (true≢false (sym q))
same_signal_is (Signal.Dint a) (Signal.Int b) q = absurd (true≢false (sym q))
same_signal_is (Signal.Dint a) (Signal.Dint b) q = ap Signal.Dint ((signed_Decides a b).0 q)
same_signal_is (Signal.Dint a) (Signal.Real b) q = absurd (true≢false (sym q))
same_signal_is (Signal.Real a) (Signal.Bool b) q = absurd (true≢false (sym q))
same_signal_is (Signal.Real a) (Signal.Int b) q = absurd (true≢false (sym q))
same_signal_is (Signal.Real a) (Signal.Dint b) q = absurd (true≢false (sym q))
same_signal_is (Signal.Real a) (Signal.Real b) q = ap Signal.Real ((same_real_Decides a b).0 q)

pub same_signal_Decides : (x y : Signal) → Decides (same_signal x y) (x ≡ y)
same_signal_Decides x y = (same_signal_is x y, λ e. subst (λ z. same_signal x z ≡ true) e (same_signal_self x))

pub same_signal_laws : IsPartialEquivalence same_signal
same_signal_laws = partial_equiv_from_equiv (decided same_signal same_signal_Decides)
