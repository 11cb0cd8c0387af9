-- What the step of a counter rests on. Assumes nothing.
use Rattle.std.proofs.Common.{◌≡◌, Bool, true, false, cond, Some, None, Option, refl}

pub some_when : {X : Type 0} (b : Bool) (x y : X) → ◌≡◌ {A = Option X} (Some x) (cond b (Some y) None) → (b ≡ true) × (x ≡ y)
some_when true x y e = (refl, cc)
some_when false x y e = absurd cc
