-- The rule of the limiter, over any order that tells the smaller of two values. Assumes nothing.
use Rattle.rules.specs.declared.limiter.Limited.{Limited}
use Rattle.std.specs.Prelude.{Bool, true, false, cond, not}

-- The tests in their order: LL < LU fails, X < LU fails, LL < X fails. So X at a limit counts as limited, and LU = LL gives LU, 1, 1.
abbrev pub limited : {V : Type 0} → (V → V → Bool) → (x lu ll : V) → Limited V
limited smaller x lu ll =
    cond (not (smaller ll lu)) (record { y = lu; qu = true; ql = true })
    (cond (not (smaller x lu)) (record { y = lu; qu = true; ql = false })
    (cond (not (smaller ll x)) (record { y = ll; qu = false; ql = true })
    (record { y = x; qu = false; ql = false })))
