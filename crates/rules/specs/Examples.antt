-- Worked examples of the rules, as one statement. Assumes nothing.
use Rattle.rules.specs.Arithmetic.{dint_sum, divided}
use Rattle.rules.specs.Conversion.{whole}
use Rattle.rules.specs.Counter.{counted}
use Rattle.rules.specs.Delay.{delayed}
use Rattle.rules.specs.Limiter.{limited}
use Rattle.rules.specs.declared.arithmetic.Divided.{Divided}
use Rattle.rules.specs.declared.conversion.Whole.{Whole}
use Rattle.rules.specs.declared.counter.CounterPins.{CounterPins}
use Rattle.rules.specs.declared.counter.CounterMemory.{CounterMemory}
use Rattle.rules.specs.declared.delay.Delayed.{Delayed}
use Rattle.rules.specs.declared.limiter.Limited.{Limited}
use Rattle.std.specs.Float.{binary32}
use Rattle.std.specs.Prelude.{◌≡◌, Bool, true, false, ℤ, pos, negsuc, from_bits, int_lt}

abbrev lim : (y : ℤ) (qu ql : Bool) → Limited ℤ
lim y qu ql = record { y = y; qu = qu; ql = ql }

abbrev div : (y rest : ℤ) (qf : Bool) → Divided
div y rest qf = record { y = y; rest = rest; qf = qf }

abbrev pde : Bool → ℤ → Delayed
pde q n = record { q = q; n = n }

abbrev cut : ℤ → Bool → Whole
cut y qf = record { y = y; qf = qf }

-- IU and ID at 1, and the limits -32768 and 32767.
abbrev both_up : CounterPins
both_up = record { iu = true; id = true; r = false; lu = pos 32767; ll = negsuc 32767 }

-- Y at 32767, the last IU at 0 and the last ID as given.
abbrev full : Bool → CounterMemory
full pd = record { y = pos 32767; pu = false; pd = pd }

pub record Examples : Type 0 where
  -- LIM_D with LU 5 and LL 0, and with LU = LL = 7.
  pub at_upper : limited int_lt (pos 5) (pos 5) (pos 0) ≡ lim (pos 5) true false
  pub between : limited int_lt (pos 4) (pos 5) (pos 0) ≡ lim (pos 4) false false
  pub at_lower : limited int_lt (pos 0) (pos 5) (pos 0) ≡ lim (pos 0) false true
  pub equal_limits : (x : ℤ) → limited int_lt x (pos 7) (pos 7) ≡ lim (pos 7) true true
  -- ADD_D does not wrap.
  pub sum_limited : dint_sum (pos 2147483647) (pos 1) ≡ pos 2147483647
  -- DIV_D: -7 by 2, -7 by 0, and -2147483648 by -1.
  pub toward_zero : divided (negsuc 6) (pos 2) ≡ div (negsuc 2) (negsuc 0) false
  pub by_zero : divided (negsuc 6) (pos 0) ≡ div (negsuc 2147483647) (pos 0) true
  pub one_beyond : divided (negsuc 2147483647) (negsuc 0) ≡ div (pos 2147483647) (pos 0) true
  -- PDE with T 2 and I at 1, three cycles from N 0.
  pub first_cycle : delayed true (pos 2) (pos 0) ≡ pde false (pos 1)
  pub second_cycle : delayed true (pos 2) (pos 1) ≡ pde false (pos 2)
  pub third_cycle : delayed true (pos 2) (pos 2) ≡ pde true (pos 3)
  -- CTR at 32767: both edges, and IU alone.
  pub both_edges : (counted both_up (full false)).count ≡ lim (pos 32767) true false
  pub up_alone : (counted both_up (full true)).count ≡ lim (pos 32767) true false
  -- R_D of 2147483648.0 and of -1.75.
  pub cut_limited : whole (from_bits binary32 0x4F000000) ≡ cut (pos 2147483647) true
  pub cut_within : whole (from_bits binary32 0xBFE00000) ≡ cut (negsuc 0) false
