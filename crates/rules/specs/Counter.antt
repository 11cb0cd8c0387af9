-- The rule of the counter CTR. Assumes nothing.
use Rattle.rules.specs.Limiter.{limited}
use Rattle.rules.specs.declared.counter.Counted.{Counted}
use Rattle.rules.specs.declared.counter.CounterPins.{CounterPins}
use Rattle.rules.specs.declared.counter.CounterMemory.{CounterMemory}
use Rattle.std.specs.Prelude.{Bool, cond, not, ◌&&◌, ℤ, pos, ◌+ℤ◌, ◌-ℤ◌, int_lt}

-- A pin rises if it is 1 and was 0.
abbrev pub rises : (pin was : Bool) → Bool
rises pin was = pin && not was

-- One up, one down, or neither; both at once are no change.
abbrev pub change : (up down : Bool) → ℤ
change up down = cond up (pos 1) (pos 0) -ℤ cond down (pos 1) (pos 0)

-- The number that the limiter is given: Y with its change, and 0 under R. It neither wraps nor stops at the ends of the INT range.
abbrev pub counter_sum : CounterPins → CounterMemory → ℤ
counter_sum pins memory = cond pins.r (pos 0) (memory.y +ℤ change (rises pins.iu memory.pu) (rises pins.id memory.pd))

-- CTR limits the sum by the order of the integers, and keeps the last IU and ID.
abbrev pub counted : CounterPins → CounterMemory → Counted
counted pins memory = record { count = limited int_lt (counter_sum pins memory) pins.lu pins.ll; pu = pins.iu; pd = pins.id }
