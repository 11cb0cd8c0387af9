-- The blocks of the gate at the start of the day, and their wiring, as a relation between the gate before and after a cycle. Assumes nothing.
use Rattle.std.specs.Prelude.{◌≡◌, ℕ, false, [], ◌∷◌, ℤ, pos, negsuc}
use Rattle.signals.specs.declared.signal.Signal.{Signal}
use Rattle.blocks.specs.Meanings.{Meaning}
use Rattle.examples.specs.Blocks.{AtStart, Went, out}
use Rattle.examples.specs.declared.gate.Gate.{Gate}
use Rattle.examples.specs.declared.gate.Row.{Row}

-- Each block at the starting cells of its kind: HYS, PDE, CTR, NSW_D, ADD_D and LIM_D.
pub record Fresh (m : Meaning) (gate : Gate) : Type 0 where
  pub call : AtStart m 129 gate.call
  pub delay : AtStart m 9 gate.delay
  pub openings : AtStart m 10 gate.openings
  pub travel : AtStart m 12 gate.travel
  pub aim : AtStart m 5 gate.aim
  pub position : AtStart m 8 gate.position

-- A cycle: each block is stepped once, over these pins.
pub record Cycled (m : Meaning) (hour : ℕ) (level : ℤ) (before after : Gate) (row : Row) : Type 0 where
  -- HYS: the water calls for the gate from 1200 mm up, until it is down to 1000 mm.
  pub call : Went m (Signal.Dint level ∷ Signal.Dint (pos 1200) ∷ Signal.Dint (pos 1000) ∷ []) before.call after.call
  -- PDE: a call counts from its third cycle on.
  pub delay : Went m (out after.call ∷ Signal.Dint (pos 2) ∷ []) before.delay after.delay
  -- CTR: each rise of the delayed call is one opening.
  pub openings : Went m (out after.delay ∷ Signal.Bool false ∷ Signal.Bool false ∷ Signal.Int (pos 99) ∷ Signal.Int (pos 0) ∷ []) before.openings after.openings
  -- NSW_D: the gate closes by 10 cm a cycle, and opens by 10 cm under the delayed call.
  pub travel : Went m (Signal.Dint (negsuc 9) ∷ Signal.Dint (pos 10) ∷ out after.delay ∷ []) before.travel after.travel
  -- ADD_D: where that would bring the gate.
  pub aim : Went m (out before.position ∷ out after.travel ∷ []) before.aim after.aim
  -- LIM_D: the gate stays between 10 cm and 40 cm.
  pub position : Went m (out after.aim ∷ Signal.Dint (pos 40) ∷ Signal.Dint (pos 10) ∷ []) before.position after.position
  -- The row shows the level and what four of the blocks put out.
  pub shown : row ≡ record { hour = hour; level = Signal.Dint level; call = out after.call; delayed = out after.delay; openings = out after.openings; position = out after.position }
