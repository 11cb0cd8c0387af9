-- What a step makes of a block. Assumes nothing.
use Rattle.std.specs.Prelude.{◌≡◌, ℕ, false, List, Ok, vec_items, slice_index_or}
use Rattle.signals.specs.declared.signal.Signal.{Signal}
use Rattle.blocks.specs.Meanings.{Meaning, stepped}
use Rattle.examples.specs.declared.block.Block.{Block}

-- the first output of a block; every kind has one
abbrev pub out : Block → Signal
out b = slice_index_or (vec_items b.cells) 0 (Signal.Bool false)

-- A block of a kind, at the starting cells of that kind.
pub record AtStart (m : Meaning) (k : ℕ) (b : Block) : Type 0 where
  pub kind : b.kind ≡ k
  pub cells : vec_items b.cells ≡ m.start k

-- A step over the pins was taken, and led from one state of a block to the other.
pub record Went (m : Meaning) (pins : List Signal) (before after : Block) : Type 0 where
  pub step : (Ok tt, vec_items after.cells) ≡ stepped m before.kind pins (vec_items before.cells)
  pub kind : after.kind ≡ before.kind

-- A block of a kind, after one step over the pins from its starting cells.
abbrev pub SteppedOnce : Meaning → ℕ → List Signal → Block → Type 0
SteppedOnce m k pins b = (Ok tt, vec_items b.cells) ≡ stepped m k pins (m.start k)
