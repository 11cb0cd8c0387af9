-- The numbers of refused calls. Assumes nothing.
use Rattle.std.specs.Prelude.{ℕ, Ok, Err, Result}
use Rattle.blocks.specs.declared.refusal.Refusal.{Refusal}
use Rattle.blocks.specs.declared.refusal.Refusal.TheVariants.{Missing, WrongSignal, ShortBuffer, Wired}

abbrev pub number_of : Refusal → ℕ
number_of Missing = 10
number_of WrongSignal = 11
number_of ShortBuffer = 13
number_of Wired = 14

-- an answer, a refusal by its number
abbrev pub numbered : {X : Type 0} → Result X Refusal → Result X ℕ
numbered (Ok x) = Ok x
numbered (Err e) = Err (number_of e)
