-- The answers of the calls as the rules have them. Assumes nothing.
use Rattle.std.specs.Prelude.{◌≡◌, ℕ, Some, None, Ok, Err, Option, Result}
use Rattle.signals.specs.declared.signal.Signal.{Signal}
use Rattle.blocks.specs.Meanings.{Meaning}
use Rattle.blocks.specs.Refusals.{number_of}
use Rattle.blocks.specs.declared.refusal.Refusal.{Refusal}
use Rattle.charts.specs.declared.call.Call.{Call}
use Rattle.charts.specs.declared.call.Reply.{Reply}
use Rattle.charts.specs.Calls.{Outcome, perform}
use Rattle.boxes.specs.Values.{BoxOver}

-- the refusal in an answer, by its number
abbrev pub refusal_in : {X : Type 0} → Result X Refusal → Option ℕ
refusal_in (Ok x) = None
refusal_in (Err e) = Some (number_of e)

-- an answer as a reply, a refusal by its number
abbrev pub reply_or : {X : Type 0} → (X → Reply) → Result X Refusal → Result Reply ℕ
reply_or reply (Ok x) = Ok (reply x)
reply_or reply (Err e) = Err (number_of e)

abbrev pub done_or : Result (Unit {0}) Refusal → Result Reply ℕ
done_or = reply_or (λ u. Reply.Done)

abbrev pub signal_or : Result Signal Refusal → Result Reply ℕ
signal_or = reply_or (λ x. Reply.Signal x)

abbrev pub length_or : Result ℕ Refusal → Result Reply ℕ
length_or = reply_or (λ n. Reply.Bytes n)

-- A call on a box over a library: refused or not, it answers and leaves the box as the rules say, and the library stays.
pub record IsPerformed {L : Type 0} (meaning : L → Meaning) (old : BoxOver L) (call : Call) (reply : Result Reply ℕ) (new : BoxOver L) : Type 0 where
  pub performed : ◌≡◌ {A = Outcome} (reply, new.box) (perform (meaning old.library) old.box call)
  pub library : new.library ≡ old.library
