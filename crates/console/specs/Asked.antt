-- What a request asks of a box, and the line that answers it. Assumes nothing.
use Rattle.std.specs.Prelude.{ℕ, Bool, false, cond, not, ◌&&◌, List, is_some, Some, None, Ok, Err, Option, Result, ◌==◌, from_bits}
use Rattle.std.specs.Float.{binary32}
use Rattle.std.specs.Option.{unwrap_or}
use Rattle.std.specs.List.{slice_get}
use Rattle.signals.specs.Coding.{decoded}
use Rattle.signals.specs.Terminals.{terminal_type}
use Rattle.signals.specs.declared.signal.Signal.{Signal}
use Rattle.signals.specs.declared.signal.SignalType.{SignalType}
use Rattle.blocks.specs.Meanings.{Meaning}
use Rattle.charts.specs.declared.call.Call.{Call}
use Rattle.charts.specs.declared.call.Reply.{Reply}
use Rattle.charts.specs.Pages.{kinds_of}
use Rattle.charts.specs.Boxes.{Box}
use Rattle.charts.specs.Calls.{pin_type_at, perform}
use Rattle.console.specs.declared.line.Line.{Line}
use Rattle.console.specs.declared.request.Request.{Request}

-- the types that a sample's and a tune's signals are coded at
abbrev pub pin_type : Meaning → Box → ℕ → ℕ → Option SignalType
pin_type m box b p = pin_type_at m (slice_get (kinds_of box.page) b) p

-- a code that is no value of the type
abbrev pub outside : Option SignalType → List ℕ → Bool
outside None code = false
outside (Some t) code = not (is_some (decoded t code))

-- The signal of a code at a type. Every code is one of a REAL, so where there is none the REAL zero is of another type, and the box refuses it as such.
abbrev pub signal_of : Option SignalType → List ℕ → Signal
signal_of None code = Signal.Real (from_bits binary32 0)
signal_of (Some t) code = unwrap_or (decoded t code) (Signal.Real (from_bits binary32 0))

-- the call of a request
abbrev pub call_of : Meaning → Box → Request → Call
call_of m box (Request.Sample t code) = Call.Sample t (signal_of (terminal_type t) code)
call_of m box (Request.Tune b p code) = Call.Tune b p (signal_of (pin_type m box b p) code)
call_of m box Request.Cycle = Call.Cycle
call_of m box Request.Restart = Call.Restart
call_of m box (Request.Read b o) = Call.Read b o
call_of m box (Request.Show t) = Call.Show t

-- the request brings a code outside the type of its terminal or pin
abbrev pub code_outside : Meaning → Box → Request → Bool
code_outside m box (Request.Sample t code) = outside (terminal_type t) code
code_outside m box (Request.Tune b p code) = outside (pin_type m box b p) code
code_outside m box Request.Cycle = false
code_outside m box Request.Restart = false
code_outside m box (Request.Read b o) = false
code_outside m box (Request.Show t) = false

-- a refusal as it is printed: 7 in the place of 11 where the code was outside its type
abbrev pub printed : Bool → ℕ → ℕ
printed out n = cond (out && n == 11) 7 n

-- the line of what the rules answer
abbrev pub line_of : Bool → Result Reply ℕ → Line
line_of out (Ok Reply.Done) = Line.Done
line_of out (Ok (Reply.Signal x)) = Line.Signal x
line_of out (Ok (Reply.Bytes n)) = Line.Done
line_of out (Err n) = Line.Refused (printed out n)

-- the line of a request, and the box after it
abbrev pub asked : Meaning → Box → Request → Line × Box
asked m box q = (line_of (code_outside m box q) (perform m box (call_of m box q)).0, (perform m box (call_of m box q)).1)
