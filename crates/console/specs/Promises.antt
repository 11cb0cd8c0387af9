-- What is promised of requests and of their answers, in the subject's words. Assumes nothing.
use Rattle.std.specs.Prelude.{◌≡◌, ℕ, true, false, List, [], ◌∷◌, ◌++◌, length, drop, Some, None, Option}
use Rattle.signals.specs.Coding.{decoded}
use Rattle.signals.specs.Terminals.{terminal_type}
use Rattle.signals.specs.declared.signal.Signal.{Signal}
use Rattle.signals.specs.declared.signal.SignalType.{SignalType}
use Rattle.blocks.specs.Meanings.{Meaning}
use Rattle.charts.specs.declared.call.Call.{Call}
use Rattle.charts.specs.declared.page.Source.{Source}
use Rattle.charts.specs.Pages.{source}
use Rattle.charts.specs.Boxes.{Box}
use Rattle.charts.specs.Calls.{is_constant, perform}
use Rattle.console.specs.declared.line.Line.{Line}
use Rattle.console.specs.declared.read.Ending.{Ending}
use Rattle.console.specs.declared.request.Request.{Request}
use Rattle.console.specs.Requests.{body_length, request_of, Reads}
use Rattle.console.specs.Asked.{pin_type, line_of, asked}

-- ---- requests

-- a request in bytes: its letter, then its body
abbrev pub request_bytes : Request → List ℕ
request_bytes (Request.Sample t code) = 0x53 ∷ t ∷ code
request_bytes (Request.Tune b p code) = 0x54 ∷ b ∷ p ∷ code
request_bytes Request.Cycle = 0x43 ∷ []
request_bytes Request.Restart = 0x52 ∷ []
request_bytes (Request.Read b o) = 0x47 ∷ b ∷ o ∷ []
request_bytes (Request.Show t) = 0x4F ∷ t ∷ []

-- a signal is four bytes
abbrev pub WholeCode : Request → Type 0
WholeCode (Request.Sample t code) = length code ≡ 4
WholeCode (Request.Tune b p code) = length code ≡ 4
WholeCode Request.Cycle = Unit {0}
WholeCode Request.Restart = Unit {0}
WholeCode (Request.Read b o) = Unit {0}
WholeCode (Request.Show t) = Unit {0}

-- the request that bytes begin with
abbrev pub first_request : List ℕ → Option Request
first_request [] = None
first_request (letter ∷ body) = request_of letter body

-- Bytes begin with a request exactly if they are its bytes and others behind them, and they hold one list of requests with one ending.
pub record ReadingLaw : Type 0 where
  pub written_read : (q : Request) (rest : List ℕ) → WholeCode q → first_request (request_bytes q ++ rest) ≡ Some q
  pub read_written : (letter : ℕ) (body : List ℕ) (q : Request) → request_of letter body ≡ Some q → letter ∷ body ≡ request_bytes q ++ drop (body_length q) body
  pub read_once : (bytes : List ℕ) (qs rs : List Request) (s t : Ending) → Reads bytes qs s → Reads bytes rs t → (qs ≡ rs) × (s ≡ t)

-- ---- answers

-- a refused request: its line, and the box as it was
abbrev pub refused_with : ℕ → Box → Line × Box
refused_with n box = (Line.Refused n, box)

-- a code that is a value of its type is answered as the call with that signal is
abbrev pub answered_as : Meaning → Box → Call → Line × Box
answered_as m box call = (line_of false (perform m box call).0, (perform m box call).1)

-- The order of the tests of a coded signal: what is missing, 10; a wired pin, 14; a code outside the type, 7; and then the call's own.
pub record AnswerLaw (m : Meaning) (box : Box) : Type 0 where
  pub sample_missing : (t : ℕ) (code : List ℕ) → terminal_type t ≡ None → asked m box (Request.Sample t code) ≡ refused_with 10 box
  pub sample_outside : (t : ℕ) (code : List ℕ) (u : SignalType) → terminal_type t ≡ Some u → decoded u code ≡ None → asked m box (Request.Sample t code) ≡ refused_with 7 box
  pub sample_of : (t : ℕ) (code : List ℕ) (u : SignalType) (x : Signal) → terminal_type t ≡ Some u → decoded u code ≡ Some x
      → asked m box (Request.Sample t code) ≡ answered_as m box (Call.Sample t x)
  pub tune_missing : (b p : ℕ) (code : List ℕ) → source box.page b p ≡ None → asked m box (Request.Tune b p code) ≡ refused_with 10 box
  pub tune_wired : (b p : ℕ) (code : List ℕ) (s : Source) → source box.page b p ≡ Some s → is_constant s ≡ false → asked m box (Request.Tune b p code) ≡ refused_with 14 box
  pub tune_outside : (b p : ℕ) (code : List ℕ) (s : Source) (u : SignalType) → source box.page b p ≡ Some s → is_constant s ≡ true → pin_type m box b p ≡ Some u → decoded u code ≡ None
      → asked m box (Request.Tune b p code) ≡ refused_with 7 box
  pub tune_of : (b p : ℕ) (code : List ℕ) (u : SignalType) (x : Signal) → pin_type m box b p ≡ Some u → decoded u code ≡ Some x
      → asked m box (Request.Tune b p code) ≡ answered_as m box (Call.Tune b p x)

pub record ConsoleLaws : Type 0 where
  pub reading : ReadingLaw
  pub answering : (m : Meaning) (box : Box) → AnswerLaw m box
