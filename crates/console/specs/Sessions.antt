-- A whole session: what is printed for a chart and requests in bytes, and what is promised of it. Assumes nothing.
use Rattle.std.specs.Prelude.{◌≡◌, ℕ, ◌⊎◌, List, [], ◌∷◌, ◌++◌, Ok, Err, string_bytes}
use Rattle.blocks.specs.Meanings.{Meaning, Lawful}
use Rattle.charts.specs.declared.call.Call.{Call}
use Rattle.charts.specs.Pages.{Page, block_limit}
use Rattle.charts.specs.Loading.{load}
use Rattle.charts.specs.Boxes.{Box, made}
use Rattle.charts.specs.Calls.{run}
use Rattle.charts.specs.Laws.{SameShapes, Independent}
use Rattle.boxes.specs.declared.gate_box.GateBox.{GateBox}
use Rattle.console.specs.declared.line.Line.{Line}
use Rattle.console.specs.declared.read.Ending.{Ending}
use Rattle.console.specs.declared.request.Request.{Request}
use Rattle.console.specs.declared.session.Session.{Session}
use Rattle.console.specs.Lines.{line_text}
use Rattle.console.specs.Requests.{Reads}
use Rattle.console.specs.Asked.{call_of, asked}

-- a line with its line feed
abbrev pub printed_line : Line → List ℕ
printed_line line = line_text line ++ 10 ∷ []

-- the calls of requests, one after the other
abbrev pub calls_of : Meaning → Box → List Request → List Call
calls_of m box [] = []
calls_of m box (q ∷ qs) = call_of m box q ∷ calls_of m (asked m box q).1 qs

-- a line for each request
abbrev pub lines_of : Meaning → Box → List Request → List ℕ
lines_of m box [] = []
lines_of m box (q ∷ qs) = printed_line (asked m box q).0 ++ lines_of m (asked m box q).1 qs

-- the box is the rules' run of the requests' calls, and the text has a line for each
abbrev pub Held : {L : Type 0} → Meaning → GateBox L → List Request → Session L → Type 0
Held m x qs r =
    (r.gate_box.box ≡ run m x.box (calls_of m x.box qs)) × (string_bytes r.text ≡ lines_of m x.box qs) × (r.gate_box.library ≡ x.library)

-- `stop` where an unknown or cut request stands behind the others
abbrev pub ending_text : Ending → List ℕ
ending_text Ending.Whole = []
ending_text Ending.Stopped = printed_line Line.Stop

-- A line for each request that the bytes hold, on a box, then the ending.
pub record Talked (m : Meaning) (box : Box) (bytes text : List ℕ) : Type 0 where
  pub requests : List Request
  pub ending : Ending
  pub read : Reads bytes requests ending
  pub printed : text ≡ lines_of m box requests ++ ending_text ending

-- a chart that is accepted: what is printed for the box made of the chart
pub record RanSession (m : Meaning) (chart bytes text : List ℕ) : Type 0 where
  pub page : Page
  pub accepted : load m.shape block_limit chart ≡ Ok page
  pub talked : Talked m (made m page) bytes text
  -- of the calls that were made: against every other library with the same shapes and every other list of calls, a block's cells depend on its upstream alone
  pub independent : (n : Meaning) → Lawful n → SameShapes m n → Independent m block_limit chart page (calls_of m (made m page) talked.requests) n

-- a chart that is refused: its fault's number and place
pub record RefusedChart (m : Meaning) (chart text : List ℕ) : Type 0 where
  pub number : ℕ
  pub place : ℕ
  pub refused : load m.shape block_limit chart ≡ Err (number, place)
  pub printed : text ≡ printed_line (Line.Chart number place)

abbrev pub Transcribed : Meaning → (chart bytes text : List ℕ) → Type 0
Transcribed m chart bytes text = RanSession m chart bytes text ⊎ RefusedChart m chart text
