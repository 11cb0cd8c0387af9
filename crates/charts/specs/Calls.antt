-- The calls on a box: what each answers and what box it leaves. Assumes nothing.
use Rattle.std.specs.Prelude.{ℕ, Bool, true, false, cond, ◌&&◌, List, [], ◌∷◌, length, Some, None, Ok, Err, Option, Result, ◌==◌, nat_lt, slice_set}
use Rattle.std.specs.List.{slice_get}
use Rattle.signals.specs.Signals.{type_of, zero_of, clean}
use Rattle.signals.specs.Terminals.{terminal_type}
use Rattle.signals.specs.declared.signal.Signal.{Signal}
use Rattle.signals.specs.declared.signal.SignalType.{SignalType}
use Rattle.blocks.specs.Meanings.{Meaning, pin_type_of, same_type}
use Rattle.charts.specs.declared.call.Call.{Call}
use Rattle.charts.specs.declared.call.Reply.{Reply}
use Rattle.charts.specs.declared.page.Source.{Source}
use Rattle.charts.specs.declared.page.OutputRecord.{OutputRecord}
use Rattle.charts.specs.Pages.{Block, Page, source, kinds_of, wire_type}
use Rattle.charts.specs.Charts.{written}
use Rattle.charts.specs.Boxes.{Box, cell_at, cycled, restarted}

-- an answer, a refusal by its number, and the box after the call
abbrev pub Outcome : Type 0
Outcome = Result Reply ℕ × Box

-- a refusal leaves the box
abbrev pub settled : Option ℕ → Reply → Box → Box → Outcome
settled (Some n) reply old new = (Err n, old)
settled None reply old new = (Ok reply, new)

-- a signal of the type, and clean: else 11
abbrev pub refusal_of_signal : SignalType → Signal → Option ℕ
refusal_of_signal t x = cond (same_type t (type_of x) && clean x) None (Some 11)

-- ---- sample: sets an input terminal; 10 where it is missing, then 11

abbrev pub sample_refusal : Option SignalType → Signal → Option ℕ
sample_refusal None x = Some 10
sample_refusal (Some t) x = refusal_of_signal t x

abbrev pub sampled : ℕ → Signal → Box → Box
sampled t x box = record { page = box.page; cells = box.cells; terminals = slice_set box.terminals t x }

-- ---- tune: sets the constant of a pin; 10 where block or pin is missing, 14 where it is wired, then 11

abbrev pub is_constant : Source → Bool
is_constant (Source.Constant x) = true
is_constant (Source.Terminal t) = false
is_constant (Source.Output b o) = false

abbrev pub refusal_of_type : Option SignalType → Signal → Option ℕ
refusal_of_type None x = Some 11
refusal_of_type (Some t) x = refusal_of_signal t x

abbrev pub tune_refusal : Option Source → Option SignalType → Signal → Option ℕ
tune_refusal None t x = Some 10
tune_refusal (Some s) t x = cond (is_constant s) (refusal_of_type t x) (Some 14)

-- the type of a pin of a block of the page
abbrev pub pin_type_at : Meaning → Option ℕ → ℕ → Option SignalType
pin_type_at m None p = None
pin_type_at m (Some k) p = pin_type_of m k p

abbrev pub with_source : Option Block → ℕ → Source → List Block → ℕ → List Block
with_source None p s bs b = bs
with_source (Some k) p s bs b = slice_set bs b (record { kind = k.kind; pins = slice_set k.pins p s })

abbrev pub tuned_page : ℕ → ℕ → Signal → Page → Page
tuned_page b p x page = record { blocks = with_source (slice_get page.blocks b) p (Source.Constant x) page.blocks b; outputs = page.outputs }

abbrev pub tuned : ℕ → ℕ → Signal → Box → Box
tuned b p x box = record { page = tuned_page b p x box.page; cells = box.cells; terminals = box.terminals }

-- ---- read: an output of a block; 10 where the block or the output is missing

abbrev pub missing : Option SignalType → Option ℕ
missing None = Some 10
missing (Some t) = None

-- ---- show: the cell behind an output terminal, or its type's zero without a record; 10 where the terminal is missing

abbrev pub shown_by : List OutputRecord → Box → ℕ → SignalType → Signal
shown_by [] box t u = zero_of u
shown_by (r ∷ rs) box t u = cond (r.terminal == t) (cell_at box.cells r.block r.output) (shown_by rs box t u)

abbrev pub shown : Option SignalType → Box → ℕ → Outcome
shown None box t = (Err 10, box)
shown (Some u) box t = (Ok (Reply.Signal (shown_by box.page.outputs box t u)), box)

-- ---- save: the length of the chart with its present constants, 0 without blocks; 13 where the buffer is shorter

abbrev pub save_refusal : ℕ → Page → Option ℕ
save_refusal room page = cond (nat_lt room (length (written page))) (Some 13) None

-- ---- every call

abbrev pub perform : Meaning → Box → Call → Outcome
perform m box (Call.Sample t x) = settled (sample_refusal (terminal_type t) x) Reply.Done box (sampled t x box)
perform m box (Call.Tune b p x) = settled (tune_refusal (source box.page b p) (pin_type_at m (slice_get (kinds_of box.page) b) p) x) Reply.Done box (tuned b p x box)
perform m box Call.Cycle = (Ok Reply.Done, cycled m box)
perform m box Call.Restart = (Ok Reply.Done, restarted m box)
perform m box (Call.Read b o) = settled (missing (wire_type m.shape (kinds_of box.page) b o)) (Reply.Signal (cell_at box.cells b o)) box box
perform m box (Call.Show t) = shown (terminal_type t) box t
perform m box (Call.Save room) = settled (save_refusal room box.page) (Reply.Bytes (length (written box.page))) box box

-- the box after a list of calls, refused ones too
abbrev pub run : Meaning → Box → List Call → Box
run m box [] = box
run m box (c ∷ cs) = run m (perform m box c).1 cs

-- what the calls answer, one after the other
abbrev pub answers : Meaning → Box → List Call → List (Result Reply ℕ)
answers m box [] = []
answers m box (c ∷ cs) = (perform m box c).0 ∷ answers m (perform m box c).1 cs
