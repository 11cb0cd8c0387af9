-- Load: the two walks over a chart. Assumes nothing.
use Rattle.std.specs.Prelude.{ℕ, zero, suc, ◌+◌, ◌*◌, Bool, true, false, cond, not, ◌&&◌, List, [], ◌∷◌, length, take, Some, None, Ok, Err, Option, Result, ◌==◌, nat_le, nat_lt, slice_index}
use Rattle.std.specs.Option.{option_map, unwrap_or}
use Rattle.signals.specs.Coding.{decoded}
use Rattle.signals.specs.Signals.{clean, zero_of}
use Rattle.signals.specs.Terminals.{terminal_type}
use Rattle.signals.specs.declared.signal.Signal.{Signal}
use Rattle.signals.specs.declared.signal.SignalType.{SignalType}
use Rattle.blocks.specs.Meanings.{Shape, same_type}
use Rattle.charts.specs.declared.page.Source.{Source}
use Rattle.charts.specs.declared.page.OutputRecord.{OutputRecord}
use Rattle.charts.specs.Pages.{Block, Page, Shapes, wire_type}

-- a fault: its number, and its place, the offset of the record's first byte
abbrev pub Fault : Type 0
Fault = ℕ × ℕ

-- ---- records and pins, as bytes

-- a record: its kind, then a body whose length the kind fixes
pub record Raw : Type 0 where
  pub kind : ℕ
  pub body : List ℕ

abbrev pub raw_bytes : Raw → List ℕ
raw_bytes r = r.kind ∷ r.body

-- kind 0 sets an output terminal, any other is a block
abbrev pub is_block : ℕ → Bool
is_block kind = not (kind == 0)

-- the types of the pins of a kind
abbrev pub pins_of : Option Shape → List SignalType
pins_of None = []
pins_of (Some s) = s.pins

-- the length of a kind's body, none for a kind without a shape: three bytes of an output record, five a pin of a block
abbrev pub body_length : Shapes → ℕ → Option ℕ
body_length shapes kind = cond (is_block kind) (option_map (λ s. 5 * length s.pins) (shapes kind)) (Some 3)

-- the terminal, the block and the output of an output record
abbrev pub output_in : List ℕ → OutputRecord
output_in body = record { terminal = slice_index body 0; block = slice_index body 1; output = slice_index body 2 }

-- the five bytes of a pin: a tag and four more
pub record Pin : Type 0 where
  pub tag : ℕ
  pub first : ℕ
  pub second : ℕ
  pub third : ℕ
  pub fourth : ℕ

abbrev pub pins_in : List ℕ → List Pin
pins_in [] = []
pins_in (t ∷ []) = []
pins_in (t ∷ a ∷ []) = []
pins_in (t ∷ a ∷ b ∷ []) = []
pins_in (t ∷ a ∷ b ∷ c ∷ []) = []
pins_in (t ∷ a ∷ b ∷ c ∷ d ∷ more) = record { tag = t; first = a; second = b; third = c; fourth = d } ∷ pins_in more

-- ---- walk one

-- what walk one has met: how many blocks, and the terminal of the last output record
pub record Met : Type 0 where
  pub blocks : ℕ
  pub last : Option ℕ

abbrev pub nothing_met : Met
nothing_met = record { blocks = 0; last = None }

-- an output record was met, and its terminal is not below t
abbrev pub reached : Option ℕ → ℕ → Bool
reached None t = false
reached (Some u) t = nat_le t u

abbrev pub met_output : Option ℕ → Bool
met_output None = false
met_output (Some u) = true

-- a block after an output record, or terminals not rising
abbrev pub misplaced : Met → ℕ → List ℕ → Bool
misplaced met kind rest = cond (is_block kind) (met_output met.last) (reached met.last (slice_index rest 0))

-- a block beyond the limit
abbrev pub over : ℕ → Met → ℕ → Bool
over limit met kind = is_block kind && nat_le limit met.blocks

-- the number of the first test that a record fails, of 2, 1, 8 and 3: its kind, what follows it, and the length of its body
abbrev pub fault_one : ℕ → Met → ℕ → List ℕ → Option ℕ → Option ℕ
fault_one limit met kind rest None = Some 2
fault_one limit met kind rest (Some n) = cond (nat_lt (length rest) n) (Some 1) (cond (misplaced met kind rest) (Some 8) (cond (over limit met kind) (Some 3) None))

abbrev pub then_met : Met → ℕ → List ℕ → Met
then_met met kind rest = cond (is_block kind) (record { blocks = suc met.blocks; last = met.last }) (record { blocks = met.blocks; last = Some (slice_index rest 0) })

-- one record more, in front of what the walk gives for the rest
abbrev pub after_record : ℕ → Raw → Option ℕ → Result (List Raw) Fault → Result (List Raw) Fault
after_record place r (Some n) more = Err (n, place)
after_record place r None (Err f) = Err f
after_record place r None (Ok rs) = Ok (r ∷ rs)

-- The records of a chart or the first fault of walk one: `skip` bytes of a body are still to be passed over.
abbrev pub walk_one : Shapes → ℕ → Met → (skip place : ℕ) → List ℕ → Result (List Raw) Fault
walk_one shapes limit met skip place [] = Ok []
walk_one shapes limit met (suc skip) place (b ∷ rest) = walk_one shapes limit met skip (suc place) rest
walk_one shapes limit met zero place (kind ∷ rest) =
    let n = body_length shapes kind in
    after_record place (record { kind = kind; body = take (unwrap_or n 0) rest }) (fault_one limit met kind rest n)
    (walk_one shapes limit (then_met met kind rest) (unwrap_or n 0) (suc place) rest)

-- ---- walk two

-- 5 for what is missing, 6 for another type
abbrev pub fault_of_type : SignalType → Option SignalType → Option ℕ
fault_of_type t None = Some 5
fault_of_type t (Some u) = cond (same_type t u) None (Some 6)

-- 7 for a constant outside its type, or a REAL that is not clean
abbrev pub fault_of_constant : Option Signal → Option ℕ
fault_of_constant None = Some 7
fault_of_constant (Some x) = cond (clean x) None (Some 7)

abbrev pub pin_bytes : Pin → List ℕ
pin_bytes p = p.first ∷ p.second ∷ p.third ∷ p.fourth ∷ []

-- the number of the first test that a pin of a type fails, of 4, 5, 6 and 7, given the kinds of the chart's blocks
abbrev pub fault_of_pin : Shapes → List ℕ → SignalType → Pin → Option ℕ
fault_of_pin shapes kinds t p =
    cond (p.tag == 0) (fault_of_constant (decoded t (pin_bytes p)))
    (cond (p.tag == 1) (cond (p.first == 0 && p.second == 0 && p.third == 0) (fault_of_type t (terminal_type p.fourth)) (Some 4))
    (cond (p.tag == 2) (cond (p.first == 0 && p.second == 0) (fault_of_type t (wire_type shapes kinds p.third p.fourth)) (Some 4))
    (Some 4)))

abbrev pub first_of : Option ℕ → Option ℕ → Option ℕ
first_of None more = more
first_of (Some n) more = Some n

abbrev pub fault_of_pins : Shapes → List ℕ → List SignalType → List Pin → Option ℕ
fault_of_pins shapes kinds [] ps = None
fault_of_pins shapes kinds (t ∷ ts) [] = None
fault_of_pins shapes kinds (t ∷ ts) (p ∷ ps) = first_of (fault_of_pin shapes kinds t p) (fault_of_pins shapes kinds ts ps)

-- an output record: 5 where the terminal, the block or the output is missing, then 6
abbrev pub fault_of_output : Option SignalType → Option SignalType → Option ℕ
fault_of_output None u = Some 5
fault_of_output (Some t) u = fault_of_type t u

abbrev pub fault_two : Shapes → List ℕ → Raw → Option ℕ
fault_two shapes kinds r =
    cond (is_block r.kind) (fault_of_pins shapes kinds (pins_of (shapes r.kind)) (pins_in r.body))
    (fault_of_output (terminal_type (output_in r.body).terminal) (wire_type shapes kinds (output_in r.body).block (output_in r.body).output))

abbrev pub at_place : ℕ → Option ℕ → Option Fault → Option Fault
at_place place None more = more
at_place place (Some n) more = Some (n, place)

abbrev pub walk_two : Shapes → List ℕ → ℕ → List Raw → Option Fault
walk_two shapes kinds place [] = None
walk_two shapes kinds place (r ∷ rs) = at_place place (fault_two shapes kinds r) (walk_two shapes kinds (place + length (raw_bytes r)) rs)

-- ---- the page of a chart without a fault

abbrev pub source_of : SignalType → Pin → Source
source_of t p =
    cond (p.tag == 0) (Source.Constant (unwrap_or (decoded t (pin_bytes p)) (zero_of t)))
    (cond (p.tag == 1) (Source.Terminal p.fourth) (Source.Output p.third p.fourth))

abbrev pub sources_of : List SignalType → List Pin → List Source
sources_of [] ps = []
sources_of (t ∷ ts) [] = []
sources_of (t ∷ ts) (p ∷ ps) = source_of t p ∷ sources_of ts ps

abbrev pub blocks_in : Shapes → List Raw → List Block
blocks_in shapes [] = []
blocks_in shapes (r ∷ rs) =
    cond (is_block r.kind) (record { kind = r.kind; pins = sources_of (pins_of (shapes r.kind)) (pins_in r.body) } ∷ blocks_in shapes rs) (blocks_in shapes rs)

abbrev pub outputs_in : List Raw → List OutputRecord
outputs_in [] = []
outputs_in (r ∷ rs) = cond (is_block r.kind) (outputs_in rs) (output_in r.body ∷ outputs_in rs)

abbrev pub page_in : Shapes → List Raw → Page
page_in shapes rs = record { blocks = blocks_in shapes rs; outputs = outputs_in rs }

-- the kinds of the blocks among the records
abbrev pub kinds_in : List Raw → List ℕ
kinds_in [] = []
kinds_in (r ∷ rs) = cond (is_block r.kind) (r.kind ∷ kinds_in rs) (kinds_in rs)

-- ---- load

abbrev pub after_two : Page → Option Fault → Result Page Fault
after_two page None = Ok page
after_two page (Some f) = Err f

-- 9, with the place 0, where walk one has met no block; then walk two
abbrev pub with_blocks : Shapes → List Raw → List ℕ → Result Page Fault
with_blocks shapes rs [] = Err (9, 0)
with_blocks shapes rs (k ∷ ks) = after_two (page_in shapes rs) (walk_two shapes (k ∷ ks) 0 rs)

abbrev pub after_one : Shapes → Result (List Raw) Fault → Result Page Fault
after_one shapes (Err f) = Err f
after_one shapes (Ok rs) = with_blocks shapes rs (kinds_in rs)

-- the page of a chart, or its fault
abbrev pub load : Shapes → ℕ → List ℕ → Result Page Fault
load shapes limit chart = after_one shapes (walk_one shapes limit nothing_met 0 0 chart)
