-- Trace: which blocks a signal of one block can reach, found by lamps. Assumes nothing.
use Rattle.std.specs.Prelude.{◌≡◌, ℕ, zero, suc, ◌+◌, ◌*◌, ◌/◌, ◌%◌, ◌^◌, ◌<◌, Bool, true, cond, ◌&&◌, List, [], ◌∷◌, map, length, ℤ, pos, Some, Ok, Err, Result, count_ones, from_bits, int_le, nat_lt, slice_index_or, slice_set}
use Rattle.std.specs.Float.{binary32}
use Rattle.std.specs.Float.Ieee.{eq}
use Rattle.std.specs.List.{slice_get}
use Rattle.signals.specs.Signals.{type_of, zero_of, one_of}
use Rattle.signals.specs.declared.signal.Signal.{Signal}
use Rattle.blocks.specs.Meanings.{Meaning}
use Rattle.blocks.specs.Layers.{lamp_meaning}
use Rattle.charts.specs.declared.page.Source.{Source}
use Rattle.charts.specs.Pages.{Page}
use Rattle.charts.specs.Loading.{Fault, load}
use Rattle.charts.specs.Upstream.{Upstream}
use Rattle.charts.specs.Boxes.{Box, made, cycled}

-- constants at the zero of their type
abbrev pub zeroed_source : Source → Source
zeroed_source (Source.Constant x) = Source.Constant (zero_of (type_of x))
zeroed_source (Source.Terminal t) = Source.Terminal t
zeroed_source (Source.Output b o) = Source.Output b o

abbrev pub zeroed : Page → Page
zeroed page = record { blocks = map (λ b. record { kind = b.kind; pins = map zeroed_source b.pins }) page.blocks; outputs = page.outputs }

-- cells at the one of their type
abbrev pub lighted : List Signal → List Signal
lighted = map (λ c. one_of (type_of c))

-- the box that a trace of block t starts from: over the lamp layer, constants and cells zero, the cells of block t at 1
abbrev pub trace_box : Meaning → Page → ℕ → Box
trace_box m page t =
    let x = made (lamp_meaning m) (zeroed page) in
    record { page = x.page; cells = slice_set x.cells t (lighted (slice_index_or x.cells t [])); terminals = x.terminals }

abbrev pub cycles : Meaning → ℕ → Box → Box
cycles m zero x = x
cycles m (suc n) x = cycled m (cycles m n x)

-- the box at the end of a trace's run of n cycles
abbrev pub traced : Meaning → Page → ℕ → ℕ → Box
traced m page t n = cycles (lamp_meaning m) n (trace_box m page t)

-- ---- the lamps

abbrev pub is_one_number : ℤ → Bool
is_one_number n = int_le n (pos 1) && int_le (pos 1) n

abbrev pub is_one : Signal → Bool
is_one (Signal.Bool b) = b
is_one (Signal.Int n) = is_one_number n
is_one (Signal.Dint n) = is_one_number n
is_one (Signal.Real x) = eq x (from_bits binary32 0x3F800000)

-- a block is lit if its cells are 1
abbrev pub lit_block : List Signal → Bool
lit_block [] = true
lit_block (c ∷ cs) = is_one c && lit_block cs

abbrev pub lamps : Box → List Bool
lamps x = map lit_block x.cells

abbrev pub Lit : Box → ℕ → Type 0
Lit x b = slice_get (lamps x) b ≡ Some true

-- the set of lit blocks, bit b for block b, and the number of lamps, one for each lit block
abbrev pub set_of : List Bool → ℕ
set_of [] = 0
set_of (l ∷ ls) = cond l 1 0 + 2 * set_of ls

abbrev pub number_lit : List Bool → ℕ
number_lit [] = 0
number_lit (l ∷ ls) = cond l 1 0 + number_lit ls

-- ---- trace

abbrev pub trace_answer : Meaning → Page → ℕ → ℕ × ℕ
trace_answer m page t = let ls = lamps (traced m page t (length page.blocks)) in (set_of ls, number_lit ls)

abbrev pub trace_of : Meaning → ℕ → Result Page Fault → Result (ℕ × ℕ) Fault
trace_of m t (Err f) = Err f
trace_of m t (Ok page) = cond (nat_lt t (length page.blocks)) (Ok (trace_answer m page t)) (Err (10, 0))

-- Trace takes a library, a chart and a block: load's refusals first, then 10 with the place 0; it answers the set and the number of lamps after as many cycles as there are blocks.
abbrev pub trace : Meaning → ℕ → List ℕ → ℕ → Result (ℕ × ℕ) Fault
trace m limit chart t = trace_of m t (load (lamp_meaning m).shape limit chart)

-- ---- the law of a trace, in the subject's words, of a run of n cycles

abbrev pub Bit : ℕ → ℕ → Type 0
Bit word b = word / 2 ^ b % 2 ≡ 1

pub record TraceLaw (m : Meaning) (page : Page) (t n : ℕ) : Type 0 where
  -- a block is lit exactly when it has the traced one upstream
  pub lit_upstream : (b : ℕ) → b < length page.blocks → Lit (traced m page t n) b → Upstream page b t
  pub upstream_lit : (b : ℕ) → b < length page.blocks → Upstream page b t → Lit (traced m page t n) b
  -- one lamp for each block
  pub each_block : length (lamps (traced m page t n)) ≡ length page.blocks
  -- the set has bit b exactly for the lit blocks b
  pub bit_lit : (b : ℕ) → Bit (set_of (lamps (traced m page t n))) b → Lit (traced m page t n) b
  pub lit_bit : (b : ℕ) → Lit (traced m page t n) b → Bit (set_of (lamps (traced m page t n))) b
  pub within : set_of (lamps (traced m page t n)) < 2 ^ length page.blocks
  -- the number of lamps is that of the lit blocks and of the set's ones
  pub count : number_lit (lamps (traced m page t n)) ≡ count_ones (set_of (lamps (traced m page t n)))
  -- the blocks that are lit after as many cycles as there are blocks, and no others
  pub same_set : set_of (lamps (traced m page t n)) ≡ set_of (lamps (traced m page t (length page.blocks)))
