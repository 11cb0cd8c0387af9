-- The meaning of the shipped library, and the worked examples of rules, charts and traces as one statement. Assumes nothing.
use Rattle.std.specs.Prelude.{◌≡◌, ℕ, List, [], ◌∷◌, Ok, Err}
use Rattle.blocks.specs.Meanings.{Meaning}
use Rattle.blocks.specs.Layers.{paired, cleaned_meaning}
use Rattle.rules.specs.Examples.{Examples}
use Rattle.kinds.specs.Libraries.{standard_meaning, house_meaning}
use Rattle.charts.specs.Pages.{block_limit}
use Rattle.charts.specs.Loading.{load}
use Rattle.charts.specs.Tracing.{trace}

-- the cleaner over the pair of the standard and the house library
abbrev pub shipped_meaning : Meaning
shipped_meaning = cleaned_meaning (paired standard_meaning house_meaning)

-- block 0 AND reads block 1 and the constant 1; block 1 NOT reads terminal 0
abbrev pub two_blocks : List ℕ
two_blocks =
    0x01 ∷ 0x02 ∷ 0x00 ∷ 0x00 ∷ 0x01 ∷ 0x00 ∷ 0x00 ∷ 0x00 ∷ 0x00 ∷ 0x00 ∷ 0x01 ∷ 0x03 ∷ 0x01 ∷ 0x00 ∷ 0x00 ∷ 0x00 ∷ 0x00 ∷ []

pub record WorkedExamples : Type 0 where
  -- limiter, sum, division, delay, counter and conversion
  pub rules : Examples
  -- an empty chart has no block: 9 at 0
  pub empty_chart : load shipped_meaning.shape block_limit [] ≡ Err (9, 0)
  -- `03 02 00 00 00`: a NOT that is cut short: 1 at 0
  pub cut_short : load shipped_meaning.shape block_limit (0x03 ∷ 0x02 ∷ 0x00 ∷ 0x00 ∷ 0x00 ∷ []) ≡ Err (1, 0)
  -- `03 02 00 00 01 00`: a NOT wired to block 1, which is missing: 5 at 0
  pub wired_to_nothing : load shipped_meaning.shape block_limit (0x03 ∷ 0x02 ∷ 0x00 ∷ 0x00 ∷ 0x01 ∷ 0x00 ∷ []) ≡ Err (5, 0)
  -- the trace of the AND lights itself alone: set 1, one lamp
  pub trace_of_and : trace shipped_meaning block_limit two_blocks 0 ≡ Ok (1, 1)
  -- the trace of the NOT lights both: set 3, two lamps
  pub trace_of_not : trace shipped_meaning block_limit two_blocks 1 ≡ Ok (3, 2)
