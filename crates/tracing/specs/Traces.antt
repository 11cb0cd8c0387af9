-- What a trace promises. Assumes nothing.
use Rattle.std.specs.Prelude.{◌≡◌, ℕ, ◌≤◌, List, length, Ok, Err, Result}
use Rattle.blocks.specs.Meanings.{Meaning}
use Rattle.charts.specs.Pages.{Page, block_limit}
use Rattle.charts.specs.Loading.{load}
use Rattle.charts.specs.Tracing.{trace, traced, lamps, set_of, number_lit, TraceLaw}
use Rattle.loading.specs.declared.fault.LoadError.{LoadError}
use Rattle.loading.specs.FaultNumbers.{fault_number}
use Rattle.tracing.specs.declared.trace.Trace.{Trace}
use Rattle.tracing.specs.declared.trace.TraceError.{TraceError}

-- the answer is that of the rules
abbrev pub Traced : Meaning → List ℕ → ℕ → Result Trace TraceError → Type 0
Traced m chart t (Ok a) = trace m block_limit chart t ≡ Ok (a.set, a.lamps)
Traced m chart t (Err (TraceError.Load (LoadError.Refused f place))) = trace m block_limit chart t ≡ Err (fault_number f, place)
Traced m chart t (Err TraceError.Missing) = trace m block_limit chart t ≡ Err (10, 0)
Traced m chart t (Err (TraceError.Load LoadError.Memory)) = Unit {0}

-- an answered trace, in the subject's words: of the chart's page and any number of cycles that is at least that of its blocks
pub record Reaches (m : Meaning) (chart : List ℕ) (t : ℕ) (a : Trace) : Type 0 where
  pub page : Page
  pub accepted : load m.shape block_limit chart ≡ Ok page
  pub lawful_run : (n : ℕ) → length page.blocks ≤ n → TraceLaw m page t n
  pub same_set : (n : ℕ) → length page.blocks ≤ n → a.set ≡ set_of (lamps (traced m page t n))
  pub same_lamps : (n : ℕ) → length page.blocks ≤ n → a.lamps ≡ number_lit (lamps (traced m page t n))

abbrev pub TracedLaw : Meaning → List ℕ → ℕ → Result Trace TraceError → Type 0
TracedLaw m chart t (Ok a) = Reaches m chart t a
TracedLaw m chart t (Err e) = Unit {0}
