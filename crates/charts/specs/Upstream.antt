-- Upstream: what a block's cells can depend on, and the calls that reach it. Assumes nothing.
use Rattle.std.specs.Prelude.{◌≡◌, ℕ, List, [], ◌∷◌, Some}
use Rattle.signals.specs.declared.signal.Signal.{Signal}
use Rattle.charts.specs.declared.call.Call.{Call}
use Rattle.charts.specs.declared.page.Source.{Source}
use Rattle.charts.specs.Pages.{Page, source}

-- The upstream of block b: the least set that holds b and every block with an output wired to a pin of a block in it.
pub data Upstream (page : Page) (b : ℕ) : ℕ → Type 0 where
  itself : Upstream page b b
  wired : {u v o : ℕ} (p : ℕ) → Upstream page b u → source page u p ≡ Some (Source.Output v o) → Upstream page b v

-- a terminal or a constant at a pin of an upstream block
pub record UpstreamTerminal (page : Page) (b t : ℕ) : Type 0 where
  pub block : ℕ
  pub pin : ℕ
  pub upstream : Upstream page b block
  pub feeds : source page block pin ≡ Some (Source.Terminal t)

pub record UpstreamConstant (page : Page) (b u p : ℕ) : Type 0 where
  pub present : Signal
  pub upstream : Upstream page b u
  pub feeds : source page u p ≡ Some (Source.Constant present)

-- The calls that reach it: cycles, restarts, samples of upstream terminals and tunes of upstream constants.
pub data UpstreamCall (page : Page) (b : ℕ) : Call → Type 0 where
  cycle : UpstreamCall page b Call.Cycle
  restart : UpstreamCall page b Call.Restart
  sample : {t : ℕ} {x : Signal} → UpstreamTerminal page b t → UpstreamCall page b (Call.Sample t x)
  tune : {u p : ℕ} {x : Signal} → UpstreamConstant page b u p → UpstreamCall page b (Call.Tune u p x)

-- the upstream calls of a list, in their order, refused ones too
pub data UpstreamCalls (page : Page) (b : ℕ) : List Call → List Call → Type 0 where
  none : UpstreamCalls page b [] []
  pick : {c : Call} {cs picked : List Call} → UpstreamCall page b c → UpstreamCalls page b cs picked → UpstreamCalls page b (c ∷ cs) (c ∷ picked)
  pass : {c : Call} {cs picked : List Call} → (UpstreamCall page b c → ⊥) → UpstreamCalls page b cs picked → UpstreamCalls page b (c ∷ cs) picked

-- the same call with the same arguments
abbrev pub SameCall : Call → Call → Type 0
SameCall c d = c ≡ d

-- as many calls, and each pair in turn the same
pub data Alike : List Call → List Call → Type 0 where
  none : Alike [] []
  pair : {c d : Call} {cs ds : List Call} → SameCall c d → Alike cs ds → Alike (c ∷ cs) (d ∷ ds)
