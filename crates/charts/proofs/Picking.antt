-- Every list of calls has exactly one list of upstream calls. Assumes nothing.
use Rattle.std.proofs.Common.{◌≡◌, ℕ, List, [], ◌∷◌, Some, None, Option, refl, ap, ◌∙◌, arith}
use native.Mathlib.Decide.{map_dec, ℕ_discrete}
use Rattle.std.specs.List.{slice_get}
use Rattle.signals.specs.declared.signal.Signal.{Signal}
use Rattle.charts.specs.declared.call.Call.{Call}
use Rattle.charts.specs.declared.page.Source.{Source}
use Rattle.charts.specs.Pages.{Block, Page, source_in, source}
use Rattle.charts.specs.Upstream.{Upstream, UpstreamTerminal, UpstreamConstant, UpstreamCall, cycle, restart, sample, tune, UpstreamCalls, none, pick, pass}
use Rattle.charts.specs.Laws.{UpstreamCallsLaw}
use Rattle.charts.proofs.Places.{none_some}
use Rattle.charts.proofs.Reaching.{Found, find, both, is_upstream}

from_terminal : (t : ℕ) (s : Source) → Dec (s ≡ Source.Terminal t)
from_terminal t (Source.Constant x) = no (λ e. let z : ◌≡◌ {A = ℕ} 0 1 = cc in absurd (omega arith))
from_terminal t (Source.Terminal u) = map_dec (ap Source.Terminal) (λ w. let e : u ≡ t = cc in e) (ℕ_discrete u t)
from_terminal t (Source.Output v o) = no (λ e. let z : ◌≡◌ {A = ℕ} 0 1 = cc in absurd (omega arith))

from_constant : (s : Option Source) → Dec ((x : Signal) × (s ≡ Some (Source.Constant x)))
from_constant None = no (λ w. none_some w.1)
from_constant (Some (Source.Constant x)) = yes (x, refl)
from_constant (Some (Source.Terminal t)) = no (λ w. let z : ◌≡◌ {A = ℕ} 0 1 = cc w.1 in absurd (omega arith))
from_constant (Some (Source.Output v o)) = no (λ w. let z : ◌≡◌ {A = ℕ} 0 1 = cc w.1 in absurd (omega arith))

module _ (page : Page) (b : ℕ) where
  -- a block that is upstream, with a pin at terminal t
  abbrev Taps : ℕ → ℕ → Block → Type 0
  Taps t u k = Upstream page b u × Found k.pins (λ _ s. s ≡ Source.Terminal t)

  taps : (t u : ℕ) (k : Block) → Dec (Taps t u k)
  taps t u k = both (is_upstream page b u) (find k.pins (λ _ s. s ≡ Source.Terminal t) (λ _ s. from_terminal t s))

  tapped : (t : ℕ) → Found page.blocks (Taps t) → UpstreamTerminal page b t
  tapped t f = record { block = f.0; pin = f.3.1.0; upstream = f.3.0; feeds = ap (λ o. source_in o f.3.1.0) f.2 ∙ f.3.1.2 ∙ ap Some f.3.1.3 }

  tap : (t : ℕ) → UpstreamTerminal page b t → Found page.blocks (Taps t)
  tap t h = go (slice_get page.blocks h.block) refl h.feeds
    where
      go : (k : Option Block) → slice_get page.blocks h.block ≡ k → source_in k h.pin ≡ Some (Source.Terminal t) → Found page.blocks (Taps t)
      go None e s = none_some s
      go (Some k) e s = (h.block, k, e, (h.upstream, (h.pin, Source.Terminal t, s, refl)))

  is_upstream_terminal : (t : ℕ) → Dec (UpstreamTerminal page b t)
  is_upstream_terminal t = map_dec (tapped t) (tap t) (find page.blocks (Taps t) (taps t))

  is_upstream_constant : (u p : ℕ) → Dec (UpstreamConstant page b u p)
  is_upstream_constant u p =
      map_dec (λ w. record { present = w.1.0; upstream = w.0; feeds = w.1.1 }) (λ h. (h.upstream, (h.present, h.feeds)))
      (both (is_upstream page b u) (from_constant (source page u p)))

  sampled_there : (t : ℕ) (x : Signal) → UpstreamCall page b (Call.Sample t x) → UpstreamTerminal page b t
  sampled_there t x (sample h) = h

  tuned_there : (u p : ℕ) (x : Signal) → UpstreamCall page b (Call.Tune u p x) → UpstreamConstant page b u p
  tuned_there u p x (tune h) = h

  is_upstream_call : (c : Call) → Dec (UpstreamCall page b c)
  is_upstream_call (Call.Sample t x) = map_dec sample (sampled_there t x) (is_upstream_terminal t)
  is_upstream_call (Call.Tune u p x) = map_dec tune (tuned_there u p x) (is_upstream_constant u p)
  is_upstream_call Call.Cycle = yes cycle
  is_upstream_call Call.Restart = yes restart
  is_upstream_call (Call.Read u o) = no (λ h. elim h [ ])
  is_upstream_call (Call.Show t) = no (λ h. elim h [ ])
  is_upstream_call (Call.Save room) = no (λ h. elim h [ ])

  -- ---- the list

  abbrev Picks : List Call → Type 0
  Picks cs = (picked : List Call) × UpstreamCalls page b cs picked

  picks_more : (c : Call) (cs : List Call) → Dec (UpstreamCall page b c) → Picks cs → Picks (c ∷ cs)
  picks_more c cs (yes h) w = (c ∷ w.0, pick h w.1)
  picks_more c cs (no n) w = (w.0, pass n w.1)

  picks : (cs : List Call) → Picks cs
  picks [] = ([], none)
  picks (c ∷ cs) = picks_more c cs (is_upstream_call c) (picks cs)

  one_list : (cs ps qs : List Call) → UpstreamCalls page b cs ps → UpstreamCalls page b cs qs → qs ≡ ps
  one_list cs ps qs none none = refl
  one_list cs ps qs (pick {c} {cs = ds} {picked = us} h r) (pick {picked = vs} k s) = ap (λ xs. c ∷ xs) (one_list ds us vs r s)
  one_list cs ps qs (pick h r) (pass n s) = absurd (n h)
  one_list cs ps qs (pass n r) (pick h s) = absurd (n h)
  one_list cs ps qs (pass {cs = ds} n r) (pass m s) = one_list ds ps qs r s

pub every_list_picks : UpstreamCallsLaw
every_list_picks page b cs = let w = picks page b cs in (w.0, w.1, λ others h. one_list page b cs w.0 others w.1 h)
