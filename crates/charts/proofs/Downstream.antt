-- Lamps that spread from a block light exactly what has it upstream. Assumes nothing.
use Rattle.std.proofs.Common.{◌≡◌, ℕ, zero, suc, Bool, true, false, ◌||◌, ◌⊎◌, List, [], ◌∷◌, length, get_or, set, Some, None, Option, sym, refl, ap, ◌∙◌, subst, inl, inr, true≢false}
use Rattle.std.specs.List.{slice_get}
use Rattle.charts.specs.declared.page.Source.{Source}
use Rattle.charts.specs.Pages.{Block, Page, source, source_in}
use Rattle.charts.specs.Upstream.{Upstream, itself, wired}
use Rattle.charts.proofs.Lamps.{any_brings, spread_at, spread_to, spread, spreads, On, spread_lights, Settled}
use Rattle.charts.proofs.Places.{none_some}

-- ---- only what has the block upstream

pub on_before : (ls : List Bool) (i : ℕ) (v : Bool) (j : ℕ) → On (set ls i v) j → On ls j ⊎ ((i ≡ j) × (v ≡ true))
on_before [] i v j e = inl e
on_before (l ∷ ls) zero v zero e = inr (refl, e)
on_before (l ∷ ls) zero v (suc j) e = inl e
on_before (l ∷ ls) (suc i) v zero e = inl e
on_before (l ∷ ls) (suc i) v (suc j) e = go (on_before ls i v j e)
  where
    go : On ls j ⊎ ((i ≡ j) × (v ≡ true)) → On ls j ⊎ ((suc i ≡ suc j) × (v ≡ true))
    go (inl on) = inl on
    go (inr h) = inr (ap suc h.0, h.1)

either : (a b : Bool) → (a || b) ≡ true → (a ≡ true) ⊎ (b ≡ true)
either true b e = inl refl
either false b e = inr e

-- a pin wired to a lit block
abbrev LitWire : List Bool → List Source → Type 0
LitWire ls ss = (p : ℕ) × (v : ℕ) × (o : ℕ) × (slice_get ss p ≡ Some (Source.Output v o)) × On ls v

from_wire : (ls : List Bool) (ss : List Source) → any_brings ls ss ≡ true → LitWire ls ss
from_wire ls [] e = absurd (true≢false (sym e))
from_wire ls (Source.Constant x ∷ ss) e = let w = from_wire ls ss e in (suc w.0, w.1, w.2, w.3, w.4)
from_wire ls (Source.Terminal t ∷ ss) e = let w = from_wire ls ss e in (suc w.0, w.1, w.2, w.3, w.4)
from_wire ls (Source.Output v o ∷ ss) e = go (either (get_or ls v false) (any_brings ls ss) e) (from_wire ls ss)
  where
    go : On ls v ⊎ (any_brings ls ss ≡ true) → (any_brings ls ss ≡ true → LitWire ls ss) → LitWire ls (Source.Output v o ∷ ss)
    go (inl on) more = (0, v, o, refl, on)
    go (inr h) more = let w = more h in (suc w.0, w.1, w.2, w.3, w.4)

module _ (page : Page) where
  -- a wire more at the block's own end
  before : (i p c o t : ℕ) → source page i p ≡ Some (Source.Output c o) → Upstream page c t → Upstream page i t
  before i p c o t e itself = wired p itself e
  before i p c o t e (wired q up wire) = wired q (before i p c o _ e up) wire

  -- every lit block has t upstream
  abbrev Within : ℕ → List Bool → Type 0
  Within t ls = (b : ℕ) → On ls b → Upstream page b t

  within_at : (t i : ℕ) (o : Option Block) → slice_get page.blocks i ≡ o → (ls : List Bool) → Within t ls → Within t (spread_at o i ls)
  within_at t i None at ls h = h
  within_at t i (Some k) at ls h = λ b on. go b (on_before ls i _ b on)
    where
      lit : (any_brings ls k.pins ≡ true) ⊎ On ls i → Upstream page i t
      lit (inl brought) =
          let w = from_wire ls k.pins brought in
          before i w.0 w.1 w.2 t (ap (λ x. source_in x w.0) at ∙ w.3) (h w.1 w.4)
      lit (inr on) = h i on

      go : (b : ℕ) → On ls b ⊎ ((i ≡ b) × ((any_brings ls k.pins || get_or ls i false) ≡ true)) → Upstream page b t
      go b (inl on) = h b on
      go b (inr e) = subst (λ j. Upstream page j t) e.0 (lit (either (any_brings ls k.pins) (get_or ls i false) e.1))

  within_to : (t : ℕ) (ls : List Bool) → Within t ls → (n : ℕ) → Within t (spread_to page.blocks ls n)
  within_to t ls h zero = h
  within_to t ls h (suc n) = within_at t n (slice_get page.blocks n) refl (spread_to page.blocks ls n) (within_to t ls h n)

  pub lit_upstream : (t : ℕ) (ls : List Bool) → ((b : ℕ) → On ls b → Upstream page b t) → (n : ℕ) (b : ℕ) → On (spreads page.blocks n ls) b → Upstream page b t
  lit_upstream t ls h zero = h
  lit_upstream t ls h (suc n) = within_to t (spreads page.blocks n ls) (lit_upstream t ls h n) (length page.blocks)

  -- ---- all that has the block upstream

  block_of : (u p : ℕ) (s : Source) (o : Option Block) → slice_get page.blocks u ≡ o → source_in o p ≡ Some s → (b : Block) × (slice_get page.blocks u ≡ Some b) × (slice_get b.pins p ≡ Some s)
  block_of u p s None at e = none_some e
  block_of u p s (Some b) at e = (b, at, e)

  -- settled lamps are closed under wires
  pub upstream_lit : (ls : List Bool) → length ls ≡ length page.blocks → Settled page.blocks ls → (b v : ℕ) → Upstream page b v → On ls v → On ls b
  upstream_lit ls n still b v itself on = on
  upstream_lit ls n still b v (wired {u} {v = w} {o} p up wire) on =
      let k = block_of u p (Source.Output w o) (slice_get page.blocks u) refl wire in
      let lit : On (spread page.blocks ls) u = spread_lights page.blocks ls n u k.0 p w o k.1 k.2 on in
      upstream_lit ls n still b u up (subst (λ xs. On xs u) still lit)
