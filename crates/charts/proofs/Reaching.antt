-- Whether a block is upstream of another can be decided. Assumes nothing.
use Rattle.std.proofs.Common.{◌≡◌, ℕ, zero, suc, ◌<◌, ◌⊎◌, List, [], ◌∷◌, length, Some, None, Option, refl, ap, ◌∙◌, subst, inl, inr, arith}
use native.Mathlib.Decide.{map_dec, ℕ_discrete}
use Rattle.std.specs.List.{slice_get}
use Rattle.std.proofs.lemmas.Bool.{cases_eq}
use Rattle.charts.specs.declared.page.Source.{Source}
use Rattle.charts.specs.Pages.{Block, Page, source_in, source}
use Rattle.charts.specs.Upstream.{Upstream, itself, wired}
use Rattle.charts.proofs.Places.{none_some, nth_within}

-- ---- a place of a list

-- an element that fits with its place
abbrev pub Found : {X : Type 0} → List X → (ℕ → X → Type 0) → Type 0
Found {X} xs Q = (i : ℕ) × (x : X) × (slice_get xs i ≡ Some x) × Q i x

not_found : {X : Type 0} (x : X) (xs : List X) (Q : ℕ → X → Type 0) → (Q 0 x → ⊥) → (Found xs (λ i. Q (suc i)) → ⊥) → (i : ℕ) (y : X) → slice_get (x ∷ xs) i ≡ Some y → Q i y → ⊥
not_found x xs Q here later zero y e q = let h : y ≡ x = cc in here (subst (λ z. Q 0 z) h q)
not_found x xs Q here later (suc i) y e q = later (i, y, e, q)

find_more : {X : Type 0} (x : X) (xs : List X) (Q : ℕ → X → Type 0) → Dec (Q 0 x) → Dec (Found xs (λ i. Q (suc i))) → Dec (Found (x ∷ xs) Q)
find_more x xs Q (yes q) r = yes (0, x, refl, q)
find_more x xs Q (no n) (yes f) = yes (suc f.0, f.1, f.2, f.3)
find_more x xs Q (no n) (no g) = no (λ f. not_found x xs Q n g f.0 f.1 f.2 f.3)

pub find : {X : Type 0} (xs : List X) (Q : ℕ → X → Type 0) → ((i : ℕ) (x : X) → Dec (Q i x)) → Dec (Found xs Q)
find [] Q d = no (λ f. none_some f.2)
find (x ∷ xs) Q d = find_more x xs Q (d 0 x) (find xs (λ i. Q (suc i)) (λ i. d (suc i)))

-- ---- a wire

-- block u has a pin that is wired to block v
abbrev pub Wire : Page → ℕ → ℕ → Type 0
Wire page u v = (p : ℕ) × (o : ℕ) × (source page u p ≡ Some (Source.Output v o))

from_block : (v : ℕ) (s : Source) → Dec ((o : ℕ) × (s ≡ Source.Output v o))
from_block v (Source.Constant x) = no (λ w. let z : ◌≡◌ {A = ℕ} 0 1 = cc w.1 in absurd (omega arith))
from_block v (Source.Terminal t) = no (λ w. let z : ◌≡◌ {A = ℕ} 0 1 = cc w.1 in absurd (omega arith))
from_block v (Source.Output u o) = map_dec (λ e. (o, ap (λ k. Source.Output k o) e)) (λ w. let e : u ≡ v = cc w.1 in e) (ℕ_discrete u v)

wire_in : (v : ℕ) (b : Option Block) → Dec ((p : ℕ) × (o : ℕ) × (source_in b p ≡ Some (Source.Output v o)))
wire_in v None = no (λ w. none_some w.2)
wire_in v (Some b) =
    map_dec (λ f. (f.0, f.3.0, f.2 ∙ ap Some f.3.1)) (λ w. (w.0, Source.Output v w.1, w.2, (w.1, refl)))
    (find b.pins (λ _ s. (o : ℕ) × (s ≡ Source.Output v o)) (λ _ s. from_block v s))

is_wired : (page : Page) (u v : ℕ) → Dec (Wire page u v)
is_wired page u v = wire_in v (slice_get page.blocks u)

-- ---- ways through blocks below k

abbrev Reach : Page → ℕ → ℕ → ℕ → Type 0
Reach page zero u v = (u ≡ v) ⊎ Wire page u v
Reach page (suc k) u v = Reach page k u v ⊎ (Reach page k u k × Reach page k k v)

either : {A B : Type 0} → Dec A → Dec B → Dec (A ⊎ B)
either (yes a) e = yes (inl a)
either (no n) (yes b) = yes (inr b)
either (no n) (no m) = no (elim [ inl a ↦ n a | inr b ↦ m b ])

pub both : {A B : Type 0} → Dec A → Dec B → Dec (A × B)
both (yes a) (yes b) = yes (a, b)
both (yes a) (no n) = no (λ w. n w.1)
both (no n) e = no (λ w. n w.0)

reaches : (page : Page) (k u v : ℕ) → Dec (Reach page k u v)
reaches page zero u v = either (ℕ_discrete u v) (is_wired page u v)
reaches page (suc k) u v = either (reaches page k u v) (both (reaches page k u k) (reaches page k k v))

module _ (page : Page) where
  -- the upstream of a block upstream is upstream
  joined : (b u v : ℕ) → Upstream page b u → Upstream page u v → Upstream page b v
  joined b u v h itself = h
  joined b u v h (wired {u = w} p k e) = wired p (joined b u w h k) e

  reach_upstream : (k u v : ℕ) → Reach page k u v → Upstream page u v
  reach_upstream zero u v (inl e) = subst (λ w. Upstream page u w) e itself
  reach_upstream zero u v (inr w) = wired w.0 itself w.2
  reach_upstream (suc k) u v (inl r) = reach_upstream k u v r
  reach_upstream (suc k) u v (inr r) = joined u k v (reach_upstream k u k r.0) (reach_upstream k k v r.1)

  -- a step is a way
  step : (k u v : ℕ) → (u ≡ v) ⊎ Wire page u v → Reach page k u v
  step zero u v w = w
  step (suc k) u v w = inl (step k u v w)

  to_last : (k u : ℕ) → Reach page (suc k) u k → Reach page k u k
  to_last k u (inl r) = r
  to_last k u (inr r) = r.0

  from_last : (k v : ℕ) → Reach page (suc k) k v → Reach page k k v
  from_last k v (inl r) = r
  from_last k v (inr r) = r.1

  -- two ways that meet in a block below k are one
  abbrev Meets : ℕ → Type 0
  Meets k = (u w v : ℕ) → w < k → Reach page k u w → Reach page k w v → Reach page k u v

  meet_before : (k : ℕ) → Meets k → (u w v : ℕ) → w < k → Reach page (suc k) u w → Reach page (suc k) w v → Reach page (suc k) u v
  meet_before k m u w v l (inl r) (inl s) = inl (m u w v l r s)
  meet_before k m u w v l (inl r) (inr s) = inr (m u w k l r s.0, s.1)
  meet_before k m u w v l (inr r) (inl s) = inr (r.0, m k w v l r.1 s)
  meet_before k m u w v l (inr r) (inr s) = inr (r.0, s.1)

  meet_more : (k : ℕ) → Meets k → (u w v : ℕ) → w < suc k → (w ≡ k) ⊎ (w ≡ k → ⊥) → Reach page (suc k) u w → Reach page (suc k) w v → Reach page (suc k) u v
  meet_more k m u w v l (inl e) r s = inr (to_last k u (subst (λ x. Reach page (suc k) u x) e r), from_last k v (subst (λ x. Reach page (suc k) x v) e s))
  meet_more k m u w v l (inr n) r s = meet_before k m u w v (omega arith) r s

  meet : (k : ℕ) → Meets k
  meet zero u w v l r s = absurd (omega arith)
  meet (suc k) u w v l r s = meet_more k (meet k) u w v l (cases_eq w k) r s

  -- a block with a wire exists
  wire_within : (u v : ℕ) → Wire page u v → u < length page.blocks
  wire_within u v w = go (slice_get page.blocks u) refl w.2
    where
      go : (b : Option Block) → slice_get page.blocks u ≡ b → source_in b w.0 ≡ Some (Source.Output v w.1) → u < length page.blocks
      go None e s = none_some s
      go (Some b) e s = nth_within page.blocks u e

  upstream_reach : (b v : ℕ) → Upstream page b v → Reach page (length page.blocks) b v
  upstream_reach b v itself = step (length page.blocks) b b (inl refl)
  upstream_reach b v (wired {u = u} {o = o} p h e) =
      let w : Wire page u v = (p, o, e) in
      meet (length page.blocks) b u v (wire_within u v w) (upstream_reach b u h) (step (length page.blocks) u v (inr w))

  pub is_upstream : (b v : ℕ) → Dec (Upstream page b v)
  is_upstream b v = map_dec (reach_upstream (length page.blocks) b v) (upstream_reach b v) (reaches page (length page.blocks) b v)
