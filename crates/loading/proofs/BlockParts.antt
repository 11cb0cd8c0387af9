-- The parts of a block that a library is asked for: its pins and their sources, and its starting cells. Assumes nothing.
use Rattle.std.proofs.Common.{◌≡◌, ℕ, zero, suc, ◌+◌, ◌/◌, ◌<◌, ◌≤◌, List, [], ◌∷◌, ◌++◌, map, length, get_or, take, drop, Some, None, Option, sym, refl, ap, ◌∙◌, add-one, arith}
use Rattle.std.proofs.lemmas.List.{append_assoc, append-nil, drop_all, take_all}
use Rattle.std.specs.List.{slice_get}
use Rattle.std.specs.Simd.{first_chunks}
use Rattle.signals.specs.declared.signal.Signal.{Signal}
use Rattle.signals.specs.declared.signal.SignalType.{SignalType}
use Rattle.blocks.specs.Meanings.{Shape, Meaning, with_shape, start_of, pin_type_of}
use Rattle.charts.specs.Boxes.{starting, starting_as}
use Rattle.charts.specs.Loading.{pins_of, source_of, sources_of}
use Rattle.charts.specs.declared.page.Source.{Source}
use Rattle.charts.proofs.Places.{nth_within}
use Rattle.loading.specs.Built.{sources_in}
use Rattle.loading.specs.Walks.{pin_of}
use Rattle.loading.proofs.Pins.{pins_by_fives, next_five}

-- ---- lists

-- past the end
nth_none : {X : Type 0} (xs : List X) (n : ℕ) → slice_get xs n ≡ None → length xs ≤ n
nth_none [] n e = omega arith
nth_none (x ∷ xs) zero e = let z : ◌≡◌ {A = ℕ} 0 1 = cc in absurd (omega arith)
nth_none (x ∷ xs) (suc n) e = let h = nth_none xs n e in omega arith

take_next : {X : Type 0} (xs : List X) (n : ℕ) (x : X) → slice_get xs n ≡ Some x → take (n + 1) xs ≡ take n xs ++ x ∷ []
take_next {X = X} xs n x e = rw add-one (go xs n e)
  where
    go : (ys : List X) (k : ℕ) → slice_get ys k ≡ Some x → take (suc k) ys ≡ take k ys ++ x ∷ []
    go [] k q = let z : ◌≡◌ {A = ℕ} 0 1 = cc (q) in absurd (omega arith)
    go (y ∷ ys) zero q = cc (q)
    go (y ∷ ys) (suc k) q = ap (λ l. y ∷ l) (go ys k q)

drop_next : {X : Type 0} (xs : List X) (n : ℕ) (x : X) → slice_get xs n ≡ Some x → drop n xs ≡ x ∷ drop (n + 1) xs
drop_next {X = X} xs n x e = rw add-one (go xs n e)
  where
    go : (ys : List X) (k : ℕ) → slice_get ys k ≡ Some x → drop k ys ≡ x ∷ drop (suc k) ys
    go [] k q = let z : ◌≡◌ {A = ℕ} 0 1 = cc (q) in absurd (omega arith)
    go (y ∷ ys) zero q = cc (q)
    go (y ∷ ys) (suc k) q = go ys k q

-- ---- what a kind has

start_nth : (m : Meaning) (kind n : ℕ) → start_of m kind n ≡ slice_get (starting m kind) n
start_nth m kind n = go (m.shape kind)
  where
    go : (o : Option Shape) → with_shape o (λ s. slice_get (m.start kind) n) ≡ slice_get (starting_as o (m.start kind)) n
    go None = refl
    go (Some s) = refl

pin_nth : (m : Meaning) (kind n : ℕ) → pin_type_of m kind n ≡ slice_get (pins_of (m.shape kind)) n
pin_nth m kind n = go (m.shape kind)
  where
    go : (o : Option Shape) → with_shape o (λ s. slice_get s.pins n) ≡ slice_get (pins_of o) n
    go None = refl
    go (Some s) = refl

-- ---- starting cells, one after the other

-- the library is asked for the cell at k, the number of cells so far
module _ (m : Meaning) (kind k n : ℕ) (k_is : k ≡ n) where
  asked_cell : (o : Option Signal) → o ≡ start_of m kind k → slice_get (starting m kind) n ≡ o
  asked_cell o e = sym (e ∙ start_nth m kind k ∙ ap (slice_get (starting m kind)) k_is)

  pub cell_within : (x : Signal) → Some x ≡ start_of m kind k → n < length (starting m kind)
  cell_within x e = nth_within (starting m kind) n (asked_cell (Some x) e)

  pub cell_more : (x : Signal) (n' : ℕ) (xs xs' : List Signal) → Some x ≡ start_of m kind k → xs ≡ take n (starting m kind) → n' ≡ n + 1 → xs' ≡ xs ++ x ∷ [] → xs' ≡ take n' (starting m kind)
  cell_more x n' xs xs' e inv n'_is xs'_is =
      xs'_is ∙ ap (λ l. l ++ x ∷ []) inv ∙ sym (take_next (starting m kind) n x (asked_cell (Some x) e)) ∙ ap (λ l. take l (starting m kind)) (sym n'_is)

  pub cells_all : (xs : List Signal) → None ≡ start_of m kind k → xs ≡ take n (starting m kind) → xs ≡ starting m kind
  cells_all xs e inv = inv ∙ take_all n (starting m kind) (nth_none (starting m kind) n (asked_cell None e))

-- ---- pins, one after the other

no_sources : (ts : List SignalType) → sources_of ts [] ≡ []
no_sources [] = refl
no_sources (t ∷ ts) = refl

module _ (m : Meaning) (kind : ℕ) (pins : List (List ℕ)) (all : List Source) where
  -- these sources, and what the pins from one on give, are all
  abbrev pub SourcesLeft : List Source → ℕ → Type 0
  SourcesLeft xs n = xs ++ sources_of (drop n (pins_of (m.shape kind))) (map pin_of (drop n pins)) ≡ all

  module _ (n : ℕ) (xs : List Source) (left : SourcesLeft xs n) where
    asked_pin : (o : Option SignalType) → o ≡ pin_type_of m kind n → slice_get (pins_of (m.shape kind)) n ≡ o
    asked_pin o e = sym (e ∙ pin_nth m kind n)

    pub pin_more : (pin d : List ℕ) → pin ≡ get_or pins n d → n < length pins → (t : SignalType) → Some t ≡ pin_type_of m kind n → (x : Source) → x ≡ source_of t (pin_of pin)
        → (xs' : List Source) → xs' ≡ xs ++ x ∷ [] → SourcesLeft xs' (n + 1)
    pin_more pin d pin_is within t e x x_is xs' xs'_is =
        let ts = pins_of (m.shape kind) in
        let next = sym (drop_next ts n t (asked_pin (Some t) e)) in
        let five = sym (next_five pins n d within) in
        ap (λ ys. ys ++ sources_of (drop (n + 1) ts) (map pin_of (drop (n + 1) pins))) xs'_is
        ∙ append_assoc xs (x ∷ []) (sources_of (drop (n + 1) ts) (map pin_of (drop (n + 1) pins)))
        ∙ ap (λ y. xs ++ y ∷ sources_of (drop (n + 1) ts) (map pin_of (drop (n + 1) pins))) (x_is ∙ ap (λ p. source_of t (pin_of p)) pin_is)
        ∙ (λ i. xs ++ sources_of (next i) (map pin_of (five i)))
        ∙ left

    pub pins_out : None ≡ pin_type_of m kind n → xs ≡ all
    pins_out e =
        let ts = pins_of (m.shape kind) in
        let over = drop_all n ts (nth_none ts n (asked_pin None e)) in
        sym (append-nil xs) ∙ ap (λ us. xs ++ sources_of us (map pin_of (drop n pins))) (sym over) ∙ left

    pub pins_end : length pins ≤ n → xs ≡ all
    pins_end l =
        let ts = drop n (pins_of (m.shape kind)) in
        sym (append-nil xs) ∙ ap (λ ys. xs ++ ys) (sym (ap (λ ps. sources_of ts (map pin_of ps)) (drop_all n pins l) ∙ no_sources ts)) ∙ left

pub pins_start : (m : Meaning) (kind : ℕ) (body : List ℕ) (pins : List (List ℕ)) → pins ≡ first_chunks 5 (length body / 5) body → (xs : List Source) → xs ≡ [] → SourcesLeft m kind pins (sources_in m kind body) xs 0
pins_start m kind body pins p xs e = ap (λ ys. ys ++ sources_of (pins_of (m.shape kind)) (map pin_of pins)) e ∙ ap (sources_of (pins_of (m.shape kind))) (sym (pins_by_fives body pins p))
