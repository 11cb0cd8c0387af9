-- A page's wiring: what no call changes. Assumes nothing.
use Rattle.std.proofs.Common.{◌≡◌, ℕ, false, List, map, length, set, Some, None, Option, sym, refl, ap, ◌∙◌, arith}
use Rattle.std.specs.Option.{option_map}
use Rattle.std.specs.List.{slice_get}
use Rattle.std.proofs.lemmas.List.{length-map, map-set}
use Rattle.signals.specs.declared.signal.Signal.{Signal}
use Rattle.charts.specs.declared.page.Source.{Source}
use Rattle.charts.specs.Pages.{Block, Page, source_in, source}
use Rattle.charts.specs.Calls.{with_source, tuned_page}
use Rattle.charts.proofs.Places.{none_some, nth_map, set_held}

-- a source without its constant
abbrev pub blank : Source → Source
blank (Source.Constant x) = Source.Constant (Signal.Bool false)
blank (Source.Terminal t) = Source.Terminal t
blank (Source.Output b o) = Source.Output b o

abbrev blank_block : Block → Block
blank_block k = record { kind = k.kind; pins = map blank k.pins }

-- the blocks without their constants
abbrev pub wiring : Page → List Block
wiring page = map blank_block page.blocks

source_of_blank : (k : Option Block) (p : ℕ) → source_in (option_map blank_block k) p ≡ option_map blank (source_in k p)
source_of_blank None p = refl
source_of_blank (Some k) p = nth_map blank k.pins p

blank_source : (page : Page) (u p : ℕ) → source_in (slice_get (wiring page) u) p ≡ option_map blank (source page u p)
blank_source page u p = ap (λ k. source_in k p) (nth_map blank_block page.blocks u) ∙ source_of_blank (slice_get page.blocks u) p

-- ---- two pages with the same wiring

module _ (x y : Page) (same : wiring x ≡ wiring y) where
  pub as_many_blocks : length x.blocks ≡ length y.blocks
  as_many_blocks = sym (length-map x.blocks blank_block) ∙ ap length same ∙ length-map y.blocks blank_block

  blanked_alike : (u p : ℕ) → option_map blank (source x u p) ≡ option_map blank (source y u p)
  blanked_alike u p = sym (blank_source x u p) ∙ ap (λ ks. source_in (slice_get ks u) p) same ∙ blank_source y u p

  -- a block of the one stands in the other too, of the same kind
  pub same_kind : (u : ℕ) (k : Block) → slice_get x.blocks u ≡ Some k → (j : Block) × (slice_get y.blocks u ≡ Some j) × (j.kind ≡ k.kind)
  same_kind u k e = go (slice_get y.blocks u) refl
    where
      blanked : option_map blank_block (slice_get y.blocks u) ≡ Some (blank_block k)
      blanked = sym (nth_map blank_block y.blocks u) ∙ ap (λ ks. slice_get ks u) (sym same) ∙ nth_map blank_block x.blocks u ∙ ap (option_map blank_block) e

      go : (o : Option Block) → slice_get y.blocks u ≡ o → (j : Block) × (slice_get y.blocks u ≡ Some j) × (j.kind ≡ k.kind)
      go None h = none_some (sym (ap (option_map blank_block) h) ∙ blanked)
      go (Some j) h = (j, h, kind_of (sym (ap (option_map blank_block) h) ∙ blanked))
        where
          kind_of : Some (blank_block j) ≡ Some (blank_block k) → j.kind ≡ k.kind
          kind_of q = let r : blank_block j ≡ blank_block k = cc in ap (λ z. z.kind) r

unblank_output : (o : Option Source) (b c : ℕ) → option_map blank o ≡ Some (Source.Output b c) → o ≡ Some (Source.Output b c)
unblank_output None b c e = e
unblank_output (Some (Source.Constant x)) b c e = let z : ◌≡◌ {A = ℕ} 0 1 = cc in absurd (omega arith)
unblank_output (Some (Source.Terminal t)) b c e = e
unblank_output (Some (Source.Output u v)) b c e = e

unblank_terminal : (o : Option Source) (t : ℕ) → option_map blank o ≡ Some (Source.Terminal t) → o ≡ Some (Source.Terminal t)
unblank_terminal None t e = e
unblank_terminal (Some (Source.Constant x)) t e = let z : ◌≡◌ {A = ℕ} 0 1 = cc in absurd (omega arith)
unblank_terminal (Some (Source.Terminal u)) t e = e
unblank_terminal (Some (Source.Output u v)) t e = e

unblank_constant : (o : Option Source) → option_map blank o ≡ Some (Source.Constant (Signal.Bool false)) → (c : Signal) × (o ≡ Some (Source.Constant c))
unblank_constant None e = none_some e
unblank_constant (Some (Source.Constant x)) e = (x, refl)
unblank_constant (Some (Source.Terminal t)) e = let z : ◌≡◌ {A = ℕ} 0 1 = cc in absurd (omega arith)
unblank_constant (Some (Source.Output u v)) e = let z : ◌≡◌ {A = ℕ} 0 1 = cc in absurd (omega arith)

module _ (x y : Page) (same : wiring x ≡ wiring y) (u p : ℕ) where
  pub same_output : (b o : ℕ) → source x u p ≡ Some (Source.Output b o) → source y u p ≡ Some (Source.Output b o)
  same_output b o e = unblank_output (source y u p) b o (sym (blanked_alike x y same u p) ∙ ap (option_map blank) e)

  pub same_terminal : (t : ℕ) → source x u p ≡ Some (Source.Terminal t) → source y u p ≡ Some (Source.Terminal t)
  same_terminal t e = unblank_terminal (source y u p) t (sym (blanked_alike x y same u p) ∙ ap (option_map blank) e)

  pub same_constant : (c : Signal) → source x u p ≡ Some (Source.Constant c) → (d : Signal) × (source y u p ≡ Some (Source.Constant d))
  same_constant c e = unblank_constant (source y u p) (sym (blanked_alike x y same u p) ∙ ap (option_map blank) e)

-- ---- a tune of a constant

retuned_block : (k : Block) (p : ℕ) (c d : Signal) → slice_get k.pins p ≡ Some (Source.Constant c) → blank_block (record { kind = k.kind; pins = set k.pins p (Source.Constant d) }) ≡ blank_block k
retuned_block k p c d e =
    let held : slice_get (map blank k.pins) p ≡ Some (Source.Constant (Signal.Bool false)) = nth_map blank k.pins p ∙ ap (option_map blank) e in
    ap (λ ps. record { kind = k.kind; pins = ps }) (map-set blank k.pins p (Source.Constant d) ∙ set_held (map blank k.pins) p (Source.Constant (Signal.Bool false)) held)

pub tuned_wiring : (page : Page) (u p : ℕ) (c d : Signal) → source page u p ≡ Some (Source.Constant c) → wiring (tuned_page u p d page) ≡ wiring page
tuned_wiring page u p c d e = go (slice_get page.blocks u) refl e
  where
    go : (k : Option Block) → slice_get page.blocks u ≡ k → source_in k p ≡ Some (Source.Constant c) → map blank_block (with_source k p (Source.Constant d) page.blocks u) ≡ wiring page
    go None at s = refl
    go (Some k) at s =
        map-set blank_block page.blocks u (record { kind = k.kind; pins = set k.pins p (Source.Constant d) })
        ∙ ap (set (wiring page) u) (retuned_block k p c d s)
        ∙ set_held (wiring page) u (blank_block k) (nth_map blank_block page.blocks u ∙ ap (option_map blank_block) at)
