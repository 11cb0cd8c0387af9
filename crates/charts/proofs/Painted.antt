-- Lamps painted on the cells of a page, and what a pin of the zeroed page takes from them. Assumes nothing.
use Rattle.std.proofs.Common.{◌≡◌, ℕ, zero, suc, ◌+◌, ◌<◌, ◌≤◌, Bool, true, false, cond, ◌&&◌, ◌||◌, ltb, List, [], ◌∷◌, map, length, get_or, set, Some, None, Option, refl, ap, ◌∙◌, arith}
use lib.Count.{count_trailing_zeros}
use lib.Ieee.{of_bits, of_fields, odd, eq, ne}
use Rattle.std.specs.List.{slice_get}
use Rattle.std.proofs.lemmas.Bool.Decides.{nat_tests}
use Rattle.signals.specs.Signals.{type_of, zero_of, one_of, lit}
use Rattle.signals.specs.Terminals.{terminal_type}
use Rattle.signals.specs.declared.signal.Signal.{Signal}
use Rattle.signals.specs.declared.signal.SignalType.{SignalType}
use Rattle.blocks.specs.Meanings.{Shape, same_type, typed, with_shape}
use Rattle.blocks.specs.Layers.{lamp, any_lit, cell_types}
use Rattle.charts.specs.declared.page.Source.{Source}
use Rattle.charts.specs.Pages.{Block, Shapes, wire_type, output_type}
use Rattle.charts.specs.Boxes.{Cells, zero_at, zeros_from, signal_at, cell_at, taken}
use Rattle.charts.specs.Tracing.{zeroed_source, is_one, lighted, lit_block}
use Rattle.charts.proofs.Sources.{Supplies, Supplied}
use Rattle.charts.proofs.Lamps.{brings, any_brings}
use Rattle.charts.proofs.Places.{none_some}

-- ---- a signal as a lamp

abbrev pub shown : Bool → SignalType → Signal
shown v t = cond v (one_of t) (zero_of t)

shown_type : (v : Bool) (t : SignalType) → type_of (shown v t) ≡ t
shown_type true SignalType.Bool = refl
shown_type true SignalType.Int = refl
shown_type true SignalType.Dint = refl
shown_type true SignalType.Real = refl
shown_type false SignalType.Bool = refl
shown_type false SignalType.Int = refl
shown_type false SignalType.Dint = refl
shown_type false SignalType.Real = refl

shown_lit : (v : Bool) (t : SignalType) → lit (shown v t) ≡ v
unfolding ne eq of_bits of_fields odd count_trailing_zeros
shown_lit true SignalType.Bool = refl
shown_lit true SignalType.Int = refl
shown_lit true SignalType.Dint = refl
shown_lit true SignalType.Real = refl
shown_lit false SignalType.Bool = refl
shown_lit false SignalType.Int = refl
shown_lit false SignalType.Dint = refl
shown_lit false SignalType.Real = refl

shown_one : (v : Bool) (t : SignalType) → is_one (shown v t) ≡ v
unfolding eq of_bits of_fields odd count_trailing_zeros
shown_one true SignalType.Bool = refl
shown_one true SignalType.Int = refl
shown_one true SignalType.Dint = refl
shown_one true SignalType.Real = refl
shown_one false SignalType.Bool = refl
shown_one false SignalType.Int = refl
shown_one false SignalType.Dint = refl
shown_one false SignalType.Real = refl

same_type_itself : (t : SignalType) → same_type t t ≡ true
same_type_itself SignalType.Bool = refl
same_type_itself SignalType.Int = refl
same_type_itself SignalType.Dint = refl
same_type_itself SignalType.Real = refl

shown_same_type : (v : Bool) (t : SignalType) → same_type t (type_of (shown v t)) ≡ true
shown_same_type v t = ap (same_type t) (shown_type v t) ∙ same_type_itself t

-- ---- cells as lamps

pub cells_typed : (v : Bool) (ts : List SignalType) → typed ts (map (shown v) ts) ≡ true
cells_typed v [] = refl
cells_typed v (t ∷ ts) = ap (λ x. x && typed ts (map (shown v) ts)) (shown_same_type v t) ∙ cells_typed v ts

none_lit : (ts : List SignalType) → any_lit (map (shown false) ts) ≡ false
none_lit [] = refl
none_lit (t ∷ ts) = ap (λ x. x || any_lit (map (shown false) ts)) (shown_lit false t) ∙ none_lit ts

pub cells_lit : (v : Bool) (ts : List SignalType) → 1 ≤ length ts → any_lit (map (shown v) ts) ≡ v
cells_lit v [] h = absurd (omega arith)
cells_lit true (t ∷ ts) h = ap (λ x. x || any_lit (map (shown true) ts)) (shown_lit true t)
cells_lit false (t ∷ ts) h = none_lit (t ∷ ts)

all_ones : (ts : List SignalType) → lit_block (map (shown true) ts) ≡ true
all_ones [] = refl
all_ones (t ∷ ts) = ap (λ x. x && lit_block (map (shown true) ts)) (shown_one true t) ∙ all_ones ts

pub block_lit : (v : Bool) (ts : List SignalType) → 1 ≤ length ts → lit_block (map (shown v) ts) ≡ v
block_lit v [] h = absurd (omega arith)
block_lit true (t ∷ ts) h = all_ones (t ∷ ts)
block_lit false (t ∷ ts) h = ap (λ x. x && lit_block (map (shown false) ts)) (shown_one false t)

pub lamps_shown : (w v : Bool) (ts : List SignalType) → map (lamp w) (map (shown v) ts) ≡ map (shown w) ts
lamps_shown w v [] = refl
lamps_shown w v (t ∷ ts) = λ i. shown w (shown_type v t i) ∷ lamps_shown w v ts i

pub lighted_shown : (v : Bool) (ts : List SignalType) → lighted (map (shown v) ts) ≡ map (shown true) ts
lighted_shown v [] = refl
lighted_shown v (t ∷ ts) = λ i. one_of (shown_type v t i) ∷ lighted_shown v ts i

-- ---- what is painted

-- all cells of a lit block at one, all others at zero
abbrev pub paint : Shapes → List Block → List Bool → Cells
paint shapes [] ls = []
paint shapes (b ∷ bs) [] = []
paint shapes (b ∷ bs) (l ∷ ls) = map (shown l) (cell_types (shapes b.kind)) ∷ paint shapes bs ls

pub paint_set : (shapes : Shapes) (bs : List Block) (ls : List Bool) (i : ℕ) (b : Block) (v : Bool) → slice_get bs i ≡ Some b → set (paint shapes bs ls) i (map (shown v) (cell_types (shapes b.kind))) ≡ paint shapes bs (set ls i v)
paint_set shapes [] ls i b v e = none_some e
paint_set shapes (k ∷ bs) [] i b v e = refl
paint_set shapes (k ∷ bs) (l ∷ ls) zero b v e = let same : b ≡ k = cc in ap (λ x. map (shown v) (cell_types (shapes x.kind)) ∷ paint shapes bs ls) same
paint_set shapes (k ∷ bs) (l ∷ ls) (suc i) b v e = ap (λ xs. map (shown l) (cell_types (shapes k.kind)) ∷ xs) (paint_set shapes bs ls i b v e)

pub paint_at : (shapes : Shapes) (bs : List Block) (ls : List Bool) → length ls ≡ length bs → (i : ℕ) (b : Block) → slice_get bs i ≡ Some b → get_or (paint shapes bs ls) i [] ≡ map (shown (get_or ls i false)) (cell_types (shapes b.kind))
paint_at shapes [] ls n i b e = none_some e
paint_at shapes (k ∷ bs) [] n i b e = absurd (omega arith)
paint_at shapes (k ∷ bs) (l ∷ ls) n zero b e = let same : k ≡ b = cc in ap (λ x. map (shown l) (cell_types (shapes x.kind))) same
paint_at shapes (k ∷ bs) (l ∷ ls) n (suc i) b e = paint_at shapes bs ls (omega arith) i b e

-- ---- what a pin takes

get_or_shown : (f : SignalType → Signal) (ts : List SignalType) (o : ℕ) (t : SignalType) (d : Signal) → slice_get ts o ≡ Some t → get_or (map f ts) o d ≡ f t
get_or_shown f [] o t d e = none_some e
get_or_shown f (u ∷ ts) zero t d e = let same : u ≡ t = cc in ap f same
get_or_shown f (u ∷ ts) (suc o) t d e = get_or_shown f ts o t d e

output_shown : (v : Bool) (o : ℕ) (t : SignalType) (s : Option Shape) → with_shape s (λ x. output_type x o) ≡ Some t → signal_at (map (shown v) (cell_types s)) o ≡ shown v t
output_shown v o t None e = none_some e
output_shown v o t (Some s) e = get_or_shown (shown v) s.cells o t (Signal.Bool false) (go (ltb o s.outputs) e)
  where
    go : (b : Bool) → cond b (slice_get s.cells o) None ≡ Some t → slice_get s.cells o ≡ Some t
    go true h = h
    go false h = none_some h

wire_shown : (shapes : Shapes) (bs : List Block) (ls : List Bool) → length ls ≡ length bs → (b o : ℕ) (t : SignalType) → wire_type shapes (map (λ k. k.kind) bs) b o ≡ Some t → cell_at (paint shapes bs ls) b o ≡ shown (get_or ls b false) t
wire_shown shapes [] ls n b o t e = none_some e
wire_shown shapes (k ∷ bs) [] n b o t e = absurd (omega arith)
wire_shown shapes (k ∷ bs) (l ∷ ls) n zero o t e = output_shown l o t (shapes k.kind) e
wire_shown shapes (k ∷ bs) (l ∷ ls) n (suc b) o t e = wire_shown shapes bs ls (omega arith) b o t e

zero_from : (first count i n : ℕ) → first + i ≡ n → i < count → signal_at (zeros_from first count) i ≡ zero_at (terminal_type n)
zero_from first zero i n e h = absurd (omega arith)
zero_from first (suc count) zero n e h = let same : first ≡ n = omega arith in ap (λ x. zero_at (terminal_type x)) same
zero_from first (suc count) (suc i) n e h = zero_from (suc first) count i n (omega arith) (omega arith)

terminal_shown : (n : ℕ) (t : SignalType) → terminal_type n ≡ Some t → signal_at (zeros_from 0 32) n ≡ zero_of t
terminal_shown n t e = let h : n < 32 = grind (arith, nat_tests) in zero_from 0 32 n n (omega arith) h ∙ ap zero_at e

module _ (shapes : Shapes) (bs : List Block) (ls : List Bool) (n : length ls ≡ length bs) where
  -- a pin of the zeroed page takes a lamp, lit where the source brings light
  taken_shown : (t : SignalType) (s : Source) → Supplies shapes (map (λ k. k.kind) bs) t s → taken (zeros_from 0 32) (paint shapes bs ls) (zeroed_source s) ≡ shown (brings ls s) t
  taken_shown t (Source.Constant x) e = ap zero_of e.0
  taken_shown t (Source.Terminal i) e = terminal_shown i t e
  taken_shown t (Source.Output b o) e = wire_shown shapes bs ls n b o t e

  abbrev pub pins_taken : List Source → List Signal
  pins_taken ss = map (taken (zeros_from 0 32) (paint shapes bs ls)) (map zeroed_source ss)

  pub pins_typed : (ts : List SignalType) (ss : List Source) → Supplied shapes (map (λ k. k.kind) bs) ts ss → typed ts (pins_taken ss) ≡ true
  pins_typed [] [] f = refl
  pins_typed [] (s ∷ ss) f = absurd f
  pins_typed (t ∷ ts) [] f = absurd f
  pins_typed (t ∷ ts) (s ∷ ss) f =
      ap (λ x. same_type t (type_of x) && typed ts (pins_taken ss)) (taken_shown t s f.0)
      ∙ ap (λ x. x && typed ts (pins_taken ss)) (shown_same_type (brings ls s) t)
      ∙ pins_typed ts ss f.1

  pub pins_lit : (ts : List SignalType) (ss : List Source) → Supplied shapes (map (λ k. k.kind) bs) ts ss → any_lit (pins_taken ss) ≡ any_brings ls ss
  pins_lit [] [] f = refl
  pins_lit [] (s ∷ ss) f = absurd f
  pins_lit (t ∷ ts) [] f = absurd f
  pins_lit (t ∷ ts) (s ∷ ss) f =
      ap (λ x. lit x || any_lit (pins_taken ss)) (taken_shown t s f.0)
      ∙ ap (λ x. x || any_lit (pins_taken ss)) (shown_lit (brings ls s) t)
      ∙ ap (λ x. brings ls s || x) (pins_lit ts ss f.1)
