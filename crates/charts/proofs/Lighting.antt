-- The box of a trace, painted with lamps at every moment of its run. Assumes nothing.
use Rattle.std.proofs.Common.{◌≡◌, ℕ, zero, suc, ◌<◌, Bool, true, false, cond, ◌&&◌, ◌||◌, List, [], ◌∷◌, map, length, get_or, set, Some, None, Ok, Err, Option, Result, sym, refl, ap, ◌∙◌, ap₂, arith}
use Rattle.std.specs.Option.{option_map}
use Rattle.std.specs.List.{AllByRecursion, slice_get}
use Rattle.std.proofs.lemmas.List.{length-map, length-set}
use Rattle.signals.specs.Signals.{zero_of}
use Rattle.signals.specs.declared.signal.Signal.{Signal}
use Rattle.blocks.specs.Meanings.{Shape, Meaning, Lawful, typed, stepped_as}
use Rattle.blocks.specs.Layers.{lamp_meaning, lamp, any_lit, cell_types}
use Rattle.charts.specs.Pages.{Block, Page, kinds_of}
use Rattle.charts.specs.Boxes.{Cells, Box, zeros_from, starting, starting_as, step_of, step_at, stepped_to, cycled}
use Rattle.charts.specs.Tracing.{zeroed_source, zeroed, lighted, lit_block, trace_box, cycles, traced, lamps}
use Rattle.charts.proofs.Formed.{FormedBlock}
use Rattle.charts.proofs.Lamps.{any_brings, spread_at, spread_to, spread, spreads, length-spread_to, length-spreads}
use Rattle.charts.proofs.Painted.{shown, cells_typed, cells_lit, block_lit, lamps_shown, lighted_shown, paint, paint_set, paint_at, pins_taken, pins_typed, pins_lit}
use Rattle.charts.proofs.Places.{all_nth, nth_map, nth_some}

abbrev zeroed_block : Block → Block
zeroed_block b = record { kind = b.kind; pins = map zeroed_source b.pins }

-- a step that is not refused, over the lamp layer
taken_step : (s : Shape) (ps cs : List Signal) → typed s.pins ps ≡ true → typed s.cells cs ≡ true
    → (stepped_as (Some s) (λ qs xs. map (lamp (any_lit qs || any_lit xs)) xs) ps cs).1 ≡ map (lamp (any_lit ps || any_lit cs)) cs
taken_step s ps cs p c =
    ap₂ (λ (a b : Bool). (cond {A = Result (Unit {0}) ℕ × List Signal} (a && b) (Ok tt, map (lamp (any_lit ps || any_lit cs)) cs) (Err 11, cs)).1) p c

-- the lamps of a page, none lit
abbrev pub unlit : List Block → List Bool
unlit = map (λ b. false)

pub length-unlit : (bs : List Block) → length (unlit bs) ≡ length bs
length-unlit bs = length-map bs (λ b. false)

starting_shown : (o : Option Shape) → starting_as o (map zero_of (cell_types o)) ≡ map (shown false) (cell_types o)
starting_shown None = refl
starting_shown (Some s) = refl

-- ---- a cycle

module _ (m : Meaning) (law : Lawful m) (page : Page) (f : AllByRecursion (FormedBlock m.shape (kinds_of page)) page.blocks) where
  -- the box of a trace with these lamps
  abbrev painted : List Bool → Box
  painted ls = record { page = zeroed page; cells = paint m.shape page.blocks ls; terminals = zeros_from 0 32 }

  module _ (ls : List Bool) (n : length ls ≡ length page.blocks) where
    step_painted : (i : ℕ) (b : Block) → slice_get page.blocks i ≡ Some b
        → step_of (lamp_meaning m) (zeros_from 0 32) (paint m.shape page.blocks ls) (zeroed_block b) (get_or (paint m.shape page.blocks ls) i [])
        ≡ map (shown (any_brings ls b.pins || get_or ls i false)) (cell_types (m.shape b.kind))
    step_painted i b at =
        let bs = page.blocks in
        let k = all_nth (FormedBlock m.shape (kinds_of page)) bs i b f at in
        let s = k.form in
        let ps = pins_taken m.shape bs ls n b.pins in
        let old = get_or ls i false in
        let new = any_brings ls b.pins || old in
        ap₂ (λ (o : Option Shape) (cs : List Signal). (stepped_as o (λ qs xs. map (lamp (any_lit qs || any_lit xs)) xs) ps cs).1) k.formed
        (paint_at m.shape bs ls n i b at ∙ ap (λ (o : Option Shape). map (shown old) (cell_types o)) k.formed)
        ∙ taken_step s ps (map (shown old) s.cells) (pins_typed m.shape bs ls n s.pins b.pins k.supplied) (cells_typed old s.cells)
        ∙ ap₂ (λ (x y : Bool). map (lamp (x || y)) (map (shown old) s.cells)) (pins_lit m.shape bs ls n s.pins b.pins k.supplied) (cells_lit old s.cells (law.sized b.kind s k.formed).some_cells)
        ∙ lamps_shown new old s.cells
        ∙ ap (λ (o : Option Shape). map (shown new) (cell_types o)) (sym k.formed)

    step_at_painted : (i : ℕ) (o : Option Block) → slice_get page.blocks i ≡ o
        → step_at (lamp_meaning m) (zeros_from 0 32) (option_map zeroed_block o) i (paint m.shape page.blocks ls) ≡ paint m.shape page.blocks (spread_at o i ls)
    step_at_painted i None at = refl
    step_at_painted i (Some b) at =
        ap (set (paint m.shape page.blocks ls) i) (step_painted i b at) ∙ paint_set m.shape page.blocks ls i b (any_brings ls b.pins || get_or ls i false) at

  stepped_painted : (ls : List Bool) → length ls ≡ length page.blocks → (i : ℕ)
      → stepped_to (lamp_meaning m) (zeroed page) (zeros_from 0 32) (paint m.shape page.blocks ls) i ≡ paint m.shape page.blocks (spread_to page.blocks ls i)
  stepped_painted ls n zero = refl
  stepped_painted ls n (suc i) =
      let here = spread_to page.blocks ls i in
      ap₂ (λ (o : Option Block) (cells : Cells). step_at (lamp_meaning m) (zeros_from 0 32) o i cells) (nth_map zeroed_block page.blocks i) (stepped_painted ls n i)
      ∙ step_at_painted here (length-spread_to page.blocks ls i ∙ n) i (slice_get page.blocks i) refl

  cycled_painted : (ls : List Bool) → length ls ≡ length page.blocks → cycled (lamp_meaning m) (painted ls) ≡ painted (spread page.blocks ls)
  cycled_painted ls n =
      ap (λ (cells : Cells). record { page = zeroed page; cells = cells; terminals = zeros_from 0 32 })
      (ap (stepped_to (lamp_meaning m) (zeroed page) (zeros_from 0 32) (paint m.shape page.blocks ls)) (length-map page.blocks zeroed_block) ∙ stepped_painted ls n (length page.blocks))

  cycles_painted : (ls : List Bool) → length ls ≡ length page.blocks → (k : ℕ) → cycles (lamp_meaning m) k (painted ls) ≡ painted (spreads page.blocks k ls)
  cycles_painted ls n zero = refl
  cycles_painted ls n (suc k) = ap (cycled (lamp_meaning m)) (cycles_painted ls n k) ∙ cycled_painted (spreads page.blocks k ls) (length-spreads page.blocks k ls ∙ n)

  -- ---- the box that a trace starts from

  made_painted : (bs : List Block) → map (λ b. starting (lamp_meaning m) b.kind) (map zeroed_block bs) ≡ paint m.shape bs (unlit bs)
  made_painted [] = refl
  made_painted (b ∷ bs) = λ i. starting_shown (m.shape b.kind) i ∷ made_painted bs i

  trace_painted : (t : ℕ) → t < length page.blocks → trace_box m page t ≡ painted (set (unlit page.blocks) t true)
  trace_painted t h =
      let bs = page.blocks in
      let off = paint m.shape bs (unlit bs) in
      let b = nth_some bs t h in
      let same : set off t (lighted (get_or off t [])) ≡ paint m.shape bs (set (unlit bs) t true) =
      ap (λ (xs : List Signal). set off t (lighted xs)) (paint_at m.shape bs (unlit bs) (length-unlit bs) t b.0 b.1)
      ∙ ap (set off t) (lighted_shown (get_or (unlit bs) t false) (cell_types (m.shape b.0.kind)))
      ∙ paint_set m.shape bs (unlit bs) t b.0 true b.1 in
      ap (λ (cells : Cells). record { page = zeroed page; cells = set cells t (lighted (get_or cells t [])); terminals = zeros_from 0 32 }) (made_painted bs)
      ∙ ap (λ (cells : Cells). record { page = zeroed page; cells = cells; terminals = zeros_from 0 32 }) same

  traced_painted : (t : ℕ) → t < length page.blocks → (k : ℕ) → traced m page t k ≡ painted (spreads page.blocks k (set (unlit page.blocks) t true))
  traced_painted t h k =
      ap (cycles (lamp_meaning m) k) (trace_painted t h)
      ∙ cycles_painted (set (unlit page.blocks) t true) (length-set (unlit page.blocks) t true ∙ length-unlit page.blocks) k

  -- ---- its lamps

  lamps_painted : (bs : List Block) (ls : List Bool) → AllByRecursion (FormedBlock m.shape (kinds_of page)) bs → length ls ≡ length bs → map lit_block (paint m.shape bs ls) ≡ ls
  lamps_painted [] [] a n = refl
  lamps_painted [] (l ∷ ls) a n = absurd (omega arith)
  lamps_painted (b ∷ bs) [] a n = absurd (omega arith)
  lamps_painted (b ∷ bs) (l ∷ ls) all n =
      let s = all.0 in
      let lit = ap (λ (o : Option Shape). lit_block (map (shown l) (cell_types o))) s.formed ∙ block_lit l s.form.cells (law.sized b.kind s.form s.formed).some_cells in
      λ i. lit i ∷ lamps_painted bs ls all.1 (omega arith) i

  pub lamps_traced : (t : ℕ) → t < length page.blocks → (k : ℕ) → lamps (traced m page t k) ≡ spreads page.blocks k (set (unlit page.blocks) t true)
  lamps_traced t h k =
      let start = set (unlit page.blocks) t true in
      ap lamps (traced_painted t h k)
      ∙ lamps_painted page.blocks (spreads page.blocks k start) f (length-spreads page.blocks k start ∙ length-set (unlit page.blocks) t true ∙ length-unlit page.blocks)
