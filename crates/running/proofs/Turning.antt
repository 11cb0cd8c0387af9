-- A turn of a block in memory: kinds and sources stay, and its cells become what the rule says. Assumes nothing.
use Rattle.std.proofs.Common.{◌≡◌, ℕ, zero, suc, ◌+◌, ◌<◌, Bool, true, false, cond, ◌&&◌, List, [], map, length, get_or, set, Some, None, Ok, Err, vec_items, Option, Result, sym, refl, ap, ◌∙◌, add-one, arith}
use Rattle.std.specs.Vec.{with_items}
use Rattle.std.specs.List.{slice_get}
use Rattle.std.proofs.lemmas.List.{length-map, set-get_or}
use Rattle.signals.specs.declared.signal.Signal.{Signal}
use Rattle.signals.specs.Signals.{type_of}
use Rattle.blocks.specs.Meanings.{Shape, Meaning, Lawful, typed, stepped_as}
use Rattle.blocks.proofs.Answered.{both, typed_is}
use Rattle.charts.specs.Pages as Pages
use Rattle.charts.specs.Boxes.{Cells, taken, step_of, step_at, stepped_to, cycled}
use Rattle.loading.specs.declared.page.Block.{Block}
use Rattle.loading.specs.declared.page.Page.{Page}
use Rattle.loading.specs.Models.{block_model, page_model, cells_model, wiring, all_cells}
use Rattle.running.proofs.NewCells.{lent_back, with_cells, wired_at, old_row, new_row}
use Rattle.running.specs.Turns.{box_of, page_of, Turned}

-- ---- no kind has more than 8 pins

refused_as : (m : Meaning) → Lawful m → (k : ℕ) (ps cs : List Signal) → 8 < length ps → (o : Option Shape) → m.shape k ≡ o → (stepped_as o (m.new k) ps cs).1 ≡ cs
refused_as m law k ps cs many None e = refl
refused_as m law k ps cs many (Some s) e = go (typed s.pins ps && typed s.cells cs) refl
  where
    go : (b : Bool) → typed s.pins ps && typed s.cells cs ≡ b → (stepped_as (Some s) (m.new k) ps cs).1 ≡ cs
    go true t =
        let few = (law.sized k s e).few_pins in
        let same = ap length (typed_is s.pins ps (both (typed s.pins ps) (typed s.cells cs) t).0) in
        absurd (omega (arith, length-map ps type_of))
    go false t = ap (λ b. (cond {A = Result (Unit {0}) ℕ × List Signal} b (Ok tt, m.new k ps cs) (Err 11, cs)).1) t

-- ---- block i of bs has its turn, and has the cells xs then

module _ (bs : List Block) (i : ℕ) (d : Block) (lt : i < length bs) (m : Meaning) (terminals : List Signal) where
  pub turned_cells : (xs : List Signal) → length xs ≡ length (vec_items (get_or bs i d).cells)
      → xs ≡ step_of m terminals (all_cells bs) (block_model (get_or bs i d)) (vec_items (get_or bs i d).cells)
      → all_cells (set bs i (with_cells (get_or bs i d) xs)) ≡ step_at m terminals (slice_get (wiring bs) i) i (all_cells bs)
  turned_cells xs long new =
      new_row bs i d lt xs long
      ∙ ap (set (all_cells bs) i) (new ∙ ap (step_of m terminals (all_cells bs) (block_model (get_or bs i d))) (sym (old_row bs i d lt)))
      ∙ sym (ap (λ o. step_at m terminals o i (all_cells bs)) (wired_at bs i d lt))

  pub refused_cells : Lawful m → 8 < length (vec_items (get_or bs i d).pins) → all_cells bs ≡ step_at m terminals (slice_get (wiring bs) i) i (all_cells bs)
  refused_cells law many =
      let b = get_or bs i d in
      let ps = map (taken terminals (all_cells bs)) (vec_items b.pins) in
      let old = get_or (all_cells bs) i [] in
      let wide = length-map (vec_items b.pins) (taken terminals (all_cells bs)) in
      sym (set-get_or (all_cells bs) i [])
      ∙ ap (set (all_cells bs) i) (sym (refused_as m law b.kind ps old (omega arith) (m.shape b.kind) refl))
      ∙ sym (ap (λ o. step_at m terminals o i (all_cells bs)) (wired_at bs i d lt))

-- ---- the cells after some turns depend on the wiring alone

stepped_alike : (m : Meaning) (p q : Pages.Page) → p.blocks ≡ q.blocks → (terminals : List Signal) (cells : Cells) (n : ℕ) → stepped_to m p terminals cells n ≡ stepped_to m q terminals cells n
stepped_alike m p q same terminals cells zero = refl
stepped_alike m p q same terminals cells (suc n) = λ j. step_at m terminals (slice_get (same j) n) n (stepped_alike m p q same terminals cells n j)

-- one turn more
pub turned_more : (m : Meaning) (terminals : List Signal) (old : List Block) (i : ℕ) → {bs new : List Block} → Turned m terminals old bs i
    → wiring new ≡ wiring bs → all_cells new ≡ step_at m terminals (slice_get (wiring bs) i) i (all_cells bs) → Turned m terminals old new (i + 1)
turned_more m terminals old i before wired rows = record {
  same_wiring = wired ∙ before.same_wiring;
  new_cells = rows
      ∙ (λ j. step_at m terminals (slice_get (before.same_wiring j) i) i (before.new_cells j))
      ∙ ap (stepped_to m (page_of old) terminals (all_cells old)) (sym (add-one i));
}

-- all have had their turn: the blocks lent out of a page come back new
pub turned_page : (m : Meaning) (p : Page) (terminals : List Signal) (lent new : List Block) → lent ≡ vec_items p.blocks → length new ≡ length lent → Turned m terminals lent new (length lent)
    → box_of (record { blocks = with_items p.blocks new; outputs = p.outputs }) terminals ≡ cycled m (box_of p terminals)
turned_page m p terminals lent new whole long turned =
    let old = vec_items p.blocks in
    let back = lent_back p lent new whole long in
    let wired : wiring (vec_items (with_items p.blocks new)) ≡ wiring old = ap wiring back ∙ turned.same_wiring ∙ ap wiring whole in
    let rows : all_cells (vec_items (with_items p.blocks new)) ≡ stepped_to m (page_model p) terminals (cells_model p) (length (page_model p).blocks) =
    ap all_cells back
    ∙ turned.new_cells
    ∙ ap (λ bs. stepped_to m (page_of bs) terminals (all_cells bs) (length bs)) whole
    ∙ stepped_alike m (page_of old) (page_model p) refl terminals (cells_model p) (length old)
    ∙ ap (stepped_to m (page_model p) terminals (cells_model p)) (sym (length-map old block_model)) in
    λ j. record { page = record { blocks = wired j; outputs = vec_items p.outputs }; cells = rows j; terminals = terminals }
