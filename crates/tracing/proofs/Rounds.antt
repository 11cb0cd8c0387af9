-- The run of a page in memory, from its dimming to its last cycle. Assumes nothing.
use Rattle.std.proofs.Common.{◌≡◌, ℕ, zero, suc, ◌≤◌, List, [], map, length, get_or, set, vec_items, refl, ap, ◌∙◌, arith}
use Rattle.std.proofs.lemmas.List.{length-map}
use Rattle.signals.specs.declared.signal.Signal.{Signal}
use Rattle.blocks.specs.Meanings.{Meaning}
use Rattle.charts.specs.Boxes.{Box, Cells, zeros_from}
use Rattle.charts.specs.Tracing.{zeroed, lighted, cycles, lamps, lit_block, set_of}
use Rattle.loading.specs.declared.page.Block.{Block}
use Rattle.loading.specs.declared.page.Page.{Page}
use Rattle.loading.specs.Models.{block_model, page_model, cells_model, all_cells}
use Rattle.running.specs.Turns.{box_of}
use Rattle.tracing.specs.Parts.{dimmed, lit_box}

cycles_page : (m : Meaning) (n : ℕ) (x : Box) → (cycles m n x).page ≡ x.page
cycles_page m zero x = refl
cycles_page m (suc n) x = cycles_page m n x

-- the page before, dimmed, lighted and run
module _ (m : Meaning) (before dark lit after : Page) (t : ℕ) (terminals : List Signal) (zeros : terminals ≡ zeros_from 0 32)
    (dark_page : page_model dark ≡ zeroed (page_model before)) (dark_cells : cells_model dark ≡ cells_model before)
    (lit_page : page_model lit ≡ page_model dark) (lit_cells : cells_model lit ≡ set (cells_model dark) t (lighted (get_or (cells_model dark) t [])))
    (ran : box_of after terminals ≡ cycles m (length (page_model lit).blocks) (box_of lit terminals)) where
  run_is : box_of after terminals ≡ cycles m (length (page_model before).blocks) (lit_box before t)
  run_is =
      let page = lit_page ∙ dark_page in
      let cells = lit_cells ∙ ap (λ (cs : Cells). set cs t (lighted (get_or cs t []))) dark_cells in
      let start : box_of lit terminals ≡ lit_box before t = λ j. record { page = page j; cells = cells j; terminals = zeros j } in
      let many = ap (λ q. length q.blocks) page ∙ length-map (page_model before).blocks dimmed in
      ran ∙ (λ j. cycles m (many j) (start j))

  pub few_after : length (page_model before).blocks ≤ 64 → length (vec_items after.blocks) ≤ 64
  few_after few =
      let same = ap (λ x. length x.page.blocks) run_is ∙ ap (λ q. length q.blocks) (cycles_page m (length (page_model before).blocks) (lit_box before t)) in
      omega (arith, length-map (vec_items after.blocks) block_model, length-map (page_model before).blocks dimmed)

  pub set_after : (lent : List Block) (s : ℕ) → lent ≡ vec_items after.blocks → s ≡ set_of (map lit_block (all_cells lent))
      → s ≡ set_of (lamps (cycles m (length (page_model before).blocks) (lit_box before t)))
  set_after lent s whole read = read ∙ ap (λ bs. set_of (map lit_block (all_cells bs))) whole ∙ ap (λ x. set_of (lamps x)) run_is
