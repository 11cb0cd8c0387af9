-- Blocks in memory dimmed one after the other, and one of them lighted. Assumes nothing.
use Rattle.std.proofs.Common.{◌≡◌, ℕ, ◌+◌, ◌<◌, List, [], ◌++◌, map, length, get_or, take, drop, set, vec_items, sym, ap, ◌∙◌, arith}
use Rattle.std.specs.Vec.{with_items, with_item}
use Rattle.std.proofs.lemmas.List.{length-map, get_or-map, map-set, set-get_or, with_items_is}
use Rattle.std.proofs.lemmas.List.Edits.{map_over_more}
use Rattle.signals.specs.declared.signal.Signal.{Signal}
use Rattle.signals.specs.Signals.{type_of, one_of}
use Rattle.charts.specs.declared.page.Source.{Source}
use Rattle.charts.specs.Tracing.{zeroed_source, zeroed, lighted}
use Rattle.loading.specs.declared.page.Block.{Block}
use Rattle.loading.specs.declared.page.Page.{Page}
use Rattle.loading.specs.Models.{block_model, page_model, cells_model, wiring, all_cells}
use Rattle.running.proofs.NewCells.{lent_back, with_cells, old_row, same_wiring, new_row}
use Rattle.tracing.specs.Parts.{dimmed}

-- a block with these sources in place of as many
abbrev pub with_pins : Block → List Source → Block
with_pins b xs = record { kind = b.kind; pins = with_items b.pins xs; cells = b.cells }

-- block i of bs is dimmed, and has the sources xs then, where those before it were dimmed from old
module _ (old bs : List Block) (i : ℕ) (d : Block) (xs : List Source) (lt : i < length bs) (dark : xs ≡ map zeroed_source (vec_items (get_or bs i d).pins)) where
  pub dimmed_more : length bs ≡ length old → wiring bs ≡ map dimmed (take i (wiring old)) ++ drop i (wiring old)
      → wiring (set bs i (with_pins (get_or bs i d) xs)) ≡ map dimmed (take (i + 1) (wiring old)) ++ drop (i + 1) (wiring old)
  dimmed_more long before =
      let b = get_or bs i d in
      let room = b.pins.ok.0 in
      let many = length-map old block_model in
      let as_many = ap length dark ∙ length-map (vec_items b.pins) zeroed_source in
      let held = with_items_is b.pins xs (omega arith) in
      map-set block_model bs i (with_pins b xs)
      ∙ ap (λ pins. set (wiring bs) i (record { kind = b.kind; pins = pins })) (held ∙ dark)
      ∙ map_over_more dimmed (wiring old) (wiring bs) i (block_model b) (omega arith) before (sym (get_or-map block_model bs i d (block_model b) lt))

  pub same_cells : all_cells (set bs i (with_pins (get_or bs i d) xs)) ≡ all_cells bs
  same_cells =
      map-set (λ (b : Block). vec_items b.cells) bs i (with_pins (get_or bs i d) xs)
      ∙ ap (set (all_cells bs) i) (sym (old_row bs i d lt))
      ∙ set-get_or (all_cells bs) i []

-- the blocks lent out of a page come back dimmed
module _ (p : Page) (lent new : List Block) (whole : lent ≡ vec_items p.blocks) (long : length new ≡ length lent) where
  abbrev back : vec_items (with_items p.blocks new) ≡ new
  back = lent_back p lent new whole long

  pub dimmed_page : wiring new ≡ map dimmed (wiring lent) → page_model (record { blocks = with_items p.blocks new; outputs = p.outputs }) ≡ zeroed (page_model p)
  dimmed_page dark = ap (λ ws. record { blocks = ws; outputs = vec_items p.outputs }) (ap wiring back ∙ dark ∙ ap (λ bs. map dimmed (wiring bs)) whole)

  pub dimmed_cells : all_cells new ≡ all_cells lent → cells_model (record { blocks = with_items p.blocks new; outputs = p.outputs }) ≡ cells_model p
  dimmed_cells same = ap all_cells back ∙ same ∙ ap all_cells whole

-- block b of a page, old, is lighted, and has the cells xs then
module _ (p : Page) (b : ℕ) (old : Block) (xs : List Signal) (held : old ≡ get_or (vec_items p.blocks) b old) (lt : b < length (vec_items p.blocks)) where
  abbrev lit : Page
  lit = record { blocks = with_item p.blocks b (with_cells old xs); outputs = p.outputs }

  pub lighted_page : page_model lit ≡ page_model p
  lighted_page =
      let bs = vec_items p.blocks in
      ap (λ ws. record { blocks = ws; outputs = vec_items p.outputs }) (ap (λ k. wiring (set bs b (with_cells k xs))) held ∙ same_wiring bs b old lt xs)

  pub lighted_cells : xs ≡ lighted (vec_items old.cells) → cells_model lit ≡ set (cells_model p) b (lighted (get_or (cells_model p) b []))
  lighted_cells new =
      let bs = vec_items p.blocks in
      let row : vec_items old.cells ≡ vec_items (get_or bs b old).cells = ap (λ (k : Block). vec_items k.cells) held in
      let long = ap length new ∙ length-map (vec_items old.cells) (λ c. one_of (type_of c)) ∙ ap length row in
      ap (λ k. all_cells (set bs b (with_cells k xs))) held
      ∙ new_row bs b old lt xs long
      ∙ ap (set (cells_model p) b) (new ∙ ap lighted (row ∙ sym (old_row bs b old lt)))
