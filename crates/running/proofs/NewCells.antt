-- The blocks of a page altered in place: all lent out, or one with new cells. Assumes nothing.
use Rattle.std.proofs.Common.{◌≡◌, ℕ, ◌<◌, List, [], length, get_or, set, Some, vec_items, sym, ap, ◌∙◌, arith}
use Rattle.std.specs.Vec.{with_items}
use Rattle.std.specs.List.{slice_get}
use Rattle.std.proofs.lemmas.List.{length-map, get_or-map, map-set, set-get_or, with_items_is}
use Rattle.std.proofs.lemmas.Option.{slice_get-get_or}
use Rattle.signals.specs.declared.signal.Signal.{Signal}
use Rattle.loading.specs.declared.page.Block.{Block}
use Rattle.loading.specs.declared.page.Page.{Page}
use Rattle.loading.specs.Models.{block_model, wiring, all_cells}

-- the blocks that were lent out of a page come back as they were left
pub lent_back : (p : Page) (lent new : List Block) → lent ≡ vec_items p.blocks → length new ≡ length lent → vec_items (with_items p.blocks new) ≡ new
lent_back p lent new whole long = let room = p.blocks.ok.0 in with_items_is p.blocks new (omega (arith, ap length whole))

-- a block with these cells in place of as many
abbrev pub with_cells : Block → List Signal → Block
with_cells b xs = record { kind = b.kind; pins = b.pins; cells = with_items b.cells xs }

module _ (bs : List Block) (i : ℕ) (d : Block) (lt : i < length bs) where
  pub wired_at : slice_get (wiring bs) i ≡ Some (block_model (get_or bs i d))
  wired_at = let n = length-map bs block_model in slice_get-get_or (wiring bs) i (block_model d) (omega arith) ∙ ap Some (get_or-map block_model bs i d (block_model d) lt)

  pub old_row : get_or (all_cells bs) i [] ≡ vec_items (get_or bs i d).cells
  old_row = get_or-map (λ (b : Block). vec_items b.cells) bs i d [] lt

  -- kinds and sources stay
  pub same_wiring : (xs : List Signal) → wiring (set bs i (with_cells (get_or bs i d) xs)) ≡ wiring bs
  same_wiring xs =
      map-set block_model bs i (with_cells (get_or bs i d) xs)
      ∙ ap (set (wiring bs) i) (sym (get_or-map block_model bs i d (block_model d) lt))
      ∙ set-get_or (wiring bs) i (block_model d)

  pub new_row : (xs : List Signal) → length xs ≡ length (vec_items (get_or bs i d).cells) → all_cells (set bs i (with_cells (get_or bs i d) xs)) ≡ set (all_cells bs) i xs
  new_row xs long =
      let room = (get_or bs i d).cells.ok.0 in
      map-set (λ (b : Block). vec_items b.cells) bs i (with_cells (get_or bs i d) xs) ∙ ap (set (all_cells bs) i) (with_items_is (get_or bs i d).cells xs (omega arith))
