-- A constant put at a pin of a block in memory is put there by the rules. Assumes nothing.
use Rattle.std.proofs.Common.{◌≡◌, ℕ, true, false, ltb, List, length, get_or, set, Some, None, vec_items, sym, refl, ap, ◌∙◌}
use Rattle.std.proofs.lemmas.Option.{slice_get_read, slice_get_past}
use Rattle.std.proofs.lemmas.Bool.{ltb-true, ltb-false}
use lib.Seq.{map-set}
use Rattle.std.specs.Option.{option_map}
use Rattle.std.specs.Vec.{with_item}
use Rattle.std.specs.List.{slice_get}
use Rattle.signals.specs.declared.signal.Signal.{Signal}
use Rattle.charts.specs.declared.page.Source.{Source}
use Rattle.charts.specs.Pages as Pages
use Rattle.charts.specs.Calls.{with_source, tuned_page}
use Rattle.charts.proofs.Places.{nth_map, set_held}
use Rattle.loading.specs.declared.page.Block.{Block}
use Rattle.loading.specs.declared.page.Page.{Page}
use Rattle.loading.specs.Models.{block_model, page_model, cells_model}

pub found : {X : Type 0} (xs : List X) (i : ℕ) (x : X) → true ≡ ltb i (length xs) → x ≡ get_or xs i x → slice_get xs i ≡ Some x
found xs i x within e = slice_get_read xs (length xs) i x refl (ltb-true i (length xs) (sym within)) e

pub lacking : {X : Type 0} (xs : List X) (i : ℕ) → false ≡ ltb i (length xs) → slice_get xs i ≡ None
lacking xs i past = slice_get_past xs i (ltb-false i (length xs) (sym past))

-- the page with another block at a place
abbrev pub with_block : Page → ℕ → Block → Page
with_block p b k = record { blocks = with_item p.blocks b k; outputs = p.outputs }

module _ (p : Page) (b : ℕ) where
  pub none_tuned : (i : ℕ) (x : Signal) → slice_get (vec_items p.blocks) b ≡ None → page_model p ≡ tuned_page b i x (page_model p)
  none_tuned i x e =
      let none = nth_map block_model (vec_items p.blocks) b ∙ ap (option_map block_model) e in
      sym (ap (λ o. record { blocks = with_source o i (Source.Constant x) (page_model p).blocks b; outputs = vec_items p.outputs }) none)

  module _ (old new : Block) (held : slice_get (vec_items p.blocks) b ≡ Some old) where
    pub block_tuned : (i : ℕ) (x : Signal)
        → new.kind ≡ old.kind → vec_items new.pins ≡ set (vec_items old.pins) i (Source.Constant x) → page_model (with_block p b new) ≡ tuned_page b i x (page_model p)
    block_tuned i x kind pins =
        let same : block_model new ≡ record { kind = old.kind; pins = set (vec_items old.pins) i (Source.Constant x) } = λ h. record { kind = kind h; pins = pins h } in
        let some = nth_map block_model (vec_items p.blocks) b ∙ ap (option_map block_model) held in
        let to_page : List Pages.Block → Pages.Page = λ bs. record { blocks = bs; outputs = vec_items p.outputs } in
        ap to_page (map-set block_model (vec_items p.blocks) b new ∙ ap (set (page_model p).blocks b) same) ∙ sym (ap (λ o. to_page (with_source o i (Source.Constant x) (page_model p).blocks b)) some)

    pub cells_kept : new.cells ≡ old.cells → cells_model (with_block p b new) ≡ cells_model p
    cells_kept same =
        let cells_of : Block → List Signal = λ k. vec_items k.cells in
        map-set cells_of (vec_items p.blocks) b new ∙ set_held (cells_model p) b (cells_of new) (nth_map cells_of (vec_items p.blocks) b ∙ ap (option_map cells_of) held ∙ ap (λ c. Some (vec_items c)) (sym same))
