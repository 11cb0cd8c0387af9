-- What stands at a place of a page in memory. Assumes nothing.
use Rattle.std.proofs.Common.{◌≡◌, ℕ, true, ltb, List, length, get_or, Some, vec_items, sym, refl, ap, ◌∙◌, ltb-true}
use Rattle.std.specs.Option.{option_map}
use Rattle.std.specs.List.{slice_get}
use Rattle.std.proofs.lemmas.Option.{slice_get_read, slice_get-map}
use Rattle.charts.specs.Pages as Pages
use Rattle.charts.specs.Pages.{kinds_of}
use Rattle.loading.specs.declared.page.Block.{Block}
use Rattle.loading.specs.declared.page.Page.{Page}
use Rattle.loading.specs.Models.{block_model, page_model}

-- the kind of a block by the rules is that of the block in memory
kind_at : (p : Page) (b : ℕ) → slice_get (kinds_of (page_model p)) b ≡ option_map (λ x. x.kind) (option_map block_model (slice_get (vec_items p.blocks) b))
kind_at p b =
    let kind_of : Pages.Block → ℕ = λ x. x.kind in
    slice_get-map kind_of (page_model p).blocks b ∙ ap (option_map kind_of) (slice_get-map block_model (vec_items p.blocks) b)

pub kind_found : (p : Page) (ys : List Block) (i b : ℕ) (x : Block) → ys ≡ vec_items p.blocks → i ≡ b → true ≡ ltb i (length ys) → x ≡ get_or ys i x → Some x.kind ≡ slice_get (kinds_of (page_model p)) b
kind_found p ys i b x same place within e =
    let kind_of : Pages.Block → ℕ = λ k. k.kind in
    let here : slice_get ys i ≡ Some x = slice_get_read ys (length ys) i x refl (ltb-true i (length ys) (sym within)) e in
    sym (kind_at p b ∙ (λ j. option_map kind_of (option_map block_model (slice_get (sym same j) (sym place j)))) ∙ ap (λ o. option_map kind_of (option_map block_model o)) here)
