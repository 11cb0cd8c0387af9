-- Starting cells laid over old ones, one after the other. Assumes nothing.
use Rattle.std.proofs.Common.{◌≡◌, ℕ, zero, suc, ◌+◌, ◌<◌, List, [], ◌∷◌, length, get_or, take, set, Some, None, vec_items, Option, unwrap_or, sym, refl, ap, ◌∙◌, add-one}
use Rattle.std.specs.List.{slice_get}
use Rattle.std.specs.Vec.{with_items}
use Rattle.std.proofs.lemmas.List.{set-get_or}
use Rattle.signals.specs.declared.signal.Signal.{Signal}
use Rattle.blocks.specs.Meanings.{Shape, Meaning, with_shape, start_of}
use Rattle.charts.specs.Pages.{Block}
use Rattle.charts.specs.Boxes.{Cells, starting_as, starting, laid, restarted_cells}
use Rattle.charts.proofs.Places.{none_some}
use Rattle.loading.specs.declared.page.Block as Memory
use Rattle.loading.specs.declared.page.Page.{Page}
use Rattle.loading.specs.Models.{block_model, page_model, cells_model, wiring, all_cells}
use Rattle.running.proofs.NewCells.{lent_back, with_cells, wired_at, old_row, new_row}

-- what the library answers for a cell is the starting cell there
start_at : (m : Meaning) (k i : ℕ) → start_of m k i ≡ slice_get (starting m k) i
start_at m k i = go (m.shape k)
  where
    go : (o : Option Shape) → with_shape o (λ s. slice_get (m.start k) i) ≡ slice_get (starting_as o (m.start k)) i
    go None = refl
    go (Some s) = refl

-- ---- the cells of a block

laid_suc : (xs ys : List Signal) (i : ℕ) (d : Signal) → set (laid (take i xs) ys) i (unwrap_or (slice_get xs i) (get_or (laid (take i xs) ys) i d)) ≡ laid (take (suc i) xs) ys
laid_suc [] ys zero d = set-get_or ys zero d
laid_suc [] ys (suc i) d = set-get_or ys (suc i) d
laid_suc (x ∷ xs) [] zero d = refl
laid_suc (x ∷ xs) [] (suc i) d = refl
laid_suc (x ∷ xs) (y ∷ ys) zero d = refl
laid_suc (x ∷ xs) (y ∷ ys) (suc i) d = ap (λ zs. x ∷ zs) (laid_suc xs ys i d)

pub laid_more : (m : Meaning) (k : ℕ) (ys : List Signal) (i : ℕ) (d : Signal)
    → set (laid (take i (starting m k)) ys) i (unwrap_or (start_of m k i) (get_or (laid (take i (starting m k)) ys) i d)) ≡ laid (take (i + 1) (starting m k)) ys
laid_more m k ys i d =
    let cells = laid (take i (starting m k)) ys in
    ap (λ o. set cells i (unwrap_or o (get_or cells i d))) (start_at m k i) ∙ laid_suc (starting m k) ys i d ∙ ap (λ n. laid (take n (starting m k)) ys) (sym (add-one i))

pub laid_all : (xs ys : List Signal) → laid (take (length ys) xs) ys ≡ laid xs ys
laid_all [] [] = refl
laid_all [] (y ∷ ys) = refl
laid_all (x ∷ xs) [] = refl
laid_all (x ∷ xs) (y ∷ ys) = ap (λ zs. x ∷ zs) (laid_all xs ys)

-- ---- the cells of all blocks

restarted_suc : (m : Meaning) (bs : List Block) (cs : Cells) (i : ℕ) (b : Block) → slice_get bs i ≡ Some b
    → set (restarted_cells m (take i bs) cs) i (laid (starting m b.kind) (get_or (restarted_cells m (take i bs) cs) i [])) ≡ restarted_cells m (take (suc i) bs) cs
restarted_suc m [] cs i b at = none_some at
restarted_suc m (x ∷ xs) [] zero b at = refl
restarted_suc m (x ∷ xs) [] (suc i) b at = refl
restarted_suc m (x ∷ xs) (c ∷ cs) zero b at = let same : b ≡ x = cc in ap (λ k. laid (starting m k.kind) c ∷ cs) same
restarted_suc m (x ∷ xs) (c ∷ cs) (suc i) b at = ap (λ rows. laid (starting m x.kind) c ∷ rows) (restarted_suc m xs cs i b at)

-- block i of bs is restarted, and has the cells xs then, where those before it were restarted from old
pub restarted_more : (m : Meaning) (old bs : List Memory.Block) (i : ℕ) (d : Memory.Block) (xs : List Signal) → i < length bs → wiring bs ≡ wiring old
    → all_cells bs ≡ restarted_cells m (take i (wiring old)) (all_cells old) → length xs ≡ length (vec_items (get_or bs i d).cells)
    → xs ≡ laid (starting m (get_or bs i d).kind) (vec_items (get_or bs i d).cells)
    → all_cells (set bs i (with_cells (get_or bs i d) xs)) ≡ restarted_cells m (take (i + 1) (wiring old)) (all_cells old)
restarted_more m old bs i d xs lt wired rows long new =
    let start = starting m (get_or bs i d).kind in
    new_row bs i d lt xs long
    ∙ ap (set (all_cells bs) i) (new ∙ ap (laid start) (sym (old_row bs i d lt)))
    ∙ ap (λ (cs : Cells). set cs i (laid start (get_or cs i []))) rows
    ∙ restarted_suc m (wiring old) (all_cells old) i (block_model (get_or bs i d)) (ap (λ ws. slice_get ws i) (sym wired) ∙ wired_at bs i d lt)
    ∙ ap (λ n. restarted_cells m (take n (wiring old)) (all_cells old)) (sym (add-one i))

-- the blocks lent out of a page come back restarted
module _ (m : Meaning) (p : Page) (lent new : List Memory.Block) (whole : lent ≡ vec_items p.blocks) (long : length new ≡ length lent) where
  abbrev back : vec_items (with_items p.blocks new) ≡ new
  back = lent_back p lent new whole long

  pub restarted_page : wiring new ≡ wiring lent → page_model (record { blocks = with_items p.blocks new; outputs = p.outputs }) ≡ page_model p
  restarted_page same = ap (λ ws. record { blocks = ws; outputs = vec_items p.outputs }) (ap wiring back ∙ same ∙ ap wiring whole)

  pub restarted_rows : all_cells new ≡ restarted_cells m (wiring lent) (all_cells lent)
      → cells_model (record { blocks = with_items p.blocks new; outputs = p.outputs }) ≡ restarted_cells m (page_model p).blocks (cells_model p)
  restarted_rows rows = ap all_cells back ∙ rows ∙ ap (λ bs. restarted_cells m (wiring bs) (all_cells bs)) whole
