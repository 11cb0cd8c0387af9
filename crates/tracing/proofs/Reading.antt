-- The lit blocks of a page, read from its last block down. Assumes nothing.
use Rattle.std.proofs.Common.{◌≡◌, ℕ, ◌+◌, ◌*◌, ◌^◌, ◌<◌, ◌≤◌, ◌&&◌, Bool, cond, List, [], ◌∷◌, ◌++◌, map, length, reverse, vec_items, refl, sym, ap, ◌∙◌, arith, pow_mono}
use Rattle.std.specs.List.{list_all}
use Rattle.std.proofs.lemmas.List.{length-map, length-append, length-reverse, reverse-append, reverse-reverse}
use Rattle.signals.specs.declared.signal.Signal.{Signal}
use Rattle.charts.specs.Tracing.{is_one, lit_block, set_of}
use Rattle.charts.proofs.Words.{set_below}
use Rattle.loading.specs.declared.page.Block.{Block}
use Rattle.loading.specs.Models.{all_cells}

-- a block is lit if all its cells are 1
pub all_lit : (cells : List Signal) → list_all is_one cells ≡ lit_block cells
all_lit [] = refl
all_lit (x ∷ xs) = ap (λ b. is_one x && b) (all_lit xs)

abbrev rows : List Block → List Bool
rows bs = map lit_block (all_cells bs)

length-rows : (bs : List Block) → length (rows bs) ≡ length bs
length-rows bs = length-map (all_cells bs) lit_block ∙ length-map bs (λ (b : Block). vec_items b.cells)

-- the set of at most 64 blocks that were read, the last one first
abbrev pub ReadSoFar : List Block → ℕ → Type 0
ReadSoFar bs set = length bs ≤ 64 → set ≡ set_of (rows (reverse bs))

-- one block more; the set of the others leaves room for one bit
pub read_more : (bs : List Block) (set more : ℕ) (b : Block) → ReadSoFar bs set → (set < 2 ^ 63 → more ≡ cond (lit_block (vec_items b.cells)) 1 0 + 2 * set) → ReadSoFar (bs ++ b ∷ []) more
read_more bs set more b before next few =
    let long = length-append bs (b ∷ []) in
    let is = before (omega arith) in
    let short : length (rows (reverse bs)) ≤ 63 = omega (arith, length-rows (reverse bs), length-reverse bs) in
    let below = set_below (rows (reverse bs)) in
    let room : set < 2 ^ 63 = omega (arith, pow_mono short) in
    next room ∙ ap (λ n. cond (lit_block (vec_items b.cells)) 1 0 + 2 * n) is ∙ ap (λ bs. set_of (rows bs)) (sym (reverse-append bs (b ∷ [])))

pub read_all : (bs : List Block) (set : ℕ) → ReadSoFar (reverse bs) set → length bs ≤ 64 → set ≡ set_of (rows bs)
read_all bs set read few = read (omega (arith, length-reverse bs)) ∙ ap (λ bs. set_of (rows bs)) (reverse-reverse bs)
