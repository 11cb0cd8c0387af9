-- The pieces of a chart, one behind the other. Assumes nothing.
use Rattle.std.proofs.Common.{◌≡◌, ℕ, ◌+◌, ◌-◌, ◌<◌, ◌≤◌, List, [], ◌∷◌, ◌++◌, length, get_or, take, drop, sym, ap, ◌∙◌, arith}
use Rattle.std.specs.List.{flat_map}
use Rattle.std.proofs.lemmas.List.{append-nil, append_assoc, drop-drop, drop_all, drop_at, flat_map_more, length-append, length-drop, take_all, take_at, take_more}
use Rattle.std.proofs.lemmas.List.Folds.{flat_map-map, length-flat_map-take}
use borrow.Rule.Slice.PartMut.{put_mid}
use Rattle.charts.specs.declared.page.OutputRecord.{OutputRecord}
use Rattle.charts.specs.Charts.{block_bytes, output_bytes, written}
use Rattle.loading.specs.declared.page.Block.{Block}
use Rattle.loading.specs.declared.page.Page.{Page}
use Rattle.loading.specs.Models.{block_model, wiring, page_model}
use Rattle.saving.specs.Saving.{at_front}

-- bytes stand at the front of a buffer, and more are written at the front of what is behind them
pub behind : (old now rest x y : List ℕ) (end : ℕ) → end ≡ length x → now ≡ at_front x old → rest ≡ at_front y (take (length now - end) (drop end now)) → put_mid end (length now - end) now rest ≡ at_front (x ++ y) old
behind old now rest x y end at was writes =
    let tail : drop end now ≡ drop (length x) old = ap (drop end) was ∙ drop_at x (drop (length x) old) end (sym at) in
    let front : take end now ≡ x = ap (take end) was ∙ take_at x (drop (length x) old) end (sym at) in
    let whole : take (length now - end) (drop end now) ≡ drop end now = take_all (length now - end) (drop end now) (omega (arith, length-drop end now)) in
    let none : drop (length now - end) (drop end now) ≡ [] = drop_all (length now - end) (drop end now) (omega (arith, length-drop end now)) in
    let further = drop-drop (length y) (length x) old in
    cc (append-nil rest, append_assoc x y (drop (length x + length y) old), length-append x y)

-- the bytes of one item more
pub one_more : {X : Type 0} (f : X → List ℕ) (xs : List X) (i : ℕ) (x : X) → i < length xs → x ≡ get_or xs i x → flat_map f (take (i + 1) xs) ≡ flat_map f (take i xs) ++ f x
one_more f xs i x below is = ap (flat_map f) (take_more xs i x below ∙ ap (λ y. take i xs ++ y ∷ []) (sym is)) ∙ sym (flat_map_more f [] (take i xs) x)

-- ---- a page's blocks in memory

pub blocks_room : (bs : List Block) (i : ℕ) (b : Block) → i < length bs → b ≡ get_or bs i b → length (flat_map block_bytes (wiring (take i bs))) + length (block_bytes (block_model b)) ≤ length (flat_map block_bytes (wiring bs))
blocks_room bs i b below is =
    let room = length-flat_map-take (λ b. block_bytes (block_model b)) bs i b below in
    let before = ap length (flat_map-map block_bytes block_model (take i bs)) in
    let all = ap length (flat_map-map block_bytes block_model bs) in
    let same = ap (λ b. length (block_bytes (block_model b))) is in
    omega arith

-- the chart by its pieces
pub chart_of : (page : Page) (bs : List Block) (rs : List OutputRecord) → bs ≡ page.blocks.items → rs ≡ page.outputs.items → flat_map (λ b. block_bytes (block_model b)) bs ++ flat_map output_bytes rs ≡ written (page_model page)
chart_of page bs rs p q = ap (λ l. l ++ flat_map output_bytes rs) (sym (flat_map-map block_bytes block_model bs)) ∙ λ i. flat_map block_bytes (wiring (p i)) ++ flat_map output_bytes (q i)

pub chart_length : (page : Page) (bs : List Block) (rs : List OutputRecord) → bs ≡ page.blocks.items → rs ≡ page.outputs.items → length (flat_map (λ b. block_bytes (block_model b)) bs) + length (flat_map output_bytes rs) ≡ length (written (page_model page))
chart_length page bs rs p q = sym (length-append (flat_map (λ b. block_bytes (block_model b)) bs) (flat_map output_bytes rs)) ∙ ap length (chart_of page bs rs p q)
