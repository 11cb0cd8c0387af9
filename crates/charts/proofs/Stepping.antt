-- A cycle of a sound box: no step is refused, and every block's new cells are its kind's. Assumes nothing.
use Rattle.std.proofs.Common.{◌≡◌, ℕ, zero, suc, ◌<◌, ◌≤◌, Bool, true, false, cond, ltb, ◌⊎◌, List, [], map, length, get_or, set, Some, None, Ok, Option, sym, refl, ap, ◌∙◌, ap₂, inl, inr, arith}
use Rattle.std.specs.List.{slice_get}
use Rattle.std.proofs.lemmas.List.{length-set, get_or-set_same, get_or-set_other}
use Rattle.std.proofs.lemmas.Option.{slice_get-get_or}
use Rattle.std.proofs.lemmas.Bool.{cases_eq, cases_lt, ltb-true, ltb-false}
use Rattle.signals.specs.Signals.{type_of}
use Rattle.signals.specs.declared.signal.Signal.{Signal}
use Rattle.blocks.specs.Meanings.{Meaning, Lawful, stepped}
use Rattle.charts.specs.declared.page.Source.{Source}
use Rattle.charts.specs.Pages.{Block, kinds_of}
use Rattle.charts.specs.Soundness.{SoundBlock}
use Rattle.charts.specs.Boxes.{Cells, Box, signal_at, cell_at, taken, step_of, step_at, stepped_to, cycled, seen, CycleLaw}
use Rattle.charts.specs.Laws.{TypedCells, SoundBox, NoStepRefused}
use Rattle.charts.proofs.Places.{nth_within, all_nth}
use Rattle.charts.proofs.Typings.{map_same, by_kinds, step_taken, pins_typed}

-- ---- one step

-- a step changes its own block alone
step_other : (m : Meaning) (terminals : List Signal) (o : Option Block) (i j : ℕ) (cells : Cells) (d : List Signal) → (j ≡ i → ⊥) → get_or (step_at m terminals o i cells) j d ≡ get_or cells j d
step_other m terminals None i j cells d apart = refl
step_other m terminals (Some b) i j cells d apart = get_or-set_other cells i j (step_of m terminals cells b (get_or cells i [])) d apart

step_length : (m : Meaning) (terminals : List Signal) (o : Option Block) (i : ℕ) (cells : Cells) → length (step_at m terminals o i cells) ≡ length cells
step_length m terminals None i cells = refl
step_length m terminals (Some b) i cells = length-set cells i (step_of m terminals cells b (get_or cells i []))

-- ---- the steps of a sound box

-- the cells after the first n blocks of a box have stepped
abbrev after : Meaning → Box → ℕ → Cells
after m box n = stepped_to m box.page box.terminals box.cells n

as_long : (m : Meaning) (box : Box) (n : ℕ) → length (after m box n) ≡ length box.cells
as_long m box zero = refl
as_long m box (suc n) = step_length m box.terminals (slice_get box.page.blocks n) n (after m box n) ∙ as_long m box n

-- a block's cells are old until it steps
still_old : (m : Meaning) (box : Box) (n j : ℕ) (d : List Signal) → n ≤ j → get_or (after m box n) j d ≡ get_or box.cells j d
still_old m box zero j d h = refl
still_old m box (suc n) j d h =
    step_other m box.terminals (slice_get box.page.blocks n) n j (after m box n) d (λ e. omega arith) ∙ still_old m box n j d (omega arith)

-- and new from then on
already_new : (m : Meaning) (box : Box) (n j i : ℕ) (d : List Signal) → j < i → i ≤ n → get_or (after m box n) j d ≡ get_or (after m box i) j d
already_new m box zero j i d h l = absurd (omega arith)
already_new m box (suc n) j i d h l = go (cases_lt n i) (already_new m box n j i d h)
  where
    go : (n < i) ⊎ (i ≤ n) → (i ≤ n → get_or (after m box n) j d ≡ get_or (after m box i) j d) → get_or (after m box (suc n)) j d ≡ get_or (after m box i) j d
    go (inl above) before = let same : suc n ≡ i = omega arith in ap (λ w. get_or (after m box w) j d) same
    go (inr within) before = step_other m box.terminals (slice_get box.page.blocks n) n j (after m box n) d (λ e. omega arith) ∙ before within

module _ (m : Meaning) (law : Lawful m) (limit : ℕ) (box : Box) (fine : SoundBox m limit box) where
  block_sound : (n : ℕ) (k : Block) → slice_get box.page.blocks n ≡ Some k → SoundBlock m.shape (kinds_of box.page) k
  block_sound n k at = all_nth (SoundBlock m.shape (kinds_of box.page)) box.page.blocks n k fine.page_sound.blocks_sound at

  module _ (cells : Cells) (fit : TypedCells m.shape box.page.blocks cells) (n : ℕ) (k : Block) (at : slice_get box.page.blocks n ≡ Some k) where
    feeding : map type_of (map (taken box.terminals cells) k.pins) ≡ (block_sound n k at).form.pins
    feeding =
        pins_typed m.shape (kinds_of box.page) cells (by_kinds m.shape box.page cells fit) box.terminals fine.all_terminals fine.terminals_typed
        (block_sound n k at).form.pins k.pins (block_sound n k at).fed

    holding : map type_of (get_or cells n []) ≡ (block_sound n k at).form.cells
    holding = fit n k (block_sound n k at).form at (block_sound n k at).formed

    -- the library takes the step
    step_fine : stepped m k.kind (map (taken box.terminals cells) k.pins) (get_or cells n []) ≡ (Ok tt, m.new k.kind (map (taken box.terminals cells) k.pins) (get_or cells n []))
    step_fine = step_taken m k.kind (block_sound n k at).form (map (taken box.terminals cells) k.pins) (get_or cells n []) (block_sound n k at).formed feeding holding

    new_typed : map type_of (step_of m box.terminals cells k (get_or cells n [])) ≡ (block_sound n k at).form.cells
    new_typed =
        ap (λ r. map type_of r.1) step_fine
        ∙ law.steps k.kind (block_sound n k at).form (map (taken box.terminals cells) k.pins) (get_or cells n []) (block_sound n k at).formed feeding holding

  step_typed : (cells : Cells) → length cells ≡ length box.cells → TypedCells m.shape box.page.blocks cells → (n : ℕ) (o : Option Block) → slice_get box.page.blocks n ≡ o
      → TypedCells m.shape box.page.blocks (step_at m box.terminals o n cells)
  step_typed cells long fit n None e b k s at sh = fit b k s at sh
  step_typed cells long fit n (Some x) e b k s at sh = go (cases_eq b n)
    where
      go : (b ≡ n) ⊎ (b ≡ n → ⊥) → map type_of (get_or (step_at m box.terminals (Some x) n cells) b []) ≡ s.cells
      go (inl same) =
          let below = nth_within box.page.blocks n e in
          let many = fine.as_many in
          let room : n < length cells = omega arith in
          let row = step_of m box.terminals cells x (get_or cells n []) in
          let here : get_or (set cells n row) b [] ≡ row = ap (λ w. get_or (set cells n row) w []) same ∙ get_or-set_same cells n row [] room in
          let block : ◌≡◌ {A = Option Block} (Some k) (Some x) = sym at ∙ ap (slice_get box.page.blocks) same ∙ e in
          let formed = (block_sound n x e).formed in
          let form : (block_sound n x e).form ≡ s = cc in
          ap (map type_of) here ∙ new_typed cells fit n x e ∙ ap (λ f. f.cells) form
      go (inr apart) = ap (map type_of) (step_other m box.terminals (Some x) n b cells [] apart) ∙ fit b k s at sh

  typed_after : (n : ℕ) → TypedCells m.shape box.page.blocks (after m box n)
  typed_after zero = fine.cells_typed
  typed_after (suc n) = step_typed (after m box n) (as_long m box n) (typed_after n) n (slice_get box.page.blocks n) refl

  pub none_refused : NoStepRefused m box
  none_refused n k at = ap (λ r. r.0) (step_fine (after m box n) (typed_after n) n k at)

  -- what a pin of block n takes when its turn comes is what the law says of the cells before and after the cycle
  seen_taken : (n end : ℕ) → n ≤ end → (x : Source) → taken box.terminals (after m box n) x ≡ seen box.terminals box.cells (after m box end) n x
  seen_taken n end h (Source.Constant x) = refl
  seen_taken n end h (Source.Terminal t) = refl
  seen_taken n end h (Source.Output c o) = go (ltb c n) refl
    where
      go : (w : Bool) → ltb c n ≡ w → cell_at (after m box n) c o ≡ cond w (cell_at (after m box end) c o) (cell_at box.cells c o)
      go true e = ap (λ row. signal_at row o) (sym (already_new m box end c n [] (ltb-true c n e) h))
      go false e = ap (λ row. signal_at row o) (still_old m box n c [] (ltb-false c n e))

  new_cells_at : (end b : ℕ) (k : Block) → b < end → end ≤ length box.page.blocks → slice_get box.page.blocks b ≡ Some k
      → slice_get (after m box end) b ≡ Some (m.new k.kind (map (seen box.terminals box.cells (after m box end) b) k.pins) (get_or box.cells b []))
  new_cells_at end b k h l at =
      let many = fine.as_many in
      let long = as_long m box end in
      let long_then = as_long m box b in
      let room : b < length (after m box end) = omega arith in
      let room_then : b < length (after m box b) = omega arith in
      let row = step_of m box.terminals (after m box b) k (get_or (after m box b) b []) in
      let found : slice_get (after m box end) b ≡ Some (get_or (after m box end) b []) = slice_get-get_or (after m box end) b [] room in
      let new : get_or (after m box end) b [] ≡ get_or (after m box (suc b)) b [] = already_new m box end b (suc b) [] (omega arith) (omega arith) in
      let turn : get_or (after m box (suc b)) b [] ≡ get_or (step_at m box.terminals (Some k) b (after m box b)) b [] = ap (λ o. get_or (step_at m box.terminals o b (after m box b)) b []) at in
      let here : get_or (set (after m box b) b row) b [] ≡ row = get_or-set_same (after m box b) b row [] room_then in
      let rule : row ≡ m.new k.kind (map (taken box.terminals (after m box b)) k.pins) (get_or (after m box b) b []) = ap (λ r. r.1) (step_fine (after m box b) (typed_after b) b k at) in
      let then = taken box.terminals (after m box b) in
      let by_law = seen box.terminals box.cells (after m box end) b in
      let pins : map then k.pins ≡ map by_law k.pins = map_same then by_law (seen_taken b end (omega arith)) k.pins in
      let old : get_or (after m box b) b [] ≡ get_or box.cells b [] = still_old m box b b [] (omega arith) in
      found ∙ ap Some (new ∙ turn ∙ here ∙ rule ∙ ap₂ (m.new k.kind) pins old)

  pub cycle_lawful : CycleLaw m box (cycled m box)
  cycle_lawful = record {
    same_page = refl;
    same_terminals = refl;
    as_many = as_long m box (length box.page.blocks);
    new_cells = λ b k at. new_cells_at (length box.page.blocks) b k (nth_within box.page.blocks b at) (omega arith) at;
  }

  pub cycle_keeps : SoundBox m limit (cycled m box)
  cycle_keeps = record {
    page_sound = fine.page_sound;
    as_many = as_long m box (length box.page.blocks) ∙ fine.as_many;
    cells_typed = typed_after (length box.page.blocks);
    all_terminals = fine.all_terminals;
    terminals_typed = fine.terminals_typed;
  }
