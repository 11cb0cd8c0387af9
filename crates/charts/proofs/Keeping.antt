-- A box just made is sound, and every call leaves a sound box sound. Assumes nothing.
use Rattle.std.proofs.Common.{◌≡◌, ℕ, zero, suc, ◌+◌, ◌<◌, Bool, true, false, cond, ◌&&◌, ltb, ◌⊎◌, List, [], ◌∷◌, map, length, get_or, set, Some, None, Option, sym, refl, ap, ◌∙◌, subst, inl, inr, arith}
use Rattle.std.specs.Option.{option_map}
use Rattle.std.specs.List.{AllByRecursion, slice_get}
use Rattle.std.proofs.lemmas.List.{length-set, length-map, get_or-set_same, get_or-set_other}
use Rattle.std.proofs.ByRecursion.{All-set}
use Rattle.std.proofs.lemmas.Bool.{cases_eq, and_parts, lt-ltb}
use Rattle.signals.specs.Signals.{type_of, clean, Held}
use Rattle.signals.specs.Terminals.{terminal_type}
use Rattle.signals.specs.declared.signal.Signal.{Signal}
use Rattle.signals.specs.declared.signal.SignalType.{SignalType}
use Rattle.blocks.specs.Meanings.{Shape, Meaning, Lawful, same_type, with_shape, pin_type_of}
use Rattle.blocks.proofs.Answered.{nth_map, same_type_is}
use Rattle.charts.specs.declared.call.Call.{Call}
use Rattle.charts.specs.declared.page.Source.{Source}
use Rattle.charts.specs.Pages.{Block, Page, Shapes, kinds_of, source_in, wire_type}
use Rattle.charts.specs.Charts.{written}
use Rattle.charts.specs.Soundness.{Feeds, Fed, SoundBlock, SoundOutput, Sound}
use Rattle.charts.specs.Boxes.{Cells, Box, starting, starting_as, zero_at, zeros_from, made, laid, restarted_cells, restarted, cell_at}
use Rattle.charts.specs.declared.call.Reply.{Reply}
use Rattle.charts.specs.Calls.{settled, sample_refusal, sampled, is_constant, refusal_of_type, tune_refusal, pin_type_at, with_source, missing, shown, save_refusal, perform, run}
use Rattle.charts.specs.Laws.{HeldCall, SoundBox}
use Rattle.charts.proofs.Places.{none_some, nth_within, all_nth}
use Rattle.charts.proofs.Typings.{get_or_from_nth, TypedTerminals, TypedKinds, by_kinds, by_blocks}
use Rattle.charts.proofs.Stepping.{cycle_keeps}

-- ---- a box just made

starting_typed : (m : Meaning) → Lawful m → (k : ℕ) (s : Shape) → m.shape k ≡ Some s → map type_of (starting m k) ≡ s.cells
starting_typed m law k s sh = ap (λ o. map type_of (starting_as o (m.start k))) sh ∙ law.starts k s sh

zeros_long : (t n : ℕ) → length (zeros_from t n) ≡ n
zeros_long t zero = refl
zeros_long t (suc n) = ap suc (zeros_long (suc t) n)

zero_there : (n t i : ℕ) (d : Signal) → i < n → get_or (zeros_from t n) i d ≡ zero_at (terminal_type (t + i))
zero_there zero t i d h = absurd (omega arith)
zero_there (suc n) t zero d h = ap (λ w. zero_at (terminal_type w)) (let e : t ≡ t + 0 = omega arith in e)
zero_there (suc n) t (suc i) d h = zero_there n (suc t) i d (omega arith) ∙ ap (λ w. zero_at (terminal_type w)) (let e : suc t + i ≡ t + suc i = omega arith in e)

zero_typed : (a b c d : Bool) → d ≡ true
    → let t = cond a (Some SignalType.Bool) (cond b (Some SignalType.Int) (cond c (Some SignalType.Dint) (cond d (Some SignalType.Real) None))) in
    t ≡ Some (type_of (zero_at t))
zero_typed true b c d e = refl
zero_typed false true c d e = refl
zero_typed false false true d e = refl
zero_typed false false false true e = refl
zero_typed false false false false e = let z : ◌≡◌ {A = ℕ} 0 1 = cc in absurd (omega arith)

zeros_typed : TypedTerminals (zeros_from 0 32)
zeros_typed t h =
    zero_typed (ltb t 8) (ltb t 16) (ltb t 24) (ltb t 32) (lt-ltb t 32 h)
    ∙ ap (λ x. Some (type_of x)) (sym (zero_there 32 0 t (Signal.Bool true) h ∙ ap (λ w. zero_at (terminal_type w)) (let e : 0 + t ≡ t = omega arith in e)))

pub made_sound : (m : Meaning) → Lawful m → (limit : ℕ) (page : Page) → Sound m.shape limit page → SoundBox m limit (made m page)
made_sound m law limit page fine = record {
  page_sound = fine;
  as_many = length-map page.blocks (λ b. starting m b.kind);
  cells_typed = λ b k s at sh.
      ap (map type_of) (get_or_from_nth (map (λ x. starting m x.kind) page.blocks) b [] (starting m k.kind) (sym (nth_map (λ x. starting m x.kind) page.blocks b) ∙ ap (option_map (λ x. starting m x.kind)) at))
      ∙ starting_typed m law k.kind s sh;
  all_terminals = zeros_long 0 32;
  terminals_typed = zeros_typed;
}

-- ---- restart

laid_typed : (xs old : List Signal) → map type_of xs ≡ map type_of old → map type_of (laid xs old) ≡ map type_of old
laid_typed [] old e = refl
laid_typed (x ∷ xs) [] e = refl
laid_typed (x ∷ xs) (y ∷ ys) e =
    let first : type_of x ≡ type_of y = cc in
    let rest : map type_of xs ≡ map type_of ys = cc in
    λ i. first i ∷ laid_typed xs ys rest i

restarted_long : (m : Meaning) (bs : List Block) (cells : Cells) → length (restarted_cells m bs cells) ≡ length cells
restarted_long m [] cells = refl
restarted_long m (b ∷ bs) [] = refl
restarted_long m (b ∷ bs) (c ∷ cs) = ap suc (restarted_long m bs cs)

restarted_at : (m : Meaning) (bs : List Block) (cells : Cells) (b : ℕ) (k : Block) → slice_get bs b ≡ Some k → b < length cells
    → get_or (restarted_cells m bs cells) b [] ≡ laid (starting m k.kind) (get_or cells b [])
restarted_at m [] cells b k at h = none_some at
restarted_at m (x ∷ xs) [] b k at h = absurd (omega arith)
restarted_at m (x ∷ xs) (c ∷ cs) zero k at h = let e : x ≡ k = cc in ap (λ y. laid (starting m y.kind) c) e
restarted_at m (x ∷ xs) (c ∷ cs) (suc b) k at h = restarted_at m xs cs b k at (omega arith)

restart_keeps : (m : Meaning) → Lawful m → (limit : ℕ) (box : Box) → SoundBox m limit box → SoundBox m limit (restarted m box)
restart_keeps m law limit box fine = record {
  page_sound = fine.page_sound;
  as_many = restarted_long m box.page.blocks box.cells ∙ fine.as_many;
  cells_typed = λ b k s at sh.
      let below = nth_within box.page.blocks b at in
      let many = fine.as_many in
      let old = fine.cells_typed b k s at sh in
      let room : b < length box.cells = omega arith in
      ap (map type_of) (restarted_at m box.page.blocks box.cells b k at room)
      ∙ laid_typed (starting m k.kind) (get_or box.cells b []) (starting_typed m law k.kind s sh ∙ sym old) ∙ old;
  all_terminals = fine.all_terminals;
  terminals_typed = fine.terminals_typed;
}

-- ---- sample

set_typed : (terminals : List Signal) (t : ℕ) (x : Signal) → length terminals ≡ 32 → TypedTerminals terminals → terminal_type t ≡ Some (type_of x) → TypedTerminals (set terminals t x)
set_typed terminals t x all each e n h = go (cases_eq n t)
  where
    go : (n ≡ t) ⊎ (n ≡ t → ⊥) → terminal_type n ≡ Some (type_of (get_or (set terminals t x) n (Signal.Bool true)))
    go (inl same) =
        let room : t < length terminals = omega arith in
        let here = get_or-set_same terminals t x (Signal.Bool true) room in
        cc
    go (inr apart) = each n h ∙ ap (λ y. Some (type_of y)) (sym (get_or-set_other terminals t n x (Signal.Bool true) apart))

module _ (m : Meaning) (limit : ℕ) (box : Box) (fine : SoundBox m limit box) where
  sampled_sound : (t : ℕ) (x : Signal) → terminal_type t ≡ Some (type_of x) → SoundBox m limit (sampled t x box)
  sampled_sound t x e = record {
    page_sound = fine.page_sound;
    as_many = fine.as_many;
    cells_typed = fine.cells_typed;
    all_terminals = length-set box.terminals t x ∙ fine.all_terminals;
    terminals_typed = set_typed box.terminals t x fine.all_terminals fine.terminals_typed e;
  }

  sample_keeps : (t : ℕ) (x : Signal) → SoundBox m limit (perform m box (Call.Sample t x)).1
  sample_keeps t x = typed_by (terminal_type t) refl
    where
      fitting : (u : SignalType) → terminal_type t ≡ Some u → (w : Bool) → (same_type u (type_of x) && clean x) ≡ w → SoundBox m limit (settled (cond w None (Some 11)) Reply.Done box (sampled t x box)).1
      fitting u at true e = sampled_sound t x (at ∙ ap Some (sym (same_type_is u (type_of x) (and_parts (same_type u (type_of x)) (clean x) e).0)))
      fitting u at false e = fine

      typed_by : (o : Option SignalType) → terminal_type t ≡ o → SoundBox m limit (settled (sample_refusal o x) Reply.Done box (sampled t x box)).1
      typed_by None at = fine
      typed_by (Some u) at = fitting u at (same_type u (type_of x) && clean x) refl

-- ---- tune

-- a block with another source at a pin keeps its kind
same_kinds : (bs : List Block) (b : ℕ) (k new : Block) → slice_get bs b ≡ Some k → new.kind ≡ k.kind → map (λ x. x.kind) (set bs b new) ≡ map (λ x. x.kind) bs
same_kinds [] b k new at e = none_some at
same_kinds (x ∷ xs) zero k new at e = let h : new.kind ≡ x.kind = cc in λ i. h i ∷ map (λ y. y.kind) xs
same_kinds (x ∷ xs) (suc b) k new at e = ap (λ ks. x.kind ∷ ks) (same_kinds xs b k new at e)

-- a source that feeds its pin may take the place of another
fed_set : (shapes : Shapes) (kinds : List ℕ) (ts : List SignalType) (xs : List Source) (p : ℕ) (t : SignalType) (x : Source)
    → slice_get ts p ≡ Some t → Feeds shapes kinds t x → Fed shapes kinds ts xs → Fed shapes kinds ts (set xs p x)
fed_set shapes kinds [] xs p t x at f h = none_some at
fed_set shapes kinds (u ∷ us) [] p t x at f h = absurd h
fed_set shapes kinds (u ∷ us) (y ∷ ys) zero t x at f h = (subst (λ w. Feeds shapes kinds w x) (let e : t ≡ u = cc in e) f, h.1)
fed_set shapes kinds (u ∷ us) (y ∷ ys) (suc p) t x at f h = (h.0, fed_set shapes kinds us ys p t x at f h.1)

-- a block with a constant at a pin
abbrev retuned : Block → ℕ → Signal → Block
retuned k p x = record { kind = k.kind; pins = set k.pins p (Source.Constant x) }

-- a box with that block in the place of the old one
abbrev with_block : Box → ℕ → Block → Box
with_block box b k = record { page = record { blocks = set box.page.blocks b k; outputs = box.page.outputs }; cells = box.cells; terminals = box.terminals }

module _ (m : Meaning) (limit : ℕ) (box : Box) (fine : SoundBox m limit box) (b p : ℕ) (x : Signal) where
  module _ (k : Block) (at : slice_get box.page.blocks b ≡ Some k) (fit : Feeds m.shape (kinds_of box.page) (type_of x) (Source.Constant x)) (pin : pin_type_of m k.kind p ≡ Some (type_of x)) where
    retuned_sound : SoundBlock m.shape (kinds_of box.page) (retuned k p x)
    retuned_sound =
        let h = all_nth (SoundBlock m.shape (kinds_of box.page)) box.page.blocks b k fine.page_sound.blocks_sound at in
        record {
          no_output = h.no_output;
          form = h.form;
          formed = h.formed;
          fed = fed_set m.shape (kinds_of box.page) h.form.pins k.pins p (type_of x) (Source.Constant x) (ap (λ o. with_shape o (λ s. slice_get s.pins p)) (sym h.formed) ∙ pin) fit h.fed;
        }

    tuned_kinds : kinds_of (with_block box b (retuned k p x)).page ≡ kinds_of box.page
    tuned_kinds = same_kinds box.page.blocks b k (retuned k p x) at refl

    tuned_sound : SoundBox m limit (with_block box b (retuned k p x))
    tuned_sound =
        let page = (with_block box b (retuned k p x)).page in
        let long = length-set box.page.blocks b (retuned k p x) in
        let some = fine.page_sound.some_blocks in
        let few = fine.page_sound.few_blocks in
        let each = All-set (SoundBlock m.shape (kinds_of box.page)) box.page.blocks b (retuned k p x) retuned_sound fine.page_sound.blocks_sound in
        record {
          page_sound = record {
            some_blocks = omega arith;
            few_blocks = omega arith;
            blocks_sound = subst (λ kinds. AllByRecursion (SoundBlock m.shape kinds) page.blocks) (sym tuned_kinds) each;
            outputs_sound = subst (λ kinds. AllByRecursion (SoundOutput m.shape kinds) box.page.outputs) (sym tuned_kinds) fine.page_sound.outputs_sound;
            rising = fine.page_sound.rising;
          };
          as_many = fine.as_many ∙ sym long;
          cells_typed = by_blocks m.shape page box.cells (subst (λ kinds. TypedKinds m.shape kinds box.cells) (sym tuned_kinds) (by_kinds m.shape box.page box.cells fine.cells_typed));
          all_terminals = fine.all_terminals;
          terminals_typed = fine.terminals_typed;
        }

  module _ (held : Held x) where
    tuned_fitting : (k : Block) → slice_get box.page.blocks b ≡ Some k → (t : SignalType) → pin_type_of m k.kind p ≡ Some t → (w : Bool) → (same_type t (type_of x) && clean x) ≡ w
        → SoundBox m limit (settled (cond w None (Some 11)) Reply.Done box (with_block box b (retuned k p x))).1
    tuned_fitting k at t pin true e =
        let h = and_parts (same_type t (type_of x)) (clean x) e in
        tuned_sound k at (refl, h.1, held) (pin ∙ ap Some (sym (same_type_is t (type_of x) h.0)))
    tuned_fitting k at t pin false e = fine

    tuned_typed : (k : Block) → slice_get box.page.blocks b ≡ Some k → (o : Option SignalType) → pin_type_of m k.kind p ≡ o
        → SoundBox m limit (settled (refusal_of_type o x) Reply.Done box (with_block box b (retuned k p x))).1
    tuned_typed k at None pin = fine
    tuned_typed k at (Some t) pin = tuned_fitting k at t pin (same_type t (type_of x) && clean x) refl

    tuned_constant : (k : Block) → slice_get box.page.blocks b ≡ Some k → (w : Bool) → (o : Option SignalType) → pin_type_of m k.kind p ≡ o
        → SoundBox m limit (settled (cond w (refusal_of_type o x) (Some 14)) Reply.Done box (with_block box b (retuned k p x))).1
    tuned_constant k at true o pin = tuned_typed k at o pin
    tuned_constant k at false o pin = fine

    tuned_source : (k : Block) → slice_get box.page.blocks b ≡ Some k → (s : Option Source) → (o : Option SignalType) → pin_type_of m k.kind p ≡ o
        → SoundBox m limit (settled (tune_refusal s o x) Reply.Done box (with_block box b (retuned k p x))).1
    tuned_source k at None o pin = fine
    tuned_source k at (Some s) o pin = tuned_constant k at (is_constant s) o pin

    tuned_block : (o : Option Block) → slice_get box.page.blocks b ≡ o → (kind : Option ℕ) → option_map (λ k. k.kind) o ≡ kind
        → SoundBox m limit (settled (tune_refusal (source_in o p) (pin_type_at m kind p) x) Reply.Done box
        (record { page = record { blocks = with_source o p (Source.Constant x) box.page.blocks b; outputs = box.page.outputs }; cells = box.cells; terminals = box.terminals })).1
    tuned_block None at kind e = fine
    tuned_block (Some k) at kind e = tuned_source k at (slice_get k.pins p) (pin_type_at m kind p) (ap (λ o. pin_type_at m o p) e)

    tune_keeps : SoundBox m limit (perform m box (Call.Tune b p x)).1
    tune_keeps = tuned_block (slice_get box.page.blocks b) refl (slice_get (kinds_of box.page) b) (nth_map (λ k. k.kind) box.page.blocks b)

-- ---- every call

settled_same : (m : Meaning) (limit : ℕ) (o : Option ℕ) (reply : Reply) (box : Box) → SoundBox m limit box → SoundBox m limit (settled o reply box box).1
settled_same m limit None reply box fine = fine
settled_same m limit (Some n) reply box fine = fine

shown_same : (m : Meaning) (limit : ℕ) (o : Option SignalType) (box : Box) (t : ℕ) → SoundBox m limit box → SoundBox m limit (shown o box t).1
shown_same m limit None box t fine = fine
shown_same m limit (Some u) box t fine = fine

call_keeps : (m : Meaning) → Lawful m → (limit : ℕ) (box : Box) → SoundBox m limit box → (c : Call) → HeldCall c → SoundBox m limit (perform m box c).1
call_keeps m law limit box fine (Call.Sample t x) held = sample_keeps m limit box fine t x
call_keeps m law limit box fine (Call.Tune b p x) held = tune_keeps m limit box fine b p x held
call_keeps m law limit box fine Call.Cycle held = cycle_keeps m law limit box fine
call_keeps m law limit box fine Call.Restart held = restart_keeps m law limit box fine
call_keeps m law limit box fine (Call.Read b o) held = settled_same m limit (missing (wire_type m.shape (kinds_of box.page) b o)) (Reply.Signal (cell_at box.cells b o)) box fine
call_keeps m law limit box fine (Call.Show t) held = shown_same m limit (terminal_type t) box t fine
call_keeps m law limit box fine (Call.Save room) held = settled_same m limit (save_refusal room box.page) (Reply.Bytes (length (written box.page))) box fine

-- any held calls leave a sound box sound
pub calls_keep : (m : Meaning) → Lawful m → (limit : ℕ) (calls : List Call) (box : Box) → AllByRecursion HeldCall calls → SoundBox m limit box → SoundBox m limit (run m box calls)
calls_keep m law limit [] box held fine = fine
calls_keep m law limit (c ∷ cs) box held fine = calls_keep m law limit cs (perform m box c).1 held.1 (call_keeps m law limit box fine c held.0)
