-- Types of signals at their places: what a pin takes has the pin's type, and a step on typed pins and cells is not refused. Assumes nothing.
use Rattle.std.proofs.Common.{◌≡◌, ℕ, zero, suc, ◌<◌, Bool, true, false, cond, ◌&&◌, ltb, List, [], ◌∷◌, map, length, get_or, Some, None, Ok, Err, Option, sym, refl, ap, ◌∙◌, subst, arith}
use Rattle.std.specs.Option.{option_map}
use Rattle.std.specs.List.{slice_get}
use Rattle.std.proofs.lemmas.List.{get_or_default}
use Rattle.std.proofs.lemmas.Bool.Decides.{nat_tests}
use Rattle.std.proofs.lemmas.Bool.{and_from, cond-true}
use Rattle.signals.specs.Signals.{type_of}
use Rattle.signals.specs.Terminals.{terminal_type}
use Rattle.signals.specs.declared.signal.Signal.{Signal}
use Rattle.signals.specs.declared.signal.SignalType.{SignalType}
use Rattle.blocks.specs.Meanings.{Shape, Meaning, same_type, typed, stepped_as, stepped, with_shape}
use Rattle.blocks.proofs.Answered.{nth_map, same_type_self}
use Rattle.charts.specs.declared.page.Source.{Source}
use Rattle.charts.specs.Pages.{Block, Page, Shapes, kinds_of, output_type, output_of_kind, wire_type}
use Rattle.charts.specs.Soundness.{Feeds, Fed}
use Rattle.charts.specs.Boxes.{Cells, signal_at, cell_at, taken}
use Rattle.charts.specs.Laws.{TypedCells}
use Rattle.charts.proofs.Places.{none_some}

-- ---- places of lists

-- what stands at a place is read there, whatever the default
pub get_or_from_nth : {X : Type 0} (xs : List X) (i : ℕ) (d x : X) → slice_get xs i ≡ Some x → get_or xs i d ≡ x
get_or_from_nth [] i d x e = none_some e
get_or_from_nth (y ∷ ys) zero d x e = cc
get_or_from_nth (y ∷ ys) (suc i) d x e = get_or_from_nth ys i d x e

pub map_same : {X Y : Type 0} (f g : X → Y) → ((x : X) → f x ≡ g x) → (xs : List X) → map f xs ≡ map g xs
map_same f g same [] = refl
map_same f g same (x ∷ xs) = λ i. same x i ∷ map_same f g same xs i

-- ---- the test of a step

typed_self : (xs : List Signal) → typed (map type_of xs) xs ≡ true
typed_self [] = refl
typed_self (x ∷ xs) = and_from (same_type (type_of x) (type_of x)) (typed (map type_of xs) xs) (same_type_self (type_of x)) (typed_self xs)

typed_from : (ts : List SignalType) (xs : List Signal) → map type_of xs ≡ ts → typed ts xs ≡ true
typed_from ts xs e = subst (λ us. typed us xs ≡ true) e (typed_self xs)

-- a step on pins and cells of the shape's types gives the kind's new cells
pub step_taken : (m : Meaning) (k : ℕ) (s : Shape) (ps cs : List Signal) → m.shape k ≡ Some s → map type_of ps ≡ s.pins → map type_of cs ≡ s.cells
    → stepped m k ps cs ≡ (Ok tt, m.new k ps cs)
step_taken m k s ps cs sh tp tc =
    ap (λ o. stepped_as o (m.new k) ps cs) sh
    ∙ cond-true (typed s.pins ps && typed s.cells cs) (Ok tt, m.new k ps cs) (Err 11, cs) (and_from (typed s.pins ps) (typed s.cells cs) (typed_from s.pins ps tp) (typed_from s.cells cs tc))

-- ---- terminals

-- a terminal with a type is one of the 32
pub terminal_below : (n : ℕ) (t : SignalType) → terminal_type n ≡ Some t → n < 32
terminal_below n t e = grind (arith, nat_tests)

-- every terminal holds a signal of its type
abbrev pub TypedTerminals : List Signal → Type 0
TypedTerminals terminals = (t : ℕ) → t < 32 → terminal_type t ≡ Some (type_of (get_or terminals t (Signal.Bool true)))

terminal_typed : (terminals : List Signal) → length terminals ≡ 32 → TypedTerminals terminals
    → (n : ℕ) (t : SignalType) → terminal_type n ≡ Some t → type_of (signal_at terminals n) ≡ t
terminal_typed terminals all each n t e =
    let h = terminal_below n t e in
    let k : n < length terminals = omega arith in
    let w = each n h in
    let d = get_or_default terminals n (Signal.Bool false) (Signal.Bool true) k in
    cc

-- ---- cells by the kinds of their blocks

-- the cells of each block have the types of its kind's shape
abbrev pub TypedKinds : Shapes → List ℕ → Cells → Type 0
TypedKinds shapes kinds cells = (b k : ℕ) (s : Shape) → slice_get kinds b ≡ Some k → shapes k ≡ Some s → map type_of (get_or cells b []) ≡ s.cells

kinds_at : (bs : List Block) (b k : ℕ) → slice_get (map (λ x. x.kind) bs) b ≡ Some k → (x : Block) × (slice_get bs b ≡ Some x) × (x.kind ≡ k)
kinds_at [] b k e = none_some e
kinds_at (x ∷ xs) zero k e = (x, refl, (cc))
kinds_at (x ∷ xs) (suc b) k e = kinds_at xs b k e

pub by_kinds : (shapes : Shapes) (page : Page) (cells : Cells) → TypedCells shapes page.blocks cells → TypedKinds shapes (kinds_of page) cells
by_kinds shapes page cells fit b k s at sh =
    let h = kinds_at page.blocks b k at in
    fit b h.0 s h.1 (ap shapes h.2 ∙ sh)

pub by_blocks : (shapes : Shapes) (page : Page) (cells : Cells) → TypedKinds shapes (kinds_of page) cells → TypedCells shapes page.blocks cells
by_blocks shapes page cells fit b k s at sh = fit b k.kind s (sym (nth_map (λ x. x.kind) page.blocks b) ∙ ap (option_map (λ x. x.kind)) at) sh

cell_typed : (xs : List Signal) (o : ℕ) (t : SignalType) → slice_get (map type_of xs) o ≡ Some t → type_of (signal_at xs o) ≡ t
cell_typed [] o t e = none_some e
cell_typed (x ∷ xs) zero t e = cc
cell_typed (x ∷ xs) (suc o) t e = cell_typed xs o t e

module _ (shapes : Shapes) (kinds : List ℕ) (cells : Cells) (fit : TypedKinds shapes kinds cells) where
  output_typed : (s : Shape) (b k o : ℕ) (t : SignalType) (w : Bool) → slice_get kinds b ≡ Some k → shapes k ≡ Some s → cond w (slice_get s.cells o) None ≡ Some t → type_of (cell_at cells b o) ≡ t
  output_typed s b k o t true at sh e = cell_typed (get_or cells b []) o t (ap (λ ts. slice_get ts o) (fit b k s at sh) ∙ e)
  output_typed s b k o t false at sh e = none_some e

  shaped_typed : (b k o : ℕ) (t : SignalType) (s : Option Shape) → slice_get kinds b ≡ Some k → shapes k ≡ s → with_shape s (λ f. output_type f o) ≡ Some t → type_of (cell_at cells b o) ≡ t
  shaped_typed b k o t None at sh e = none_some e
  shaped_typed b k o t (Some s) at sh e = output_typed s b k o t (ltb o s.outputs) at sh e

  kind_typed : (b o : ℕ) (t : SignalType) (k : Option ℕ) → slice_get kinds b ≡ k → output_of_kind shapes k o ≡ Some t → type_of (cell_at cells b o) ≡ t
  kind_typed b o t None at e = none_some e
  kind_typed b o t (Some k) at e = shaped_typed b k o t (shapes k) at refl e

  wire_typed : (b o : ℕ) (t : SignalType) → wire_type shapes kinds b o ≡ Some t → type_of (cell_at cells b o) ≡ t
  wire_typed b o t e = kind_typed b o t (slice_get kinds b) refl e

  -- ---- what the pins take

  module _ (terminals : List Signal) (all : length terminals ≡ 32) (each : TypedTerminals terminals) where
    taken_typed : (t : SignalType) (x : Source) → Feeds shapes kinds t x → type_of (taken terminals cells x) ≡ t
    taken_typed t (Source.Constant x) f = f.0
    taken_typed t (Source.Terminal n) f = terminal_typed terminals all each n t f
    taken_typed t (Source.Output b o) f = wire_typed b o t f

    -- each pin takes a signal of its type
    pub pins_typed : (ts : List SignalType) (xs : List Source) → Fed shapes kinds ts xs → map type_of (map (taken terminals cells) xs) ≡ ts
    pins_typed [] [] f = refl
    pins_typed [] (x ∷ xs) f = absurd f
    pins_typed (t ∷ ts) [] f = absurd f
    pins_typed (t ∷ ts) (x ∷ xs) f = λ i. taken_typed t x f.0 i ∷ pins_typed ts xs f.1 i
