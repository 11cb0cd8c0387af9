-- The meanings of the standard and the house library, and that they are lawful. Assumes nothing.
use Rattle.std.specs.Prelude.{◌≡◌, ℕ, zero, suc, ◌≤◌, List, [], map, length, Some, None, Option, refl}
use Rattle.std.proofs.Common.{ap, subst, ◌∙◌, arith, lit≤}
use Rattle.std.specs.Option.{option_map}
use Rattle.std.proofs.lemmas.Option.{slice_get_past}
use Rattle.signals.specs.Signals.{type_of}
use Rattle.signals.specs.declared.signal.Signal.{Signal}
use Rattle.blocks.specs.Meanings.{Shape, Meaning, Sized, Lawful}
use Rattle.table.specs.Kinds.{standard_kinds, house_kinds, few_standard, few_house, counted_from_one, start_cells, shape_of}
use Rattle.steps.specs.Rules.{new_cells}
use Rattle.table.specs.declared.Kind.{Kind}
use Rattle.table.specs.declared.Kind.TheVariants.{And, Or, Not, Add, AddD, DivD, Lim, LimD, Pde, Ctr, Rsr, NswD, IR, RD, N2R, Hys}

-- ---- the meaning of a library of kinds that have numbers

abbrev pub start_as : Option Kind → List Signal
start_as None = []
start_as (Some k) = start_cells k

abbrev pub new_as : Option Kind → List Signal → List Signal → List Signal
new_as None ps cs = cs
new_as (Some k) ps cs = new_cells k ps cs

abbrev pub meaning_of : (ℕ → Option Kind) → Meaning
meaning_of numbered_kind = record { shape = λ n. option_map shape_of (numbered_kind n); start = λ n. start_as (numbered_kind n); new = λ n. new_as (numbered_kind n) }

-- of the kinds of a list, which count from 1
abbrev pub meaning_of_listed : List Kind → Meaning
meaning_of_listed ks = meaning_of (counted_from_one ks)

abbrev pub standard_meaning : Meaning
standard_meaning = meaning_of_listed standard_kinds

abbrev pub house_meaning : Meaning
house_meaning = meaning_of_listed house_kinds

-- ---- the law

sizes : {s : Shape} → 1 ≤ length s.pins → length s.pins ≤ 8 → 1 ≤ length s.cells → length s.cells ≤ 8 → 1 ≤ s.outputs → s.outputs ≤ length s.cells → Sized s
sizes a b c d e f = record { some_pins = a; few_pins = b; some_cells = c; few_cells = d; some_outputs = e; few_outputs = f }

some_same : {a b : Shape} → ◌≡◌ {A = Option Shape} (Some a) (Some b) → a ≡ b
some_same e = cc

kind_sized : (k : Kind) → Sized (shape_of k)
kind_sized And = sizes (lit≤ tt) (lit≤ tt) (lit≤ tt) (lit≤ tt) (lit≤ tt) (lit≤ tt)
kind_sized Or = sizes (lit≤ tt) (lit≤ tt) (lit≤ tt) (lit≤ tt) (lit≤ tt) (lit≤ tt)
kind_sized Not = sizes (lit≤ tt) (lit≤ tt) (lit≤ tt) (lit≤ tt) (lit≤ tt) (lit≤ tt)
kind_sized Add = sizes (lit≤ tt) (lit≤ tt) (lit≤ tt) (lit≤ tt) (lit≤ tt) (lit≤ tt)
kind_sized AddD = sizes (lit≤ tt) (lit≤ tt) (lit≤ tt) (lit≤ tt) (lit≤ tt) (lit≤ tt)
kind_sized DivD = sizes (lit≤ tt) (lit≤ tt) (lit≤ tt) (lit≤ tt) (lit≤ tt) (lit≤ tt)
kind_sized Lim = sizes (lit≤ tt) (lit≤ tt) (lit≤ tt) (lit≤ tt) (lit≤ tt) (lit≤ tt)
kind_sized LimD = sizes (lit≤ tt) (lit≤ tt) (lit≤ tt) (lit≤ tt) (lit≤ tt) (lit≤ tt)
kind_sized Pde = sizes (lit≤ tt) (lit≤ tt) (lit≤ tt) (lit≤ tt) (lit≤ tt) (lit≤ tt)
kind_sized Ctr = sizes (lit≤ tt) (lit≤ tt) (lit≤ tt) (lit≤ tt) (lit≤ tt) (lit≤ tt)
kind_sized Rsr = sizes (lit≤ tt) (lit≤ tt) (lit≤ tt) (lit≤ tt) (lit≤ tt) (lit≤ tt)
kind_sized NswD = sizes (lit≤ tt) (lit≤ tt) (lit≤ tt) (lit≤ tt) (lit≤ tt) (lit≤ tt)
kind_sized IR = sizes (lit≤ tt) (lit≤ tt) (lit≤ tt) (lit≤ tt) (lit≤ tt) (lit≤ tt)
kind_sized RD = sizes (lit≤ tt) (lit≤ tt) (lit≤ tt) (lit≤ tt) (lit≤ tt) (lit≤ tt)
kind_sized N2R = sizes (lit≤ tt) (lit≤ tt) (lit≤ tt) (lit≤ tt) (lit≤ tt) (lit≤ tt)
kind_sized Hys = sizes (lit≤ tt) (lit≤ tt) (lit≤ tt) (lit≤ tt) (lit≤ tt) (lit≤ tt)

-- new cells have the shape's types
kind_typed : (k : Kind) (ps cs : List Signal) → map type_of (new_cells k ps cs) ≡ (shape_of k).cells
kind_typed And ps cs = refl
kind_typed Or ps cs = refl
kind_typed Not ps cs = refl
kind_typed Add ps cs = refl
kind_typed AddD ps cs = refl
kind_typed DivD ps cs = refl
kind_typed Lim ps cs = refl
kind_typed LimD ps cs = refl
kind_typed Pde ps cs = refl
kind_typed Ctr ps cs = refl
kind_typed Rsr ps cs = refl
kind_typed NswD ps cs = refl
kind_typed IR ps cs = refl
kind_typed RD ps cs = refl
kind_typed N2R ps cs = refl
kind_typed Hys ps cs = refl

module _ (numbered_kind : ℕ → Option Kind) where
  sized_as : (o : Option Kind) (s : Shape) → option_map shape_of o ≡ Some s → Sized s
  sized_as None s e = absurd cc
  sized_as (Some k) s e = subst Sized (some_same e) (kind_sized k)

  starts_as : (o : Option Kind) (s : Shape) → option_map shape_of o ≡ Some s → map type_of (start_as o) ≡ s.cells
  starts_as None s e = absurd cc
  starts_as (Some k) s e = ap (λ t. t.cells) (some_same e)

  steps_as : (o : Option Kind) (s : Shape) (ps cs : List Signal) → option_map shape_of o ≡ Some s → map type_of (new_as o ps cs) ≡ s.cells
  steps_as None s ps cs e = absurd cc
  steps_as (Some k) s ps cs e = kind_typed k ps cs ∙ ap (λ t. t.cells) (some_same e)

  lawful_of : numbered_kind 0 ≡ None → ((n : ℕ) → 256 ≤ n → numbered_kind n ≡ None) → Lawful (meaning_of numbered_kind)
  lawful_of zero_none beyond_none = record {
    zero_none = ap (option_map shape_of) zero_none;
    beyond_none = λ n h. ap (option_map shape_of) (beyond_none n h);
    sized = λ n s e. sized_as (numbered_kind n) s e;
    starts = λ n s e. starts_as (numbered_kind n) s e;
    steps = λ n s ps cs e tp tc. steps_as (numbered_kind n) s ps cs e;
  }

few_beyond : (ks : List Kind) → length ks ≤ 255 → (n : ℕ) → 256 ≤ n → counted_from_one ks n ≡ None
few_beyond ks few zero h = refl
few_beyond ks few (suc n) h = slice_get_past ks n (omega arith)

pub listed_lawful : (ks : List Kind) → length ks ≤ 255 → Lawful (meaning_of_listed ks)
listed_lawful ks few = lawful_of (counted_from_one ks) refl (few_beyond ks few)

pub standard_lawful : Lawful standard_meaning
standard_lawful = listed_lawful standard_kinds few_standard

pub house_lawful : Lawful house_meaning
house_lawful = listed_lawful house_kinds few_house
