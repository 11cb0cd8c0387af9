-- Each layer keeps the law of a library. Assumes nothing.
use Rattle.std.specs.Prelude.{◌≡◌, ℕ, ◌-◌, Bool, true, false, cond, ◌||◌, T, List, [], ◌∷◌, map, Some, None, Option, nat_lt, refl}
use Rattle.std.proofs.Common.{ap, ◌∙◌, arith, ltb→lt}
use Rattle.signals.specs.Signals.{type_of, zero_of, one_of, cleaned}
use Rattle.signals.specs.declared.signal.Signal.{Signal}
use Rattle.signals.specs.declared.signal.SignalType.{SignalType}
use Rattle.blocks.specs.Meanings.{Shape, Meaning, Sized, Lawful}
use Rattle.blocks.specs.Layers.{paired, cleaned_meaning, lamp_meaning, lamp, any_lit, cell_types}

none_some : {P : Type 0} {s : Shape} → ◌≡◌ {A = Option Shape} None (Some s) → P
none_some e = let z : ◌≡◌ {A = ℕ} 0 1 = cc in absurd (omega arith)

-- ---- the pair: b and c are the tests for a kind below 128 and below 256

module _ {m n : Meaning} (p : Lawful m) (q : Lawful n) where
  beyond_at : (b c : Bool) (k j : ℕ) → (T b → ⊥) → (T c → ⊥) → cond b (m.shape k) (cond c (n.shape j) None) ≡ None
  beyond_at true c k j out far = absurd (out tt)
  beyond_at false true k j out far = absurd (far tt)
  beyond_at false false k j out far = refl

  sized_at : (b c : Bool) (k j : ℕ) (s : Shape) → cond b (m.shape k) (cond c (n.shape j) None) ≡ Some s → Sized s
  sized_at true c k j s e = p.sized k s e
  sized_at false true k j s e = q.sized j s e
  sized_at false false k j s e = none_some e

  starts_at : (b c : Bool) (k j : ℕ) (s : Shape) → cond b (m.shape k) (cond c (n.shape j) None) ≡ Some s → map type_of (cond b (m.start k) (n.start j)) ≡ s.cells
  starts_at true c k j s e = p.starts k s e
  starts_at false true k j s e = q.starts j s e
  starts_at false false k j s e = none_some e

  steps_at : (b c : Bool) (k j : ℕ) (s : Shape) (ps cs : List Signal) → cond b (m.shape k) (cond c (n.shape j) None) ≡ Some s → map type_of ps ≡ s.pins → map type_of cs ≡ s.cells
      → map type_of (cond b (m.new k) (n.new j) ps cs) ≡ s.cells
  steps_at true c k j s ps cs e = p.steps k s ps cs e
  steps_at false true k j s ps cs e = q.steps j s ps cs e
  steps_at false false k j s ps cs e = none_some e

  pub paired_lawful : Lawful (paired m n)
  paired_lawful = record {
    zero_none = p.zero_none;
    beyond_none = λ k h. beyond_at (nat_lt k 128) (nat_lt k 256) k (k - 128) (λ t. omega (arith, ltb→lt k 128 t)) (λ t. omega (arith, ltb→lt k 256 t));
    sized = λ k s e. sized_at (nat_lt k 128) (nat_lt k 256) k (k - 128) s e;
    starts = λ k s e. starts_at (nat_lt k 128) (nat_lt k 256) k (k - 128) s e;
    steps = λ k s ps cs e. steps_at (nat_lt k 128) (nat_lt k 256) k (k - 128) s ps cs e;
  }

-- ---- what a layer makes of cells keeps their types

map_keeps : (f : Signal → Signal) → ((x : Signal) → type_of (f x) ≡ type_of x) → (xs : List Signal) → map type_of (map f xs) ≡ map type_of xs
map_keeps f same [] = refl
map_keeps f same (x ∷ xs) = λ i. same x i ∷ map_keeps f same xs i

cleaned_type : (x : Signal) → type_of (cleaned x) ≡ type_of x
cleaned_type (Signal.Bool b) = refl
cleaned_type (Signal.Int n) = refl
cleaned_type (Signal.Dint n) = refl
cleaned_type (Signal.Real x) = refl

zero_type : (t : SignalType) → type_of (zero_of t) ≡ t
zero_type SignalType.Bool = refl
zero_type SignalType.Int = refl
zero_type SignalType.Dint = refl
zero_type SignalType.Real = refl

one_type : (t : SignalType) → type_of (one_of t) ≡ t
one_type SignalType.Bool = refl
one_type SignalType.Int = refl
one_type SignalType.Dint = refl
one_type SignalType.Real = refl

lamp_type : (b : Bool) (x : Signal) → type_of (lamp b x) ≡ type_of x
lamp_type true x = one_type (type_of x)
lamp_type false x = zero_type (type_of x)

zeros_type : (ts : List SignalType) → map type_of (map zero_of ts) ≡ ts
zeros_type [] = refl
zeros_type (t ∷ ts) = λ i. zero_type t i ∷ zeros_type ts i

pub cleaned_lawful : {m : Meaning} → Lawful m → Lawful (cleaned_meaning m)
cleaned_lawful {m} p = record {
  zero_none = p.zero_none;
  beyond_none = p.beyond_none;
  sized = p.sized;
  starts = λ k s e. map_keeps cleaned cleaned_type (m.start k) ∙ p.starts k s e;
  steps = λ k s ps cs e tp tc. map_keeps cleaned cleaned_type (m.new k ps cs) ∙ p.steps k s ps cs e tp tc;
}

pub lamp_lawful : {m : Meaning} → Lawful m → Lawful (lamp_meaning m)
lamp_lawful {m} p = record {
  zero_none = p.zero_none;
  beyond_none = p.beyond_none;
  sized = p.sized;
  starts = λ k s e. ap (λ o. map type_of (map zero_of (cell_types o))) e ∙ zeros_type s.cells;
  steps = λ k s ps cs e tp tc. map_keeps (lamp (any_lit ps || any_lit cs)) (lamp_type (any_lit ps || any_lit cs)) cs ∙ tc;
}
