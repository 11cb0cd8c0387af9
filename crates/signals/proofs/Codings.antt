-- The coding of signals keeps what its laws say. Assumes nothing.
use Rattle.std.proofs.Common.{◌≡◌, ℕ, ◌+◌, ◌*◌, ◌/◌, ◌%◌, ◌^◌, ◌<◌, Bool, true, false, cond, not, T, eqb, List, [], ◌∷◌, ℤ, Some, None, sym, refl, ap, ◌∙◌, subst, mod-eq_of_lt, arith, w16, w32, SFits, to_z}
use native.Mathlib.Nat.{div-div-eq-div-mul}
use lib.Ieee.{Float, nan, inf, fin, binary32, of_bits, to_bits, is_nan}
use lib.Ieee.Bits.{of_bits-to_bits, to_bits-of_bits, to_bits-lt, of_bits-fits}
use mir.Facts.{sfits_to_z}
use Rattle.std.proofs.lemmas.Int.{ints, to_z-of_z, of_z-to_z}
use Rattle.std.proofs.lemmas.Bool.Decides.{nat_tests}
use Rattle.signals.specs.Coding.{word, bytes_of, word_of, in_int, at_type, encoded, FourBytes, Outside, CodingFaithful}
use Rattle.signals.specs.Signals.{type_of, Held}
use Rattle.signals.specs.declared.signal.Signal.{Signal}
use Rattle.signals.specs.declared.signal.SignalType.{SignalType}

-- four bytes and 32 bits are the same
word_bytes : (n : ℕ) → n < 2 ^ 32 → word_of (bytes_of n) ≡ n
word_bytes n h =
    let a : n / 256 / 256 ≡ n / 65536 = div-div-eq-div-mul n 256 256 in
    let b : n / 65536 / 256 ≡ n / 16777216 = div-div-eq-div-mul n 65536 256 in
    let small : n / 16777216 < 256 = omega arith in
    let top = mod-eq_of_lt small in
    omega arith

abbrev Whole : List ℕ → Type 0
Whole bs = (bytes_of (word_of bs) ≡ bs) × (word_of bs < 2 ^ 32)

whole : (bs : List ℕ) → FourBytes bs → Whole bs
whole [] h = absurd (omega (arith, h.0))
whole (a ∷ []) h = absurd (omega (arith, h.0))
whole (a ∷ b ∷ []) h = absurd (omega (arith, h.0))
whole (a ∷ b ∷ c ∷ []) h = absurd (omega (arith, h.0))
whole (a ∷ b ∷ c ∷ d ∷ []) h =
    let ha : a < 256 = h.1.0 in
    let hb : b < 256 = h.1.1.0 in
    let hc : c < 256 = h.1.1.1.0 in
    let hd : d < 256 = h.1.1.1.1.0 in
    let n = a * 16777216 + b * 65536 + c * 256 + d in
    let pa : n / 16777216 % 256 ≡ a = omega arith in
    let pb : n / 65536 % 256 ≡ b = omega arith in
    let pc : n / 256 % 256 ≡ c = omega arith in
    let pd : n % 256 ≡ d = omega arith in
    (cc, omega arith)
whole (a ∷ b ∷ c ∷ d ∷ e ∷ r) h = absurd (omega (arith, h.0))

word_lt : (s : Signal) → Held s → word s < 2 ^ 32
word_lt (Signal.Bool true) h = omega arith
word_lt (Signal.Bool false) h = omega arith
word_lt (Signal.Int n) h = omega (arith, ints)
word_lt (Signal.Dint n) h = omega (arith, ints)
word_lt (Signal.Real x) h = to_bits-lt binary32 x h

int_in : (n : ℤ) → SFits w16 n → in_int n ≡ true
int_in n h = grind (arith, ints, nat_tests)

in_int_fits : (n : ℤ) → in_int n ≡ true → SFits w16 n
in_int_fits n h = record { sfits = grind (arith, ints, nat_tests) }

wide : (n : ℤ) → SFits w16 n → SFits w32 n
wide n h = record { sfits = omega (arith, h.sfits) }

word_back : (s : Signal) → Held s → at_type (type_of s) (word s) ≡ Some s
word_back (Signal.Bool true) h = refl
word_back (Signal.Bool false) h = refl
word_back (Signal.Int n) h = let f = wide n h in let i = int_in n h in rw (to_z-of_z w32 n f, i)
word_back (Signal.Dint n) h = rw (to_z-of_z w32 n h)
word_back (Signal.Real x) h = rw (of_bits-to_bits binary32 x h)

-- what a signal that 32 bits are read as has to do with them
abbrev Read : SignalType → ℕ → Signal → Type 0
Read t n s = (type_of s ≡ t) × Held s × ((s ≡ Signal.Real nan → ⊥) → word s ≡ n)

read_bool : (n : ℕ) (s : Signal) (p q : Bool) → eqb n 0 ≡ p → eqb n 1 ≡ q → cond p (Some (Signal.Bool false)) (cond q (Some (Signal.Bool true)) None) ≡ Some s → Read SignalType.Bool n s
read_bool n s true q u v e =
    let z : n ≡ 0 = grind (arith, nat_tests) in
    let k : Signal.Bool false ≡ s = cc in
    subst (Read SignalType.Bool n) k (refl, tt, λ _. sym z)
read_bool n s false true u v e =
    let z : n ≡ 1 = grind (arith, nat_tests) in
    let k : Signal.Bool true ≡ s = cc in
    subst (Read SignalType.Bool n) k (refl, tt, λ _. sym z)
read_bool n s false false u v e = let z : ◌≡◌ {A = ℕ} 0 1 = cc in absurd (omega arith)

read_int : (n : ℕ) (s : Signal) (p : Bool) → n < 2 ^ 32 → in_int (to_z w32 n) ≡ p → cond p (Some (Signal.Int (to_z w32 n))) None ≡ Some s → Read SignalType.Int n s
read_int n s true h u e =
    let k : Signal.Int (to_z w32 n) ≡ s = cc in
    subst (Read SignalType.Int n) k (refl, in_int_fits (to_z w32 n) u, λ _. of_z-to_z w32 n h)
read_int n s false h u e = let z : ◌≡◌ {A = ℕ} 0 1 = cc in absurd (omega arith)

not_nan : (x : Float) → (x ≡ nan → ⊥) → T (not (is_nan x))
unfolding is_nan
not_nan nan h = h refl
not_nan (inf s) h = tt
not_nan (fin s m e) h = tt

read : (t : SignalType) (n : ℕ) (s : Signal) → n < 2 ^ 32 → at_type t n ≡ Some s → Read t n s
read SignalType.Bool n s h e = read_bool n s (eqb n 0) (eqb n 1) refl refl e
read SignalType.Int n s h e = read_int n s (in_int (to_z w32 n)) h refl e
read SignalType.Dint n s h e =
    let k : Signal.Dint (to_z w32 n) ≡ s = cc in
    subst (Read SignalType.Dint n) k (refl, sfits_to_z (record { fits = h }), λ _. of_z-to_z w32 n h)
read SignalType.Real n s h e =
    let k : Signal.Real (of_bits binary32 n) ≡ s = cc in
    subst (Read SignalType.Real n) k (refl, of_bits-fits binary32 n, λ a. to_bits-of_bits binary32 n h (not_nan (of_bits binary32 n) (λ z. a (ap Signal.Real z))))

none_outside : (t : SignalType) (n : ℕ) → n < 2 ^ 32 → at_type t n ≡ None → Outside t (to_z w32 n)
none_outside SignalType.Bool n h e = (λ z. grind (arith, ints, nat_tests), λ z. grind (arith, ints, nat_tests))
none_outside SignalType.Int n h e = grind (arith, ints, nat_tests)
none_outside SignalType.Dint n h e = let z : ◌≡◌ {A = ℕ} 0 1 = cc in absurd (omega arith)
none_outside SignalType.Real n h e = let z : ◌≡◌ {A = ℕ} 0 1 = cc in absurd (omega arith)

outside_none : (t : SignalType) (n : ℕ) → n < 2 ^ 32 → Outside t (to_z w32 n) → at_type t n ≡ None
outside_none SignalType.Bool n h o = grind (arith, ints, nat_tests)
outside_none SignalType.Int n h o = grind (arith, ints, nat_tests)
outside_none SignalType.Dint n h o = absurd o
outside_none SignalType.Real n h o = absurd o

nan_bytes : encoded (Signal.Real nan) ≡ 0x7F ∷ 0xC0 ∷ 0x00 ∷ 0x00 ∷ []
unfolding to_bits
nan_bytes = refl

byte : (n : ℕ) → n % 256 < 256
byte n = omega arith

pub coding_faithful : CodingFaithful
coding_faithful = record {
  four = λ s. let w = word s in (refl, (byte (w / 16777216), (byte (w / 65536), (byte (w / 256), (byte w, tt)))));
  high_first = refl;
  minus_two = refl;
  back = λ s h. rw (word_bytes (word s) (word_lt s h)) (word_back s h);
  again = λ t bs s h e a. let w = whole bs h in let r = read t (word_of bs) s w.1 e in ap bytes_of (r.2 a) ∙ w.0;
  not_a_number = nan_bytes;
  typed = λ t bs s h e. let r = read t (word_of bs) s (whole bs h).1 e in (r.0, r.1);
  refused = λ t bs h e. none_outside t (word_of bs) (whole bs h).1 e;
  outside = λ t bs h o. outside_none t (word_of bs) (whole bs h).1 o;
}
