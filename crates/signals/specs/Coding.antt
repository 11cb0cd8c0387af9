-- A signal in four bytes, high byte first, and what the coding keeps. Assumes nothing.
use Rattle.std.specs.Prelude.{◌≡◌, ℕ, ◌+◌, ◌*◌, ◌/◌, ◌%◌, ◌<◌, Bool, true, false, cond, ◌&&◌, ◌⊎◌, List, [], ◌∷◌, length, ℤ, pos, negsuc, ◌<ℤ◌, Some, None, Option, ◌==◌, ◌≢◌, from_bits, int_le, slice_index, to_bits}
use Rattle.std.specs.Float.{binary32, nan}
use Rattle.std.specs.Int.{w32}
use Rattle.std.proofs.Common.{of_z, to_z}
use Rattle.signals.specs.Signals.{type_of, Held}
use Rattle.signals.specs.declared.signal.Signal.{Signal}
use Rattle.signals.specs.declared.signal.SignalType.{SignalType}
use Rattle.std.specs.List.{AllByRecursion}

-- The 32 bits of a signal: a two's complement number, for REAL its pattern. What is not a number has the pattern 7FC00000.
abbrev pub word : Signal → ℕ
word (Signal.Bool b) = cond b 1 0
word (Signal.Int n) = of_z w32 n
word (Signal.Dint n) = of_z w32 n
word (Signal.Real x) = to_bits binary32 x

abbrev pub bytes_of : ℕ → List ℕ
bytes_of n = (n / 16777216 % 256) ∷ (n / 65536 % 256) ∷ (n / 256 % 256) ∷ (n % 256) ∷ []

abbrev pub encoded : Signal → List ℕ
encoded s = bytes_of (word s)

abbrev pub word_of : List ℕ → ℕ
word_of bs = slice_index bs 0 * 16777216 + slice_index bs 1 * 65536 + slice_index bs 2 * 256 + slice_index bs 3

abbrev pub in_int : ℤ → Bool
in_int n = int_le (negsuc 32767) n && int_le n (pos 32767)

-- the signal of a type that 32 bits stand for, none where the number lies outside the type
abbrev pub at_type : SignalType → ℕ → Option Signal
at_type SignalType.Bool n = cond (n == 0) (Some (Signal.Bool false)) (cond (n == 1) (Some (Signal.Bool true)) None)
at_type SignalType.Int n = cond (in_int (to_z w32 n)) (Some (Signal.Int (to_z w32 n))) None
at_type SignalType.Dint n = Some (Signal.Dint (to_z w32 n))
at_type SignalType.Real n = Some (Signal.Real (from_bits binary32 n))

abbrev pub decoded : SignalType → List ℕ → Option Signal
decoded t bs = at_type t (word_of bs)

abbrev pub FourBytes : List ℕ → Type 0
FourBytes bs = (length bs ≡ 4) × AllByRecursion (λ b. b < 256) bs

-- four bytes as a two's complement number
abbrev pub number_of : List ℕ → ℤ
number_of bs = to_z w32 (word_of bs)

-- The 32-bit numbers that are no value of a type: any pattern is a REAL.
abbrev pub Outside : SignalType → ℤ → Type 0
Outside SignalType.Bool n = (n ≢ pos 0) × (n ≢ pos 1)
Outside SignalType.Int n = (n <ℤ negsuc 32767) ⊎ (pos 32767 <ℤ n)
Outside SignalType.Dint n = ⊥
Outside SignalType.Real n = ⊥

-- Nothing is lost in the coding.
pub record CodingFaithful : Type 0 where
  -- An encoding is four bytes.
  pub four : (s : Signal) → FourBytes (encoded s)
  -- The high byte comes first.
  pub high_first : encoded (Signal.Dint (pos 0x01020304)) ≡ 0x01 ∷ 0x02 ∷ 0x03 ∷ 0x04 ∷ []
  -- A negative number is in two's complement.
  pub minus_two : encoded (Signal.Int (negsuc 1)) ≡ 0xFF ∷ 0xFF ∷ 0xFF ∷ 0xFE ∷ []
  -- A signal that the machine holds, decoded at its type from its encoding, is itself.
  pub back : (s : Signal) → Held s → decoded (type_of s) (encoded s) ≡ Some s
  -- Four bytes are the encoding of what they decode to, unless that is not a number.
  pub again : (t : SignalType) (bs : List ℕ) (s : Signal) → FourBytes bs → decoded t bs ≡ Some s → (s ≢ Signal.Real nan) → encoded s ≡ bs
  -- What is not a number has the one encoding 7FC00000.
  pub not_a_number : encoded (Signal.Real nan) ≡ 0x7F ∷ 0xC0 ∷ 0x00 ∷ 0x00 ∷ []
  -- What decodes at a type has that type, and the machine holds it.
  pub typed : (t : SignalType) (bs : List ℕ) (s : Signal) → FourBytes bs → decoded t bs ≡ Some s → (type_of s ≡ t) × Held s
  -- Four bytes that decode to none hold a number outside the type.
  pub refused : (t : SignalType) (bs : List ℕ) → FourBytes bs → decoded t bs ≡ None → Outside t (number_of bs)
  -- A number outside the type decodes to none.
  pub outside : (t : SignalType) (bs : List ℕ) → FourBytes bs → Outside t (number_of bs) → decoded t bs ≡ None
