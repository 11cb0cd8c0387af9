-- Cleaning does what its laws say. Assumes nothing.
use Rattle.std.proofs.Common.{◌≡◌, zero, suc, ◌*◌, ◌^◌, Bool, true, false, cond, not, T, ◌⊎◌, ℤ, pos, negsuc, sym, refl, ap, ◌∙◌, inl, inr, true≢false, one-mul, mul-one, arith, eqb→eq}
use native.Mathlib.Nat.{pow-succ'}
use lib.Dec.{eqb-suc-zero}
use lib.Count.{count_trailing_zeros}
use lib.Ieee.{Float, nan, inf, fin, binary32, of_bits, of_fields, odd, fits, up, down}
use lib.Ieee.Bits.{of_bits-fits}
use Rattle.signals.specs.Real.{clean_real, stand_in}
use Rattle.signals.specs.Signals.{Held, type_of, clean, cleaned, Cleaning}
use Rattle.signals.specs.declared.signal.Signal.{Signal}

stand_in_clean : (x : Float) → clean_real (stand_in x) ≡ true
unfolding of_bits of_fields odd count_trailing_zeros
stand_in_clean nan = refl
stand_in_clean (inf true) = refl
stand_in_clean (inf false) = refl
stand_in_clean (fin s m e) = refl

-- by the test of a clean value
clears_by : (x : Float) (b : Bool) → clean_real x ≡ b → clean_real (cond b x (stand_in x)) ≡ true
clears_by x true u = u
clears_by x false u = stand_in_clean x

clears : (s : Signal) → clean (cleaned s) ≡ true
clears (Signal.Bool b) = refl
clears (Signal.Int n) = refl
clears (Signal.Dint n) = refl
clears (Signal.Real x) = clears_by x (clean_real x) refl

keeps : (s : Signal) → clean s ≡ true → cleaned s ≡ s
keeps (Signal.Bool b) u = refl
keeps (Signal.Int n) u = refl
keeps (Signal.Dint n) u = refl
keeps (Signal.Real x) u = ap (λ b. Signal.Real (cond b x (stand_in x))) u

typed : (s : Signal) → type_of (cleaned s) ≡ type_of s
typed (Signal.Bool b) = refl
typed (Signal.Int n) = refl
typed (Signal.Dint n) = refl
typed (Signal.Real x) = refl

stand_in_fits : (x : Float) → T (fits binary32 (stand_in x))
stand_in_fits nan = of_bits-fits binary32 0
stand_in_fits (inf true) = of_bits-fits binary32 0xFF7FFFFF
stand_in_fits (inf false) = of_bits-fits binary32 0x7F7FFFFF
stand_in_fits (fin s m e) = of_bits-fits binary32 0

holds_by : (x : Float) (b : Bool) → T (fits binary32 x) → T (fits binary32 (cond b x (stand_in x)))
holds_by x true h = h
holds_by x false h = stand_in_fits x

holds : (s : Signal) → Held s → Held (cleaned s)
holds (Signal.Bool b) h = h
holds (Signal.Int n) h = h
holds (Signal.Dint n) h = h
holds (Signal.Real x) h = holds_by x (clean_real x) h

-- a zero that the format holds is written with the exponent 0
plain : (e : ℤ) → up e * down e ≡ 1 → e ≡ pos 0
plain (pos zero) h = refl
plain (pos (suc a)) h = let k = pow-succ' 2 a in let o = mul-one (2 ^ suc a) in absurd (omega arith)
plain (negsuc a) h = let k = pow-succ' 2 a in let o = one-mul (2 ^ suc a) in absurd (omega arith)

unclean : (x : Float) → T (fits binary32 x) → clean_real x ≡ false → (x ≡ of_bits binary32 0x80000000) ⊎ (x ≡ of_bits binary32 0x7F800000) ⊎ (x ≡ of_bits binary32 0xFF800000) ⊎ (x ≡ nan)
unfolding of_bits of_fields odd fits
unclean nan h u = inr (inr (inr refl))
unclean (inf false) h u = inr (inl refl)
unclean (inf true) h u = inr (inr (inl refl))
unclean (fin true zero e) h u = inl (ap (fin true 0) (plain e (eqb→eq (up e * down e) 1 h)))
unclean (fin true (suc m) e) h u = absurd (true≢false (sym (ap not (eqb-suc-zero m)) ∙ u))
unclean (fin false m e) h u = absurd (true≢false u)

pub cleaning : Cleaning
unfolding of_bits of_fields odd
cleaning = record {
  clears = clears;
  keeps = keeps;
  typed = typed;
  holds = holds;
  unclean = unclean;
  negative_zero = refl;
  not_a_number = refl;
  infinite = refl;
  minus_infinite = refl;
}
