-- The set of lit blocks as a number: its bits, its size and its ones. Assumes nothing.
use Rattle.std.proofs.Common.{◌≡◌, ℕ, zero, suc, ◌+◌, ◌*◌, ◌/◌, ◌%◌, ◌^◌, ◌<◌, Bool, true, false, cond, List, [], ◌∷◌, length, Some, sym, refl, ap, ◌∙◌, subst, arith}
use native.Mathlib.Nat.{pow-succ'}
use lib.Count.{ones, ones_step}
use Rattle.std.specs.List.{slice_get}
use Rattle.std.proofs.lemmas.Nat.{shr-shr, shr_le}
use Rattle.charts.specs.Tracing.{Bit, set_of, number_lit}
use Rattle.charts.proofs.Places.{none_some}

-- the rest of a word behind its lowest bit
half : (l : Bool) (s : ℕ) → (cond l 1 0 + 2 * s) / 2 ≡ s
half true s = omega arith
half false s = omega arith

lowest : (l : Bool) (s : ℕ) → (cond l 1 0 + 2 * s) % 2 ≡ cond l 1 0
lowest true s = omega arith
lowest false s = omega arith

bit_next : (l : Bool) (s b : ℕ) → (cond l 1 0 + 2 * s) / 2 ^ suc b ≡ s / 2 ^ b
bit_next l s b = ap (λ (k : ℕ). (cond l 1 0 + 2 * s) / 2 ^ k) (omega arith) ∙ sym (shr-shr (cond l 1 0 + 2 * s) 1 b) ∙ ap (λ (x : ℕ). x / 2 ^ b) (half l s)

pub bit_nth : (ls : List Bool) (b : ℕ) → Bit (set_of ls) b → slice_get ls b ≡ Some true
bit_nth [] b e = absurd (omega (arith, shr_le 0 b))
bit_nth (true ∷ ls) zero e = refl
bit_nth (false ∷ ls) zero e = absurd (omega arith)
bit_nth (l ∷ ls) (suc b) e = bit_nth ls b (subst (λ (x : ℕ). x % 2 ≡ 1) (bit_next l (set_of ls) b) e)

pub nth_bit : (ls : List Bool) (b : ℕ) → slice_get ls b ≡ Some true → Bit (set_of ls) b
nth_bit [] b e = none_some e
nth_bit (true ∷ ls) zero e = omega arith
nth_bit (false ∷ ls) zero e = let z : ◌≡◌ {A = ℕ} 0 1 = cc in absurd (omega arith)
nth_bit (l ∷ ls) (suc b) e = subst (λ (x : ℕ). x % 2 ≡ 1) (sym (bit_next l (set_of ls) b)) (nth_bit ls b e)

pub set_below : (ls : List Bool) → set_of ls < 2 ^ length ls
set_below [] = omega arith
set_below (true ∷ ls) = let h = set_below ls in let p = pow-succ' 2 (length ls) in omega arith
set_below (false ∷ ls) = let h = set_below ls in let p = pow-succ' 2 (length ls) in omega arith

pub lit_ones : (ls : List Bool) → number_lit ls ≡ ones (set_of ls)
unfolding ones
lit_ones [] = refl
lit_ones (l ∷ ls) =
    let s = set_of ls in
    sym (ones_step (cond l 1 0 + 2 * s) ∙ ap (λ (x : ℕ). x + ones ((cond l 1 0 + 2 * s) / 2)) (lowest l s) ∙ ap (λ (x : ℕ). cond l 1 0 + ones x) (half l s) ∙ ap (λ (x : ℕ). cond l 1 0 + x) (sym (lit_ones ls)))
