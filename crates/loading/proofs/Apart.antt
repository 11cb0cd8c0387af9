-- Bytes taken apart, as a slice pattern reads them. Assumes nothing.
use Rattle.std.proofs.Common.{◌≡◌, ℕ, ◌-◌, ◌≤◌, List, [], ◌∷◌, length, get_or, take, drop, sym, ap, arith}
use Rattle.std.proofs.lemmas.List.{take_rest}

abbrev pub behind_first : List ℕ → List ℕ
behind_first xs = take (length xs - 1) (drop 1 xs)

pub first_and_rest : (xs : List ℕ) → 1 ≤ length xs → xs ≡ get_or xs 0 0 ∷ behind_first xs
first_and_rest [] h = absurd (omega arith)
first_and_rest (x ∷ xs) h = ap (λ t. x ∷ t) (sym (take_rest (x ∷ xs) 1))
