-- Terminals that are zero place by place. Assumes nothing.
use Rattle.std.proofs.Common.{◌≡◌, ℕ, zero, suc, ◌<◌, List, ◌∷◌, map, length, get_or, refl, ap, ◌∙◌, add-one}
use Rattle.std.specs.List.{range_with_len}
use Rattle.std.proofs.lemmas.List.FromFn.{fill_by_all}
use Rattle.signals.specs.Terminals.{terminal_type}
use Rattle.signals.specs.declared.signal.Signal.{Signal}
use Rattle.charts.specs.Boxes.{zero_at, zeros_from}

abbrev zero_of_terminal : ℕ → Signal
zero_of_terminal k = zero_at (terminal_type k)

zeros_are : (t n : ℕ) → map zero_of_terminal (range_with_len t n) ≡ zeros_from t n
zeros_are t zero = refl
zeros_are t (suc n) = ap (λ k. zero_of_terminal t ∷ map zero_of_terminal (range_with_len k n)) (add-one t) ∙ ap (λ zs. zero_of_terminal t ∷ zs) (zeros_are (suc t) n)

pub zeros_by_place : (xs : List Signal) (n : ℕ) (d : Signal) → length xs ≡ n → ((k : ℕ) → k < n → get_or xs k d ≡ zero_at (terminal_type k)) → xs ≡ zeros_from 0 n
zeros_by_place xs n d long each = fill_by_all zero_of_terminal xs n d long each ∙ zeros_are 0 n
