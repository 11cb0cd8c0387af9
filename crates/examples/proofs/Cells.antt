-- The cells of a block, as they are stepped. Assumes nothing.
use Rattle.std.proofs.Common.{◌≡◌, ℕ, List, ◌++◌, length, take, Result, ap, ◌∙◌}
use Rattle.std.proofs.lemmas.List.{take_at}
use Rattle.signals.specs.declared.signal.Signal.{Signal}
use Rattle.blocks.specs.Meanings.{Meaning, stepped}

-- a step in place, where the cells that were lent are the block's
module _ (m : Meaning) (k : ℕ) (ps old lent new : List Signal) (n : ℕ) (r : Result (Unit {0}) ℕ) (rest : List Signal) where
  pub stepped_in_place : length new ≡ n → lent ≡ old → ◌≡◌ {A = Result (Unit {0}) ℕ × List Signal} (r, new) (stepped m k ps lent)
      → ◌≡◌ {A = Result (Unit {0}) ℕ × List Signal} (r, take n (new ++ rest)) (stepped m k ps old)
  stepped_in_place long same e = ap (λ xs. (r, xs)) (take_at new rest n long) ∙ e ∙ ap (stepped m k ps) same
