-- One call more of a list, and what a run then holds. Assumes nothing.
use Rattle.std.proofs.Common.{◌≡◌, ℕ, ◌+◌, ◌<◌, List, [], ◌∷◌, ◌++◌, map, length, get_or, drop, Result, sym, ap, ◌∙◌, append_assoc}
use Rattle.std.proofs.lemmas.List.{drop_more, map-append}
use Rattle.blocks.specs.Meanings.{Meaning}
use Rattle.blocks.specs.Refusals.{numbered}
use Rattle.blocks.specs.declared.refusal.Refusal.{Refusal}
use Rattle.charts.specs.declared.call.Call.{Call}
use Rattle.charts.specs.declared.call.Reply.{Reply}
use Rattle.charts.specs.Boxes.{Box}
use Rattle.charts.specs.Calls.{Outcome, perform, run, answers}

module _ (m : Meaning) (x y : Box) (r : Result Reply Refusal) (cs : List Call) (i : ℕ) (d : Call) (h : i < length cs)
    (done : ◌≡◌ {A = Outcome} (numbered r, y) (perform m x (get_or cs i d))) where
  pub one_call_run : run m y (drop (i + 1) cs) ≡ run m x (drop i cs)
  one_call_run = ap (λ o. run m o.1 (drop (i + 1) cs)) done ∙ sym (ap (run m x) (drop_more cs i d h))

  one_call_answers : (numbered r ∷ answers m y (drop (i + 1) cs)) ≡ answers m x (drop i cs)
  one_call_answers = ap (λ o. o.0 ∷ answers m o.1 (drop (i + 1) cs)) done ∙ sym (ap (answers m x) (drop_more cs i d h))

  pub one_answer_more : (xs : List (Result Reply Refusal)) → map numbered (xs ++ r ∷ []) ++ answers m y (drop (i + 1) cs) ≡ map numbered xs ++ answers m x (drop i cs)
  one_answer_more xs =
      ap (λ l. l ++ answers m y (drop (i + 1) cs)) (map-append numbered xs (r ∷ [])) ∙ append_assoc (map numbered xs) (numbered r ∷ []) (answers m y (drop (i + 1) cs)) ∙ ap (λ l. map numbered xs ++ l) one_call_answers
