-- One request more of a list. Assumes nothing.
use Rattle.std.proofs.Common.{◌≡◌, ℕ, ◌+◌, ◌<◌, List, ◌++◌, length, get_or, drop, sym, ap, ◌∙◌, append_assoc}
use Rattle.std.proofs.lemmas.List.{drop_more}
use Rattle.blocks.specs.Meanings.{Meaning}
use Rattle.charts.specs.Boxes.{Box}
use Rattle.charts.specs.Calls.{run}
use Rattle.console.specs.declared.line.Line.{Line}
use Rattle.console.specs.declared.request.Request.{Request}
use Rattle.console.specs.Asked.{asked}
use Rattle.console.specs.Sessions.{printed_line, calls_of, lines_of}

module _ (m : Meaning) (x y : Box) (line : Line) (qs : List Request) (i : ℕ) (d : Request) (h : i < length qs) (done : ◌≡◌ {A = Line × Box} (line, y) (asked m x (get_or qs i d))) where
  pub one_request_run : run m y (calls_of m y (drop (i + 1) qs)) ≡ run m x (calls_of m x (drop i qs))
  one_request_run = ap (λ o. run m o.1 (calls_of m o.1 (drop (i + 1) qs))) done ∙ sym (ap (λ l. run m x (calls_of m x l)) (drop_more qs i d h))

  one_request_lines : printed_line line ++ lines_of m y (drop (i + 1) qs) ≡ lines_of m x (drop i qs)
  one_request_lines = ap (λ o. printed_line o.0 ++ lines_of m o.1 (drop (i + 1) qs)) done ∙ sym (ap (lines_of m x) (drop_more qs i d h))

  pub one_line_more : (text : List ℕ) → text ++ printed_line line ++ lines_of m y (drop (i + 1) qs) ≡ text ++ lines_of m x (drop i qs)
  one_line_more text = append_assoc text (printed_line line) (lines_of m y (drop (i + 1) qs)) ∙ ap (λ l. text ++ l) one_request_lines
