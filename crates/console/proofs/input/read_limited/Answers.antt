use Rattle.std.proofs.Common.{◌≡◌, ℕ, List, take, None, Some, Option, IfSome, ◌++◌, ◌∙◌, ap, arith, subst}
use Rattle.std.specs.Option.{option_map}
use Rattle.std.proofs.lemmas.List.{take-take}
use Rattle.console.proofs.input.read_limited.Goals as goal

-- what is cut to n bytes was that already
cut_again : (n : ℕ) (given : Option (List ℕ)) (bytes cut : List ℕ) → IfSome (option_map (take n) given) (λ xs. bytes ≡ xs) → cut ≡ take n bytes → IfSome given (λ xs. cut ≡ take n xs)
cut_again n None bytes cut h e = tt
cut_again n (Some xs) bytes cut h e = e ∙ ap (take n) h ∙ take-take n n xs (omega arith)

pub returns-clause-first : goal.returns-clause-first
returns-clause-first g c =
    let given = g.R.Read.remaining in
    let bytes = c.read_to_end.new.buf.items in
    let from_empty = subst (λ l. IfSome (option_map (take c.take.result.limit) (given c.take.result.inner)) (λ xs. bytes ≡ l ++ xs)) c.new-bytes.ensures.items c.in_ok-read_to_end.ensures.bytes in
    let to_limit = subst (λ n. IfSome (option_map (take n) (given c.take.result.inner)) (λ xs. bytes ≡ xs)) c.take.ensures.limit from_empty in
    let of_reader = subst (λ r. IfSome (option_map (take c.args.limit) (given r)) (λ xs. bytes ≡ xs)) c.take.ensures.inner to_limit in
    cut_again c.args.limit (given c.args.reader) bytes _ of_reader c.truncate.ensures.items
