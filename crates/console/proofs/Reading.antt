-- One request more of bytes, and the end of them. Assumes nothing.
use Rattle.std.proofs.Common.{◌≡◌, ℕ, ◌-◌, ◌≤◌, List, [], ◌∷◌, ◌++◌, length, get_or, take, drop, Some, None, sym, ap, ◌∙◌, subst, append_assoc, append-nil, arith}
use Rattle.std.proofs.lemmas.List.{take_rest}
use Rattle.loading.proofs.Apart.{behind_first, first_and_rest}
use Rattle.console.specs.declared.read.Ending.{Ending}
use Rattle.console.specs.declared.request.Request.{Request}
use Rattle.console.specs.Requests.{request_of, body_length, Reads, all, stop, next}

-- what the bytes hold is what was read and what the rest holds
abbrev pub RestDecides : (bytes : List ℕ) (read : List Request) (rest : List ℕ) → Type 0
RestDecides bytes read rest = (qs : List Request) (ending : Ending) → Reads rest qs ending → Reads bytes (read ++ qs) ending

pub ends : (bytes : List ℕ) (read : List Request) (rest : List ℕ) → RestDecides bytes read rest → length rest ≤ 0 → Reads bytes read Ending.Whole
ends bytes read [] inv h = subst (λ l. Reads bytes l Ending.Whole) (append-nil read) (inv [] Ending.Whole all)
ends bytes read (x ∷ xs) inv h = absurd (omega arith)

module _ (bytes : List ℕ) (read : List Request) (rest : List ℕ) (inv : RestDecides bytes read rest) (some : 1 ≤ length rest) where
  pub stops : request_of (get_or rest 0 0) (behind_first rest) ≡ None → Reads bytes read Ending.Stopped
  stops h =
      let At : List ℕ → Type 0 = λ l. Reads l [] Ending.Stopped in
      let Read : List Request → Type 0 = λ l. Reads bytes l Ending.Stopped in
      subst Read (append-nil read) (inv [] Ending.Stopped (subst At (sym (first_and_rest rest some)) (stop h)))

  pub goes_on : (q : Request) → request_of (get_or rest 0 0) (behind_first rest) ≡ Some q → (n : ℕ) → n ≡ body_length q → (items : List Request) → items ≡ read ++ q ∷ []
      → RestDecides bytes items (take (length (behind_first rest) - n) (drop n (behind_first rest)))
  goes_on q h n size items pushed qs ending more =
      let At : List ℕ → Type 0 = λ l. Reads l (q ∷ qs) ending in
      let Behind : List ℕ → Type 0 = λ l. Reads l qs ending in
      let Read : List Request → Type 0 = λ l. Reads bytes l ending in
      let behind : take (length (behind_first rest) - n) (drop n (behind_first rest)) ≡ drop (body_length q) (behind_first rest) = take_rest (behind_first rest) n ∙ ap (λ k. drop k (behind_first rest)) size in
      let one : Reads rest (q ∷ qs) ending = subst At (sym (first_and_rest rest some)) (next h (subst Behind behind more)) in
      subst Read (sym (append_assoc read (q ∷ []) qs) ∙ ap (λ l. l ++ qs) (sym pushed)) (inv (q ∷ qs) ending one)
