-- What a test has answered, where its fault is made a refusal. Assumes nothing.
use Rattle.std.proofs.Common.{◌≡◌, ℕ, IsErrAnd, MatchResult, Ok, Err, Result, sym, refl, ap, ◌∙◌, subst, arith}
use Rattle.std.specs.Prelude.{IfOk}
use Rattle.std.proofs.lemmas.Result.{err_from_is_err_and}
use Rattle.loading.specs.declared.fault.Fault.{Fault}
use Rattle.loading.specs.declared.fault.LoadError.{LoadError}

-- what a fault makes of a result
abbrev Refuses : {T : Type 0} → ℕ → Result T Fault → Result T LoadError → Type 0
Refuses place s r = MatchResult s (λ x. r ≡ Ok x) (λ f. r ≡ Err (LoadError.Refused f place))

module _ {T : Type 0} (place : ℕ) where
  pub passed : (s : Result T Fault) (n : T) → Refuses place s (Ok n) → s ≡ Ok n
  passed (Ok x) n e = let same : n ≡ x = cc (e) in ap Ok (sym same)
  passed (Err f) n e = let clash : ◌≡◌ {A = ℕ} 0 1 = cc (e) in absurd (omega arith)

  pub failed : (s : Result T Fault) (e : LoadError) → Refuses place s (Err e) → (f : Fault) × (s ≡ Err f) × (e ≡ LoadError.Refused f place)
  failed (Ok x) e q = let clash : ◌≡◌ {A = ℕ} 0 1 = cc (q) in absurd (omega arith)
  failed (Err f) e q = let same : e ≡ LoadError.Refused f place = cc (q) in (f, refl, same)

-- what a test that is passed says of its answer
pub at_ok : {T E : Type 0} (s : Result T E) (n : T) (P : T → Type 0) → s ≡ Ok n → IfOk s P → P n
at_ok s n P e h = subst (λ r. IfOk r P) e h

-- an error that goes up by ?
pub sent_on : {U : Type 0} (r : Result U LoadError) (e : LoadError) → IsErrAnd r (λ d. d ≡ e) → r ≡ Err e
sent_on r e h = let p = err_from_is_err_and r h in p.1 ∙ ap Err p.2
