-- A number that tests in their order determine, or none. Assumes nothing.
use Rattle.std.proofs.Common.{◌≡◌, ℕ, Bool, true, false, cond, ◌⊎◌, Some, None, Decides, Option, sym, refl, ap, inl, inr}
use Rattle.std.proofs.lemmas.Bool.{false≢true}
use Rattle.charts.specs.Faults.{Test, NoTest}

-- T holds of the number alone, or of none
abbrev pub Determined : (ℕ → Type 0) → Option ℕ → Type 0
Determined T None = (n : ℕ) → T n → ⊥
Determined T (Some m) = T m × ((n : ℕ) → T n → n ≡ m)

pub none_left : Determined NoTest None
none_left n e = e

pub failing : (k : ℕ) (F : Type 0) (others : ℕ → Type 0) → F → Determined (Test k F others) (Some k)
failing k F others f = (inl (refl, f), λ n. elim [ inl h ↦ h.0 | inr h ↦ absurd (h.0 f) ])

pub passing : (k : ℕ) (F : Type 0) (others : ℕ → Type 0) (o : Option ℕ) → (F → ⊥) → Determined others o → Determined (Test k F others) o
passing k F others None p d = λ n. elim [ inl h ↦ absurd (p h.1) | inr h ↦ d n h.1 ]
passing k F others (Some m) p d = (inr (p, d.0), λ n. elim [ inl h ↦ absurd (p h.1) | inr h ↦ d.1 n h.1 ])

pub tested : (k : ℕ) (F : Type 0) (others : ℕ → Type 0) (o : Option ℕ) (b : Bool) → Decides b F → Determined others o → Determined (Test k F others) (cond b (Some k) o)
tested k F others o true d e = failing k F others (d.0 refl)
tested k F others o false d e = passing k F others o (λ f. false≢true (d.1 f)) e

pub determined_some : (T : ℕ → Type 0) (o : Option ℕ) (n : ℕ) → Determined T o → T n → o ≡ Some n
determined_some T None n d t = absurd (d n t)
determined_some T (Some m) n d t = ap Some (sym (d.1 n t))

pub determined_none : (T : ℕ → Type 0) (o : Option ℕ) → Determined T o → ((n : ℕ) → T n → ⊥) → o ≡ None
determined_none T None d h = refl
determined_none T (Some m) d h = absurd (h m d.0)

-- of two cases the one that is the case decides
pub in_first : (P Q : Type 0) (A B : ℕ → Type 0) (o : Option ℕ) → P → (Q → ⊥) → Determined A o → Determined (λ n. (P × A n) ⊎ (Q × B n)) o
in_first P Q A B None p q d = λ n. elim [ inl h ↦ d n h.1 | inr h ↦ absurd (q h.0) ]
in_first P Q A B (Some m) p q d = (inl (p, d.0), λ n. elim [ inl h ↦ d.1 n h.1 | inr h ↦ absurd (q h.0) ])

pub in_second : (P Q : Type 0) (A B : ℕ → Type 0) (o : Option ℕ) → (P → ⊥) → Q → Determined B o → Determined (λ n. (P × A n) ⊎ (Q × B n)) o
in_second P Q A B None p q d = λ n. elim [ inl h ↦ absurd (p h.0) | inr h ↦ d n h.1 ]
in_second P Q A B (Some m) p q d = (inr (q, d.0), λ n. elim [ inl h ↦ absurd (p h.0) | inr h ↦ d.1 n h.1 ])
