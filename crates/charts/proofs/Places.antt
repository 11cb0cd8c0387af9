-- What stands at a place of a list that is made of another. Assumes nothing.
use Rattle.std.proofs.Common.{◌≡◌, ℕ, zero, suc, ◌<◌, ◌⊎◌, List, [], ◌∷◌, map, length, get_or, set, Some, None, Option, unwrap_or, sym, refl, ap, ◌∙◌, subst, inl, inr, arith}
use Rattle.std.specs.Option.{option_map}
use Rattle.std.specs.List.{AllByRecursion, slice_get}
use Rattle.blocks.proofs.Answered as Answered
use Rattle.std.proofs.lemmas.Bool.{cases_eq}

pub none_some : {P : Type 0} {X : Type 0} {x : X} → ◌≡◌ {A = Option X} None (Some x) → P
none_some e = let z : ◌≡◌ {A = ℕ} 0 1 = cc in absurd (omega arith)

pub nth_map : {X Y : Type 0} (f : X → Y) (xs : List X) (i : ℕ) → slice_get (map f xs) i ≡ option_map f (slice_get xs i)
nth_map f xs i = sym (Answered.nth_map f xs i)

pub nth_within : {X : Type 0} {x : X} (xs : List X) (i : ℕ) → slice_get xs i ≡ Some x → i < length xs
nth_within [] i e = none_some e
nth_within (x ∷ xs) zero e = omega arith
nth_within (x ∷ xs) (suc i) e = omega (arith, nth_within xs i e)

pub nth_some : {X : Type 0} (xs : List X) (i : ℕ) → i < length xs → (x : X) × (slice_get xs i ≡ Some x)
nth_some [] i h = absurd (omega arith)
nth_some (x ∷ xs) zero h = (x, refl)
nth_some (x ∷ xs) (suc i) h = nth_some xs i (omega arith)

pub all_nth : {X : Type 0} (P : X → Type 0) (xs : List X) (i : ℕ) (x : X) → AllByRecursion P xs → slice_get xs i ≡ Some x → P x
all_nth P [] i x a e = none_some e
all_nth P (y ∷ ys) zero x a e = let same : y ≡ x = cc in subst P same a.0
all_nth P (y ∷ ys) (suc i) x all e = all_nth P ys i x all.1 e

pub get_or_by_nth : {X : Type 0} (xs : List X) (i : ℕ) (d : X) → get_or xs i d ≡ unwrap_or (slice_get xs i) d
get_or_by_nth [] i d = refl
get_or_by_nth (x ∷ xs) zero d = refl
get_or_by_nth (x ∷ xs) (suc i) d = get_or_by_nth xs i d

-- two lists alike at a place give the same element there
pub get_or_alike : {X : Type 0} (xs ys : List X) (i : ℕ) (d : X) → slice_get xs i ≡ slice_get ys i → get_or xs i d ≡ get_or ys i d
get_or_alike xs ys i d e = get_or_by_nth xs i d ∙ ap (λ o. unwrap_or o d) e ∙ sym (get_or_by_nth ys i d)

-- ---- after a set

pub nth_set_same : {X : Type 0} (xs : List X) (i : ℕ) (y : X) → slice_get (set xs i y) i ≡ option_map (λ _. y) (slice_get xs i)
nth_set_same [] i y = refl
nth_set_same (x ∷ xs) zero y = refl
nth_set_same (x ∷ xs) (suc i) y = nth_set_same xs i y

pub nth_set_other : {X : Type 0} (xs : List X) (i j : ℕ) (y : X) → (j ≡ i → ⊥) → slice_get (set xs i y) j ≡ slice_get xs j
nth_set_other [] i j y n = refl
nth_set_other (x ∷ xs) zero zero y n = absurd (n refl)
nth_set_other (x ∷ xs) zero (suc j) y n = refl
nth_set_other (x ∷ xs) (suc i) zero y n = refl
nth_set_other (x ∷ xs) (suc i) (suc j) y n = nth_set_other xs i j y (λ e. n (ap suc e))

-- two lists alike at a place are so after the same element is set in both, there or elsewhere
pub set_alike : {X : Type 0} (xs ys : List X) (i j : ℕ) (y z : X) → slice_get xs j ≡ slice_get ys j → (j ≡ i → y ≡ z) → slice_get (set xs i y) j ≡ slice_get (set ys i z) j
set_alike {X} xs ys i j y z e same = go (cases_eq j i)
  where
    go : (j ≡ i) ⊎ (j ≡ i → ⊥) → slice_get (set xs i y) j ≡ slice_get (set ys i z) j
    go (inl p) =
        ap (λ k. slice_get (set xs k y) j) (sym p) ∙ nth_set_same xs j y ∙ (λ h. option_map (λ _. same p h) (e h)) ∙ sym (nth_set_same ys j z) ∙ ap (λ k. slice_get (set ys k z) j) p
    go (inr n) = nth_set_other xs i j y n ∙ e ∙ sym (nth_set_other ys i j z n)

-- to set a place to what it holds changes nothing
pub set_held : {X : Type 0} (xs : List X) (i : ℕ) (y : X) → slice_get xs i ≡ Some y → set xs i y ≡ xs
set_held [] i y e = refl
set_held (x ∷ xs) zero y e = let h : y ≡ x = cc in ap (λ z. z ∷ xs) h
set_held (x ∷ xs) (suc i) y e = ap (λ zs. x ∷ zs) (set_held xs i y e)

pub map_alike : {X Y : Type 0} (f g : X → Y) (xs : List X) → ((i : ℕ) (x : X) → slice_get xs i ≡ Some x → f x ≡ g x) → map f xs ≡ map g xs
map_alike f g [] h = refl
map_alike f g (x ∷ xs) h = λ i. h 0 x refl i ∷ map_alike f g xs (λ j y e. h (suc j) y e) i
