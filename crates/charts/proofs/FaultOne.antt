-- The tests of walk one, against what was met before. Assumes nothing.
use Rattle.std.proofs.Common.{◌≡◌, ℕ, suc, ◌≤◌, Bool, true, false, cond, ltb, leb, ◌⊎◌, List, [], ◌∷◌, ◌++◌, length, get_or, Some, None, Decides, Option, sym, refl, ap, ◌∙◌, inl, inr, arith}
use Rattle.std.proofs.lemmas.Bool.{false≢true, leb-true, leb-false}
use Rattle.std.proofs.lemmas.Bool.Decides.{nat_tests, Decides-ltb}
use Rattle.charts.specs.Pages.{Shapes}
use Rattle.charts.specs.Loading.{Raw, Met, nothing_met, reached, met_output, misplaced, over, fault_one, then_met, is_block, body_length, kinds_in}
use Rattle.charts.specs.Faults.{Among, here, later, IsOutputRecord, Unknown, IsCutShort, Misplaced, OneTooMany, FailsOne, Test, NoTest}
use Rattle.charts.proofs.Determined.{Determined, none_left, failing, passing, tested}

-- ---- records among others

among_nil : (P : Raw → Type 0) → Among P [] → ⊥
among_nil P a = elim a [ ]

among_cons : (P : Raw → Type 0) (x : Raw) (xs : List Raw) → Among P (x ∷ xs) → P x ⊎ Among P xs
among_cons P x xs (here p) = inl p
among_cons P x xs (later a) = inr a

among_weaker : (P Q : Raw → Type 0) → ((r : Raw) → P r → Q r) → (xs : List Raw) → Among P xs → Among Q xs
among_weaker P Q f xs (here {r} p) = here (f r p)
among_weaker P Q f xs (later {rs = rs} a) = later (among_weaker P Q f rs a)

among_before : (P : Raw → Type 0) (y : Raw) (xs : List Raw) → Among P xs → Among P (xs ++ y ∷ [])
among_before P y xs (here p) = here p
among_before P y xs (later {rs = rs} a) = later (among_before P y rs a)

among_last : (P : Raw → Type 0) (xs : List Raw) (y : Raw) → P y → Among P (xs ++ y ∷ [])
among_last P [] y p = here p
among_last P (x ∷ xs) y p = later (among_last P xs y p)

among_split : (P : Raw → Type 0) (xs : List Raw) (y : Raw) → Among P (xs ++ y ∷ []) → Among P xs ⊎ P y
among_split P [] y a = go (among_cons P y [] a)
  where
    go : P y ⊎ Among P [] → Among P [] ⊎ P y
    go (inl p) = inr p
    go (inr b) = inl b
among_split P (x ∷ xs) y a = go (among_cons P x (xs ++ y ∷ []) a) (among_split P xs y)
  where
    go : P x ⊎ Among P (xs ++ y ∷ []) → (Among P (xs ++ y ∷ []) → Among P xs ⊎ P y) → Among P (x ∷ xs) ⊎ P y
    go (inl p) f = inl (here p)
    go (inr b) f = elim (f b) [ inl c ↦ inl (later c) | inr q ↦ inr q ]

-- ---- what was met tells of the records before

-- an output record with a terminal not below t
abbrev From : ℕ → Raw → Type 0
From t r = IsOutputRecord r × (t ≤ get_or r.body 0 0)

pub record Tells (met : Met) (before : List Raw) : Type 0 where
  pub count : met.blocks ≡ length (kinds_in before)
  pub some_output : Decides (met_output met.last) (Among IsOutputRecord before)
  pub output_from : (t : ℕ) → Decides (reached met.last t) (Among (From t) before)

pub tells_nothing : Tells nothing_met []
tells_nothing = record {
  count = refl;
  some_output = (λ e. absurd (false≢true e), λ a. absurd (among_nil IsOutputRecord a));
  output_from = λ t. (λ e. absurd (false≢true e), λ a. absurd (among_nil (From t) a));
}

kinds_push : (xs : List Raw) (r : Raw) → length (kinds_in (xs ++ r ∷ [])) ≡ cond (is_block r.kind) (suc (length (kinds_in xs))) (length (kinds_in xs))
kinds_push [] r = elim (is_block r.kind) as (λ b. length (cond b (r.kind ∷ []) []) ≡ cond b 1 0) [ true ↦ refl | false ↦ refl ]
kinds_push (x ∷ xs) r = go (is_block x.kind) (is_block r.kind) (kinds_push xs r)
  where
    go : (b c : Bool) → length (kinds_in (xs ++ r ∷ [])) ≡ cond c (suc (length (kinds_in xs))) (length (kinds_in xs))
        → length (cond b (x.kind ∷ kinds_in (xs ++ r ∷ [])) (kinds_in (xs ++ r ∷ []))) ≡ cond c (suc (length (cond b (x.kind ∷ kinds_in xs) (kinds_in xs)))) (length (cond b (x.kind ∷ kinds_in xs) (kinds_in xs)))
    go true true h = ap suc h
    go true false h = ap suc h
    go false true h = h
    go false false h = h

pub kind_zero : (k : ℕ) → is_block k ≡ false → k ≡ 0
kind_zero k e = grind (arith, nat_tests)

pub kind_block : (k : ℕ) → is_block k ≡ true → k ≡ 0 → ⊥
kind_block k e z = grind (arith, nat_tests)

module _ (met : Met) (before : List Raw) (h : Tells met before) where
  -- one record more, that is not misplaced
  pub tells_more : (r : Raw) → (Misplaced before r.kind r.body → ⊥) → Tells (then_met met r.kind r.body) (before ++ r ∷ [])
  tells_more r p = go (is_block r.kind) refl
    where
      top : (t : ℕ) → r.kind ≡ 0 → (b : Bool) → leb t (get_or r.body 0 0) ≡ b → Among (From t) (before ++ r ∷ []) → b ≡ true
      top t z true e a = refl
      top t z false e a =
          let u = get_or r.body 0 0 in
          let below = leb-false t u e in
          absurd (elim (among_split (From t) before r a) [
            | inl c ↦ p (inr (z, among_weaker (From t) (From u) (λ x q. (q.0, omega (arith, q.1, below))) before c))
            | inr q ↦ omega (arith, q.1, below)
          ])

      go : (b : Bool) → is_block r.kind ≡ b
          → Tells (cond b (record { blocks = suc met.blocks; last = met.last }) (record { blocks = met.blocks; last = Some (get_or r.body 0 0) })) (before ++ r ∷ [])
      go true e = record {
        count = ap suc h.count ∙ sym (kinds_push before r ∙ rw e);
        some_output = (
          λ x. among_before IsOutputRecord r before (h.some_output.0 x),
          λ a. elim (among_split IsOutputRecord before r a) [ inl c ↦ h.some_output.1 c | inr q ↦ absurd (kind_block r.kind e q) ],
        );
        output_from = λ t. (
          λ x. among_before (From t) r before ((h.output_from t).0 x),
          λ a. elim (among_split (From t) before r a) [ inl c ↦ (h.output_from t).1 c | inr q ↦ absurd (kind_block r.kind e q.0) ],
        );
      }
      go false e = let z = kind_zero r.kind e in record {
        count = h.count ∙ sym (kinds_push before r ∙ rw e);
        some_output = (λ x. among_last IsOutputRecord before r z, λ a. refl);
        output_from = λ t. (
          λ x. among_last (From t) before r (z, leb-true t (get_or r.body 0 0) x),
          λ a. top t z (leb t (get_or r.body 0 0)) refl a,
        );
      }

  -- ---- the tests

  pub misplaced_decides : (kind : ℕ) (rest : List ℕ) → Decides (misplaced met kind rest) (Misplaced before kind rest)
  misplaced_decides kind rest = go (is_block kind) refl
    where
      go : (b : Bool) → is_block kind ≡ b → Decides (cond b (met_output met.last) (reached met.last (get_or rest 0 0))) (Misplaced before kind rest)
      go true e = (
        λ x. inl (kind_block kind e, h.some_output.0 x),
        elim [ inl q ↦ h.some_output.1 q.1 | inr q ↦ absurd (kind_block kind e q.0) ],
      )
      go false e = (
        λ x. inr (kind_zero kind e, (h.output_from (get_or rest 0 0)).0 x),
        elim [ inl q ↦ absurd (q.0 (kind_zero kind e)) | inr q ↦ (h.output_from (get_or rest 0 0)).1 q.1 ],
      )

  pub over_decides : (limit kind : ℕ) → Decides (over limit met kind) (OneTooMany limit before kind)
  over_decides limit kind = let c = h.count in (λ e. (λ z. grind (arith, nat_tests), grind (arith, nat_tests)), λ q. let a = q.0 in let b = q.1 in grind (arith, nat_tests))

  pub one_determined : (shapes : Shapes) (limit kind : ℕ) (rest : List ℕ) → Determined (FailsOne shapes limit before kind rest) (fault_one limit met kind rest (body_length shapes kind))
  one_determined shapes limit kind rest = go (body_length shapes kind) refl
    where
      Three : ℕ → Type 0
      Three = Test 3 (OneTooMany limit before kind) NoTest

      Eight : ℕ → Type 0
      Eight = Test 8 (Misplaced before kind rest) Three

      cut : (n : ℕ) → body_length shapes kind ≡ Some n → Decides (ltb (length rest) n) (IsCutShort shapes kind rest)
      cut n e = (λ x. (n, e, (Decides-ltb (length rest) n).0 x), λ c. let l = c.2 in let m : c.0 ≡ n = cc (c.1, e) in (Decides-ltb (length rest) n).1 (omega (arith, l, m)))

      go : (o : Option ℕ) → body_length shapes kind ≡ o → Determined (FailsOne shapes limit before kind rest) (fault_one limit met kind rest o)
      go None e = failing 2 (Unknown shapes kind) (Test 1 (IsCutShort shapes kind rest) Eight) e
      go (Some n) e =
          let all_three : Option ℕ = cond (over limit met kind) (Some 3) None in
          let all_eight : Option ℕ = cond (misplaced met kind rest) (Some 8) all_three in
          let all_one : Option ℕ = cond (ltb (length rest) n) (Some 1) all_eight in
          passing 2 (Unknown shapes kind) (Test 1 (IsCutShort shapes kind rest) Eight) all_one (λ u. let z : ◌≡◌ {A = ℕ} 0 1 = cc (u, e) in omega arith)
          (tested 1 (IsCutShort shapes kind rest) Eight all_eight (ltb (length rest) n) (cut n e)
          (tested 8 (Misplaced before kind rest) Three all_three (misplaced met kind rest) (misplaced_decides kind rest)
          (tested 3 (OneTooMany limit before kind) NoTest None (over limit met kind) (over_decides limit kind) none_left)))
