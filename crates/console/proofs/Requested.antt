-- Bytes are read as requests in one way. Assumes nothing.
use Rattle.std.proofs.Common.{◌≡◌, ℕ, ◌≤◌, Bool, true, false, cond, eqb, ltb, List, [], ◌∷◌, ◌++◌, length, get_or, drop, Some, None, Option, sym, refl, ap, ◌∙◌, subst, arith, true-eqb}
use Rattle.std.proofs.lemmas.Bool.{le-ltb, ltb-false}
use Rattle.charts.proofs.Places.{none_some}
use Rattle.console.specs.declared.read.Ending.{Ending}
use Rattle.console.specs.declared.request.Request.{Request}
use Rattle.console.specs.Requests.{body_length, code_at, whole, request_of, Reads, all, stop, next}
use Rattle.console.specs.Promises.{request_bytes, WholeCode, first_request}

some_same : {x y : Request} → ◌≡◌ {A = Option Request} (Some x) (Some y) → x ≡ y
some_same {x} e = ap (λ o. elim o [ Some q ↦ q | None ↦ x ]) e

-- ---- what is written is read

-- the bytes behind the letter are enough
enough_read : (n : ℕ) (body : List ℕ) (q : Request) → n ≤ length body → whole n body q ≡ Some q
enough_read n body q h = ap (λ t. cond t None (Some q)) (le-ltb (length body) n h)

pub written_read : (q : Request) (rest : List ℕ) → WholeCode q → first_request (request_bytes q ++ rest) ≡ Some q
written_read (Request.Sample t []) rest h = absurd (omega arith)
written_read (Request.Sample t (a ∷ [])) rest h = absurd (omega arith)
written_read (Request.Sample t (a ∷ b ∷ [])) rest h = absurd (omega arith)
written_read (Request.Sample t (a ∷ b ∷ c ∷ [])) rest h = absurd (omega arith)
written_read (Request.Sample t (a ∷ b ∷ c ∷ d ∷ [])) rest h = enough_read 5 (t ∷ a ∷ b ∷ c ∷ d ∷ rest) _ (omega arith)
written_read (Request.Sample t (a ∷ b ∷ c ∷ d ∷ e ∷ more)) rest h = absurd (omega arith)
written_read (Request.Tune b p []) rest h = absurd (omega arith)
written_read (Request.Tune b p (w ∷ [])) rest h = absurd (omega arith)
written_read (Request.Tune b p (w ∷ x ∷ [])) rest h = absurd (omega arith)
written_read (Request.Tune b p (w ∷ x ∷ y ∷ [])) rest h = absurd (omega arith)
written_read (Request.Tune b p (w ∷ x ∷ y ∷ z ∷ [])) rest h = enough_read 6 (b ∷ p ∷ w ∷ x ∷ y ∷ z ∷ rest) _ (omega arith)
written_read (Request.Tune b p (w ∷ x ∷ y ∷ z ∷ v ∷ more)) rest h = absurd (omega arith)
written_read Request.Cycle rest h = refl
written_read Request.Restart rest h = refl
written_read (Request.Read b o) rest h = enough_read 2 (b ∷ o ∷ rest) _ (omega arith)
written_read (Request.Show t) rest h = enough_read 1 (t ∷ rest) _ (omega arith)

-- ---- what is read was written

-- one letter more is tested
by_letter : (letter k : ℕ) (x y : Option Request) (q : Request) (P : Type 0) → (letter ≡ k → x ≡ Some q → P) → (y ≡ Some q → P) → cond (eqb letter k) x y ≡ Some q → P
by_letter letter k x y q P here other e = go (eqb letter k) refl e
  where
    go : (t : Bool) → eqb letter k ≡ t → cond t x y ≡ Some q → P
    go true at e = here (true-eqb letter k (sym at)) e
    go false at e = other e

-- the bytes behind the letter are enough
enough : (n : ℕ) (body : List ℕ) (r q : Request) → whole n body r ≡ Some q → (n ≤ length body) × (r ≡ q)
enough n body r q e = go (ltb (length body) n) refl e
  where
    go : (t : Bool) → ltb (length body) n ≡ t → cond t None (Some r) ≡ Some q → (n ≤ length body) × (r ≡ q)
    go true at e = none_some e
    go false at e = (ltb-false (length body) n at, some_same e)

one_byte : (body : List ℕ) → 1 ≤ length body → body ≡ get_or body 0 0 ∷ drop 1 body
one_byte [] h = absurd (omega arith)
one_byte (a ∷ more) h = refl

two_bytes : (body : List ℕ) → 2 ≤ length body → body ≡ get_or body 0 0 ∷ get_or body 1 0 ∷ drop 2 body
two_bytes [] h = absurd (omega arith)
two_bytes (a ∷ []) h = absurd (omega arith)
two_bytes (a ∷ b ∷ more) h = refl

five_bytes : (body : List ℕ) → 5 ≤ length body → body ≡ get_or body 0 0 ∷ (code_at 1 2 3 4 body ++ drop 5 body)
five_bytes [] h = absurd (omega arith)
five_bytes (a ∷ []) h = absurd (omega arith)
five_bytes (a ∷ b ∷ []) h = absurd (omega arith)
five_bytes (a ∷ b ∷ c ∷ []) h = absurd (omega arith)
five_bytes (a ∷ b ∷ c ∷ d ∷ []) h = absurd (omega arith)
five_bytes (a ∷ b ∷ c ∷ d ∷ e ∷ more) h = refl

six_bytes : (body : List ℕ) → 6 ≤ length body → body ≡ get_or body 0 0 ∷ get_or body 1 0 ∷ (code_at 2 3 4 5 body ++ drop 6 body)
six_bytes [] h = absurd (omega arith)
six_bytes (a ∷ []) h = absurd (omega arith)
six_bytes (a ∷ b ∷ []) h = absurd (omega arith)
six_bytes (a ∷ b ∷ c ∷ []) h = absurd (omega arith)
six_bytes (a ∷ b ∷ c ∷ d ∷ []) h = absurd (omega arith)
six_bytes (a ∷ b ∷ c ∷ d ∷ e ∷ []) h = absurd (omega arith)
six_bytes (a ∷ b ∷ c ∷ d ∷ e ∷ f ∷ more) h = refl

module _ (letter : ℕ) (body : List ℕ) (q : Request) where
  abbrev Written : Request → Type 0
  Written r = letter ∷ body ≡ request_bytes r ++ drop (body_length r) body

  -- a letter with a body of n bytes
  bodied : (k n : ℕ) (r : Request) → (n ≤ length body → k ∷ body ≡ request_bytes r ++ drop (body_length r) body) → letter ≡ k → whole n body r ≡ Some q → Written q
  bodied k n r bytes at e =
      let found = enough n body r q e in
      let P : Request → Type 0 = Written in
      subst P found.1 (ap (λ l. l ∷ body) at ∙ bytes found.0)

  -- a letter alone
  alone : (k : ℕ) (r : Request) → k ∷ body ≡ request_bytes r ++ drop (body_length r) body → letter ≡ k → ◌≡◌ {A = Option Request} (Some r) (Some q) → Written q
  alone k r bytes at e =
      let P : Request → Type 0 = Written in
      subst P (some_same e) (ap (λ l. l ∷ body) at ∙ bytes)

  pub read_written : request_of letter body ≡ Some q → Written q
  read_written =
      by_letter letter 0x53 _ _ q (Written q) (bodied 0x53 5 _ (λ h. ap (λ l. 0x53 ∷ l) (five_bytes body h)))
      (by_letter letter 0x54 _ _ q (Written q) (bodied 0x54 6 _ (λ h. ap (λ l. 0x54 ∷ l) (six_bytes body h)))
      (by_letter letter 0x43 _ _ q (Written q) (alone 0x43 Request.Cycle refl)
      (by_letter letter 0x52 _ _ q (Written q) (alone 0x52 Request.Restart refl)
      (by_letter letter 0x47 _ _ q (Written q) (bodied 0x47 2 _ (λ h. ap (λ l. 0x47 ∷ l) (two_bytes body h)))
      (by_letter letter 0x4F _ _ q (Written q) (bodied 0x4F 1 _ (λ h. ap (λ l. 0x4F ∷ l) (one_byte body h)))
      none_some)))))

-- ---- there is one way to read

pub read_once : (bytes : List ℕ) (qs rs : List Request) (s t : Ending) → Reads bytes qs s → Reads bytes rs t → (qs ≡ rs) × (s ≡ t)
read_once [] [] [] Ending.Whole Ending.Whole all all = (refl, refl)
read_once [] [] [] Ending.Whole Ending.Stopped x y = elim y [ ]
read_once [] [] [] Ending.Stopped t x y = elim x [ ]
read_once [] [] (r ∷ rs) s t x y = elim y [ ]
read_once [] (q ∷ qs) rs s t x y = elim x [ ]
read_once (letter ∷ body) [] [] Ending.Whole t x y = elim x [ ]
read_once (letter ∷ body) [] [] Ending.Stopped Ending.Whole x y = elim y [ ]
read_once (letter ∷ body) [] (r ∷ rs) Ending.Whole t x y = elim x [ ]
read_once (letter ∷ body) (q ∷ qs) [] s Ending.Whole x y = elim y [ ]
read_once (letter ∷ body) [] [] Ending.Stopped Ending.Stopped (stop e) (stop f) = (refl, refl)
read_once (letter ∷ body) [] (r ∷ rs) Ending.Stopped t (stop e) (next f more) = none_some (sym e ∙ f)
read_once (letter ∷ body) (q ∷ qs) [] s Ending.Stopped (next e more) (stop f) = none_some (sym f ∙ e)
read_once (letter ∷ body) (q ∷ qs) (r ∷ rs) s t (next e more) (next f others) =
    let same : q ≡ r = some_same (sym e ∙ f) in
    let again : Reads (drop (body_length q) body) rs t = subst (λ x. Reads (drop (body_length x) body) rs t) (sym same) others in
    let tail = read_once (drop (body_length q) body) qs rs s t more again in (
      ap (λ x. x ∷ qs) same ∙ ap (λ l. r ∷ l) tail.0,
      tail.1,
    )
