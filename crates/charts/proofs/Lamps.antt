-- Lamps as a list of Bool, one a block: how a cycle spreads them along the wires, and that they settle. Assumes nothing.
use Rattle.std.proofs.Common.{◌≡◌, ℕ, zero, suc, ◌<◌, ◌≤◌, Bool, true, false, ◌||◌, ◌⊎◌, List, [], ◌∷◌, length, get_or, set, Some, None, Option, sym, refl, ap, ◌∙◌, subst, inl, inr, true≢false, arith}
use native.Mathlib.Decide.{le_ind}
use Rattle.std.specs.List.{slice_get}
use Rattle.std.proofs.lemmas.List.{length-set, get_or-set_same}
use Rattle.std.proofs.lemmas.Bool.Decides.{leb_tells}
use Rattle.charts.specs.declared.page.Source.{Source}
use Rattle.charts.specs.Pages.{Block}
use Rattle.charts.specs.Tracing.{number_lit}
use Rattle.charts.proofs.Places.{none_some, nth_within}

-- ---- the spreading of lamps

-- only a wire brings light, that of the block it comes from
abbrev pub brings : List Bool → Source → Bool
brings ls (Source.Constant x) = false
brings ls (Source.Terminal t) = false
brings ls (Source.Output b o) = get_or ls b false

abbrev pub any_brings : List Bool → List Source → Bool
any_brings ls [] = false
any_brings ls (s ∷ ss) = brings ls s || any_brings ls ss

abbrev pub spread_at : Option Block → ℕ → List Bool → List Bool
spread_at None i ls = ls
spread_at (Some b) i ls = set ls i (any_brings ls b.pins || get_or ls i false)

-- the lamps after the first n blocks have stepped
abbrev pub spread_to : List Block → List Bool → ℕ → List Bool
spread_to bs ls zero = ls
spread_to bs ls (suc n) = spread_at (slice_get bs n) n (spread_to bs ls n)

abbrev pub spread : List Block → List Bool → List Bool
spread bs ls = spread_to bs ls (length bs)

-- the lamps after n cycles
abbrev pub spreads : List Block → ℕ → List Bool → List Bool
spreads bs zero ls = ls
spreads bs (suc n) ls = spread bs (spreads bs n ls)

abbrev pub On : List Bool → ℕ → Type 0
On ls b = get_or ls b false ≡ true

-- ---- a cycle keeps how many lamps there are

length-spread_at : (o : Option Block) (i : ℕ) (ls : List Bool) → length (spread_at o i ls) ≡ length ls
length-spread_at None i ls = refl
length-spread_at (Some b) i ls = length-set ls i _

pub length-spread_to : (bs : List Block) (ls : List Bool) (n : ℕ) → length (spread_to bs ls n) ≡ length ls
length-spread_to bs ls zero = refl
length-spread_to bs ls (suc n) = length-spread_at (slice_get bs n) n (spread_to bs ls n) ∙ length-spread_to bs ls n

pub length-spreads : (bs : List Block) (n : ℕ) (ls : List Bool) → length (spreads bs n ls) ≡ length ls
length-spreads bs zero ls = refl
length-spreads bs (suc n) ls = length-spread_to bs (spreads bs n ls) (length bs) ∙ length-spreads bs n ls

-- ---- a cycle puts out no lamp

on_set : (ls : List Bool) (i : ℕ) (v : Bool) (j : ℕ) → (On ls i → v ≡ true) → On ls j → On (set ls i v) j
on_set [] i v j h e = e
on_set (l ∷ ls) zero v zero h e = h e
on_set (l ∷ ls) zero v (suc j) h e = e
on_set (l ∷ ls) (suc i) v zero h e = e
on_set (l ∷ ls) (suc i) v (suc j) h e = on_set ls i v j h e

or_right : (a b : Bool) → b ≡ true → (a || b) ≡ true
or_right true b e = refl
or_right false b e = e

spread_at_keeps : (o : Option Block) (i : ℕ) (ls : List Bool) (j : ℕ) → On ls j → On (spread_at o i ls) j
spread_at_keeps None i ls j e = e
spread_at_keeps (Some b) i ls j e = on_set ls i _ j (or_right (any_brings ls b.pins) (get_or ls i false)) e

spread_to_keeps : (bs : List Block) (ls : List Bool) (n m j : ℕ) → n ≤ m → On (spread_to bs ls n) j → On (spread_to bs ls m) j
spread_to_keeps bs ls n m j h e = le_ind (λ (k : ℕ). On (spread_to bs ls k) j) e (λ k l on. spread_at_keeps (slice_get bs k) k (spread_to bs ls k) j on) m h

pub spread_keeps : (bs : List Block) (ls : List Bool) (j : ℕ) → On ls j → On (spread bs ls) j
spread_keeps bs ls j e = spread_to_keeps bs ls 0 (length bs) j (omega arith) e

pub spreads_keep : (bs : List Block) (n : ℕ) (ls : List Bool) (j : ℕ) → On ls j → On (spreads bs n ls) j
spreads_keep bs zero ls j e = e
spreads_keep bs (suc n) ls j e = spread_keeps bs (spreads bs n ls) j (spreads_keep bs n ls j e)

-- ---- a cycle lights the far end of each wire from a lit block

any_brought : (ls : List Bool) (ss : List Source) (p v o : ℕ) → slice_get ss p ≡ Some (Source.Output v o) → On ls v → any_brings ls ss ≡ true
any_brought ls [] p v o e on = none_some e
any_brought ls (s ∷ ss) zero v o e on =
    let same : s ≡ Source.Output v o = cc in
    ap (λ x. brings ls x || any_brings ls ss) same ∙ ap (λ x. x || any_brings ls ss) on
any_brought ls (s ∷ ss) (suc p) v o e on = or_right (brings ls s) (any_brings ls ss) (any_brought ls ss p v o e on)

pub spread_lights : (bs : List Block) (ls : List Bool) → length ls ≡ length bs → (u : ℕ) (b : Block) (p v o : ℕ) → slice_get bs u ≡ Some b → slice_get b.pins p ≡ Some (Source.Output v o) → On ls v → On (spread bs ls) u
spread_lights bs ls n u b p v o at wire on =
    let here = spread_to bs ls u in
    let u_in : u < length bs = nth_within bs u at in
    let same : length here ≡ length ls = length-spread_to bs ls u in
    let u_here : u < length here = omega arith in
    let lit : (any_brings here b.pins || get_or here u false) ≡ true =
    ap (λ x. x || get_or here u false) (any_brought here b.pins p v o wire (spread_to_keeps bs ls 0 u v (omega arith) on)) in
    let next : On (spread_at (Some b) u here) u = get_or-set_same here u _ false u_here ∙ lit in
    spread_to_keeps bs ls (suc u) (length bs) u (omega arith) (subst (λ k. On (spread_at k u here) u) (sym at) next)

-- ---- counting lamps

more_lit : (ls ms : List Bool) → length ls ≡ length ms → ((j : ℕ) → On ls j → On ms j) → number_lit ls ≤ number_lit ms
more_lit [] ms n h = omega arith
more_lit (l ∷ ls) [] n h = absurd (omega arith)
more_lit (true ∷ ls) (true ∷ ms) n h = let k = more_lit ls ms (omega arith) (λ j. h (suc j)) in omega arith
more_lit (true ∷ ls) (false ∷ ms) n h = absurd (true≢false (sym (h 0 refl)))
more_lit (false ∷ ls) (m ∷ ms) n h = let k = more_lit ls ms (omega arith) (λ j. h (suc j)) in omega arith

same_lit : (ls ms : List Bool) → length ls ≡ length ms → ((j : ℕ) → On ls j → On ms j) → number_lit ms ≤ number_lit ls → ms ≡ ls
same_lit [] [] n h few = refl
same_lit [] (m ∷ ms) n h few = absurd (omega arith)
same_lit (l ∷ ls) [] n h few = absurd (omega arith)
same_lit (true ∷ ls) (true ∷ ms) n h few = ap (λ xs. true ∷ xs) (same_lit ls ms (omega arith) (λ j. h (suc j)) (omega arith))
same_lit (true ∷ ls) (false ∷ ms) n h few = absurd (true≢false (sym (h 0 refl)))
same_lit (false ∷ ls) (true ∷ ms) n h few = let k = more_lit ls ms (omega arith) (λ j. h (suc j)) in absurd (omega arith)
same_lit (false ∷ ls) (false ∷ ms) n h few = ap (λ xs. false ∷ xs) (same_lit ls ms (omega arith) (λ j. h (suc j)) (omega arith))

few_lit : (ls : List Bool) → number_lit ls ≤ length ls
few_lit [] = omega arith
few_lit (true ∷ ls) = let k = few_lit ls in omega arith
few_lit (false ∷ ls) = let k = few_lit ls in omega arith

some_lit : (ls : List Bool) (t : ℕ) → On ls t → 0 < number_lit ls
some_lit [] t e = absurd (true≢false (sym e))
some_lit (true ∷ ls) t e = omega arith
some_lit (false ∷ ls) zero e = absurd (true≢false (sym e))
some_lit (false ∷ ls) (suc t) e = let k = some_lit ls t e in omega arith

-- ---- after as many cycles as blocks the lamps are settled

abbrev pub Settled : List Block → List Bool → Type 0
Settled bs ls = spread bs ls ≡ ls

compare : (a b : ℕ) → (a ≤ b) ⊎ (b < a)
compare a b = elim (leb_tells a b) [ inl h ↦ inl h.1 | inr h ↦ inr h.1 ]

module _ (bs : List Block) (ls : List Bool) where
  settled_or_more : (t : ℕ) → On ls t → (k : ℕ) → Settled bs (spreads bs k ls) ⊎ (k < number_lit (spreads bs k ls))
  settled_or_more t on zero = inr (some_lit ls t on)
  settled_or_more t on (suc k) = go (settled_or_more t on k) (compare (number_lit (spread bs now)) (number_lit now))
    where
      now : List Bool
      now = spreads bs k ls

      go : Settled bs now ⊎ (k < number_lit now) → (number_lit (spread bs now) ≤ number_lit now) ⊎ (number_lit now < number_lit (spread bs now)) → Settled bs (spread bs now) ⊎ (suc k < number_lit (spread bs now))
      go (inl still) n = inl (ap (spread bs) still)
      go (inr many) (inl n) = inl (ap (spread bs) (same_lit now (spread bs now) (sym (length-spread_to bs now (length bs))) (spread_keeps bs now) n))
      go (inr many) (inr n) = inr (omega arith)

  pub settles : (t : ℕ) → length ls ≡ length bs → On ls t → (k : ℕ) → length bs ≤ k → Settled bs (spreads bs k ls)
  settles t n on k h = go (settled_or_more t on k)
    where
      go : Settled bs (spreads bs k ls) ⊎ (k < number_lit (spreads bs k ls)) → Settled bs (spreads bs k ls)
      go (inl still) = still
      go (inr many) = absurd (omega (arith, few_lit (spreads bs k ls), length-spreads bs k ls))

  -- and no further cycle changes them
  pub stays : (k n : ℕ) → Settled bs (spreads bs k ls) → k ≤ n → spreads bs n ls ≡ spreads bs k ls
  stays k n still h = le_ind (λ (m : ℕ). spreads bs m ls ≡ spreads bs k ls) refl (λ m l e. ap (spread bs) e ∙ still) n h
