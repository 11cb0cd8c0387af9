-- Starting cells, as they are asked for one by one. Assumes nothing.
use Rattle.std.proofs.Common.{◌≡◌, ℕ, zero, suc, ◌+◌, List, [], ◌∷◌, ◌++◌, length, take, Some, None, Option, sym, refl, ap, ◌∙◌, add-one, arith}
use Rattle.std.specs.Option.{option_map}
use Rattle.std.specs.List.{slice_get}
use Rattle.std.proofs.lemmas.List.{take_all, length-map}
use Rattle.signals.specs.Signals.{type_of}
use Rattle.signals.specs.declared.signal.Signal.{Signal}
use Rattle.blocks.specs.Meanings.{Shape, Meaning, Lawful, with_shape, start_of, counts, counts_of}

some_more : (xs : List Signal) (i : ℕ) (x : Signal) → Some x ≡ slice_get xs i → take (suc i) xs ≡ take i xs ++ x ∷ []
some_more [] i x e = absurd (let z : ◌≡◌ {A = ℕ} 0 1 = cc in omega arith)
some_more (y ∷ ys) zero x e = let same : x ≡ y = cc in ap (λ z. z ∷ []) (sym same)
some_more (y ∷ ys) (suc i) x e = ap (λ zs. y ∷ zs) (some_more ys i x e)

-- one cell more
pub started : (m : Meaning) (k i : ℕ) (x : Signal) → Some x ≡ start_of m k i → take (i + 1) (m.start k) ≡ take i (m.start k) ++ x ∷ []
started m k i x e = ap (λ n. take n (m.start k)) (add-one i) ∙ some_more (m.start k) i x (go (m.shape k) e)
  where
    go : (o : Option Shape) → Some x ≡ with_shape o (λ s. slice_get (m.start k) i) → Some x ≡ slice_get (m.start k) i
    go None f = absurd (let z : ◌≡◌ {A = ℕ} 0 1 = cc in omega arith)
    go (Some s) f = f

-- as many cells as the shape has are all of them
pub all_started : (m : Meaning) → Lawful m → (k : ℕ) (n : ℕ × ℕ × ℕ) (cells : List Signal) → Some n ≡ counts_of m k → cells ≡ take n.1 (m.start k) → cells ≡ m.start k
all_started m law k n cells e taken = taken ∙ go (m.shape k) refl e
  where
    go : (q : Option Shape) → m.shape k ≡ q → Some n ≡ option_map counts q → take n.1 (m.start k) ≡ m.start k
    go None sh f = absurd (let z : ◌≡◌ {A = ℕ} 0 1 = cc in omega arith)
    go (Some s) sh f =
        let same : n ≡ counts s = cc in
        let many : n.1 ≡ length s.cells = ap (λ t. t.1) same in
        let long : length (m.start k) ≡ n.1 = sym (length-map (m.start k) type_of) ∙ ap length (law.starts k s sh) ∙ sym many in
        take_all n.1 (m.start k) (omega (arith, long))
