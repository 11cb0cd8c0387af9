-- Two libraries with the same shapes load alike, and where they agree on a kind they start and step it alike. Assumes nothing.
use Rattle.std.proofs.Common.{◌≡◌, ℕ, ◌<◌, ◌≤◌, Bool, true, false, cond, ◌&&◌, ◌⊎◌, List, Some, None, Ok, Err, Option, Result, sym, refl, ap, ◌∙◌, inl, inr}
use mathlib.Core.Path.{fun_ext}
use Rattle.std.proofs.lemmas.Bool.{cases_lt, and_parts}
use Rattle.signals.specs.declared.signal.Signal.{Signal}
use Rattle.blocks.specs.Meanings.{Shape, Meaning, Lawful, typed, stepped_as, stepped}
use Rattle.blocks.proofs.Answered.{typed_is}
use Rattle.charts.specs.Loading.{load}
use Rattle.charts.specs.Boxes.{starting_as, starting}
use Rattle.charts.specs.Laws.{SameShapes, ByShapesLaw, SameKind}

-- ---- shapes

pub shapes_alike : (m n : Meaning) → Lawful m → Lawful n → SameShapes m n → m.shape ≡ n.shape
shapes_alike m n p q same = fun_ext (λ k. go k (cases_lt k 256))
  where
    go : (k : ℕ) → (k < 256) ⊎ (256 ≤ k) → m.shape k ≡ n.shape k
    go k (inl h) = same k h
    go k (inr h) = p.beyond_none k h ∙ sym (q.beyond_none k h)

pub loads_by_shapes : ByShapesLaw
loads_by_shapes m n p q same limit chart = ap (λ shapes. load shapes limit chart) (shapes_alike m n p q same)

-- ---- starting cells and steps

module _ (m n : Meaning) (shapes : m.shape ≡ n.shape) (k : ℕ) (same : SameKind m n k) where
  pub starts_alike : starting m k ≡ starting n k
  starts_alike = λ i. starting_as (shapes i k) (same.same_start i)

  -- a step of which pins and cells have their types is the kind's own, and any other leaves the cells
  steps_tested : (ps cs : List Signal) (s : Shape) → m.shape k ≡ Some s → (b : Bool) → typed s.pins ps && typed s.cells cs ≡ b
      → ◌≡◌ {A = Result (Unit {0}) ℕ × List Signal} (cond b (Ok tt, m.new k ps cs) (Err 11, cs)) (cond b (Ok tt, n.new k ps cs) (Err 11, cs))
  steps_tested ps cs s e true t =
      let h = and_parts (typed s.pins ps) (typed s.cells cs) t in
      ap (λ xs. (Ok tt, xs)) (same.same_new s ps cs e (typed_is s.pins ps h.0) (typed_is s.cells cs h.1))
  steps_tested ps cs s e false t = refl

  steps_shaped : (ps cs : List Signal) (o : Option Shape) → m.shape k ≡ o → stepped_as o (m.new k) ps cs ≡ stepped_as o (n.new k) ps cs
  steps_shaped ps cs None e = refl
  steps_shaped ps cs (Some s) e = steps_tested ps cs s e (typed s.pins ps && typed s.cells cs) refl

  pub steps_alike : (ps cs : List Signal) → stepped m k ps cs ≡ stepped n k ps cs
  steps_alike ps cs = steps_shaped ps cs (m.shape k) refl ∙ ap (λ shape. stepped_as (shape k) (n.new k) ps cs) shapes
