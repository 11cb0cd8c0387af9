-- A trace lights exactly the blocks that have the traced one upstream. Assumes nothing.
use Rattle.std.proofs.Common.{◌≡◌, ℕ, zero, suc, ◌^◌, ◌<◌, ◌≤◌, Bool, true, false, ◌⊎◌, List, [], ◌∷◌, length, set, Some, sym, ap, ◌∙◌, subst, inl, inr, true≢false, le_refl, arith}
use Rattle.std.specs.List.{AllByRecursion, slice_get}
use Rattle.std.proofs.lemmas.List.{length-set, get_or-set_same}
use Rattle.blocks.specs.Meanings.{Meaning, Lawful}
use Rattle.charts.specs.Pages.{Block, Page, kinds_of}
use Rattle.charts.specs.Upstream.{Upstream, itself}
use Rattle.charts.specs.Tracing.{set_of, lamps, traced, TraceLaw}
use Rattle.charts.specs.Laws.{TracingLaw}
use Rattle.charts.proofs.Lighting.{unlit, length-unlit, lamps_traced}
use Rattle.charts.proofs.Downstream.{on_before, lit_upstream, upstream_lit}
use Rattle.charts.proofs.Formed.{FormedBlock}
use Rattle.charts.proofs.Loads.{loaded_formed}
use Rattle.charts.proofs.Lamps.{On, spreads, length-spreads, spreads_keep, settles, stays}
use Rattle.charts.proofs.Places.{none_some}
use Rattle.charts.proofs.Words.{bit_nth, nth_bit, set_below, lit_ones}

nth_on : (ls : List Bool) (b : ℕ) → slice_get ls b ≡ Some true → On ls b
nth_on [] b e = none_some e
nth_on (l ∷ ls) zero e = cc
nth_on (l ∷ ls) (suc b) e = nth_on ls b e

on_nth : (ls : List Bool) (b : ℕ) → On ls b → slice_get ls b ≡ Some true
on_nth [] b e = absurd (true≢false (sym e))
on_nth (l ∷ ls) zero e = ap Some e
on_nth (l ∷ ls) (suc b) e = on_nth ls b e

unlit_off : (bs : List Block) (b : ℕ) → On (unlit bs) b → ⊥
unlit_off [] b e = true≢false (sym e)
unlit_off (k ∷ bs) zero e = true≢false (sym e)
unlit_off (k ∷ bs) (suc b) e = unlit_off bs b e

module _ (m : Meaning) (law : Lawful m) (page : Page) (f : AllByRecursion (FormedBlock m.shape (kinds_of page)) page.blocks) (t : ℕ) (h : t < length page.blocks) where
  -- the lamps that a trace starts from, and those after k cycles
  abbrev first : List Bool
  first = set (unlit page.blocks) t true

  abbrev after : ℕ → List Bool
  after k = spreads page.blocks k first

  first_length : length first ≡ length page.blocks
  first_length = length-set (unlit page.blocks) t true ∙ length-unlit page.blocks

  after_length : (k : ℕ) → length (after k) ≡ length page.blocks
  after_length k = length-spreads page.blocks k first ∙ first_length

  first_lit : On first t
  first_lit = get_or-set_same (unlit page.blocks) t true false (omega (arith, length-unlit page.blocks))

  first_only : (b : ℕ) → On first b → Upstream page b t
  first_only b on = go (on_before (unlit page.blocks) t true b on)
    where
      go : On (unlit page.blocks) b ⊎ ((t ≡ b) × (true ≡ true)) → Upstream page b t
      go (inl off) = absurd (unlit_off page.blocks b off)
      go (inr e) = subst (λ (j : ℕ). Upstream page j t) e.0 itself

  all_upstream : (k : ℕ) → length page.blocks ≤ k → (b : ℕ) → Upstream page b t → On (after k) b
  all_upstream k enough b up =
      upstream_lit page (after k) (after_length k) (settles page.blocks first t first_length first_lit k enough) b t up (spreads_keep page.blocks k first t first_lit)

  same_lamps : (k : ℕ) → length page.blocks ≤ k → after k ≡ after (length page.blocks)
  same_lamps k enough = stays page.blocks first (length page.blocks) k (settles page.blocks first t first_length first_lit (length page.blocks) (le_refl (length page.blocks))) enough

  run : (k : ℕ) → lamps (traced m page t k) ≡ after k
  run k = lamps_traced m law page f t h k

  traces : (k : ℕ) → length page.blocks ≤ k → TraceLaw m page t k
  traces k enough = record {
    lit_upstream = λ b _ l. lit_upstream page t first first_only k b (nth_on (after k) b (ap (λ (xs : List Bool). slice_get xs b) (sym (run k)) ∙ l));
    upstream_lit = λ b _ up. ap (λ (xs : List Bool). slice_get xs b) (run k) ∙ on_nth (after k) b (all_upstream k enough b up);
    each_block = ap length (run k) ∙ after_length k;
    bit_lit = bit_nth (lamps (traced m page t k));
    lit_bit = nth_bit (lamps (traced m page t k));
    within = subst (λ (n : ℕ). set_of (lamps (traced m page t k)) < 2 ^ n) (ap length (run k) ∙ after_length k) (set_below (lamps (traced m page t k)));
    count = lit_ones (lamps (traced m page t k));
    same_set = ap set_of (run k ∙ same_lamps k enough ∙ sym (run (length page.blocks)));
  }

pub tracing : TracingLaw
tracing m law limit chart page ok t h k enough = traces m law page (loaded_formed m.shape limit chart page ok).blocks_formed t h k enough
