-- The lamps of a loaded page after its run are those of the chart's trace. Assumes nothing.
use Rattle.std.proofs.Common.{◌≡◌, ℕ, ◌<◌, ◌≤◌, cond, List, [], ◌∷◌, map, length, get_or, set, Ok, Err, vec_items, vec_len, Result, sym, refl, ap, ◌∙◌, arith}
use lib.Count.{ones}
use Rattle.std.proofs.lemmas.List.{length-map}
use Rattle.std.proofs.lemmas.Bool.{lt-ltb, le-ltb}
use Rattle.blocks.specs.Meanings.{Meaning, Lawful}
use Rattle.blocks.specs.Layers.{lamp_meaning}
use Rattle.charts.specs.Pages as Pages
use Rattle.charts.specs.Pages.{block_limit}
use Rattle.charts.specs.Loading.{Fault, load}
use Rattle.charts.specs.Boxes.{Cells, starting, made, zeros_from}
use Rattle.charts.specs.Tracing.{zeroed, lighted, trace_box, cycles, traced, lamps, set_of, number_lit, trace_of, trace_answer, TraceLaw}
use Rattle.charts.proofs.Traces.{tracing}
use Rattle.charts.proofs.Words.{lit_ones}
use Rattle.loading.specs.declared.page.Page.{Page}
use Rattle.loading.specs.Models.{block_model, page_model, cells_model}
use Rattle.tracing.specs.declared.trace.Trace.{Trace}
use Rattle.tracing.specs.declared.trace.TraceError.{TraceError}
use Rattle.tracing.specs.Parts.{dimmed, lit_box}
use Rattle.tracing.specs.Traces.{Traced, Reaches}

-- cells start by their block's kind alone
start_dimmed : (m : Meaning) (bs : List Pages.Block) → map (λ b. starting m b.kind) bs ≡ map (λ b. starting m b.kind) (map dimmed bs)
start_dimmed m [] = refl
start_dimmed m (b ∷ bs) = ap (λ rows. starting m b.kind ∷ rows) (start_dimmed m bs)

-- a page that was loaded, with this number of blocks
module _ (m : Meaning) (chart : List ℕ) (t : ℕ) (p : Page) (loaded : load m.shape block_limit chart ≡ Ok (page_model p)) (number : ℕ) (counted : number ≡ vec_len p.blocks) where
  number_is : number ≡ length (page_model p).blocks
  number_is = omega (arith, p.blocks.ok.0, length-map (vec_items p.blocks) block_model)

  pub none_there : number ≤ t → Traced m chart t (Err TraceError.Missing)
  none_there past =
      let n = number_is in
      ap (trace_of m t) loaded ∙ ap (λ b. cond {A = Result (ℕ × ℕ) Fault} b (Ok (trace_answer m (page_model p) t)) (Err (10, 0))) (le-ltb t (length (page_model p).blocks) (omega arith))

  module _ (law : Lawful m) (cells : cells_model p ≡ (made (lamp_meaning m) (page_model p)).cells) (there : t < number) (a : Trace)
      (set_is : a.set ≡ set_of (lamps (cycles (lamp_meaning m) (length (page_model p).blocks) (lit_box p t)))) (lamps_are : a.lamps ≡ ones a.set) where
    abbrev page : Pages.Page
    page = page_model p

    lt : t < length page.blocks
    lt = let n = number_is in omega arith

    same_box : lit_box p t ≡ trace_box m page t
    same_box =
        ap (λ (cs : Cells). record { page = zeroed page; cells = set cs t (lighted (get_or cs t [])); terminals = zeros_from 0 32 })
        (cells ∙ start_dimmed (lamp_meaning m) page.blocks)

    set_traced : a.set ≡ set_of (lamps (traced m page t (length page.blocks)))
    set_traced = set_is ∙ ap (λ x. set_of (lamps (cycles (lamp_meaning m) (length page.blocks) x))) same_box

    number_traced : a.lamps ≡ number_lit (lamps (traced m page t (length page.blocks)))
    number_traced = lamps_are ∙ ap ones set_traced ∙ sym (lit_ones (lamps (traced m page t (length page.blocks))))

    pub answered : Traced m chart t (Ok a)
    answered =
        ap (trace_of m t) loaded
        ∙ ap (λ b. cond {A = Result (ℕ × ℕ) Fault} b (Ok (trace_answer m page t)) (Err (10, 0))) (lt-ltb t (length page.blocks) lt)
        ∙ sym (λ j. Ok (set_traced j, number_traced j))

    runs : (n : ℕ) → length page.blocks ≤ n → TraceLaw m page t n
    runs n enough = tracing m law block_limit chart page loaded t lt n enough

    pub reached : Reaches m chart t a
    reached = record {
      page = page;
      accepted = loaded;
      lawful_run = runs;
      same_set = λ n enough. set_traced ∙ sym (runs n enough).same_set;
      same_lamps = λ n enough. lamps_are ∙ ap ones (set_traced ∙ sym (runs n enough).same_set) ∙ sym (runs n enough).count;
    }
