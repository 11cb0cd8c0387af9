-- A block's cells depend on its upstream alone. Assumes nothing.
use Rattle.std.proofs.Common.{◌≡◌, ℕ, List, ◌∷◌, length, set, Some, None, Option, sym, refl, ap, ◌∙◌, subst}
use Rattle.std.specs.List.{slice_get}
use Rattle.signals.specs.Terminals.{terminal_type}
use Rattle.signals.specs.declared.signal.Signal.{Signal}
use Rattle.signals.specs.declared.signal.SignalType.{SignalType}
use Rattle.blocks.specs.Meanings.{Meaning}
use Rattle.charts.specs.declared.call.Call.{Call}
use Rattle.charts.specs.declared.page.Source.{Source}
use Rattle.charts.specs.Pages.{Block, Page, source, kinds_of, wire_type}
use Rattle.charts.specs.Charts.{written}
use Rattle.charts.specs.Boxes.{Box, cell_at, made}
use Rattle.charts.specs.declared.call.Reply.{Reply}
use Rattle.charts.specs.Calls.{settled, sample_refusal, sampled, tune_refusal, pin_type_at, with_source, tuned, missing, shown, save_refusal, perform, run}
use Rattle.charts.specs.Upstream.{Upstream, UpstreamTerminal, UpstreamConstant, UpstreamCall, cycle, restart, sample, tune, UpstreamCalls, none, pick, pass, Alike, pair}
use Rattle.charts.specs.Laws.{SameUpstream, IndependenceLaw}
use Rattle.charts.proofs.Places.{none_some, nth_set_other}
use Rattle.charts.proofs.Likeness.{shapes_alike, loads_by_shapes}
use Rattle.charts.proofs.Wiring.{same_constant, tuned_wiring}
use Rattle.charts.proofs.Agreement.{Agree, made_agree, keeps_both}

-- ---- a call that does not reach block b, on one box alone

settled_one : {page : Page} {b : ℕ} {x y : Box} (o : Option ℕ) (r : Reply) (v : Box) → Agree page b x y → Agree page b v y → Agree page b (settled o r x v).1 y
settled_one None r v old new = new
settled_one (Some k) r v old new = old

shown_one : {page : Page} {b : ℕ} {x y : Box} (o : Option SignalType) (t : ℕ) → Agree page b x y → Agree page b (shown o x t).1 y
shown_one None t a = a
shown_one (Some u) t a = a

sample_one : {page : Page} {b : ℕ} {x y : Box} (t : ℕ) (s : Signal) → (UpstreamTerminal page b t → ⊥) → Agree page b x y → Agree page b (sampled t s x) y
sample_one {page} {b} {x} {y} t s apart a = record {
  wired_left = a.wired_left;
  wired_right = a.wired_right;
  same_blocks = a.same_blocks;
  same_cells = a.same_cells;
  same_terminals = λ k h. nth_set_other x.terminals t k s (λ e. apart (subst (λ i. UpstreamTerminal page b i) e h)) ∙ a.same_terminals k h;
}

-- a tune that is not refused sets a constant
tune_constant : (o : Option Source) (t : Option SignalType) (d : Signal) → tune_refusal o t d ≡ None → (c : Signal) × (o ≡ Some (Source.Constant c))
tune_constant None t d e = none_some (sym e)
tune_constant (Some (Source.Constant c)) t d e = (c, refl)
tune_constant (Some (Source.Terminal k)) t d e = none_some (sym e)
tune_constant (Some (Source.Output v o)) t d e = none_some (sym e)

blocks_apart : (bs : List Block) (o : Option Block) (u p v : ℕ) (s : Source) → (v ≡ u → ⊥) → slice_get (with_source o p s bs u) v ≡ slice_get bs v
blocks_apart bs None u p v s apart = refl
blocks_apart bs (Some k) u p v s apart = nth_set_other bs u v (record { kind = k.kind; pins = set k.pins p s }) apart

tune_one : {page : Page} {b : ℕ} {x y : Box} (u p : ℕ) (c d : Signal) → source x.page u p ≡ Some (Source.Constant c) → (UpstreamConstant page b u p → ⊥) → Agree page b x y → Agree page b (tuned u p d x) y
tune_one {page} {b} {x} {y} u p c d e apart a =
    let h = same_constant x.page page a.wired_left u p c e in
    record {
      wired_left = tuned_wiring x.page u p c d e ∙ a.wired_left;
      wired_right = a.wired_right;
      same_blocks = λ v up.
          blocks_apart x.page.blocks (slice_get x.page.blocks u) u p v (Source.Constant d)
          (λ q. apart (record { present = h.0; upstream = subst (λ i. Upstream page b i) q up; feeds = h.1 }))
          ∙ a.same_blocks v up;
      same_cells = a.same_cells;
      same_terminals = a.same_terminals;
    }

tune_settled : {page : Page} {b : ℕ} {x y : Box} (u p : ℕ) (d : Signal) (t : Option SignalType) → (UpstreamConstant page b u p → ⊥) → Agree page b x y
    → (o : Option ℕ) → tune_refusal (source x.page u p) t d ≡ o → Agree page b (settled o Reply.Done x (tuned u p d x)).1 y
tune_settled {x} u p d t apart a None e = let h = tune_constant (source x.page u p) t d e in tune_one u p h.0 d h.1 apart a
tune_settled u p d t apart a (Some k) e = a

module _ (page : Page) (b : ℕ) (m : Meaning) where
  keeps_one : (x y : Box) (c : Call) → (UpstreamCall page b c → ⊥) → Agree page b x y → Agree page b (perform m x c).1 y
  keeps_one x y (Call.Sample t s) apart a = settled_one (sample_refusal (terminal_type t) s) Reply.Done (sampled t s x) a (sample_one t s (λ h. apart (sample h)) a)
  keeps_one x y (Call.Tune u p d) apart a =
      let t = pin_type_at m (slice_get (kinds_of x.page) u) p in
      tune_settled u p d t (λ h. apart (tune h)) a (tune_refusal (source x.page u p) t d) refl
  keeps_one x y Call.Cycle apart a = absurd (apart cycle)
  keeps_one x y Call.Restart apart a = absurd (apart restart)
  keeps_one x y (Call.Read u o) apart a = settled_one (missing (wire_type m.shape (kinds_of x.page) u o)) (Reply.Signal (cell_at x.cells u o)) x a a
  keeps_one x y (Call.Show t) apart a = shown_one (terminal_type t) t a
  keeps_one x y (Call.Save room) apart a = settled_one (save_refusal room x.page) (Reply.Bytes (length (written x.page))) x a a

  -- ---- a list of calls agrees with its upstream calls alone

  picked_agree : (n : Meaning) → m.shape ≡ n.shape → SameUpstream m n page b → (x y : Box) (cs ps : List Call) → UpstreamCalls page b cs ps → Agree page b x y → Agree page b (run m x cs) (run n y ps)
  picked_agree n shapes same x y cs ps none a = a
  picked_agree n shapes same x y cs ps (pick {c} {cs = ds} {picked = qs} h r) a =
      picked_agree n shapes same (perform m x c).1 (perform n y c).1 ds qs r (keeps_both page b m n shapes same x y c h a)
  picked_agree n shapes same x y cs ps (pass {c} {cs = ds} h r) a = picked_agree n shapes same (perform m x c).1 y ds ps r (keeps_one x y c h a)

alike_equal : (cs ds : List Call) → Alike cs ds → cs ≡ ds
alike_equal cs ds none = refl
alike_equal cs ds (pair {cs = us} {ds = vs} e r) = λ i. e i ∷ alike_equal us vs r i

same_itself : (n : Meaning) (page : Page) (b : ℕ) → SameUpstream n n page b
same_itself n page b u k h e = record { same_start = refl; same_new = λ s ps cs f g i. refl }

pub cells_by_upstream : IndependenceLaw
cells_by_upstream m p limit chart page e calls n q shapes = record {
  accepted_alike = sym (loads_by_shapes m n p q shapes limit chart) ∙ e;
  equal_cells = λ b h same others ps qs r s alike u up.
      (picked_agree page b m n (shapes_alike m n p q shapes) same (made m page) (made n page) calls ps r (made_agree page b m n (shapes_alike m n p q shapes) same)).same_cells u up
      ∙ ap (λ cs. slice_get (run n (made n page) cs).cells u) (alike_equal ps qs alike)
      ∙ sym ((picked_agree page b n n refl (same_itself n page b) (made n page) (made n page) others qs s (made_agree page b n n refl (same_itself n page b))).same_cells u up);
}
