-- Two boxes that agree upstream of a block do so after the same call, under libraries that agree upstream. Assumes nothing.
use Rattle.std.proofs.Common.{◌≡◌, ℕ, zero, suc, false, ◌⊎◌, List, [], ◌∷◌, map, length, get_or, set, Some, None, Option, sym, refl, ap, ◌∙◌, subst, inl, inr}
use Rattle.std.specs.Option.{option_map}
use Rattle.std.specs.List.{slice_get}
use Rattle.std.proofs.lemmas.Bool.{cases_eq}
use Rattle.signals.specs.Terminals.{terminal_type}
use Rattle.signals.specs.declared.signal.Signal.{Signal}
use Rattle.blocks.specs.Meanings.{Meaning, stepped, with_shape}
use Rattle.charts.specs.declared.call.Call.{Call}
use Rattle.charts.specs.declared.page.Source.{Source}
use Rattle.charts.specs.Pages.{Block, Page, source, source_in, kinds_of}
use Rattle.charts.specs.Boxes.{Cells, Box, starting, made, signal_at, taken, step_of, step_at, stepped_to, cycled, laid, restarted_cells, restarted}
use Rattle.charts.specs.declared.call.Reply.{Reply}
use Rattle.charts.specs.Calls.{settled, sample_refusal, sampled, tune_refusal, pin_type_at, with_source, tuned, perform}
use Rattle.charts.specs.Upstream.{Upstream, wired, UpstreamTerminal, UpstreamConstant, UpstreamCall, cycle, restart, sample, tune}
use Rattle.charts.specs.Laws.{SameKind, SameUpstream, EqualUpstream}
use Rattle.charts.proofs.Places.{nth_map, nth_set_other, get_or_alike, set_alike, map_alike}
use Rattle.charts.proofs.Likeness.{starts_alike, steps_alike}
use Rattle.charts.proofs.Wiring.{wiring, as_many_blocks, same_kind, same_output, same_terminal, same_constant, tuned_wiring}

-- the wiring of the page, with equal blocks, cells and terminals upstream of block b
pub record Agree (page : Page) (b : ℕ) (x y : Box) : Type 0 where
  pub wired_left : wiring x.page ≡ wiring page
  pub wired_right : wiring y.page ≡ wiring page
  pub same_blocks : (u : ℕ) → Upstream page b u → slice_get x.page.blocks u ≡ slice_get y.page.blocks u
  pub same_cells : EqualUpstream page b x y
  pub same_terminals : (t : ℕ) → UpstreamTerminal page b t → slice_get x.terminals t ≡ slice_get y.terminals t

-- ---- a call that is refused or not, on both boxes

settled_both : {page : Page} {b : ℕ} {x y : Box} (o : Option ℕ) (r : Reply) (v w : Box) → Agree page b x y → Agree page b v w → Agree page b (settled o r x v).1 (settled o r y w).1
settled_both None r v w old new = new
settled_both (Some k) r v w old new = old

-- ---- sample

sample_both : {page : Page} {b : ℕ} {x y : Box} (t : ℕ) (s : Signal) → Agree page b x y → Agree page b (sampled t s x) (sampled t s y)
sample_both {x} {y} t s a = record {
  wired_left = a.wired_left;
  wired_right = a.wired_right;
  same_blocks = a.same_blocks;
  same_cells = a.same_cells;
  same_terminals = λ k h. set_alike x.terminals y.terminals t k s s (a.same_terminals k h) (λ _. refl);
}

-- ---- tune

blocks_tuned : (bs cs : List Block) (o : Option Block) (u p v : ℕ) (s : Source) → slice_get bs v ≡ slice_get cs v → slice_get (with_source o p s bs u) v ≡ slice_get (with_source o p s cs u) v
blocks_tuned bs cs None u p v s e = e
blocks_tuned bs cs (Some k) u p v s e = let new : Block = record { kind = k.kind; pins = set k.pins p s } in set_alike bs cs u v new new e (λ _. refl)

-- a constant upstream is one in a box with the page's wiring
constant_there : {page : Page} {b : ℕ} (q : Page) (u p : ℕ) → wiring q ≡ wiring page → UpstreamConstant page b u p → (c : Signal) × (source q u p ≡ Some (Source.Constant c))
constant_there {page} q u p e h = same_constant page q (sym e) u p h.present h.feeds

tune_both : {page : Page} {b : ℕ} {x y : Box} (u p : ℕ) (d : Signal) → UpstreamConstant page b u p → Agree page b x y → Agree page b (tuned u p d x) (tuned u p d y)
tune_both {page} {b} {x} {y} u p d h a =
    let l = constant_there x.page u p a.wired_left h in
    let r = constant_there y.page u p a.wired_right h in
    record {
      wired_left = tuned_wiring x.page u p l.0 d l.1 ∙ a.wired_left;
      wired_right = tuned_wiring y.page u p r.0 d r.1 ∙ a.wired_right;
      same_blocks = λ v k.
          blocks_tuned x.page.blocks y.page.blocks (slice_get x.page.blocks u) u p v (Source.Constant d) (a.same_blocks v k)
          ∙ ap (λ o. slice_get (with_source o p (Source.Constant d) y.page.blocks u) v) (a.same_blocks u h.upstream);
      same_cells = a.same_cells;
      same_terminals = a.same_terminals;
    }

kind_at : (q : Page) (u : ℕ) → slice_get (kinds_of q) u ≡ option_map (λ k. k.kind) (slice_get q.blocks u)
kind_at q u = nth_map (λ k. k.kind) q.blocks u

-- ---- cycle: a block writes its own cells alone

step_apart : (m : Meaning) (ts : List Signal) (o : Option Block) (cs : Cells) (i u : ℕ) → (u ≡ i → ⊥) → slice_get (step_at m ts o i cs) u ≡ slice_get cs u
step_apart m ts None cs i u e = refl
step_apart m ts (Some k) cs i u e = nth_set_other cs i u (step_of m ts cs k (get_or cs i [])) e

-- ---- restart

-- the cells of a block after a restart; those without a block stay
relaid : Meaning → Option Block → Option (List Signal) → Option (List Signal)
relaid m None c = c
relaid m (Some k) c = option_map (laid (starting m k.kind)) c

relaid_none : (m : Meaning) (o : Option Block) → None ≡ relaid m o None
unfolding relaid
relaid_none m None = refl
relaid_none m (Some k) = refl

restarted_at : (m : Meaning) (bs : List Block) (cs : Cells) (u : ℕ) → slice_get (restarted_cells m bs cs) u ≡ relaid m (slice_get bs u) (slice_get cs u)
unfolding relaid
restarted_at m [] cs u = refl
restarted_at m (k ∷ bs) [] u = relaid_none m (slice_get (k ∷ bs) u)
restarted_at m (k ∷ bs) (c ∷ cs) zero = refl
restarted_at m (k ∷ bs) (c ∷ cs) (suc u) = restarted_at m bs cs u

relaid_alike : (m n : Meaning) (o : Option Block) (c : Option (List Signal)) → ((k : Block) → o ≡ Some k → starting m k.kind ≡ starting n k.kind) → relaid m o c ≡ relaid n o c
unfolding relaid
relaid_alike m n None c h = refl
relaid_alike m n (Some k) c h = ap (λ xs. option_map (laid xs) c) (h k refl)

-- ---- under two libraries that agree upstream

module _ (page : Page) (b : ℕ) (m n : Meaning) (shapes : m.shape ≡ n.shape) (same : SameUpstream m n page b) where
  -- ---- tune

  pin_types_alike : (o : Option ℕ) (p : ℕ) → pin_type_at m o p ≡ pin_type_at n o p
  pin_types_alike None p = refl
  pin_types_alike (Some k) p = ap (λ shape. with_shape (shape k) (λ s. slice_get s.pins p)) shapes

  -- both boxes refuse a tune of an upstream block, or neither
  tune_refused_alike : {x y : Box} (u p : ℕ) (d : Signal) → Upstream page b u → Agree page b x y
      → tune_refusal (source x.page u p) (pin_type_at m (slice_get (kinds_of x.page) u) p) d ≡ tune_refusal (source y.page u p) (pin_type_at n (slice_get (kinds_of y.page) u) p) d
  tune_refused_alike {x} {y} u p d h a =
      let e = a.same_blocks u h in
      let kinds : slice_get (kinds_of x.page) u ≡ slice_get (kinds_of y.page) u = kind_at x.page u ∙ ap (option_map (λ k. k.kind)) e ∙ sym (kind_at y.page u) in
      ap (λ o. tune_refusal (source_in o p) (pin_type_at m (slice_get (kinds_of x.page) u) p) d) e
      ∙ ap (λ t. tune_refusal (source y.page u p) t d) (ap (λ k. pin_type_at m k p) kinds ∙ pin_types_alike (slice_get (kinds_of y.page) u) p)

  -- ---- cycle

  -- a tune changes no kind, so the libraries agree on the kind of an upstream block in the box too
  kind_agrees : (q : Page) → wiring q ≡ wiring page → (u : ℕ) (k : Block) → Upstream page b u → slice_get q.blocks u ≡ Some k → SameKind m n k.kind
  kind_agrees q e u k h at = let j = same_kind q page e u k at in subst (λ i. SameKind m n i) j.2 (same u j.0 h j.1)

  abbrev AlikeCells : Cells → Cells → Type 0
  AlikeCells cs ds = (u : ℕ) → Upstream page b u → slice_get cs u ≡ slice_get ds u

  module _ (x y : Box) (a : Agree page b x y) where
    -- a pin of an upstream block takes the same: its terminal is upstream, and so is the block that it is wired to
    taken_alike : (cs ds : Cells) → AlikeCells cs ds → (u p : ℕ) → Upstream page b u → (s : Source) → source x.page u p ≡ Some s → taken x.terminals cs s ≡ taken y.terminals ds s
    taken_alike cs ds h u p up (Source.Constant c) e = refl
    taken_alike cs ds h u p up (Source.Terminal t) e =
        get_or_alike x.terminals y.terminals t (Signal.Bool false)
        (a.same_terminals t (record { block = u; pin = p; upstream = up; feeds = same_terminal x.page page a.wired_left u p t e }))
    taken_alike cs ds h u p up (Source.Output v o) e =
        ap (λ c. signal_at c o) (get_or_alike cs ds v [] (h v (wired p up (same_output x.page page a.wired_left u p v o e))))

    step_alike : (cs ds : Cells) → AlikeCells cs ds → (u : ℕ) → Upstream page b u → (k : Block) → slice_get x.page.blocks u ≡ Some k
        → step_of m x.terminals cs k (get_or cs u []) ≡ step_of n y.terminals ds k (get_or ds u [])
    step_alike cs ds h u up k at =
        let pins = map_alike (taken x.terminals cs) (taken y.terminals ds) k.pins (λ p s e. taken_alike cs ds h u p up s (ap (λ o. source_in o p) at ∙ e)) in
        (λ i. (stepped m k.kind (pins i) (get_or_alike cs ds u [] (h u up) i)).1)
        ∙ ap (λ r. r.1) (steps_alike m n shapes k.kind (kind_agrees x.page a.wired_left u k up at) (map (taken y.terminals ds) k.pins) (get_or ds u []))

    step_here : (cs ds : Cells) → AlikeCells cs ds → (u : ℕ) → Upstream page b u → (o : Option Block) → slice_get x.page.blocks u ≡ o
        → slice_get (step_at m x.terminals o u cs) u ≡ slice_get (step_at n y.terminals o u ds) u
    step_here cs ds h u up None at = h u up
    step_here cs ds h u up (Some k) at =
        set_alike cs ds u u (step_of m x.terminals cs k (get_or cs u [])) (step_of n y.terminals ds k (get_or ds u [])) (h u up) (λ _. step_alike cs ds h u up k at)

    -- a step of any block
    step_both : (cs ds : Cells) → AlikeCells cs ds → (i : ℕ) → AlikeCells (step_at m x.terminals (slice_get x.page.blocks i) i cs) (step_at n y.terminals (slice_get y.page.blocks i) i ds)
    step_both cs ds h i u up = go (cases_eq i u)
      where
        go : (i ≡ u) ⊎ (i ≡ u → ⊥) → slice_get (step_at m x.terminals (slice_get x.page.blocks i) i cs) u ≡ slice_get (step_at n y.terminals (slice_get y.page.blocks i) i ds) u
        go (inl e) =
            ap (λ k. slice_get (step_at m x.terminals (slice_get x.page.blocks k) k cs) u) e
            ∙ step_here cs ds h u up (slice_get x.page.blocks u) refl
            ∙ ap (λ o. slice_get (step_at n y.terminals o u ds) u) (a.same_blocks u up)
            ∙ ap (λ k. slice_get (step_at n y.terminals (slice_get y.page.blocks k) k ds) u) (sym e)
        go (inr e) =
            step_apart m x.terminals (slice_get x.page.blocks i) cs i u (λ q. e (sym q))
            ∙ h u up
            ∙ sym (step_apart n y.terminals (slice_get y.page.blocks i) ds i u (λ q. e (sym q)))

    -- after as many steps
    steps_both : (i : ℕ) → AlikeCells (stepped_to m x.page x.terminals x.cells i) (stepped_to n y.page y.terminals y.cells i)
    steps_both zero = a.same_cells
    steps_both (suc i) = step_both (stepped_to m x.page x.terminals x.cells i) (stepped_to n y.page y.terminals y.cells i) (steps_both i) i

    cycle_both : Agree page b (cycled m x) (cycled n y)
    cycle_both = record {
      wired_left = a.wired_left;
      wired_right = a.wired_right;
      same_blocks = a.same_blocks;
      same_cells = λ u up.
          steps_both (length x.page.blocks) u up
          ∙ ap (λ i. slice_get (stepped_to n y.page y.terminals y.cells i) u) (as_many_blocks x.page y.page (a.wired_left ∙ sym a.wired_right));
      same_terminals = a.same_terminals;
    }

  -- ---- restart and making

  start_agrees : (q : Page) → wiring q ≡ wiring page → (u : ℕ) (k : Block) → Upstream page b u → slice_get q.blocks u ≡ Some k → starting m k.kind ≡ starting n k.kind
  start_agrees q e u k h at = starts_alike m n shapes k.kind (kind_agrees q e u k h at)

  restart_both : (x y : Box) → Agree page b x y → Agree page b (restarted m x) (restarted n y)
  restart_both x y a = record {
    wired_left = a.wired_left;
    wired_right = a.wired_right;
    same_blocks = a.same_blocks;
    same_cells = λ u up.
        restarted_at m x.page.blocks x.cells u
        ∙ relaid_alike m n (slice_get x.page.blocks u) (slice_get x.cells u) (λ k at. start_agrees x.page a.wired_left u k up at)
        ∙ (λ i. relaid n (a.same_blocks u up i) (a.same_cells u up i))
        ∙ sym (restarted_at n y.page.blocks y.cells u);
    same_terminals = a.same_terminals;
  }

  pub made_agree : Agree page b (made m page) (made n page)
  made_agree = record {
    wired_left = refl;
    wired_right = refl;
    same_blocks = λ u up. refl;
    same_cells = λ u up.
        nth_map (λ k. starting m k.kind) page.blocks u
        ∙ begun (slice_get page.blocks u) (λ k at. start_agrees page refl u k up at)
        ∙ sym (nth_map (λ k. starting n k.kind) page.blocks u);
    same_terminals = λ t h. refl;
  }
    where
      begun : (o : Option Block) → ((k : Block) → o ≡ Some k → starting m k.kind ≡ starting n k.kind) → option_map (λ k. starting m k.kind) o ≡ option_map (λ k. starting n k.kind) o
      begun None h = refl
      begun (Some k) h = ap Some (h k refl)

  -- ---- every call that reaches block b

  pub keeps_both : (x y : Box) (c : Call) → UpstreamCall page b c → Agree page b x y → Agree page b (perform m x c).1 (perform n y c).1
  keeps_both x y c cycle a = cycle_both x y a
  keeps_both x y c restart a = restart_both x y a
  keeps_both x y c (sample {t} {x = s} h) a = settled_both (sample_refusal (terminal_type t) s) Reply.Done (sampled t s x) (sampled t s y) a (sample_both t s a)
  keeps_both x y c (tune {u} {p} {x = d} h) a =
      subst (λ o. Agree page b (perform m x (Call.Tune u p d)).1 (settled o Reply.Done y (tuned u p d y)).1) (tune_refused_alike u p d h.upstream a)
      (settled_both (tune_refusal (source x.page u p) (pin_type_at m (slice_get (kinds_of x.page) u) p) d) Reply.Done (tuned u p d x) (tuned u p d y) a (tune_both u p d h a))
