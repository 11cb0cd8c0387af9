use Rattle.std.proofs.Common.{◌≡◌, ◌+◌, false, ◌++◌, map, get_or, drop, vec_items, sym, ap, ◌∙◌, subst, append-nil}
use Rattle.std.proofs.lemmas.List.{drop_all}
use Rattle.signals.specs.declared.signal.Signal.{Signal}
use Rattle.blocks.specs.Refusals.{numbered}
use Rattle.charts.specs.declared.call.Call.{Call}
use Rattle.charts.specs.Calls.{Outcome, perform, run, answers}
use Rattle.engine.proofs.Making.{one_call_run, one_answer_more}
use Rattle.engine.proofs.run.perform_all.Goals as goal

pub loop-call-preserved : goal.loop-call-preserved
loop-call-preserved g c =
    let m = g.L.Library.meaning c.args.gate_box.library in
    let x = c.loop-call.gate_box.box in
    let y = c.perform.new.self.box in
    let r = c.perform.result in
    let cs = c.args.calls.now in
    let i = c.loop-call.call-index in
    let d = Call.Sample 0 (Signal.Bool false) in
    let p = subst (λ l. ◌≡◌ {A = Outcome} (numbered r, y) (perform (g.L.Library.meaning l) x (get_or cs i d))) c.loop-call.invariant.0 c.perform.ensures.performed in
    let pushed = c.in_ok-push.ensures.items in (
      c.perform.ensures.library ∙ c.loop-call.invariant.0,
      one_call_run m x y r cs i d c.loop-call-test.true p ∙ c.loop-call.invariant.1,
      ap (λ l. map numbered l ++ answers m y (drop (i + 1) cs)) pushed ∙ one_answer_more m x y r cs i d c.loop-call-test.true p (vec_items c.loop-call.answers) ∙ c.loop-call.invariant.2,
    )

pub returns : goal.returns
returns g c =
    let cs = c.args.calls.now in
    let none = drop_all c.loop-call.call-index cs c.loop-call-test.false in
    let m = g.L.Library.meaning c.args.gate_box.library in
    let x = c.loop-call.gate_box.box in (
      sym (ap (run m x) none) ∙ c.loop-call.invariant.1,
      sym (ap (λ l. map numbered (vec_items c.loop-call.answers) ++ answers m x l) none ∙ append-nil _) ∙ c.loop-call.invariant.2,
      c.loop-call.invariant.0,
    )
