use Rattle.std.proofs.Common.{◌≡◌, ◌+◌, [], ◌++◌, get_or, drop, string_bytes, sym, ap, ◌∙◌, subst, append-nil}
use Rattle.std.proofs.lemmas.List.{drop_all}
use Rattle.charts.specs.Boxes.{Box}
use Rattle.charts.specs.Calls.{run}
use Rattle.console.specs.declared.line.Line.{Line}
use Rattle.console.specs.declared.request.Request.{Request}
use Rattle.console.specs.Asked.{asked}
use Rattle.console.specs.Sessions.{calls_of, lines_of}
use Rattle.console.proofs.Holding.{one_request_run, one_line_more}
use Rattle.console.proofs.session.hold.Goals as goal

pub loop-request-preserved : goal.loop-request-preserved
loop-request-preserved g c =
    let m = g.L.Library.meaning c.args.gate_box.library in
    let x = c.loop-request.gate_box.box in
    let y = c.ask.new.gate_box.box in
    let line = c.ask.result in
    let qs = c.args.requests.now in
    let i = c.loop-request.request-index in
    let d = Request.Sample 0 [] in
    let p = subst (λ l. ◌≡◌ {A = Line × Box} (line, y) (asked (g.L.Library.meaning l) x (get_or qs i d))) c.loop-request.invariant.0 c.ask.ensures.asked in (
      c.ask.ensures.library ∙ c.loop-request.invariant.0,
      one_request_run m x y line qs i d c.loop-request-test.true p ∙ c.loop-request.invariant.1,
      ap (λ s. s ++ lines_of m y (drop (i + 1) qs)) c.in_ok-append.ensures ∙ one_line_more m x y line qs i d c.loop-request-test.true p (string_bytes c.loop-request.text) ∙ c.loop-request.invariant.2,
    )

pub returns : goal.returns
returns g c =
    let m = g.L.Library.meaning c.args.gate_box.library in
    let x = c.loop-request.gate_box.box in
    let qs = c.args.requests.now in
    let none = drop_all c.loop-request.request-index qs c.loop-request-test.false in (
      sym (ap (λ l. run m x (calls_of m x l)) none) ∙ c.loop-request.invariant.1,
      sym (ap (λ l. string_bytes c.loop-request.text ++ lines_of m x l) none ∙ append-nil _) ∙ c.loop-request.invariant.2,
      c.loop-request.invariant.0,
    )
