use Rattle.std.proofs.Common.{◌≡◌, ◌-◌, ◌≤◌, length, take, drop, Err, vec_items, vec_len, sym, refl, ap, ◌∙◌, subst, arith, ltb-false, ltb-true, true-eqb, false-eqb}
use Rattle.charts.specs.Pages.{block_limit}
use Rattle.loading.specs.FaultNumbers.{fault_number, fault_in}
use Rattle.loading.specs.Loaded.{WalkedOne}
use Rattle.loading.proofs.Apart.{behind_first}
use Rattle.loading.proofs.Gathered.{gathered_none, turn_fails, turn_passes, gathered_all, gathered_no_block}
use Rattle.loading.proofs.Refusing.{passed, failed, at_ok, sent_on}
use Rattle.loading.proofs.walk_one.walk_one.Goals as goal

pub loop-rest-init : goal.loop-rest-init
loop-rest-init g c = gathered_none (g.L.Library.meaning c.args.library.now).shape block_limit c.args.chart.now _ c.new-kinds.ensures.items

pub returns-in_err-length : goal.returns-in_err-length
returns-in_err-length g c =
    let some : 1 ≤ length c.loop-rest.rest.now = omega (arith, ltb-true, ltb-false) in
    let place = length c.args.chart.now - length c.loop-rest.rest.now in
    let h = failed place c.measure.result c.in_err-length.field-0.0 c.in_err-length.ensures in
    subst (WalkedOne (g.L.Library.meaning c.args.library.now) c.args.chart.now) (sym (sent_on _ _ c.from_residual.ensures.1 ∙ ap Err h.2))
    (turn_fails (g.L.Library.meaning c.args.library.now).shape block_limit c.args.chart.now (vec_items c.loop-rest.kinds) c.loop-rest.last place c.loop-rest.rest.now
    c.loop-rest.invariant some c.len.result (c.len.ensures ∙ c.loop-rest.kinds.ok.0) (fault_number h.0) (ap fault_in (sym h.1) ∙ c.measure.ensures.fault))

pub loop-rest-preserved : goal.loop-rest-preserved
loop-rest-preserved g c =
    let some : 1 ≤ length c.loop-rest.rest.now = omega (arith, ltb-true, ltb-false) in
    let n = c.in_ok-length.length in
    let h = passed (length c.args.chart.now - length c.loop-rest.rest.now) c.measure.result n c.in_ok-length.ensures in
    turn_passes (g.L.Library.meaning c.args.library.now).shape block_limit c.args.chart.now (vec_items c.loop-rest.kinds) c.loop-rest.last
    (length c.args.chart.now - length c.loop-rest.rest.now) c.loop-rest.rest.now c.loop-rest.invariant some c.len.result (c.len.ensures ∙ c.loop-rest.kinds.ok.0)
    (ap fault_in (sym h) ∙ c.measure.ensures.fault) n (at_ok _ n _ h c.measure.ensures.length) (vec_items c.keep_kind.new.kinds) c.in_ok-keep_kind.ensures
    c.last_terminal-last.result c.last_terminal-last.ensures (take (length (behind_first c.loop-rest.rest.now) - n) (drop n (behind_first c.loop-rest.rest.now))) refl

pub returns-then-is_empty : goal.returns-then-is_empty
returns-then-is_empty g c =
    let end : length c.loop-rest.rest.now ≤ 0 = omega (arith, ltb-true, ltb-false) in
    let none : length (vec_items c.loop-rest.kinds) ≡ 0 = sym c.loop-rest.kinds.ok.0 ∙ true-eqb _ _ c.if-is_empty.ensures in
    subst (WalkedOne (g.L.Library.meaning c.args.library.now) c.args.chart.now) (sym c.refuse-then-is_empty.ensures)
    (gathered_no_block (g.L.Library.meaning c.args.library.now).shape block_limit c.args.chart.now (vec_items c.loop-rest.kinds) c.loop-rest.last
    (length c.args.chart.now - length c.loop-rest.rest.now) c.loop-rest.rest.now c.loop-rest.invariant end none)

pub returns : goal.returns
returns g c =
    let end : length c.loop-rest.rest.now ≤ 0 = omega (arith, ltb-true, ltb-false) in
    let shapes = (g.L.Library.meaning c.args.library.now).shape in
    let counted = c.loop-rest.kinds.ok.0 in
    let other = false-eqb (vec_len c.loop-rest.kinds) 0 c.if-is_empty.ensures in
    let some : 1 ≤ length (vec_items c.loop-rest.kinds) = omega arith in (
      c.loop-rest.invariant.0,
      gathered_all shapes block_limit c.args.chart.now (vec_items c.loop-rest.kinds) c.loop-rest.last (length c.args.chart.now - length c.loop-rest.rest.now) c.loop-rest.rest.now c.loop-rest.invariant end,
      c.loop-rest.invariant.2,
      some,
    )
