use Rattle.std.proofs.Common.{sym, refl, ap, ◌∙◌, subst}
use Rattle.loading.specs.FaultNumbers.{fault_number, fault_in}
use Rattle.loading.specs.Walks.{WalkedTwo}
use Rattle.loading.proofs.Pins.{fails_before, pins_first, pins_over, pin_fails, pin_passes}
use Rattle.loading.proofs.Walking.{records_first, records_over, turn_fails, turn_passes}
use Rattle.loading.proofs.walk_two.Wiring.walk_two.Goals as goal

pub walk-init : goal.walk-init
walk-init g c = (records_first (g.L.Library.meaning c.args.self.now.library.now).shape c.args.self.now.kinds.now c.args.chart.now, refl)

pub loop-number-init : goal.loop-number-init
loop-number-init g c = (
  pins_first (g.L.Library.meaning c.args.self.now.library.now).shape c.args.self.now.kinds.now (record { kind = c.in-Some.found.kind; body = c.in-Some.found.body.now })
      c.as_chunks.result.0.now c.as_chunks.ensures.front c.in-Some.ensures.1 (ap fault_in (sym c.in_default-test_output.is) ∙ c.test_output.ensures),
  c.walk.invariant.1,
)

pub loop-number-preserved : goal.loop-number-preserved
loop-number-preserved g c = (
  pin_passes (g.L.Library.meaning c.args.self.now.library.now).shape c.args.self.now.kinds.now (record { kind = c.in-Some.found.kind; body = c.in-Some.found.body.now })
      c.as_chunks.result.0.now c.loop-number.number c.loop-number.invariant.0 _ _ refl c.loop-number-test.true (fault_in c.test_pin.result) c.test_pin.ensures (ap fault_in c.in_default-test_pin.is),
  c.loop-number.invariant.1,
)

pub walk-preserved : goal.walk-preserved
walk-preserved g c = (
  turn_passes (g.L.Library.meaning c.args.self.now.library.now).shape c.args.self.now.kinds.now c.args.chart.now c.walk.rest.now c.walk.invariant.0
      (record { kind = c.in-Some.found.kind; body = c.in-Some.found.body.now }) c.in-Some.behind.now c.in-Some.ensures
      (pins_over (g.L.Library.meaning c.args.self.now.library.now).shape c.args.self.now.kinds.now (record { kind = c.in-Some.found.kind; body = c.in-Some.found.body.now })
      c.as_chunks.result.0.now c.loop-number.number c.loop-number.invariant.0 c.loop-number-test.false),
  c.loop-number.invariant.1,
)

pub returns-in-Err : goal.returns-in-Err
returns-in-Err g c =
    turn_fails (g.L.Library.meaning c.args.self.now.library.now).shape c.args.self.now.kinds.now c.args.chart.now c.walk.rest.now c.walk.invariant.0
    (record { kind = c.in-Some.found.kind; body = c.in-Some.found.body.now }) c.in-Some.behind.now c.in-Some.ensures (fault_number c.in-Err.fault)
    (fails_before (g.L.Library.meaning c.args.self.now.library.now).shape c.args.self.now.kinds.now (record { kind = c.in-Some.found.kind; body = c.in-Some.found.body.now }) (fault_number c.in-Err.fault)
    (ap fault_in (sym c.in-Err.is) ∙ c.test_output.ensures))

pub returns-in-Err-test_pin : goal.returns-in-Err-test_pin
returns-in-Err-test_pin g c =
    turn_fails (g.L.Library.meaning c.args.self.now.library.now).shape c.args.self.now.kinds.now c.args.chart.now c.walk.rest.now c.walk.invariant.0
    (record { kind = c.in-Some.found.kind; body = c.in-Some.found.body.now }) c.in-Some.behind.now c.in-Some.ensures (fault_number c.in-Err-test_pin.fault)
    (pin_fails (g.L.Library.meaning c.args.self.now.library.now).shape c.args.self.now.kinds.now (record { kind = c.in-Some.found.kind; body = c.in-Some.found.body.now })
    c.as_chunks.result.0.now c.loop-number.number c.loop-number.invariant.0 _ _ refl c.loop-number-test.true (fault_in c.test_pin.result) c.test_pin.ensures (fault_number c.in-Err-test_pin.fault)
    (ap fault_in c.in-Err-test_pin.is))

pub returns-in_default : goal.returns-in_default
returns-in_default g c =
    subst (WalkedTwo (g.L.Library.meaning c.args.self.now.library.now) c.args.self.now.kinds.now c.args.chart.now) (sym c.walk.invariant.1)
    (records_over (g.L.Library.meaning c.args.self.now.library.now).shape c.args.self.now.kinds.now c.args.chart.now c.walk.rest.now c.walk.invariant.0 c.in_default.ensures)
