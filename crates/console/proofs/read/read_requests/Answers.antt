use Rattle.std.proofs.Common.{◌≤◌, length, is_ok, vec_items, sym, ap, arith, ltb-false, ltb-true}
use Rattle.std.proofs.ResultArms.{chosen}
use Rattle.console.proofs.Reading.{ends, stops, goes_on}
use Rattle.console.proofs.read.read_requests.Goals as goal

pub returns-in_default-request_of : goal.returns-in_default-request_of
returns-in_default-request_of c =
    let some : 1 ≤ length c.loop-rest.rest.now = omega (arith, ltb-true, ltb-false) in
    stops c.args.bytes.now (vec_items c.loop-rest.items) c.loop-rest.rest.now c.loop-rest.invariant some (sym c.in_default-request_of.ensures.request)

pub loop-rest-preserved : goal.loop-rest-preserved
loop-rest-preserved c =
    let some : 1 ≤ length c.loop-rest.rest.now = omega (arith, ltb-true, ltb-false) in
    let pushed = chosen _ _ _ _ c.push.ensures.items (ap is_ok c.in_ok-push.was) in
    goes_on c.args.bytes.now (vec_items c.loop-rest.items) c.loop-rest.rest.now c.loop-rest.invariant some c.in-Some.request (sym c.in-Some.ensures.request) c.body_length.result c.body_length.ensures _ pushed

pub returns : goal.returns
returns c =
    let end : length c.loop-rest.rest.now ≤ 0 = omega (arith, ltb-true, ltb-false) in
    ends c.args.bytes.now (vec_items c.loop-rest.items) c.loop-rest.rest.now c.loop-rest.invariant end
