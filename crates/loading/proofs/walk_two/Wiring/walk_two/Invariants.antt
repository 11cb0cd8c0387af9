use Rattle.std.proofs.Common.{◌≡◌, length, Ok}
use Rattle.loading.proofs.Pins.{PinsLeft}
use Rattle.loading.proofs.Walking.{RecordsLeft}
use Rattle.loading.proofs.walk_two.Wiring.walk_two.Given as goal

abbrev pub invariant-loop-number : goal.invariant-loop-number
invariant-loop-number g l = PinsLeft (g.L.Library.meaning l.self.library.now).shape l.self.kinds.now (record { kind = l.found.kind; body = l.found.body.now }) l.pins l.number × (l.tested ≡ Ok tt)

abbrev pub invariant-walk : goal.invariant-walk
invariant-walk g l = RecordsLeft (g.L.Library.meaning l.self.library.now).shape l.self.kinds.now l.chart l.rest × (l.tested ≡ Ok tt)

abbrev pub decreases-walk : goal.decreases-walk
decreases-walk g l = length l.rest
