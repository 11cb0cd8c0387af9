use Rattle.std.proofs.Common.{false, rules}
use Rattle.signals.specs.declared.signal.Signal.{Signal}
use Rattle.running.proofs.Zeros.{zeros_by_place}
use Rattle.running.proofs.terminals.zero_terminals.Goals as goal

pub returns : goal.returns
returns c =
    let made = c.from_fn.ensures.items in
    zeros_by_place c.from_fn.result 32 (Signal.Bool false) made.long (λ k below. let called = made.at k (Signal.Bool false) below in search rules)
