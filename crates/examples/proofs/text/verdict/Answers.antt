use Rattle.std.proofs.Common.{sym, ◌∙◌, true≢false}
use Rattle.std.proofs.lemmas.Slice.Eq.{slice_eq-Decides}
use Rattle.examples.proofs.text.verdict.Goals as goal
use Rattle.signals.specs.Same.{same_signal_Decides}

pub returns-then-eq-clause-differs : goal.returns-then-eq-clause-differs
returns-then-eq-clause-differs c = λ apart. absurd (apart ((slice_eq-Decides same_signal_Decides _ _ _ c.eq.ensures).0 c.if-eq.true))

pub returns-else-eq-clause-ok : goal.returns-else-eq-clause-ok
returns-else-eq-clause-ok c = λ same. absurd (true≢false (sym ((slice_eq-Decides same_signal_Decides _ _ _ c.eq.ensures).1 same) ∙ c.if-eq.false))
