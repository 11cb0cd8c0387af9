-- What stands at an output terminal is what its first record names. Assumes nothing.
use Rattle.std.proofs.Common.{◌≡◌, ℕ, Bool, true, false, cond, List, [], ◌∷◌, Some, Option, unwrap_or, ◌==◌, refl, ap, ◌∙◌}
use Rattle.std.specs.Option.{option_map}
use Rattle.std.specs.List.{find}
use Rattle.signals.specs.Signals.{zero_of}
use Rattle.signals.specs.declared.signal.Signal.{Signal}
use Rattle.signals.specs.declared.signal.SignalType.{SignalType}
use Rattle.charts.specs.declared.page.OutputRecord.{OutputRecord}
use Rattle.charts.specs.Boxes.{Box, cell_at}
use Rattle.charts.specs.Calls.{shown_by}

by_test : {X Y : Type 0} (f : X → Y) (y : Y) (b : Bool) (x : X) (o : Option X) → cond b (f x) (unwrap_or (option_map f o) y) ≡ unwrap_or (option_map f (cond b (Some x) o)) y
by_test f y true x o = refl
by_test f y false x o = refl

pub shown_by_find : (rs : List OutputRecord) (box : Box) (t : ℕ) (u : SignalType)
    → shown_by rs box t u ≡ unwrap_or (option_map (λ r. cell_at box.cells r.block r.output) (find (λ r. r.terminal == t) rs)) (zero_of u)
shown_by_find [] box t u = refl
shown_by_find (r ∷ rs) box t u =
    let cell : OutputRecord → Signal = λ s. cell_at box.cells s.block s.output in
    ap (cond (r.terminal == t) (cell r)) (shown_by_find rs box t u) ∙ by_test cell (zero_of u) (r.terminal == t) r (find (λ s. s.terminal == t) rs)
