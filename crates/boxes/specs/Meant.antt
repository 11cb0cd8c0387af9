-- What the answer of a loader's load means, in the subject's words. Assumes nothing.
use Rattle.std.specs.Prelude.{ℕ, List, Ok, Err, Result}
use Rattle.blocks.specs.Meanings.{Meaning}
use Rattle.loading.specs.declared.fault.LoadError.{LoadError}
use Rattle.loading.specs.Loaded.{Means}
use Rattle.boxes.specs.declared.loader.Loader.{Loader}

-- Accepted: the loader holds a sound page, and the chart is what save writes for it. Refused: the first fault of the chart, by number and place.
abbrev pub Meant : {L : Type 0} → Meaning → List ℕ → Result (Unit {0}) LoadError → Loader L → Type 0
Meant m chart (Ok u) new = Means m chart (Ok new.page)
Meant m chart (Err e) new = Means m chart (Err e)
