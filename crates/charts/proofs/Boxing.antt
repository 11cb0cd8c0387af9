-- The law of boxes, from what load makes of a chart. Assumes nothing.
use Rattle.charts.specs.Boxes.{made}
use Rattle.charts.specs.Calls.{run}
use Rattle.charts.specs.Laws.{BoxesLaw}
use Rattle.charts.proofs.Loads.{sound_loads, loaded_sound, loaded_written}
use Rattle.charts.proofs.Stepping.{cycle_lawful, none_refused}
use Rattle.charts.proofs.Keeping.{made_sound, calls_keep}

pub boxes_law : BoxesLaw
boxes_law m law limit chart page bytes accepted calls held =
    let sound = loaded_sound m.shape limit chart page bytes accepted in
    let fine = calls_keep m law limit calls (made m page) held (made_sound m law limit page sound) in
    record {
      stays_sound = fine;
      cycle_law = cycle_lawful m law limit (run m (made m page) calls) fine;
      none_refused = none_refused m law limit (run m (made m page) calls) fine;
      saved_loads = sound_loads m.shape limit (run m (made m page) calls).page fine.page_sound;
      saved_back = loaded_written m.shape limit chart page bytes accepted;
    }
