use Rattle.charts.proofs.Loads.{sound_loads}
use Rattle.boxes.proofs.gate_box.GateBox.save.Goals as goal

pub returns-clause-loads : goal.returns-clause-loads
returns-clause-loads g c = λ limit sound. sound_loads (g.L.Library.meaning c.args.self.now.library).shape limit c.args.self.now.box.page sound.page_sound
