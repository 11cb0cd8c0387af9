use Rattle.boxes.proofs.gate_box.GateBox.cycle.Goals as goal

pub returns-clause-law : goal.returns-clause-law
returns-clause-law g c = rw (← c.self.view_is) c.step_page.ensures.law
