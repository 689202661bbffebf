use Rattle.face_payloads.proofs.congee_arc.PayloadCongee.retain.Goals as goal

pub returns-clause-retains : goal.returns-clause-retains
returns-clause-retains g c = rw (← c.self.view_is) c.retain.ensures.retains
