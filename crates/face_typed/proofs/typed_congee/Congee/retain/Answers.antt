use Rattle.face_typed.proofs.typed_congee.Congee.retain.Goals as goal

pub returns-clause-retains : goal.returns-clause-retains
returns-clause-retains g c = rw (← c.self.view_is) c.retain.ensures.retains
