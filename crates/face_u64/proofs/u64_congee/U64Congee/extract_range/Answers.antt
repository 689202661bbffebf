use Rattle.face_u64.proofs.u64_congee.U64Congee.extract_range.Goals as goal

pub returns-clause-calls : goal.returns-clause-calls
returns-clause-calls g c = rw (← c.self.view_is) c.extract_range.ensures.calls
