use Rattle.face_typed.proofs.typed_congee.Congee.extract_range.Goals as goal

pub returns-clause-calls : goal.returns-clause-calls
returns-clause-calls g c = rw (← c.into_u64-first.ensures, ← c.into_u64-past.ensures, ← c.self.view_is) c.extract_range.ensures.calls
