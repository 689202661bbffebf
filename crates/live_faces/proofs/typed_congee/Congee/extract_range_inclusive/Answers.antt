use Rattle.live_faces.proofs.typed_congee.Congee.extract_range_inclusive.Goals as goal

pub returns-clause-extracted : goal.returns-clause-extracted
returns-clause-extracted g c = rw (← c.into_u64-low.ensures, ← c.into_u64-high.ensures) c.extract_range.ensures.extracted
