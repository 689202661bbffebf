use Rattle.face_runs.proofs.RefusedRanges.{no_ranges}
use Rattle.face_runs.proofs.laws.payload_runs_refuse_no_range.Goals as goal

pub returns : goal.returns
returns g c r m n calls replies run = no_ranges g.K.Word.number g.K.Word.of_number g.P.Payload.alike calls replies run.operations run.made
