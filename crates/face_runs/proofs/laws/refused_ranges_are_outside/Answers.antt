use Rattle.std.proofs.Common.{map}
use Rattle.face_runs.specs.Calls.{by_numbers, answer_of}
use Rattle.face_runs.specs.U64Calls.{face_call, number_answer}
use Rattle.face_runs.proofs.RefusedRanges.{without_refused_ranges}
use Rattle.face_runs.proofs.laws.refused_ranges_are_outside.Goals as goal

pub returns-clause-replies : goal.returns-clause-replies
returns-clause-replies g c conversion r m n calls replies run = without_refused_ranges conversion r m n calls (map answer_of replies) run

pub returns-clause-numbers : goal.returns-clause-numbers
returns-clause-numbers g c number of_number r m n calls replies run =
    without_refused_ranges (by_numbers (λ key. key) (λ key. key) number of_number) r m n (map face_call calls) (map number_answer replies) run
