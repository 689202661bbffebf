use Rattle.share_laws.proofs.Untouched.{rises}
use Rattle.share_laws.proofs.laws.a_number_only_rises.Goals as goal

pub returns : goal.returns
returns c same m n key entries legal raise = rises key same m n entries legal raise
