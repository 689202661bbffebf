use Rattle.share_parts.proofs.Parts.{part_runs}
use Rattle.share_parts.proofs.law_part_runs_on_whole.Goals as goal

pub returns : goal.returns
returns g c same mine m d operations up within legal = part_runs same mine operations m d within up legal
