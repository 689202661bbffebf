use Rattle.text_lines.proofs.LawLemmas.{read_once}
use Rattle.text_lines.proofs.laws.one_cut.Goals as goal

pub returns : goal.returns
returns c = read_once
