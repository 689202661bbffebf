use Rattle.text_lines.proofs.LawLemmas.{number_is, is_number}
use Rattle.text_lines.proofs.laws.number_syntax.Goals as goal

pub returns : goal.returns
returns c word n h = (number_is word n h, is_number word n h)
