use Rattle.std.proofs.Common.{rules}
use Rattle.text_lines.proofs.line.LineBuffer.push.Goals as goal

pub returns-else-self-lt-MAX_LEN : goal.returns-else-self-lt-MAX_LEN
returns-else-self-lt-MAX_LEN c = search rules
