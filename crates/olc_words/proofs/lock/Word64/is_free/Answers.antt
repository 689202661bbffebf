use Rattle.std.proofs.Common.{rules}
use Rattle.olc_words.proofs.lock.Word64.is_free.Goals as goal

pub returns : goal.returns
returns c = search rules
