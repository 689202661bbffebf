use Rattle.std.proofs.Common.{rules}
use Rattle.spec_map.proofs.traits.U64Word.into_u64.Goals as goal

pub returns : goal.returns
returns c = search rules
