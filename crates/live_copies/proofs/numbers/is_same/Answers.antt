use Rattle.std.proofs.lemmas.Slice.Eq.{slice_eq-Decides}
use Rattle.live_copies.proofs.Alike.{pair_Decides}
use Rattle.live_copies.proofs.numbers.is_same.Goals as goal

pub returns : goal.returns
returns c h = (slice_eq-Decides pair_Decides c.args.a.now c.args.b.now c.eq.result c.eq.ensures).0 h
