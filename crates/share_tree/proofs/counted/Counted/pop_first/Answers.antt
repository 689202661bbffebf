use Rattle.std.proofs.Common.{◌^◌}
use Rattle.spec_map.proofs.MapLaws.{Rises-without}
use Rattle.share_tree.proofs.counted.Counted.pop_first.Goals as goal

pub invariant_of-self-2 : goal.invariant_of-self-2
invariant_of-self-2 g c =
    rw c.in_ok-key.ensures.removes.pairs (Rises-without 0 (2 ^ 64) c.self.inside.tree.pairs c.in_ok-key.key c.self.invariant)
