use Rattle.std.proofs.Common.{◌^◌, arith}
use Rattle.spec_map.proofs.MapLaws.{Rises-put}
use Rattle.share_tree.proofs.Onward.{onward_put}
use Rattle.share_tree.proofs.counted.Counted.insert.Goals as goal

pub invariant_of-self-2 : goal.invariant_of-self-2
invariant_of-self-2 g c =
    let es = c.self.inside.tree.pairs in
    rw c.in_ok-old.ensures.ok (Rises-put 0 (2 ^ 64) es c.args.key c.args.value c.self.invariant (omega arith) (omega (arith, c.ranges.key.fits)))

pub returns-clause-onward : goal.returns-clause-onward
returns-clause-onward g c =
    let e = c.raise.ensures in
    rw (← c.self.view_is) (onward_put g.P.HasMeaning.meaning _ _ c.args.key e.small e.own e.others c.args.value c.in_ok-old.ensures.ok)
