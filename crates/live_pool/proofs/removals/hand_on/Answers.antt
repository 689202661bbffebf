use Rattle.std.proofs.Common.{take, get_or, subst, sym}
use Rattle.std.proofs.lemmas.List.{take_more}
use Rattle.spec_map.specs.Map.{Pairs}
use Rattle.live_pool.specs.inner.Parts.{HaveHandedOn}
use Rattle.live_pool.proofs.Parts.{handed_more}
use Rattle.live_pool.proofs.removals.hand_on.Goals as goal

pub loop-i-preserved : goal.loop-i-preserved
loop-i-preserved g c =
    let i = c.loop-i.invariant in
    let ps = c.args.pairs.now in
    let n = c.loop-i.i in
    let more = handed_more g.T.Receiver.step (take n ps) (get_or ps n (0, 0)) c.args.f.now c.loop-i.f c.receive.new.f i.handed c.receive.ensures.step in
    record {
      ready = c.receive.ensures.ready;
      handed = subst (λ (z : Pairs _). HaveHandedOn g.T.Receiver.step z c.args.f.now c.receive.new.f) (sym (take_more ps n (0, 0) c.loop-i-test.true)) more;
    }
