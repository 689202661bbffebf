use Rattle.std.proofs.Common.{◌≡◌, [], sym, arith}
use Rattle.share_moments.specs.declared.state.State.{State}
use Rattle.share_visits.specs.declared.part.Part.{Part}
use Rattle.share_moments.proofs.Limits.{limit_of, new_limit}
use Rattle.share_calls.proofs.Slots.{one_more}
use Rattle.share_calls.proofs.map.slots.Goals as goal

pub loop-preserved : goal.loop-preserved
loop-preserved c =
    let kept = c.loop.invariant in let room = c.push_reserved.ensures.capacity in (
      one_more (λ (part : Part State). ([] ≡ part.map.map.pairs) × (limit_of part.map ≡ c.args.limit)) c.loop.counter c.loop.slots.items c.push_reserved.new.self.items _ kept.0
          (sym c.in_ok-map.ensures.pairs, new_limit c.args.limit c.new.result _ c.new.ensures c.in_ok-map.ensures) c.push_reserved.ensures.items,
      omega (arith, kept.1, room),
    )
