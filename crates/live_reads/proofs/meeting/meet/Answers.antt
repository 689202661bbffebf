use Rattle.std.proofs.Common.{sym, subst, ℕ}
use Rattle.live_nodes.specs.Acts as acts
use Rattle.live_nodes.specs.Tree.{IsMap}
use Rattle.live_reads.specs.Meetings.{HaveMet}
use Rattle.live_reads.proofs.Meetings.{both_meet}
use Rattle.live_reads.proofs.meeting.meet.Goals as goal

pub meet-requires-clause-meets : goal.meet-requires-clause-meets
meet-requires-clause-meets g c =
    let v = c.args.a.now.view.client in
    let w = c.args.b.now.view.client in
    let i = c.args.a.now.id in
    let j = c.args.b.now.id in
    let is = c.requires.callers in
    subst (λ (z : ℕ × ℕ). acts.Meets IsMap i v j w (HaveMet z.0 z.1 v w)) (λ t. (sym is.0 t, sym is.1 t)) (both_meet i j v w)
