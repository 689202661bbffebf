use Rattle.std.proofs.Common.{rules, refl, subst, ◌≡◌}
use Rattle.live_nodes.specs.Known.{Known}
use Rattle.live_growth.specs.Calls.{known_of}
use Rattle.live_growth.proofs.Ready.{ready_kept}
use Rattle.live_scans.specs.Scans.{HasBegun}
use Rattle.live_scans.proofs.Composed.{more_same}
use Rattle.live_scans.proofs.Pages.{begun_by}
use Rattle.live_scans.proofs.scans.begin_only.Goals as goal

pub invariant_of-guard : goal.invariant_of-guard
invariant_of-guard c = ready_kept c.guard.inside.seat.view c.start.new.seat.view c.guard.inside.room c.guard.invariant c.start.ensures.keeps

pub invariant_of-guard-2 : goal.invariant_of-guard-2
invariant_of-guard-2 c = ready_kept c.guard.inside.seat.view c.start.new.seat.view c.guard.inside.room c.guard.invariant c.start.ensures.keeps

pub returns-clause-begun : goal.returns-clause-begun
returns-clause-begun c =
    let u = c.guard.inside.seat in
    let v = c.start.new.seat in
    let s = c.in-Some.ensures in
    let first : known_of u.book u.id u.view ≡ c.args.guard.now = search rules in
    subst (λ (z : Known). HasBegun z (known_of v.book v.id v.view)) first (begun_by u.book v.book v.book u.id v.id v.id u.view v.view v.view s.book s.id refl refl s.starts.0 (more_same v.id v.view.client.seen))
