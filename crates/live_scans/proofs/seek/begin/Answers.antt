use Rattle.std.proofs.Common.{rules, ap, subst, ◌≡◌, ◌∙◌, Some, IfSome}
use Rattle.live_nodes.specs.Levels.{up}
use Rattle.live_scans.specs.inner.Stops.{IsTrail}
use Rattle.live_scans.proofs.PathNodes.{path_node_like}
use Rattle.live_scans.proofs.seek.begin.Goals as goal
use Rattle.live_scans.proofs.seek.begin.Goals.{In-Some}

module _ (c : In-Some) where
  trail : IsTrail c.args.seat.now.view c.args.seat.now.book c.in-Some.from
  trail =
      let there : c.args.trail ≡ Some c.in-Some.from = search rules in
      subst (λ o. IfSome o (IsTrail c.args.seat.now.view c.args.seat.now.book)) there c.requires.trail

pub returns-in-Some-with_key-clause-trail : goal.returns-in-Some-with_key-clause-trail
returns-in-Some-with_key-clause-trail c =
    let t = trail (goal.at.returns-in-Some-with_key-clause-trail c).In-Some in
    let w = c.in-Some-with_key.ensures.with in
    (w.0, (path_node_like c.args.seat.now.view c.args.seat.now.book c.in-Some.from.low c.in-Some-with_key.low w.1 w.2 w.3 (ap (up c.in-Some.from.low.at.height) w.0 ∙ w.4) t.0, t.1))

pub returns-in-Some-with_key-2-clause-trail : goal.returns-in-Some-with_key-2-clause-trail
returns-in-Some-with_key-2-clause-trail c =
    let t = trail (goal.at.returns-in-Some-with_key-2-clause-trail c).In-Some in
    let w = c.in-Some-with_key-2.ensures.with in
    (w.0, (path_node_like c.args.seat.now.view c.args.seat.now.book c.in-Some.from.high c.in-Some-with_key-2.low w.1 w.2 w.3 (ap (up c.in-Some.from.high.at.height) w.0 ∙ w.4) t.1, t.1))
