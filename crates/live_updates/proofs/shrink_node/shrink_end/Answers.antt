use Rattle.std.proofs.Common.{true, ◌∙◌}
use Rattle.live_growth.specs.Calls.{IsReady}
use Rattle.live_growth.proofs.Ready.{ready_kept, ready_again, ready_changed, ready_spare, sights_grown}
use Rattle.live_reads.proofs.Sights.{sights_kept}
use Rattle.live_updates.proofs.shrink_node.shrink_end.Goals as goal
use Rattle.live_updates.proofs.shrink_node.shrink_end.Goals.{After-descend, After-shrink_node}

-- what is ready once the path was looked for, and once the node may have been shrunk
ready : (c : After-descend) → IsReady c.descend.new.seat.view c.args.room.now
ready c = ready_kept c.args.seat.now.view c.descend.new.seat.view c.args.room.now c.requires.ready c.descend.ensures.keeps

again : (c : After-shrink_node) → IsReady c.shrink_node.new.seat.view (record c.args.room.now { spare = c.shrink_node.new.free_nodes; is_changed = true; used = c.add.new.self })
again c = ready_again c.descend.new.seat.view c.shrink_node.new.seat.view (record c.args.room.now { is_changed = true; used = c.add.new.self }) c.shrink_node.new.free_nodes (ready_changed c.descend.new.seat.view c.args.room.now true c.add.new.self (ready (goal.at.After-shrink_node c).After-descend)) c.shrink_node.ensures.grown c.shrink_node.ensures.room c.shrink_node.ensures.free_nodes

pub returns-in_default : goal.returns-in_default
returns-in_default c = let d = c.descend.ensures in record { book = d.book; id = d.id; ready = ready (goal.at.returns-in_default c).After-descend; seen = d.seen }

pub returns-then-position-name : goal.returns-then-position-name
returns-then-position-name c = let d = c.descend.ensures in record { book = d.book; id = d.id; ready = ready (goal.at.returns-then-position-name c).After-descend; seen = d.seen }

pub shrink_node-requires-clause-spare : goal.shrink_node-requires-clause-spare
shrink_node-requires-clause-spare c = sights_kept c.args.seat.now.view c.descend.new.seat.view c.descend.ensures.keeps c.args.spare c.requires.spare

pub returns-then-shrink_node : goal.returns-then-shrink_node
returns-then-shrink_node c =
    let w = c.shrink_node.new.seat.view in
    let d = c.descend.ensures in
    let t = c.shrink_node.ensures in
    let kept = again (goal.at.returns-then-shrink_node c).After-shrink_node in
    let s = c.in-Some.field-0.position in
    let met = sights_grown c.descend.new.seat.view w s.name c.args.key s.height t.grown c.in-Some.ensures.end.0.named in
    record { book = t.book ∙ d.book; id = t.id ∙ d.id; ready = ready_spare w _ c.keep.new.self kept (c.keep.ensures.kept w kept.spare met); seen = t.grown.seen ∙ d.seen }

pub returns-else-shrink_node : goal.returns-else-shrink_node
returns-else-shrink_node c =
    let d = c.descend.ensures in
    let t = c.shrink_node.ensures in
    record { book = t.book ∙ d.book; id = t.id ∙ d.id; ready = again (goal.at.returns-else-shrink_node c).After-shrink_node; seen = t.grown.seen ∙ d.seen }
