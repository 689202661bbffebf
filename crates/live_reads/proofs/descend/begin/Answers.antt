use Rattle.std.proofs.Common.{◌∙◌}
use Rattle.live_reads.proofs.Finds.{keeps_then}
use Rattle.live_nodes.specs.Seats.{place}
use Rattle.live_reads.proofs.descend.begin.Goals as goal

pub begin_at_root-requires-clause-root_word : goal.begin_at_root-requires-clause-root_word
begin_at_root-requires-clause-root_word c = c.open_last.ensures.keeps.places (place 0 1 1) c.requires.root_word

pub returns-clause-keeps : goal.returns-clause-keeps
returns-clause-keeps c =
    let t = c.open_last.ensures in
    let r = c.begin_at_root.ensures in
    keeps_then c.args.seat.now.view c.open_last.new.seat.view c.begin_at_root.new.seat.view t.keeps r.keeps

pub returns-clause-seen : goal.returns-clause-seen
returns-clause-seen c =
    let t = c.open_last.ensures in
    let r = c.begin_at_root.ensures in
    r.seen ∙ t.seen
