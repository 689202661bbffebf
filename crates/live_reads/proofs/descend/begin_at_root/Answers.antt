use Rattle.std.proofs.Common.{ap, ◌∙◌}
use Rattle.live_nodes.specs.Views.{View}
use Rattle.live_reads.proofs.Finds.{keeps_then, names_kept}
use Rattle.live_reads.proofs.Sights.{sights_names, sure_root}
use Rattle.live_reads.proofs.Stood.{position_first}
use Rattle.live_reads.proofs.descend.begin_at_root.Goals as goal

pub returns-in_err-here-clause-keeps : goal.returns-in_err-here-clause-keeps
returns-in_err-here-clause-keeps c =
    let r = c.root.ensures in
    let o = c.open.ensures in
    keeps_then c.args.seat.now.view c.root.new.seat.view c.open.new.seat.view r.keeps o.keeps

pub returns-in_err-here-clause-seen : goal.returns-in_err-here-clause-seen
returns-in_err-here-clause-seen c =
    let r = c.root.ensures in
    let o = c.open.ensures in
    ap (λ (z : View). z.seen) o.client ∙ r.seen

pub returns-clause-keeps : goal.returns-clause-keeps
returns-clause-keeps c =
    let r = c.root.ensures in
    let o = c.open.ensures in
    keeps_then c.args.seat.now.view c.root.new.seat.view c.open.new.seat.view r.keeps o.keeps

pub returns-clause-seen : goal.returns-clause-seen
returns-clause-seen c =
    let r = c.root.ensures in
    let o = c.open.ensures in
    ap (λ (z : View). z.seen) o.client ∙ r.seen

pub returns-clause-begins : goal.returns-clause-begins
returns-clause-begins c =
    let v = c.root.new.seat.view in
    let w = c.open.new.seat.view in
    let o = c.open.ensures in
    let there = c.in_ok-here.ensures.opened in
    let n = c.in_ok-name.ensures.named in
    let name = c.in_ok-name.name in
    let names = names_kept v w name c.args.key 8 o.keeps n in (
      position_first w c.args.key name names,
      record {
        names = names;
        opened = there.1 (sights_names v name c.args.key 8 n);
        free = there.0;
        sure = sure_root n.spot (there.1 (sights_names v name c.args.key 8 n)).saw n.high;
      },
    )
