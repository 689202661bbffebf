use Rattle.std.proofs.Common.{ap}
use Rattle.live_nodes.specs.Rows.{nth}
use Rattle.live_growth.proofs.Sources.{beside_kept}
use Rattle.live_growth.proofs.source.SourceWriteWordsSeat.set.Goals as goal

pub returns-clause-seat : goal.returns-clause-seat
returns-clause-seat c =
    let v = c.args.seat.now.view in
    let w = c.set.new.seat.view in
    let s = c.set.ensures.seat in
    record {
      still = (s.still, beside_kept (nth 1 w.holds) (nth 1 v.holds) w.holds v.holds (ap (λ z. z.view.holds) s.others) c.requires.may.1);
      others = s.others;
    }
