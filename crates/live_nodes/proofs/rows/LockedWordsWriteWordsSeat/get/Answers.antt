use Rattle.std.proofs.Common.{ap, sym, subst, ◌≡◌}
use Rattle.live_nodes.specs.Rows.{MayHold, draft_of, nth}
use Rattle.live_nodes.proofs.rows.LockedWordsWriteWordsSeat.get.Goals as goal

pub returns-clause-seat : goal.returns-clause-seat
returns-clause-seat g c =
    let s = c.args.seat.now in
    let same : c.look.new.seat ≡ s = λ j. record { marker = s.marker; book = c.look.ensures.seat.0 j; id = c.look.ensures.seat.1 j; view = c.look.ensures.looked.same j } in
    record {
      still = subst (λ t. MayHold g.row.N c.args.self.now.words.now t.book t.view) (sym same) c.requires.may;
      kept = ap (λ t. draft_of (nth g.row.N t.view.holds)) same;
      same = same;
    }
