use Rattle.std.proofs.Common.{ap, refl, sym, subst, length, get_or, ◌≡◌, ◌+◌}
use Rattle.live_nodes.specs.Rows.{MayFill, filled}
use Rattle.live_nodes.proofs.FillLaws.{fill_low, found}
use Rattle.live_nodes.proofs.rows.NewWordsWriteWordsSeat.get.Goals as goal

pub returns-clause-is : goal.returns-clause-is
returns-clause-is g c =
    let s = c.args.seat.now in
    let words = c.args.self.now.words.now in
    let d = c.index-self-i.result in
    let low = fill_low words s.view.room c.args.i c.requires.inside in
    found s.view words s.book c.requires.may c.args.i low (get_or words (c.args.i + 1) d) d refl c.look.new.seat.view c.look.result c.look.ensures.looked

pub returns-clause-seat : goal.returns-clause-seat
returns-clause-seat g c =
    let s = c.args.seat.now in
    let words = c.args.self.now.words.now in
    let same : c.look.new.seat ≡ s = λ j. record { marker = s.marker; book = c.look.ensures.seat.0 j; id = c.look.ensures.seat.1 j; view = c.look.ensures.looked.same j } in
    record {
      still = subst (λ t. MayFill words t.book t.view) (sym same) c.requires.may;
      kept = ap (λ t. filled (length words) t.view.room) same;
      same = same;
    }
