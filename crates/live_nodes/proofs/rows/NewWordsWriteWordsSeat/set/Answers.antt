use Rattle.std.proofs.Common.{refl, sym, subst, get_or, ◌+◌}
use Rattle.live_nodes.specs.Rows.{MayFill}
use Rattle.live_nodes.proofs.FillLaws.{fill_low, still_fills, words_now, same_unfilled}
use Rattle.live_nodes.proofs.rows.NewWordsWriteWordsSeat.set.Goals as goal

pub returns-clause-is : goal.returns-clause-is
returns-clause-is g c =
    let s = c.args.seat.now in
    let words = c.args.self.now.words.now in
    let d = c.index-self-i.result in
    let low = fill_low words s.view.room c.args.i c.requires.inside in
    words_now s.view words s.book c.requires.may c.args.i low (get_or words (c.args.i + 1) d) d refl c.put.new.seat.view c.args.word c.put.ensures.put

pub returns-clause-seat : goal.returns-clause-seat
returns-clause-seat g c =
    let s = c.args.seat.now in
    let t = c.put.new.seat in
    let words = c.args.self.now.words.now in
    let d = c.index-self-i.result in
    let low = fill_low words s.view.room c.args.i c.requires.inside in
    let word = get_or words (c.args.i + 1) d in
    let view = same_unfilled s.view words s.book c.requires.may c.args.i low word d refl t.view c.args.word c.put.ensures.put in
    record {
      still = subst (λ b. MayFill words b t.view) (sym c.put.ensures.seat.0) (still_fills s.view words s.book c.requires.may c.args.i low word d refl t.view c.args.word c.put.ensures.put);
      others = λ j. record { marker = s.marker; book = c.put.ensures.seat.0 j; id = c.put.ensures.seat.1 j; view = view j };
    }
