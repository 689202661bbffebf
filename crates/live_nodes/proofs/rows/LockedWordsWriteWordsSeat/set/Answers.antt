use Rattle.std.proofs.Common.{refl, sym, subst, get_or, ◌+◌}
use Rattle.live_nodes.specs.Rows.{MayHold}
use Rattle.live_nodes.proofs.DraftLaws.{draft_low, holds_cell, still_holds, words_now, same_undrafted}
use Rattle.live_nodes.proofs.rows.LockedWordsWriteWordsSeat.set.Goals as goal

pub write-requires-clause-held : goal.write-requires-clause-held
write-requires-clause-held g c =
    let s = c.args.seat.now in
    let words = c.args.self.now.words.now in
    let d = c.index-self-i.result in
    let low = draft_low g.row.N s.view words s.book c.args.i c.requires.may c.requires.inside in
    holds_cell g.row.N s.view words s.book c.requires.may c.args.i low (get_or words (c.args.i + 1) d) d refl

pub returns-clause-is : goal.returns-clause-is
returns-clause-is g c =
    let s = c.args.seat.now in
    let words = c.args.self.now.words.now in
    let d = c.index-self-i.result in
    let low = draft_low g.row.N s.view words s.book c.args.i c.requires.may c.requires.inside in
    words_now g.row.N s.view words s.book c.requires.may c.args.i low (get_or words (c.args.i + 1) d) d refl c.write.new.seat.view c.args.word c.write.ensures.written

pub returns-clause-seat : goal.returns-clause-seat
returns-clause-seat g c =
    let s = c.args.seat.now in
    let t = c.write.new.seat in
    let words = c.args.self.now.words.now in
    let d = c.index-self-i.result in
    let low = draft_low g.row.N s.view words s.book c.args.i c.requires.may c.requires.inside in
    let word = get_or words (c.args.i + 1) d in
    let view = same_undrafted g.row.N s.view words s.book c.requires.may c.args.i low word d refl t.view c.args.word c.write.ensures.written in
    record {
      still = subst (λ b. MayHold g.row.N words b t.view) (sym c.write.ensures.seat.0) (still_holds g.row.N s.view words s.book c.requires.may c.args.i low word d refl t.view c.args.word c.write.ensures.written);
      others = λ j. record { marker = s.marker; book = c.write.ensures.seat.0 j; id = c.write.ensures.seat.1 j; view = view j };
    }
