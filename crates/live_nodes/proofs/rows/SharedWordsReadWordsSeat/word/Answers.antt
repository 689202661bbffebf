use Rattle.std.proofs.Common.{arith, refl, sym, subst, get_or, ◌+◌, ◌<◌, length}
use Rattle.live_nodes.specs.Rows.{MayRead}
use Rattle.live_nodes.proofs.ReadLaws.{knows_cell, still_reads, same_unread, agree_now}
use Rattle.live_nodes.proofs.rows.SharedWordsReadWordsSeat.word.Goals as goal

pub read-requires-clause-known : goal.read-requires-clause-known
read-requires-clause-known g c =
    let s = c.args.seat.now in
    let words = c.args.self.now.words.now in
    let d = c.index-self-i.result in
    knows_cell s.view words s.book c.requires.may c.args.i (omega (arith, c.requires.inside)) (get_or words (c.args.i + 1) d) d refl

pub returns-clause-seat : goal.returns-clause-seat
returns-clause-seat g c =
    let s = c.args.seat.now in
    let t = c.read.new.seat in
    let words = c.args.self.now.words.now in
    let d = c.index-self-i.result in
    let low : c.args.i + 1 < length words = omega (arith, c.requires.inside) in
    let word = get_or words (c.args.i + 1) d in
    let view = same_unread s.view words s.book c.requires.may c.args.i low word d refl t.view c.read.result c.read.ensures.read in
    record {
      still = subst (λ b. MayRead words b t.view) (sym c.read.ensures.seat.0) (still_reads s.view words s.book c.requires.may c.args.i low word d refl t.view c.read.result c.read.ensures.read);
      others = λ j. record { marker = s.marker; book = c.read.ensures.seat.0 j; id = c.read.ensures.seat.1 j; view = view j };
    }

pub returns-clause-read : goal.returns-clause-read
returns-clause-read g c = λ c' agree.
    let s = c.args.seat.now in
    let words = c.args.self.now.words.now in
    let d = c.index-self-i.result in
    agree_now s.view words s.book c.requires.may c.args.i (omega (arith, c.requires.inside)) (get_or words (c.args.i + 1) d) d refl c.read.new.seat.view c.read.result c.read.ensures.read c' agree
