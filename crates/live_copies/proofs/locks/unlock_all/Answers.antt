use Rattle.std.proofs.Common.{rules, [], ◌∷◌, ◌++◌, ◌≡◌, ◌∙◌}
use Rattle.live_growth.proofs.Locks.{alike_then}
use Rattle.live_copies.specs.inner.Locks.{IsTop}
use Rattle.live_copies.proofs.Locking.{locks_last, locks_less, locks_none}
use Rattle.live_copies.proofs.locks.unlock_all.Goals as goal
use Rattle.live_copies.proofs.locks.unlock_all.Goals.{In-Some}

-- the node that was locked last
top : (c : In-Some) → IsTop c.loop-words.seat.view c.loop-words.seat.book c.in-Some.field-0.words.now c.in-Some.field-0.free c.pop.new.self.items
top c =
    let all : c.loop-words.locks.items ≡ c.pop.new.self.items ++ c.in-Some.field-0 ∷ [] = search rules in
    locks_last c.loop-words.seat.view c.loop-words.seat.book c.loop-words.locks.items c.pop.new.self.items c.in-Some.field-0 c.loop-words.invariant.locks all

pub unlock_one-requires-clause-word : goal.unlock_one-requires-clause-word
unlock_one-requires-clause-word c = let is = (top (goal.at.unlock_one-requires-clause-word c).In-Some).is in (is.even, is.small)

pub unlock_one-requires-clause-top : goal.unlock_one-requires-clause-top
unlock_one-requires-clause-top c = (c.pop.new.self.items, top (goal.at.unlock_one-requires-clause-top c).In-Some)

pub loop-words-preserved : goal.loop-words-preserved
loop-words-preserved c =
    let v = c.loop-words.seat.view in
    let w = c.unlock_one.new.seat.view in
    let i = c.loop-words.invariant in
    let l = c.in-Some.field-0 in
    let t = c.unlock_one.ensures in
    record {
      book = t.book ∙ i.book;
      id = t.id ∙ i.id;
      alike = alike_then c.args.seat.now.view v w i.alike t.alike;
      seen = t.seen ∙ i.seen;
      locks = locks_less v w c.loop-words.seat.book c.unlock_one.new.seat.book l.words.now l.free c.pop.new.self.items (top (goal.at.loop-words-preserved c).In-Some) t.own t.holds t.alike.places t.book;
    }

pub returns : goal.returns
returns c =
    let v = c.loop-words.seat.view in
    let i = c.loop-words.invariant in
    let none : c.loop-words.locks.items ≡ [] = search rules in
    let rests = locks_none v c.loop-words.seat.book c.loop-words.locks.items none i.locks in
    record { book = i.book; id = i.id; alike = i.alike; own = rests.0; holds = rests.1; seen = i.seen }
