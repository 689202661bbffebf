use Rattle.std.proofs.Common.{arith, ◌≡◌, ◌+◌, ◌/◌, ◌<◌, ℕ}
use Rattle.live_layout.specs.Words.{at}
use Rattle.live_layout.specs.ListCells.{count, child}
use Rattle.live_layout.proofs.ListLaws.{move-list}
use Rattle.live_layout.proofs.StoreLaws.{moves-copied}
use Rattle.live_layout.proofs.list.copy.Goals as goal

pub returns-clause-is : goal.returns-clause-is
returns-clause-is g c = λ es h.
    let old = g.D.WriteWords.words c.args.from.now c.args.seat.now in
    let new = g.E.WriteWords.words c.args.to.now c.loop-i.seat in
    let is = c.count_of-count.ensures.is in
    let keys : (j : ℕ) → j < (count old + 8) / 8 → at new (1 + j) ≡ at old (1 + j) = λ j l. c.loop-i.invariant.keys j (omega (arith, l, is)) in
    let children : (i : ℕ) → i < count old → child c.args.other_room new i ≡ child c.args.room old i = λ i l. c.loop-i.invariant.children i (omega (arith, l, is, c.loop-i-test.false)) in
    move-list h c.args.other_room new c.loop-i.invariant.long c.requires.few.1 (moves-copied c.args.room c.args.other_room old new c.requires.few.0 keys children)
