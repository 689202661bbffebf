use Rattle.std.proofs.Common.{arith, ◌∙◌, sym, ◌<◌, length}
use Rattle.live_layout.proofs.head.begins.Goals as goal

pub returns-then-lane_of-bytes-clause-no : goal.returns-then-lane_of-bytes-clause-no
returns-then-lane_of-bytes-clause-no c = λ form prefix h _ b.
    let all = c.prefix_len-i-end.ensures.is form prefix h in
    let inside : c.loop-i.i < length prefix = omega arith in
    let x = h.bytes c.loop-i.i inside in
    let y = b c.loop-i.i inside in
    c.if-lane_of-bytes.true (c.lane_of.ensures ∙ x ∙ y)

pub returns-clause-yes : goal.returns-clause-yes
returns-clause-yes c = λ form prefix h _ i l.
    let all = c.prefix_len-i-end.ensures.is form prefix h in
    let inside : i < c.loop-i.i = omega arith in
    sym (h.bytes i l) ∙ c.loop-i.invariant i inside
