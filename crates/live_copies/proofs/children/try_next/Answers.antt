use Rattle.std.proofs.Common.{rules, sym, subst, ℕ, ◌≤◌, ◌∙◌}
use Rattle.live_reads.proofs.Finds.{keeps_then}
use Rattle.live_copies.proofs.Finding.{sights_on}
use Rattle.live_copies.proofs.children.try_next.Goals as goal

pub child_under-requires-clause-sighted : goal.child_under-requires-clause-sighted
child_under-requires-clause-sighted c = sights_on c.args.seat.now.view c.next_byte.new.seat.view c.args.name c.next_byte.ensures.keeps c.requires.sighted

pub returns-in-Some-child_under : goal.returns-in-Some-child_under
returns-in-Some-child_under c =
    let u = c.args.seat.now.view in
    let v = c.next_byte.new.seat.view in
    let w = c.child_under.new.seat.view in
    let s = c.next_byte.ensures in
    let t = c.in-Some-child_under.ensures in
    let low : c.args.from ≤ c.in-Some.byte = search rules in
    record { book = t.book ∙ s.book; id = t.id ∙ s.id; keeps = keeps_then u v w s.keeps t.keeps; seen = t.seen ∙ s.seen; found = (t.child.0, subst (λ (z : ℕ). c.args.from ≤ z) (sym t.child.1) low) }

pub returns-in-None-child_under : goal.returns-in-None-child_under
returns-in-None-child_under c =
    let u = c.args.seat.now.view in
    let v = c.next_byte.new.seat.view in
    let w = c.child_under.new.seat.view in
    let s = c.next_byte.ensures in
    let t = c.child_under.ensures in
    record { book = t.book ∙ s.book; id = t.id ∙ s.id; keeps = keeps_then u v w s.keeps t.keeps; seen = t.seen ∙ s.seen; found = tt }
