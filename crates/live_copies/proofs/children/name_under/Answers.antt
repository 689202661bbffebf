use Rattle.std.proofs.Common.{rules, sym, subst, ap, Some, None, ◌≡◌, ◌∙◌, false}
use Rattle.live_nodes.specs.Views.{View, Ask, ask}
use Rattle.live_reads.specs.Paths.{Sights, Keeps}
use Rattle.live_reads.proofs.Finds.{keeps_then, looked_below, looked_none, looked_empty}
use Rattle.live_copies.proofs.children.name_under.Goals as goal
use Rattle.live_copies.proofs.children.name_under.Goals.{After-look}

-- the node was looked at
module _ (c : After-look) where
  abbrev asked : Ask
  asked = ask c.enter.new.seat.id c.args.key 0 0

  looked : (c.look.new.seat.book ≡ c.args.seat.now.book) × (c.look.new.seat.id ≡ c.args.seat.now.id) × Keeps c.args.seat.now.view c.look.new.seat.view
  looked = let e = c.enter.ensures in let t = c.look.ensures in (t.book ∙ e.book, t.id ∙ e.id, keeps_then c.args.seat.now.view c.enter.new.seat.view c.look.new.seat.view e.keeps t.keeps)

pub returns-in-Some-Some : goal.returns-in-Some-Some
returns-in-Some-Some c =
    let a = (goal.at.returns-in-Some-Some c).After-look in
    let w = c.look.new.seat.view in
    let some : c.look.result ≡ Some (Some c.in-Some-Some.word) = search rules in
    let below = looked_below false (asked a) c.args.height c.look.result c.in-Some-Some.word c.enter.new.seat.view w c.requires.height.0 c.look.ensures.looked some in
    record { book = (looked a).0; id = (looked a).1; keeps = (looked a).2; seen = below.0 ∙ c.enter.ensures.seen; below = subst (λ n. Sights w n) (sym (c.slot_below.ensures below.1.0 below.1.1)) below.1.2 }

pub returns-in-Some-None : goal.returns-in-Some-None
returns-in-Some-None c =
    let a = (goal.at.returns-in-Some-None c).After-look in
    let none : c.look.result ≡ Some None = search rules in
    record { book = (looked a).0; id = (looked a).1; keeps = (looked a).2; seen = looked_empty (asked a) c.args.height c.look.result c.enter.new.seat.view c.look.new.seat.view c.look.ensures.looked none ∙ c.enter.ensures.seen; below = tt }

pub returns-in-None : goal.returns-in-None
returns-in-None c =
    let a = (goal.at.returns-in-None c).After-look in
    let none : c.look.result ≡ None = search rules in
    let same = looked_none false (asked a) c.args.height c.look.result c.enter.new.seat.view c.look.new.seat.view c.look.ensures.looked none in
    record { book = (looked a).0; id = (looked a).1; keeps = (looked a).2; seen = ap (λ (z : View). z.seen) same ∙ c.enter.ensures.seen; below = tt }
