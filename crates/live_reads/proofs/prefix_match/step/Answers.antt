use Rattle.std.proofs.Common.{rules, sym, subst, ◌≡◌, ◌∙◌, Some}
use Rattle.live_reads.specs.Paths.{Sights}
use Rattle.live_reads.proofs.Finds.{keeps_then, looked_below}
use Rattle.live_reads.proofs.prefix_match.step.Goals as goal

pub meet-requires-clause-sighted : goal.meet-requires-clause-sighted
meet-requires-clause-sighted g c =
    let v = c.args.seat.now.view in
    let w = c.look.new.seat.view in
    let t = c.look.ensures in
    let some : c.look.result ≡ Some (Some c.in-Some.word) = search rules in
    let below = looked_below g.A.Asks.reads g.A.Asks.ask c.args.height c.look.result c.in-Some.word v w c.requires.height.0 t.looked some in
    subst (λ n. Sights w n) (sym (c.slot_below-below.ensures below.1.0 below.1.1)) below.1.2

pub returns-in_err-met-clause-keeps : goal.returns-in_err-met-clause-keeps
returns-in_err-met-clause-keeps g c =
    let v = c.args.seat.now.view in
    let w = c.look.new.seat.view in
    let x = c.meet.new.seat.view in
    let t = c.look.ensures in
    let m = c.meet.ensures in
    keeps_then v w x t.keeps m.keeps

pub returns-in-Covers-clause-keeps : goal.returns-in-Covers-clause-keeps
returns-in-Covers-clause-keeps g c =
    let v = c.args.seat.now.view in
    let w = c.look.new.seat.view in
    let x = c.meet.new.seat.view in
    let t = c.look.ensures in
    let m = c.meet.ensures in
    keeps_then v w x t.keeps m.keeps

pub returns-in-Covers-2-clause-keeps : goal.returns-in-Covers-2-clause-keeps
returns-in-Covers-2-clause-keeps g c =
    let v = c.args.seat.now.view in
    let w = c.look.new.seat.view in
    let x = c.meet.new.seat.view in
    let t = c.look.ensures in
    let m = c.meet.ensures in
    keeps_then v w x t.keeps m.keeps

pub returns-in-Leaves-clause-keeps : goal.returns-in-Leaves-clause-keeps
returns-in-Leaves-clause-keeps g c =
    let v = c.args.seat.now.view in
    let w = c.look.new.seat.view in
    let x = c.meet.new.seat.view in
    let t = c.look.ensures in
    let m = c.meet.ensures in
    keeps_then v w x t.keeps m.keeps
