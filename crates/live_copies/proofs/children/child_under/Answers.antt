use Rattle.std.proofs.Common.{rules, None, ◌≡◌, ◌∙◌}
use Rattle.live_reads.proofs.Finds.{keeps_then, when_out}
use Rattle.live_copies.specs.inner.Children.{IsChild}
use Rattle.live_copies.proofs.Finding.{child_fits}
use Rattle.live_copies.proofs.children.child_under.Goals as goal

pub returns-in_err-child : goal.returns-in_err-child
returns-in_err-child c =
    let u = c.args.seat.now.view in
    let v = c.name_under.new.seat.view in
    let w = c.meet_some.new.seat.view in
    let s = c.name_under.ensures in
    let t = c.meet_some.ensures in
    let out : c.from_residual-in_err-child.result ≡ None = search rules in
    record { book = t.book ∙ s.book; id = t.id ∙ s.id; keeps = keeps_then u v w s.keeps t.keeps; seen = t.seen ∙ s.seen; child = when_out (λ x. IsChild w c.args.key c.args.height x × (x.byte ≡ c.args.byte)) c.from_residual-in_err-child.result out }

pub returns : goal.returns
returns c =
    let u = c.args.seat.now.view in
    let v = c.name_under.new.seat.view in
    let w = c.meet_some.new.seat.view in
    let s = c.name_under.ensures in
    let t = c.in_ok-child.ensures in
    let child = c.in_ok-child.child in
    let names = t.child in
    record { book = t.book ∙ s.book; id = t.id ∙ s.id; keeps = keeps_then u v w s.keeps t.keeps; seen = t.seen ∙ s.seen; child = child_fits w c.args.key c.args.height c.args.byte child c.fitting.result names.0 names.1 c.fitting.ensures.same c.fitting.ensures.fits }
