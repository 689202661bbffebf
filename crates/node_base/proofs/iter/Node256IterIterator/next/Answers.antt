use Rattle.std.proofs.Common.{rules, arith, ◌∙◌, ◌+◌}
use Rattle.node_base.specs.inner.Places.{in_cell}
use Rattle.node_base.proofs.RowLaws.{scan-found, scan-skip, scan-nothing}
use Rattle.node_base.proofs.iter.Node256IterIterator.next.Goals as goal

pub returns-in_default-clause-steps : goal.returns-in_default-clause-steps
returns-in_default-clause-steps g c =
    let s = c.args.self.now in
    let e = scan-nothing (in_cell s.places.now) s.at (s.last + 1) (λ d l m. c.in_default.ensures.none d l) in
    (e, e)

pub returns-then-byte-self-clause-steps : goal.returns-then-byte-self-clause-steps
returns-then-byte-self-clause-steps g c =
    let s = c.args.self.now in
    let e = scan-nothing (in_cell s.places.now) s.at (s.last + 1) (λ d l m. c.in-Some.ensures.free d l (omega (arith, m, c.if-byte-self.true))) in
    (e, e)

pub returns-clause-steps : goal.returns-clause-steps
returns-clause-steps g c =
    let s = c.args.self.now in
    let has = in_cell s.places.now in
    let b = c.in-Some.byte in
    scan-skip has s.at b (s.last + 1) c.in-Some.ensures.order (omega (arith, c.if-byte-self.false)) c.in-Some.ensures.free
    ∙ scan-found has b (s.last + 1) c.get_filled.result.now (omega (arith, c.if-byte-self.false)) c.get_filled.ensures

pub returns-clause-goes : goal.returns-clause-goes
returns-clause-goes g c = let e = returns-clause-steps g c in search (rules, e)
