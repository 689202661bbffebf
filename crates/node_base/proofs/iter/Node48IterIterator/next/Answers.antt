use Rattle.std.proofs.Common.{rules, arith, ◌∙◌, ◌+◌, get_or, slice_index}
use Rattle.std.proofs.lemmas.Option.{slice_get-get_or, slice_get_past}
use Rattle.node_base.specs.inner.Row.{at_place}
use Rattle.node_base.proofs.RowLaws.{scan-found, scan-skip, scan-nothing}
use Rattle.node_base.proofs.iter.Node48IterIterator.next.Goals as goal

pub returns-in_default-clause-steps : goal.returns-in_default-clause-steps
returns-in_default-clause-steps g c =
    let s = c.args.self.now in
    let e = scan-nothing (at_place (slice_index s.index.now) s.children.now) s.at (s.last + 1)
    (λ d l m. slice_get_past s.children.now (slice_index s.index.now d) (c.in_default.ensures.none d l (omega (arith, m, c.type_inv.self)))) in
    (e, e)

pub returns-then-byte-self-clause-steps : goal.returns-then-byte-self-clause-steps
returns-then-byte-self-clause-steps g c =
    let s = c.args.self.now in
    let e = scan-nothing (at_place (slice_index s.index.now) s.children.now) s.at (s.last + 1)
    (λ d l m. slice_get_past s.children.now (slice_index s.index.now d) (c.in-Some.ensures.free d l (omega (arith, m, c.if-byte-self.true)))) in
    (e, e)

pub returns-clause-steps : goal.returns-clause-steps
returns-clause-steps g c =
    let s = c.args.self.now in
    let has = at_place (slice_index s.index.now) s.children.now in
    let b = c.in-Some.byte in
    let i = slice_index s.index.now b in
    scan-skip has s.at b (s.last + 1) c.in-Some.ensures.order (omega (arith, c.if-byte-self.false)) (λ d l m. slice_get_past s.children.now (slice_index s.index.now d) (c.in-Some.ensures.free d l m))
    ∙ scan-found has b (s.last + 1) (get_or s.children.now i c.index-self-self.result) (omega (arith, c.if-byte-self.false)) (slice_get-get_or s.children.now i c.index-self-self.result c.in-Some.ensures.here)

pub returns-clause-goes : goal.returns-clause-goes
returns-clause-goes g c = let e = returns-clause-steps g c in search (rules, e)
