use Rattle.std.proofs.Common.{rules, arith, ◌≡◌, ◌<◌, ◌∙◌, ap, refl, length, slice_index, vec_len}
use Rattle.std.proofs.lemmas.Option.{slice_get_read, slice_get_past}
use Rattle.node_base.proofs.RowLaws.{row-lookup, row-changed, marked-inside}
use Rattle.node_forms.proofs.node_48.Node48Node.exchange.Goals as goal

pub index_mut-requires : goal.index_mut-requires
index_mut-requires g c =
    let byte : c.args.byte < 256 = search rules in
    let row = c.self.inside.children.items in
    let place = slice_index c.self.inside.index.value in
    let z : slice_index c.deref.result.now c.args.byte ≡ place c.args.byte = ap (λ x. slice_index x c.args.byte) c.deref.ensures in
    let inside = marked-inside 48 place row c.self.inside.base.count c.self.invariant.0 c.args.byte byte (λ mark. c.if-i-eq48.false (z ∙ mark)) in
    let n : vec_len c.self.inside.children ≡ length row = search rules in rw z (omega (arith, inside, n))

pub returns-else-i-eq48-clause-before : goal.returns-else-i-eq48-clause-before
returns-else-i-eq48-clause-before g c =
    let byte : c.args.byte < 256 = search rules in
    let row = c.self.inside.children.items in
    let place = slice_index c.self.inside.index.value in
    let z : slice_index c.deref.result.now c.args.byte ≡ place c.args.byte = ap (λ x. slice_index x c.args.byte) c.deref.ensures in
    let inside = marked-inside 48 place row c.self.inside.base.count c.self.invariant.0 c.args.byte byte (λ mark. c.if-i-eq48.false (z ∙ mark)) in
    rw (← c.self.view_is, c.replace.ensures.value) (row-lookup 48 place row c.self.inside.base.count c.self.invariant.0 c.args.byte byte
    ∙ slice_get_read row (length row) (place c.args.byte) c.index_mut.result.now refl inside (rw z at c.index_mut.ensures.value))

pub returns-else-i-eq48-clause-children : goal.returns-else-i-eq48-clause-children
returns-else-i-eq48-clause-children g c =
    let byte : c.args.byte < 256 = search rules in
    let row = c.self.inside.children.items in
    let place = slice_index c.self.inside.index.value in
    let z : slice_index c.deref.result.now c.args.byte ≡ place c.args.byte = ap (λ x. slice_index x c.args.byte) c.deref.ensures in
    let inside = marked-inside 48 place row c.self.inside.base.count c.self.invariant.0 c.args.byte byte (λ mark. c.if-i-eq48.false (z ∙ mark)) in
    rw (← c.self.view_is, c.replace.ensures.after, z) (row-changed 48 place row c.self.inside.base.count c.self.invariant.0 c.args.byte byte c.args.child inside).1

pub invariant_of-self : goal.invariant_of-self
invariant_of-self g c =
    let byte : c.args.byte < 256 = search rules in
    let row = c.self.inside.children.items in
    let place = slice_index c.self.inside.index.value in
    let z : slice_index c.deref.result.now c.args.byte ≡ place c.args.byte = ap (λ x. slice_index x c.args.byte) c.deref.ensures in
    let inside = marked-inside 48 place row c.self.inside.base.count c.self.invariant.0 c.args.byte byte (λ mark. c.if-i-eq48.false (z ∙ mark)) in
    rw z ((row-changed 48 place row c.self.inside.base.count c.self.invariant.0 c.args.byte byte c.replace.new.dest inside).0, c.self.invariant.1, c.self.invariant.2)

pub returns-then-i-eq48-clause-absent : goal.returns-then-i-eq48-clause-absent
returns-then-i-eq48-clause-absent g c =
    let byte : c.args.byte < 256 = search rules in
    let row = c.self.inside.children.items in
    let place = slice_index c.self.inside.index.value in
    let z : slice_index c.deref.result.now c.args.byte ≡ place c.args.byte = ap (λ x. slice_index x c.args.byte) c.deref.ensures in
    rw (← c.self.view_is) (row-lookup 48 place row c.self.inside.base.count c.self.invariant.0 c.args.byte byte
    ∙ slice_get_past row (place c.args.byte) (omega (arith, z, c.self.invariant.0.within, c.if-i-eq48.true)))
