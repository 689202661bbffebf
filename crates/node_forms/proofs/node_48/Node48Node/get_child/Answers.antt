use Rattle.std.proofs.Common.{rules, arith, ◌≡◌, ◌<◌, ◌∙◌, sym, ap, refl, length, slice_index, vec_len}
use Rattle.std.proofs.lemmas.Option.{slice_get_read, slice_get_past}
use Rattle.node_base.specs.inner.Row.{at_place}
use Rattle.node_base.proofs.RowLaws.{under-rises, row-lookup, marked-inside}
use Rattle.node_forms.proofs.node_48.Node48Node.get_child.Goals as goal

pub returns-then-i-eq48-clause-ascending : goal.returns-then-i-eq48-clause-ascending
returns-then-i-eq48-clause-ascending g c = rw (← c.self.view_is) (under-rises (at_place (slice_index c.self.inside.index.value) c.self.inside.children.items) 0 256 256 refl)

pub returns-else-i-eq48-clause-ascending : goal.returns-else-i-eq48-clause-ascending
returns-else-i-eq48-clause-ascending g c = rw (← c.self.view_is) (under-rises (at_place (slice_index c.self.inside.index.value) c.self.inside.children.items) 0 256 256 refl)

pub index-requires : goal.index-requires
index-requires g c =
    let byte : c.args.byte < 256 = search rules in
    let row = c.self.inside.children.items in
    let place = slice_index c.self.inside.index.value in
    let z : slice_index c.deref.result.now c.args.byte ≡ place c.args.byte = ap (λ x. slice_index x c.args.byte) c.deref.ensures in
    let inside = marked-inside 48 place row c.self.inside.base.count c.self.invariant.0 c.args.byte byte (λ mark. c.if-i-eq48.false (z ∙ mark)) in
    let n : vec_len c.self.inside.children ≡ length row = search rules in rw z (omega (arith, inside, n))

pub returns-else-i-eq48-clause-found : goal.returns-else-i-eq48-clause-found
returns-else-i-eq48-clause-found g c =
    let byte : c.args.byte < 256 = search rules in
    let row = c.self.inside.children.items in
    let place = slice_index c.self.inside.index.value in
    let z : slice_index c.deref.result.now c.args.byte ≡ place c.args.byte = ap (λ x. slice_index x c.args.byte) c.deref.ensures in
    let inside = marked-inside 48 place row c.self.inside.base.count c.self.invariant.0 c.args.byte byte (λ mark. c.if-i-eq48.false (z ∙ mark)) in
    rw (← c.self.view_is) (sym (row-lookup 48 place row c.self.inside.base.count c.self.invariant.0 c.args.byte byte
    ∙ slice_get_read row (length row) (place c.args.byte) c.index.result.now refl inside (rw z at c.index.ensures)))

pub returns-then-i-eq48-clause-found : goal.returns-then-i-eq48-clause-found
returns-then-i-eq48-clause-found g c =
    let byte : c.args.byte < 256 = search rules in
    let row = c.self.inside.children.items in
    let place = slice_index c.self.inside.index.value in
    let z : slice_index c.deref.result.now c.args.byte ≡ place c.args.byte = ap (λ x. slice_index x c.args.byte) c.deref.ensures in
    rw (← c.self.view_is) (sym (row-lookup 48 place row c.self.inside.base.count c.self.invariant.0 c.args.byte byte
    ∙ slice_get_past row (place c.args.byte) (omega (arith, z, c.self.invariant.0.within, c.if-i-eq48.true))))
