use Rattle.std.proofs.Common.{rules, arith, ◌≡◌, ◌≢◌, ℕ, ◌+◌, ◌-◌, ◌<◌, ◌∙◌, sym, ap, refl, List, length, get_or, set, slice_index}
use Rattle.std.specs.Vec.{vec_len}
use Rattle.std.proofs.lemmas.List.{get_or-set_same, get_or-set_other}
use Rattle.std.proofs.lemmas.Option.{slice_get_read, slice_get_past}
use Rattle.spec_map.specs.Map.{without}
use Rattle.spec_map.proofs.MapLaws.{without-absent}
use Rattle.node_base.specs.inner.Row.{in_row, IsRow}
use Rattle.node_base.proofs.RowLaws.{row-lookup, row-present, row-removed}
use Rattle.node_forms.proofs.node_48.Node48Node.take.Goals as goal

-- the byte gets the mark, and the byte of the last place the place that is free
gone : {C : Type 0} (index new : List ℕ) (row row' : List C) (count fewer b n m len : ℕ) → IsRow 48 (slice_index index) row count → b < 256 → length index ≡ 256
    → slice_index index b < length row → n ≡ length row → m ≡ length row' → len ≡ n
    → ((d : ℕ) → d < 256 → slice_index (set index b 48) d ≡ len - 1 → slice_index new d ≡ slice_index index b) → ((d : ℕ) → d < 256 → slice_index (set index b 48) d ≢ len - 1 → slice_index new d ≡ slice_index (set index b 48) d)
    → fewer + 1 ≡ count → m + 1 ≡ n
    → ((c : C) → slice_index index b + 1 < n → get_or row' (slice_index index b) c ≡ get_or row (n - 1) c) → ((k : ℕ) (c : C) → k ≢ slice_index index b → k + 1 < n → get_or row' k c ≡ get_or row k c)
    → IsRow 48 (slice_index new) row' fewer × (in_row (slice_index new) row' ≡ without (in_row (slice_index index) row) b)
gone index new row row' count fewer b n m len r byte long inside size fits end moved others less shorter there kept =
    let some = row-present 48 (slice_index index) row count r b byte inside in
    let mark = get_or-set_same index b 48 0 (omega (arith, long)) in
    let stays : (d : ℕ) → d ≢ b → slice_index (set index b 48) d ≡ slice_index index d = λ d other. get_or-set_other index b d 48 0 other in
    row-removed 48 (slice_index index) row count r b byte (slice_index new) row' fewer some less (omega (arith, shorter, size, fits))
    (others b byte (omega (arith, mark, end, size, inside, r.within)) ∙ mark)
    (λ d l other at. moved d l (omega (arith, stays d other, at, end, size, inside)))
    (λ d l other not. others d l (omega (arith, stays d other, not, end, size, inside)) ∙ stays d other)
    (rw size at there) (rw size at kept)

pub returns-then-i-count-clause-before : goal.returns-then-i-count-clause-before
returns-then-i-count-clause-before g c =
    let byte : c.args.byte < 256 = search rules in
    let row = c.self.inside.children.items in
    let place = slice_index c.self.inside.index.value in
    let n : c.len-count.result ≡ length row = search rules in
    let z : slice_index c.deref.result.now c.args.byte ≡ place c.args.byte = ap (λ x. slice_index x c.args.byte) c.deref.ensures in
    let inside : place c.args.byte < length row = omega (arith, z, n, c.if-i-count.true) in
    rw (← c.self.view_is) (sym (row-lookup 48 place row c.self.inside.base.count c.self.invariant.0 c.args.byte byte
    ∙ slice_get_read row (length row) (place c.args.byte) c.swap_remove.result refl inside (rw z at c.swap_remove.ensures.value)))

pub returns-then-i-count-clause-children : goal.returns-then-i-count-clause-children
returns-then-i-count-clause-children g c =
    let byte : c.args.byte < 256 = search rules in
    let index = c.self.inside.index.value in
    let row = c.self.inside.children.items in
    let n : c.len-count.result ≡ length row = search rules in
    let z : slice_index c.deref.result.now c.args.byte ≡ slice_index index c.args.byte = ap (λ x. slice_index x c.args.byte) c.deref.ensures in
    let inside : slice_index index c.args.byte < length row = omega (arith, z, n, c.if-i-count.true) in
    let marked : c.deref_mut-then-i-count.result.now ≡ set index c.args.byte 48 = c.deref_mut-then-i-count.ensures.value ∙ ap (λ x. set x c.args.byte 48) c.deref_mut.ensures.value in
    let e = gone index c.redirect.new.index row c.swap_remove.new.self.items c.self.inside.base.count c.count_down.new.self.count c.args.byte
    (vec_len c.self.inside.children) (vec_len c.swap_remove.new.self) c.len-count.result c.self.invariant.0 byte (search rules) inside (search rules) (search rules) c.len-count.ensures
    (rw (marked, c.deref.ensures) at c.redirect.ensures.moved) (rw marked at c.redirect.ensures.others) c.count_down.ensures.count c.swap_remove.ensures.len
    (rw c.deref.ensures at c.swap_remove.ensures.by_index.0) (rw c.deref.ensures at c.swap_remove.ensures.by_index.1) in
    rw (← c.self.view_is) e.1

pub invariant_of-self : goal.invariant_of-self
invariant_of-self g c =
    let byte : c.args.byte < 256 = search rules in
    let index = c.self.inside.index.value in
    let row = c.self.inside.children.items in
    let n : c.len-count.result ≡ length row = search rules in
    let z : slice_index c.deref.result.now c.args.byte ≡ slice_index index c.args.byte = ap (λ x. slice_index x c.args.byte) c.deref.ensures in
    let inside : slice_index index c.args.byte < length row = omega (arith, z, n, c.if-i-count.true) in
    let marked : c.deref_mut-then-i-count.result.now ≡ set index c.args.byte 48 = c.deref_mut-then-i-count.ensures.value ∙ ap (λ x. set x c.args.byte 48) c.deref_mut.ensures.value in
    let e = gone index c.redirect.new.index row c.swap_remove.new.self.items c.self.inside.base.count c.count_down.new.self.count c.args.byte
    (vec_len c.self.inside.children) (vec_len c.swap_remove.new.self) c.len-count.result c.self.invariant.0 byte (search rules) inside (search rules) (search rules) c.len-count.ensures
    (rw (marked, c.deref.ensures) at c.redirect.ensures.moved) (rw marked at c.redirect.ensures.others) c.count_down.ensures.count c.swap_remove.ensures.len
    (rw c.deref.ensures at c.swap_remove.ensures.by_index.0) (rw c.deref.ensures at c.swap_remove.ensures.by_index.1) in
    (e.0, c.count_down.ensures.form ∙ c.self.invariant.1, search rules)

pub returns-else-i-count-clause-before : goal.returns-else-i-count-clause-before
returns-else-i-count-clause-before g c =
    let byte : c.args.byte < 256 = search rules in
    let row = c.self.inside.children.items in
    let place = slice_index c.self.inside.index.value in
    let n : c.len-count.result ≡ length row = search rules in
    let z : slice_index c.deref.result.now c.args.byte ≡ place c.args.byte = ap (λ x. slice_index x c.args.byte) c.deref.ensures in
    rw (← c.self.view_is) (sym (row-lookup 48 place row c.self.inside.base.count c.self.invariant.0 c.args.byte byte
    ∙ slice_get_past row (place c.args.byte) (omega (arith, z, n, c.if-i-count.false))))

pub returns-else-i-count-clause-children : goal.returns-else-i-count-clause-children
returns-else-i-count-clause-children g c =
    let byte : c.args.byte < 256 = search rules in
    let row = c.self.inside.children.items in
    let place = slice_index c.self.inside.index.value in
    let n : c.len-count.result ≡ length row = search rules in
    let z : slice_index c.deref.result.now c.args.byte ≡ place c.args.byte = ap (λ x. slice_index x c.args.byte) c.deref.ensures in
    let none = row-lookup 48 place row c.self.inside.base.count c.self.invariant.0 c.args.byte byte
    ∙ slice_get_past row (place c.args.byte) (omega (arith, z, n, c.if-i-count.false)) in
    rw (← c.self.view_is) (sym (without-absent (in_row place row) c.args.byte none))
