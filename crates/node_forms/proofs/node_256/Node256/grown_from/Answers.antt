use Rattle.std.proofs.Common.{rules, arith, ◌≡◌, ◌∙◌, ap, sym, refl, replicate, length, slice_index, vec_len}
use Rattle.std.proofs.lemmas.List.{get_or-replicate}
use Rattle.node_base.proofs.RowLaws.{row-empty}
use Rattle.node_base.specs.inner.Places.{in_cell}
use Rattle.node_forms.proofs.CellLaws.{get-none, bytes-distinct, cells-moved, count-moved}
use Rattle.node_forms.proofs.node_256.Node256.grown_from.Goals as goal

pub fill-requires-clause-apart : goal.fill-requires-clause-apart
fill-requires-clause-apart g c =
    let n : vec_len c.smaller.inside.children ≡ length c.smaller.inside.children.items = search rules in
    λ i j l m. bytes-distinct c.smaller.invariant.0 c.bytes_by_place-bytes.result (rw c.deref.ensures at c.bytes_by_place-bytes.ensures) i j l (omega (arith, m, n))

pub fill-requires-clause-empty : goal.fill-requires-clause-empty
fill-requires-clause-empty g c = λ i _. ap (λ x. in_cell x (slice_index c.bytes_by_place-bytes.result i)) c.in_ok-places.ensures ∙ get-none 256 (slice_index c.bytes_by_place-bytes.result i)

pub invariant_of-result : goal.invariant_of-result
invariant_of-result g c =
    let n : vec_len c.smaller.inside.children ≡ length c.smaller.inside.children.items = search rules in
    let count : c.hand_over-base.result.count ≡ c.smaller.inside.base.count = search rules in (
      count-moved c.smaller.invariant.0 c.bytes_by_place-bytes.result (rw c.deref.ensures at c.bytes_by_place-bytes.ensures) c.fill.new.self
          (λ i l. c.fill.ensures.moved i (omega (arith, l, n)))
          (λ b away. c.fill.ensures.others b (λ i l. away i (omega (arith, l, n))) ∙ ap (λ x. in_cell x b) c.in_ok-places.ensures ∙ get-none 256 b)
          ∙ sym count,
      search rules,
    )

pub invariant_of-smaller : goal.invariant_of-smaller
invariant_of-smaller g c =
    let all : c.place_all.new.index ≡ replicate 256 48 = search rules in
    let none : c.hand_over-base.new.self.count ≡ 0 = search rules in
    rw (all, c.fill.ensures.none) ((row-empty 48 (slice_index (replicate 256 48)) c.hand_over-base.new.self.count (λ b l. get_or-replicate 256 b 48 0 l) none).0, search rules, search rules)

pub returns-clause-children : goal.returns-clause-children
returns-clause-children g c =
    let n : vec_len c.smaller.inside.children ≡ length c.smaller.inside.children.items = search rules in
    rw (← c.smaller.view_is) (cells-moved c.smaller.invariant.0 c.bytes_by_place-bytes.result (rw c.deref.ensures at c.bytes_by_place-bytes.ensures) c.fill.new.self
    (λ i l. c.fill.ensures.moved i (omega (arith, l, n)))
    (λ b away. c.fill.ensures.others b (λ i l. away i (omega (arith, l, n))) ∙ ap (λ x. in_cell x b) c.in_ok-places.ensures ∙ get-none 256 b))

pub returns-clause-emptied : goal.returns-clause-emptied
returns-clause-emptied g c =
    let all : c.place_all.new.index ≡ replicate 256 48 = search rules in
    rw (all, c.fill.ensures.none) (row-empty 48 (slice_index (replicate 256 48)) 0 (λ b l. get_or-replicate 256 b 48 0 l) refl).1
