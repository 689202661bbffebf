use Rattle.std.proofs.Common.{ℕ, suc, ◌∙◌, subst, sym, ap, arith, rules}
use Rattle.spec_node.specs.Key.{low}
use Rattle.node_table.specs.Table.{IsSubtree}
use Rattle.olc_state.specs.inner.Walks.{meant_nodes}
use Rattle.olc_state.proofs.WalkLaws.{never_empty}
use Rattle.olc_machine.specs.inner.FirstByte.{IsFirstByte}
use Rattle.olc_machine.proofs.Seeking.{IsFirstUnder, least_is, key_small, below_is, starts_at, under_payload, under_node, found_is_first, none_goes_on, ends_with_none}
use Rattle.olc_machine.proofs.ahead.+pair_from.Goals as goal
use Rattle.olc_machine.proofs.ahead.+pair_from.Goals.{in-Payload, in-Node}

pub unreachable-requires : goal.unreachable-requires
unreachable-requires g t c = never_empty g.P.HasMeaning.meaning c.args.nodes.now.slots c.requires.levels c.args.slot c.requires.tree c.in_default.ensures

pub first_byte-from-requires : goal.first_byte-from-requires
first_byte-from-requires g t c =
    let prefix = c.base-base.ensures.prefix in
    least_is g.P.HasMeaning.meaning c.args.nodes.now.slots c.args.slot c.in-Some.stored.now c.requires c.in-Some.ensures c.first_key-first.result c.base-base.result.now.prefix c.first_key-first.ensures prefix ∙ ap low (sym prefix)

pub children-init : goal.children-init
children-init g t c =
    let from = c.first_byte-from.result in
    let is = subst (λ p. IsFirstByte p c.args.start from) c.base-base.ensures.prefix c.first_byte-from.ensures in
    record {
      left = λ less tree. starts_at g.P.HasMeaning.meaning c.args.nodes.now.slots c.args.slot c.in-Some.stored.now c.requires c.in-Some.ensures c.args.start less tree from is;
      begin = (from, is, omega arith);
    }

pub overflow_add-found : goal.overflow_add-found
overflow_add-found g t c =
    let slots = c.args.nodes.now.slots in
    let n = c.in-Some.stored.now in
    let first = least_is g.P.HasMeaning.meaning slots c.args.slot n c.requires c.in-Some.ensures c.first_key-first.result c.base-base.result.now.prefix c.first_key-first.ensures c.base-base.ensures.prefix in
    let fits = key_small g.P.HasMeaning.meaning slots c.args.slot n c.requires c.in-Some.ensures c.children.from c.in-Some-first_from.byte c.in-Some-first_from.child c.in-Some-first_from.ensures.some c.in-Payload.payload c.in-Payload.is in
    omega (arith, first, fits)

pub pair_from-found-requires : goal.pair_from-found-requires
pair_from-found-requires g t c κs within =
    let down = below_is g.P.HasMeaning.meaning c.args.nodes.now.slots c.args.slot c.in-Some.stored.now c.requires c.in-Some.ensures c.children.from c.in-Some-first_from.byte c.in-Some-first_from.child c.in-Some-first_from.ensures.some c.in-Node.below c.in-Node.is in
    let smaller = down.shorter in
    (search rules, (search rules, down.at_key))

pub returns-then-is_some : goal.returns-then-is_some
returns-then-is_some g t c = λ less tree.
    let m = g.P.HasMeaning.meaning in
    let slots = c.args.nodes.now.slots in
    let n = c.in-Some.stored.now in
    let next = c.in-Some-first_from in
    let first = least_is m slots c.args.slot n c.requires c.in-Some.ensures c.first_key-first.result c.base-base.result.now.prefix c.first_key-first.ensures c.base-base.ensures.prefix in
    let begin = c.children.invariant.begin in
    let found : IsFirstUnder m slots c.args.slot n c.requires c.in-Some.ensures c.children.from next.byte next.child next.ensures.some c.args.start less tree c.match-child.found =
    elim c.match-child.branch [
      | in-Payload w ↦ under_payload m slots c.args.slot n c.requires c.in-Some.ensures c.children.from next.byte next.child next.ensures.some c.args.start less tree _ w.in-Payload.payload _ begin.0 w.in-Payload.is w.found-is first begin.1 (omega (arith, begin.2, next.ensures.order))
      | in-Node w ↦ under_node m slots c.args.slot n c.requires c.in-Some.ensures c.children.from next.byte next.child next.ensures.some c.args.start less tree _ w.in-Node.below _ w.in-Node.is w.found-is w.pair_from-found.ensures
    ]
    in
    found_is_first m slots c.args.slot n c.requires c.in-Some.ensures c.children.from next.byte next.child next.ensures.some c.args.start less tree c.match-child.found (c.children.invariant.left less tree) found (sym c.is_some.ensures ∙ c.if-is_some.true)

pub children-preserved : goal.children-preserved
children-preserved g t c =
    let m = g.P.HasMeaning.meaning in
    let slots = c.args.nodes.now.slots in
    let n = c.in-Some.stored.now in
    let next = c.in-Some-first_from in
    let first = least_is m slots c.args.slot n c.requires c.in-Some.ensures c.first_key-first.result c.base-base.result.now.prefix c.first_key-first.ensures c.base-base.ensures.prefix in
    let begin = c.children.invariant.begin in
    let found : (less : ℕ) (tree : IsSubtree (meant_nodes m slots) (suc less) c.args.slot)
    → IsFirstUnder m slots c.args.slot n c.requires c.in-Some.ensures c.children.from next.byte next.child next.ensures.some c.args.start less tree c.match-child.found = λ less tree.
    elim c.match-child.branch [
      | in-Payload w ↦ under_payload m slots c.args.slot n c.requires c.in-Some.ensures c.children.from next.byte next.child next.ensures.some c.args.start less tree _ w.in-Payload.payload _ begin.0 w.in-Payload.is w.found-is first begin.1 (omega (arith, begin.2, next.ensures.order))
      | in-Node w ↦ under_node m slots c.args.slot n c.requires c.in-Some.ensures c.children.from next.byte next.child next.ensures.some c.args.start less tree _ w.in-Node.below _ w.in-Node.is w.found-is w.pair_from-found.ensures
    ]
    in
    record {
      left = λ less tree. none_goes_on m slots c.args.slot n c.requires c.in-Some.ensures c.children.from next.byte next.child next.ensures.some c.args.start less tree c.match-child.found (c.children.invariant.left less tree) (found less tree) (sym c.is_some.ensures ∙ c.if-is_some.false);
      begin = (begin.0, begin.1, omega (arith, begin.2, next.ensures.order));
    }

pub returns : goal.returns
returns g t c = λ less tree.
    ends_with_none g.P.HasMeaning.meaning c.args.nodes.now.slots c.args.slot c.in-Some.stored.now c.requires c.in-Some.ensures c.args.start less tree c.children.from (c.children.invariant.left less tree) c.in_default-first_from.ensures.none
