use Rattle.std.proofs.Common.{arith, rules}
use Rattle.olc_state.proofs.WalkLaws.{never_empty}
use Rattle.olc_machine.proofs.Seeking.{least_is, key_small, below_is, keys_begin, key_added, keys_added, keys_end}
use Rattle.olc_machine.proofs.listing.+push_keys.Goals as goal
use Rattle.olc_machine.proofs.listing.+push_keys.Goals.{in-Payload+in_ok-push-in-Payload, in-Node+in_ok-push_keys-in-Node}

pub unreachable-requires : goal.unreachable-requires
unreachable-requires g t c = never_empty g.P.HasMeaning.meaning c.args.nodes.now.slots c.requires.levels c.args.slot c.requires.tree c.in_default.ensures

pub children-init : goal.children-init
children-init g t c = λ less tree. keys_begin g.P.HasMeaning.meaning c.args.nodes.now.slots c.args.slot c.in-Some.stored.now c.requires c.in-Some.ensures g.K.Word.of_number less tree _

pub overflow_add-first : goal.overflow_add-first
overflow_add-first g t c =
    let slots = c.args.nodes.now.slots in
    let n = c.in-Some.stored.now in
    let first = least_is g.P.HasMeaning.meaning slots c.args.slot n c.requires c.in-Some.ensures c.first_key-first.result c.base.result.now.prefix c.first_key-first.ensures c.base.ensures.prefix in
    let fits = key_small g.P.HasMeaning.meaning slots c.args.slot n c.requires c.in-Some.ensures c.children.from c.in-Some-first_from.byte c.in-Some-first_from.child c.in-Some-first_from.ensures.some c.in-Payload.field-0 c.in-Payload.is in
    omega (arith, first, fits)

pub push_keys-requires : goal.push_keys-requires
push_keys-requires g t c κs within =
    let down = below_is g.P.HasMeaning.meaning c.args.nodes.now.slots c.args.slot c.in-Some.stored.now c.requires c.in-Some.ensures c.children.from c.in-Some-first_from.byte c.in-Some-first_from.child c.in-Some-first_from.ensures.some c.in-Node.below c.in-Node.is in
    let smaller = down.shorter in
    (search rules, (search rules, (search rules, down.at_key)))

pub children-preserved : goal.children-preserved
children-preserved g t c =
    let m = g.P.HasMeaning.meaning in
    let slots = c.args.nodes.now.slots in
    let n = c.in-Some.stored.now in
    let next = c.in-Some-first_from in
    let first = least_is m slots c.args.slot n c.requires c.in-Some.ensures c.first_key-first.result c.base.result.now.prefix c.first_key-first.ensures c.base.ensures.prefix in
    λ less tree. elim c.match-child.branch [
      | in-Payload+in_ok-push-in-Payload w ↦
          rw w.keys-is
          (key_added m slots c.args.slot n c.requires c.in-Some.ensures g.K.Word.of_number less tree c.children.from next.byte next.child next.ensures.some c.args.keys.now.items c.children.keys.items _ (c.children.invariant less tree) w.in-Payload.field-0 c.first_key-first.result w.in-Payload.is first
          (rw w.from_u64.ensures at w.in_ok-push-in-Payload.ensures.items))
      | in-Node+in_ok-push_keys-in-Node w ↦
          rw w.keys-is
          (keys_added m slots c.args.slot n c.requires c.in-Some.ensures g.K.Word.of_number less tree c.children.from next.byte next.child next.ensures.some c.args.keys.now.items c.children.keys.items _ (c.children.invariant less tree) w.in-Node.below w.in-Node.is w.in_ok-push_keys-in-Node.ensures)
    ]

pub returns : goal.returns
returns g t c = λ less tree.
    keys_end g.P.HasMeaning.meaning c.args.nodes.now.slots c.args.slot c.in-Some.stored.now c.requires c.in-Some.ensures g.K.Word.of_number less tree c.children.from _ _ (c.children.invariant less tree) c.in_default-first_from.ensures.none
