use Rattle.std.proofs.Common.{ℕ, Some, None, refl, sym, ap, ◌∙◌, subst}
use Rattle.spec_map.specs.Map.{lookup}
use Rattle.spec_node.specs.Key.{next_byte}
use Rattle.spec_node.specs.TableNode.{seen}
use Rattle.spec_node.specs.declared.child.Child.TheVariants.{Payload, Node as below_at}
use Rattle.spec_node.specs.declared.child.ChildRef.{ChildRef}
use Rattle.spec_olc.specs.Calls.{bytes_of}
use Rattle.olc_state.specs.inner.Tasks.{key_bytes}
use Rattle.olc_decide.specs.declared.finding.RoomNeeded.{RoomNeeded}
use Rattle.olc_decide.specs.inner.Met.{IsRoom}
use Rattle.olc_decide.proofs.Meeting.{begins_here, count_same, full_here, large_met, leaf_above, node_there, one_told, small_met, under, whole_path}
use Rattle.olc_decide.proofs.finding.meet.Goals as goal

pub unreachable-requires : goal.unreachable-requires
unreachable-requires g c =
    let n = c.node_at-stored.result.now.node in
    let known = c.requires.facts.at.1.here in
    let same = node_there g.P.HasMeaning.meaning c.args.store.now c.args.path.here.slot c.node_at-stored.result.now known.node c.node_at-stored.ensures known.here in
    leaf_above g.P.Payload.always_shared g.P.HasMeaning.same_meaning _ c.args.store.now.root c.args.pin _ c.requires.placed c.args.path known.node known.here (c.requires.at_key known.node known.here) c.requires.facts
    (g.P.HasMeaning.meaning c.in-Some-Payload.field-0-0.now)
    (under g.P.HasMeaning.meaning n known.node same (key_bytes c.args.task.now) (Some (Payload c.in-Some-Payload.field-0-0.now))
    (ap (λ z. lookup n.children (next_byte n.prefix (bytes_of z))) (sym c.key.ensures) ∙ (sym c.in-Some-Payload.ensures ∙ ap (λ (r : ChildRef g.row.P.Denot ℕ). seen (Some r)) c.in-Some-Payload.field-0-is)))
    c.in_default.is

pub returns-in-Some-Node : goal.returns-in-Some-Node
returns-in-Some-Node g c = λ a here.
    let n = c.node_at-stored.result.now.node in
    let same = node_there g.P.HasMeaning.meaning c.args.store.now c.args.path.here.slot c.node_at-stored.result.now a c.node_at-stored.ensures here in
    under g.P.HasMeaning.meaning n a same (key_bytes c.args.task.now) (Some (below_at c.in-Some-Node.slot))
    (ap (λ z. lookup n.children (next_byte n.prefix (bytes_of z))) (sym c.key.ensures) ∙ (sym c.in-Some-Node.ensures ∙ ap (λ (r : ChildRef g.row.P.Denot ℕ). seen (Some r)) c.in-Some-Node.field-0-is))

pub returns-in-Some : goal.returns-in-Some
returns-in-Some g c = λ a here.
    let n = c.node_at-stored.result.now.node in
    let same = node_there g.P.HasMeaning.meaning c.args.store.now c.args.path.here.slot c.node_at-stored.result.now a c.node_at-stored.ensures here in
    let v = g.P.HasMeaning.meaning c.in-Some-Payload.field-0-0.now in
    let there =
    under g.P.HasMeaning.meaning n a same (key_bytes c.args.task.now) (Some (Payload c.in-Some-Payload.field-0-0.now))
    (ap (λ z. lookup n.children (next_byte n.prefix (bytes_of z))) (sym c.key.ensures) ∙ (sym c.in-Some-Payload.ensures ∙ ap (λ (r : ChildRef g.row.P.Denot ℕ). seen (Some r)) c.in-Some-Payload.field-0-is)) in
    let full =
    full_here g.P.Payload.always_shared g.P.HasMeaning.same_meaning _ c.args.store.now.root c.args.pin _ c.requires.placed c.args.path a here (c.requires.at_key a here) c.requires.facts v there in
    let count = c.value_count.ensures ∙ (c.base.ensures.count ∙ sym (count_same g.P.HasMeaning.meaning n a same (key_bytes c.args.task.now))) in
    (whole_path c.args.path c.in-Some.above c.in-Some.is, ((v, there), full, one_told c.value_count.result _ count))

pub returns-in-Small : goal.returns-in-Small
returns-in-Small g c = λ a here.
    let n = c.node_at-stored.result.now.node in
    let same = node_there g.P.HasMeaning.meaning c.args.store.now c.args.path.here.slot c.node_at-stored.result.now a c.node_at-stored.ensures here in
    let none =
    under g.P.HasMeaning.meaning n a same (key_bytes c.args.task.now) None
    (ap (λ z. lookup n.children (next_byte n.prefix (bytes_of z))) (sym c.key.ensures) ∙ sym c.in-None.ensures) in
    let room = subst (λ (r : RoomNeeded). IsRoom n r) c.in-Small.is c.room_for.ensures in
    (none, (refl, small_met g.P.HasMeaning.meaning n a same (key_bytes c.args.task.now) c.in-Small.small room none))

pub returns-in-Some-above : goal.returns-in-Some-above
returns-in-Some-above g c = λ a here.
    let n = c.node_at-stored.result.now.node in
    let same = node_there g.P.HasMeaning.meaning c.args.store.now c.args.path.here.slot c.node_at-stored.result.now a c.node_at-stored.ensures here in
    let none =
    under g.P.HasMeaning.meaning n a same (key_bytes c.args.task.now) None
    (ap (λ z. lookup n.children (next_byte n.prefix (bytes_of z))) (sym c.key.ensures) ∙ sym c.in-None.ensures) in
    let room = subst (λ (r : RoomNeeded). IsRoom n r) c.in-Large.is c.room_for.ensures in
    let begins = begins_here g.P.Payload.always_shared g.P.HasMeaning.same_meaning _ c.args.store.now.root c.args.pin _ c.requires.placed c.args.path a here (c.requires.at_key a here) c.requires.facts in
    (none, (whole_path c.args.path c.in-Some-above.above c.in-Some-above.is, large_met g.P.HasMeaning.meaning n a same (key_bytes c.args.task.now) c.in-Large.large room none begins))
