use Rattle.std.proofs.Common.{sym, ap, ◌∙◌}
use Rattle.spec_olc.specs.Meaning.{child_of, in_some}
use Rattle.olc_state.proofs.Slots.{has_room, seen_nothing, sets_child, sizes_child, stood_under}
use Rattle.olc_state.proofs.store.Store.put_child.Goals as goal

pub returns-then-is_some-clause-sets : goal.returns-then-is_some-clause-sets
returns-then-is_some-clause-sets g c = λ a found.
    sets_child g.P.HasMeaning.meaning c.args.self.now c.args.slot c.in-Some.node.now (sym c.in-Some.ensures.value) c.args.byte c.args.child c.change.new.self c.change.ensures.after a found

pub returns-then-is_some-clause-before : goal.returns-then-is_some-clause-before
returns-then-is_some-clause-before g c = λ a found.
    ap (in_some (child_of g.P.HasMeaning.meaning)) (sym c.change.ensures.before)
    ∙ sym (stood_under g.P.HasMeaning.meaning c.args.self.now c.args.slot c.in-Some.node.now (sym c.in-Some.ensures.value) c.args.byte a found)

pub returns-then-is_some-clause-sizes : goal.returns-then-is_some-clause-sizes
returns-then-is_some-clause-sizes g c =
    sizes_child g.P.HasMeaning.meaning c.args.self.now c.args.slot c.in-Some.node.now (sym c.in-Some.ensures.value) c.args.byte c.args.child c.change.new.self c.change.ensures.after

pub insert-requires-clause-room : goal.insert-requires-clause-room
insert-requires-clause-room g c =
    let at = c.requires.at in
    has_room g.P.HasMeaning.meaning c.args.self.now c.args.slot c.in-Some.node.now (sym c.in-Some.ensures.value) c.args.byte at.0 at.1 at.3
    (sym c.get_child.ensures ∙ seen_nothing c.get_child.result c.if-is_some.ensures)

pub returns-clause-sets : goal.returns-clause-sets
returns-clause-sets g c = λ a found.
    sets_child g.P.HasMeaning.meaning c.args.self.now c.args.slot c.in-Some.node.now (sym c.in-Some.ensures.value) c.args.byte c.args.child c.insert.new.self c.insert.ensures a found

pub returns-clause-before : goal.returns-clause-before
returns-clause-before g c = λ a found.
    ap (in_some (child_of g.P.HasMeaning.meaning)) (sym (seen_nothing c.get_child.result c.if-is_some.ensures) ∙ c.get_child.ensures)
    ∙ sym (stood_under g.P.HasMeaning.meaning c.args.self.now c.args.slot c.in-Some.node.now (sym c.in-Some.ensures.value) c.args.byte a found)

pub returns-clause-sizes : goal.returns-clause-sizes
returns-clause-sizes g c =
    sizes_child g.P.HasMeaning.meaning c.args.self.now c.args.slot c.in-Some.node.now (sym c.in-Some.ensures.value) c.args.byte c.args.child c.insert.new.self c.insert.ensures
