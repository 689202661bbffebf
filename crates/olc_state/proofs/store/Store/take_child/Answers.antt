use Rattle.std.proofs.Common.{sym, ap, ◌∙◌}
use Rattle.spec_olc.specs.Meaning.{child_of, in_some}
use Rattle.olc_state.proofs.Slots.{sets_taken, sizes_taken, stands_under, stood_under}
use Rattle.olc_state.proofs.store.Store.take_child.Goals as goal

pub remove-requires : goal.remove-requires
remove-requires g c =
    let at = c.requires.at in
    stands_under g.P.HasMeaning.meaning c.args.self.now c.args.slot c.in-Some.node.now (sym c.in-Some.ensures.value) c.args.byte at.0 at.1 at.2

pub returns-clause-sets : goal.returns-clause-sets
returns-clause-sets g c = λ a found.
    sets_taken g.P.HasMeaning.meaning c.args.self.now c.args.slot c.in-Some.node.now (sym c.in-Some.ensures.value) c.args.byte c.remove.new.self c.remove.ensures.after a found

pub returns-clause-before : goal.returns-clause-before
returns-clause-before g c = λ a found.
    stood_under g.P.HasMeaning.meaning c.args.self.now c.args.slot c.in-Some.node.now (sym c.in-Some.ensures.value) c.args.byte a found
    ∙ ap (in_some (child_of g.P.HasMeaning.meaning)) c.remove.ensures.before

pub returns-clause-sizes : goal.returns-clause-sizes
returns-clause-sizes g c =
    sizes_taken g.P.HasMeaning.meaning c.args.self.now c.args.slot c.in-Some.node.now (sym c.in-Some.ensures.value) c.args.byte c.remove.new.self c.remove.ensures.after
