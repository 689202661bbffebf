use Rattle.std.proofs.Common.{None, refl, sym}
use Rattle.olc_state.proofs.Slots.{admitted_both, sets_both, sizes_added}
use Rattle.olc_state.proofs.store.Store.take_out.Goals as goal

pub returns-clause-sets : goal.returns-clause-sets
returns-clause-sets g c =
    sets_both g.P.HasMeaning.meaning c.args.self.now (record { nodes = c.remove-stored.new.self; root = c.args.self.now.root; pins = c.forget.new.self }) c.args.slot None None
    c.remove-stored.ensures.updates c.forget.ensures.life refl c.forget.ensures.count

pub returns-clause-sizes : goal.returns-clause-sizes
returns-clause-sizes g c =
    sizes_added c.remove-stored.new.self.slots c.args.self.now.nodes.slots c.args.slot c.remove-stored.result c.remove-stored.ensures.updates.changed c.remove-stored.ensures.value
    (λ o off. sym (c.remove-stored.ensures.updates.others o off))

pub returns-clause-admitted : goal.returns-clause-admitted
returns-clause-admitted g c =
    admitted_both g.P.HasMeaning.meaning c.args.self.now (record { nodes = c.remove-stored.new.self; root = c.args.self.now.root; pins = c.forget.new.self }) c.args.slot None None
    c.remove-stored.ensures.updates c.forget.ensures.life c.requires.admitted refl
