use Rattle.olc_write.proofs.Wrote.{meant_fits}
use Rattle.olc_write.proofs.linking.byte_below.Goals as goal

pub returns-clause-within : goal.returns-clause-within
returns-clause-within g c = λ a found. meant_fits g.P.HasMeaning.meaning c.args.store.now c.args.slot c.node_at.result.now a c.node_at.ensures found c.base.ensures.within
