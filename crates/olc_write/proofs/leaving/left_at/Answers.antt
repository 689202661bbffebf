use Rattle.std.proofs.Common.{sym, subst, ◌∙◌}
use Rattle.olc_state.specs.inner.World.{PlacedNode}
use Rattle.olc_state.proofs.Options.{some_same}
use Rattle.olc_write.proofs.Leftovers.{left_meant}
use Rattle.olc_write.specs.inner.Leaving.{IsLeftOf}
use Rattle.olc_write.proofs.leaving.left_at.Goals as goal

pub returns : goal.returns
returns g c = λ a there.
    subst (λ (z : PlacedNode g.P.HasMeaning.Meaning). IsLeftOf c.args.again z.node c.cleanup_of.result) (some_same _ a (sym c.node_at.ensures ∙ there))
    (left_meant g.P.HasMeaning.meaning c.args.again c.node_at.result.now.node c.cleanup_of.result c.cleanup_of.ensures)
