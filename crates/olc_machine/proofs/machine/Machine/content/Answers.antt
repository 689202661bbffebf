use Rattle.std.proofs.Common.{IfOk, subst}
use Rattle.node_table.specs.inner.Kinds.{mapped}
use Rattle.spec_olc.specs.Content.{IsContent}
use Rattle.spec_olc.specs.Meaning.{meant}
use Rattle.spec_olc.specs.State.{State}
use Rattle.olc_machine.proofs.machine.Machine.content.Goals as goal

pub returns : goal.returns
returns g c =
    let meaning = g.P.HasMeaning.meaning in
    subst (λ (s : State g.row.P.Denot). IfOk c.content.result (λ pairs. IsContent (meant meaning s) (mapped meaning pairs.items))) c.self.view_is c.content.ensures
