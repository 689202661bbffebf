use Rattle.std.proofs.Common.{◌≡◌, subst}
use Rattle.spec_map.specs.Map.{Pairs}
use Rattle.spec_olc.specs.Content.{IsContent}
use Rattle.spec_olc.specs.Meaning.{meant}
use Rattle.spec_olc.specs.State.{State}
use Rattle.tree_walk.specs.Scan.{from_key, first_pair}
use Rattle.olc_machine.specs.First.{meant_pair}
use Rattle.olc_machine.proofs.machine.Machine.pair_from.Goals as goal

pub returns : goal.returns
returns g c =
    let meaning = g.P.HasMeaning.meaning in
    let M = g.P.HasMeaning.Meaning in
    subst (λ (s : State g.row.P.Denot). (m : Pairs M) × IsContent (meant meaning s) m × (meant_pair meaning c.pair_from.result ≡ first_pair (from_key c.args.start m))) c.self.view_is c.pair_from.ensures
