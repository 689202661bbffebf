use Rattle.std.proofs.Common.{◌≡◌, IfOk, map, subst}
use Rattle.spec_map.specs.Map.{Pairs}
use Rattle.spec_olc.specs.Content.{IsContent}
use Rattle.spec_olc.specs.Meaning.{meant}
use Rattle.spec_olc.specs.State.{State}
use Rattle.olc_machine.proofs.machine.Machine.keys.Goals as goal

pub returns : goal.returns
returns g c =
    let meaning = g.P.HasMeaning.meaning in
    let M = g.P.HasMeaning.Meaning in
    subst (λ (s : State g.row.P.Denot). IfOk c.keys.result (λ keys. (m : Pairs M) × IsContent (meant meaning s) m × (keys.items ≡ map g.K.Word.of_number (map (λ pair. pair.0) m)))) c.self.view_is c.keys.ensures
