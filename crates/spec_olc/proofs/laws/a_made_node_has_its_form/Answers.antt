use Rattle.std.proofs.Common.{Some, None}
use Rattle.spec_olc.proofs.Owed.{copies}
use Rattle.spec_olc.proofs.laws.a_made_node_has_its_form.Goals as goal

pub returns : goal.returns
returns g c = record {
  larger = λ old new id call env report out m is other. copies _ _ old new id call env report out None is m other;
  smaller = λ old new id call env report out cleaning m is other. copies _ _ old new id call env report out (Some cleaning) is m other;
  few = λ old new id call env report out m. m.few;
}
