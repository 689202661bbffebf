use Rattle.spec_olc.proofs.Owed.{changes_some, changes_value}
use Rattle.spec_olc.proofs.laws.a_write_changes_its_entry.Goals as goal

pub returns : goal.returns
returns g c = record {
  none = λ old new id call env report out w was is. changes_some _ _ old new id call env report out w was is;
  same = λ old new id call env report out u v w was is. changes_value _ _ old new id call env report out u v w was is;
}
