use Rattle.spec_olc.proofs.Owed.{exchange_locks_none, get_locks_none}
use Rattle.spec_olc.proofs.laws.what_changes_nothing_locks_nothing.Goals as goal

pub returns : goal.returns
returns g c = record {
  get = λ old new id call env report out key is none sees u. get_locks_none _ _ old new id call env report out key is none sees u;
  exchange = λ old new id call env report out key expected current value is none sees seen other u. exchange_locks_none _ _ old new id call env report out key expected current value is none sees seen other u;
  range = λ old new id call env report out u. u.point;
}
