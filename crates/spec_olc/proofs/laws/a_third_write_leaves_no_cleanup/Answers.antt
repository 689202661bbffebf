use Rattle.spec_olc.proofs.Owed.{left_first, left_last, left_none}
use Rattle.spec_olc.proofs.laws.a_third_write_leaves_no_cleanup.Goals as goal

pub returns : goal.returns
returns g c = record {
  first = λ old new id call env report out w first none due. left_first call.cleaning w.child _ w.left w.leaves first none due;
  second = λ old new id call env report out b w is again none due. left_last call.cleaning b w.child _ w.left w.leaves is again none due;
  third = λ old new id call env report out b w is last. left_none call.cleaning b w.child _ w.left w.leaves is last;
}
