use Rattle.std.proofs.Common.{ℕ, List, sym, subst}
use Rattle.word_owners.specs.inner.Handles.{HasScanned}
use Rattle.word_owners.proofs.owners.Owners.withdraw_by.Goals as goal

pub reclaim_one-requires-clause-scanned : goal.reclaim_one-requires-clause-scanned
reclaim_one-requires-clause-scanned c = subst (λ (xs : List ℕ). HasScanned c.scan.new.seat.view xs) (sym c.deref.ensures.value) c.scan.ensures.scanned
