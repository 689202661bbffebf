-- What is never equal: truths, lists, how far calls are, and states of a node's life.
use Rattle.std.proofs.Common.{◌≡◌, ◌≢◌, ℕ, true, false, List, [], ◌∷◌, Option}
use Rattle.spec_olc.specs.declared.types.Progress.TheVariants as progress
use Rattle.olc_state.specs.inner.World.{is_private, is_linked, is_detached, is_retired}

pub false_true : false ≡ true → ⊥
false_true e = cc

pub true_false : true ≡ false → ⊥
true_false e = cc

pub cons_none : (x : ℕ) (xs : List ℕ) → (x ∷ xs) ≢ []
cons_none x xs e = cc

pub decided_open : progress.Decided ≡ progress.Open → ⊥
decided_open e = cc

pub refused_open : progress.Refused ≡ progress.Open → ⊥
refused_open e = cc

pub linked_private : is_linked ≡ is_private → ⊥
linked_private e = cc

pub linked_retired : (stamp : Option ℕ) → is_linked ≡ is_retired stamp → ⊥
linked_retired stamp e = cc

pub private_retired : (stamp : Option ℕ) → is_private ≡ is_retired stamp → ⊥
private_retired stamp e = cc

pub detached_retired : (stamp : Option ℕ) → is_detached ≡ is_retired stamp → ⊥
detached_retired stamp e = cc
