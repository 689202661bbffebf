-- `as_mut` lends what the handle holds.
use mathlib.Core.Path.{refl}
use Rattle.congee_live_c.proofs.AsOwners.{E}
use Rattle.c_handles.proofs.Lends.{Lend, lends}
use Rattle.congee_live_c.specs.inner.After.{with_owners}
use Rattle.congee_live_c.specs.contracts.owners.handle.Handle as Handle
use Rattle.congee_live_c.specs.contracts.owners.handle.Handle.as_mut.Key.{name}
use Rattle.congee_live_c.proofs.owners.handle.Handle.as_mut.Statement.{statement}
use Rattle.congee_live_c.proofs.owners.handle.Handle.as_mut.Code.{unfolded}

abbrev lent : Lend E
lent = record {
  row = Handle.the_row;
  name = (Handle.the_type).name;
  box = λ h. record { ptr = h.ptr; alloc = h.alloc; value = h.held };
  set = with_owners;
  is_set = λ h w. refl;
}

pub as_mut_spec : {M : Type 1} → statement M
as_mut_spec 𝓤 𝓛 𝓜 𝓡 wired = lends E lent 𝓛 𝓜 𝓡 name (unfolded 𝓤 𝓛.H 𝓜 𝓡 wired)
