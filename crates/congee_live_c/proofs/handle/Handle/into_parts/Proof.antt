-- `into_parts` moves the fields of a handle.
use mathlib.Core.Path.{◌≡◌, refl}
use Rattle.c_handles.proofs.AsBox.{parts_row, parts_name}
use Rattle.congee_live_c.proofs.AsNumbers.{E}
use Rattle.c_handles.proofs.Moves.{Move, moves}
use Rattle.congee_live_c.specs.contracts.held.Held as Held
use Rattle.congee_live_c.specs.contracts.handle.Handle as Handle
use Rattle.congee_live_c.specs.contracts.handle.Handle.into_parts.Key.{name}
use Rattle.congee_live_c.proofs.handle.Handle.into_parts.Statement.{statement}
use Rattle.congee_live_c.proofs.handle.Handle.into_parts.Code.{unfolded}

abbrev moved : Move E
moved = record {
  From = Handle.the_row;
  To = parts_row Held.the_row;
  from = (Handle.the_type).name;
  to = parts_name;
  box = λ h. record { ptr = h.ptr; alloc = h.alloc; value = h.held };
  made = λ v. record { ptr = v.ptr; alloc = v.alloc; value = v.value };
  takes = λ h us. refl;
  gives = λ v us. refl;
  last = λ h. tt;
  quiet = λ h f. refl;
  Has = λ p h. p.value ≡ h.held;
  has = λ h. refl;
}

pub into_parts_spec : {M : Type 1} → statement M
into_parts_spec 𝓤 𝓛 𝓜 𝓡 wired = moves E moved 𝓛 𝓜 𝓡 name (unfolded 𝓤 𝓛.H 𝓜 𝓡 wired)
