-- `into_parts` moves the fields of a handle.
use mathlib.Core.Path.{◌≡◌, refl}
use Rattle.c_handles.proofs.AsBox.{parts_row, parts_name}
use Rattle.c_handles.proofs.Moves.{Move, moves}
use Rattle.congee_c.proofs.AsReader.{E}
use Rattle.congee_c.specs.contracts.frozen.reader.Reader as Reader
use Rattle.congee_c.specs.contracts.frozen.handle.FrozenHandle as Handle
use Rattle.congee_c.specs.contracts.frozen.handle.FrozenHandle.into_parts.Key.{name}
use Rattle.congee_c.proofs.frozen.handle.FrozenHandle.into_parts.Statement.{statement}
use Rattle.congee_c.proofs.frozen.handle.FrozenHandle.into_parts.Code.{unfolded}

abbrev moved : Move E
moved = record {
  From = Handle.the_row;
  To = parts_row Reader.the_row;
  from = (Handle.the_type).name;
  to = parts_name;
  box = λ h. record { ptr = h.ptr; alloc = h.alloc; value = h.reader };
  made = λ v. record { ptr = v.ptr; alloc = v.alloc; value = v.value };
  takes = λ h us. refl;
  gives = λ v us. refl;
  last = λ h. tt;
  quiet = λ h f. refl;
  Has = λ p h. p.value ≡ h.reader;
  has = λ h. refl;
}

pub into_parts_spec : {M : Type 1} → statement M
into_parts_spec 𝓤 𝓛 𝓜 𝓡 wired = moves E moved 𝓛 𝓜 𝓡 name (unfolded 𝓤 𝓛.H 𝓜 𝓡 wired)
