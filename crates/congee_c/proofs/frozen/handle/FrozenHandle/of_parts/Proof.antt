-- `of_parts` moves the fields of the parts.
use mathlib.Core.Path.{◌≡◌, refl}
use Rattle.c_handles.proofs.AsBox.{parts_row, parts_name}
use Rattle.c_handles.proofs.Moves.{Move, moves}
use Rattle.congee_c.proofs.AsReader.{E}
use Rattle.congee_c.specs.contracts.frozen.reader.Reader as Reader
use Rattle.congee_c.specs.contracts.frozen.handle.FrozenHandle as To
use Rattle.congee_c.specs.contracts.frozen.handle.FrozenHandle.of_parts.Key.{name}
use Rattle.congee_c.proofs.frozen.handle.FrozenHandle.of_parts.Statement.{statement}
use Rattle.congee_c.proofs.frozen.handle.FrozenHandle.of_parts.Code.{unfolded}

abbrev moved : Move E
moved = record {
  From = parts_row Reader.the_row;
  To = To.the_row;
  from = parts_name;
  to = (To.the_type).name;
  box = λ p. record { ptr = p.ptr; alloc = p.alloc; value = p.value };
  made = λ v. record { ptr = v.ptr; alloc = v.alloc; reader = v.value };
  takes = λ p us. refl;
  gives = λ v us. refl;
  last = λ p. tt;
  quiet = λ p f. refl;
  Has = λ r p. r.reader ≡ p.value;
  has = λ p. refl;
}

pub of_parts_spec : {M : Type 1} → statement M
of_parts_spec 𝓤 𝓛 𝓜 𝓡 wired = moves E moved 𝓛 𝓜 𝓡 name (unfolded 𝓤 𝓛.H 𝓜 𝓡 wired)
