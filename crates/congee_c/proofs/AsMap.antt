-- A box of the map.
use Rattle.std_alloc.proofs.BoxSteps.Form.{Bx}
use Rattle.congee_c.specs.contracts.held.Held as Held
use Rattle.congee_c.proofs.held.Held.TheLaws as held
use Rattle.c_handles.proofs.AsBox.{boxed}

abbrev pub E : Bx
E = boxed Held.the_row held.the_row_laws
