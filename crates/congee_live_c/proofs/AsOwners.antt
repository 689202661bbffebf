-- A box of what a handle of a map of owners holds.
use Rattle.std_alloc.proofs.BoxSteps.Form.{Bx}
use Rattle.congee_live_c.specs.contracts.owners.held.Held as Held
use Rattle.congee_live_c.proofs.owners.held.Held.TheLaws as held
use Rattle.c_handles.proofs.AsBox.{boxed}

abbrev pub E : Bx
E = boxed Held.the_row held.the_row_laws
