-- A box of a reader of a frozen map.
use Rattle.std_alloc.proofs.BoxSteps.Form.{Bx}
use Rattle.congee_c.specs.contracts.frozen.reader.Reader as Reader
use Rattle.congee_c.proofs.frozen.reader.Reader.TheLaws as reader
use Rattle.c_handles.proofs.AsBox.{boxed}

abbrev pub E : Bx
E = boxed Reader.the_row reader.the_row_laws
