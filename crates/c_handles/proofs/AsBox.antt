-- A handle and its parts own what a box at the same types owns.
use mathlib.Core.List.{[]}
use mir.Syntax.{Sym, impl, tnil, dnil}
use denote.Param.Laws.{Laws}
use denote.RattleType.{RattleType}
use Rattle.std_alloc.proofs.BoxSteps.Form.{Bx}
use Rattle.std.specs.contracts.alloc.Global as Heap
use Rattle.std.specs.contracts.impls.GlobalAllocator.TheImpl.{ghosts, dict}
use Rattle.std.proofs.alloc.Global.TheLaws as heap
use Rattle.c_handles.specs.contracts.parts.Parts as Parts

abbrev pub boxed : (R : RattleType) → Laws R → Bx
boxed R laws = record { row = R; laws = laws; al = record { row = Heap.the_row; laws = heap.the_row_laws; g = ghosts; d = dict; drops = impl [] tnil dnil } }

abbrev pub parts_row : RattleType → RattleType
parts_row R = Parts.the_row R Heap.the_row ghosts

abbrev pub parts_name : Sym
parts_name = (Parts.the_type Heap.the_row Heap.the_row ghosts).name
