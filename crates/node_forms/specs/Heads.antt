-- When a head and a row of children are a node.
use Rattle.std.specs.Prelude.{◌≡◌, ◌≤◌, vec_capacity}
use Rattle.std.specs.Global.{Vec}
use Rattle.node_base.specs.inner.Few.{listed}
use Rattle.node_base.specs.inner.Sorted.{IsSorted}
use Rattle.node_base.specs.declared.base_node.NodeType.TheVariants.{N4, N16}
use Rattle.node_base.specs.declared.few.Few.{Few}
use Rattle.node_forms.specs.declared.head_4.Head4.{Head4}
use Rattle.node_forms.specs.declared.head_16.Head16.{Head16}

module _ {C : Type 0} where
  abbrev pub IsNode4 : Head4 → Few C → Type 0
  IsNode4 h row = IsSorted 4 h.keys (listed row) h.base.count × (h.base.form ≡ N4)

  abbrev pub IsNode16 : Head16 → Vec C → Type 0
  IsNode16 h row = IsSorted 16 h.keys row.items h.base.count
      × (h.base.form ≡ N16)
      × (16 ≤ vec_capacity row)
