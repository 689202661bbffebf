-- What a contract sees of a tree, and of a map over it.
use Rattle.std.specs.Prelude.{◌≡◌, ℕ, List, [], ◌∷◌, Option, refl}
use Rattle.std.specs.Int.{from_be_bytes, w64}
use Rattle.std.specs.Coded.{Coded, code_by, coded×, coded_list, coded_ℕ}
use Rattle.node_table.specs.Charge.{Charge}
use Rattle.node_table.specs.inner.Codes.{form_code}
use Rattle.spec_map.specs.Map.{Pairs, lookup}
use Rattle.node_table.specs.Table.{NodeInfo}
use Rattle.tree_path.specs.Charge.{charge_of, MovesAlike}
use Rattle.node_base.specs.declared.base_node.NodeType.{NodeType}
use Rattle.node_base.specs.declared.base_node.NodeType.TheVariants.{N256}

abbrev pub node_info_code : Coded NodeInfo
node_info_code =
    code_by
    (List ℕ × (List ℕ × (NodeType × ℕ)))
    (coded× (coded_list coded_ℕ) (coded× (coded_list coded_ℕ) (coded× form_code coded_ℕ)))
    (λ i. (i.edge, (i.prefix, (i.form, i.count))))
    (λ p. record { edge = p.0; prefix = p.1.0; form = p.1.1.0; count = p.1.1.1 })
    (λ _. refl)

-- the pairs that a tree stores, its nodes (the root first, then the nodes below each child in the
-- order of the bytes), and the budget that is charged for them
pub record TreeView (P A : Type 0) : Type 0 where
  pub pairs : Pairs P
  pub nodes : List NodeInfo
  pub budget : A

-- the nodes of a new, empty map: the root, of the largest form, with no prefix and no child
abbrev pub root_alone : List NodeInfo
root_alone = record { edge = []; prefix = []; form = N256; count = 0 } ∷ []

abbrev pub tree_code : {P A : Type 0} → Coded P → Coded A → Coded (TreeView P A)
tree_code {P} {A} p a =
    code_by
    (Pairs P × (List NodeInfo × A))
    (coded× (coded_list (coded× coded_ℕ p)) (coded× (coded_list node_info_code) a))
    (λ t. (t.pairs, (t.nodes, t.budget)))
    (λ m. record { pairs = m.0; nodes = m.1.0; budget = m.1.1 })
    (λ _. refl)

module _ {P A : Type 0} where
  -- the payload at a key of eight bytes, the most significant first
  abbrev pub payload_at : TreeView P A → List ℕ → Option P
  payload_at tree key = lookup tree.pairs (from_be_bytes w64 key)

  -- the same pairs in the same nodes
  abbrev pub StoresSame : TreeView P A → TreeView P A → Type 0
  StoresSame old new = (new.pairs ≡ old.pairs) × (new.nodes ≡ old.nodes)

  -- the charge, where it is counted, changes by as much as the sizes of the nodes do
  abbrev pub ChargesForNodes : (A → Option Charge) → TreeView P A → TreeView P A → Type 0
  ChargesForNodes charge old new =
      MovesAlike (charge old.budget) (charge_of old.nodes) (charge new.budget) (charge_of new.nodes)
