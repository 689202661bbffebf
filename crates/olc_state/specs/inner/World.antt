-- The machine's inside: the nodes in their slots, the records of the calls in flight, the pins.
use Rattle.std.specs.Prelude.{ℕ, List, Option, Some, None, slice_index_or}
use Rattle.node_table.specs.Charge.{Charge}
use Rattle.spec_map.specs.Map.{lookup}
use Rattle.spec_node.specs.TableNode.{TableNode, Child}
use Rattle.olc_words.specs.Epoch.{PinsView, entry_at}
use Rattle.olc_words.specs.declared.epoch.Life.{Life}
use Rattle.olc_words.specs.declared.epoch.Life.TheVariants.{InUse, Retired}
use Rattle.olc_state.specs.declared.stage.NodeLife.{NodeLife}
use Rattle.olc_state.specs.declared.stage.NodeLife.TheVariants as place
use Rattle.olc_state.specs.declared.stage.Record.{Record}
use Rattle.olc_state.specs.declared.stage.Stored.{Stored}

-- the nodes in their slots, the root's slot, the pins, the record of each number that has one or
-- has room reserved, how many pairs are stored, and what is charged
pub record World (P : Type 0) : Type 0 where
  pub slots : List (Option (Stored P))
  pub root : ℕ
  pub pins : PinsView
  pub calls : List (ℕ × Option (Record P))
  pub entries : ℕ
  pub charge : Option Charge

-- where a node is in its life: made and not linked, in the tree, taken out of it, or obsolete with
-- the stamp of its retirement
pub data NodeLifetime : Type 0 where
  is_private : NodeLifetime
  is_linked : NodeLifetime
  is_detached : NodeLifetime
  is_retired : Option ℕ → NodeLifetime

-- a node in its slot
pub record PlacedNode (P : Type 0) : Type 0 where
  pub word : ℕ
  pub node : TableNode P
  pub lifetime : NodeLifetime

-- the node in each slot
abbrev pub NodeMap : Type 0 → Type 0
NodeMap P = ℕ → Option (PlacedNode P)

-- the stamp of a slot's retirement
abbrev pub stamp_in : Option Life → Option ℕ
stamp_in None = None
stamp_in (Some InUse) = None
stamp_in (Some (Retired stamp)) = stamp

abbrev pub lifetime_of : NodeLife → Option Life → NodeLifetime
lifetime_of place.Private life = is_private
lifetime_of place.Linked life = is_linked
lifetime_of place.Detached life = is_detached
lifetime_of place.Retired life = is_retired (stamp_in life)

module _ {P : Type 0} where
  abbrev pub placed_node : Option Life → Option (Stored P) → Option (PlacedNode P)
  placed_node life None = None
  placed_node life (Some n) =
      Some (record { word = n.word; node = n.node; lifetime = lifetime_of n.place life })

  abbrev pub table_on : List (Option (Stored P)) → List (ℕ × Life) → NodeMap P
  table_on slots lives slot = placed_node (entry_at lives slot) (slice_index_or slots slot None)

  abbrev pub table_of : World P → NodeMap P
  table_of w = table_on w.slots w.pins.slots

  -- the child under a byte of a node
  abbrev pub entry : PlacedNode P → ℕ → Option (Child P)
  entry a byte = lookup a.node.children byte

  abbrev pub record_in : Option (Option (Record P)) → Option (Record P)
  record_in None = None
  record_in (Some r) = r

  -- the record of a number that is in flight
  abbrev pub record_of : World P → ℕ → Option (Record P)
  record_of w id = record_in (entry_at w.calls id)
