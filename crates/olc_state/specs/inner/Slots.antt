-- ONE SLOT of a store changes.
use Rattle.std.specs.Prelude.{◌≡◌, ◌≢◌, ℕ, Option}
use Rattle.spec_node.specs.TableNode.{TableNode}
use Rattle.olc_state.specs.declared.store.Store.{Store}
use Rattle.olc_state.specs.inner.Meant.{meant_table}
use Rattle.olc_state.specs.inner.World.{PlacedNode, is_private}

module _ {P M : Type 0} (meaning : P → M) where
  -- the slot's node is this now, and all else is unchanged
  pub record SetsNode (old new : Store P) (slot : ℕ) (a : Option (PlacedNode M)) : Type 0 where
    pub here : meant_table meaning new slot ≡ a
    pub others : (o : ℕ) → o ≢ slot → meant_table meaning new o ≡ meant_table meaning old o
    pub root : new.root ≡ old.root
    pub seats : new.pins.seats ≡ old.pins.seats
    pub count : new.pins.count ≡ old.pins.count

-- a node as it is made
abbrev pub made_node : {M : Type 0} → TableNode M → PlacedNode M
made_node a = record { word = 0; node = a; lifetime = is_private }
