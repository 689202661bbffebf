-- What a Make and a refused Make do to the table, the charge and their call, and the new nodes.
use Rattle.std.specs.Prelude.{◌≡◌, ◌≢◌, ℕ, ◌<◌, ◌≤◌, List, [], ◌∷◌, length, Option, Some, None}
use Rattle.node_base.specs.Form.{Fits, next_form, stated_size}
use Rattle.node_base.specs.declared.base_node.NodeType.{NodeType}
use Rattle.node_base.specs.declared.base_node.NodeType.TheVariants.{N4, N16, N48, N256}
use Rattle.spec_map.specs.Map.{Rises, between, lookup, put}
use Rattle.node_table.specs.Charge.{Charge, add_charge}
use Rattle.spec_node.specs.Key.{next_byte}
use Rattle.spec_node.specs.TableNode.{MayHave, TableNode, Child}
use Rattle.spec_node.specs.declared.child.Child.TheVariants.{Payload, Node as below_at}
use Rattle.spec_olc.specs.Calls.{bytes_of, key_of}
use Rattle.spec_olc.specs.Meaning.{child_of}
use Rattle.spec_olc.specs.declared.types.Progress.TheVariants as progress
use Rattle.olc_state.specs.declared.stage.Task.{Task}
use Rattle.olc_state.specs.declared.stock.Stock.{Stock}
use Rattle.olc_state.specs.declared.tail.Large.{Large}
use Rattle.olc_state.specs.declared.tail.Large.TheVariants.{GrowLeaf, GrowInner, Split, Detach}
use Rattle.olc_state.specs.declared.tail.NodePair.{NodePair}
use Rattle.olc_state.specs.declared.tail.Tail.{Tail}
use Rattle.olc_state.specs.declared.tail.Tail.TheVariants.{Grow, MakeMiddle}
use Rattle.olc_state.specs.inner.Meant.{meant_node, meant_task}
use Rattle.olc_state.specs.inner.Slots.{made_node}
use Rattle.olc_state.specs.inner.Stocks.{IsStoreSound, table_in}
use Rattle.olc_state.specs.inner.TailFacts.{IsFork, leaf_of, stores}
use Rattle.olc_state.specs.inner.Tasks.{closed, key_bytes}
use Rattle.olc_state.specs.inner.World.{PlacedNode, NodeMap, is_private}

module _ {M : Type 0} where
  -- the call only ends
  abbrev pub gone : Task M → Task M
  gone task = closed progress.Refused task

  -- a private node is freed, and its size uncharged
  pub record LosesPrivate (t t' : NodeMap M) (slot : ℕ) (charge charge' : Option Charge) : Type 0 where
    pub node : PlacedNode M
    pub here : t slot ≡ Some node
    pub private : node.lifetime ≡ is_private
    pub after : t' slot ≡ None
    pub others : (o : ℕ) → o ≢ slot → t' o ≡ t o
    pub charged : charge ≡ add_charge charge' (stated_size node.node.form)

  pub record TableStays (t t' : NodeMap M) (charge charge' : Option Charge) : Type 0 where
    pub nodes : (o : ℕ) → t' o ≡ t o
    pub charged : charge' ≡ charge

  -- the private node, if there is one, is freed, and nothing else changes
  abbrev pub IsGivenUp : NodeMap M → NodeMap M → Option ℕ → Option Charge → Option Charge → Type 0
  IsGivenUp t t' None charge charge' = TableStays t t' charge charge'
  IsGivenUp t t' (Some slot) charge charge' = LosesPrivate t t' slot charge charge'

module _ {P A M : Type 0} (meaning : P → M) (charge : A → Option Charge) where
  -- what no Make changes
  pub record SameRest (old new : Stock P A) : Type 0 where
    pub kept : IsStoreSound meaning charge new
    pub root : new.store.root ≡ old.store.root
    pub seats : new.store.pins.seats ≡ old.store.pins.seats
    pub count : new.store.pins.count ≡ old.store.pins.count
    pub entries : new.entries ≡ old.entries

  -- a private node is put into an empty slot, and its size is charged
  pub record AddsPrivate (old new : Stock P A) (slot : ℕ) (a : TableNode M) : Type 0 where
    pub rest : SameRest old new
    pub empty : table_in meaning charge old slot ≡ None
    pub here : table_in meaning charge new slot ≡ Some (made_node a)
    pub others : (o : ℕ) → o ≢ slot
        → table_in meaning charge new o ≡ table_in meaning charge old o
    pub charged : charge new.budget ≡ add_charge (charge old.budget) (stated_size a.form)

  -- the node that was built is put into the slot
  pub record AddsBuilt (old new : Stock P A) (slot : ℕ)
      (built : Option (TableNode P)) : Type 0 where
    pub node : TableNode P
    pub is : built ≡ Some node
    pub adds : AddsPrivate old new slot (meant_node meaning node)

  -- no node is added, and the private node, if there is one, is freed
  pub record GivesUp (old new : Stock P A) (made : Option ℕ) : Type 0 where
    pub rest : SameRest old new
    pub up : IsGivenUp (table_in meaning charge old) (table_in meaning charge new) made
        (charge old.budget) (charge new.budget)

  -- a private node
  pub record IsPrivate (stock : Stock P A) (slot : ℕ) : Type 0 where
    pub node : PlacedNode M
    pub here : table_in meaning charge stock slot ≡ Some node
    pub lifetime : node.lifetime ≡ is_private

  abbrev pub ArePrivate : Stock P A → Option ℕ → Type 0
  ArePrivate stock None = Unit {0}
  ArePrivate stock (Some slot) = IsPrivate stock slot

-- the smallest form that has room for so many children
abbrev pub IsLeast : NodeType → ℕ → Type 0
IsLeast N4 n = n ≤ 4
IsLeast N16 n = (4 < n) × (n ≤ 16)
IsLeast N48 n = (16 < n) × (n ≤ 48)
IsLeast N256 n = 48 < n

-- each child is of the node's kind
abbrev pub AreOfKind : {P : Type 0} → TableNode P → Type 0
AreOfKind {P} a = (byte : ℕ) (child : Child P) → lookup a.children byte ≡ Some child
    → MayHave a.prefix child

module _ {P M : Type 0} (meaning : P → M) where
  -- the same children as far as a byte, in a node of the least form
  pub record IsCopy (from : ℕ) (a b : TableNode P) : Type 0 where
    pub prefix : b.prefix ≡ a.prefix
    pub children : (meant_node meaning b).children ≡ between (meant_node meaning a).children 0 from
    pub least : IsLeast b.form (length b.children)

  -- what a grown copy has under the key's byte
  abbrev pub IsOwnOf : Task P → Option ℕ → Child P → Type 0
  IsOwnOf task None child = (w : M) × (child_of meaning child ≡ Payload w)
      × ((v : M) → stores (meant_task meaning task) ≡ Some v → w ≡ v)
  IsOwnOf task (Some leaf) child = child_of meaning child ≡ below_at leaf

  -- one more child under the key's byte, in the next form
  pub record IsGrownFor (a b : TableNode P) (task : Task P) (leaf : Option ℕ) : Type 0 where
    pub child : Child P
    pub own : IsOwnOf task leaf child
    pub fits : Fits a.form (length a.children)
    pub rises : Rises 0 256 a.children
    pub is : meant_node meaning b ≡ record {
      form = next_form a.form;
      prefix = a.prefix;
      children = put (meant_node meaning a).children
          (next_byte a.prefix (bytes_of (key_of task.outline))) (child_of meaning child);
    }

  -- a new leaf for the call's key
  abbrev pub IsLeafForTask : Task P → TableNode P → Type 0
  IsLeafForTask task n = (v : M) → stores (meant_task meaning task) ≡ Some v
      → meant_node meaning n ≡ leaf_of (key_bytes task) v

  -- the node that is put between
  pub record IsBetween (a n : TableNode P) (k : List ℕ) (slot leaf : ℕ) : Type 0 where
    pub prefix : List ℕ
    pub fork : IsFork prefix a.prefix k
    pub is : meant_node meaning n ≡ record {
      form = N4;
      prefix = prefix;
      children = put ((next_byte prefix a.prefix, below_at slot) ∷ []) (next_byte prefix k)
          (below_at leaf);
    }

-- what comes after a new leaf with both held: the larger copy, or the node that is put between
abbrev pub next_make : NodePair → Large → ℕ → Tail
next_make pair GrowLeaf leaf = MakeMiddle pair leaf
next_make pair GrowInner leaf = Grow pair (Some leaf)
next_make pair Split leaf = MakeMiddle pair leaf
next_make pair Detach leaf = MakeMiddle pair leaf
