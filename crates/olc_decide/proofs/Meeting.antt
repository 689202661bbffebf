-- WHAT A CALL MEETS at a node on its key's path, with payloads replaced by their meanings.
use Rattle.std.proofs.Common.{◌≡◌, ◌↔◌, IsTrue, nat_eq, ℕ, ◌+◌, ◌<◌, Bool, List, [], length, Option, Some, None, sym, subst, ap, ◌∙◌, arith}
use Rattle.std.proofs.lemmas.Bool.{eq-eqb, eqb-true}
use Rattle.node_base.specs.Form.{Fits}
use Rattle.spec_map.specs.Map.{lookup}
use Rattle.spec_node.specs.Key.{Begins, next_byte}
use Rattle.spec_node.specs.TableNode.{TableNode, Child}
use Rattle.spec_node.specs.declared.child.Child.TheVariants.{Payload}
use Rattle.spec_olc.specs.Meaning.{in_some, child_of}
use Rattle.olc_state.specs.declared.stage.Path.{Path}
use Rattle.olc_state.specs.declared.stage.Spot.{Spot}
use Rattle.olc_state.specs.declared.stage.Stage.TheVariants.{Check}
use Rattle.olc_state.specs.declared.stage.Stored.{Stored}
use Rattle.olc_state.specs.declared.stage.Task.{Task}
use Rattle.olc_state.specs.declared.store.Store.{Store}
use Rattle.olc_state.specs.declared.tail.Large.{Large}
use Rattle.olc_state.specs.declared.tail.Large.TheVariants.{GrowLeaf, GrowInner, Split, Detach}
use Rattle.olc_state.specs.declared.tail.Small.{Small}
use Rattle.olc_state.specs.declared.tail.Small.TheVariants.{Entry, Leaf}
use Rattle.olc_state.specs.inner.Facts.{Facts}
use Rattle.olc_state.specs.inner.Meant.{meant_node, meant_table, stands_as}
use Rattle.olc_state.specs.inner.Tables.{CameFrom, IsLinked, IsPlaced, OnPath}
use Rattle.olc_state.specs.inner.TailFacts.{IsLarge, IsSmall, found, path_to}
use Rattle.olc_state.specs.inner.Tasks.{key_bytes}
use Rattle.olc_state.specs.inner.World.{PlacedNode, NodeMap}
use Rattle.olc_state.proofs.Options.{some_same}
use Rattle.olc_state.proofs.Records.{at}
use Rattle.olc_state.proofs.Slots.{stored_as}
use Rattle.olc_state.proofs.Ways.{known_linked}
use Rattle.olc_descend.proofs.Looks.{child_means, length-meant}
use Rattle.olc_decide.specs.declared.finding.RoomNeeded.TheVariants as room
use Rattle.olc_decide.specs.inner.Met.{IsRoom}

-- a path with a parent
pub whole_path : (path : Path) (above : Spot) → path.above ≡ Some above → path_to (record { above = above; here = path.here }) ≡ path
whole_path path above is = ap (λ (x : Option Spot). let p : Path = record { above = x; here = path.here } in p) (sym is)

-- A NODE, and what a reader sees of it
module _ {P M : Type 0} (meaning : P → M) (n : TableNode P) (a : PlacedNode M) (same_node : a.node ≡ meant_node meaning n) (k : List ℕ) where
  pub under : (c : Option (Child P)) → lookup n.children (next_byte n.prefix k) ≡ c → found a k ≡ in_some (child_of meaning) c
  under c e =
      ap (λ (x : TableNode M). lookup x.children (next_byte x.prefix k)) same_node
      ∙ (child_means meaning n (next_byte n.prefix k) ∙ ap (in_some (child_of meaning)) e)

  prefix_same : a.node.prefix ≡ n.prefix
  prefix_same = ap (λ (x : TableNode M). x.prefix) same_node

  pub count_same : length a.node.children ≡ length n.children
  count_same = ap (λ (x : TableNode M). length x.children) same_node ∙ length-meant (child_of meaning) n.children

  room_there : Fits n.form (length n.children + 1) → Fits a.node.form (length a.node.children + 1)
  room_there room = rw (ap (λ (x : TableNode M). x.form) same_node, count_same) room

  room_back : Fits a.node.form (length a.node.children + 1) → Fits n.form (length n.children + 1)
  room_back room = rw (sym (ap (λ (x : TableNode M). x.form) same_node), sym count_same) room

  pub small_met : (small : Small) → IsRoom n (room.Small small) → found a k ≡ None → IsSmall small a k
  small_met Entry h none = (ap length prefix_same ∙ h.0, λ e. room_there h.1)
  small_met Leaf h none = (subst (λ z. length z < 7) (sym prefix_same) h.0, none, room_there h.1)

  pub large_met : (large : Large) → IsRoom n (room.Large large) → found a k ≡ None → Begins a.node.prefix k → IsLarge large a k
  large_met GrowLeaf h none begins = (begins, ap length prefix_same ∙ h.0, none, λ room. h.1 (room_back room))
  large_met GrowInner h none begins = (begins, subst (λ z. length z < 7) (sym prefix_same) h.0, none, λ room. h.1 (room_back room))
  large_met Split h none begins = absurd h
  large_met Detach h none begins = absurd h

-- the test for a count of one is exact
pub one_told : (count n : ℕ) → count ≡ n → IsTrue (nat_eq count 1) ↔ (n ≡ 1)
one_told count n e = ((λ t. sym e ∙ eqb-true count 1 t), (λ one. eq-eqb count 1 (e ∙ one)))

-- the node in a slot of the store
pub node_there : {P M : Type 0} (meaning : P → M) (store : Store P) (slot : ℕ) (n : Stored P) (a : PlacedNode M) → stands_as meaning store slot n → meant_table meaning store slot ≡ Some a → a.node ≡ meant_node meaning n.node
node_there {P} {M} meaning store slot n a at_key here =
    ap (λ (x : PlacedNode M). x.node) (some_same a (stored_as meaning store.pins.slots slot n) (sym here ∙ at_key))

-- ON THE PATH of a call
module _ {M : Type 0} (Granted : Type 0) (same : M → M → Bool) (t : NodeMap M) (root pin : ℕ) (task : Task M) (placed : IsPlaced t root) (path : Path) (a : PlacedNode M) (here : t path.here.slot ≡ Some a)
    (word : a.word ≡ path.here.word) (facts : Facts Granted same t root pin (at (Check path) task)) where
  on_path : OnPath t root pin (key_bytes task) path
  on_path = facts.at.1

  pub begins_here : Begins a.node.prefix (key_bytes task)
  begins_here = on_path.way a here

  -- a node with a payload is a leaf
  pub full_here : (v : M) → found a (key_bytes task) ≡ Some (Payload v) → length a.node.prefix ≡ 7
  full_here v there =
      let linked : IsLinked t path.here.slot a = known_linked t root (key_bytes task) placed pin path.here a on_path.here here word in
      placed.leaf path.here.slot a linked (next_byte a.node.prefix (key_bytes task)) v there

  -- a node without a parent is the root
  top_here : path.above ≡ None → placed.top ≡ a
  top_here none =
      let at_root : path.here.slot ≡ root = subst (λ (z : Option Spot). CameFrom t root pin (key_bytes task) z path.here.slot) none on_path.above in
      some_same placed.top a (sym placed.top_linked.here ∙ subst (λ (z : ℕ). t z ≡ Some a) at_root here)

  -- which is no leaf, and never full
  pub leaf_above : (v : M) → found a (key_bytes task) ≡ Some (Payload v) → path.above ≡ None → ⊥
  leaf_above v there none =
      let full : length a.node.prefix ≡ 7 = full_here v there in
      let empty : a.node.prefix ≡ [] = subst (λ (z : PlacedNode M). z.node.prefix ≡ []) (top_here none) placed.top_prefix in
      let zero : length a.node.prefix ≡ 0 = ap length empty in
      omega (arith, full, zero)
