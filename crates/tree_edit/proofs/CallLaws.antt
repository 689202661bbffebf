-- What a call leaves of a whole tree, as contracts see it.
use Rattle.std.proofs.Common.{Bor, Ok, Err, ◌≡◌, ℕ, zero, suc, ◌+◌, ◌-◌, ◌<◌, ◌≤◌, List, [], ◌∷◌, length, get_or, Option, Some, None, Bool, false, refl, sym, subst, arith}
use Rattle.std.specs.Int.{from_be_bytes, to_be_bytes, w64}
use Rattle.std.proofs.lemmas.Nat.{be_bytes_8}
use Rattle.node_table.specs.Charge.{Charge}
use Rattle.spec_map.specs.Map.{lookup, put, IsMap}
use Rattle.spec_map.specs.Refusal.{NeedsNode}
use Rattle.spec_map.proofs.MapLaws.{without-absent}
use Rattle.tree_edit.specs.TreeCalls.{Removes, Inserts, ComputesOrInserts}
use Rattle.tree_edit.specs.Closure.{CalledAtOption}
use Rattle.std.specs.Fn.{Mut}
use Rattle.tree_edit.specs.Reduce.{LosesInPlace}
use Rattle.tree_edit.specs.Tree.{TreeView, ChargesForNodes, StoresSame}
use Rattle.tree_edit.specs.inner.Rise.{IsWholeBefore, IsRemoval}
use Rattle.tree_edit.specs.inner.Whole.{IsWhole}
use Rattle.tree_edit.specs.inner.Writes.{SameElsewhere, WritesChild, NothingIsStored, IsStoredWhere, Exchanges, Fills, RefusesHere, IsReady}
use Rattle.spec_node.specs.Key.{AreBytes}
use Rattle.node_table.specs.Shape.{Reshapes}
use Rattle.node_table.specs.Table.{NodeTable, NodeInfo, pairs_at, nodes_at}
use Rattle.spec_node.specs.declared.child.Child.TheVariants.{Payload}
use Rattle.node_table.proofs.KeyLaws.{key_number-be_bytes}
use Rattle.tree_path.specs.Charge.{charge_of, MovesAlike}
use Rattle.tree_path.specs.inner.Supply.{IsCounted, SupplyView, Alike}
use Rattle.tree_path.specs.inner.Descent.{IsTrail, SeeksTo}
use Rattle.tree_path.specs.inner.Root.{depth}
use Rattle.tree_path.specs.declared.descent.PathEnd.{PathEnd}
use Rattle.tree_edit.proofs.CountLaws.{is_map, count_new, count_same, count_less}
use Rattle.tree_edit.proofs.FilledLaws.{reshapes, loses}
use Rattle.tree_edit.proofs.SpotLaws.{nothing_there, stands_there, exchange_inserts, fill_inserts, put_inserts, refused_there}
use Rattle.tree_edit.proofs.WeightLaws.{size_counted}
use Rattle.tree_edit.proofs.WholeLaws.{IsInsertion}

-- a charge that changes with the counted sizes changes with those of the nodes
pub moves_alike : {A : Type 0} (charge : A → Option Charge) (old new : SupplyView A) (ns ms : List NodeInfo) → IsCounted old.forms ns → IsCounted new.forms ms → Alike charge old new
    → MovesAlike (charge old.budget) (charge_of ns) (charge new.budget) (charge_of ms)
moves_alike charge old new ns ms h k alike = rw (← size_counted old.forms ns h, ← size_counted new.forms ms k) alike

pub byte_at : (key : List ℕ) → AreBytes key → (i : ℕ) → get_or key i 0 < 256
byte_at [] bytes i = omega arith
byte_at (b ∷ key) bytes zero = bytes.0
byte_at (b ∷ key) bytes (suc i) = byte_at key bytes.1 i

module _ {P A : Type 0} (charge : A → Option Charge) (s : NodeTable P) (root : ℕ) (old : SupplyView A) (count : ℕ) (i : IsWhole s root old.forms count) (w : TreeView P A)
    (seen : ◌≡◌ {A = TreeView P A} (record { pairs = pairs_at s depth root; nodes = nodes_at s depth [] root; budget = old.budget }) w) where
  -- what a contract sees of the tree after the call
  abbrev pub after : NodeTable P → SupplyView A → TreeView P A
  after t new = record { pairs = pairs_at t depth root; nodes = nodes_at t depth [] root; budget = new.budget }

  charged : (t : NodeTable P) (new : SupplyView A) → IsCounted new.forms (nodes_at t depth [] root) → Alike charge old new → ChargesForNodes charge w (after t new)
  charged t new by_form alike = rw (← seen) (moves_alike charge old new (nodes_at s depth [] root) (nodes_at t depth [] root) i.by_form by_form alike)

  pub ordered : IsMap w.pairs
  ordered = rw (← seen) (is_map s root i.tree)

  module _ (key : List ℕ) (bytes : AreBytes key) (full : length key ≡ 8) (spot : PathEnd) (ends : SeeksTo s root key spot) where
    -- a key's number has its bytes
    bytes_again : to_be_bytes w64 (from_be_bytes w64 key) ≡ key
    bytes_again = be_bytes_8 key _ full (λ i. byte_at key bytes i) refl

    pub nothing_seen : NothingIsStored s spot.slot spot.stop → lookup w.pairs (from_be_bytes w64 key) ≡ None
    nothing_seen nothing = rw (← seen, ← key_number-be_bytes key full) (nothing_there s root key spot ends bytes full nothing)

    pub payload_seen : (v : P) → IsStoredWhere s spot.slot spot.stop v → lookup w.pairs (from_be_bytes w64 key) ≡ Some v
    payload_seen v at_key = rw (← seen, ← key_number-be_bytes key full) (stands_there s root key spot ends bytes full v at_key)

    -- a removal that finds nothing
    pub removes_nothing : NothingIsStored s spot.slot spot.stop → Removes charge w (from_be_bytes w64 key) None w
    removes_nothing nothing = record {
      before = sym (nothing_seen nothing);
      pairs = sym (without-absent _ _ (nothing_seen nothing));
      shape = refl;
      charged = refl;
    }

    -- the payload is stored at the key, where `before` was
    pub record Inserted (t : NodeTable P) (new : SupplyView A) (n : ℕ) (v : P) (before : Option P) : Type 0 where
      pub whole : IsWhole t root new.forms n
      pub was : before ≡ lookup w.pairs (from_be_bytes w64 key)
      pub pairs : pairs_at t depth root ≡ put w.pairs (from_be_bytes w64 key) v
      pub shape : Reshapes before w.nodes (to_be_bytes w64 (from_be_bytes w64 key)) (nodes_at t depth [] root)
      pub charges : ChargesForNodes charge w (after t new)

    -- by an insertion
    pub inserts : {E : Type 0} (t : NodeTable P) (new : SupplyView A) (n : ℕ) (v : P) (before : Option P) → Inserted t new n v before
        → Inserts charge w (from_be_bytes w64 key) {E = E} v (Ok before) (after t new)
    inserts t new n v before x = record { before = x.was; ok = x.pairs; shape = x.shape; err = tt; refused = tt; charged = x.charges }

    -- by a computation that may insert
    pub computes : {E F : Type 0} (call : Mut F (Option (Bor P) × Unit {0}) P) (f f' : F) (t : NodeTable P) (new : SupplyView A) (n : ℕ) (v : P) (before : Option P) → Inserted t new n v before
        → CalledAtOption call f before v f' → ComputesOrInserts charge w (from_be_bytes w64 key) {E = E} call f (Ok before) f' (after t new)
    computes call f f' t new n v before x called =
        record { before = x.was; ok = (v, subst (λ o. CalledAtOption call f o v f') x.was called, x.pairs); shape = x.shape; err = tt; not_called = tt; refused = tt; charged = x.charges }

    -- memory is refused where the descent ended: what is stored and counted is unchanged
    module _ {E : Type 0} (e : E) (t : NodeTable P) (new : SupplyView A) (same : t ≡ s) (forms : new.forms ≡ old.forms) (alike : Alike charge old new)
        (nothing : NothingIsStored s spot.slot spot.stop) (refuses : RefusesHere s spot.slot spot.stop) where
      stored : StoresSame w (after t new)
      stored = rw (same, ← seen) (refl, refl)

      needs : NeedsNode w.pairs (from_be_bytes w64 key)
      needs = rw (← seen, ← key_number-be_bytes key full) (refused_there s root key spot ends bytes full old.forms i.by_form nothing refuses)

      charges_same : ChargesForNodes charge w (after t new)
      charges_same = charged t new (rw (same, forms) i.by_form) alike

      pub insert_refused : (v : P) → Inserts charge w (from_be_bytes w64 key) v (Err e) (after t new)
      insert_refused v = record { before = tt; ok = tt; shape = tt; err = stored; refused = needs; charged = charges_same }

      pub compute_refused : {F : Type 0} (call : Mut F (Option (Bor P) × Unit {0}) P) (f : F) → ComputesOrInserts charge w (from_be_bytes w64 key) call f (Err e) f (after t new)
      compute_refused call f = record { before = tt; ok = tt; shape = tt; err = stored; not_called = refl; refused = needs; charged = charges_same }

    -- in place of another
    pub exchanged : (t : NodeTable P) (v before : P) → IsStoredWhere s spot.slot spot.stop before → Exchanges s t spot.slot spot.stop v → Inserted t old count v (Some before)
    exchanged t v before at_key exchanges =
        let x = exchange_inserts s root key spot ends bytes full i.rooted t v before at_key exchanges in
        let by_form : IsCounted old.forms (nodes_at t depth [] root) = rw x.shape i.by_form in
        record {
          whole = record { tree = x.tree; rooted = x.root_stays; filled = rw x.shape i.filled; by_form = by_form; counted = count_same s root i.tree _ _ _ x.was _ i.counted _ x.pairs refl };
          was = rw (← seen, ← key_number-be_bytes key full) x.was;
          pairs = rw (← seen, ← key_number-be_bytes key full) x.pairs;
          shape = rw (← seen) x.shape;
          charges = charged t old by_form refl;
        }

    -- as a new pair
    module _ (t : NodeTable P) (v : P) (new : SupplyView A) (x : IsInsertion s root key bytes full t v None) (by_form : IsCounted new.forms (nodes_at t depth [] root)) (alike : Alike charge old new) where
      inserted : Inserted t new (count + 1) v None
      inserted = record {
        whole = record { tree = x.tree; rooted = x.root_stays; filled = reshapes _ key _ x.shape i.filled; by_form = by_form; counted = count_new s root i.tree _ _ _ x.was _ i.counted _ x.pairs refl };
        was = rw (← seen, ← key_number-be_bytes key full) x.was;
        pairs = rw (← seen, ← key_number-be_bytes key full) x.pairs;
        shape = rw (← seen, bytes_again) x.shape;
        charges = charged t new by_form alike;
      }

    -- where there was room for it
    pub filled : (t : NodeTable P) (v : P) → Fills s t spot.slot spot.stop v → Inserted t old (count + 1) v None
    filled t v fills = let y = fill_inserts s root key spot ends bytes full old.forms i.by_form i.rooted t v fills in inserted t v old y.0 y.1 refl

    -- in the leaf that was made ready for it
    pub added : NothingIsStored s spot.slot spot.stop → (g t : NodeTable P) (v : P) (new : SupplyView A) (leaf : ℕ) → IsReady s g spot.slot spot.stop key old.forms new.forms leaf
        → SameElsewhere leaf g t → WritesChild g t leaf (get_or key 7 0) (Payload v) → Alike charge old new → Inserted t new (count + 1) v None
    added nothing g t v new leaf is keeps writes alike =
        let y = put_inserts s root key spot ends bytes full old.forms i.by_form i.rooted nothing g t v new.forms leaf is keeps writes in
        inserted t v new y.0 y.1 alike

    -- a call that remembers the slots of its descent, for a removal
    module _ (trail : List ℕ) (on : IsTrail s root key trail (spot.above + 1)) where
      top : get_or trail 0 0 ≡ root
      top = let first = on.at 0 (omega arith) in first.path.2

      pub seeks_along : SeeksTo s (get_or trail 0 0) key spot
      seeks_along = subst (λ r. SeeksTo s r key spot) (sym top) ends

      pub begins_whole : IsWholeBefore s (get_or trail 0 0) key trail spot.above old.forms
      begins_whole =
          subst (λ r. IsWholeBefore s r key trail spot.above old.forms) (sym top)
          (record { tree = i.tree; rooted = i.rooted; bytes = bytes; full = full; on_trail = on; counted = i.by_form })

      -- the pair is removed
      pub record TakenOut (shrinks : Bool) (t : NodeTable P) (new : SupplyView A) (v : P) : Type 0 where
        pub some : 1 ≤ count
        pub whole : IsWhole t root new.forms (count - 1)
        pub removes : Removes charge w (from_be_bytes w64 key) (Some v) (after t new)
        pub in_place : shrinks ≡ false → LosesInPlace w.nodes key (nodes_at t depth [] root)

      pub taken_out : (shrinks : Bool) (t : NodeTable P) (v : P) (new : SupplyView A) → IsStoredWhere s spot.slot spot.stop v → IsRemoval s (get_or trail 0 0) key shrinks t new.forms → Alike charge old new → TakenOut shrinks t new v
      taken_out shrinks t v new at_key removal alike =
          let there = stands_there s root key spot ends bytes full v at_key in
          let x : IsRemoval s root key shrinks t new.forms = subst (λ r. IsRemoval s r key shrinks t new.forms) top removal in
          let less = count_less s root i.tree _ (Some v) (sym there) _ i.counted _ x.pairs refl in
          record {
            some = omega (arith, less);
            whole = record { tree = x.tree; rooted = x.rooted; filled = loses _ key _ x.nodes i.filled; by_form = x.counted; counted = omega (arith, less) };
            removes = record {
              before = rw (← seen, ← key_number-be_bytes key full) (sym there);
              pairs = rw (← seen, ← key_number-be_bytes key full) x.pairs;
              shape = rw (← seen, bytes_again) x.nodes;
              charged = charged t new x.counted alike;
            };
            in_place = λ stays. rw (← seen) (x.nodes, x.in_place stays);
          }
