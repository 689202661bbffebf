-- What each end of an insertion leaves of the whole tree, and that what was found allows it.
use Rattle.std.proofs.Common.{Bor, ◌≡◌, ℕ, ◌<◌, List, [], length, Option, Some, None, sym, subst, arith}
use Rattle.spec_map.specs.Map.{lookup, put}
use Rattle.spec_node.specs.Key.{AreBytes, key_number}
use Rattle.node_table.specs.Shape.{Reshapes}
use Rattle.node_table.specs.Table.{NodeTable, pairs_at, nodes_at, IsTree}
use Rattle.spec_node.specs.declared.child.Child.TheVariants.{Payload}
use Rattle.node_table.proofs.TableLaws.{open_subtree}
use Rattle.tree_path.specs.inner.Descent.{FindsEnd, EndsAt, Differs, Absent, Present, EndPlace}
use Rattle.tree_path.specs.inner.Root.{depth, HasRoot}
use Rattle.tree_edit.specs.inner.Writes.{SameElsewhere, WritesChild, WasChild, Adds, Splits}
use Rattle.tree_path.proofs.PathEndLaws.{lookup_end, lookup_held}
use Rattle.tree_edit.proofs.InsertLaws.{add_whole, change_whole, split_whole}
use Rattle.tree_edit.proofs.RootLaws.{change_root, add_root, split_root_at}
use Rattle.tree_edit.proofs.ShapeLaws.{change_shape, add_shape, split_shape}

module _ {P : Type 0} (s : NodeTable P) (root : ℕ) (key : List ℕ) (bytes : AreBytes key) (full : length key ≡ 8) where
  -- the payload is stored at the key, where `before` was
  pub record IsInsertion (t : NodeTable P) (v : P) (before : Option P) : Type 0 where
    pub tree : IsTree t depth [] root
    pub root_stays : HasRoot t root
    pub was : before ≡ lookup (pairs_at s depth root) (key_number key)
    pub pairs : pairs_at t depth root ≡ put (pairs_at s depth root) (key_number key) v
    pub shape : Reshapes before (nodes_at s depth [] root) key (nodes_at t depth [] root)

  module _ (r : HasRoot s root) (place : EndPlace P) (a : EndsAt s root key place) where
    -- the key is absent, unless the path ends at a payload
    none_absent : (b : ℕ) → place.end ≡ Absent b → lookup (pairs_at s depth root) (key_number key) ≡ None
    none_absent b is = lookup_end s root key bytes full place a (Absent b) (sym is) (λ c v e. absurd (cc))

    none_differs : (at : ℕ) → place.end ≡ Differs at → lookup (pairs_at s depth root) (key_number key) ≡ None
    none_differs at is = lookup_end s root key bytes full place a (Differs at) (sym is) (λ c v e. absurd (cc))

    pub change_inserts : (t : NodeTable P) (v : P) (b : ℕ) (w : Bor P) → place.end ≡ Present b w → SameElsewhere place.slot s t → WritesChild s t place.slot b (Payload v)
        → (u : P) → WasChild s place.slot b (Payload u) → IsInsertion t v (Some u)
    change_inserts t v b w is keeps written u was =
        let x = change_whole s t root key bytes full v place a b w is keeps written in
        record {
          tree = x.0;
          root_stays = change_root s t root place.slot r b (Payload v) keeps written;
          was = sym (lookup_held s root key bytes full place a b w is u (was a.node a.here));
          pairs = x.1;
          shape = change_shape s t root key bytes full v place a b w is keeps written;
        }

    pub add_inserts : (t : NodeTable P) (v : P) (b : ℕ) → place.end ≡ Absent b → Adds s t place.slot key b v → IsInsertion t v None
    add_inserts t v b is adds =
        let x = add_whole s t root key bytes full v place a b is adds in
        record {
          tree = x.0;
          root_stays = add_root s t root place.slot r key b v adds;
          was = sym (none_absent b is);
          pairs = x.1;
          shape = add_shape s t root key bytes full v place a b is adds;
        }

    pub split_inserts : (t : NodeTable P) (v : P) (at : ℕ) → place.end ≡ Differs at → Splits s t place.slot key at v → IsInsertion t v None
    split_inserts t v at is splits =
        let x = split_whole s t root key bytes full v place a at is splits in
        record {
          tree = x.0;
          root_stays = split_root_at s t root key v r place a at is splits;
          was = sym (none_differs at is);
          pairs = x.1;
          shape = split_shape s t root key bytes full v place a at is splits;
        }

module _ {P : Type 0} (s : NodeTable P) (root : ℕ) (key : List ℕ) (place : EndPlace P) (a : EndsAt s root key place) where
  pub parts_high : (at : ℕ) → place.end ≡ Differs at → at < 7
  parts_high at is =
      let d : FindsEnd key a.node (Differs at) = subst (λ e. FindsEnd key a.node e) is a.end in
      let o = open_subtree s a.leads.levels place.slot a.node (record { above = a.leads.q; tree = a.leads.tree }) (sym a.here) in
      omega (arith, d.inside, o.sound.short)
