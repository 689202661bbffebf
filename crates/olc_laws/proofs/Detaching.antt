-- A LOCKED LEAF WITH ONE PAIR IS DETACHED from its locked parent, and its payload is removed.
use Rattle.std.proofs.Common.{◌≡◌, ℕ, ◌^◌, ◌<◌, List, [], ◌∷◌, Option, Some, None, inl, inr, refl, sym, subst, ap, ◌∙◌}
use Rattle.spec_map.specs.Map.{lookup}
use Rattle.spec_node.specs.TableNode.{TableNode, Child}
use Rattle.spec_node.specs.declared.child.Child.TheVariants.{Payload, Node as below_at}
use Rattle.spec_olc.specs.Calls.{bytes_of}
use Rattle.olc_state.specs.inner.World.{PlacedNode, NodeMap, entry}
use Rattle.olc_state.specs.inner.Tables.{byte_at, IsPlaced, NeedsHolder}
use Rattle.olc_laws.proofs.Below.{Inside, head_inside}
use Rattle.olc_laws.proofs.Effects.{OthersStay, Effect, effect}
use Rattle.olc_laws.proofs.Pairs.{TakesPair, OtherPays, takes_pair}
use Rattle.olc_laws.proofs.Trees.{IsTree, Pays, tree_of, linked_in, tree_at, placed_tree}
use Rattle.olc_laws.proofs.TreeLeaves.{HasNoNodes, DropsNode, dropped_tree, none_left}
use Rattle.olc_laws.proofs.Writing.{answered, WritesBelow, Detaches, IsLeafFor, leaf_only, below_payload, written_at, written_changes, written_steps, detached_tree, detached_steps, other_pays, vacant_pays, only_pays, parent_to, parent_from}

module _ {M : Type 0} where
  -- a node with no nodes below it is taken out from below its parent
  pub record TakesOut (t t' : NodeMap M) (p q key : ℕ) (a b : PlacedNode M) (left : TableNode M) : Type 0 where
    pub write : WritesBelow t t' p key a None
    pub child : entry a (byte_at a (bytes_of key)) ≡ Some (below_at q)
    pub old : Detaches t t' q b left
    pub leaf : HasNoNodes b.node
    pub others : OthersStay t t' (p ∷ q ∷ [])

  none_payload : (v : M) → let x : Option (Child M) = None in x ≡ Some (Payload v) → ⊥
  none_payload v e = cc

module _ {M : Type 0} {t t' : NodeMap M} {p q key : ℕ} {a b : PlacedNode M} {left : TableNode M} (d : TakesOut t t' p q key a b left) (root : ℕ) (placed : IsPlaced t root) where
  taken_drops : DropsNode (tree_of t) (tree_of t') p (byte_at a (bytes_of key)) q a.node (answered a (byte_at a (bytes_of key)) None).node b.node
  taken_drops = record {
    at = written_changes d.write root placed (λ v e. absurd (none_payload v e));
    child = d.child;
    empty = written_at d.write root placed;
    linked = tree_at t q b d.old.here;
    leaf = d.leaf;
    gone = detached_tree d.old;
    others = λ s far off. ap linked_in (d.others s (λ one. elim one [ inl e ↦ far (sym e) | inr (inl e) ↦ off (sym e) | inr (inr none) ↦ none ]));
  }

  pub taken_effect : (Mine May : ℕ → Type 0) → Mine p → Mine q → Effect t t' root Mine May (p ∷ q ∷ []) (p ∷ q ∷ [])
  taken_effect Mine May mine also =
      effect t t' root Mine May (p ∷ q ∷ []) (p ∷ q ∷ []) placed d.others
      (written_steps d.write root placed Mine May mine, (detached_steps d.old root Mine May placed also, tt))
      ((λ (need : NeedsHolder t' p). inl refl), ((λ (need : NeedsHolder t' q). inr (inl refl)), tt))
      (λ tree. dropped_tree taken_drops root tree)

  taken_others : (prefix : List ℕ) (byte : ℕ) → ((y : ℕ) (v : M) → (b.node.prefix ≡ prefix → y ≡ byte → ⊥) → lookup b.node.children y ≡ Some (Payload v) → ⊥) → OtherPays (tree_of t) (tree_of t') prefix byte
  taken_others prefix byte none =
      other_pays t t' prefix byte (p ∷ q ∷ []) d.others
      (parent_to d.write root placed prefix byte (λ v e. below_payload q v (sym d.child ∙ e)), (only_pays (tree_of t) (tree_of t') prefix byte q b.node (tree_at t q b d.old.here) none, tt))
      (parent_from d.write root placed prefix byte none_payload, (vacant_pays (tree_of t') (tree_of t) prefix byte q (detached_tree d.old), tt))

  none_there : (v : M) → Pays (tree_of t') b.node.prefix (byte_at b (bytes_of key)) v → ⊥
  none_there v h =
      let tree : IsTree (tree_of t) root = placed_tree t root placed in
      none_left taken_drops root tree h.slot h.node h.here
      (subst (λ z. Inside a.node.prefix (byte_at a (bytes_of key)) z) (sym h.same) (head_inside taken_drops.at root tree q b.node d.child (tree_at t q b d.old.here)))

  -- the key of its one pair is removed
  pub taken_takes : (v : M) → IsLeafFor b.node key v → key < 2 ^ 64 → TakesPair t t' key
  taken_takes v leaf small =
      takes_pair t t' b.node.prefix key leaf.full leaf.begins small
      (taken_others b.node.prefix (byte_at b (bytes_of key)) (λ y w far e. far refl (leaf_only leaf y (Payload w) e).0)) none_there
