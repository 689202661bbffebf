-- A LEAF WITH ONE PAIR IS LINKED below a locked inner node, under a byte that had no child.
use Rattle.std.proofs.Common.{◌≡◌, ℕ, ◌^◌, ◌<◌, [], ◌∷◌, length, Some, None, inl, inr, refl, sym, ap, ◌∙◌, arith}
use Rattle.spec_node.specs.declared.child.Child.TheVariants.{Payload, Node as below_at}
use Rattle.spec_olc.specs.Calls.{bytes_of}
use Rattle.olc_state.specs.inner.World.{PlacedNode, NodeMap, entry}
use Rattle.olc_state.specs.inner.Tables.{byte_at, IsPlaced, NeedsHolder}
use Rattle.olc_state.proofs.Options.{none_some}
use Rattle.olc_laws.proofs.Below.{Inside}
use Rattle.olc_laws.proofs.Effects.{OthersStay, Effect, effect}
use Rattle.olc_laws.proofs.Pairs.{PutsPair, OtherPays, puts_pair}
use Rattle.olc_laws.proofs.Prefixes.{begins_next}
use Rattle.olc_laws.proofs.Trees.{IsTree, tree_of, linked_in}
use Rattle.olc_laws.proofs.TreeLeaves.{LinksLeaf, linked_tree}
use Rattle.olc_laws.proofs.Writing.{answered, WritesBelow, Publishes, IsLeafFor, leaf_has, leaf_only, leaf_nodes, leaf_shaped, below_payload, written_at, written_changes, written_steps, published_tree, published_vacant, published_steps, published_needs, other_pays, vacant_pays, only_pays, parent_to, parent_from}

module _ {M : Type 0} where
  pub record Links (t t' : NodeMap M) (p q key : ℕ) (a b : PlacedNode M) (v : M) : Type 0 where
    pub write : WritesBelow t t' p key a (Some (below_at q))
    pub inner : length a.node.prefix < 7
    pub empty : entry a (byte_at a (bytes_of key)) ≡ None
    pub new : Publishes t t' q b
    pub leaf : IsLeafFor b.node key v
    pub small : key < 2 ^ 64
    pub others : OthersStay t t' (p ∷ q ∷ [])

module _ {M : Type 0} {t t' : NodeMap M} {p q key : ℕ} {a b : PlacedNode M} {v : M} (l : Links t t' p q key a b v) (root : ℕ) (placed : IsPlaced t root) where
  leaf_inside : Inside a.node.prefix (byte_at a (bytes_of key)) b.node.prefix
  leaf_inside = begins_next a.node.prefix b.node.prefix (bytes_of key) l.write.begins l.leaf.begins (omega (arith, l.inner, l.leaf.full))

  link_tree : IsTree (tree_of t) root → IsTree (tree_of t') root
  link_tree tree =
      let links : LinksLeaf (tree_of t) (tree_of t') p (byte_at a (bytes_of key)) q a.node (answered a (byte_at a (bytes_of key)) (Some (below_at q))).node b.node = record {
        at = written_changes l.write root placed (λ w e. absurd (below_payload q w e));
        empty = l.empty;
        child = written_at l.write root placed;
        vacant = published_vacant l.new;
        linked = published_tree l.new;
        begins = leaf_inside;
        shaped = leaf_shaped l.leaf;
        leaf = leaf_nodes l.leaf;
        others = λ s far off. ap linked_in (l.others s (λ one. elim one [ inl e ↦ far (sym e) | inr (inl e) ↦ off (sym e) | inr (inr none) ↦ none ]));
      } in
      linked_tree links root tree

  pub link_effect : (Mine May : ℕ → Type 0) → Mine p → Mine q → Effect t t' root Mine May (p ∷ q ∷ []) (p ∷ [])
  link_effect Mine May mine made =
      effect t t' root Mine May (p ∷ q ∷ []) (p ∷ []) placed l.others
      (written_steps l.write root placed Mine May mine, (published_steps l.new Mine May made, tt))
      ((λ (need : NeedsHolder t' p). inl refl), ((λ (need : NeedsHolder t' q). absurd (published_needs l.new need)), tt))
      link_tree

  link_others : OtherPays (tree_of t) (tree_of t') b.node.prefix (byte_at b (bytes_of key))
  link_others =
      other_pays t t' b.node.prefix (byte_at b (bytes_of key)) (p ∷ q ∷ []) l.others (
        parent_to l.write root placed b.node.prefix (byte_at b (bytes_of key)) (λ w e. none_some (Payload w) (sym l.empty ∙ e)),
        (vacant_pays (tree_of t) (tree_of t') b.node.prefix (byte_at b (bytes_of key)) q (published_vacant l.new), tt),
      ) (
        parent_from l.write root placed b.node.prefix (byte_at b (bytes_of key)) (λ w e. below_payload q w e),
        (only_pays (tree_of t') (tree_of t) b.node.prefix (byte_at b (bytes_of key)) q b.node (published_tree l.new) (λ y w far e. far refl (leaf_only l.leaf y (Payload w) e).0), tt),
      )

  pub link_puts : PutsPair t t' key v
  link_puts =
      puts_pair t t' b.node.prefix key l.leaf.full l.leaf.begins l.small link_others v
      (record { slot = q; node = b.node; here = published_tree l.new; same = refl; child = leaf_has l.leaf })
