-- THE WRITES OF A CLEANUP: a smaller copy of a locked node takes its place below its locked parent, or a node without
-- children is taken out from there. No pair changes.
use Rattle.std.proofs.Common.{◌≡◌, ℕ, ◌+◌, List, [], ◌∷◌, Option, Some, None, inl, inr, refl, sym, subst, ap, ◌∙◌, arith}
use Rattle.spec_map.specs.Map.{lookup}
use Rattle.spec_node.specs.TableNode.{TableNode, Child}
use Rattle.spec_node.specs.declared.child.Child.TheVariants.{Payload, Node as below_at}
use Rattle.spec_olc.specs.Calls.{bytes_of}
use Rattle.olc_state.specs.inner.World.{PlacedNode, NodeMap, entry}
use Rattle.olc_state.specs.inner.Tables.{byte_at, IsPlaced, NeedsHolder}
use Rattle.olc_laws.proofs.Detaching.{TakesOut}
use Rattle.olc_laws.proofs.Effects.{OthersStay, Effect, effect}
use Rattle.olc_laws.proofs.Pairs.{SamePairs, SamePays, OtherPays, same_pairs}
use Rattle.olc_laws.proofs.Trees.{tree_of, linked_in, tree_at}
use Rattle.olc_laws.proofs.TreeCopies.{CopiesNode, copied_tree}
use Rattle.olc_laws.proofs.Writing.{answered, WritesBelow, Publishes, Detaches, below_payload, written_at, written_changes, written_steps, published_tree, published_vacant, published_steps, published_needs, detached_tree, detached_steps, other_pays, vacant_pays, node_pays, only_pays, parent_to, parent_from}

-- what holds of the payloads but those of one place, whichever that is, holds of all
same_pays : {M : Type 0} (t t' : NodeMap M) → ((prefix : List ℕ) (byte : ℕ) → OtherPays (tree_of t) (tree_of t') prefix byte) → SamePays (tree_of t) (tree_of t')
same_pays t t' others p x v = others p (x + 1) p x v (λ e f. omega (arith, f))

module _ {M : Type 0} where
  none_payload : (v : M) → let x : Option (Child M) = None in x ≡ Some (Payload v) → ⊥
  none_payload v e = cc

  -- THE SMALLER COPY comes in the node's place
  pub record ShrinksNode (t t' : NodeMap M) (p q r key : ℕ) (a b c : PlacedNode M) : Type 0 where
    pub write : WritesBelow t t' p key a (Some (below_at r))
    pub under : entry a (byte_at a (bytes_of key)) ≡ Some (below_at q)
    pub old : Detaches t t' q b b.node
    pub new : Publishes t t' r c
    pub prefix : c.node.prefix ≡ b.node.prefix
    pub children : c.node.children ≡ b.node.children
    pub others : OthersStay t t' (p ∷ q ∷ r ∷ [])

module _ {M : Type 0} {t t' : NodeMap M} {p q r key : ℕ} {a b c : PlacedNode M} (g : ShrinksNode t t' p q r key a b c) (root : ℕ) (placed : IsPlaced t root) where
  shrunk_copies : CopiesNode (tree_of t) (tree_of t') p (byte_at a (bytes_of key)) q r a.node (answered a (byte_at a (bytes_of key)) (Some (below_at r))).node b.node c.node
  shrunk_copies = record {
    at = written_changes g.write root placed (λ v e. absurd (below_payload r v e));
    old_child = g.under;
    new_child = written_at g.write root placed;
    old = tree_at t q b g.old.here;
    gone = detached_tree g.old;
    vacant = published_vacant g.new;
    new = published_tree g.new;
    prefix = g.prefix;
    children = g.children;
    others = λ s far not_q not_r. ap linked_in (g.others s (λ one. elim one [ inl e ↦ far (sym e) | inr (inl e) ↦ not_q (sym e) | inr (inr (inl e)) ↦ not_r (sym e) | inr (inr (inr none)) ↦ none ]));
  }

  pub shrunk_effect : (Mine May : ℕ → Type 0) → Mine p → Mine q → Mine r → Effect t t' root Mine May (p ∷ q ∷ r ∷ []) (p ∷ q ∷ [])
  shrunk_effect Mine May mine also made =
      effect t t' root Mine May (p ∷ q ∷ r ∷ []) (p ∷ q ∷ []) placed g.others
      (written_steps g.write root placed Mine May mine, (detached_steps g.old root Mine May placed also, (published_steps g.new Mine May made, tt)))
      ((λ (need : NeedsHolder t' p). inl refl), ((λ (need : NeedsHolder t' q). inr (inl refl)), ((λ (need : NeedsHolder t' r). absurd (published_needs g.new need)), tt)))
      (λ tree. copied_tree shrunk_copies root tree)

  shrunk_others : (prefix : List ℕ) (byte : ℕ) → OtherPays (tree_of t) (tree_of t') prefix byte
  shrunk_others prefix byte =
      other_pays t t' prefix byte (p ∷ q ∷ r ∷ []) g.others (
        parent_to g.write root placed prefix byte (λ v e. below_payload q v (sym g.under ∙ e)),
        (
          node_pays (tree_of t) (tree_of t') prefix byte q r b.node c.node (tree_at t q b g.old.here) (published_tree g.new) g.prefix
              (λ y v far e. subst (λ (es : List (ℕ × Child M)). lookup es y ≡ Some (Payload v)) (sym g.children) e),
          (vacant_pays (tree_of t) (tree_of t') prefix byte r (published_vacant g.new), tt),
        ),
      ) (
        parent_from g.write root placed prefix byte (λ v e. below_payload r v e),
        (
          vacant_pays (tree_of t') (tree_of t) prefix byte q (detached_tree g.old),
          (
            node_pays (tree_of t') (tree_of t) prefix byte r q c.node b.node (published_tree g.new) (tree_at t q b g.old.here) (sym g.prefix)
                (λ y v far e. subst (λ (es : List (ℕ × Child M)). lookup es y ≡ Some (Payload v)) g.children e),
            tt,
          ),
        ),
      )

  pub shrunk_same : SamePairs t t'
  shrunk_same = same_pairs t t' (same_pays t t' shrunk_others)

-- THE EMPTY NODE is taken out
module _ {M : Type 0} {t t' : NodeMap M} {p q key : ℕ} {a b : PlacedNode M} {left : TableNode M} (d : TakesOut t t' p q key a b left) (root : ℕ) (placed : IsPlaced t root) (empty : b.node.children ≡ []) where
  no_child : (es : List (ℕ × Child M)) → es ≡ [] → (y : ℕ) (v : M) → lookup es y ≡ Some (Payload v) → ⊥
  no_child es e y v h = let none : None ≡ Some (Payload v) = sym (ap (λ z. lookup z y) e) ∙ h in none_payload v none

  cleared_others : (prefix : List ℕ) (byte : ℕ) → OtherPays (tree_of t) (tree_of t') prefix byte
  cleared_others prefix byte =
      other_pays t t' prefix byte (p ∷ q ∷ []) d.others
      (parent_to d.write root placed prefix byte (λ v e. below_payload q v (sym d.child ∙ e)), (only_pays (tree_of t) (tree_of t') prefix byte q b.node (tree_at t q b d.old.here) (λ y v far e. no_child b.node.children empty y v e), tt))
      (parent_from d.write root placed prefix byte none_payload, (vacant_pays (tree_of t') (tree_of t) prefix byte q (detached_tree d.old), tt))

  pub cleared_same : SamePairs t t'
  cleared_same = same_pairs t t' (same_pays t t' cleared_others)
