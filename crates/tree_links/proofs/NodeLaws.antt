-- What is seen of a node that is added, read, or in another form.
use Rattle.std.proofs.Common.{◌≡◌, ◌≢◌, ℕ, zero, suc, ◌+◌, ◌*◌, List, [], length, get_or, Option, Some, None, refl, ap, sym, subst, ◌∙◌, arith}
use Rattle.std.specs.Option.{option_map}
use Rattle.spec_map.specs.Map.{lookup}
use Rattle.node_base.specs.Form.{Fits, next_form, smaller_form}
use Rattle.spec_node.specs.TableNode.{TableNode}
use Rattle.node_table.specs.Table.{node_at}
use Rattle.tree_links.specs.OtherForm.{GrowsNode, HasFewAt, ShrinksNode}
use Rattle.tree_links.specs.LinkNode.{LinkNode}
use Rattle.tree_links.specs.SeenTable.{LinkTable, links_of, width, name_of, link_at, seen_node, pair_at, pair_in, seen_table}
use Rattle.tree_links.specs.inner.Slots.{SameSlots, IsFewAt}
use Rattle.tree_links.proofs.SeenLaws.{at_links_of, seen_in, seen_slot, at_slot, slot_at, same_one, length-seen}

module _ {P : Type 0} where
  pub seen_get : {N : Type 0} (f : N → LinkNode P) (s : List (Option N)) (i : ℕ) (x : Option N) → x ≡ get_or s i None → option_map (λ n. seen_node i (f n)) x ≡ node_at (seen_table (links_of f s)) (name_of i)
  seen_get {N} f s i x is = twice x ∙ ap (option_map (λ n. seen_node i n)) (ap (option_map f) is ∙ sym (at_links_of f s i)) ∙ sym (seen_slot (links_of f s) i)
    where
      twice : (y : Option N) → option_map (λ n. seen_node i (f n)) y ≡ option_map (λ n. seen_node i n) (option_map f y)
      twice None = refl
      twice (Some n) = refl

  -- a node that is seen is the one there
  pub seen_is : (x : Option (TableNode P)) (i : ℕ) (n : LinkNode P) (m : TableNode P) → x ≡ Some (seen_node i n) → x ≡ Some m → seen_node i n ≡ m
  seen_is x i n m here there = let both : Some (seen_node i n) ≡ Some m = sym here ∙ there in cc

  -- a node that is seen to have few links has few
  pub few_is : (t : LinkTable P) (i : ℕ) → HasFewAt (seen_table t) (name_of i) → IsFewAt t i
  few_is t i h =
      let n = slot_at t i h.node h.here in
      let few : Fits (smaller_form n.node.form) (length (seen_node i n.node).children) = subst (λ (m : TableNode P). Fits (smaller_form m.form) (length m.children)) n.is h.few in
      record { node = n.node; here = n.here; few = subst (λ k. Fits (smaller_form n.node.form) k) (length-seen i n.node.links) few }

  -- the same in each slot
  pub all_same : (t u : LinkTable P) → ((k : ℕ) → link_at u k ≡ link_at t k) → (o : ℕ) → node_at (seen_table u) o ≡ node_at (seen_table t) o
  all_same t u same o = same_one t u 0 (λ x. x ≡ x) (λ k other. same k) (λ a here. ap (λ x. seen_in 0 x a) (same 0)) o refl

  module _ (t u : LinkTable P) (i : ℕ) (others : SameSlots t u i) where
    -- a node without links in an empty slot
    pub added_others : (n : LinkNode P) → n.links ≡ [] → link_at t i ≡ None → link_at u i ≡ Some n → (o : ℕ) → o ≢ name_of i → node_at (seen_table u) o ≡ node_at (seen_table t) o
    added_others n empty none there = same_one t u i (λ o. o ≢ name_of i) others stays
      where
        stays : (a : ℕ) → (i * width + a ≢ name_of i) → seen_in i (link_at u i) a ≡ seen_in i (link_at t i) a
        stays zero off = absurd (off (omega arith))
        stays (suc b) off = ap (λ x. pair_in x b) there ∙ ap (λ es. pair_at n.prefix b (lookup es b)) empty ∙ sym (ap (λ x. pair_in x b) none)

    -- another form
    pub grows_node : (n : LinkNode P) → link_at t i ≡ Some n → link_at u i ≡ Some (record n { form = next_form n.form }) → Fits (next_form n.form) (length n.links + 1) → GrowsNode (seen_table t) (seen_table u) (name_of i)
    grows_node n here there room = record {
      node = seen_node i n;
      here = at_slot t i n here;
      there = at_slot u i (record n { form = next_form n.form }) there;
      room = subst (λ k. Fits (next_form n.form) (k + 1)) (sym (length-seen i n.links)) room;
      others = same_one t u i (λ o. o ≢ name_of i) others stays;
    }
      where
        stays : (a : ℕ) → (i * width + a ≢ name_of i) → seen_in i (link_at u i) a ≡ seen_in i (link_at t i) a
        stays zero off = absurd (off (omega arith))
        stays (suc b) off = ap (λ x. pair_in x b) there ∙ sym (ap (λ x. pair_in x b) here)

    pub shrinks_node : (n : LinkNode P) → link_at t i ≡ Some n → link_at u i ≡ Some (record n { form = smaller_form n.form }) → ShrinksNode (seen_table t) (seen_table u) (name_of i)
    shrinks_node n here there = record {
      node = seen_node i n;
      here = at_slot t i n here;
      there = at_slot u i (record n { form = smaller_form n.form }) there;
      others = same_one t u i (λ o. o ≢ name_of i) others stays;
    }
      where
        stays : (a : ℕ) → (i * width + a ≢ name_of i) → seen_in i (link_at u i) a ≡ seen_in i (link_at t i) a
        stays zero off = absurd (off (omega arith))
        stays (suc b) off = ap (λ x. pair_in x b) there ∙ sym (ap (λ x. pair_in x b) here)
