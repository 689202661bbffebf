-- A pair that gets a slot, and a leaf that goes back into its parent, are seen as a node that goes into another place.
use Rattle.std.proofs.Common.{◌≡◌, ◌≢◌, ℕ, zero, suc, ◌+◌, ◌*◌, ◌<◌, List, Option, Some, None, ap, sym, subst, ◌∙◌, arith, inl, inr}
use Rattle.std.proofs.lemmas.Bool.{cases_eq}
use Rattle.spec_map.proofs.MapLaws.{lookup-put_same}
use Rattle.std.specs.Option.{option_map}
use Rattle.spec_node.specs.TableNode.{TableNode}
use Rattle.tree_links.specs.LinkNode.{LinkNode, with_link}
use Rattle.tree_links.specs.MovesNode.{MovesNode}
use Rattle.tree_links.specs.SeenTable.{LinkTable, bytes, width, name_of, name_under, key_under, link_at, leaf_of, seen_link, seen_node, pair_at, pair_in, seen_table}
use Rattle.tree_links.specs.declared.link.Link.TheVariants.{Slot, Pair}
use Rattle.tree_links.specs.inner.Slots.{SameSlots, ExchangesLink}
use Rattle.tree_links.proofs.LeafLaws.{leaf_alone, none_in_leaf}
use Rattle.tree_links.proofs.SeenLaws.{seen_in, at_slot, lookup-seen, put-seen, leaf_under, seen-put, nothing_in, keeps_two}

module _ {P : Type 0} (t g u : LinkTable P) (i b j : ℕ) (rest : List ℕ) (v : P) (inside : b < bytes) where
  -- A PAIR GETS A SLOT: its parent has that slot in g, and the slot its leaf in u
  pub hoisted : (h : ExchangesLink t g i b (Pair rest v) (Slot j)) → link_at g j ≡ None → link_at u j ≡ Some (leaf_alone (key_under h.node.prefix b rest) v) → SameSlots g u j
      → MovesNode (seen_table t) (seen_table u) (name_of i) b (name_under i b) (name_of j)
  hoisted h fresh there others = record {
    node = seen_node i n;
    moved = leaf_of key v;
    here = at_slot t i n h.here;
    found = lookup-seen i n.links b ∙ ap (option_map (λ c. seen_link i b c)) h.found;
    was = leaf_under t i b n rest v inside h.here h.found;
    there = at_slot u i (with_link n b (Slot j)) then_i ∙ ap (λ es. Some (record { form = n.form; prefix = n.prefix; children = es })) (put-seen i n.links b (Slot j));
    is = at_slot u j (leaf_alone key v) there;
    keeps = λ o m far off. keeps_two t u i j (λ o. (o ≢ name_of i) × (o ≢ name_under i b)) (λ k d e. others k e ∙ h.others k d) in_parent in_new o m (far, off);
  }
    where
      n : LinkNode P
      n = h.node

      key : List ℕ
      key = key_under n.prefix b rest

      apart : j ≢ i
      apart e = let clash : ◌≡◌ {A = Option (LinkNode P)} None (Some (with_link n b (Slot j))) = sym fresh ∙ ap (λ k. link_at g k) e ∙ h.there in cc

      then_i : link_at u i ≡ Some (with_link n b (Slot j))
      then_i = others i (λ e. apart (sym e)) ∙ h.there

      was_none : link_at t j ≡ None
      was_none = sym (h.others j apart) ∙ fresh

      in_parent : (a : ℕ) (m : TableNode P) → (i * width + a ≢ name_of i) × (i * width + a ≢ name_under i b) → seen_in i (link_at t i) a ≡ Some m → seen_in i (link_at u i) a ≡ Some m
      in_parent a m off seen =
          ap (λ x. seen_in i x a) then_i
          ∙ seen-put i n b (Slot j) a (λ z. off.0 (ap (λ y. i * width + y) z ∙ omega arith)) (λ z. off.1 (ap (λ y. i * width + y) z))
          ∙ sym (ap (λ x. seen_in i x a) h.here) ∙ seen

      in_new : (a : ℕ) (m : TableNode P) → (j * width + a ≢ name_of i) × (j * width + a ≢ name_under i b) → seen_in j (link_at t j) a ≡ Some m → seen_in j (link_at u j) a ≡ Some m
      in_new a m off seen = absurd (nothing_in j a m (sym (ap (λ x. seen_in j x a) was_none) ∙ seen))

  -- A LEAF GOES BACK INTO ITS PARENT: its slot has nothing in g, and the parent has the pair in u
  pub lowered : (key : List ℕ) → link_at t j ≡ Some (leaf_alone key v) → link_at g j ≡ None → SameSlots t g j → (h : ExchangesLink g u i b (Slot j) (Pair rest v)) → key_under h.node.prefix b rest ≡ key
      → MovesNode (seen_table t) (seen_table u) (name_of i) b (name_of j) (name_under i b)
  lowered key was none others h key_is = record {
    node = seen_node i n;
    moved = leaf_of key v;
    here = at_slot t i n here;
    found = lookup-seen i n.links b ∙ ap (option_map (λ c. seen_link i b c)) h.found;
    was = at_slot t j (leaf_alone key v) was;
    there = at_slot u i (with_link n b (Pair rest v)) h.there ∙ ap (λ es. Some (record { form = n.form; prefix = n.prefix; children = es })) (put-seen i n.links b (Pair rest v));
    is = leaf_under u i b (with_link n b (Pair rest v)) rest v inside h.there (lookup-put_same n.links b (Pair rest v)) ∙ ap (λ k. Some (leaf_of k v)) key_is;
    keeps = λ o m far off. keeps_two t u i j (λ o. (o ≢ name_of i) × (o ≢ name_of j)) (λ k d e. h.others k d ∙ others k e) in_parent in_old o m (far, off);
  }
    where
      n : LinkNode P
      n = h.node

      apart : i ≢ j
      apart e = let clash : ◌≡◌ {A = Option (LinkNode P)} None (Some n) = sym none ∙ ap (λ k. link_at g k) (sym e) ∙ h.here in cc

      here : link_at t i ≡ Some n
      here = sym (others i apart) ∙ h.here

      none_then : link_at u j ≡ None
      none_then = h.others j (λ e. apart (sym e)) ∙ none

      no_pair_there : pair_in (link_at t i) b ≡ None
      no_pair_there = ap (λ x. pair_in x b) here ∙ ap (pair_at n.prefix b) h.found

      in_parent : (a : ℕ) (m : TableNode P) → (i * width + a ≢ name_of i) × (i * width + a ≢ name_of j) → seen_in i (link_at t i) a ≡ Some m → seen_in i (link_at u i) a ≡ Some m
      in_parent a m off seen =
          elim (cases_eq a (suc b)) [
            | inl same ↦ absurd (
                let some : pair_in (link_at t i) b ≡ Some m = subst (λ z. seen_in i (link_at t i) z ≡ Some m) same seen in
                let clash : ◌≡◌ {A = Option (TableNode P)} None (Some m) = sym no_pair_there ∙ some in cc)
            | inr other ↦
                ap (λ x. seen_in i x a) h.there
                ∙ seen-put i n b (Pair rest v) a (λ z. off.0 (ap (λ y. i * width + y) z ∙ omega arith)) other
                ∙ sym (ap (λ x. seen_in i x a) here) ∙ seen
          ]

      in_old : (a : ℕ) (m : TableNode P) → (j * width + a ≢ name_of i) × (j * width + a ≢ name_of j) → seen_in j (link_at t j) a ≡ Some m → seen_in j (link_at u j) a ≡ Some m
      in_old zero m off seen = absurd (off.1 (omega arith))
      in_old (suc c) m off seen =
          absurd (
          let clash : ◌≡◌ {A = Option (TableNode P)} None (Some m) = sym (none_in_leaf key v c) ∙ sym (ap (λ x. pair_in x c) was) ∙ seen in cc)
