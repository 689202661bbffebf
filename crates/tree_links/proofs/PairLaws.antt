-- What the calls for one pair in its parent do to the table that is seen.
use Rattle.std.proofs.Common.{◌≡◌, ◌≢◌, ℕ, zero, suc, ◌+◌, ◌*◌, ◌<◌, List, [], ◌∷◌, ◌++◌, length, drop, Option, Some, None, ap, sym, subst, ◌∙◌, arith, inl, inr}
use Rattle.std.proofs.lemmas.Bool.{le-ltb, lt-ltb, eq-eqb, ne_eqb, cases_order, cases_eq}
use Rattle.spec_map.specs.Map.{lookup, put, Rises}
use Rattle.spec_map.proofs.MapLaws.{lookup-below, lookup-put_same}
use Rattle.spec_node.specs.Key.{Begins}
use Rattle.spec_node.specs.TableNode.{TableNode}
use Rattle.node_table.specs.Table.{node_at}
use Rattle.spec_node.specs.declared.child.Child.TheVariants as children
use Rattle.tree_links.specs.LinkNode.{LinkNode, with_link, without_link}
use Rattle.tree_links.specs.PairCalls.{GetsLeaf, ChangesLeaf, LosesLeaf}
use Rattle.tree_links.specs.SeenTable.{LinkTable, bytes, width, name_of, name_under, key_under, link_at, leaf_of, seen_link, seen_links, seen_node, pair_at, pair_in, seen_table}
use Rattle.tree_links.specs.declared.link.Link.{Link}
use Rattle.tree_links.specs.declared.link.Link.TheVariants.{Pair}
use Rattle.tree_links.specs.inner.Slots.{ExchangesLink, PutsLink, TakesLink}
use Rattle.tree_links.proofs.KeyLaws.{whole_key, key_long, rest_of, same_leaf}
use Rattle.tree_links.proofs.SeenLaws.{seen_in, seen_under, at_slot, put-seen, without-seen, leaf_under, seen-put, seen-without, keeps_one, same_one}

module _ {P : Type 0} where
  -- A PAIR MORE
  pub gets_leaf : (t u : LinkTable P) (i b : ℕ) (key : List ℕ) (v : P) → b < bytes → PutsLink t u i b (Pair (drop 1 key) v) → ((n : LinkNode P) → link_at t i ≡ Some n → Begins (n.prefix ++ b ∷ []) key)
      → GetsLeaf (seen_table t) (seen_table u) (name_of i) b (name_under i b) key v
  gets_leaf t u i b key v inside h under = record {
    node = seen_node i n;
    here = at_slot t i n h.here;
    fresh = seen_under t i b inside ∙ none;
    there = at_slot u i (with_link n b c) h.there ∙ ap (λ es. Some (record { form = n.form; prefix = n.prefix; children = es })) (put-seen i n.links b c);
    is = leaf_under u i b (with_link n b c) (drop 1 key) v inside h.there (lookup-put_same n.links b c) ∙ ap (λ k. Some (leaf_of k v)) (whole_key n.prefix b key (under n h.here));
    keeps = keeps_one t u i (λ o. o ≢ name_of i) h.others stays;
  }
    where
      n : LinkNode P
      n = h.node

      c : Link P
      c = Pair (drop 1 key) v

      none : pair_in (link_at t i) b ≡ None
      none = ap (λ x. pair_in x b) h.here ∙ ap (pair_at n.prefix b) h.absent

      stays : (a : ℕ) (m : TableNode P) → (i * width + a ≢ name_of i) → seen_in i (link_at t i) a ≡ Some m → seen_in i (link_at u i) a ≡ Some m
      stays a m off seen =
          elim (cases_eq a (suc b)) [
            | inl same ↦ absurd (
                let some : pair_in (link_at t i) b ≡ Some m = subst (λ z. seen_in i (link_at t i) z ≡ Some m) same seen in
                let clash : ◌≡◌ {A = Option (TableNode P)} None (Some m) = sym none ∙ some in cc)
            | inr other ↦ ap (λ x. seen_in i x a) h.there ∙ seen-put i n b c a (λ z. off (ap (λ y. i * width + y) z ∙ omega arith)) other ∙ sym (ap (λ x. seen_in i x a) h.here) ∙ seen
          ]

  -- A PAIR LESS
  pub loses_leaf : (t u : LinkTable P) (i b : ℕ) (rest : List ℕ) (v : P) → b < bytes → TakesLink t u i b (Pair rest v)
      → LosesLeaf (seen_table t) (seen_table u) (name_of i) b (name_under i b) v
  loses_leaf t u i b rest v inside h = record {
    node = seen_node i n;
    key = key_under n.prefix b rest;
    here = at_slot t i n h.here;
    was = leaf_under t i b n rest v inside h.here h.found;
    there = at_slot u i (without_link n b) h.there ∙ ap (λ es. Some (record { form = n.form; prefix = n.prefix; children = es })) (without-seen i n.links b);
    keeps = λ o m far off. keeps_one t u i (λ o. (o ≢ name_of i) × (o ≢ name_under i b)) h.others stays o m (far, off);
  }
    where
      n : LinkNode P
      n = h.node

      stays : (a : ℕ) (m : TableNode P) → (i * width + a ≢ name_of i) × (i * width + a ≢ name_under i b) → seen_in i (link_at t i) a ≡ Some m → seen_in i (link_at u i) a ≡ Some m
      stays a m off seen =
          ap (λ x. seen_in i x a) h.there
          ∙ seen-without i n b a (λ z. off.0 (ap (λ y. i * width + y) z ∙ omega arith)) (λ z. off.1 (ap (λ y. i * width + y) z))
          ∙ sym (ap (λ x. seen_in i x a) h.here) ∙ seen

  -- ANOTHER PAYLOAD: the node itself is seen as it was
  same_links : (i d : ℕ) (es : List (ℕ × Link P)) (b : ℕ) (r q : List ℕ) (v w : P) → Rises d 256 es → lookup es b ≡ Some (Pair r v) → seen_links i (put es b (Pair q w)) ≡ seen_links i es
  same_links i d [] b r q v w o found = absurd (cc)
  same_links i d (e ∷ es) b r q v w o found =
      elim (cases_order e.0 b) [
        | inl same ↦
            let found' : Some e.1 ≡ Some (Pair r v) = rw (eq-eqb e.0 b same) at found in
            let is : e.1 ≡ Pair r v = cc in
            rw (le-ltb e.0 b (omega arith), eq-eqb e.0 b same)
            (ap (λ x. (x, children.Node (name_under i x)) ∷ seen_links i es) (sym same) ∙ ap (λ y. (e.0, seen_link i e.0 y) ∷ seen_links i es) (sym is))
        | inr (inl less) ↦
            let found' = rw (ne_eqb e.0 b (omega arith)) at found in
            rw (lt-ltb e.0 b less) (ap (λ x. (e.0, seen_link i e.0 e.1) ∷ x) (same_links i (e.0 + 1) es b r q v w o.2 found'))
        | inr (inr more) ↦
            let found' = rw (ne_eqb e.0 b (omega arith), lookup-below (e.0 + 1) 256 es b o.2 (omega arith)) at found in absurd (cc)
      ]

  pub changes_leaf : (t u : LinkTable P) (i b : ℕ) (rest : List ℕ) (v w : P) → b < bytes → (h : ExchangesLink t u i b (Pair rest v) (Pair rest w))
      → ChangesLeaf (seen_table t) (seen_table u) (name_under i b) (key_under h.node.prefix b rest) v w
  changes_leaf t u i b rest v w inside h = record {
    was = leaf_under t i b n rest v inside h.here h.found;
    is = leaf_under u i b (with_link n b (Pair rest w)) rest w inside h.there (lookup-put_same n.links b (Pair rest w));
    others = same_one t u i (λ o. o ≢ name_under i b) h.others stays;
  }
    where
      n : LinkNode P
      n = h.node

      stays : (a : ℕ) → (i * width + a ≢ name_under i b) → seen_in i (link_at u i) a ≡ seen_in i (link_at t i) a
      stays zero off =
          ap (λ x. seen_in i x zero) h.there
          ∙ ap (λ es. Some (record { form = n.form; prefix = n.prefix; children = es })) (same_links i 0 n.links b rest rest v w h.ordered h.found)
          ∙ sym (ap (λ x. seen_in i x zero) h.here)
      stays (suc d) off =
          ap (λ x. seen_in i x (suc d)) h.there
          ∙ seen-put i n b (Pair rest w) (suc d) (λ z. absurd (omega (arith, z))) (λ z. off (ap (λ y. i * width + y) z))
          ∙ sym (ap (λ x. seen_in i x (suc d)) h.here)

  -- where the leaf is this key's
  pub changes_key : (t u : LinkTable P) (i b : ℕ) (key rest : List ℕ) (v w x : P) → b < bytes → length rest ≡ 7 → length key ≡ 8 → (h : ExchangesLink t u i b (Pair rest v) (Pair (drop 1 key) w))
      → node_at (seen_table t) (name_under i b) ≡ Some (leaf_of key x) → ChangesLeaf (seen_table t) (seen_table u) (name_under i b) key v w
  changes_key t u i b key rest v w x inside seven full h leaf =
      let both : Some (leaf_of (key_under h.node.prefix b rest) v) ≡ Some (leaf_of key x) = sym (leaf_under t i b h.node rest v inside h.here h.found) ∙ leaf in
      let same : leaf_of (key_under h.node.prefix b rest) v ≡ leaf_of key x = cc in
      let key_is : key_under h.node.prefix b rest ≡ key = same_leaf (key_under h.node.prefix b rest) key v x (key_long h.node.prefix b rest seven) full same in
      let rest_is : drop 1 key ≡ rest = ap (drop 1) (sym key_is) ∙ rest_of h.node.prefix b rest in
      let h' : ExchangesLink t u i b (Pair rest v) (Pair rest w) = record {
        node = h.node;
        here = h.here;
        ordered = h.ordered;
        found = h.found;
        there = h.there ∙ ap (λ r. Some (with_link h.node b (Pair r w))) rest_is;
        others = h.others;
      } in
      subst (λ k. ChangesLeaf (seen_table t) (seen_table u) (name_under i b) k v w) key_is (changes_leaf t u i b rest v w inside h')
