-- Nodes that all go into another table, and the links to them.
use Rattle.std.proofs.Common.{◌≡◌, ℕ, suc, ◌+◌, ◌<◌, ◌⊎◌, List, [], ◌∷◌, length, get_or, Option, Some, None, refl, ap, sym, subst, ◌∙◌, arith, inl, inr}
use Rattle.std.specs.Option.{option_map}
use Rattle.spec_map.specs.Map.{lookup, Rises}
use Rattle.spec_node.specs.TableNode.{TableNode}
use Rattle.node_table.specs.Table.{IsSound, node_at}
use Rattle.node_table.specs.inner.Kinds.{mapped}
use Rattle.spec_node.specs.declared.child.Child.TheVariants as children
use Rattle.node_table.proofs.KindLaws.{lookup-mapped}
use Rattle.tree_path.specs.inner.Root.{HasTree, depth}
use Rattle.tree_links.specs.LinkNode.{LinkNode}
use Rattle.tree_links.specs.SameTree.{MovesTree}
use Rattle.tree_links.specs.SeenTable.{LinkTable, bytes, name_of, name_under, link_at, leaf_of, key_under, seen_links, seen_node, pair_at, pair_in, seen_table}
use Rattle.tree_links.specs.declared.link.Link.{Link}
use Rattle.tree_links.specs.declared.link.Link.TheVariants.{Payload, Slot, Pair}
use Rattle.tree_links.specs.inner.Compact.{GoesAllOver, redirected, Redirects, RedirectsIn, RedirectsEach}
use Rattle.tree_links.specs.inner.Pairs.{pairs_in_links, pairs_in_node, pairs_in_table}
use Rattle.tree_links.proofs.AlikeLaws.{ArePayloads, AreAlike, HasAlike, alike_tree}
use Rattle.tree_links.proofs.SeenLaws.{byte_inside, seen_under, at_slot, slot_at}

module _ (slots : List ℕ) where
  abbrev to : ℕ → ℕ
  to i = get_or slots i 0

  -- the place of a slot goes with that of the new one, and that of a pair with that of the same byte there
  record SlotGoes (j k : ℕ) : Type 0 where
    slot : ℕ
    from : j ≡ name_of slot
    into : k ≡ name_of (to slot)

  record PairGoes (j k : ℕ) : Type 0 where
    slot : ℕ
    byte : ℕ
    inside : byte < bytes
    from : j ≡ name_under slot byte
    into : k ≡ name_under (to slot) byte

  abbrev Goes : ℕ → ℕ → Type 0
  Goes j k = SlotGoes j k ⊎ PairGoes j k

module _ {P : Type 0} (slots : List ℕ) where
  -- the links of a leaf
  alike_payloads : (i k d : ℕ) (es : List (ℕ × Link P)) → ArePayloads (seen_links i es) → AreAlike (Goes slots) (seen_links i es) (seen_links k es)
  alike_payloads i k d [] h = refl
  alike_payloads i k d ((b, Payload v) ∷ es) h = record { child = children.Payload v; others = seen_links k es; is = refl; alike = refl; rest = alike_payloads i k d es h.1 }
  alike_payloads i k d ((b, Slot j) ∷ es) h = absurd h.0
  alike_payloads i k d ((b, Pair rest v) ∷ es) h = absurd h.0

  -- those of an inner node
  alike_links : (i d : ℕ) (es : List (ℕ × Link P)) → Rises d 256 (seen_links i es) → AreAlike (Goes slots) (seen_links i es) (seen_links (to slots i) (mapped (redirected slots) es))
  alike_links i d [] o = refl
  alike_links i d ((b, Payload v) ∷ es) o = record { child = children.Payload v; others = seen_links (to slots i) (mapped (redirected slots) es); is = refl; alike = refl; rest = alike_links i (b + 1) es o.2 }
  alike_links i d ((b, Slot j) ∷ es) o = record {
    child = children.Node (name_of (to slots j));
    others = seen_links (to slots i) (mapped (redirected slots) es);
    is = refl;
    alike = (name_of (to slots j), refl, inl (record { slot = j; from = refl; into = refl }));
    rest = alike_links i (b + 1) es o.2;
  }
  alike_links i d ((b, Pair rest v) ∷ es) o = record {
    child = children.Node (name_under (to slots i) b);
    others = seen_links (to slots i) (mapped (redirected slots) es);
    is = refl;
    alike = (name_under (to slots i) b, refl, inr (record { slot = i; byte = b; inside = byte_inside b o.1; from = refl; into = refl }));
    rest = alike_links i (b + 1) es o.2;
  }

  -- the pairs of a node are the same
  pair_stays : (n m : LinkNode P) (b : ℕ) → Redirects slots n m → pair_in (Some m) b ≡ pair_in (Some n) b
  pair_stays n m b (inl r) = ap (λ x. pair_in (Some x) b) r.1
  pair_stays n m b (inr r) =
      ap (λ (x : LinkNode P). pair_at x.prefix b (lookup x.links b)) r.1
      ∙ ap (λ c. pair_at n.prefix b c) (lookup-mapped (redirected slots) n.links b (lookup n.links b) refl)
      ∙ at (lookup n.links b)
    where
      at : (c : Option (Link P)) → pair_at n.prefix b (option_map (redirected slots) c) ≡ pair_at n.prefix b c
      at None = refl
      at (Some (Payload v)) = refl
      at (Some (Slot j)) = refl
      at (Some (Pair rest v)) = refl

  pairs-redirected : (es : List (ℕ × Link P)) → pairs_in_links (mapped (redirected slots) es) ≡ pairs_in_links es
  pairs-redirected [] = refl
  pairs-redirected ((b, Payload v) ∷ es) = ap (λ k. 0 + k) (pairs-redirected es)
  pairs-redirected ((b, Slot j) ∷ es) = ap (λ k. 0 + k) (pairs-redirected es)
  pairs-redirected ((b, Pair rest v) ∷ es) = ap (λ k. 1 + k) (pairs-redirected es)

  pairs_in-redirected : (x y : Option (LinkNode P)) → RedirectsIn slots x y → pairs_in_node y ≡ pairs_in_node x
  pairs_in-redirected None y r = ap pairs_in_node r
  pairs_in-redirected (Some n) y (m, is, inl r) = ap pairs_in_node is ∙ ap (λ (x : LinkNode P). pairs_in_links x.links) r.1
  pairs_in-redirected (Some n) y (m, is, inr r) = ap pairs_in_node is ∙ ap (λ (x : LinkNode P). pairs_in_links x.links) r.1 ∙ pairs-redirected n.links

  pub pairs-all_redirected : (t u : LinkTable P) → RedirectsEach slots t u → pairs_in_table u ≡ pairs_in_table t
  pairs-all_redirected [] [] h = refl
  pairs-all_redirected [] (y ∷ u) h =
      let a : pairs_in_node y ≡ 0 = ap pairs_in_node (h 0) in
      let r = pairs-all_redirected [] u (λ k. h (suc k)) in omega (arith, a, r)
  pairs-all_redirected (x ∷ t) [] h =
      let a : 0 ≡ pairs_in_node x = pairs_in-redirected x None (h 0) in
      let r = pairs-all_redirected t [] (λ k. h (suc k)) in omega (arith, a, r)
  pairs-all_redirected (x ∷ t) (y ∷ u) h =
      let a = pairs_in-redirected x y (h 0) in
      let r = pairs-all_redirected t u (λ k. h (suc k)) in omega (arith, a, r)

  module _ (t g u : LinkTable P) (goes : GoesAllOver slots t g) (redirects : RedirectsEach slots g u) where
    -- what a node has become
    record Became (i : ℕ) (n : LinkNode P) : Type 0 where
      node : LinkNode P
      here : link_at u (to slots i) ≡ Some node
      is : Redirects slots n node

    became : (i : ℕ) (n : LinkNode P) → link_at t i ≡ Some n → Became i n
    became i n here =
        let r : RedirectsIn slots (Some n) (link_at u (to slots i)) = subst (λ x. RedirectsIn slots x (link_at u (to slots i))) (goes i n here) (redirects (to slots i)) in
        record { node = r.0; here = r.1; is = r.2 }

    slot_alike : (i : ℕ) (n : LinkNode P) → link_at t i ≡ Some n → IsSound (seen_node i n) → (length n.prefix ≡ 7 → ArePayloads (seen_links i n.links)) → HasAlike (Goes slots) (seen_table u) (name_of (to slots i)) (seen_node i n)
    slot_alike i n here sound leaf = at (became i n here)
      where
        at : Became i n → HasAlike (Goes slots) (seen_table u) (name_of (to slots i)) (seen_node i n)
        at b = elim b.is [
          | inl r ↦ record {
            children = seen_links (to slots i) n.links;
            here = at_slot u (to slots i) b.node b.here ∙ ap (λ x. Some (seen_node (to slots i) x)) r.1;
            alike = alike_payloads i (to slots i) 0 n.links (leaf r.0);
          }
          | inr r ↦ record {
            children = seen_links (to slots i) (mapped (redirected slots) n.links);
            here = at_slot u (to slots i) b.node b.here ∙ ap (λ x. Some (seen_node (to slots i) x)) r.1;
            alike = alike_links i 0 n.links sound.ordered;
          }
        ]

    -- each node that is seen has one like it
    pair_alike : (i b : ℕ) (l : TableNode P) → b < bytes → pair_in (link_at t i) b ≡ Some l → HasAlike (Goes slots) (seen_table u) (name_under (to slots i) b) l
    pair_alike i b l inside h = at (link_at t i) refl
      where
        leaf : (n : LinkNode P) (c : Option (Link P)) → pair_at n.prefix b c ≡ Some l → AreAlike (Goes slots) l.children l.children
        leaf n None e = absurd (cc)
        leaf n (Some (Payload v)) e = absurd (cc)
        leaf n (Some (Slot j)) e = absurd (cc)
        leaf n (Some (Pair rest v)) e =
            let is : leaf_of (key_under n.prefix b rest) v ≡ l = cc in
            subst (λ (x : TableNode P). AreAlike (Goes slots) x.children x.children) is (record { child = children.Payload v; others = []; is = refl; alike = refl; rest = refl })

        at : (x : Option (LinkNode P)) → link_at t i ≡ x → HasAlike (Goes slots) (seen_table u) (name_under (to slots i) b) l
        at None e = absurd (let clash : ◌≡◌ {A = Option (TableNode P)} None (Some l) = sym (ap (λ x. pair_in x b) e) ∙ h in cc)
        at (Some n) e =
            let x = became i n e in
            let found : pair_in (Some n) b ≡ Some l = sym (ap (λ x. pair_in x b) e) ∙ h in
            record {
              children = l.children;
              here = seen_under u (to slots i) b inside ∙ ap (λ y. pair_in y b) x.here ∙ pair_stays n x.node b x.is ∙ found;
              alike = leaf n (lookup n.links b) found;
            }

    alike_node : (j k : ℕ) (n : TableNode P) → Goes slots j k → node_at (seen_table t) j ≡ Some n → IsSound n → (length n.prefix ≡ 7 → ArePayloads n.children) → HasAlike (Goes slots) (seen_table u) k n
    alike_node j k n (inl g) here sound leaf =
        let x = slot_at t g.slot n (subst (λ o. node_at (seen_table t) o ≡ Some n) g.from here) in
        subst (λ o. HasAlike (Goes slots) (seen_table u) o n) (sym g.into)
        (subst (λ m. HasAlike (Goes slots) (seen_table u) (name_of (to slots g.slot)) m) (sym x.is)
        (slot_alike g.slot x.node x.here (subst IsSound x.is sound) (subst (λ (m : TableNode P). length m.prefix ≡ 7 → ArePayloads m.children) x.is leaf)))
    alike_node j k n (inr g) here sound leaf =
        subst (λ o. HasAlike (Goes slots) (seen_table u) o n) (sym g.into)
        (pair_alike g.slot g.byte n g.inside (sym (seen_under t g.slot g.byte g.inside) ∙ subst (λ o. node_at (seen_table t) o ≡ Some n) g.from here))

    -- THE TREE IS THE SAME
    pub moves_tree : (root : ℕ) → HasTree (seen_table t) (name_of root) → MovesTree (seen_table t) (seen_table u) (name_of root) (name_of (to slots root))
    moves_tree root h =
        let x = alike_tree (Goes slots) (seen_table t) (seen_table u) alike_node depth [] (name_of root) (name_of (to slots root)) (inl (record { slot = root; from = refl; into = refl })) h in
        record { tree = x.tree; pairs = x.pairs; nodes = x.nodes }
