-- What is under the bytes of a node with links, as the children that are seen, and a pair as the leaf that it is seen as.
use Rattle.std.proofs.Common.{◌≡◌, ℕ, suc, ◌+◌, ◌<◌, ◌≤◌, List, [], ◌∷◌, length, Some, None, option_map, refl, ap, sym, subst, ◌∙◌, arith, inl, inr}
use Rattle.std.proofs.lemmas.Bool.{lt-ltb, le-ltb, lt-leb, le-leb, eq-eqb, ne_eqb, cases_lt}
use Rattle.spec_map.specs.Map.{Pairs, lookup, between, Rises}
use Rattle.spec_map.specs.Near.{last_of, below_of}
use Rattle.spec_map.proofs.MapLaws.{lookup-between_inside}
use Rattle.spec_map.proofs.RangeLaws.{between-next, between-within}
use Rattle.spec_map.proofs.NearLaws.{greatest_between, stored_between}
use Rattle.spec_node.specs.Key.{key_number}
use Rattle.node_table.specs.Table.{NodeTable, node_at, pairs_at, IsSubtree}
use Rattle.node_table.specs.inner.Kinds.{mapped}
use Rattle.spec_node.specs.declared.child.Child.TheVariants as children
use Rattle.tree_links.specs.LinkNode.{LinkNode}
use Rattle.tree_links.specs.Places.{as_links}
use Rattle.tree_links.specs.declared.place.Place.{Place}
use Rattle.tree_links.specs.SeenTable.{name_under, key_under, leaf_of, seen_link, seen_links, pair_at, pair_in}
use Rattle.tree_links.specs.declared.link.Link.{Link}
use Rattle.tree_links.specs.declared.link.Link.TheVariants.{Pair}
use Rattle.tree_links.proofs.KeyLaws.{eight, key_long}
use Rattle.tree_walk.specs.inner.Scan.{KeysFit}

module _ {P : Type 0} (i : ℕ) where
  pub between-seen : (es : List (ℕ × Link P)) (a b : ℕ) → between (seen_links i es) a b ≡ seen_links i (between es a b)
  between-seen [] a b = refl
  between-seen (e ∷ es) a b = elim (cases_lt e.0 a) [
    | inl less ↦ rw (lt-leb a e.0 less) (between-seen es a b)
    | inr from ↦ elim (cases_lt e.0 b) [
      | inl to ↦ rw (le-leb a e.0 from, lt-ltb e.0 b to) (ap (λ t. (e.0, seen_link i e.0 e.1) ∷ t) (between-seen es a b))
      | inr past ↦ rw (le-leb a e.0 from, le-ltb e.0 b past) (between-seen es a b)
    ]
  ]

  pub rises_seen : (a b : ℕ) (es : List (ℕ × Link P)) → Rises a b es → Rises a b (seen_links i es)
  rises_seen a b [] h = h
  rises_seen a b (e ∷ es) h = (h.0, h.1, rises_seen (e.0 + 1) b es h.2)

  -- the first from a byte on, or none
  pub next_seen : (es : List (ℕ × Link P)) (from byte : ℕ) (c : Link P) → between es from 256 ≡ (byte, c) ∷ between es (byte + 1) 256
      → between (seen_links i es) from 256 ≡ (byte, seen_link i byte c) ∷ between (seen_links i es) (byte + 1) 256
  next_seen es from byte c is =
      between-seen es from 256 ∙ ap (λ t. seen_links i t) is ∙ ap (λ t. (byte, seen_link i byte c) ∷ t) (sym (between-seen es (byte + 1) 256))

  pub none_seen : (es : List (ℕ × Link P)) (from to : ℕ) → between es from to ≡ [] → between (seen_links i es) from to ≡ []
  none_seen es from to is = between-seen es from to ∙ ap (λ t. seen_links i t) is

  -- the last below a byte, or none
  last_of-seen : (es : List (ℕ × Link P)) → last_of (seen_links i es) ≡ option_map (λ p. (p.0, seen_link i p.0 p.1)) (last_of es)
  last_of-seen [] = refl
  last_of-seen (e ∷ []) = refl
  last_of-seen (e ∷ d ∷ es) = last_of-seen (d ∷ es)

  below_of-seen : (es : List (ℕ × Link P)) (to : ℕ) → below_of (seen_links i es) to ≡ option_map (λ p. (p.0, seen_link i p.0 p.1)) (below_of es to)
  below_of-seen es to = ap (λ ds. last_of ds) (between-seen es 0 to) ∙ last_of-seen (between es 0 to)

  pub last_seen : (es : List (ℕ × Link P)) (to byte : ℕ) (c : Link P) → Some (byte, c) ≡ below_of es to → Some (byte, seen_link i byte c) ≡ below_of (seen_links i es) to
  last_seen es to byte c is = ap (λ o. option_map (λ p. (p.0, seen_link i p.0 p.1)) o) is ∙ sym (below_of-seen es to)

  pub no_last_seen : (es : List (ℕ × Link P)) (to : ℕ) → None ≡ below_of es to → None ≡ below_of (seen_links i es) to
  no_last_seen es to is = ap (λ o. option_map (λ p. (p.0, seen_link i p.0 p.1)) o) is ∙ sym (below_of-seen es to)

module _ {C : Type 0} (es : List (ℕ × C)) where
  pub record Stored (b : ℕ) (c : C) : Type 0 where
    pub inside : b < 256
    pub found : lookup es b ≡ Some c

  -- each of these is one of the node's
  abbrev pub AreStored : List (ℕ × C) → Type 0
  AreStored [] = Unit {0}
  AreStored (e ∷ left) = Stored e.0 e.1 × AreStored left

module _ {C : Type 0} (es : List (ℕ × C)) (ascending : Rises 0 256 es) where
  pub stored_next : (from b : ℕ) (c : C) (rest : List (ℕ × C)) → between es from 256 ≡ (b, c) ∷ rest → Stored es b c
  stored_next from b c rest is =
      let n = between-next 0 256 from 256 es (b, c) rest ascending (omega arith) is in
      let here : lookup (between es from 256) b ≡ Some c = ap (λ t. lookup t b) is ∙ rw (eq-eqb b b refl) refl in
      record { inside = n.inside; found = sym (lookup-between_inside es from 256 b n.order n.inside) ∙ here }

  pub stored_last : (to b : ℕ) (c : C) → to ≤ 256 → Some (b, c) ≡ below_of es to → Stored es b c
  stored_last to b c within is =
      let l = greatest_between 0 to 0 256 es (b, c) ascending (sym is) in
      record { inside = omega (arith, l.to, within); found = stored_between 0 to es (b, c) (omega arith) l.to l.stored }

-- THE LEAF OF A PAIR has that pair alone
pub pairs_alone : {P : Type 0} (s : NodeTable P) (slot : ℕ) (key : List ℕ) (v : P) → node_at s slot ≡ Some (leaf_of key v) → length key ≡ 8 → (l : ℕ) → pairs_at s (suc l) slot ≡ (key_number key, v) ∷ []
pairs_alone s slot key v here full l = rw here (ap (λ k. (key_number k, v) ∷ []) (sym (eight key full)))

-- the node in a slot, and its pairs
module _ {P : Type 0} (s : NodeTable P) (i : ℕ) (n : LinkNode P) (pairs : (b : ℕ) → b < 256 → pair_in (Some n) b ≡ node_at s (name_under i b)) (ascending : Rises 0 256 n.links) where
  module _ (b : ℕ) (rest : List ℕ) (v : P) (at : Stored n.links b (Pair rest v)) where
    pub pair_leaf : node_at s (name_under i b) ≡ Some (leaf_of (key_under n.prefix b rest) v)
    pair_leaf = sym (pairs b at.inside) ∙ ap (pair_at n.prefix b) at.found

    -- what is true of the pair alone is true of the subtree
    pub each_pair : (Fact : Pairs P → Type 0) (q : List ℕ) → q ≡ n.prefix → (number : ℕ) → number ≡ key_number (key_under q b rest) → length rest ≡ 7 → Fact ((number, v) ∷ []) → (l : ℕ) → IsSubtree s (suc l) (name_under i b) → Fact (pairs_at s (suc l) (name_under i b))
    each_pair Fact q same number is long fact l tree =
        subst Fact (ap (λ k. (k, v) ∷ []) (is ∙ ap (λ p. key_number (key_under p b rest)) same) ∙ sym (pairs_alone s (name_under i b) (key_under n.prefix b rest) v pair_leaf (key_long n.prefix b rest long) l)) fact

    -- and needs room for one
    pub pair_room : length rest ≡ 7 → (taken capacity : ℕ) → KeysFit s (name_under i b) taken capacity → taken + 1 ≤ capacity
    pair_room long taken capacity fit =
        let one = ap length (pairs_alone s (name_under i b) (key_under n.prefix b rest) v pair_leaf (key_long n.prefix b rest long) fit.levels) in
        omega (arith, fit.fits, one)

-- what is left of a node's places, or of its payloads
abbrev pub left_places : {P : Type 0} → List (ℕ × Place P) → List (ℕ × Link P)
left_places es = as_links (mapped (λ c. children.Node c) es)

pub payloads_seen : {P : Type 0} (i : ℕ) (es : List (ℕ × P)) → seen_links i (as_links (mapped (λ v. children.Payload v) es)) ≡ mapped (λ v. children.Payload v) es
payloads_seen i [] = refl
payloads_seen i (e ∷ es) = ap (λ t. (e.0, children.Payload e.1) ∷ t) (payloads_seen i es)

module _ {C : Type 0} (es : List (ℕ × C)) (ascending : Rises 0 256 es) where
  all_stored : (left : List (ℕ × C)) (from to : ℕ) → to ≤ 256 → Rises from to left → ((k : ℕ) → from ≤ k → k < to → lookup left k ≡ lookup es k) → AreStored es left
  all_stored [] from to within h same = tt
  all_stored ((b, c) ∷ left) from to within h same = (
    record { inside = omega (arith, h.1, within); found = sym (same b h.0 h.1) ∙ rw (eq-eqb b b refl) refl },
    all_stored left (b + 1) to within h.2 (λ k at_least less. rw (ne_eqb b k (omega (arith, at_least))) at (same k (omega (arith, at_least, h.0)) less)),
  )

  pub stored_between_all : (left : List (ℕ × C)) (from to : ℕ) → to ≤ 256 → left ≡ between es from to → AreStored es left
  stored_between_all left from to within is =
      subst (λ t. AreStored es t) (sym is) (all_stored (between es from to) from to within (between-within 0 256 from to es ascending) (λ k at_least less. lookup-between_inside es from to k at_least less))
