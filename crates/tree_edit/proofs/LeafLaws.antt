-- What the calls for one payload of a leaf do, as `tree_edit` states it.
use Rattle.std.proofs.Common.{◌≡◌, ℕ, ◌+◌, ◌<◌, List, [], ◌∷◌, length, get_or, Option, Some, None, Result, Ok, Err, IfOk, OnErr, refl, ap, sym, subst, ◌∙◌, arith, inl, inr}
use Rattle.spec_map.specs.Map.{lookup, put, without}
use Rattle.spec_map.specs.Refusal.{IsFullOrAbsent}
use Rattle.node_base.specs.Form.{Fits}
use Rattle.node_base.specs.declared.base_node.NodeType.{NodeType}
use Rattle.node_base.specs.declared.base_node.NodeType.TheVariants.{N4, N16, N48, N256}
use Rattle.spec_node.specs.TableNode.{TableNode, TableNodeOf}
use Rattle.node_table.specs.Table.{NodeTable, node_at}
use Rattle.spec_node.specs.declared.child.Child.TheVariants.{Payload, Node}
use Rattle.node_table.proofs.KindLaws.{length-mapped}
use Rattle.tree_path.specs.declared.descent.Stop.TheVariants as stops
use Rattle.tree_edit.specs.inner.Takes as takes_out
use Rattle.std.specs.Option.{option_map}
use Rattle.std.proofs.lemmas.Bool.{eq-eqb}
use Rattle.tree_edit.proofs.SpotLaws.{no_slot}
use Rattle.tree_edit.specs.inner.Writes.{HasLeafAt, IsStoredWhere, Sets, WritesChild}
use Rattle.tree_links.specs.LeafCalls.{SetsPayload, TakesPayload}
use Rattle.tree_links.specs.Places.{as_link, as_linked, as_links}
use Rattle.tree_links.specs.LinkNode.{LinkNode}
use Rattle.tree_links.specs.PairCalls.{HasBelow}
use Rattle.tree_links.specs.SeenTable.{leaf_of, name_of, name_under, seen_link, seen_node}
use Rattle.tree_links.specs.declared.link.Link.{Link}
use Rattle.tree_links.specs.declared.place.Place.{Place}
use Rattle.tree_links.proofs.SeenLaws.{byte_inside, length-seen, lookup-seen, pair_under, PairUnder}

module _ {P : Type 0} where
  -- what holds of one node at a place holds of the node there
  pub of_node : (s : NodeTable P) (i : ℕ) (F : TableNode P → Type 0) (m : TableNode P) → node_at s i ≡ Some m → F m → (n : TableNode P) → node_at s i ≡ Some n → F n
  of_node s i F m is f n here =
      let both : Some m ≡ Some n = sym is ∙ here in
      let same : m ≡ n = cc in
      subst F same f

  -- how many children are seen
  pub seen_count : (i : ℕ) (n : TableNodeOf P (Place P)) → length (seen_node i (as_linked n)).children ≡ length n.children
  seen_count i n = length-seen i (as_links n.children) ∙ length-mapped as_link n.children

  module _ (s t : NodeTable P) (i byte : ℕ) where
    written : (v : P) (before : Option P) → SetsPayload s t i byte v before → WritesChild s t i byte (Payload v)
    written v before x =
        of_node s i (λ n. (m : TableNode P) × (node_at t i ≡ Some m) × (m.prefix ≡ n.prefix) × (m.children ≡ put n.children byte (Payload v)) × (m.form ≡ n.form)) x.node x.here
        (record x.node { children = put x.node.children byte (Payload v) }, x.there, refl, refl, refl)

    pub sets : (v : P) (before : Option P) → SetsPayload s t i byte v before → Sets s t i (stops.Leaf byte) v before
    sets v None x = (
      of_node s i (λ n. lookup n.children byte ≡ None) x.node x.here x.was,
      of_node s i (λ n. Fits n.form (length n.children + 1)) x.node x.here (x.room refl),
      x.others,
      written v None x,
    )
    sets v (Some before) x = (of_node s i (λ n. lookup n.children byte ≡ Some (Payload before)) x.node x.here x.was, (x.others, written v (Some before) x))

    pub taken : (before : P) → TakesPayload s t i byte before → takes_out.TakesPayload s t i (stops.Leaf byte)
    taken before x = (
      x.others,
      of_node s i (λ n. (m : TableNode P) × (node_at t i ≡ Some m) × ((m.prefix ≡ n.prefix) × (m.children ≡ without n.children byte) × (m.form ≡ n.form))) x.node x.here
          (record x.node { children = without x.node.children byte }, x.there, (refl, refl, refl)),
    )

  pub sets_ok : (s t : NodeTable P) (i byte : ℕ) (v : P) {E : Type 0} (r : Result (Option P) E) → IfOk r (λ before. SetsPayload s t i byte v before) → IfOk r (λ before. Sets s t i (stops.Leaf byte) v before)
  sets_ok s t i byte v (Ok before) x = sets s t i byte v before x
  sets_ok s t i byte v (Err e) x = tt

  -- a node that is there
  pub record Here (s : NodeTable P) (i : ℕ) : Type 0 where
    pub node : TableNode P
    pub here : node_at s i ≡ Some node

  -- what is under a byte of a node in a slot
  module _ (s : NodeTable P) (i b : ℕ) (l : LinkNode P) (at : node_at s (name_of i) ≡ Some (seen_node i l)) where
    pub link_seen : (o : Option (Link P)) → lookup l.links b ≡ o → (n : TableNode P) → node_at s (name_of i) ≡ Some n → lookup n.children b ≡ option_map (λ c. seen_link i b c) o
    link_seen o found = of_node s (name_of i) (λ n. lookup n.children b ≡ option_map (λ c. seen_link i b c) o) (seen_node i l) at (lookup-seen i l.links b ∙ ap (option_map (λ c. seen_link i b c)) found)

    pub leaf_has_no : (h : HasLeafAt s (name_of i)) (j : ℕ) (c : Link P) → seen_link i b c ≡ Node j → lookup l.links b ≡ Some c → ⊥
    leaf_has_no h j c is found = no_slot s (name_of i) h (seen_node i l) (sym at) b j (link_seen (Some c) found (seen_node i l) at ∙ ap (λ d. Some d) is)

    pub pair_here : b < 256 → (h : HasBelow s (name_of i) b (name_under i b)) → PairUnder i b l.links
    pair_here less h = pair_under i b l.links (byte_inside b less) (of_node s (name_of i) (λ n. lookup n.children b ≡ Some (Node (name_under i b))) h.node h.here h.found (seen_node i l) at)

  -- the key's payload in a leaf of one pair
  pub pair_has : (s : NodeTable P) (leaf : ℕ) (key k : List ℕ) (v r : P) → node_at s leaf ≡ Some (leaf_of k v) → k ≡ key → v ≡ r → IsStoredWhere s leaf (stops.Leaf (get_or key 7 0)) r
  pair_has s leaf key k v r is same payload =
      of_node s leaf (λ n. lookup n.children (get_or key 7 0) ≡ Some (Payload r)) (leaf_of k v) is
      (rw (eq-eqb (get_or k 7 0) (get_or key 7 0) (ap (λ x. get_or x 7 0) same)) (ap (λ x. Some (Payload x)) payload))

pub err_of : {A E X : Type 0} (r : Result A E) → X → OnErr r X
err_of (Ok a) x = tt
err_of (Err e) x = x

-- a node with no room for one more has so many
pub full_count : (f : NodeType) (c : ℕ) → Fits f c → (Fits f (c + 1) → ⊥) → IsFullOrAbsent c
full_count N4 c within full = inr (inl (omega (arith, within, full)))
full_count N16 c within full = inr (inr (inl (omega (arith, within, full))))
full_count N48 c within full = inr (inr (inr (omega (arith, within, full))))
full_count N256 c within full = absurd (full tt)

pub empty_is : {X : Type 0} (es : List X) → length es ≡ 0 → es ≡ []
empty_is [] none = refl
empty_is (e ∷ es) none = absurd (omega (arith, none))
