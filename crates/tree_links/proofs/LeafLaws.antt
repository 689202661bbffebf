-- A leaf of one pair that has a slot.
use Rattle.std.proofs.Common.{◌≡◌, ◌≢◌, ℕ, ◌<◌, List, [], ◌∷◌, ◌++◌, length, take, drop, get_or, Option, Some, None, refl, ap, sym, ◌∙◌, arith, inl, inr}
use Rattle.std.proofs.lemmas.Bool.{eq-eqb, ne_eqb, cases_eq}
use Rattle.std.proofs.lemmas.List.{length-take}
use Rattle.node_base.specs.declared.base_node.NodeType.TheVariants.{N4}
use Rattle.spec_node.specs.Key.{Begins}
use Rattle.spec_node.specs.TableNode.{TableNode, Child}
use Rattle.node_table.specs.Table.{node_at}
use Rattle.spec_node.specs.declared.child.Child.TheVariants as children
use Rattle.tree_links.specs.LinkNode.{LinkNode}
use Rattle.tree_links.specs.SeenTable.{LinkTable, name_of, key_under, link_at, leaf_of, seen_link, seen_links, seen_node, pair_in, seen_table}
use Rattle.tree_links.specs.declared.link.Link.{Link}
use Rattle.tree_links.specs.declared.link.Link.TheVariants.{Payload, Slot, Pair}
use Rattle.tree_links.specs.inner.Slots.{HasOnePayload}
use Rattle.tree_links.proofs.KeyLaws.{eight, whole_key}
use Rattle.tree_links.proofs.SeenLaws.{at_slot}

abbrev pub leaf_alone : {P : Type 0} → List ℕ → P → LinkNode P
leaf_alone key v = record { form = N4; prefix = take 7 key; links = (get_or key 7 0, Payload v) ∷ [] }

-- it has no pairs in its children's places
pub none_in_leaf : {P : Type 0} (key : List ℕ) (v : P) (b : ℕ) → pair_in (Some (leaf_alone key v)) b ≡ None
none_in_leaf key v b =
    elim (cases_eq (get_or key 7 0) b) [
      | inl same ↦ rw (eq-eqb (get_or key 7 0) b same) refl
      | inr other ↦ rw (ne_eqb (get_or key 7 0) b other) refl
    ]

module _ {P : Type 0} where
  -- the byte and the child of the first
  abbrev first_byte : List (ℕ × Child P) → ℕ
  first_byte [] = 0
  first_byte (e ∷ es) = e.0

  abbrev first_child : List (ℕ × Child P) → Option (Child P)
  first_child [] = None
  first_child (e ∷ es) = Some e.1

  -- one payload is seen where there is one
  only_link : (i : ℕ) (es : List (ℕ × Link P)) (k : ℕ) (v : P) → seen_links i es ≡ (k, children.Payload v) ∷ [] → es ≡ (k, Payload v) ∷ []
  only_link i [] k v h = absurd (cc)
  only_link i (e ∷ []) k v h = at e.1 refl
    where
      byte : e.0 ≡ k
      byte = ap first_byte h

      at : (c : Link P) → e.1 ≡ c → e ∷ [] ≡ (k, Payload v) ∷ []
      at (Payload w) is =
          let both : ◌≡◌ {A = Option (Child P)} (Some (children.Payload w)) (Some (children.Payload v)) = ap (λ d. Some (seen_link i e.0 d)) (sym is) ∙ ap first_child h in
          let same : w ≡ v = cc in
          ap (λ x. (x, e.1) ∷ []) byte ∙ ap (λ x. (k, x) ∷ []) (is ∙ ap (λ y. Payload y) same)
      at (Slot j) is =
          absurd (let clash : ◌≡◌ {A = Option (Child P)} (Some (seen_link i e.0 (Slot j))) (Some (children.Payload v)) = ap (λ d. Some (seen_link i e.0 d)) (sym is) ∙ ap first_child h in cc)
      at (Pair rest w) is =
          absurd (let clash : ◌≡◌ {A = Option (Child P)} (Some (seen_link i e.0 (Pair rest w))) (Some (children.Payload v)) = ap (λ d. Some (seen_link i e.0 d)) (sym is) ∙ ap first_child h in cc)
  only_link i (e ∷ d ∷ es) k v h = absurd (cc)

  -- the leaf that is seen in a slot is there
  pub leaf_there : (t : LinkTable P) (i : ℕ) (n : LinkNode P) (key : List ℕ) (v : P) → link_at t i ≡ Some n → node_at (seen_table t) (name_of i) ≡ Some (leaf_of key v) → n ≡ leaf_alone key v
  leaf_there t i n key v here seen =
      let both : Some (seen_node i n) ≡ Some (leaf_of key v) = sym (at_slot t i n here) ∙ seen in
      let same : seen_node i n ≡ leaf_of key v = cc in
      let form : n.form ≡ N4 = ap (λ (m : TableNode P). m.form) same in
      let prefix : n.prefix ≡ take 7 key = ap (λ (m : TableNode P). m.prefix) same in
      let links : n.links ≡ (get_or key 7 0, Payload v) ∷ [] = only_link i n.links (get_or key 7 0) v (ap (λ (m : TableNode P). m.children) same) in
      ap (λ x. record { form = x; prefix = n.prefix; links = n.links }) form
      ∙ ap (λ x. record { form = N4; prefix = x; links = n.links }) prefix
      ∙ ap (λ x. record { form = N4; prefix = take 7 key; links = x }) links

  pub has_one : (n : LinkNode P) (key : List ℕ) (v : P) → n ≡ leaf_alone key v → HasOnePayload n
  has_one n key v is = record { byte = get_or key 7 0; payload = v; is = ap (λ (m : LinkNode P). m.links) is }

  pub seven_in : (n : LinkNode P) (key : List ℕ) (v : P) → length key ≡ 8 → n ≡ leaf_alone key v → length n.prefix ≡ 7
  seven_in n key v full is = ap (λ (m : LinkNode P). length m.prefix) is ∙ length-take 7 key ∙ omega (arith, full)

  -- an inner node isn't one
  pub leaf_apart : (t : LinkTable P) (i j : ℕ) (n m : LinkNode P) → link_at t i ≡ Some n → length n.prefix < 7 → link_at t j ≡ Some m → length m.prefix ≡ 7 → i ≢ j
  leaf_apart t i j n m here inner there seven e =
      let both : Some n ≡ Some m = sym here ∙ ap (λ k. link_at t k) e ∙ there in
      let same : n ≡ m = cc in
      let alike : length n.prefix ≡ length m.prefix = ap (λ (x : LinkNode P). length x.prefix) same in
      omega (arith, inner, seven, alike)

  -- the one payload that was taken out
  abbrev link_byte : List (ℕ × Link P) → ℕ
  link_byte [] = 0
  link_byte (e ∷ es) = e.0

  abbrev link_of : List (ℕ × Link P) → Option (Link P)
  link_of [] = None
  link_of (e ∷ es) = Some e.1

  pub one_byte_is : (n : LinkNode P) (key : List ℕ) (v : P) (x : ℕ) (w : P) → n ≡ leaf_alone key v → n.links ≡ (x, Payload w) ∷ [] → x ≡ get_or key 7 0
  one_byte_is n key v x w is links = ap link_byte (sym links ∙ ap (λ (m : LinkNode P). m.links) is)

  pub one_payload_is : (n : LinkNode P) (key : List ℕ) (v : P) (x : ℕ) (w : P) → n ≡ leaf_alone key v → n.links ≡ (x, Payload w) ∷ [] → w ≡ v
  one_payload_is n key v x w is links =
      let both : ◌≡◌ {A = Option (Link P)} (Some (Payload w)) (Some (Payload v)) = ap link_of (sym links ∙ ap (λ (m : LinkNode P). m.links) is) in cc

-- its key but the first byte
drop_first : (key : List ℕ) → length key ≡ 8 → drop 1 (take 7 key) ++ get_or key 7 0 ∷ [] ≡ drop 1 key
drop_first [] full = absurd (omega (arith, full))
drop_first (k ∷ ks) full = ap (drop 1) (sym (eight (k ∷ ks) full))

pub key_again : (p : List ℕ) (b : ℕ) (key first : List ℕ) (last : ℕ) → length key ≡ 8 → Begins (p ++ b ∷ []) key → first ≡ take 7 key → last ≡ get_or key 7 0 → key_under p b (drop 1 first ++ last ∷ []) ≡ key
key_again p b key first last full begins first_is last_is =
    ap (λ x. key_under p b (drop 1 x ++ last ∷ [])) first_is
    ∙ ap (λ x. key_under p b (drop 1 (take 7 key) ++ x ∷ [])) last_is
    ∙ ap (λ r. key_under p b r) (drop_first key full)
    ∙ whole_key p b key begins
