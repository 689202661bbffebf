-- What is seen at each place of a table of links.
use Rattle.std.proofs.Common.{◌≡◌, ◌≢◌, ℕ, zero, suc, ◌+◌, ◌*◌, ◌/◌, ◌%◌, ◌<◌, List, [], ◌∷◌, ◌++◌, length, get_or, Option, Some, None, refl, ap, sym, subst, ◌∙◌, arith, inl, inr}
use Rattle.std.proofs.Math.Nat.{div-add-mod, mod-lt}
use Rattle.std.proofs.lemmas.Bool.{le-ltb, lt-ltb, eq-eqb, ne_eqb, cases_order, cases_eq}
use Rattle.std.proofs.lemmas.List.{get_or-append-add, get_or_append_left}
use Rattle.std.specs.Option.{option_map}
use Rattle.spec_map.specs.Map.{lookup, put, without}
use Rattle.spec_map.proofs.MapLaws.{lookup-put_other, lookup-without_other}
use Rattle.spec_node.specs.TableNode.{TableNode, Child}
use Rattle.node_table.specs.Table.{NodeTable, node_at}
use Rattle.spec_node.specs.declared.child.Child.TheVariants as children
use Rattle.tree_links.specs.LinkNode.{LinkNode, with_link, without_link}
use Rattle.tree_links.specs.SeenTable.{LinkTable, links_of, bytes, width, name_of, name_under, key_under, link_at, leaf_of, seen_link, seen_links, seen_node, pair_at, pair_in, pairs_from, seen_from, seen_table}
use Rattle.tree_links.specs.declared.link.Link.{Link}
use Rattle.tree_links.specs.declared.link.Link.TheVariants.{Payload, Slot, Pair}

-- a slab's slots, each node as what it has
pub at_links_of : {N P : Type 0} (f : N → LinkNode P) (s : List (Option N)) (i : ℕ) → link_at (links_of f s) i ≡ option_map f (get_or s i None)
at_links_of f [] i = refl
at_links_of f (x ∷ s) zero = refl
at_links_of f (x ∷ s) (suc i) = at_links_of f s i

-- each place is that of a slot, or of a byte of its node
pub record Name (o : ℕ) : Type 0 where
  pub slot : ℕ
  pub at : ℕ
  pub inside : at < width
  pub is : o ≡ slot * width + at

pub name : (o : ℕ) → Name o
name o = record { slot = o / width; at = o % width; inside = mod-lt o (omega arith); is = sym (div-add-mod o width) ∙ omega arith }

pub byte_inside : (b : ℕ) → b < 256 → b < bytes
unfolding bytes
byte_inside b less = less

-- different slots have different names, which aren't those of pairs
pub one_slot : (i j : ℕ) → name_of i ≡ name_of j → i ≡ j
unfolding bytes
one_slot i j e = omega arith

pub no_pair : (i j b : ℕ) → b < bytes → name_of j ≡ name_under i b → ⊥
unfolding bytes
no_pair i j b less e = omega arith

module _ {P : Type 0} where
  length-pairs_from : (x : Option (LinkNode P)) (b k : ℕ) → length (pairs_from x b k) ≡ k
  length-pairs_from x b zero = refl
  length-pairs_from x b (suc k) = ap suc (length-pairs_from x (b + 1) k)

  at-pairs_from : (x : Option (LinkNode P)) (b k c : ℕ) → c < k → node_at (pairs_from x b k) c ≡ pair_in x (b + c)
  at-pairs_from x b zero c less = absurd (omega (arith, less))
  at-pairs_from x b (suc k) zero less = ap (λ y. pair_in x y) (omega arith)
  at-pairs_from x b (suc k) (suc c) less = at-pairs_from x (b + 1) k c (omega (arith, less)) ∙ ap (λ y. pair_in x y) (omega arith)

  -- the places of one slot
  abbrev block : ℕ → Option (LinkNode P) → NodeTable P
  block i x = option_map (λ n. seen_node i n) x ∷ pairs_from x 0 bytes

  length-block : (i : ℕ) (x : Option (LinkNode P)) → length (block i x) ≡ width
  length-block i x = ap suc (length-pairs_from x 0 bytes)

  -- what is seen for a slot alone, or for it and a byte
  abbrev pub seen_in : ℕ → Option (LinkNode P) → ℕ → Option (TableNode P)
  seen_in i x zero = option_map (λ n. seen_node i n) x
  seen_in i x (suc b) = pair_in x b

  at_block : (i : ℕ) (x : Option (LinkNode P)) (o : ℕ) → o < width → node_at (block i x) o ≡ seen_in i x o
  at_block i x zero less = refl
  at_block i x (suc b) less = at-pairs_from x 0 bytes b (omega (arith, less)) ∙ ap (λ y. pair_in x y) (omega arith)

  -- THE VIEW, slot by slot
  seen_at_from : (t : LinkTable P) (i k o : ℕ) → o < width → node_at (seen_from i t) (k * width + o) ≡ seen_in (i + k) (link_at t k) o
  seen_at_from [] i k zero less = refl
  seen_at_from [] i k (suc b) less = refl
  seen_at_from (x ∷ t) i zero o less =
      let here : zero * width + o ≡ o = omega arith in
      let first : i ≡ i + zero = omega arith in
      ap (λ y. node_at (block i x ++ seen_from (i + 1) t) y) here
      ∙ get_or_append_left (block i x) (seen_from (i + 1) t) None o (subst (λ w. o < w) (sym (length-block i x)) less) ∙ at_block i x o less ∙ ap (λ y. seen_in y x o) first
  seen_at_from (x ∷ t) i (suc k) o less =
      let far : suc k * width + o ≡ length (block i x) + (k * width + o) = omega (arith, length-block i x) in
      ap (λ y. node_at (block i x ++ seen_from (i + 1) t) y) far
      ∙ get_or-append-add (block i x) (seen_from (i + 1) t) (k * width + o) None
      ∙ seen_at_from t (i + 1) k o less
      ∙ ap (λ y. seen_in y (link_at t k) o) (omega arith)

  pub seen_at : (t : LinkTable P) (k o : ℕ) → o < width → node_at (seen_table t) (k * width + o) ≡ seen_in k (link_at t k) o
  seen_at t k o less = seen_at_from t 0 k o less ∙ ap (λ y. seen_in y (link_at t k) o) (omega arith)

  pub seen_slot : (t : LinkTable P) (k : ℕ) → node_at (seen_table t) (name_of k) ≡ option_map (λ n. seen_node k n) (link_at t k)
  seen_slot t k = ap (λ y. node_at (seen_table t) y) (omega arith) ∙ seen_at t k 0 (omega arith)

  pub seen_under : (t : LinkTable P) (k b : ℕ) → b < bytes → node_at (seen_table t) (name_under k b) ≡ pair_in (link_at t k) b
  seen_under t k b less = seen_at t k (suc b) (omega (arith, less))

  -- the links of a node, byte by byte
  pub lookup-seen : (i : ℕ) (es : List (ℕ × Link P)) (b : ℕ) → lookup (seen_links i es) b ≡ option_map (λ c. seen_link i b c) (lookup es b)
  lookup-seen i [] b = refl
  lookup-seen i (e ∷ es) b =
      elim (cases_eq e.0 b) [
        | inl same ↦ rw (eq-eqb e.0 b same) (ap (λ x. Some (seen_link i x e.1)) same)
        | inr other ↦ rw (ne_eqb e.0 b other) (lookup-seen i es b)
      ]

  pub put-seen : (i : ℕ) (es : List (ℕ × Link P)) (b : ℕ) (c : Link P) → seen_links i (put es b c) ≡ put (seen_links i es) b (seen_link i b c)
  put-seen i [] b c = refl
  put-seen i (e ∷ es) b c =
      elim (cases_order e.0 b) [
        | inl same ↦ rw (le-ltb e.0 b (omega arith), eq-eqb e.0 b same) refl
        | inr (inl less) ↦ rw (lt-ltb e.0 b less) (ap (λ x. (e.0, seen_link i e.0 e.1) ∷ x) (put-seen i es b c))
        | inr (inr more) ↦ rw (le-ltb e.0 b (omega arith), ne_eqb e.0 b (omega arith)) refl
      ]

  pub without-seen : (i : ℕ) (es : List (ℕ × Link P)) (b : ℕ) → seen_links i (without es b) ≡ without (seen_links i es) b
  without-seen i [] b = refl
  without-seen i (e ∷ es) b =
      elim (cases_eq e.0 b) [
        | inl same ↦ rw (eq-eqb e.0 b same) refl
        | inr other ↦ rw (ne_eqb e.0 b other) (ap (λ x. (e.0, seen_link i e.0 e.1) ∷ x) (without-seen i es b))
      ]

  pub length-seen : (i : ℕ) (es : List (ℕ × Link P)) → length (seen_links i es) ≡ length es
  length-seen i [] = refl
  length-seen i (e ∷ es) = ap suc (length-seen i es)

  -- WHAT IS SEEN IS THERE: a node in a slot
  pub record SlotAt (t : LinkTable P) (i : ℕ) (m : TableNode P) : Type 0 where
    pub node : LinkNode P
    pub here : link_at t i ≡ Some node
    pub is : m ≡ seen_node i node

  pub slot_at : (t : LinkTable P) (i : ℕ) (m : TableNode P) → node_at (seen_table t) (name_of i) ≡ Some m → SlotAt t i m
  slot_at t i m h = at (link_at t i) refl
    where
      at : (x : Option (LinkNode P)) → link_at t i ≡ x → SlotAt t i m
      at None e = absurd (let clash : ◌≡◌ {A = Option (TableNode P)} None (Some m) = sym (seen_slot t i ∙ ap (option_map (λ n. seen_node i n)) e) ∙ h in cc)
      at (Some n) e =
          let both : Some (seen_node i n) ≡ Some m = sym (seen_slot t i ∙ ap (option_map (λ n. seen_node i n)) e) ∙ h in
          let is : m ≡ seen_node i n = cc in
          record { node = n; here = e; is = is }

  pub at_slot : (t : LinkTable P) (i : ℕ) (n : LinkNode P) → link_at t i ≡ Some n → node_at (seen_table t) (name_of i) ≡ Some (seen_node i n)
  at_slot t i n h = seen_slot t i ∙ ap (option_map (λ n. seen_node i n)) h

  -- a pair under a byte of it
  pub record PairUnder (i b : ℕ) (es : List (ℕ × Link P)) : Type 0 where
    pub rest : List ℕ
    pub payload : P
    pub found : lookup es b ≡ Some (Pair rest payload)

  pub pair_under : (i b : ℕ) (es : List (ℕ × Link P)) → b < bytes → lookup (seen_links i es) b ≡ Some (children.Node (name_under i b)) → PairUnder i b es
  pair_under i b es less h = at (lookup es b) refl
    where
      seen : (x : Option (Link P)) → lookup es b ≡ x → option_map (λ c. seen_link i b c) x ≡ Some (children.Node (name_under i b))
      seen x e = ap (option_map (λ c. seen_link i b c)) (sym e) ∙ sym (lookup-seen i es b) ∙ h

      at : (x : Option (Link P)) → lookup es b ≡ x → PairUnder i b es
      at None e = absurd (let clash : ◌≡◌ {A = Option (Child P)} None (Some (children.Node (name_under i b))) = seen None e in cc)
      at (Some (Payload v)) e = absurd (let clash : ◌≡◌ {A = Option (Child P)} (Some (children.Payload v)) (Some (children.Node (name_under i b))) = seen (Some (Payload v)) e in cc)
      at (Some (Slot j)) e =
          let both : ◌≡◌ {A = Option (Child P)} (Some (children.Node (name_of j))) (Some (children.Node (name_under i b))) = seen (Some (Slot j)) e in
          let same : name_of j ≡ name_under i b = cc in
          absurd (no_pair i j b less same)
      at (Some (Pair rest v)) e = record { rest = rest; payload = v; found = e }

  -- the slot of a node below
  pub slot_under : (i b j : ℕ) (es : List (ℕ × Link P)) → b < bytes → lookup (seen_links i es) b ≡ Some (children.Node (name_of j)) → lookup es b ≡ Some (Slot j)
  slot_under i b j es less h = at (lookup es b) refl
    where
      seen : (x : Option (Link P)) → lookup es b ≡ x → option_map (λ c. seen_link i b c) x ≡ Some (children.Node (name_of j))
      seen x e = ap (option_map (λ c. seen_link i b c)) (sym e) ∙ sym (lookup-seen i es b) ∙ h

      at : (x : Option (Link P)) → lookup es b ≡ x → lookup es b ≡ Some (Slot j)
      at None e = absurd (let clash : ◌≡◌ {A = Option (Child P)} None (Some (children.Node (name_of j))) = seen None e in cc)
      at (Some (Payload v)) e = absurd (let clash : ◌≡◌ {A = Option (Child P)} (Some (children.Payload v)) (Some (children.Node (name_of j))) = seen (Some (Payload v)) e in cc)
      at (Some (Slot k)) e =
          let both : ◌≡◌ {A = Option (Child P)} (Some (children.Node (name_of k))) (Some (children.Node (name_of j))) = seen (Some (Slot k)) e in
          let same : name_of k ≡ name_of j = cc in
          e ∙ ap (λ x. Some (Slot x)) (one_slot k j same)
      at (Some (Pair rest v)) e =
          let both : ◌≡◌ {A = Option (Child P)} (Some (children.Node (name_under i b))) (Some (children.Node (name_of j))) = seen (Some (Pair rest v)) e in
          let same : name_of j ≡ name_under i b = cc in
          absurd (no_pair i j b less same)

  -- nothing
  pub none_under : (i b : ℕ) (es : List (ℕ × Link P)) → lookup (seen_links i es) b ≡ None → lookup es b ≡ None
  none_under i b es h = at (lookup es b) refl
    where
      at : (x : Option (Link P)) → lookup es b ≡ x → lookup es b ≡ None
      at None e = e
      at (Some c) e = absurd (let clash : ◌≡◌ {A = Option (Child P)} (Some (seen_link i b c)) None = ap (option_map (λ c. seen_link i b c)) (sym e) ∙ sym (lookup-seen i es b) ∙ h in cc)

  -- the leaf of a pair
  pub leaf_under : (t : LinkTable P) (i b : ℕ) (n : LinkNode P) (rest : List ℕ) (v : P) → b < bytes → link_at t i ≡ Some n → lookup n.links b ≡ Some (Pair rest v)
      → node_at (seen_table t) (name_under i b) ≡ Some (leaf_of (key_under n.prefix b rest) v)
  leaf_under t i b n rest v less here found = seen_under t i b less ∙ ap (λ x. pair_in x b) here ∙ ap (pair_at n.prefix b) found

  -- WHAT STAYS: other bytes of a node with another link, or with one less
  pub seen-put : (i : ℕ) (n : LinkNode P) (b : ℕ) (c : Link P) (a : ℕ) → (a ≡ 0 → ⊥) → (a ≡ suc b → ⊥) → seen_in i (Some (with_link n b c)) a ≡ seen_in i (Some n) a
  seen-put i n b c zero far off = absurd (far refl)
  seen-put i n b c (suc d) far off = ap (pair_at n.prefix d) (lookup-put_other n.links b c d (λ e. off (ap suc e)))

  pub seen-without : (i : ℕ) (n : LinkNode P) (b : ℕ) (a : ℕ) → (a ≡ 0 → ⊥) → (a ≡ suc b → ⊥) → seen_in i (Some (without_link n b)) a ≡ seen_in i (Some n) a
  seen-without i n b zero far off = absurd (far refl)
  seen-without i n b (suc d) far off = ap (pair_at n.prefix d) (lookup-without_other n.links b d (λ e. off (ap suc e)))

  -- nothing is seen in an empty slot
  pub nothing_in : (i a : ℕ) (m : TableNode P) → seen_in i None a ≡ Some m → ⊥
  nothing_in i zero m h = let clash : ◌≡◌ {A = Option (TableNode P)} None (Some m) = h in cc
  nothing_in i (suc b) m h = let clash : ◌≡◌ {A = Option (TableNode P)} None (Some m) = h in cc

  -- a fact of each place is one of each slot and byte
  pub each_place : (t u : LinkTable P) (Off : ℕ → Type 0)
      → ((k a : ℕ) (m : TableNode P) → Off (k * width + a) → seen_in k (link_at t k) a ≡ Some m → seen_in k (link_at u k) a ≡ Some m)
      → (o : ℕ) (m : TableNode P) → Off o → node_at (seen_table t) o ≡ Some m → node_at (seen_table u) o ≡ Some m
  each_place t u Off stays o m off at =
      let x = name o in
      let seen : seen_in x.slot (link_at t x.slot) x.at ≡ Some m = sym (seen_at t x.slot x.at x.inside) ∙ ap (λ y. node_at (seen_table t) y) (sym x.is) ∙ at in
      ap (λ y. node_at (seen_table u) y) x.is ∙ seen_at u x.slot x.at x.inside ∙ stays x.slot x.at m (subst Off x.is off) seen

  -- where one slot changes
  pub keeps_one : (t u : LinkTable P) (i : ℕ) (Off : ℕ → Type 0) → ((k : ℕ) → k ≢ i → link_at u k ≡ link_at t k)
      → ((a : ℕ) (m : TableNode P) → Off (i * width + a) → seen_in i (link_at t i) a ≡ Some m → seen_in i (link_at u i) a ≡ Some m)
      → (o : ℕ) (m : TableNode P) → Off o → node_at (seen_table t) o ≡ Some m → node_at (seen_table u) o ≡ Some m
  keeps_one t u i Off others here = each_place t u Off stays
    where
      stays : (k a : ℕ) (m : TableNode P) → Off (k * width + a) → seen_in k (link_at t k) a ≡ Some m → seen_in k (link_at u k) a ≡ Some m
      stays k a m off seen =
          elim (cases_eq k i) [
            | inl same ↦ subst (λ z. seen_in z (link_at u z) a ≡ Some m) (sym same) (here a m (subst (λ z. Off (z * width + a)) same off) (subst (λ z. seen_in z (link_at t z) a ≡ Some m) same seen))
            | inr other ↦ ap (λ x. seen_in k x a) (others k other) ∙ seen
          ]

  -- where two slots change
  pub keeps_two : (t u : LinkTable P) (i j : ℕ) (Off : ℕ → Type 0) → ((k : ℕ) → k ≢ i → k ≢ j → link_at u k ≡ link_at t k)
      → ((a : ℕ) (m : TableNode P) → Off (i * width + a) → seen_in i (link_at t i) a ≡ Some m → seen_in i (link_at u i) a ≡ Some m)
      → ((a : ℕ) (m : TableNode P) → Off (j * width + a) → seen_in j (link_at t j) a ≡ Some m → seen_in j (link_at u j) a ≡ Some m)
      → (o : ℕ) (m : TableNode P) → Off o → node_at (seen_table t) o ≡ Some m → node_at (seen_table u) o ≡ Some m
  keeps_two t u i j Off others here there = each_place t u Off stays
    where
      stays : (k a : ℕ) (m : TableNode P) → Off (k * width + a) → seen_in k (link_at t k) a ≡ Some m → seen_in k (link_at u k) a ≡ Some m
      stays k a m off seen =
          elim (cases_eq k i) [
            | inl same ↦ subst (λ z. seen_in z (link_at u z) a ≡ Some m) (sym same) (here a m (subst (λ z. Off (z * width + a)) same off) (subst (λ z. seen_in z (link_at t z) a ≡ Some m) same seen))
            | inr other ↦ elim (cases_eq k j) [
              | inl new ↦ subst (λ z. seen_in z (link_at u z) a ≡ Some m) (sym new) (there a m (subst (λ z. Off (z * width + a)) new off) (subst (λ z. seen_in z (link_at t z) a ≡ Some m) new seen))
              | inr old ↦ ap (λ x. seen_in k x a) (others k other old) ∙ seen
            ]
          ]

  -- where nothing else is seen to change
  pub same_one : (t u : LinkTable P) (i : ℕ) (Off : ℕ → Type 0) → ((k : ℕ) → k ≢ i → link_at u k ≡ link_at t k)
      → ((a : ℕ) → Off (i * width + a) → seen_in i (link_at u i) a ≡ seen_in i (link_at t i) a)
      → (o : ℕ) → Off o → node_at (seen_table u) o ≡ node_at (seen_table t) o
  same_one t u i Off others here o off =
      let x = name o in
      ap (λ y. node_at (seen_table u) y) x.is ∙ seen_at u x.slot x.at x.inside
      ∙ stays x.slot x.at (subst Off x.is off)
      ∙ sym (seen_at t x.slot x.at x.inside) ∙ ap (λ y. node_at (seen_table t) y) (sym x.is)
    where
      stays : (k a : ℕ) → Off (k * width + a) → seen_in k (link_at u k) a ≡ seen_in k (link_at t k) a
      stays k a off =
          elim (cases_eq k i) [
            | inl same ↦ subst (λ z. seen_in z (link_at u z) a ≡ seen_in z (link_at t z) a) (sym same) (here a (subst (λ z. Off (z * width + a)) same off))
            | inr other ↦ ap (λ x. seen_in k x a) (others k other)
          ]
