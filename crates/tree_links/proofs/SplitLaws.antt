-- A node above a pair, and above a node that stays in its slot, are seen as a split.
use Rattle.std.proofs.Common.{◌≡◌, ◌≢◌, ℕ, zero, suc, ◌+◌, ◌*◌, ◌<◌, ◌≤◌, ◌⊎◌, List, [], ◌∷◌, ◌++◌, length, take, drop, get_or, Option, Some, None, refl, ap, sym, subst, ◌∙◌, arith, inl, inr, append_assoc}
use Rattle.std.proofs.lemmas.Bool.{eq-eqb}
use Rattle.std.proofs.lemmas.List.{length-take}
use Rattle.std.specs.Option.{option_map}
use Rattle.spec_map.specs.Map.{put}
use Rattle.spec_map.proofs.MapLaws.{lookup-put_same, lookup-put_other}
use Rattle.node_base.specs.declared.base_node.NodeType.TheVariants.{N4}
use Rattle.spec_node.specs.Key.{Begins, IsFirstDifference}
use Rattle.spec_node.specs.TableNode.{TableNode}
use Rattle.node_table.specs.Table.{node_at}
use Rattle.node_table.proofs.BeginLaws.{begins_by}
use Rattle.node_table.proofs.KeyLaws.{split_at}
use Rattle.tree_links.specs.LinkNode.{LinkNode, with_link}
use Rattle.tree_links.specs.SeenTable.{LinkTable, bytes, width, name_of, name_under, key_under, link_at, leaf_of, seen_link, seen_node, pair_at, pair_in, seen_table}
use Rattle.tree_links.specs.SplitsChild.{IsParted, SplitsChild}
use Rattle.tree_links.specs.declared.link.Link.{Link}
use Rattle.tree_links.specs.declared.link.Link.TheVariants.{Slot, Pair}
use Rattle.tree_links.specs.inner.Slots.{SameSlots, ExchangesLink}
use Rattle.tree_links.proofs.KeyLaws.{key_long, whole_key, rest_of, key_first}
use Rattle.tree_links.proofs.CallLaws.{parted_is}
use Rattle.tree_links.proofs.SeenLaws.{seen_in, seen_slot, seen_under, at_slot, lookup-seen, put-seen, leaf_under, seen-put, nothing_in, keeps_two}

-- the bytes before a place, that one, and the rest
pub begins_at : (key : List ℕ) (at : ℕ) → at < length key → Begins (take at key ++ get_or key at 0 ∷ []) key
begins_at key at less = begins_by (take at key ++ get_or key at 0 ∷ []) (drop (suc at) key) key (split_at key at less ∙ sym (append_assoc (take at key) (get_or key at 0 ∷ []) (drop (suc at) key)))

take_within : (i j : ℕ) (xs : List ℕ) → i ≤ j → take i (take j xs) ≡ take i xs
take_within zero j xs less = refl
take_within (suc i) zero xs less = absurd (omega (arith, less))
take_within (suc i) (suc j) [] less = refl
take_within (suc i) (suc j) (x ∷ xs) less = ap (λ y. x ∷ y) (take_within i j xs (omega (arith, less)))

at_within : (i j : ℕ) (xs : List ℕ) → i < j → get_or (take j xs) i 0 ≡ get_or xs i 0
at_within i zero xs less = absurd (omega (arith, less))
at_within i (suc j) [] less = refl
at_within zero (suc j) (x ∷ xs) less = refl
at_within (suc i) (suc j) (x ∷ xs) less = at_within i j xs (omega (arith, less))

-- a key is at its own place below the bytes before one of its own
key_at : (key : List ℕ) (at : ℕ) → at < length key → key_under (take at key) (get_or key at 0) (drop 1 key) ≡ key
key_at key at less = whole_key (take at key) (get_or key at 0) key (begins_at key at less)

-- a node with two links, of different bytes
abbrev pub two_links : {P : Type 0} → List ℕ → ℕ → Link P → ℕ → Link P → LinkNode P
two_links prefix a c d e = record { form = N4; prefix = prefix; links = put ((a, c) ∷ []) d e }

module _ {P : Type 0} (t g u : LinkTable P) (p b k : ℕ) (before : Link P) (new : LinkNode P)
    (h : ExchangesLink t g p b before (Slot k)) (fresh : link_at g k ≡ None) (there : link_at u k ≡ Some new) (others : SameSlots g u k) where
  apart : k ≢ p
  apart e = let clash : ◌≡◌ {A = Option (LinkNode P)} None (Some (with_link h.node b (Slot k))) = sym fresh ∙ ap (λ o. link_at g o) e ∙ h.there in cc

  then_p : link_at u p ≡ Some (with_link h.node b (Slot k))
  then_p = others p (λ e. apart (sym e)) ∙ h.there

  was_none : link_at t k ≡ None
  was_none = sym (h.others k apart) ∙ fresh

  upper_free : node_at (seen_table t) (name_of k) ≡ None
  upper_free = seen_slot t k ∙ ap (option_map (λ n. seen_node k n)) was_none

  leaf_free : (c : ℕ) → c < bytes → node_at (seen_table t) (name_under k c) ≡ None
  leaf_free c inside = seen_under t k c inside ∙ ap (λ x. pair_in x c) was_none

  parent_then : node_at (seen_table u) (name_of p) ≡ Some (record (seen_node p h.node) { children = put (seen_node p h.node).children b (seen_link p b (Slot k)) })
  parent_then = at_slot u p (with_link h.node b (Slot k)) then_p ∙ ap (λ es. Some (record { form = h.node.form; prefix = h.node.prefix; children = es })) (put-seen p h.node.links b (Slot k))

  -- what else was seen
  keeps : (old : ℕ) → (pair_in (link_at t p) b ≡ None) ⊎ (old ≡ name_under p b) → (o : ℕ) (m : TableNode P) → o ≢ name_of p → o ≢ old → node_at (seen_table t) o ≡ Some m → node_at (seen_table u) o ≡ Some m
  keeps old either o m far off = keeps_two t u p k (λ o. (o ≢ name_of p) × (o ≢ old)) (λ i d e. others i e ∙ h.others i d) in_parent in_new o m (far, off)
    where
      in_parent : (a : ℕ) (m : TableNode P) → (p * width + a ≢ name_of p) × (p * width + a ≢ old) → seen_in p (link_at t p) a ≡ Some m → seen_in p (link_at u p) a ≡ Some m
      in_parent a m off seen =
          ap (λ x. seen_in p x a) then_p
          ∙ seen-put p h.node b (Slot k) a (λ z. off.0 (ap (λ y. p * width + y) z ∙ omega arith)) not_there
          ∙ sym (ap (λ x. seen_in p x a) h.here) ∙ seen
        where
          not_there : a ≡ suc b → ⊥
          not_there z =
              elim either [
                | inl none ↦
                    let some : pair_in (link_at t p) b ≡ Some m = subst (λ y. seen_in p (link_at t p) y ≡ Some m) z seen in
                    let clash : ◌≡◌ {A = Option (TableNode P)} None (Some m) = sym none ∙ some in cc
                | inr is ↦ off.1 (ap (λ y. p * width + y) z ∙ sym is)
              ]

      in_new : (a : ℕ) (m : TableNode P) → (k * width + a ≢ name_of p) × (k * width + a ≢ old) → seen_in k (link_at t k) a ≡ Some m → seen_in k (link_at u k) a ≡ Some m
      in_new a m off seen = absurd (nothing_in k a m (sym (ap (λ x. seen_in k x a) was_none) ∙ seen))

module _ {P : Type 0} (t g u : LinkTable P) (p b k : ℕ) (key : List ℕ) (at c : ℕ) (v : P) (inside : b < bytes) (c_inside : c < bytes) (full : length key ≡ 8) (c_is : c ≡ get_or key at 0) where
  new_pair : (at_key : at < 8) → key_under (take at key) c (drop 1 key) ≡ key
  new_pair less = ap (λ x. key_under (take at key) x (drop 1 key)) c_is ∙ key_at key at (omega (arith, less, full))

  -- ABOVE A PAIR, which goes into the new node
  pub split_pair : (rest : List ℕ) (w : P) (a : ℕ) → a < bytes → length rest ≡ 7 → (h : ExchangesLink t g p b (Pair rest w) (Slot k))
      → IsFirstDifference (take 7 (key_under h.node.prefix b rest)) key at → a ≡ get_or (take 7 (key_under h.node.prefix b rest)) at 0
      → link_at g k ≡ None → link_at u k ≡ Some (two_links (take at key) a (Pair rest w) c (Pair (drop 1 key) v)) → SameSlots g u k
      → SplitsChild (seen_table t) (seen_table u) (name_of p) b (name_under p b) (name_of k) key at v
  split_pair rest w a a_inside long h differs a_is fresh there others = record {
    node = seen_node p n;
    child = leaf_of other_key w;
    lower = name_under k a;
    leaf = name_under k c;
    here = at_slot t p n h.here;
    found = lookup-seen p n.links b ∙ ap (option_map (λ d. seen_link p b d)) h.found;
    was = leaf_under t p b n rest w inside h.here h.found;
    differs = differs;
    upper_free = upper_free t g u p b k (Pair rest w) new h fresh there others;
    leaf_free = leaf_free t g u p b k (Pair rest w) new h fresh there others c c_inside;
    there = parent_then t g u p b k (Pair rest w) new h fresh there others;
    upper_is = at_slot u k new there
        ∙ ap (λ es. Some (record { form = N4; prefix = take at key; children = es })) (put-seen k ((a, Pair rest w) ∷ []) c (Pair (drop 1 key) v)
        ∙ rw (a_is, c_is) refl);
    lower_is = leaf_under u k a new rest w a_inside there (lookup-put_other ((a, Pair rest w) ∷ []) c (Pair (drop 1 key) v) a apart_bytes ∙ rw (eq-eqb a a refl) refl) ∙ ap (λ y. Some (leaf_of y w)) same_key;
    leaf_is = leaf_under u k c new (drop 1 key) v c_inside there (lookup-put_same ((a, Pair rest w) ∷ []) c (Pair (drop 1 key) v)) ∙ ap (λ y. Some (leaf_of y v)) (new_pair (omega (arith, early)));
    keeps = keeps t g u p b k (Pair rest w) new h fresh there others (name_under p b) (inr refl);
  }
    where
      n : LinkNode P
      n = h.node

      new : LinkNode P
      new = two_links (take at key) a (Pair rest w) c (Pair (drop 1 key) v)

      other_key : List ℕ
      other_key = key_under n.prefix b rest

      long_key : length other_key ≡ 8
      long_key = key_long n.prefix b rest long

      early : at < 7
      early = omega (arith, differs.inside, length-take 7 other_key, long_key)

      apart_bytes : a ≢ c
      apart_bytes e = differs.differ (sym a_is ∙ e ∙ c_is)

      -- the old pair has its key still
      same_key : key_under (take at key) a rest ≡ other_key
      same_key =
          let a_there : a ≡ get_or other_key at 0 = a_is ∙ at_within at 7 other_key early in
          let front : take at key ≡ take at other_key = sym differs.same_before ∙ take_within at 7 other_key (omega (arith, early)) in
          ap (λ q. key_under q a rest) front
          ∙ ap (λ x. key_under (take at other_key) x rest) a_there
          ∙ ap (λ r. key_under (take at other_key) (get_or other_key at 0) r) (sym (rest_of n.prefix b rest))
          ∙ key_at other_key at (omega (arith, early, long_key))

  -- ABOVE A NODE, which stays in its slot
  pub split_above : (i : ℕ) (n : LinkNode P) (a : ℕ) → link_at t i ≡ Some n → i ≢ p → (h : ExchangesLink t g p b (Slot i) (Slot k))
      → IsFirstDifference n.prefix key at → length n.prefix ≤ 7 → a ≡ get_or n.prefix at 0
      → link_at g k ≡ None → link_at u k ≡ Some (two_links (take at key) a (Slot i) c (Pair (drop 1 key) v)) → SameSlots g u k
      → SplitsChild (seen_table t) (seen_table u) (name_of p) b (name_of i) (name_of k) key at v
  split_above i n a here_i other h differs short a_is fresh there others = record {
    node = seen_node p h.node;
    child = seen_node i n;
    lower = name_of i;
    leaf = name_under k c;
    here = at_slot t p h.node h.here;
    found = lookup-seen p h.node.links b ∙ ap (option_map (λ d. seen_link p b d)) h.found;
    was = at_slot t i n here_i;
    differs = differs;
    upper_free = upper_free t g u p b k (Slot i) new h fresh there others;
    leaf_free = leaf_free t g u p b k (Slot i) new h fresh there others c c_inside;
    there = parent_then t g u p b k (Slot i) new h fresh there others;
    upper_is = at_slot u k new there
        ∙ ap (λ es. Some (record { form = N4; prefix = take at key; children = es })) (put-seen k ((a, Slot i) ∷ []) c (Pair (drop 1 key) v)
        ∙ rw (a_is, c_is) refl);
    lower_is = at_slot u i n (others i i_k ∙ h.others i other ∙ here_i);
    leaf_is = leaf_under u k c new (drop 1 key) v c_inside there (lookup-put_same ((a, Slot i) ∷ []) c (Pair (drop 1 key) v)) ∙ ap (λ y. Some (leaf_of y v)) (new_pair (omega (arith, differs.inside, short)));
    keeps = keeps t g u p b k (Slot i) new h fresh there others (name_of i) (inl no_pair_there);
  }
    where
      new : LinkNode P
      new = two_links (take at key) a (Slot i) c (Pair (drop 1 key) v)

      i_k : i ≢ k
      i_k e = let clash : ◌≡◌ {A = Option (LinkNode P)} None (Some n) = sym (was_none t g u p b k (Slot i) new h fresh there others) ∙ ap (λ o. link_at t o) (sym e) ∙ here_i in cc

      no_pair_there : pair_in (link_at t p) b ≡ None
      no_pair_there = ap (λ x. pair_in x b) h.here ∙ ap (pair_at h.node.prefix b) h.found

-- the byte at which a pair's key differs, where the pair was
module _ {P : Type 0} (t m : LinkTable P) (i b j : ℕ) (key : List ℕ) (at : ℕ) (rest : List ℕ) (v : P) (inside : b < bytes) (x : ExchangesLink t m i b (Pair rest v) (Slot j)) (parted : IsParted (seen_table t) (name_under i b) key at) where
  pub pair_differs : IsFirstDifference (take 7 (key_under x.node.prefix b rest)) key at
  pair_differs = parted_is (seen_table t) (name_under i b) (leaf_of (key_under x.node.prefix b rest) v) key at (leaf_under t i b x.node rest v inside x.here x.found) parted

  pub pair_early : at < 7
  pair_early = let d = pair_differs in omega (arith, d.inside, length-take 7 (key_under x.node.prefix b rest))

  module _ (first : ℕ) (other : List ℕ) (first_is : (n : LinkNode P) → link_at t i ≡ Some n → key_under n.prefix b [] ≡ first ∷ []) (other_is : other ≡ first ∷ rest) where
    pub other_at : get_or other at 0 ≡ get_or (take 7 (key_under x.node.prefix b rest)) at 0
    other_at = ap (λ k. get_or k at 0) (other_is ∙ sym (key_first x.node.prefix b first rest (first_is x.node x.here))) ∙ sym (at_within at 7 (key_under x.node.prefix b rest) pair_early)

    pub other_apart : get_or other at 0 ≢ get_or key at 0
    other_apart e = let d = pair_differs in d.differ (sym other_at ∙ e)
