-- The pairs of a subtree, written place by place.
use Rattle.std.proofs.Common.{◌≡◌, ℕ, zero, suc, ◌+◌, ◌^◌, ◌<◌, ◌≤◌, List, [], ◌∷◌, ◌++◌, length, map, Some, None, Option, refl, ap, sym, subst, ◌∙◌, arith, inl, inr, append_assoc}
use Rattle.std.proofs.lemmas.List.Elements.{filter-append}
use Rattle.std.proofs.lemmas.Bool.{lt-ltb, le-ltb, lt-leb, le-leb, eq-eqb, ne_eqb, cases_lt, cases_eq}
use Rattle.spec_map.specs.Map.{lookup, between, Rises}
use Rattle.spec_map.proofs.RangeLaws.{between-all, between-above, between-split}
use Rattle.spec_node.specs.Key.{low, high, key_number}
use Rattle.spec_node.specs.TableNode.{Child}
use Rattle.node_table.specs.Table.{NodeTable, node_at, pairs_of, pairs_at, AreChildren, IsTree, IsSubtree}
use Rattle.node_table.proofs.TableLaws.{under, all_rise, tree_rises}
use Rattle.tree_links.specs.LinkNode.{LinkNode}
use Rattle.tree_links.specs.SeenTable.{name_of, name_under, key_under, seen_link, seen_links, seen_node}
use Rattle.tree_links.specs.declared.link.Link.{Link}
use Rattle.tree_links.specs.declared.link.Link.TheVariants.{Payload, Slot, Pair}
use Rattle.tree_walk.specs.inner.Scan.{IsWindow, HasSubtree, HasLinks, AddsAll, AddsEntries, entries_of}
use Rattle.tree_walk.specs.declared.window.Window.{Window}
use Rattle.tree_walk.proofs.WindowLaws.{whole_window}
use Rattle.tree_walk.proofs.FillLaws.{Written, written-none, written-more, written-full, written-end}
use Rattle.tree_walk.proofs.LinkLaws.{between-seen, AreStored, stored_between_all, each_pair}
use Rattle.tree_walk.proofs.ScanLaws.{AreChildren-between, GoesDown, at_node, node_below, entries_of-append, in_window, all_entries}

-- what is under one byte
abbrev pub at_byte : {C : Type 0} → ℕ → Option C → List (ℕ × C)
at_byte b None = []
at_byte b (Some c) = (b, c) ∷ []

pub between-one : {C : Type 0} (a z b : ℕ) (es : List (ℕ × C)) → Rises a z es → between es b (b + 1) ≡ at_byte b (lookup es b)
between-one a z b [] h = refl
between-one a z b (x ∷ xs) h =
    elim (cases_lt x.0 b) [
      | inl less ↦ rw (lt-leb b x.0 less, ne_eqb x.0 b (omega (arith, less))) (between-one (x.0 + 1) z b xs h.2)
      | inr from ↦ elim (cases_eq x.0 b) [
        | inl same ↦ rw (le-leb b x.0 from, lt-ltb x.0 (b + 1) (omega (arith, same)), eq-eqb x.0 b same)
            (ap (λ t. x ∷ t) (between-above (x.0 + 1) z b (b + 1) xs h.2 (omega (arith, same))) ∙ ap (λ k. (k, x.1) ∷ []) same)
        | inr other ↦ rw (le-leb b x.0 from, le-ltb x.0 (b + 1) (omega (arith, other, from)), ne_eqb x.0 b other) (between-one (x.0 + 1) z b xs h.2)
      ]
    ]

module _ {P : Type 0} where
  seen-append : (i : ℕ) (xs ys : List (ℕ × Link P)) → seen_links i (xs ++ ys) ≡ seen_links i xs ++ seen_links i ys
  seen-append i [] ys = refl
  seen-append i (x ∷ xs) ys = ap (λ t. (x.0, seen_link i x.0 x.1) ∷ t) (seen-append i xs ys)

  stored-after : (es xs ys : List (ℕ × Link P)) → AreStored es (xs ++ ys) → AreStored es ys
  stored-after es [] ys h = h
  stored-after es (x ∷ xs) ys h = stored-after es xs ys h.1

  children-after : (under : List ℕ → ℕ → Type 0) (p : List ℕ) (i : ℕ) (xs ys : List (ℕ × Link P)) → AreChildren under p (seen_links i (xs ++ ys)) → AreChildren under p (seen_links i ys)
  children-after under p i [] ys h = h
  children-after under p i (x ∷ xs) ys h = children-after under p i xs ys h.1

module _ {P : Type 0} (s : NodeTable P) where
  pairs_of-append : (less : ℕ) (p : List ℕ) (xs ys : List (ℕ × Child P)) → pairs_of (λ j. pairs_at s less j) p (xs ++ ys) ≡ pairs_of (λ j. pairs_at s less j) p xs ++ pairs_of (λ j. pairs_at s less j) p ys
  pairs_of-append less p [] ys = refl
  pairs_of-append less p (x ∷ xs) ys =
      ap (λ t. under s less p x.0 x.1 ++ t) (pairs_of-append less p xs ys) ∙ sym (append_assoc (under s less p x.0 x.1) (pairs_of (λ j. pairs_at s less j) p xs) (pairs_of (λ j. pairs_at s less j) p ys))

  -- where all children are in a range, all pairs are
  in_range : (less : ℕ) (p : List ℕ) (es : List (ℕ × Child P)) (lo hi a z : ℕ) → Rises lo hi es → AreChildren (λ q j. IsTree s less q j) p es
      → ((b : ℕ) → lo ≤ b → b < hi → a ≤ low (p ++ b ∷ [])) → ((b : ℕ) → lo ≤ b → b < hi → high (p ++ b ∷ []) ≤ z)
      → between (pairs_of (λ j. pairs_at s less j) p es) a z ≡ pairs_of (λ j. pairs_at s less j) p es
  in_range less p [] lo hi a z o h from to = refl
  in_range less p (x ∷ xs) lo hi a z o h from to =
      let pairs = λ (es : List (ℕ × Child P)). pairs_of (λ j. pairs_at s less j) p es in
      let here = under s less p x.0 x.1 in
      filter-append _ here (pairs xs)
      ∙ ap (λ t. t ++ between (pairs xs) a z) (between-all _ _ a z here (all_rise s less (tree_rises s less) p (x ∷ xs) h).0 (from x.0 o.0 o.1) (to x.0 o.0 o.1))
      ∙ ap (λ t. here ++ t) (in_range less p xs (x.0 + 1) hi a z o.2 h.1 (λ b l k. from b (omega (arith, l, o.0)) k) (λ b l k. to b (omega (arith, l, o.0)) k))

module _ {E : Type 0} (entry : ℕ → ℕ → E) (start end : ℕ) (s : NodeTable ℕ) (slot : ℕ) (n : LinkNode ℕ) where
  abbrev pub entries_below : ℕ → List (ℕ × Link ℕ) → List E
  entries_below less left = entries_of entry start end (pairs_of (λ j. pairs_at s less j) n.prefix (seen_links slot left))

  entries_below-append : (less : ℕ) (xs ys : List (ℕ × Link ℕ)) → entries_below less (xs ++ ys) ≡ entries_below less xs ++ entries_below less ys
  entries_below-append less xs ys =
      ap (λ es. entries_of entry start end (pairs_of (λ j. pairs_at s less j) n.prefix es)) (seen-append slot xs ys)
      ∙ ap (λ es. entries_of entry start end es) (pairs_of-append s less n.prefix (seen_links slot xs) (seen_links slot ys))
      ∙ entries_of-append entry start end (pairs_of (λ j. pairs_at s less j) n.prefix (seen_links slot xs)) (pairs_of (λ j. pairs_at s less j) n.prefix (seen_links slot ys))

  -- the pairs under some of a node's links are left, and the others are written
  pub record Walk (all : ℕ → List E) (left : List (ℕ × Link ℕ)) (old : List E) (first : ℕ) (new : List E) (count : ℕ) : Type 0 where
    pub written : (less : ℕ) → IsSubtree s (suc less) (name_of slot) → Written (all less) (entries_below less left) old first new count
    pub children : (less : ℕ) → IsSubtree s (suc less) (name_of slot) → AreChildren (λ q j. IsTree s less q j) n.prefix (seen_links slot left)
    pub stored : AreStored n.links left

  some_children : (left : List (ℕ × Link ℕ)) → HasLinks s slot n left → (less : ℕ) → IsSubtree s (suc less) (name_of slot) → AreChildren (λ q j. IsTree s less q j) n.prefix (seen_links slot left)
  some_children left h less tree =
      let a = at_node s less (name_of slot) (seen_node slot n) tree h.here in
      subst (λ t. AreChildren (λ q j. IsTree s less q j) n.prefix t) (between-seen slot n.links h.from h.to ∙ ap (seen_links slot) (sym h.are))
      (AreChildren-between (λ q j. IsTree s less q j) n.prefix (seen_links slot n.links) h.from h.to a.children)

  pub walk_start : (left : List (ℕ × Link ℕ)) (b : List E) (count : ℕ) → HasLinks s slot n left → count ≤ length b → Walk (λ less. entries_below less left) left b count b count
  walk_start left b count h inside =
      record {
        written = λ less tree. written-none _ b count inside;
        children = some_children left h;
        stored = stored_between_all n.links h.ascending left h.from h.to h.within h.are;
      }

  pub walk_window : (w : Window) → IsWindow n.prefix start end w → (left : List (ℕ × Link ℕ)) (b : List E) (count : ℕ) (h : HasLinks s slot n left) → h.from ≡ w.from → h.to ≡ w.to → count ≤ length b
      → Walk (λ less. all_entries entry start end s less (name_of slot)) left b count b count
  walk_window w is left b count h from to inside =
      record {
        written = λ less tree.
            let same : seen_links slot left ≡ between (seen_links slot n.links) w.from w.to = ap (seen_links slot) h.are ∙ sym (between-seen slot n.links h.from h.to) ∙ ap (λ x. between (seen_links slot n.links) x h.to) from ∙ ap (λ x. between (seen_links slot n.links) w.from x) to in
            subst (λ t. Written t (entries_below less left) b count b count)
            (ap (λ t. entries_of entry start end (pairs_of (λ j. pairs_at s less j) n.prefix t)) same ∙ sym (in_window entry start end s less (name_of slot) (seen_node slot n) tree h.here w is))
            (written-none _ b count inside);
        children = some_children left h;
        stored = stored_between_all n.links h.ascending left h.from h.to h.within h.are;
      }

  down : (q : List ℕ) (j : ℕ) (new : List E) (count : ℕ) (b : List E) (k : ℕ) → ((l : ℕ) → IsSubtree s (suc l) j → AddsEntries (entries_of entry start end (pairs_at s (suc l) j)) new count b k)
      → (l : ℕ) → IsTree s l q j → AddsEntries (entries_of entry start end (pairs_at s l j)) new count b k
  down q j new count b k adds zero h = absurd h
  down q j new count b k adds (suc l) h = adds l (record { above = q; tree = h })

  module _ (all : ℕ → List E) (left : List (ℕ × Link ℕ)) (old : List E) (first : ℕ) (new : List E) (count : ℕ) (w : Walk all left old first new count) where
    pub walk_full : length new ≤ count → (less : ℕ) → IsSubtree s (suc less) (name_of slot) → AddsEntries (all less) old first new count
    walk_full full less tree = written-full _ _ old new first count (w.written less tree) full

    pub walk_seen : (next : List (ℕ × Link ℕ)) → left ≡ next → Walk all next old first new count
    walk_seen next is = subst (λ t. Walk all t old first new count) is w

    pub walk_end : left ≡ [] → (less : ℕ) → IsSubtree s (suc less) (name_of slot) → AddsEntries (all less) old first new count
    walk_end none less tree = written-end _ _ old new first count (w.written less tree) (ap (λ t. entries_below less t) none)

    pub walk_part : (xs ys : List (ℕ × Link ℕ)) (b : List E) (k : ℕ) → left ≡ xs ++ ys → ((less : ℕ) → IsSubtree s (suc less) (name_of slot) → AddsEntries (entries_below less xs) new count b k) → Walk all ys old first b k
    walk_part xs ys b k is adds =
        let v = walk_seen (xs ++ ys) is in
        record {
          written = λ less tree. written-more _ _ old new first count (v.written less tree) (entries_below less xs) (entries_below less ys) b k (entries_below-append less xs ys) (adds less tree);
          children = λ less tree. children-after (λ q j. IsTree s less q j) n.prefix slot xs ys (v.children less tree);
          stored = stored-after n.links xs ys v.stored;
        }

    pub walk_below : (byte j : ℕ) (ys : List (ℕ × Link ℕ)) → left ≡ (byte, Slot j) ∷ ys → HasSubtree s (name_of slot) → Some (seen_node slot n) ≡ node_at s (name_of slot) → GoesDown s (name_of slot) (name_of j)
    walk_below byte j ys is h here = node_below s (name_of slot) (seen_node slot n) byte (name_of j) (seen_links slot ys) h here (walk_seen ((byte, Slot j) ∷ ys) is).children

    -- a payload is in a leaf
    pub walk_payload : (byte value : ℕ) (ys : List (ℕ × Link ℕ)) → left ≡ (byte, Payload value) ∷ ys → HasSubtree s (name_of slot) → length n.prefix ≡ 7
    walk_payload byte value ys is h = go h.levels h.tree
      where
        go : (levels : ℕ) → IsSubtree s levels (name_of slot) → length n.prefix ≡ 7
        go zero t = absurd t.tree
        go (suc less) t = ((walk_seen ((byte, Payload value) ∷ ys) is).children less t).0

    pub walk_slot : (byte j : ℕ) (ys : List (ℕ × Link ℕ)) (b : List E) (k : ℕ) → left ≡ (byte, Slot j) ∷ ys
        → ((l : ℕ) → IsSubtree s (suc l) (name_of j) → AddsEntries (entries_of entry start end (pairs_at s (suc l) (name_of j))) new count b k) → Walk all ys old first b k
    walk_slot byte j ys b k is adds =
        let v = walk_seen ((byte, Slot j) ∷ ys) is in
        record {
          written = λ less tree. written-more _ _ old new first count (v.written less tree) (entries_of entry start end (pairs_at s less (name_of j))) (entries_below less ys) b k
              (entries_of-append entry start end (pairs_at s less (name_of j)) (pairs_of (λ j. pairs_at s less j) n.prefix (seen_links slot ys)))
              (down (n.prefix ++ byte ∷ []) (name_of j) new count b k adds less (v.children less tree).0);
          children = λ less tree. (v.children less tree).1;
          stored = v.stored.1;
        }

    pub walk_pair : (byte : ℕ) (rest : List ℕ) (value : ℕ) (ys : List (ℕ × Link ℕ)) (b : List E) (k : ℕ) → left ≡ (byte, Pair rest value) ∷ ys
        → ((l : ℕ) → IsSubtree s (suc l) (name_under slot byte) → AddsEntries (entries_of entry start end (pairs_at s (suc l) (name_under slot byte))) new count b k) → Walk all ys old first b k
    walk_pair byte rest value ys b k is adds =
        let v = walk_seen ((byte, Pair rest value) ∷ ys) is in
        record {
          written = λ less tree. written-more _ _ old new first count (v.written less tree) (entries_of entry start end (pairs_at s less (name_under slot byte))) (entries_below less ys) b k
              (entries_of-append entry start end (pairs_at s less (name_under slot byte)) (pairs_of (λ j. pairs_at s less j) n.prefix (seen_links slot ys)))
              (down (n.prefix ++ byte ∷ []) (name_under slot byte) new count b k adds less (v.children less tree).0);
          children = λ less tree. (v.children less tree).1;
          stored = v.stored.1;
        }

-- one place of a slot's node: what is below it, and what is written of that
module _ (s : NodeTable ℕ) (slot : ℕ) (n : LinkNode ℕ) (byte : ℕ) where
  one_child : {E : Type 0} (entry : ℕ → ℕ → E) (l : Link ℕ) → HasLinks s slot n ((byte, l) ∷ []) → (b : List E) (count : ℕ) → count ≤ length b
      → Walk entry 0 (2 ^ 64) s slot n (λ less. entries_below entry 0 (2 ^ 64) s slot n less ((byte, l) ∷ [])) ((byte, l) ∷ []) b count b count
  one_child entry l h b count inside = walk_start entry 0 (2 ^ 64) s slot n ((byte, l) ∷ []) b count h inside

  pub below_one : (j : ℕ) → HasLinks s slot n ((byte, Slot j) ∷ []) → GoesDown s (name_of slot) (name_of j)
  below_one j h =
      walk_below (λ k v. v) 0 (2 ^ 64) s slot n _ ((byte, Slot j) ∷ []) [] 0 [] 0 (one_child (λ k v. v) (Slot j) h [] 0 (omega arith)) byte j [] refl h.tree h.here

  module _ {E : Type 0} (entry : ℕ → ℕ → E) (b : List E) (count : ℕ) (inside : count ≤ length b) (c : List E) (k : ℕ) where
    abbrev all_below : Link ℕ → ℕ → List E
    all_below l less = entries_below entry 0 (2 ^ 64) s slot n less ((byte, l) ∷ [])

    pub slot_written : (j : ℕ) → HasLinks s slot n ((byte, Slot j) ∷ []) → ((l : ℕ) → IsSubtree s (suc l) (name_of j) → AddsEntries (entries_of entry 0 (2 ^ 64) (pairs_at s (suc l) (name_of j))) b count c k)
        → AddsAll s entry slot n ((byte, Slot j) ∷ []) b count c k
    slot_written j h adds =
        walk_end entry 0 (2 ^ 64) s slot n (all_below (Slot j)) [] b count c k (walk_slot entry 0 (2 ^ 64) s slot n (all_below (Slot j)) ((byte, Slot j) ∷ []) b count b count (one_child entry (Slot j) h b count inside) byte j [] c k refl adds) refl

    pub pair_written : (rest : List ℕ) (value : ℕ) → HasLinks s slot n ((byte, Pair rest value) ∷ []) → (q : List ℕ) → q ≡ n.prefix → (number : ℕ) → number ≡ key_number (key_under q byte rest) → length rest ≡ 7
        → AddsEntries (entries_of entry 0 (2 ^ 64) ((number, value) ∷ [])) b count c k → AddsAll s entry slot n ((byte, Pair rest value) ∷ []) b count c k
    pair_written rest value h q same number is long adds =
        let one = one_child entry (Pair rest value) h b count inside in
        let each = each_pair s slot n h.pairs h.ascending byte rest value one.stored.0 (λ pairs. AddsEntries (entries_of entry 0 (2 ^ 64) pairs) b count c k) q same number is long adds in
        walk_end entry 0 (2 ^ 64) s slot n (all_below (Pair rest value)) [] b count c k (walk_pair entry 0 (2 ^ 64) s slot n (all_below (Pair rest value)) ((byte, Pair rest value) ∷ []) b count b count one byte rest value [] c k refl each) refl

-- places of a slot's node, all of which are inside of the range: some are left, and the pairs under the others are written
module _ {E : Type 0} (entry : ℕ → ℕ → E) (s : NodeTable ℕ) (slot : ℕ) (n : LinkNode ℕ) (whole : List (ℕ × Link ℕ)) where
  abbrev pub Inside : List (ℕ × Link ℕ) → List E → ℕ → List E → ℕ → Type 0
  Inside left old first new count = Walk entry 0 (2 ^ 64) s slot n (λ less. entries_below entry 0 (2 ^ 64) s slot n less whole) left old first new count

  pub inside_start : (b : List E) (count : ℕ) → HasLinks s slot n whole → count ≤ length b → Inside whole b count b count
  inside_start b count h room = walk_start entry 0 (2 ^ 64) s slot n whole b count h room

  module _ (left : List (ℕ × Link ℕ)) (old : List E) (first : ℕ) (new : List E) (count : ℕ) (w : Inside left old first new count) where
    pub inside_full : length new ≤ count → AddsAll s entry slot n whole old first new count
    inside_full = walk_full entry 0 (2 ^ 64) s slot n (λ less. entries_below entry 0 (2 ^ 64) s slot n less whole) left old first new count w

    pub inside_end : left ≡ [] → AddsAll s entry slot n whole old first new count
    inside_end = walk_end entry 0 (2 ^ 64) s slot n (λ less. entries_below entry 0 (2 ^ 64) s slot n less whole) left old first new count w

    -- the next of them by itself
    module _ (e : ℕ × Link ℕ) (ys : List (ℕ × Link ℕ)) (is : left ≡ e ∷ ys) where
      pub inside_next : HasLinks s slot n whole → HasLinks s slot n (e ∷ [])
      inside_next h =
          let stored = (walk_seen entry 0 (2 ^ 64) s slot n (λ less. entries_below entry 0 (2 ^ 64) s slot n less whole) left old first new count w (e ∷ ys) is).stored.0 in
          record {
            tree = h.tree;
            here = h.here;
            pairs = h.pairs;
            ascending = h.ascending;
            from = e.0;
            to = e.0 + 1;
            within = omega (arith, stored.inside);
            are = sym (between-one 0 256 e.0 n.links h.ascending ∙ ap (λ o. at_byte e.0 o) stored.found);
          }

      pub inside_on : (b : List E) (k : ℕ) → AddsAll s entry slot n (e ∷ []) new count b k → Inside ys old first b k
      inside_on b k adds = walk_part entry 0 (2 ^ 64) s slot n (λ less. entries_below entry 0 (2 ^ 64) s slot n less whole) left old first new count w (e ∷ []) ys b k is adds

-- what is written of the links in a range's inside is that of the range
module _ {E : Type 0} (entry : ℕ → ℕ → E) (start end : ℕ) (s : NodeTable ℕ) (slot : ℕ) (n : LinkNode ℕ) (left : List (ℕ × Link ℕ)) (h : HasLinks s slot n left) (lo hi : ℕ) (rises : Rises lo hi (seen_links slot left)) (within : hi < 256) where
  pub same_entries : ((b : ℕ) → lo ≤ b → b < hi → start ≤ low (n.prefix ++ b ∷ [])) → ((b : ℕ) → lo ≤ b → b < hi → high (n.prefix ++ b ∷ []) ≤ end)
      → (less : ℕ) → IsSubtree s (suc less) (name_of slot) → entries_below entry 0 (2 ^ 64) s slot n less left ≡ entries_below entry start end s slot n less left
  same_entries from to less tree =
      let c = some_children entry start end s slot n left h less tree in
      let a = at_node s less (name_of slot) (seen_node slot n) tree h.here in
      let w = whole_window n.prefix a.sound.bytes a.sound.short in
      ap (λ es. map (λ e. entry e.0 e.1) es)
      (in_range s less n.prefix (seen_links slot left) lo hi 0 (2 ^ 64) rises c (λ b l k. omega arith) (λ b l k. w.before_last b (omega (arith, k, within)))
      ∙ sym (in_range s less n.prefix (seen_links slot left) lo hi start end rises c from to))

-- a node's links from a byte on are what is under that byte, and those after it
pub link_next : {P : Type 0} (links : List (ℕ × Link P)) (from to : ℕ) (c : Option (Link P)) → Rises 0 256 links → from < to → c ≡ lookup links from → between links from to ≡ at_byte from c ++ between links (from + 1) to
link_next links from to c rises less is =
    between-split 0 256 from (from + 1) to links rises (omega arith) (omega (arith, less))
    ∙ ap (λ t. t ++ between links (from + 1) to) (between-one 0 256 from links rises ∙ ap (λ o. at_byte from o) (sym is))
