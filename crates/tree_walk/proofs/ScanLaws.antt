-- A scan of the pairs of a range below a node.
use Rattle.std.proofs.Common.{◌≡◌, ℕ, zero, suc, ◌+◌, ◌-◌, ◌^◌, ◌<◌, ◌≤◌, List, [], ◌∷◌, ◌++◌, length, min, map, take, drop, Some, refl, ap, sym, subst, ◌∙◌, arith, inl, inr, length-append, replicate, w64}
use Rattle.std.specs.Int.{from_be_bytes}
use Rattle.std.proofs.lemmas.List.{map-append, length-map}
use Rattle.std.proofs.lemmas.List.Elements.{filter-append}
use Rattle.std.proofs.lemmas.Bool.{lt-ltb, le-ltb, le-leb, lt-leb, cases_lt}
use Rattle.spec_map.specs.Map.{Pairs, between, Rises}
use Rattle.spec_node.specs.Key.{low, high, AreBytes}
use Rattle.spec_node.specs.TableNode.{TableNode, Child}
use Rattle.node_table.specs.Table.{NodeTable, node_at, pairs_of, pairs_at, IsChild, AreChildren, IsTree, IsSubtree, IsSound}
use Rattle.spec_node.specs.declared.child.Child.TheVariants.{Payload, Node}
use Rattle.spec_map.proofs.RangeLaws.{between-all, between-above, between-rises, between-within}
use Rattle.node_table.proofs.BeginLaws.{after}
use Rattle.tree_path.proofs.ShareLaws.{between-below}
use Rattle.node_table.proofs.ChildrenLaws as laws
use Rattle.node_table.proofs.TableLaws.{under, same_pairs, all_rise, tree_rises}
use Rattle.node_table.specs.inner.Kinds.{mapped}
use Rattle.tree_walk.specs.inner.Scan.{IsWindow, HasSubtree, FillsBuffer, AddsEntries, entries_of, entries_under}
use Rattle.tree_walk.proofs.BytesLeft.{bytes_left}
use Rattle.tree_path.specs.inner.Root.{depth}
use Rattle.tree_path.proofs.PathEndLaws.{depth_is}
use Rattle.tree_walk.specs.declared.window.Window.{Window}
use Rattle.tree_walk.proofs.WindowLaws.{low-leaf, leaf_fits, padded_key}
use Rattle.tree_walk.proofs.FillLaws.{fills-none}

Rises-of_mapped : {C D : Type 0} (f : C → D) (a b : ℕ) (es : List (ℕ × C)) → Rises a b (mapped f es) → Rises a b es
Rises-of_mapped f a b [] h = tt
Rises-of_mapped f a b (e ∷ es) h = (h.0, h.1, Rises-of_mapped f (e.0 + 1) b es h.2)

module _ {P : Type 0} (below : List ℕ → ℕ → Type 0) (p : List ℕ) where
  -- a part of the children are children
  pub AreChildren-between : (es : List (ℕ × Child P)) (s e : ℕ) → AreChildren below p es → AreChildren below p (between es s e)
  AreChildren-between [] s e h = tt
  AreChildren-between (x ∷ xs) s e h =
      elim (cases_lt x.0 s) [
        | inl less ↦ rw (lt-leb s x.0 less) (AreChildren-between xs s e h.1)
        | inr from ↦ elim (cases_lt x.0 e) [
          | inl to ↦ rw (le-leb s x.0 from, lt-ltb x.0 e to) (h.0, AreChildren-between xs s e h.1)
          | inr past ↦ rw (le-leb s x.0 from, le-ltb x.0 e past) (AreChildren-between xs s e h.1)
        ]
      ]

module _ {P : Type 0} (s : NodeTable P) where
  -- a node of a subtree, with the levels below it
  pub record At (less slot : ℕ) (n : TableNode P) : Type 0 where
    pub sound : IsSound n
    pub children : AreChildren (λ q j. IsTree s less q j) n.prefix n.children
    pub pairs : pairs_at s (suc less) slot ≡ pairs_of (λ j. pairs_at s less j) n.prefix n.children

  pub at_node : (less slot : ℕ) (n : TableNode P) → IsSubtree s (suc less) slot → Some n ≡ node_at s slot → At less slot n
  at_node less slot n h here =
      let both : Some h.tree.node ≡ Some n = sym h.tree.here ∙ sym here in
      let is : h.tree.node ≡ n = cc in
      subst (λ m. At less slot m) is (record { sound = h.tree.sound; children = h.tree.children; pairs = rw h.tree.here refl })

  -- the number that `first_key` returns is that of the least key
  pub first_number_is : (less slot : ℕ) (n : TableNode P) → IsSubtree s (suc less) slot → Some n ≡ node_at s slot → (p : List ℕ) → p ≡ n.prefix
      → from_be_bytes w64 (p ++ replicate (8 - length p) 0) ≡ low n.prefix
  first_number_is less slot n h here p is = ap (λ q. from_be_bytes w64 (q ++ replicate (8 - length q) 0)) is ∙ padded_key n.prefix (at_node less slot n h here).sound.short

  -- the pairs below a node under the bytes from one on
  abbrev pub pairs_from : ℕ → TableNode P → ℕ → Pairs P
  pairs_from less n from = pairs_of (λ j. pairs_at s less j) n.prefix (between n.children from 256)

  children_rise : (less : ℕ) (p : List ℕ) (es : List (ℕ × Child P)) (d m : ℕ) → length p ≤ 7 → Rises d 256 es → AreChildren (λ q j. IsTree s less q j) p es
      → ((b : ℕ) → d ≤ b → m ≤ low (p ++ b ∷ [])) → Rises m (high p) (pairs_of (λ j. pairs_at s less j) p es)
  children_rise less p es d m short o h at_least =
      rw (same_pairs s less p es) (laws.children_rise (under s less p) p d es short o (all_rise s less (tree_rises s less) p es h) m (λ b l k. at_least b l))

  -- no pairs of the range are under the bytes before its window
  pub skip : (less : ℕ) (p : List ℕ) (es : List (ℕ × Child P)) (d from start end : ℕ) → Rises d 256 es → AreChildren (λ q j. IsTree s less q j) p es
      → ((b : ℕ) → b < from → high (p ++ b ∷ []) ≤ start)
      → between (pairs_of (λ j. pairs_at s less j) p es) start end ≡ between (pairs_of (λ j. pairs_at s less j) p (between es from 256)) start end
  skip less p [] d from start end o h before = refl
  skip less p (x ∷ xs) d from start end o h before =
      let pairs = λ (es : List (ℕ × Child P)). pairs_of (λ j. pairs_at s less j) p es in
      elim (cases_lt x.0 from) [
        | inl less_than ↦
            let here = under s less p x.0 x.1 in
            let none = between-below _ _ start end here (all_rise s less (tree_rises s less) p (x ∷ xs) h).0 (before x.0 less_than) in
            rw (lt-leb from x.0 less_than)
            (filter-append _ here (pairs xs) ∙ ap (λ t. t ++ between (pairs xs) start end) none ∙ skip less p xs (x.0 + 1) from start end o.2 h.1 before)
        | inr at ↦ ap (λ es. between (pairs es) start end) (sym (between-all x.0 256 from 256 (x ∷ xs) (omega arith, o.1, o.2) at (omega arith)))
      ]

  -- nor under those past it
  pub clip : (less : ℕ) (p : List ℕ) (es : List (ℕ × Child P)) (d from to start end : ℕ) → Rises d 256 es → AreChildren (λ q j. IsTree s less q j) p es
      → ((b : ℕ) → b < from → high (p ++ b ∷ []) ≤ start) → ((b : ℕ) → b < 256 → to ≤ b → end ≤ low (p ++ b ∷ []))
      → between (pairs_of (λ j. pairs_at s less j) p es) start end ≡ between (pairs_of (λ j. pairs_at s less j) p (between es from to)) start end
  clip less p [] d from to start end o h before past = refl
  clip less p (x ∷ xs) d from to start end o h before past =
      let pairs = λ (es : List (ℕ × Child P)). pairs_of (λ j. pairs_at s less j) p es in
      let here = under s less p x.0 x.1 in
      let rise = (all_rise s less (tree_rises s less) p (x ∷ xs) h).0 in
      let rest = clip less p xs (x.0 + 1) from to start end o.2 h.1 before past in
      let none : between here start end ≡ [] → between (here ++ pairs xs) start end ≡ between (pairs (between xs from to)) start end = λ is. filter-append _ here (pairs xs) ∙ ap (λ t. t ++ between (pairs xs) start end) is ∙ rest in
      elim (cases_lt x.0 from) [
        | inl less_than ↦ rw (lt-leb from x.0 less_than) (none (between-below _ _ start end here rise (before x.0 less_than)))
        | inr at ↦ elim (cases_lt x.0 to) [
          | inl inside ↦ rw (le-leb from x.0 at, lt-ltb x.0 to inside)
              (filter-append _ here (pairs xs) ∙ ap (λ t. between here start end ++ t) rest ∙ sym (filter-append _ here (pairs (between xs from to))))
          | inr after ↦ rw (le-leb from x.0 at, le-ltb x.0 to after) (none (between-above _ _ start end here rise (past x.0 o.1 after)))
        ]
      ]

  -- what the children under the bytes of the window have
  pub window_pairs : (less slot : ℕ) (n : TableNode P) → IsSubtree s (suc less) slot → Some n ≡ node_at s slot → (w : Window) (start end : ℕ) → IsWindow n.prefix start end w
      → between (pairs_at s (suc less) slot) start end ≡ between (pairs_of (λ j. pairs_at s less j) n.prefix (between n.children w.from w.to)) start end
  window_pairs less slot n tree here w start end is =
      let a = at_node less slot n tree here in
      ap (λ es. between es start end) a.pairs ∙ clip less n.prefix n.children 0 w.from w.to start end a.sound.ordered a.children is.before is.past

module _ {P E : Type 0} (entry : ℕ → P → E) (start end : ℕ) where
  pub entries_of-append : (xs ys : Pairs P) → entries_of entry start end (xs ++ ys) ≡ entries_of entry start end xs ++ entries_of entry start end ys
  entries_of-append xs ys = ap (λ es. map (λ e. entry e.0 e.1) es) (filter-append _ xs ys) ∙ map-append (λ e. entry e.0 e.1) (between xs start end) (between ys start end)

  -- a leaf's payloads, which all lie in the range
  entries_of-leaf : (below : ℕ → Pairs P) (p : List ℕ) (w : Window) → IsWindow p start end w → length p ≡ 7 → (a b : ℕ) (es : List (ℕ × P)) → Rises a b es → w.from ≤ a → b ≤ w.to
      → entries_of entry start end (pairs_of below p (mapped (λ v. Payload v) es)) ≡ entries_under entry w.first es
  entries_of-leaf below p w is seven a b [] h from to = refl
  entries_of-leaf below p w is seven a b (x ∷ xs) h from to =
      let k = low (p ++ x.0 ∷ []) in
      let key : k ≡ w.first + x.0 = low-leaf p x.0 seven ∙ ap (λ n. n + x.0) (sym is.first) in
      rw (le-leb start k (is.not_before seven x.0 (omega (arith, h.0))), lt-ltb k end (is.not_past seven x.0 (omega (arith, h.1))))
      (ap (λ n. entry n x.1 ∷ entries_of entry start end (pairs_of below p (mapped (λ v. Payload v) xs))) key
      ∙ ap (λ t. entry (w.first + x.0) x.1 ∷ t) (entries_of-leaf below p w is seven (x.0 + 1) b xs h.2 (omega (arith, h.0)) to))

  module _ (s : NodeTable P) where
    abbrev pub all_entries : ℕ → ℕ → List E
    all_entries less slot = entries_of entry start end (pairs_at s (suc less) slot)

    module _ (less slot : ℕ) (n : TableNode P) (tree : IsSubtree s (suc less) slot) (here : Some n ≡ node_at s slot) (w : Window) (is : IsWindow n.prefix start end w) where
      pub in_window : all_entries less slot ≡ entries_of entry start end (pairs_of (λ j. pairs_at s less j) n.prefix (between n.children w.from w.to))
      in_window = ap (λ es. map (λ e. entry e.0 e.1) es) (window_pairs s less slot n tree here w start end is)

      -- those of a leaf
      pub in_leaf_window : (es : List (ℕ × P)) → length n.prefix ≡ 7 → mapped (λ v. Payload v) es ≡ between n.children w.from w.to → entries_under entry w.first es ≡ all_entries less slot
      in_leaf_window es seven is_left =
          let a = at_node s less slot n tree here in
          let o : Rises w.from w.to (mapped (λ v. Payload v) es) = subst (λ t. Rises w.from w.to t) (sym is_left) (between-within 0 256 w.from w.to n.children a.sound.ordered) in
          sym (in_window ∙ ap (λ t. entries_of entry start end (pairs_of (λ j. pairs_at s less j) n.prefix t)) (sym is_left)
          ∙ entries_of-leaf (λ j. pairs_at s less j) n.prefix w is seven w.from w.to es (Rises-of_mapped (λ v. Payload v) w.from w.to es o) (omega arith) (omega arith))

module _ {P : Type 0} (s : NodeTable P) where
  -- a child of the slot's node under its byte
  pub record NextInside (n : TableNode P) (byte : ℕ) (c : Child P) : Type 0 where
    pub levels : ℕ
    pub child : IsChild (λ q j. IsTree s levels q j) n.prefix byte c
    pub bytes : AreBytes n.prefix
    pub short : length n.prefix ≤ 7
    pub inside : byte < 256

  pub child_at : (less slot : ℕ) (n : TableNode P) (from byte : ℕ) (c : Child P) (rest : List (ℕ × Child P)) → IsSubtree s (suc less) slot → Some n ≡ node_at s slot → between n.children from 256 ≡ (byte, c) ∷ rest
      → IsChild (λ q j. IsTree s less q j) n.prefix byte c
  child_at less slot n from byte c rest t here next =
      let a = at_node s less slot n t here in
      (subst (λ x. AreChildren (λ q j. IsTree s less q j) n.prefix x) next (AreChildren-between (λ q j. IsTree s less q j) n.prefix n.children from 256 a.children)).0

  pub next_inside : (slot : ℕ) (n : TableNode P) (from byte : ℕ) (c : Child P) (rest : List (ℕ × Child P)) → HasSubtree s slot → Some n ≡ node_at s slot → between n.children from 256 ≡ (byte, c) ∷ rest → NextInside n byte c
  next_inside slot n from byte c rest h here next = go h.levels h.tree
    where
      go : (levels : ℕ) → IsSubtree s levels slot → NextInside n byte c
      go zero t = absurd t.tree
      go (suc less) t =
          let a = at_node s less slot n t here in
          let o = subst (λ x. Rises from 256 x) next (between-rises 0 256 from 256 n.children a.sound.ordered) in
          record { levels = less; child = child_at less slot n from byte c rest t here next; bytes = a.sound.bytes; short = a.sound.short; inside = o.1 }

  -- the node below exists, and its prefix is longer
  pub record GoesDown (slot j : ℕ) : Type 0 where
    pub at_key : HasSubtree s j
    pub shorter : bytes_left s j < bytes_left s slot

  child_left : (levels slot : ℕ) (p : List ℕ) (b : ℕ) → IsTree s levels (p ++ b ∷ []) slot → bytes_left s slot + length p < 8
  child_left zero slot p b h = absurd h
  child_left (suc levels) slot p b h =
      let long = simp length-append at (ap length (after h.begins).is) in
      rw h.here (omega (arith, long, h.sound.short))

  -- a slot's node that has it among some of its children
  pub node_below : (slot : ℕ) (n : TableNode P) (byte j : ℕ) (left : List (ℕ × Child P)) → HasSubtree s slot → Some n ≡ node_at s slot
      → ((less : ℕ) → IsSubtree s (suc less) slot → AreChildren (λ q j. IsTree s less q j) n.prefix ((byte, Node j) ∷ left)) → GoesDown slot j
  node_below slot n byte j left h here children = go h.levels h.tree
    where
      go : (levels : ℕ) → IsSubtree s levels slot → GoesDown slot j
      go zero t = absurd t.tree
      go (suc less) t =
          let child : IsTree s less (n.prefix ++ byte ∷ []) j = (children less t).0 in
          let l = child_left less j n.prefix byte child in
          let short = (at_node s less slot n t here).sound.short in
          record {
            at_key = record { levels = less; tree = record { above = n.prefix ++ byte ∷ []; tree = child } };
            shorter = rw (← here) (omega (arith, l, short));
          }

  pub goes_down : (slot : ℕ) (n : TableNode P) (from byte j : ℕ) (rest : List (ℕ × Child P)) → HasSubtree s slot → Some n ≡ node_at s slot → between n.children from 256 ≡ (byte, Node j) ∷ rest → GoesDown slot j
  goes_down slot n from byte j rest h here next = node_below slot n byte j [] h here (λ less t. (child_at less slot n from byte (Node j) rest t here next, tt))

  -- a leaf's keys fit into 64 bits
  pub keys_fit : (slot : ℕ) (n : TableNode P) → HasSubtree s slot → Some n ≡ node_at s slot → length n.prefix ≡ 7 → low n.prefix + 256 ≤ 2 ^ 64
  keys_fit slot n h here seven = go h.levels h.tree
    where
      go : (levels : ℕ) → IsSubtree s levels slot → low n.prefix + 256 ≤ 2 ^ 64
      go zero t = absurd t.tree
      go (suc less) t = leaf_fits n.prefix (at_node s less slot n t here).sound.bytes seven

  -- payloads are in leaves
  pub in_leaf : (slot : ℕ) (n : TableNode P) (from byte : ℕ) (v : P) (rest : List (ℕ × Child P)) → HasSubtree s slot → Some n ≡ node_at s slot → between n.children from 256 ≡ (byte, Payload v) ∷ rest → length n.prefix ≡ 7
  in_leaf slot n from byte v rest h here next = (next_inside slot n from byte (Payload v) rest h here next).child

  -- the whole tree, as a subtree of one level and those below
  pub root_tree : (root : ℕ) → IsTree s depth [] root → IsSubtree s (suc 7) root
  root_tree root h = record { above = []; tree = subst (λ d. IsTree s d [] root) depth_is h }

  pub root_stands : (root : ℕ) → IsTree s depth [] root → HasSubtree s root
  root_stands root h = record { levels = 8; tree = root_tree root h }

module _ {P E : Type 0} (entry : ℕ → P → E) (start end : ℕ) (s : NodeTable P) (root : ℕ) (tree : IsTree s depth [] root) where
  pub range_fills : (old new : List E) (count : ℕ) → ((levels : ℕ) → IsSubtree s (suc levels) root → AddsEntries (entries_of entry start end (pairs_at s (suc levels) root)) old 0 new count) → FillsBuffer old (entries_of entry start end (pairs_at s depth root)) count new
  range_fills old new count adds = subst (λ d. FillsBuffer old (entries_of entry start end (pairs_at s d root)) count new) (sym depth_is) ((adds 7 (root_tree s root tree)).fills old [] (fills-none old))

  module _ (old new : List E) (count : ℕ) (adds : (levels : ℕ) → IsSubtree s (suc levels) root → AddsEntries (entries_of entry start end (pairs_at s (suc levels) root)) old 0 new count)
      (m : Pairs P) (is : pairs_at s depth root ≡ m) (first past : ℕ) (from : start ≡ first) (to : end ≡ past) where
    entries_are : entries_of entry start end (pairs_at s depth root) ≡ map (λ pair. entry pair.0 pair.1) (between m first past)
    entries_are = rw (is, from, to) refl

    pub range_count : count ≡ min (length old) (length (between m first past))
    range_count =
        let h = range_fills old new count adds in
        h.counted ∙ ap (λ t. min (length old) (length t)) entries_are ∙ ap (λ n. min (length old) n) (length-map (between m first past) (λ pair. entry pair.0 pair.1))

    pub range_written : new ≡ take count (map (λ pair. entry pair.0 pair.1) (between m first past)) ++ drop count old
    range_written =
        let h = range_fills old new count adds in
        h.filled ∙ ap (λ t. take count t ++ drop count old) entries_are
