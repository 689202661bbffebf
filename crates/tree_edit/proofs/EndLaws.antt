-- The path to the first pair of a tree, or to the last.
use Rattle.std.proofs.Common.{IsSome, Bool, false, ◌≡◌, ◌≢◌, ℕ, zero, suc, ◌+◌, ◌-◌, ◌<◌, ◌≤◌, ◌^◌, List, [], ◌∷◌, ◌++◌, length, get_or, replicate, set, Option, Some, None, IfSome, IfNone, option_map, refl, ap, sym, subst, ◌∙◌, arith, inl, inr, append-nil, append_assoc, length-append, w64}
use Rattle.std.specs.Int.{from_be_bytes, to_be_bytes}
use Rattle.std.proofs.lemmas.Bool.{eq-eqb, ne_eqb, cases_eq, cases_lt}
use Rattle.std.proofs.lemmas.Grind.{get_or-set_at}
use Rattle.std.proofs.lemmas.Nat.{be_bytes_8, from_be_bytes-to_be_bytes_8}
use Rattle.node_table.specs.Charge.{Charge}
use Rattle.spec_map.specs.Map.{Pairs, lookup, between, Rises}
use Rattle.spec_map.specs.Near.{first_of, last_of}
use Rattle.spec_map.proofs.NearLaws.{first_at, last_at, no_first, no_last}
use Rattle.spec_node.specs.Key.{AreBytes, Begins, low, high, key_number, next_byte}
use Rattle.spec_node.specs.TableNode.{TableNode, Child, looked_at}
use Rattle.node_table.specs.Table.{NodeTable, NodeInfo, node_at, node_info, pairs_under, pairs_of, pairs_at, nodes_under, nodes_of, nodes_at, IsSound, AreChildren, IsTree}
use Rattle.spec_node.specs.declared.child.Child.TheVariants.{Payload, Node}
use Rattle.spec_node.specs.declared.child.ChildRef.{ChildRef}
use Rattle.spec_map.proofs.RangeLaws.{between-all}
use Rattle.node_table.proofs.BeginLaws.{after as after_prefix, begins_by, begins_itself}
use Rattle.node_table.proofs.DownLaws.{Begins-trans}
use Rattle.node_table.proofs.KeyLaws.{AreBytes-append, byte_order, goes_on, key_number-be_bytes, least-bound, room-positive}
use Rattle.node_table.proofs.TableLaws.{IsChild-found, tree_rises}
use Rattle.tree_path.specs.declared.descent.PathEnd.{PathEnd}
use Rattle.tree_path.specs.declared.descent.Stop.TheVariants as stops
use Rattle.tree_path.specs.inner.Descent.{LeadsTo, IsTrail, SeeksTo}
use Rattle.tree_path.specs.inner.Root.{depth}
use Rattle.tree_path.proofs.PathEndLaws.{depth_is, leads_start, leads_step}
use Rattle.tree_path.proofs.TrailLaws.{trail_more, trail_none}
use Rattle.tree_edit.specs.Reduce.{AreFilled, LosesInPlace}
use Rattle.tree_edit.specs.Tree.{TreeView}
use Rattle.tree_edit.specs.TreeCalls.{Removes}
use Rattle.tree_edit.specs.inner.Rise.{IsRemoval}
use Rattle.tree_edit.specs.inner.Whole.{IsWhole}
use Rattle.tree_edit.specs.inner.Writes.{NothingIsStored, IsStoredWhere}
use Rattle.tree_path.specs.inner.Supply.{SupplyView, Alike}
use Rattle.tree_edit.specs.declared.ends.Side.{Side}
use Rattle.tree_edit.specs.declared.ends.Side.TheVariants.{First, Last}
use Rattle.tree_edit.specs.inner.Ends.{at_side}
use Rattle.tree_edit.proofs.CallLaws.{after, byte_at, nothing_seen, ordered, taken_out}
use Rattle.tree_edit.proofs.FilledLaws.{HasSome, filled_pairs, filled_left, filled_right}

-- a pair at a side
module _ {V : Type 0} where
  pub side_one : (side : Side) (e : ℕ × V) → at_side side (e ∷ []) ≡ Some e
  side_one First e = refl
  side_one Last e = refl

  side_empty : (side : Side) → at_side {V = V} side [] ≡ None
  side_empty First = refl
  side_empty Last = refl

  pub side_none : (side : Side) (es : List (ℕ × V)) → at_side side es ≡ None → es ≡ []
  side_none First es is = no_first es is
  side_none Last es is = no_last es is

  -- it is stored
  pub record SideAt (a b : ℕ) (es : List (ℕ × V)) (e : ℕ × V) : Type 0 where
    pub inside : e.0 < b
    pub stored : lookup es e.0 ≡ Some e.1

  pub side_stored : (side : Side) (a b : ℕ) (es : List (ℕ × V)) (e : ℕ × V) → Rises a b es → at_side side es ≡ Some e → SideAt a b es e
  side_stored First a b es e h is = let x = first_at a b es e h is in record { inside = x.to; stored = x.stored }
  side_stored Last a b es e h is = let x = last_at a b es e h is in record { inside = x.to; stored = x.stored }

  -- a key at a side is inside, and stored
  pub side_inside : (side : Side) (es : List (ℕ × V)) (a b key : ℕ) → Rises a b es → Some key ≡ option_map (λ e. e.0) (at_side side es) → key < b
  side_inside side es a b key h is = go (at_side side es) refl
    where
      go : (o : Option (ℕ × V)) → at_side side es ≡ o → key < b
      go None e = let no : Some key ≡ None = subst (λ o. Some key ≡ option_map (λ p. p.0) o) e is in absurd (cc)
      go (Some p) e =
          let both : Some key ≡ Some p.0 = subst (λ o. Some key ≡ option_map (λ x. x.0) o) e is in
          let same : key ≡ p.0 = cc in
          let inside = (side_stored side a b es p h e).inside in
          omega (arith, inside, same)

  pub side_present : (side : Side) (es : List (ℕ × V)) (a b key : ℕ) → Rises a b es → Some key ≡ option_map (λ e. e.0) (at_side side es) → lookup es key ≢ None
  side_present side es a b key h is = go (at_side side es) refl
    where
      go : (o : Option (ℕ × V)) → at_side side es ≡ o → lookup es key ≢ None
      go None e = let no : Some key ≡ None = subst (λ o. Some key ≡ option_map (λ p. p.0) o) e is in absurd (cc)
      go (Some p) e =
          let both : Some key ≡ Some p.0 = subst (λ o. Some key ≡ option_map (λ x. x.0) o) e is in
          let same : key ≡ p.0 = cc in
          λ none. let stored = (side_stored side a b es p h e).stored in let there : lookup es key ≡ Some p.1 = ap (λ k. lookup es k) same ∙ stored in cc

  -- and its value is the one there
  pub side_pair : (side : Side) (es : List (ℕ × V)) (a b key : ℕ) (v : V) → Rises a b es → Some key ≡ option_map (λ e. e.0) (at_side side es) → Some v ≡ lookup es key → Some (key, v) ≡ at_side side es
  side_pair side es a b key v h is found = go (at_side side es) refl
    where
      go : (o : Option (ℕ × V)) → at_side side es ≡ o → Some (key, v) ≡ at_side side es
      go None e = let no : Some key ≡ None = subst (λ o. Some key ≡ option_map (λ p. p.0) o) e is in absurd (cc)
      go (Some p) e =
          let both : Some key ≡ Some p.0 = subst (λ o. Some key ≡ option_map (λ x. x.0) o) e is in
          let same : key ≡ p.0 = cc in
          let values : Some v ≡ Some p.1 = found ∙ ap (λ k. lookup es k) same ∙ (side_stored side a b es p h e).stored in
          let value : v ≡ p.1 = cc in
          ap (λ k. Some (k, v)) same ∙ ap (λ w. Some (p.0, w)) value ∙ sym e

-- what a node is asked for at a side
module _ {P : Type 0} (es : List (ℕ × Child P)) (h : Rises 0 256 es) where
  all_there : between es 0 256 ≡ es
  all_there = between-all 0 256 0 256 es h (omega arith) (omega arith)

  pub first_seen : (o : Option (ℕ × ChildRef P ℕ)) → IfNone o (between es 0 256 ≡ []) → IfSome o (λ found. between es 0 256 ≡ (found.0, looked_at found.1) ∷ between es (found.0 + 1) 256)
      → option_map (λ found. (found.0, looked_at found.1)) o ≡ first_of es
  first_seen None none some = ap (λ t. first_of t) (sym none ∙ all_there)
  first_seen (Some found) none some = ap (λ t. first_of t) (sym some ∙ all_there)

  pub last_seen : (o : Option (ℕ × Child P)) → o ≡ last_of (between es 0 256) → o ≡ last_of es
  last_seen o is = is ∙ ap (λ t. last_of t) all_there

module _ {P : Type 0} (s : NodeTable P) where
  last-append : (xs ys : Pairs P) → HasSome s ys → last_of (xs ++ ys) ≡ last_of ys
  last-append [] ys some = refl
  last-append (x ∷ []) ys some = rw some.is refl
  last-append (x ∷ z ∷ xs) ys some = last-append (z ∷ xs) ys some

  some_last : (xs ys : Pairs P) → HasSome s ys → HasSome s (xs ++ ys)
  some_last [] ys some = some
  some_last (x ∷ xs) ys some = record { first = x; rest = xs ++ ys; is = refl }

  module _ (below : ℕ → Pairs P) (p : List ℕ) where
    -- the pair at a side is below the child at that side
    first_child : (es : List (ℕ × Child P)) (e : ℕ × Child P) → first_of es ≡ Some e → HasSome s (pairs_under below p e.0 e.1) → first_of (pairs_of below p es) ≡ first_of (pairs_under below p e.0 e.1)
    first_child [] e is some = absurd (cc)
    first_child (x ∷ es) e is some =
        let same : x ≡ e = cc in
        subst (λ (y : ℕ × Child P). first_of (pairs_of below p (y ∷ es)) ≡ first_of (pairs_under below p e.0 e.1)) (sym same) (rw some.is refl)

    -- some are below it, so the children have some
    last_child : (es : List (ℕ × Child P)) (e : ℕ × Child P) → last_of es ≡ Some e → HasSome s (pairs_under below p e.0 e.1)
        → HasSome s (pairs_of below p es) × (last_of (pairs_of below p es) ≡ last_of (pairs_under below p e.0 e.1))
    last_child [] e is some = absurd (cc)
    last_child (x ∷ []) e is some =
        let same : x ≡ e = cc in
        let all : pairs_of below p (x ∷ []) ≡ pairs_under below p e.0 e.1 = append-nil (pairs_under below p x.0 x.1) ∙ ap (λ (y : ℕ × Child P). pairs_under below p y.0 y.1) same in
        (subst (HasSome s) (sym all) some, ap (λ t. last_of t) all)
    last_child (x ∷ y ∷ es) e is some =
        let rest = last_child (y ∷ es) e is some in (
          some_last (pairs_under below p x.0 x.1) (pairs_of below p (y ∷ es)) rest.0,
          last-append (pairs_under below p x.0 x.1) (pairs_of below p (y ∷ es)) rest.0 ∙ rest.1,
        )

    side_child : (side : Side) (es : List (ℕ × Child P)) (e : ℕ × Child P) → at_side side es ≡ Some e → HasSome s (pairs_under below p e.0 e.1) → at_side side (pairs_of below p es) ≡ at_side side (pairs_under below p e.0 e.1)
    side_child First es e is some = first_child es e is some
    side_child Last es e is some = (last_child es e is some).1

  -- below no child there is an empty node
  child_filled : (below : List ℕ → ℕ → List NodeInfo) (p : List ℕ) (es : List (ℕ × Child P)) (b j : ℕ) → lookup es b ≡ Some (Node j) → AreFilled (nodes_of below p es) → AreFilled (below (p ++ b ∷ []) j)
  child_filled below p [] b j is h = absurd (cc)
  child_filled below p ((k, c) ∷ es) b j is h =
      elim (cases_eq k b) [
        | inl same ↦
            let both : Some c ≡ Some (Node j) = rw (eq-eqb k b same) at is in
            let child : c ≡ Node j = cc in
            let first = filled_left (nodes_under below p k c) (nodes_of below p es) h in
            subst (λ i. AreFilled (below (p ++ i ∷ []) j)) same (subst (λ (d : Child P). AreFilled (nodes_under below p k d)) child first)
        | inr other ↦ child_filled below p es b j (rw (ne_eqb k b other) at is) (filled_right (nodes_under below p k c) (nodes_of below p es) h)
      ]

snoc_some : (p : List ℕ) (b : ℕ) → p ++ b ∷ [] ≡ [] → ⊥
snoc_some [] b e = cc
snoc_some (x ∷ p) b e = cc

-- a key below a byte of a node
record Into (p : List ℕ) (b : ℕ) (key : List ℕ) : Type 0 where
  pub begins : Begins p key
  pub next : next_byte p key ≡ b

next_there : (p : List ℕ) (b : ℕ) (r : List ℕ) → get_or (p ++ b ∷ r) (length p) 0 ≡ b
next_there [] b r = refl
next_there (x ∷ p) b r = next_there p b r

into : (p : List ℕ) (b : ℕ) (key : List ℕ) → Begins (p ++ b ∷ []) key → Into p b key
into p b key h =
    let x = after_prefix h in
    let is : key ≡ p ++ b ∷ x.rest = x.is ∙ append_assoc p (b ∷ []) x.rest in
    record { begins = begins_by p (b ∷ x.rest) key is; next = ap (λ k. get_or k (length p) 0) is ∙ next_there p b x.rest }

-- the number of a leaf's key
leaf_number : (p : List ℕ) (b : ℕ) → length p ≡ 7 → from_be_bytes w64 (p ++ replicate (8 - length p) 0) + b ≡ from_be_bytes w64 (p ++ b ∷ [])
leaf_number (a ∷ c ∷ d ∷ e ∷ f ∷ g ∷ h ∷ []) b seven = omega arith
leaf_number _ b seven = absurd (omega arith)

module _ {P : Type 0} (side : Side) (s : NodeTable P) (root : ℕ) where
  -- the descent is at this node: the keys that begin as the node's do pass the same nodes, and the pair at the side is
  -- below it
  pub record OnWay (above slot parent : ℕ) (trail : List ℕ) : Type 0 where
    pub levels : ℕ
    pub q : List ℕ
    pub tree : IsTree s levels q slot
    pub leads : (key : List ℕ) → AreBytes key → length key ≡ 8 → Begins q key → LeadsTo s root key above slot parent
    pub on : (key : List ℕ) → AreBytes key → length key ≡ 8 → Begins q key → IsTrail s root key trail above
    pub up : 0 < above → get_or trail (above - 1) 0 ≡ parent
    pub sum : above + levels ≡ 8
    pub ends : at_side side (pairs_at s levels slot) ≡ at_side side (pairs_at s depth root)
    pub filled : AreFilled (nodes_at s levels q slot)

  pub way_start : (trail : List ℕ) → IsTree s depth [] root → AreFilled (nodes_at s depth [] root) → OnWay 0 root root trail
  way_start trail h filled = record {
    levels = depth;
    q = [];
    tree = h;
    leads = λ key bytes full goes. leads_start s root key h;
    on = λ key bytes full goes. trail_none s root key trail;
    up = λ some. absurd (omega (arith, some));
    sum = omega (arith, depth_is);
    ends = refl;
    filled = filled;
  }

  module _ (above slot parent : ℕ) (trail : List ℕ) (w : OnWay above slot parent trail) where
    -- the node there
    record Opens (n : TableNode P) : Type 0 where
      less : ℕ
      here : node_at s slot ≡ Some n
      sound : IsSound n
      begins : Begins w.q n.prefix
      children : AreChildren (λ r i. IsTree s less r i) n.prefix n.children
      sum : above + suc less ≡ 8
      ends : at_side side (pairs_of (λ i. pairs_at s less i) n.prefix n.children) ≡ at_side side (pairs_at s depth root)
      filled : AreFilled (nodes_of (λ e i. nodes_at s less e i) n.prefix n.children)

    opens : (n : TableNode P) → node_at s slot ≡ Some n → Opens n
    opens n here = go w.levels w.tree w.sum w.ends w.filled
      where
        go : (levels : ℕ) → IsTree s levels w.q slot → above + levels ≡ 8 → at_side side (pairs_at s levels slot) ≡ at_side side (pairs_at s depth root) → AreFilled (nodes_at s levels w.q slot) → Opens n
        go zero h sum ends filled = absurd h
        go (suc less) h sum ends filled =
            let both : Some h.node ≡ Some n = sym h.here ∙ here in
            let same : h.node ≡ n = cc in
            let pairs : pairs_at s (suc less) slot ≡ pairs_of (λ i. pairs_at s less i) n.prefix n.children = rw here refl in
            let all : AreFilled (node_info w.q n ∷ nodes_of (λ e i. nodes_at s less e i) n.prefix n.children) = rw here at filled in
            record {
              less = less;
              here = here;
              sound = subst (λ m. IsSound m) same h.sound;
              begins = subst (λ (m : TableNode P). Begins w.q m.prefix) same h.begins;
              children = subst (λ (m : TableNode P). AreChildren (λ r i. IsTree s less r i) m.prefix m.children) same h.children;
              sum = sum;
              ends = ap (λ es. at_side side es) (sym pairs) ∙ ends;
              filled = all.1;
            }

    pub way_short : above < 8
    way_short = go w.levels w.tree w.sum
      where
        go : (levels : ℕ) → IsTree s levels w.q slot → above + levels ≡ 8 → above < 8
        go zero h sum = absurd h
        go (suc levels) h sum = omega (arith, sum)

    pub way_there : IsSome (node_at s slot)
    way_there = go w.levels w.tree
      where
        go : (levels : ℕ) → IsTree s levels w.q slot → IsSome (node_at s slot)
        go zero h = absurd h
        go (suc levels) h = rw h.here refl

    -- no way on: there is no pair
    pub way_none : (n : TableNode P) → node_at s slot ≡ Some n → None ≡ at_side side n.children → pairs_at s depth root ≡ []
    way_none n here none =
        let o = opens n here in
        let empty = side_none side n.children (sym none) in
        side_none side (pairs_at s depth root)
        (sym o.ends ∙ ap (λ es. at_side side (pairs_of (λ i. pairs_at s o.less i) n.prefix es)) empty ∙ side_empty side)

    -- a node further down
    pub way_step : above < length trail → (n : TableNode P) → node_at s slot ≡ Some n → (b j : ℕ) → Some (b, Node j) ≡ at_side side n.children → OnWay (above + 1) j slot (set trail above slot)
    way_step room n here b j is =
        let o = opens n here in
        let p = n.prefix in
        let end = side_stored side 0 256 n.children (b, Node j) o.sound.ordered (sym is) in
        let child : IsTree s o.less (p ++ b ∷ []) j = IsChild-found s o.less p n.children b (Node j) o.children end.stored in
        let filled = child_filled s (λ e i. nodes_at s o.less e i) p n.children b j end.stored o.filled in
        let some = filled_pairs s o.less (p ++ b ∷ []) j child (snoc_some p b) filled in
        let leads : (key : List ℕ) → AreBytes key → length key ≡ 8 → Begins (p ++ b ∷ []) key → LeadsTo s root key (above + 1) j slot = λ key bytes full goes.
        let x = into p b key goes in
        leads_step s root key above slot parent n (w.leads key bytes full (Begins-trans w.q p key o.begins x.begins)) here x.begins bytes full j (ap (λ k. lookup n.children k) x.next ∙ end.stored)
        in
        record {
          levels = o.less;
          q = p ++ b ∷ [];
          tree = child;
          leads = leads;
          on = λ key bytes full goes.
              let goes' = Begins-trans w.q p key o.begins (into p b key goes).begins in
              trail_more s root key trail above slot parent room (w.on key bytes full goes') (w.leads key bytes full goes') w.up;
          up = λ some. get_or-set_at trail above _ slot 0 (omega arith) room;
          sum = omega (arith, o.sum);
          ends = sym (side_child s (λ i. pairs_at s o.less i) p side n.children (b, Node j) (sym is) some) ∙ o.ends;
          filled = filled;
        }

    -- the pair at the side
    pub record AtEnd (key b : ℕ) : Type 0 where
      pub fits : key < 2 ^ 64
      pub ends : SeeksTo s root (to_be_bytes w64 key) (record { slot = slot; parent = parent; above = above; stop = stops.Leaf b })
      pub on : IsTrail s root (to_be_bytes w64 key) (set trail above slot) (above + 1)
      pub is : Some key ≡ option_map (λ e. e.0) (at_side side (pairs_at s depth root))

    pub way_end : above < length trail → (n : TableNode P) → node_at s slot ≡ Some n → (b : ℕ) (v : P) → Some (b, Payload v) ≡ at_side side n.children
        → (q : List ℕ) → q ≡ n.prefix → (first : ℕ) → first ≡ from_be_bytes w64 (q ++ replicate (8 - length q) 0) → AtEnd (first + b) b
    way_end room n here b v is q same first first_is =
        let o = opens n here in
        let p = n.prefix in
        let key = p ++ b ∷ [] in
        let end = side_stored side 0 256 n.children (b, Payload v) o.sound.ordered (sym is) in
        let seven : length p ≡ 7 = IsChild-found s o.less p n.children b (Payload v) o.children end.stored in
        let bytes : AreBytes key = AreBytes-append p (b ∷ []) o.sound.bytes (end.inside, tt) in
        let full : length key ≡ 8 = simp length-append (omega (arith, seven)) in
        let number : first + b ≡ from_be_bytes w64 key =
        ap (λ x. x + b) (first_is ∙ ap (λ r. from_be_bytes w64 (r ++ replicate (8 - length r) 0)) same) ∙ leaf_number p b seven
        in
        let back : to_be_bytes w64 (first + b) ≡ key = be_bytes_8 key (first + b) full (λ i. byte_at key bytes i) number in
        let low_is : key_number key ≡ first + b = key_number-be_bytes key full ∙ sym number in
        let x = into p b key (begins_itself key) in
        let goes = Begins-trans w.q p key o.begins x.begins in
        let leads = w.leads key bytes full goes in
        let bound = least-bound 8 key bytes (omega arith) in
        let some = room-positive 8 key in
        let one = side_child s (λ i. pairs_at s o.less i) p side n.children (b, Payload v) (sym is) (record { first = (low key, v); rest = []; is = refl }) in
        record {
          fits = omega (arith, bound, some, low_is);
          ends = subst (λ k. SeeksTo s root k (record { slot = slot; parent = parent; above = above; stop = stops.Leaf b })) (sym back) (record { leads = leads; node = n; here = here; stop = (sym x.next, x.begins, seven) });
          on = subst (λ k. IsTrail s root k (set trail above slot) (above + 1)) (sym back) (trail_more s root key trail above slot parent room (w.on key bytes full goes) leads w.up);
          is = ap (λ k. Some k) (sym low_is) ∙ sym (ap (λ o. option_map (λ e. e.0) o) (sym o.ends ∙ one ∙ side_one side (low key, v)));
        }

-- what no pair comes before, no child on the way to the first does
module _ {P : Type 0} (s : NodeTable P) (root above slot parent : ℕ) (trail : List ℕ) (w : OnWay First s root above slot parent trail) (n : TableNode P) (here : node_at s slot ≡ Some n)
    (key : List ℕ) (bytes : AreBytes key) (full : length key ≡ 8) (bound : Rises (key_number key) (2 ^ 64) (pairs_at s depth root)) (begins : Begins n.prefix key) where
  record Before (b : ℕ) (c : Child P) (less : ℕ) : Type 0 where
    some : HasSome s (pairs_under (λ i. pairs_at s less i) n.prefix b c)
    rises : Rises (low (n.prefix ++ b ∷ [])) (high (n.prefix ++ b ∷ [])) (pairs_under (λ i. pairs_at s less i) n.prefix b c)

  before : (b : ℕ) (c : Child P) → first_of n.children ≡ Some (b, c) → Before b c (opens First s root above slot parent trail w n here).less
  before b (Payload v) is =
      let room = room-positive 8 (n.prefix ++ b ∷ []) in
      record { some = record { first = (low (n.prefix ++ b ∷ []), v); rest = []; is = refl }; rises = (omega arith, omega (arith, room), tt) }
  before b (Node j) is =
      let o = opens First s root above slot parent trail w n here in
      let end = side_stored First 0 256 n.children (b, Node j) o.sound.ordered is in
      let child : IsTree s o.less (n.prefix ++ b ∷ []) j = IsChild-found s o.less n.prefix n.children b (Node j) o.children end.stored in
      let filled = child_filled s (λ e i. nodes_at s o.less e i) n.prefix n.children b j end.stored o.filled in
      record { some = filled_pairs s o.less (n.prefix ++ b ∷ []) j child (snoc_some n.prefix b) filled; rises = tree_rises s o.less (n.prefix ++ b ∷ []) j child }

  pub way_bound : (b : ℕ) (c : Child P) → first_of n.children ≡ Some (b, c) → next_byte n.prefix key ≤ b
  way_bound b c is =
      let o = opens First s root above slot parent trail w n here in
      let x = before b c is in
      let one = first_child s (λ i. pairs_at s o.less i) n.prefix n.children (b, c) is x.some in
      let first : first_of (pairs_under (λ i. pairs_at s o.less i) n.prefix b c) ≡ Some x.some.first = ap (λ es. first_of es) x.some.is in
      let below = (first_at _ _ _ x.some.first x.rises first).to in
      let from = (first_at _ _ _ x.some.first bound (sym o.ends ∙ one ∙ first)).from in
      let goes = goes_on n.prefix key begins bytes o.sound.short full in
      elim (cases_lt b (next_byte n.prefix key)) [
        | inl less ↦ let order = byte_order 8 n.prefix b (next_byte n.prefix key) less (omega (arith, o.sound.short)) in absurd (omega (arith, below, from, order, goes.at_least))
        | inr more ↦ more
      ]

key_bytes : (n : ℕ) → AreBytes (to_be_bytes w64 n)
key_bytes n = (omega arith, (omega arith, (omega arith, (omega arith, (omega arith, (omega arith, (omega arith, (omega arith, tt))))))))

-- the removal of the pair at the side, as contracts see it
module _ {P A : Type 0} (charge : A → Option Charge) (s : NodeTable P) (root : ℕ) (old : SupplyView A) (count : ℕ) (i : IsWhole s root old.forms count) (w : TreeView P A)
    (seen : ◌≡◌ {A = TreeView P A} (record { pairs = pairs_at s depth root; nodes = nodes_at s depth [] root; budget = old.budget }) w)
    (side : Side) (key : ℕ) (is : Some key ≡ option_map (λ e. e.0) (at_side side (pairs_at s depth root)))
    (spot : PathEnd) (ends : SeeksTo s root (to_be_bytes w64 key) spot) (trail : List ℕ) (on : IsTrail s root (to_be_bytes w64 key) trail (spot.above + 1)) where
  pop_side : Some key ≡ option_map (λ e. e.0) (at_side side w.pairs)
  pop_side = rw (← seen) is

  pop_key : from_be_bytes w64 (to_be_bytes w64 key) ≡ key
  pop_key = from_be_bytes-to_be_bytes_8 key (side_inside side w.pairs 0 (2 ^ 64) key (ordered charge s root old count i w seen) pop_side)

  pub pop_found : NothingIsStored s spot.slot spot.stop → ⊥
  pop_found nothing =
      side_present side w.pairs 0 (2 ^ 64) key (ordered charge s root old count i w seen) pop_side
      (ap (λ k. lookup w.pairs k) (sym pop_key) ∙ nothing_seen charge s root old count i w seen (to_be_bytes w64 key) (key_bytes key) refl spot ends nothing)

  pub record Popped (shrinks : Bool) (t : NodeTable P) (new : SupplyView A) (v : P) : Type 0 where
    pub some : 1 ≤ count
    pub whole : IsWhole t root new.forms (count - 1)
    pub removes : Removes charge w key (Some v) (after charge s root old count i w seen t new)
    pub in_place : shrinks ≡ false → LosesInPlace w.nodes (to_be_bytes w64 key) (nodes_at t depth [] root)
    pub pair : Some (key, v) ≡ at_side side w.pairs

  pub popped : (shrinks : Bool) (t : NodeTable P) (v : P) (new : SupplyView A) → IsStoredWhere s spot.slot spot.stop v → IsRemoval s (get_or trail 0 0) (to_be_bytes w64 key) shrinks t new.forms → Alike charge old new → Popped shrinks t new v
  popped shrinks t v new at_key removal alike =
      let x = taken_out charge s root old count i w seen (to_be_bytes w64 key) (key_bytes key) refl spot ends trail on shrinks t v new at_key removal alike in
      let removes : Removes charge w key (Some v) (after charge s root old count i w seen t new) = subst (λ k. Removes charge w k (Some v) (after charge s root old count i w seen t new)) pop_key x.removes in
      record {
        some = x.some;
        whole = x.whole;
        removes = removes;
        in_place = x.in_place;
        pair = side_pair side w.pairs 0 (2 ^ 64) key v (ordered charge s root old count i w seen) pop_side removes.before;
      }
