-- What changes in a table do to the list of a tree's nodes.
use Rattle.std.proofs.Common.{◌≡◌, ◌≢◌, ℕ, zero, suc, ◌+◌, ◌<◌, ◌≤◌, List, [], ◌∷◌, ◌++◌, length, Some, None, refl, ap, sym, subst, ◌∙◌, arith, inl, inr, append_assoc, append-nil, length-append}
use Rattle.std.proofs.lemmas.Bool.{lt-ltb, le-ltb, eq-eqb, ne_eqb, cases_order}
use Rattle.node_table.proofs.BeginLaws.{after, begins_append, begins_itself}
use Rattle.spec_map.specs.Map.{lookup, put, Rises}
use Rattle.spec_node.specs.Key.{Begins}
use Rattle.node_table.specs.Table.{NodeTable, NodeInfo, node_at, node_info, nodes_under, nodes_of, nodes_at, IsChild, AreChildren, IsTree}
use Rattle.node_table.specs.Shape.{Replaces, AreUnder, AllBegin}
use Rattle.spec_node.specs.TableNode.{TableNode, Child}
use Rattle.spec_node.specs.declared.child.Child.TheVariants.{Payload, Node}
use Rattle.spec_map.proofs.MapLaws.{lookup-below}
use Rattle.node_table.proofs.DownLaws.{Begins-trans, KeepsBelow, KeepsOthers, keeps_longer, keeps_sibling}
use Rattle.node_table.proofs.WriteLaws.{KeepsSlots, keeps_children}
use Rattle.node_table.proofs.EachLaws.{each, each_from, nodes_of-each}

pub AllBegin-shorter : (p q : List ℕ) (ns : List NodeInfo) → Begins p q → AllBegin q ns → AllBegin p ns
AllBegin-shorter p q [] b h = tt
AllBegin-shorter p q (n ∷ ns) b h = (Begins-trans p q n.edge b h.0, AllBegin-shorter p q ns b h.1)

pub AllBegin-append : (q : List ℕ) (xs ys : List NodeInfo) → AllBegin q xs → AllBegin q ys → AllBegin q (xs ++ ys)
AllBegin-append q [] ys h k = k
AllBegin-append q (x ∷ xs) ys h k = (h.0, AllBegin-append q xs ys h.1 k)

pub Replaces-trans : (old new xs ys gone come : List NodeInfo) → Replaces old new xs ys → Replaces xs ys gone come → Replaces old new gone come
Replaces-trans old new xs ys gone come r q = record {
  before = r.before ++ q.before;
  after = q.after ++ r.after;
  was = r.was ∙ ap (λ x. r.before ++ (x ++ r.after)) q.was ∙ around gone;
  is = r.is ∙ ap (λ x. r.before ++ (x ++ r.after)) q.is ∙ around come;
}
  where
    around : (mid : List NodeInfo) → r.before ++ ((q.before ++ (mid ++ q.after)) ++ r.after) ≡ (r.before ++ q.before) ++ (mid ++ (q.after ++ r.after))
    around mid =
        ap (λ x. r.before ++ x) (append_assoc q.before (mid ++ q.after) r.after ∙ ap (λ x. q.before ++ x) (append_assoc mid q.after r.after))
        ∙ sym (append_assoc r.before q.before (mid ++ (q.after ++ r.after)))

-- with the same nodes in front
pub Replaces-behind : (front old new gone come : List NodeInfo) → Replaces old new gone come → Replaces (front ++ old) (front ++ new) gone come
Replaces-behind front old new gone come r = record {
  before = front ++ r.before;
  after = r.after;
  was = ap (λ x. front ++ x) r.was ∙ sym (append_assoc front r.before (gone ++ r.after));
  is = ap (λ x. front ++ x) r.is ∙ sym (append_assoc front r.before (come ++ r.after));
}

pub Replaces-all : (gone come : List NodeInfo) → Replaces gone come gone come
Replaces-all gone come = record { before = []; after = []; was = sym (append-nil gone); is = sym (append-nil come) }

pub AreUnder-from : (Passes : ℕ → Type 0) (p : List ℕ) (c : ℕ) (ns : List NodeInfo) → Passes c → AllBegin (p ++ c ∷ []) ns → AreUnder Passes p ns
AreUnder-from Passes p c [] l h = tt
AreUnder-from Passes p c (n ∷ ns) l h = (record { byte = c; passes = l; begins = h.0 }, AreUnder-from Passes p c ns l h.1)

pub AreUnder-append : (Passes : ℕ → Type 0) (p : List ℕ) (xs ys : List NodeInfo) → AreUnder Passes p xs → AreUnder Passes p ys → AreUnder Passes p (xs ++ ys)
AreUnder-append Passes p [] ys h k = k
AreUnder-append Passes p (x ∷ xs) ys h k = (h.0, AreUnder-append Passes p xs ys h.1 k)

module _ {P : Type 0} where
  abbrev pub below : NodeTable P → ℕ → List ℕ → ℕ → List NodeInfo
  below s levels e j = nodes_at s levels e j

  children_begin : (s : NodeTable P) (levels : ℕ) → ((q : List ℕ) (slot : ℕ) → IsTree s levels q slot → AllBegin q (nodes_at s levels q slot))
      → (p : List ℕ) (es : List (ℕ × Child P)) → AreChildren (λ r j. IsTree s levels r j) p es → AllBegin p (nodes_of (below s levels) p es)
  children_begin s levels ih p [] h = tt
  children_begin s levels ih p ((b, Payload v) ∷ es) h = children_begin s levels ih p es h.1
  children_begin s levels ih p ((b, Node j) ∷ es) h =
      AllBegin-append p (nodes_at s levels (p ++ b ∷ []) j) (nodes_of (below s levels) p es)
      (AllBegin-shorter p (p ++ b ∷ []) (nodes_at s levels (p ++ b ∷ []) j) (begins_append p (b ∷ [])) (ih (p ++ b ∷ []) j h.0)) (children_begin s levels ih p es h.1)

  -- all bytes above a subtree lead to each of its nodes
  pub nodes_begin : (s : NodeTable P) (levels : ℕ) (q : List ℕ) (slot : ℕ) → IsTree s levels q slot → AllBegin q (nodes_at s levels q slot)
  nodes_begin s zero q slot h = absurd h
  nodes_begin s (suc levels) q slot h =
      rw h.here (
        begins_itself q,
        AllBegin-shorter q h.node.prefix (nodes_of (below s levels) h.node.prefix h.node.children) h.begins (children_begin s levels (nodes_begin s levels) h.node.prefix h.node.children h.children),
      )

  pub all_below : (s : NodeTable P) (levels : ℕ) (p : List ℕ) (es : List (ℕ × Child P)) → AreChildren (λ r j. IsTree s levels r j) p es → AllBegin p (nodes_of (below s levels) p es)
  all_below s levels p es h = children_begin s levels (nodes_begin s levels) p es h

  -- the nodes of the subtree are the same in both tables
  abbrev SameNodes : NodeTable P → NodeTable P → ℕ → List ℕ → ℕ → Type 0
  SameNodes s t levels q slot = nodes_at t levels q slot ≡ nodes_at s levels q slot

  -- a subtree whose nodes are unchanged
  pub frame_nodes : (s t : NodeTable P) (levels : ℕ) (q : List ℕ) (slot : ℕ) → IsTree s levels q slot → KeepsBelow q s t → nodes_at t levels q slot ≡ nodes_at s levels q slot
  frame_nodes s t zero q slot h k = absurd h
  frame_nodes s t (suc levels) q slot h k =
      let there = k slot h.node h.here h.begins in
      let longer : (b : ℕ) → KeepsBelow (h.node.prefix ++ b ∷ []) s t
      = λ b. keeps_longer h.node.prefix (h.node.prefix ++ b ∷ []) s t (begins_append h.node.prefix (b ∷ [])) (keeps_longer q h.node.prefix s t h.begins k) in
      let c = nodes_of-each (below t levels) (below s levels) h.node.prefix h.node.children
      (each (λ r j. IsTree s levels r j) (λ r j. SameNodes s t levels r j) h.node.prefix h.node.children (λ b j tree. frame_nodes s t levels (h.node.prefix ++ b ∷ []) j tree (longer b)) h.children) in
      rw (there, h.here) (ap (λ x. node_info q h.node ∷ x) c)

  -- the children of the one node that changed
  pub kept_nodes : (s t : NodeTable P) (levels slot : ℕ) (n : TableNode P) → node_at s slot ≡ Some n → KeepsSlots slot s t → (es : List (ℕ × Child P)) → AreChildren (λ r j. IsTree s levels r j) n.prefix es
      → nodes_of (below t levels) n.prefix es ≡ nodes_of (below s levels) n.prefix es
  kept_nodes s t levels slot n here k es h =
      nodes_of-each (below t levels) (below s levels) n.prefix es (each (λ r j. IsTree s levels r j) (λ r j. SameNodes s t levels r j) n.prefix es
      (λ b j tree. frame_nodes s t levels (n.prefix ++ b ∷ []) j tree (keeps_children s t slot b n here k)) h)

  -- the children beside the one whose subtree changed
  sibling_nodes : (s t : NodeTable P) (levels : ℕ) (p : List ℕ) (b : ℕ) → KeepsOthers (p ++ b ∷ []) s t → (d : ℕ) (es : List (ℕ × Child P)) → b < d → Rises d 256 es → AreChildren (λ r j. IsTree s levels r j) p es
      → nodes_of (below t levels) p es ≡ nodes_of (below s levels) p es
  sibling_nodes s t levels p b k d es l o h =
      nodes_of-each (below t levels) (below s levels) p es (each_from (λ r j. IsTree s levels r j) (λ r j. SameNodes s t levels r j) p d es o
      (λ c j from tree. frame_nodes s t levels (p ++ c ∷ []) j tree (keeps_sibling s t p b c (omega arith) k)) h)

  one_child : (s t : NodeTable P) (levels : ℕ) (p : List ℕ) (b c : ℕ) (x : Child P) → KeepsOthers (p ++ b ∷ []) s t → b ≢ c → IsChild (λ r i. IsTree s levels r i) p c x
      → nodes_under (below t levels) p c x ≡ nodes_under (below s levels) p c x
  one_child s t levels p b c (Payload w) others differ h = refl
  one_child s t levels p b c (Node i) others differ h = frame_nodes s t levels (p ++ c ∷ []) i h (keeps_sibling s t p b c differ others)

  down_children : (s t : NodeTable P) (levels : ℕ) (p : List ℕ) (b j : ℕ) → KeepsOthers (p ++ b ∷ []) s t → (d : ℕ) (es : List (ℕ × Child P)) → Rises d 256 es → AreChildren (λ r i. IsTree s levels r i) p es → lookup es b ≡ Some (Node j)
      → Replaces (nodes_of (below s levels) p es) (nodes_of (below t levels) p es) (nodes_at s levels (p ++ b ∷ []) j) (nodes_at t levels (p ++ b ∷ []) j)
  down_children s t levels p b j others d [] o h found = absurd (cc)
  down_children s t levels p b j others d (e ∷ es) o h found =
      elim (cases_order e.0 b) [
        | inl same ↦
            let found' : Some e.1 ≡ Some (Node j) = rw (eq-eqb e.0 b same) at found in
            let is : e.1 ≡ Node j = cc in
            let rest = sibling_nodes s t levels p b others (e.0 + 1) es (omega arith) o.2 h.1 in
            record {
              before = [];
              after = nodes_of (below s levels) p es;
              was = subst (λ c. nodes_under (below s levels) p e.0 c ++ nodes_of (below s levels) p es ≡ nodes_at s levels (p ++ b ∷ []) j ++ nodes_of (below s levels) p es) (sym is)
                  (ap (λ x. nodes_at s levels (p ++ x ∷ []) j ++ nodes_of (below s levels) p es) same);
              is = subst (λ c. nodes_under (below t levels) p e.0 c ++ nodes_of (below t levels) p es ≡ nodes_at t levels (p ++ b ∷ []) j ++ nodes_of (below s levels) p es) (sym is)
                  (ap (λ x. nodes_at t levels (p ++ x ∷ []) j ++ nodes_of (below t levels) p es) same ∙ ap (λ x. nodes_at t levels (p ++ b ∷ []) j ++ x) rest);
            }
        | inr (inl less) ↦
            let found' = rw (ne_eqb e.0 b (omega arith)) at found in
            let rest = down_children s t levels p b j others (e.0 + 1) es o.2 h.1 found' in
            let differ : b ≢ e.0 = omega arith in
            let here = one_child s t levels p b e.0 e.1 others differ h.0 in
            subst (λ x. Replaces (nodes_under (below s levels) p e.0 e.1 ++ nodes_of (below s levels) p es) (x ++ nodes_of (below t levels) p es) (nodes_at s levels (p ++ b ∷ []) j) (nodes_at t levels (p ++ b ∷ []) j)) (sym here)
            (Replaces-behind (nodes_under (below s levels) p e.0 e.1) (nodes_of (below s levels) p es) (nodes_of (below t levels) p es) (nodes_at s levels (p ++ b ∷ []) j) (nodes_at t levels (p ++ b ∷ []) j) rest)
        | inr (inr more) ↦
            let found' = rw (ne_eqb e.0 b (omega arith), lookup-below (e.0 + 1) 256 es b o.2 (omega arith)) at found in absurd (cc)
      ]

  -- the whole subtree, where the one under its node's byte b changed
  pub down_nodes : (s t : NodeTable P) (levels : ℕ) (q : List ℕ) (slot b j : ℕ) (h : IsTree s (suc levels) q slot) → lookup h.node.children b ≡ Some (Node j) → KeepsOthers (h.node.prefix ++ b ∷ []) s t
      → Replaces (nodes_at s (suc levels) q slot) (nodes_at t (suc levels) q slot) (nodes_at s levels (h.node.prefix ++ b ∷ []) j) (nodes_at t levels (h.node.prefix ++ b ∷ []) j) × KeepsOthers q s t
  down_nodes s t levels q slot b j h found others =
      let n = h.node in
      let c = down_children s t levels n.prefix b j others 0 n.children h.sound.ordered h.children found in
      let itself : Begins (n.prefix ++ b ∷ []) n.prefix → ⊥ = λ g. let l = simp (length-append, length-append) at (ap length (after g).is) in omega arith in
      let there = others slot n h.here itself in (
        rw (there, h.here) (Replaces-behind (node_info q n ∷ []) (nodes_of (below s levels) n.prefix n.children) (nodes_of (below t levels) n.prefix n.children) (nodes_at s levels (n.prefix ++ b ∷ []) j) (nodes_at t levels (n.prefix ++ b ∷ []) j) c),
        λ i m here not_below. others i m here (λ g. not_below (Begins-trans q n.prefix m.prefix h.begins (Begins-trans n.prefix (n.prefix ++ b ∷ []) m.prefix (begins_append n.prefix (b ∷ [])) g))),
      )

  relevel_children : (s : NodeTable P) (m n : ℕ) → ((q : List ℕ) (slot : ℕ) → IsTree s m q slot → 8 ≤ length q + n → nodes_at s n q slot ≡ nodes_at s m q slot)
      → (p : List ℕ) (es : List (ℕ × Child P)) → AreChildren (λ r j. IsTree s m r j) p es → 7 ≤ length p + n → nodes_of (below s n) p es ≡ nodes_of (below s m) p es
  relevel_children s m n ih p [] h l = refl
  relevel_children s m n ih p ((b, Payload v) ∷ es) h l = relevel_children s m n ih p es h.1 l
  relevel_children s m n ih p ((b, Node j) ∷ es) h l =
      let r = relevel_children s m n ih p es h.1 l in
      let longer = length-append p (b ∷ []) in
      let f = ih (p ++ b ∷ []) j h.0 (omega arith) in
      ap (λ x. x ++ nodes_of (below s n) p es) f ∙ ap (λ x. nodes_at s m (p ++ b ∷ []) j ++ x) r

  -- a subtree needs no more levels than its keys have bytes left
  pub relevel_nodes : (s : NodeTable P) (m n : ℕ) (q : List ℕ) (slot : ℕ) → IsTree s m q slot → 8 ≤ length q + n → nodes_at s n q slot ≡ nodes_at s m q slot
  relevel_nodes s zero n q slot h l = absurd h
  relevel_nodes s (suc m) zero q slot h l = let k = simp length-append at (ap length (after h.begins).is) in absurd (omega (arith, h.sound.short, k))
  relevel_nodes s (suc m) (suc n) q slot h l =
      let k = simp length-append at (ap length (after h.begins).is) in
      let c = relevel_children s m n (relevel_nodes s m n) h.node.prefix h.node.children h.children (omega (arith, k)) in
      rw h.here (ap (λ x. node_info q h.node ∷ x) c)

  -- below seven bytes there are no nodes
  pub none_below_seven : (s : NodeTable P) (levels : ℕ) (p : List ℕ) (b j : ℕ) → length p ≡ 7 → IsTree s levels (p ++ b ∷ []) j → ⊥
  none_below_seven s zero p b j seven h = h
  none_below_seven s (suc levels) p b j seven h =
      let one = length-append p (b ∷ []) in
      let long = simp length-append at (ap length (after h.begins).is) in
      omega (arith, one, long, seven, h.sound.short)

  pub leaf_nodes : (s : NodeTable P) (levels : ℕ) (p : List ℕ) (es : List (ℕ × Child P)) → length p ≡ 7 → AreChildren (λ r j. IsTree s levels r j) p es → nodes_of (below s levels) p es ≡ []
  leaf_nodes s levels p [] seven h = refl
  leaf_nodes s levels p ((b, Payload v) ∷ es) seven h = leaf_nodes s levels p es seven h.1
  leaf_nodes s levels p ((b, Node j) ∷ es) seven h = absurd (none_below_seven s levels p b j seven h.0)

  pub leaf_alone : (s : NodeTable P) (levels : ℕ) (q : List ℕ) (slot : ℕ) (n : TableNode P) → IsTree s levels q slot → node_at s slot ≡ Some n → length n.prefix ≡ 7 → nodes_at s levels q slot ≡ node_info q n ∷ []
  leaf_alone s zero q slot n h here seven = absurd h
  leaf_alone s (suc levels) q slot n h here seven =
      let both : Some h.node ≡ Some n = sym h.here ∙ here in
      let is : h.node ≡ n = cc in
      subst (λ m. nodes_at s (suc levels) q slot ≡ node_info q m ∷ []) is
      (rw h.here (ap (λ x. node_info q h.node ∷ x) (leaf_nodes s levels h.node.prefix h.node.children (subst (λ (m : TableNode P). length m.prefix ≡ 7) (sym is) seven) h.children)))

  -- a child put under a byte that had none, among the nodes below the others
  pub record PutAmong (s : NodeTable P) (levels : ℕ) (p : List ℕ) (es : List (ℕ × Child P)) (b j : ℕ) : Type 0 where
    pub left : List NodeInfo
    pub right : List NodeInfo
    pub smaller : AreUnder (λ c. c < b) p left
    pub greater : AreUnder (λ c. b < c) p right
    pub was : nodes_of (below s levels) p es ≡ left ++ right
    pub is : nodes_of (below s levels) p (put es b (Node j)) ≡ left ++ (nodes_at s levels (p ++ b ∷ []) j ++ right)

  pub under_begin : (s : NodeTable P) (levels : ℕ) (p : List ℕ) (b : ℕ) (c : Child P) → IsChild (λ r j. IsTree s levels r j) p b c → AllBegin (p ++ b ∷ []) (nodes_under (below s levels) p b c)
  under_begin s levels p b (Payload v) h = tt
  under_begin s levels p b (Node j) h = nodes_begin s levels (p ++ b ∷ []) j h

  pub all_greater : (s : NodeTable P) (levels : ℕ) (p : List ℕ) (b d : ℕ) (es : List (ℕ × Child P)) → b < d → Rises d 256 es → AreChildren (λ r i. IsTree s levels r i) p es → AreUnder (λ c. b < c) p (nodes_of (below s levels) p es)
  all_greater s levels p b d [] l o h = tt
  all_greater s levels p b d (e ∷ es) l o h =
      AreUnder-append (λ c. b < c) p (nodes_under (below s levels) p e.0 e.1) (nodes_of (below s levels) p es)
      (AreUnder-from (λ c. b < c) p e.0 (nodes_under (below s levels) p e.0 e.1) (omega (arith, o.0)) (under_begin s levels p e.0 e.1 h.0))
      (all_greater s levels p b (e.0 + 1) es (omega (arith, o.0)) o.2 h.1)

  pub put_among : (s : NodeTable P) (levels : ℕ) (p : List ℕ) (d : ℕ) (es : List (ℕ × Child P)) (b j : ℕ) → Rises d 256 es → AreChildren (λ r i. IsTree s levels r i) p es → lookup es b ≡ None → PutAmong s levels p es b j
  put_among s levels p d [] b j o h none = record { left = []; right = []; smaller = tt; greater = tt; was = refl; is = refl }
  put_among s levels p d (e ∷ es) b j o h none =
      elim (cases_order e.0 b) [
        | inl same ↦ absurd (let none' = rw (eq-eqb e.0 b same) at none in cc)
        | inr (inl less) ↦
            let none' = rw (ne_eqb e.0 b (omega arith)) at none in
            let r = put_among s levels p (e.0 + 1) es b j o.2 h.1 none' in
            let here = nodes_under (below s levels) p e.0 e.1 in
            let put_is : put (e ∷ es) b (Node j) ≡ e ∷ put es b (Node j) = rw (lt-ltb e.0 b less) refl in
            record {
              left = here ++ r.left;
              right = r.right;
              smaller = AreUnder-append (λ c. c < b) p here r.left (AreUnder-from (λ c. c < b) p e.0 here less (under_begin s levels p e.0 e.1 h.0)) r.smaller;
              greater = r.greater;
              was = ap (λ x. here ++ x) r.was ∙ sym (append_assoc here r.left r.right);
              is = ap (λ x. nodes_of (below s levels) p x) put_is ∙ ap (λ x. here ++ x) r.is ∙ sym (append_assoc here r.left (nodes_at s levels (p ++ b ∷ []) j ++ r.right));
            }
        | inr (inr more) ↦
            let put_is : put (e ∷ es) b (Node j) ≡ (b, Node j) ∷ e ∷ es = rw (le-ltb e.0 b (omega arith), ne_eqb e.0 b (omega arith)) refl in
            record {
              left = [];
              right = nodes_of (below s levels) p (e ∷ es);
              smaller = tt;
              greater = all_greater s levels p b (b + 1) (e ∷ es) (omega arith) (omega arith, o.1, o.2) h;
              was = refl;
              is = ap (λ x. nodes_of (below s levels) p x) put_is;
            }
      ]
