-- A held node is unlocked: as it was, with one more value, or for good.
use Rattle.std.proofs.Common.{◌≡◌, ◌≢◌, ℕ, zero, suc, ◌+◌, ◌*◌, ◌/◌, ◌<◌, ◌≤◌, List, [], ◌∷◌, ◌++◌, length, set, nat_eq, Option, Some, None, refl, sym, ap, ◌∙◌, subst, arith}
use mathlib.Core.Option.{some}
use mathlib.Core.Logic.{dite}
use native.Mathlib.Decide.{ℕ_discrete}
use lib.ListN.{get_elem?}
use Rattle.spec_node.specs.TableNode.{TableNode, Child}
use Rattle.spec_node.specs.declared.child.Child.TheVariants.{Payload}
use Rattle.spec_map.specs.Map.{Pairs, lookup, put}
use Rattle.spec_map.proofs.MapLaws.{lookup-put_same, lookup-put_other}
use Rattle.share_rule.specs.History.{Entry, IsHistory}
use Rattle.share_rule.specs.inner.Rule.{HasSeen}
use Rattle.live_nodes.proofs.Frames.{each_map, below, put_at, put_here, put_else}
use Rattle.live_nodes.specs.Nodes.{Content, Node, node, node_at}
use Rattle.live_nodes.specs.Seats.{Each}
use Rattle.live_nodes.specs.Acts as acts
use Rattle.live_layout.specs.Encodes.{words_of, Encodes, with_child}
use Rattle.live_nodes.specs.Levels.{up, digit, Shape, Covers, Spot}
use Rattle.live_nodes.specs.Views.{View, view_of, Own, locked, detached, root_word, rest_of, content_of, Ask, inserted}
use Rattle.live_nodes.specs.Tree.{Plan, home_of, IsFree, HasValue, IsUnder, IsCurrent, IsMet, IsOwn, IsLocked, IsDetached, IsApart, IsTree, IsMap, StaysSame, Inserts}
use Rattle.live_nodes.proofs.Histories.{put_legal, others_alike, sees_all, sees_less}
use Rattle.live_nodes.proofs.Plans.{joined}
use Rattle.live_nodes.proofs.Looks.{at_leaf}
use Rattle.live_nodes.proofs.Makes.{encodes-long}
use Rattle.live_nodes.proofs.Changes.{with_map, nodes_stay, settled_stays, alive_stays, met_stays, watch_stays, own_stays, each_stays, apart_from, tree_stays, tree_same}

not_some : {A : Type 0} (x : A) → Some x ≡ None → ⊥
not_some x e = cc

one_seat : (i j : ℕ) → Some i ≡ Some j → i ≡ j
one_seat i j e = cc

-- what a node that is current has, by its shape
pub current_at : (d : Plan) (ns : List Node) (cs : ℕ → Content) (m : Pairs ℕ) (id : ℕ) (a : Spot) (c : Content) → IsTree d ns cs m → IsLocked d ns cs id a c → IsCurrent d m a.shape c
current_at d ns cs m id a c t l = subst (λ (z : Shape × Content). IsCurrent d m z.0 z.1) (λ i. (l.shaped i, l.content i)) (t.current a.number l.met.spot.below_root_word (ap (home_of d) l.shaped ∙ l.current))

-- A HELD NODE k is free again, or obsolete, and its seat has the others to itself that it had.
module _ (id : ℕ) (v : View) (k word : ℕ) (d : Content) (ns : List Node) (vs : List View) (p : IsMap ns vs) (seat : get_elem? vs id ≡ some v) (low : k < length ns) (held : (node ns k).holder ≡ Some id) (rises : (node ns k).word < word) (long : length d ≡ length (node ns k).content) where
  abbrev pub freed : Node
  freed = node_at (node ns k).place word d None

  no_holder : (j : ℕ) → j ≢ id → (node ns k).holder ≢ Some j
  no_holder j ne e = ne (one_seat j id (sym e ∙ held))

  module _ (cs' : ℕ → Content) (else : (j : ℕ) → j ≢ k → cs' j ≡ p.contents j) (has : 1 ≤ k → d ≡ cs' k) (if_free : 1 ≤ k → IsFree freed → home_of p.plan (p.plan.shape k) ≡ k) (if_home : 1 ≤ k → home_of p.plan (p.plan.shape k) ≡ k → IsFree freed)
      (os : List Own) (apart : Each (IsApart k) os) (own : Each (IsOwn p.plan ns p.contents id) os) where
    others_own : (j : ℕ) → j ≢ id → (o : Own) → IsOwn p.plan ns p.contents j o → IsOwn p.plan (set ns k freed) cs' j o
    others_own j ne o has_it = own_stays p.plan ns k freed low refl long if_free p.contents cs' else j o
        (apart_from p.plan ns k freed low refl long p.contents j (no_holder j ne) o has_it) has_it

    pub goes_same : IsTree p.plan (set ns k freed) cs' p.pairs → IsMap (set ns k freed) (set vs id (view_of v.seen v.met os))
    goes_same tree =
        let kn = p.each_view id v seat in
        with_map ns vs id p (set ns k freed) (view_of v.seen v.met os) p.plan cs' p.history p.pairs p.legal (nodes_stay p.plan ns k freed low refl long p.nodes)
        (settled_stays p.plan ns k freed low refl long p.contents cs' p.settled (λ some_node none. has some_node) else)
        (alive_stays p.plan ns k freed low refl long p.alive (λ some_node here none. if_home some_node here))
        tree
        (met_stays p.plan ns k freed low refl long if_free)
        (λ j ne. watch_stays p.plan ns k freed low refl long rises j (λ e. not_some j (sym e)))
        others_own
        (λ j ne s h. h) p.unborn record {
          seen = kn.seen;
          met = each_map (IsMet p.plan ns) (IsMet p.plan (set ns k freed)) v.met (met_stays p.plan ns k freed low refl long if_free) kn.met;
          own = each_stays p.plan ns k freed low refl long if_free p.contents cs' else id os apart own;
          watched = tt;
        }

    -- It goes on by entries of this seat, after which the pairs are others.
    pub goes_by : (es : List (Entry ℕ)) (pairs : Pairs ℕ) → Each (λ (e : Entry ℕ). e.caller ≡ id) es → IsHistory nat_eq (p.history ++ es) pairs → IsTree p.plan (set ns k freed) cs' pairs
        → IsMap (set ns k freed) (set vs id (view_of (p.history ++ es) v.met os))
    goes_by es pairs by legal tree =
        let longer : List (Entry ℕ) = p.history ++ es in
        let kn = p.each_view id v seat in
        with_map ns vs id p (set ns k freed) (view_of longer v.met os) p.plan cs' longer pairs legal (nodes_stay p.plan ns k freed low refl long p.nodes)
        (settled_stays p.plan ns k freed low refl long p.contents cs' p.settled (λ some_node none. has some_node) else)
        (alive_stays p.plan ns k freed low refl long p.alive (λ some_node here none. if_home some_node here))
        tree
        (met_stays p.plan ns k freed low refl long if_free)
        (λ j ne. watch_stays p.plan ns k freed low refl long rises j (λ e. not_some j (sym e)))
        others_own
        (λ j ne s h. sees_less j id p.history s es ne by h)
        (λ c l. others_alike c id p.history es (λ same. absurd (let lo = below vs id v seat in omega (arith, lo, same, l))) by ∙ p.unborn c l)
        record {
          seen = sees_all id longer;
          met = each_map (IsMet p.plan ns) (IsMet p.plan (set ns k freed)) v.met (met_stays p.plan ns k freed low refl long if_free) kn.met;
          own = each_stays p.plan ns k freed low refl long if_free p.contents cs' else id os apart own;
          watched = tt;
        }

-- what a seat has to itself
abbrev pub HasOwn : ℕ → View → List Node → List View → List Own → Type 0
HasOwn id v ns vs os = (p : IsMap ns vs) → get_elem? vs id ≡ some v → Each (IsOwn p.plan ns p.contents id) os

pub its_own : (id : ℕ) (v : View) (os : List Own) → v.own ≡ os → (ns : List Node) (vs : List View) → HasOwn id v ns vs os
its_own id v os is ns vs p seat = subst (Each (IsOwn p.plan ns p.contents id)) is (p.each_view id v seat).own

-- a locked node is where it was
pub home_locked : (d : Plan) (ns : List Node) (cs : ℕ → Content) (id : ℕ) (a : Spot) (c : Content) → IsLocked d ns cs id a c → home_of d (d.shape a.number) ≡ a.number
home_locked d ns cs id a c l = ap (home_of d) l.shaped ∙ l.current

-- it is as it was, or as it is going to be
pub node_stays : (id : ℕ) (v : View) (a : Spot) (c : Content) (os : List Own) → v.own ≡ locked a c ∷ os → Each (IsApart a.number) os → (word m : ℕ) → word ≡ 4 * m → (d : Content) → d ≡ c → acts.Frees IsMap id v a.number word d (StaysSame v a.number d)
node_stays id v a c os is apart word m even d same ns vs p seat low held rises =
    let k : ℕ = a.number in
    let own = its_own id v (locked a c ∷ os) is ns vs p seat in
    let l : IsLocked p.plan ns p.contents id a c = own.0 in
    let s = l.met.spot in
    let cur = current_at p.plan ns p.contents p.pairs id a c p.tree l in
    let long : length d ≡ words_of a.shape.form = ap (λ (z : Content). length z) same ∙ (encodes-long c cur.its cur.encodes ∙ ap words_of cur.in_form) in
    let as_long : length d ≡ length (node ns k).content = long ∙ sym (p.nodes.long k s.below_root_word s.low ∙ ap words_of s.form) in
    let here = home_locked p.plan ns p.contents id a c l in (
      view_of v.seen v.met os,
      goes_same id v k word d ns vs p seat low held rises as_long p.contents (λ j ne. refl) (λ _. same ∙ sym l.content) (λ _ _. here) (λ _ _. (refl, (m, even))) os apart own.1
          (tree_same p.plan ns k (freed id v k word d ns vs p seat low held rises as_long) low refl as_long p.contents p.pairs p.tree (λ e. absurd (let n = s.below_root_word in omega (arith, e, n)))),
      ap (λ (os : List Own). view_of v.seen v.met (rest_of os)) (sym is),
    )

pub root_word_stays : (id : ℕ) (v : View) (c : Content) → v.own ≡ root_word c ∷ [] → (word : ℕ) (d : Content) → d ≡ c → acts.Frees IsMap id v 0 word d (StaysSame v 0 d)
root_word_stays id v c is word d same ns vs p seat low held rises =
    let l : IsOwn p.plan ns p.contents id (root_word c) = (its_own id v (root_word c ∷ []) is ns vs p seat).0 in
    let as_was : d ≡ (node ns 0).content = same ∙ sym l.1 in
    let long = ap (λ (z : Content). length z) as_was in (
      view_of v.seen v.met [],
      goes_same id v 0 word d ns vs p seat low held rises long p.contents (λ j ne. refl) (λ some_node. absurd (omega (arith, some_node))) (λ some_node _. absurd (omega (arith, some_node))) (λ some_node _. absurd (omega (arith, some_node))) [] tt tt
          (tree_same p.plan ns 0 (freed id v 0 word d ns vs p seat low held rises long) low refl long p.contents p.pairs p.tree (λ _. as_was)),
      ap (λ (os : List Own). view_of v.seen v.met (rest_of os)) (sym is),
    )

-- it is obsolete, and was replaced
pub node_retires : (id : ℕ) (v : View) (a : Spot) (os : List Own) → v.own ≡ detached a ∷ os → Each (IsApart a.number) os → (word m : ℕ) → word ≡ 4 * m + 3 → (d : Content) → length d ≡ words_of a.shape.form → acts.Frees IsMap id v a.number word d (StaysSame v a.number d)
node_retires id v a os is apart word m odd d long ns vs p seat low held rises =
    let k : ℕ = a.number in
    let own = its_own id v (detached a ∷ os) is ns vs p seat in
    let l : IsDetached p.plan ns id a = own.0 in
    let s = l.spot in
    let as_long : length d ≡ length (node ns k).content = long ∙ sym (p.nodes.long k s.below_root_word s.low ∙ ap words_of s.form) in
    let cs' : ℕ → Content = put_at p.contents k d in (
      view_of v.seen v.met os,
      goes_same id v k word d ns vs p seat low held rises as_long cs' (λ j ne. put_else p.contents k d j ne) (λ _. sym (put_here p.contents k d)) (λ _ f. absurd (let w = f.1.1 in omega (arith, w, odd))) (λ _ here. absurd (l.replaced here)) os apart own.1
          (tree_stays p.plan ns k (freed id v k word d ns vs p seat low held rises as_long) low refl as_long p.contents cs' p.pairs p.pairs p.tree
          (λ e. absurd (let n = s.below_root_word in omega (arith, e, n)))
          (λ some_node here. absurd (l.replaced here))
          (λ j some_node ne here c. subst (IsCurrent p.plan p.pairs (p.plan.shape j)) (sym (put_else p.contents k d j ne)) c)
          p.tree.absent),
      ap (λ (os : List Own). view_of v.seen v.met (rest_of os)) (sym is),
    )

-- A LEAF HAS ONE MORE VALUE, OR ANOTHER
module _ (d : Plan) (m : Pairs ℕ) (key value : ℕ) where
  abbrev later : Pairs ℕ
  later = put m key value

  -- under another byte, or the same
  value_there : (top : ℕ) (fs : List (ℕ × Child ℕ)) → up 1 key ≡ top → (x : ℕ) → HasValue (lookup fs x) (lookup m (256 * top + x)) → HasValue (lookup (put fs (digit 1 key) (Payload value)) x) (lookup later (256 * top + x))
  value_there top fs is x h = dite (ℕ_discrete x (digit 1 key))
      (λ e. subst (λ (t : Option (Child ℕ) × Option ℕ). HasValue t.0 t.1)
      (λ i. (sym (ap (lookup (put fs (digit 1 key) (Payload value))) e ∙ lookup-put_same fs (digit 1 key) (Payload value)) i, sym (ap (λ (z : ℕ). lookup later (256 * top + z)) e ∙ (ap (lookup later) (joined 0 key top is) ∙ lookup-put_same m key value)) i)) refl)
      (λ ne. subst (λ (t : Option (Child ℕ) × Option ℕ). HasValue t.0 t.1)
      (λ i. (sym (lookup-put_other fs (digit 1 key) (Payload value) x ne) i, sym (lookup-put_other m key value (256 * top + x) (λ e. ne (let j = joined 0 key top is in omega (arith, e, j)))) i)) h)

  under_there : (height top : ℕ) (fs : List (ℕ × Child ℕ)) → height ≡ 1 → up 1 key ≡ top → (x : ℕ) → IsUnder d m height top x (lookup fs x) → IsUnder d later height top x (lookup (put fs (digit 1 key) (Payload value)) x)
  under_there zero top fs one is x u = absurd u
  under_there (suc zero) top fs one is x u = value_there top fs is x u
  under_there (suc (suc h)) top fs one is x u = absurd (omega (arith, one))

  -- in another node
  under_else : (height top : ℕ) (o : Option (Child ℕ)) → (height ≡ 1 → up 1 key ≢ top) → (x : ℕ) → x < 256 → IsUnder d m height top x o → IsUnder d later height top x o
  under_else zero top o ne x l u = absurd u
  under_else (suc zero) top o ne x l u = subst (HasValue o) (sym (lookup-put_other m key value (256 * top + x) (λ e. ne refl (omega (arith, e, l))))) u
  under_else (suc (suc h)) top o ne x l u = u

pub leaf_inserts : (q : Ask) (id : ℕ) → q.caller ≡ id → (v : View) (a : Spot) (c : Content) → v.own ≡ locked a c ∷ [] → a.shape.height ≡ 1 → Covers a.shape q.key → (word m : ℕ) → word ≡ 4 * m → (d : Content) → length d ≡ words_of a.shape.form
    → ((n : TableNode ℕ) → Encodes c n → n.form ≡ a.shape.form → length n.prefix ≡ 7 → Encodes d (with_child n (digit 1 q.key) (Some (Payload q.value))))
    → acts.Frees IsMap id v a.number word d (Inserts q v a.number d)
leaf_inserts q id by v a c is leaf covers word m even d long changes ns vs p seat low held rises =
    let k : ℕ = a.number in
    let l : IsLocked p.plan ns p.contents id a c = (its_own id v (locked a c ∷ []) is ns vs p seat).0 in
    let s = l.met.spot in
    let as_long : length d ≡ length (node ns k).content = long ∙ sym (p.nodes.long k s.below_root_word s.low ∙ ap words_of s.form) in
    let at_k = home_locked p.plan ns p.contents id a c l in
    let old = current_at p.plan ns p.contents p.pairs id a c p.tree l in
    let top_is : up 1 q.key ≡ a.shape.top = subst (λ (h : ℕ). up h q.key ≡ a.shape.top) leaf covers in
    let found : Option ℕ = lookup p.pairs q.key in
    let pairs : Pairs ℕ = put p.pairs q.key q.value in
    let new : IsCurrent p.plan pairs a.shape d = record {
      its = with_child old.its (digit 1 q.key) (Some (Payload q.value));
      encodes = changes old.its old.encodes old.in_form (let deep = old.deep in omega (arith, deep, leaf));
      in_form = old.in_form;
      deep = old.deep;
      prefixed = old.prefixed;
      under = λ x lo. under_there p.plan p.pairs q.key q.value a.shape.height a.shape.top old.its.children leaf top_is x (old.under x lo);
    } in
    let home_1 : p.plan.home 1 (q.key / 256) ≡ k = ap (p.plan.home 1) top_is ∙ (ap (λ (h : ℕ). p.plan.home h a.shape.top) (sym leaf) ∙ l.current) in
    let cs' : ℕ → Content = put_at p.contents k d in
    let tree = tree_stays p.plan ns k (freed id v k word d ns vs p seat low held rises as_long) low refl as_long p.contents cs' p.pairs pairs p.tree
    (λ e. absurd (let n = s.below_root_word in omega (arith, e, n)))
    (λ some_node here. subst (λ (z : Shape × Content). IsCurrent p.plan pairs z.0 z.1) (λ i. (sym l.shaped i, sym (put_here p.contents k d) i)) new)
    (λ j some_node ne here cur. subst (IsCurrent p.plan pairs (p.plan.shape j)) (sym (put_else p.contents k d j ne)) record {
      its = cur.its;
      encodes = cur.encodes;
      in_form = cur.in_form;
      deep = cur.deep;
      prefixed = cur.prefixed;
      under = λ x lo. under_else p.plan p.pairs q.key q.value (p.plan.shape j).height (p.plan.shape j).top (lookup cur.its.children x)
          (λ one e. ne (sym here ∙ (ap (λ (h : ℕ). p.plan.home h (p.plan.shape j).top) one ∙ (ap (p.plan.home 1) (sym e) ∙ home_1)))) x lo (cur.under x lo);
    })
    (λ x none. lookup-put_other p.pairs q.key q.value x (λ e. absurd (let n = s.below_root_word in let z : p.plan.home 1 (q.key / 256) ≡ 0 = ap (λ (y : ℕ). p.plan.home 1 (y / 256)) (sym e) ∙ none in omega (arith, z, home_1, n))) ∙ p.tree.absent x none) in
    let kn = p.each_view id v seat in
    let legal = put_legal p.history p.pairs q found p.legal refl in (
      view_of (p.history ++ inserted q found ∷ []) v.met [],
      goes_by id v k word d ns vs p seat low held rises as_long cs' (λ j ne. put_else p.contents k d j ne) (λ _. sym (put_here p.contents k d)) (λ _ _. at_k) (λ _ _. (refl, (m, even))) [] tt tt (inserted q found ∷ []) pairs (by, tt) legal tree,
      record {
        found = found;
        its = old.its;
        encodes = subst (λ (os : List Own). Encodes (content_of os) old.its) (sym is) old.encodes;
        was = at_leaf p.plan ns p.contents p.pairs p.tree q.key a.shape.top (lookup old.its.children (digit 1 q.key)) top_is (subst (λ (h : ℕ). IsUnder p.plan p.pairs h a.shape.top (digit 1 q.key) (lookup old.its.children (digit 1 q.key))) leaf (old.under (digit 1 q.key) (omega arith)));
        is = refl;
        answers = record { whole = p.history; is = refl; fits = subst (λ (x : ℕ). HasSeen p.history x v.seen) (sym by) kn.seen; legal = (pairs, legal) };
      },
    )
