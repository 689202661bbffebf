-- An obsolete node is made.
use Rattle.std.proofs.Common.{◌≡◌, ◌≢◌, ⊎_elim, ℕ, zero, suc, ◌+◌, ◌*◌, ◌<◌, ◌≤◌, Bool, cond, nat_eq, List, [], ◌∷◌, ◌++◌, length, Option, Some, None, refl, sym, ap, ◌∙◌, subst, inl, inr, arith, eq-eqb, ne_eqb}
use mathlib.Core.Logic.{dite}
use native.Mathlib.Decide.{ℕ_discrete}
use Rattle.node_base.specs.Form.{limit, form_place}
use Rattle.node_base.specs.declared.base_node.NodeType.{NodeType}
use Rattle.node_base.specs.declared.base_node.NodeType.TheVariants.{N4, N16, N48, N256}
use Rattle.spec_node.specs.TableNode.{TableNode, Child}
use Rattle.spec_node.specs.declared.child.Child.TheVariants.{Payload, Node as Below}
use Rattle.spec_map.specs.Map.{Pairs, lookup}
use Rattle.live_nodes.proofs.Frames.{each_map, node_before, node_last, one_more}
use Rattle.live_nodes.specs.Nodes.{Content, at, Node, node, node_at}
use Rattle.live_nodes.specs.Acts as acts
use Rattle.live_layout.specs.Words as cells
use Rattle.live_layout.specs.Head.{IsHead}
use Rattle.live_layout.specs.Encodes.{words_of, long_for, HasChildren, Encodes}
use Rattle.live_nodes.specs.Levels.{Shape, name_of, bytes_above, IsBelow, Spot, spot}
use Rattle.live_nodes.specs.Views.{View, with_met, Watch, Own, locked, detached, root_word}
use Rattle.live_nodes.specs.Tree.{Plan, home_of, IsFree, LeadsTo, IsUnder, IsCurrent, NamesRoot, IsSpot, IsMet, IsBound, NoLater, IsWatched, IsOwn, AreNodes, AreAlive, IsSettled, IsTree, IsMap, IsMade}
use Rattle.live_nodes.proofs.Changes.{with_map}

-- how long a content is, and what form it has
children-long : (o : Option ℕ) (c : List ℕ) (es : List (ℕ × ℕ)) → HasChildren o c es → length c ≡ long_for o
children-long None c es h = h.long
children-long (Some room) c es h = h.long

pub encodes-long : (c : Content) (n : TableNode ℕ) → Encodes c n → length c ≡ words_of n.form
encodes-long c n e = children-long (limit n.form) c e.words e.children

same-place : (f g : NodeType) → form_place f ≡ form_place g → f ≡ g
same-place N4 N4 e = refl
same-place N4 N16 e = absurd (omega arith)
same-place N4 N48 e = absurd (omega arith)
same-place N4 N256 e = absurd (omega arith)
same-place N16 N4 e = absurd (omega arith)
same-place N16 N16 e = refl
same-place N16 N48 e = absurd (omega arith)
same-place N16 N256 e = absurd (omega arith)
same-place N48 N4 e = absurd (omega arith)
same-place N48 N16 e = absurd (omega arith)
same-place N48 N48 e = refl
same-place N48 N256 e = absurd (omega arith)
same-place N256 N4 e = absurd (omega arith)
same-place N256 N16 e = absurd (omega arith)
same-place N256 N48 e = absurd (omega arith)
same-place N256 N256 e = refl

same-head : (word f g : ℕ) (p q : List ℕ) → IsHead word f p → IsHead word g q → f ≡ g
same-head word f g p q h i = omega (arith, h.sized, h.short, i.sized, i.short)

pub one-form : (c : Content) (l m : TableNode ℕ) → Encodes c l → Encodes c m → l.form ≡ m.form
one-form c l m e f = same-place l.form m.form (same-head (cells.at c 0) (form_place l.form) (form_place m.form) l.prefix m.prefix e.head f.head)

-- what is under a byte, where the nodes below are led to as well
pub under_alike : (d d' : Plan) (m : Pairs ℕ) (height top x : ℕ) (o : Option (Child ℕ)) → ((h : ℕ) → height ≡ suc (suc h) → LeadsTo d o (d.home (suc h) (256 * top + x)) → LeadsTo d' o (d'.home (suc h) (256 * top + x)))
    → IsUnder d m height top x o → IsUnder d' m height top x o
under_alike d d' m zero top x o f u = u
under_alike d d' m (suc zero) top x o f u = u
under_alike d d' m (suc (suc h)) top x o f u = f h refl u

pub current_alike : (d d' : Plan) (m : Pairs ℕ) (s : Shape) (c : Content) → ((o : Option (Child ℕ)) (h x : ℕ) → x < 256 → s.height ≡ suc (suc h) → LeadsTo d o (d.home (suc h) (256 * s.top + x)) → LeadsTo d' o (d'.home (suc h) (256 * s.top + x)))
    → IsCurrent d m s c → IsCurrent d' m s c
current_alike d d' m s c f cur = record {
  its = cur.its;
  encodes = cur.encodes;
  in_form = cur.in_form;
  deep = cur.deep;
  prefixed = cur.prefixed;
  under = λ x l. under_alike d d' m s.height s.top x (lookup cur.its.children x) (λ h e. f (lookup cur.its.children x) h x l e) (cur.under x l);
}

module _ (d : Plan) (s : Shape) (word : ℕ) (obsolete : (m : ℕ) → word ≢ 4 * m) (ns : List Node) (content : Content) where
  abbrev b : Node
  b = node_at s.key word content None

  abbrev longer : List Node
  longer = ns ++ b ∷ []

  abbrev last : ℕ
  last = length ns

  abbrev d' : Plan
  d' = record {
    shape = λ j. cond (nat_eq j last) s (d.shape j);
    home = d.home;
  }

  abbrev cs' : (ℕ → Content) → ℕ → Content
  cs' cs j = cond (nat_eq j last) content (cs j)

  abbrev none : ℕ → Content
  none _ = []

  more : length longer ≡ length ns + 1
  more = one_more ns none b content

  node_new : node longer last ≡ b
  node_new = node_last ns none b content

  node_old : (j : ℕ) → j < last → node longer j ≡ node ns j
  node_old j l = node_before ns none b content j l

  shape_new : d'.shape last ≡ s
  shape_new = ap (λ (t : Bool). cond t s (d.shape last)) (eq-eqb last last refl)

  shape_old : (j : ℕ) → j ≢ last → d'.shape j ≡ d.shape j
  shape_old j ne = ap (λ (t : Bool). cond t s (d.shape j)) (ne_eqb j last ne)

  content_new : (cs : ℕ → Content) → cs' cs last ≡ content
  content_new cs = ap (λ (t : Bool). cond t content (cs last)) (eq-eqb last last refl)

  content_old : (cs : ℕ → Content) (j : ℕ) → j ≢ last → cs' cs j ≡ cs j
  content_old cs j ne = ap (λ (t : Bool). cond t content (cs j)) (ne_eqb j last ne)

  lower : (j : ℕ) → j < last → j ≢ last
  lower j l e = omega (arith, l, e)

  spot_old : (a : Spot) → IsSpot d ns a → IsSpot d' longer a
  spot_old a t = let same = shape_old a.number (lower a.number t.low) in record {
    below_root_word = t.below_root_word;
    low = (let l = t.low in omega (arith, l, more));
    key = ap (λ (z : Shape). z.key) same ∙ t.key;
    form = ap (λ (z : Shape). z.form) same ∙ t.form;
  }

  met_old : (a : Spot) → IsMet d ns a → IsMet d' longer a
  met_old a m = let same = shape_old a.number (lower a.number m.spot.low) in record {
    spot = spot_old a m.spot;
    lasts = λ high. let l = m.lasts high in (same ∙ l.0, l.1);
    current = λ f. ap (home_of d) same ∙ m.current (subst IsFree (node_old a.number m.spot.low) f);
  }

  watch_old : (cs : ℕ → Content) (m : Pairs ℕ) → IsTree d ns cs m → (j : ℕ) (x : Watch) → IsWatched d ns j x → IsWatched d' longer j x
  watch_old cs m t j x w =
      let same = node_old x.above w.low in record {
        below_root_word = w.below_root_word;
        low = (let l = w.low in omega (arith, l, more));
        later = subst (NoLater x.word) (sym same) w.later;
        leads = λ bound.
            let l = w.leads (subst (IsBound j x.word) same bound) in
            let low_x = subst (λ (z : ℕ). z < last) l.here (t.housed l.level (bytes_above x.spot.shape l.level) (subst (λ (z : ℕ). 1 ≤ z) (sym l.here) l.some_node)).low in record {
              level = l.level;
              some_node = l.some_node;
              shaped = shape_old x.spot.number (lower x.spot.number low_x) ∙ l.shaped;
              tall = l.tall;
              here = l.here;
              above = l.above;
              above_high = ap (λ (z : Shape). z.height) (shape_old x.above (lower x.above w.low)) ∙ l.above_high;
            };
      }

  module _ (some_root_word : 0 < last) (cs : ℕ → Content) (j : ℕ) where
    own_old : (o : Own) → IsOwn d ns cs j o → IsOwn d' longer (cs' cs) j o
    own_old (locked a c) h = let l = lower a.number h.met.spot.low in record {
      met = met_old a h.met;
      shaped = shape_old a.number l ∙ h.shaped;
      holder = ap (λ (z : Node). z.holder) (node_old a.number h.met.spot.low) ∙ h.holder;
      content = content_old cs a.number l ∙ h.content;
      current = h.current;
    }
    own_old (detached a) h = let l = lower a.number h.spot.low in record {
      spot = spot_old a h.spot;
      holder = ap (λ (z : Node). z.holder) (node_old a.number h.spot.low) ∙ h.holder;
      replaced = λ e. h.replaced (ap (home_of d) (sym (shape_old a.number l)) ∙ e);
    }
    own_old (root_word c) h = (ap (λ (z : Node). z.holder) (node_old 0 some_root_word) ∙ h.0, ap (λ (z : Node). z.content) (node_old 0 some_root_word) ∙ h.1)

  settled_longer : (cs : ℕ → Content) → IsSettled ns cs → IsSettled longer (cs' cs)
  settled_longer cs s k some_node l free = dite (ℕ_discrete k last)
      (λ e. ap (λ (z : ℕ). (node longer z).content) e ∙ (ap (λ (z : Node). z.content) node_new ∙ sym (ap (cs' cs) e ∙ content_new cs)))
      (λ ne. let l' : k < last = omega (arith, l, more, ne) in let same = node_old k l' in
      ap (λ (z : Node). z.content) same ∙ (s k some_node l' (ap (λ (z : Node). z.holder) (sym same) ∙ free) ∙ sym (content_old cs k ne)))

  not_free : IsFree b → ⊥
  not_free f = obsolete f.1.0 f.1.1

  -- no node is where the new one would be
  home_off : (cs : ℕ → Content) (m : Pairs ℕ) → IsTree d ns cs m → 0 < last → (h x : ℕ) → d.home h x ≢ last
  home_off cs m t some_root_word h x e = lower (d.home h x) (t.housed h x (subst (λ (z : ℕ). 1 ≤ z) (sym e) some_root_word)).low e

  alive_longer : ((h x : ℕ) → d.home h x ≢ last) → AreAlive d ns → AreAlive d' longer
  alive_longer off s k some_node l here free = dite (ℕ_discrete k last)
      (λ e. absurd (off (d'.shape k).height (d'.shape k).top (here ∙ e)))
      (λ ne. let l' : k < last = omega (arith, l, more, ne) in let same = node_old k l' in
      subst IsFree (sym same) (s k some_node l' (ap (home_of d) (sym (shape_old k ne)) ∙ here) (ap (λ (z : Node). z.holder) (sym same) ∙ free)))

  nodes_longer : length content ≡ words_of s.form → ((k : ℕ) → k < length ns → (node ns k).place ≢ s.key) → AreNodes d ns → AreNodes d' longer
  nodes_longer long elsewhere n = record {
    some_root_word = (let l = n.some_root_word in omega (arith, l, more));
    root_word_long = ap (λ (z : Node). length z.content) (node_old 0 n.some_root_word) ∙ n.root_word_long;
    placed = λ k some_node l. dite (ℕ_discrete k last)
        (λ e. ap (λ (z : ℕ). (node longer z).place) e ∙ (ap (λ (z : Node). z.place) node_new ∙ sym (ap (λ (z : ℕ). (d'.shape z).key) e ∙ ap (λ (z : Shape). z.key) shape_new)))
        (λ ne. let l' : k < last = omega (arith, l, more, ne) in ap (λ (z : Node). z.place) (node_old k l') ∙ (n.placed k some_node l' ∙ sym (ap (λ (z : Shape). z.key) (shape_old k ne))));
    long = λ k some_node l. dite (ℕ_discrete k last)
        (λ e. ap (λ (z : ℕ). length (node longer z).content) e ∙ (ap (λ (z : Node). length z.content) node_new ∙ (long ∙ sym (ap (λ (z : ℕ). words_of (d'.shape z).form) e ∙ ap (λ (z : Shape). words_of z.form) shape_new))))
        (λ ne. let l' : k < last = omega (arith, l, more, ne) in ap (λ (z : Node). length z.content) (node_old k l') ∙ (n.long k some_node l' ∙ sym (ap (λ (z : Shape). words_of z.form) (shape_old k ne))));
    apart = λ j k some_j some_k l m same. dite (ℕ_discrete j last)
        (λ e. dite (ℕ_discrete k last)
        (λ f. e ∙ sym f)
        (λ nf. absurd (let m' : k < last = omega (arith, m, more, nf) in elsewhere k m' (n.placed k some_k m' ∙ (ap (λ (z : Shape). z.key) (sym (shape_old k nf)) ∙ (sym same ∙ (ap (λ (z : ℕ). (d'.shape z).key) e ∙ ap (λ (z : Shape). z.key) shape_new)))))))
        (λ ne. let l' : j < last = omega (arith, l, more, ne) in dite (ℕ_discrete k last)
        (λ f. absurd (elsewhere j l' (n.placed j some_j l' ∙ (ap (λ (z : Shape). z.key) (sym (shape_old j ne)) ∙ (same ∙ (ap (λ (z : ℕ). (d'.shape z).key) f ∙ ap (λ (z : Shape). z.key) shape_new))))))
        (λ nf. n.apart j k some_j some_k l' (omega (arith, m, more, nf)) (ap (λ (z : Shape). z.key) (sym (shape_old j ne)) ∙ (same ∙ ap (λ (z : Shape). z.key) (shape_old k nf)))));
  }

  module _ (cs : ℕ → Content) (m : Pairs ℕ) (t : IsTree d ns cs m) where
    home_low : (h x : ℕ) → 1 ≤ d.home h x → d.home h x ≢ last
    home_low h x some_node = lower (d.home h x) (t.housed h x some_node).low

    leads_old : (o : Option (Child ℕ)) (h x : ℕ) → LeadsTo d o (d.home h x) → LeadsTo d' o (d.home h x)
    leads_old None h x l = l
    leads_old (Some (Payload w)) h x l = l
    leads_old (Some (Below w)) h x l = (l.0, l.1 ∙ sym (ap name_of (shape_old (d.home h x) (home_low h x l.0))))

    tree_longer : AreNodes d ns → IsTree d' longer (cs' cs) m
    tree_longer n = record {
      root = subst (λ (z : Node). NamesRoot d' (at z.content 0)) (sym (node_old 0 n.some_root_word)) (⊎_elim
          (λ no. inl no)
          (λ there. inr (there.0, there.1, there.2 ∙ sym (ap name_of (shape_old (d.home 8 0) (home_low 8 0 there.0)))))
          t.root);
      rooted = λ some_node. subst (λ (z : Shape). z.height ≡ 8) (sym (shape_old (d.home 8 0) (home_low 8 0 some_node))) (t.rooted some_node);
      housed = λ h x some_node. let w = t.housed h x some_node in let same = shape_old (d.home h x) (home_low h x some_node) in
          record {
            low = (let l = w.low in omega (arith, l, more));
            level = w.level;
            some_height = subst (λ (z : Shape). 1 ≤ z.height) (sym same) w.some_height;
            below = subst (λ (z : Shape). IsBelow z h x) (sym same) w.below;
          };
      upward = t.upward;
      skips = λ h x b lo some_node lower'. let same = shape_old (d.home (suc h) x) (home_low (suc h) x some_node) in
          subst (λ (z : Shape). (IsBelow z h (256 * x + b) → d.home h (256 * x + b) ≡ d.home (suc h) x) × ((IsBelow z h (256 * x + b) → ⊥) → d.home h (256 * x + b) ≡ 0)) (sym same)
          (t.skips h x b lo some_node (subst (λ (z : Shape). z.height ≤ h) same lower'));
      current = λ k some_node here.
          let at_home : 1 ≤ home_of d (d'.shape k) = subst (λ (z : ℕ). 1 ≤ z) (sym here) some_node in
          let low : k < last = subst (λ (z : ℕ). z < last) here (t.housed (d'.shape k).height (d'.shape k).top at_home).low in
          let same = shape_old k (lower k low) in
          subst (λ (z : Shape × Content). IsCurrent d' m z.0 z.1) (λ i. (sym same i, sym (content_old cs k (lower k low)) i))
          (current_alike d d' m (d.shape k) (cs k) (λ o h x l e. leads_old o (suc h) (256 * (d.shape k).top + x)) (t.current k some_node (ap (home_of d) (sym same) ∙ here)));
      absent = t.absent;
    }

pub node_makes : (form : NodeType) (id : ℕ) (v : View) (key word m : ℕ) → word ≡ 4 * m + 3 → (content : Content) → length content ≡ words_of form → acts.Makes IsMap id v key word content (IsMade form v key content)
node_makes form id v key word m odd content long ns vs p seat elsewhere =
    let s : Shape = record { key = key; form = form; height = 1; top = 0 } in
    let a : Spot = spot (length ns) s in
    let kn = p.each_view id v seat in
    let w : View = with_met v (a ∷ v.met) in
    let nodes = p.nodes in
    let cs : ℕ → Content = p.contents in
    let obsolete : (n : ℕ) → word ≢ 4 * n = λ n e. omega (arith, e, odd) in
    let off = home_off p.plan s word obsolete ns content cs p.pairs p.tree nodes.some_root_word in
    let own_ok : (j : ℕ) (o : Own) → IsOwn p.plan ns cs j o → IsOwn (d' p.plan s word obsolete ns content) (longer p.plan s word obsolete ns content) (cs' p.plan s word obsolete ns content cs) j o = λ j o. own_old p.plan s word obsolete ns content nodes.some_root_word cs j o in (
      w,
      with_map ns vs id p (longer p.plan s word obsolete ns content) w (d' p.plan s word obsolete ns content) (cs' p.plan s word obsolete ns content cs) p.history p.pairs p.legal
          (nodes_longer p.plan s word obsolete ns content long elsewhere nodes)
          (settled_longer p.plan s word obsolete ns content cs p.settled)
          (alive_longer p.plan s word obsolete ns content off p.alive)
          (tree_longer p.plan s word obsolete ns content cs p.pairs p.tree nodes)
          (met_old p.plan s word obsolete ns content)
          (λ j ne. watch_old p.plan s word obsolete ns content cs p.pairs p.tree j)
          (λ j ne o. own_ok j o)
          (λ j ne x h. h) p.unborn record {
            seen = kn.seen;
            met = (
              record {
                spot = record {
                  below_root_word = nodes.some_root_word;
                  low = (let l = more p.plan s word obsolete ns content in omega (arith, l));
                  key = ap (λ (z : Shape). z.key) (shape_new p.plan s word obsolete ns content);
                  form = ap (λ (z : Shape). z.form) (shape_new p.plan s word obsolete ns content);
                };
                lasts = λ high. absurd (omega (arith, high));
                current = λ f. absurd (not_free p.plan s word obsolete ns content (subst IsFree (node_new p.plan s word obsolete ns content) f));
              },
              each_map (IsMet p.plan ns) (IsMet (d' p.plan s word obsolete ns content) (longer p.plan s word obsolete ns content)) v.met (met_old p.plan s word obsolete ns content) kn.met,
            );
            own = each_map (IsOwn p.plan ns cs id) (IsOwn (d' p.plan s word obsolete ns content) (longer p.plan s word obsolete ns content) (cs' p.plan s word obsolete ns content cs) id) v.own (own_ok id) kn.own;
            watched = each_map (IsWatched p.plan ns id) (IsWatched (d' p.plan s word obsolete ns content) (longer p.plan s word obsolete ns content) id) v.watched (watch_old p.plan s word obsolete ns content cs p.pairs p.tree id) kn.watched;
          },
      record { spot = a; number = refl; placed = refl; in_form = refl; is = refl },
    )
