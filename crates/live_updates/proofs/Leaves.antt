-- A leaf is unlocked, where a key has another value, or none.
use Rattle.std.proofs.Common.{◌≡◌, ◌≢◌, ℕ, zero, suc, ◌+◌, ◌*◌, ◌/◌, ◌<◌, List, [], ◌∷◌, ◌++◌, length, Option, Some, None, refl, sym, ap, ◌∙◌, subst, arith}
use mathlib.Core.Logic.{dite}
use native.Mathlib.Decide.{ℕ_discrete}
use Rattle.spec_node.specs.TableNode.{TableNode, Child}
use Rattle.spec_map.specs.Map.{Pairs, lookup, with_answer}
use Rattle.share_rule.specs.History.{Entry}
use Rattle.share_rule.specs.inner.Rule.{HasSeen}
use Rattle.live_nodes.proofs.Frames.{put_at, put_here, put_else}
use Rattle.live_nodes.specs.Acts as acts
use Rattle.live_nodes.specs.Nodes.{Content, node}
use Rattle.live_layout.specs.Encodes.{words_of, Encodes, with_child}
use Rattle.live_nodes.specs.Levels.{up, digit, Shape, Covers, Spot}
use Rattle.live_nodes.specs.Views.{View, view_of, locked}
use Rattle.live_nodes.specs.Tree.{Plan, HasValue, IsUnder, IsCurrent, IsLocked, IsMap}
use Rattle.live_nodes.proofs.Changes.{tree_stays}
use Rattle.live_nodes.proofs.Looks.{at_leaf}
use Rattle.live_nodes.proofs.Plans.{joined}
use Rattle.live_nodes.proofs.Writes.{current_at, its_own, home_locked, freed, goes_by}
use Rattle.live_growth.proofs.Values.{value_once}
use Rattle.live_updates.proofs.Ordered.{encodes_rise}
use Rattle.live_updates.specs.inner.Updates.{Update, IsUpdate, child_for, Writes}
use Rattle.live_updates.proofs.Rising.{Ascends, history_ascends, lookup-same, lookup-other}

has_child : (new : Option ℕ) → HasValue (child_for new) new
has_child None = refl
has_child (Some x) = refl

module _ (d : Plan) (m : Pairs ℕ) (key : ℕ) (new : Option ℕ) (rises : Ascends m) where
  abbrev later : Pairs ℕ
  later = with_answer m key new

  -- under another byte, or the same
  value_there : (top : ℕ) (fs : List (ℕ × Child ℕ)) → Ascends fs → up 1 key ≡ top → (x : ℕ) → HasValue (lookup fs x) (lookup m (256 * top + x)) → HasValue (lookup (with_answer fs (digit 1 key) (child_for new)) x) (lookup later (256 * top + x))
  value_there top fs ordered is x h = dite (ℕ_discrete x (digit 1 key))
      (λ e. subst (λ (t : Option (Child ℕ) × Option ℕ). HasValue t.0 t.1)
      (λ i. (sym (ap (lookup (with_answer fs (digit 1 key) (child_for new))) e ∙ lookup-same fs (digit 1 key) (child_for new) ordered) i, sym (ap (λ (z : ℕ). lookup later (256 * top + z)) e ∙ (ap (lookup later) (joined 0 key top is) ∙ lookup-same m key new rises)) i)) (has_child new))
      (λ ne. subst (λ (t : Option (Child ℕ) × Option ℕ). HasValue t.0 t.1)
      (λ i. (sym (lookup-other fs (digit 1 key) (child_for new) x ne) i, sym (lookup-other m key new (256 * top + x) (λ e. ne (let j = joined 0 key top is in omega (arith, e, j)))) i)) h)

  under_there : (height top : ℕ) (fs : List (ℕ × Child ℕ)) → Ascends fs → height ≡ 1 → up 1 key ≡ top → (x : ℕ) → IsUnder d m height top x (lookup fs x) → IsUnder d later height top x (lookup (with_answer fs (digit 1 key) (child_for new)) x)
  under_there zero top fs ordered one is x u = absurd u
  under_there (suc zero) top fs ordered one is x u = value_there top fs ordered is x u
  under_there (suc (suc h)) top fs ordered one is x u = absurd (omega (arith, one))

  -- in another node
  under_else : (height top : ℕ) (o : Option (Child ℕ)) → (height ≡ 1 → up 1 key ≢ top) → (x : ℕ) → x < 256 → IsUnder d m height top x o → IsUnder d later height top x o
  under_else zero top o ne x l u = absurd u
  under_else (suc zero) top o ne x l u = subst (HasValue o) (sym (lookup-other m key new (256 * top + x) (λ e. ne refl (omega (arith, e, l))))) u
  under_else (suc (suc h)) top o ne x l u = u

pub leaf_updates : (u : Update) → IsUpdate u → (id : ℕ) → u.caller ≡ id → (v : View) (a : Spot) (c : Content) → v.own ≡ locked a c ∷ [] → a.shape.height ≡ 1 → Covers a.shape u.key → (word m : ℕ) → word ≡ 4 * m → (d : Content) → length d ≡ words_of a.shape.form
    → ((n : TableNode ℕ) → Encodes c n → n.form ≡ a.shape.form → length n.prefix ≡ 7 → HasValue (lookup n.children (digit 1 u.key)) u.old × Encodes d (with_child n (digit 1 u.key) (child_for u.new)))
    → acts.Frees IsMap id v a.number word d (Writes u v a.number d)
leaf_updates u law id by v a c is leaf covers word m even d long changes ns vs p seat low held rises =
    let k : ℕ = a.number in
    let kn = p.each_view id v seat in
    let l : IsLocked p.plan ns p.contents id a c = (its_own id v (locked a c ∷ []) is ns vs p seat).0 in
    let s = l.met.spot in
    let as_long : length d ≡ length (node ns k).content = long ∙ sym (p.nodes.long k s.below_root_word s.low ∙ ap words_of s.form) in
    let at_k = home_locked p.plan ns p.contents id a c l in
    let old = current_at p.plan ns p.contents p.pairs id a c p.tree l in
    let top_is : up 1 u.key ≡ a.shape.top = subst (λ (h : ℕ). up h u.key ≡ a.shape.top) leaf covers in
    let change = changes old.its old.encodes old.in_form (let deep = old.deep in omega (arith, deep, leaf)) in
    let ordered = history_ascends p.history p.pairs p.legal in
    let pairs : Pairs ℕ = with_answer p.pairs u.key u.new in
    let byte : ℕ = digit 1 u.key in
    let found : lookup p.pairs u.key ≡ u.old = value_once (lookup old.its.children byte) (lookup p.pairs u.key) u.old
    (at_leaf p.plan ns p.contents p.pairs p.tree u.key a.shape.top (lookup old.its.children byte) top_is (subst (λ (h : ℕ). IsUnder p.plan p.pairs h a.shape.top byte (lookup old.its.children byte)) leaf (old.under byte (omega arith)))) change.0 in
    let new : IsCurrent p.plan pairs a.shape d = record {
      its = with_child old.its byte (child_for u.new);
      encodes = change.1;
      in_form = old.in_form;
      deep = old.deep;
      prefixed = old.prefixed;
      under = λ y lo. under_there p.plan p.pairs u.key u.new ordered a.shape.height a.shape.top old.its.children (256, encodes_rise c old.its old.encodes) leaf top_is y (old.under y lo);
    } in
    let home_1 : p.plan.home 1 (u.key / 256) ≡ k = ap (p.plan.home 1) top_is ∙ (ap (λ (h : ℕ). p.plan.home h a.shape.top) (sym leaf) ∙ l.current) in
    let cs' : ℕ → Content = put_at p.contents k d in
    let tree = tree_stays p.plan ns k (freed id v k word d ns vs p seat low held rises as_long) low refl as_long p.contents cs' p.pairs pairs p.tree
    (λ e. absurd (let n = s.below_root_word in omega (arith, e, n)))
    (λ some_node here. subst (λ (z : Shape × Content). IsCurrent p.plan pairs z.0 z.1) (λ i. (sym l.shaped i, sym (put_here p.contents k d) i)) new)
    (λ j some_node ne here cur. subst (IsCurrent p.plan pairs (p.plan.shape j)) (sym (put_else p.contents k d j ne)) record {
      its = cur.its;
      encodes = cur.encodes;
      in_form = cur.in_form;
      deep = cur.deep;
      prefixed = cur.prefixed;
      under = λ y lo. under_else p.plan p.pairs u.key u.new ordered (p.plan.shape j).height (p.plan.shape j).top (lookup cur.its.children y)
          (λ one e. ne (sym here ∙ (ap (λ (h : ℕ). p.plan.home h (p.plan.shape j).top) one ∙ (ap (p.plan.home 1) (sym e) ∙ home_1)))) y lo (cur.under y lo);
    })
    (λ y none. lookup-other p.pairs u.key u.new y (λ e. absurd (let n = s.below_root_word in let z : p.plan.home 1 (u.key / 256) ≡ 0 = ap (λ (t : ℕ). p.plan.home 1 (t / 256)) (sym e) ∙ none in omega (arith, z, home_1, n))) ∙ p.tree.absent y none) in
    let e : Entry ℕ = u.entry in
    let legal = law.legal p.history p.pairs p.legal found in (
      view_of (p.history ++ e ∷ []) v.met [],
      goes_by id v k word d ns vs p seat low held rises as_long cs' (λ j ne. put_else p.contents k d j ne) (λ _. sym (put_here p.contents k d)) (λ _ _. at_k) (λ _ _. (refl, (m, even))) [] tt tt (e ∷ []) pairs (law.by ∙ by, tt) legal tree,
      record {
        is = refl;
        answers = record { whole = p.history; is = refl; fits = subst (λ (y : ℕ). HasSeen p.history y v.seen) (sym by) kn.seen; legal = (pairs, legal) };
      },
    )
