-- Pairs are removed one by one, and a leaf is unlocked that has them no more.
use Rattle.std.proofs.Common.{◌≡◌, ◌≢◌, ◌⊎◌, ℕ, zero, suc, ◌+◌, ◌-◌, ◌*◌, ◌/◌, ◌<◌, ◌≤◌, nat_eq, List, [], ◌∷◌, ◌++◌, length, Option, Some, None, Result, Ok, refl, sym, ap, ◌∙◌, subst, inl, inr, arith}
use mathlib.Core.Logic.{dite}
use native.Mathlib.Decide.{ℕ_discrete}
use Rattle.std.proofs.lemmas.Bool.{cases_lt}
use Rattle.spec_node.specs.TableNode.{TableNode, Child}
use Rattle.spec_node.specs.declared.child.Child.TheVariants.{Payload, Node as Below}
use Rattle.spec_map.specs.Call.{exchanged}
use Rattle.spec_map.specs.Legal.{IsLegal, exchange, after_exchange}
use Rattle.spec_map.specs.Map.{Pairs, lookup, without, Rises}
use Rattle.spec_map.specs.Refusal.{never}
use Rattle.spec_map.proofs.MapLaws.{lookup-first, lookup-next, lookup-below, Rises-without, lookup-without_same, lookup-without_other}
use Rattle.spec_map.proofs.JoinLaws.{lookup-above}
use Rattle.share_rule.specs.History.{Entry, operations_of, IsHistory}
use Rattle.live_nodes.proofs.Frames.{put_at, put_here, put_else}
use Rattle.live_nodes.specs.Acts as acts
use Rattle.live_nodes.specs.Nodes.{Content, node}
use Rattle.live_nodes.specs.Seats.{Each}
use Rattle.live_layout.specs.Encodes.{words_of, Encodes, payload_of}
use Rattle.live_layout.specs.Page.{AreListed}
use Rattle.live_nodes.specs.Levels.{Shape, Spot}
use Rattle.live_nodes.specs.Views.{View, view_of, locked}
use Rattle.live_nodes.specs.Tree.{Plan, HasPrefix, HasValue, IsUnder, IsCurrent, IsLocked, IsMap}
use Rattle.live_nodes.proofs.Changes.{tree_stays}
use Rattle.live_nodes.proofs.Writes.{current_at, its_own, home_locked, freed, goes_by}
use Rattle.live_updates.specs.Takings.{taken, takings, removals}
use Rattle.live_updates.specs.inner.Losses.{IsLeft, taking_of, TakesOut}
use Rattle.live_updates.proofs.Ended.{legal-append, succeeds_by}
use Rattle.live_updates.proofs.Rising.{history_ascends}

abbrev History : Type 0
History = List (Entry ℕ)

-- the map without these pairs
abbrev pub without_all : Pairs ℕ → Pairs ℕ → Pairs ℕ
without_all m [] = m
without_all m (p ∷ ps) = without_all (without m p.0) ps

-- THE ENTRIES are one caller's
takings_by : (c : ℕ) (ps : Pairs ℕ) → Each (λ (e : Entry ℕ). e.caller ≡ c) (takings c ps)
takings_by c [] = tt
takings_by c (p ∷ ps) = (refl, (refl, takings_by c ps))

removals_by : (c : ℕ) (ps : Pairs ℕ) → Each (λ (e : Entry ℕ). e.caller ≡ c) (removals c ps)
removals_by c [] = tt
removals_by c (p ∷ ps) = (refl, takings_by c ps)

-- and lead on from a map that has the pairs
abbrev pub HasAll : ℕ → ℕ → Pairs ℕ → Pairs ℕ → Type 0
HasAll low high ps m = (k : ℕ) → low ≤ k → k < high → lookup ps k ≡ lookup m k

pub has_first : (low high : ℕ) (p : ℕ × ℕ) (ps m : Pairs ℕ) → Rises low high (p ∷ ps) → HasAll low high (p ∷ ps) m → lookup m p.0 ≡ Some p.1
has_first low high p ps m rises all = sym (all p.0 rises.0 rises.1) ∙ lookup-first p ps

pub has_rest : (low high : ℕ) (p : ℕ × ℕ) (ps m : Pairs ℕ) → Rises low high (p ∷ ps) → HasAll low high (p ∷ ps) m → HasAll (p.0 + 1) high ps (without m p.0)
has_rest low high p ps m rises all = λ k from below.
    let order = rises.0 in
    let ne : p.0 ≢ k = λ e. omega (arith, from, e) in
    sym (lookup-next p ps k ne) ∙ (all k (omega (arith, from, order)) below ∙ sym (lookup-without_other m p.0 k (λ e. ne (sym e))))

one_taken : (c : ℕ) (m n : Pairs ℕ) (p : ℕ × ℕ) (rest : History) → lookup m p.0 ≡ Some p.1 → IsLegal nat_eq never (without m p.0) (operations_of rest) n → IsLegal nat_eq never m (operations_of (taken c p ∷ rest)) n
one_taken c m n p rest has next =
    let e : exchange nat_eq (lookup m p.0) p.1 None ≡ Ok None = ap (λ (z : Option ℕ). exchange nat_eq z p.1 None) has ∙ succeeds_by p.1 None in
    ((refl, ap exchanged (sym e)), subst (λ (z : Result (Option ℕ) (Option ℕ)). IsLegal nat_eq never (after_exchange m p.0 z) (operations_of rest) n) (sym e) next)

pub taken_legal : (c : ℕ) (history : History) (m : Pairs ℕ) (p : ℕ × ℕ) → IsHistory nat_eq history m → lookup m p.0 ≡ Some p.1 → IsHistory nat_eq (history ++ taken c p ∷ []) (without m p.0)
taken_legal c history m p run has = legal-append [] m (without m p.0) history (taken c p ∷ []) run (one_taken c m (without m p.0) p [] has refl)

takings_run : (c low high : ℕ) (ps m : Pairs ℕ) → Rises low high ps → HasAll low high ps m → IsLegal nat_eq never m (operations_of (takings c ps)) (without_all m ps)
takings_run c low high [] m rises all = refl
takings_run c low high (p ∷ ps) m rises all =
    ((refl, refl), one_taken c m (without_all (without m p.0) ps) p (takings c ps) (has_first low high p ps m rises all) (takings_run c (p.0 + 1) high ps (without m p.0) rises.2 (has_rest low high p ps m rises all)))

removals_run : (c low high : ℕ) (ps m : Pairs ℕ) → Rises low high ps → HasAll low high ps m → IsLegal nat_eq never m (operations_of (removals c ps)) (without_all m ps)
removals_run c low high [] m rises all = refl
removals_run c low high (p ∷ ps) m rises all =
    one_taken c m (without_all (without m p.0) ps) p (takings c ps) (has_first low high p ps m rises all) (takings_run c (p.0 + 1) high ps (without m p.0) rises.2 (has_rest low high p ps m rises all))

-- What is left of the map
none_some : {A : Type 0} {x : A} → None ≡ Some x → ⊥
none_some e = cc

gone : (ps m : Pairs ℕ) (h : ℕ) → Rises 0 h m → (low high : ℕ) → Rises low high ps → (k : ℕ) → lookup ps k ≡ lookup m k → lookup (without_all m ps) k ≡ None
gone [] m h ordered low high rises k same = sym same
gone (p ∷ ps) m h ordered low high rises k same = gone ps (without m p.0) h (Rises-without 0 h m p.0 ordered) (p.0 + 1) high rises.2 k
    (dite (ℕ_discrete k p.0)
    (λ e. lookup-below (p.0 + 1) high ps k rises.2 (omega (arith, e)) ∙ sym (ap (lookup (without m p.0)) e ∙ lookup-without_same 0 h m p.0 ordered))
    (λ ne. sym (lookup-next p ps k (λ e. ne (sym e))) ∙ (same ∙ sym (lookup-without_other m p.0 k ne))))

stays : (ps m : Pairs ℕ) (k : ℕ) → lookup ps k ≡ None → lookup (without_all m ps) k ≡ lookup m k
stays [] m k none = refl
stays (p ∷ ps) m k none = dite (ℕ_discrete p.0 k)
    (λ e. absurd (none_some (sym none ∙ (sym (ap (lookup (p ∷ ps)) e) ∙ lookup-first p ps))))
    (λ ne. stays ps (without m p.0) k (sym (lookup-next p ps k ne) ∙ none) ∙ lookup-without_other m p.0 k (λ e. ne (sym e)))

payload_value : (o : Option (Child ℕ)) (v : Option ℕ) → HasValue o v → payload_of o ≡ v
payload_value None v h = sym h
payload_value (Some (Payload x)) v h = sym h
payload_value (Some (Below s)) v h = absurd h

-- A LEAF that has the pairs no more
module _ (d : Plan) (m : Pairs ℕ) (h : ℕ) (ordered : Rises 0 h m) (ps : Pairs ℕ) (top first to : ℕ) (rises : Rises (256 * top + first) (256 * top + to) ps) (small : to ≤ 256) where
  abbrev later : Pairs ℕ
  later = without_all m ps

  outside : (key : ℕ) → (key < 256 * top + first) ⊎ (256 * top + to ≤ key) → lookup later key ≡ lookup m key
  outside key (inl l) = stays ps m key (lookup-below (256 * top + first) (256 * top + to) ps key rises l)
  outside key (inr l) = stays ps m key (lookup-above (256 * top + first) (256 * top + to) ps key rises l)

  pub elsewhere : (key : ℕ) → key / 256 ≢ top → lookup later key ≡ lookup m key
  elsewhere key ne =
      elim (cases_lt key (256 * top)) [
        | inl l ↦ outside key (inl (omega (arith, l)))
        | inr l ↦ outside key (inr (omega (arith, l, ne, small)))
      ]

  module _ (n : TableNode ℕ) (c : Content) (left : IsLeft first to n c) (value : (b : ℕ) → first ≤ b → b < to → lookup ps (256 * top + b) ≡ payload_of (lookup n.children b)) where
    kept_value : (x : ℕ) → (x < first) ⊎ (to ≤ x) → lookup later (256 * top + x) ≡ lookup m (256 * top + x) → HasValue (lookup n.children x) (lookup m (256 * top + x)) → HasValue (lookup left.its.children x) (lookup later (256 * top + x))
    kept_value x side same has = subst (λ (t : Option (Child ℕ) × Option ℕ). HasValue t.0 t.1) (λ i. (sym (left.kept x side) i, sym same i)) has

    gone_value : (x : ℕ) → first ≤ x → x < to → HasValue (lookup n.children x) (lookup m (256 * top + x)) → HasValue (lookup left.its.children x) (lookup later (256 * top + x))
    gone_value x from below has =
        let none = gone ps m h ordered (256 * top + first) (256 * top + to) rises (256 * top + x) (value x from below ∙ payload_value (lookup n.children x) (lookup m (256 * top + x)) has) in
        subst (λ (t : Option (Child ℕ) × Option ℕ). HasValue t.0 t.1) (λ i. (sym (left.gone x from below) i, sym none i)) refl

    value_there : (x : ℕ) → HasValue (lookup n.children x) (lookup m (256 * top + x)) → HasValue (lookup left.its.children x) (lookup later (256 * top + x))
    value_there x has =
        elim (cases_lt x first) [
          | inl l ↦ kept_value x (inl l) (outside (256 * top + x) (inl (omega (arith, l)))) has
          | inr from ↦
              elim (cases_lt x to) [
                | inl below ↦ gone_value x from below has
                | inr l ↦ kept_value x (inr l) (outside (256 * top + x) (inr (omega (arith, l)))) has
              ]
        ]

    pub under_there : (height : ℕ) → height ≡ 1 → (x : ℕ) → IsUnder d m height top x (lookup n.children x) → IsUnder d later height top x (lookup left.its.children x)
    under_there zero one x u = absurd u
    under_there (suc zero) one x u = value_there x u
    under_there (suc (suc height)) one x u = absurd (omega (arith, one))

  -- in another node
  pub under_else : (height other : ℕ) (o : Option (Child ℕ)) → (height ≡ 1 → other ≢ top) → (x : ℕ) → x < 256 → IsUnder d m height other x o → IsUnder d later height other x o
  under_else zero other o ne x l u = absurd u
  under_else (suc zero) other o ne x l u = subst (HasValue o) (sym (elsewhere (256 * other + x) (λ e. ne refl (omega (arith, e, l))))) u
  under_else (suc (suc height)) other o ne x l u = u

pub leaf_takes : (id : ℕ) (v : View) (a : Spot) (c : Content) → v.own ≡ locked a c ∷ [] → a.shape.height ≡ 1 → (word m : ℕ) → word ≡ 4 * m → (d : Content) → length d ≡ words_of a.shape.form → (first to : ℕ) → to ≤ 256 → (ps : Pairs ℕ)
    → ((n : TableNode ℕ) → Encodes c n → n.form ≡ a.shape.form → length n.prefix ≡ 7 → AreListed n (256 * a.shape.top) first to ps)
    → ((n : TableNode ℕ) → Encodes c n → n.form ≡ a.shape.form → IsLeft first to n d)
    → acts.Frees IsMap id v a.number word d (TakesOut (taking_of id (256 * a.shape.top + first) (256 * a.shape.top + to) ps) v a.number d)
leaf_takes id v a c is leaf word m even d long first to small ps lists leaves ns vs p seat low held rises =
    let k : ℕ = a.number in
    let top : ℕ = a.shape.top in
    let l : IsLocked p.plan ns p.contents id a c = (its_own id v (locked a c ∷ []) is ns vs p seat).0 in
    let s = l.met.spot in
    let as_long : length d ≡ length (node ns k).content = long ∙ sym (p.nodes.long k s.below_root_word s.low ∙ ap words_of s.form) in
    let at_k = home_locked p.plan ns p.contents id a c l in
    let old = current_at p.plan ns p.contents p.pairs id a c p.tree l in
    let listed = lists old.its old.encodes old.in_form (let deep = old.deep in omega (arith, deep, leaf)) in
    let left = leaves old.its old.encodes old.in_form in
    let ordered = history_ascends p.history p.pairs p.legal in
    let pairs : Pairs ℕ = without_all p.pairs ps in
    let new : IsCurrent p.plan pairs a.shape d = record {
      its = left.its;
      encodes = left.encodes;
      in_form = left.form ∙ old.in_form;
      deep = ap (λ (z : List ℕ). length z + a.shape.height) left.prefix ∙ old.deep;
      prefixed = subst (λ (z : List ℕ). HasPrefix z a.shape) (sym left.prefix) old.prefixed;
      under = λ y lo. under_there p.plan p.pairs ordered.0 ordered.1 ps top first to listed.ascend small old.its d left listed.value a.shape.height leaf y (old.under y lo);
    } in
    let home_1 : p.plan.home 1 top ≡ k = ap (λ (h : ℕ). p.plan.home h top) (sym leaf) ∙ l.current in
    let cs' : ℕ → Content = put_at p.contents k d in
    let tree = tree_stays p.plan ns k (freed id v k word d ns vs p seat low held rises as_long) low refl as_long p.contents cs' p.pairs pairs p.tree
    (λ e. absurd (let n = s.below_root_word in omega (arith, e, n)))
    (λ some_node here. subst (λ (z : Shape × Content). IsCurrent p.plan pairs z.0 z.1) (λ i. (sym l.shaped i, sym (put_here p.contents k d) i)) new)
    (λ j some_node ne here cur. subst (IsCurrent p.plan pairs (p.plan.shape j)) (sym (put_else p.contents k d j ne)) record {
      its = cur.its;
      encodes = cur.encodes;
      in_form = cur.in_form;
      deep = cur.deep;
      prefixed = cur.prefixed;
      under = λ y lo. under_else p.plan p.pairs ordered.0 ordered.1 ps top first to listed.ascend small (p.plan.shape j).height (p.plan.shape j).top (lookup cur.its.children y)
          (λ one e. ne (sym here ∙ (ap (λ (h : ℕ). p.plan.home h (p.plan.shape j).top) one ∙ (ap (p.plan.home 1) e ∙ home_1)))) y lo (cur.under y lo);
    })
    (λ y none. elsewhere p.plan p.pairs ordered.0 ordered.1 ps top first to listed.ascend small y (λ e. let n = s.below_root_word in let z : p.plan.home 1 top ≡ 0 = ap (p.plan.home 1) (sym e) ∙ none in omega (arith, z, home_1, n)) ∙ p.tree.absent y none) in
    let at_byte : (b : ℕ) → first ≤ b → b < to → lookup ps (256 * top + b) ≡ lookup p.pairs (256 * top + b) = λ b from below.
    listed.value b from below ∙ payload_value (lookup old.its.children b) (lookup p.pairs (256 * top + b)) (subst (λ (h : ℕ). IsUnder p.plan p.pairs h top b (lookup old.its.children b)) leaf (old.under b (omega (arith, below, small)))) in
    let all : HasAll (256 * top + first) (256 * top + to) ps p.pairs = λ key from below.
    let e : 256 * top + (key - 256 * top) ≡ key = omega (arith, from) in
    subst (λ (z : ℕ). lookup ps z ≡ lookup p.pairs z) e (at_byte (key - 256 * top) (omega (arith, from)) (omega (arith, from, below))) in
    let es : List (Entry ℕ) = removals id ps in
    let legal = legal-append [] p.pairs pairs p.history es p.legal (removals_run id (256 * top + first) (256 * top + to) ps p.pairs listed.ascend all) in (
      view_of (p.history ++ es) v.met [],
      goes_by id v k word d ns vs p seat low held rises as_long cs' (λ j ne. put_else p.contents k d j ne) (λ _. sym (put_here p.contents k d)) (λ _ _. at_k) (λ _ _. (refl, (m, even))) [] tt tt es pairs (removals_by id ps) legal tree,
      record {
        is = refl;
        takes = record { whole = p.history; pairs = p.pairs; legal = p.legal; fits = (p.each_view id v seat).seen; value = all; ascend = listed.ascend; is = refl };
      },
    )
