-- A leaf that has lost a payload: what is left of it, and its way back into its parent.
use Rattle.std.proofs.Common.{◌≡◌, ℕ, zero, suc, ◌-◌, ◌<◌, List, [], ◌∷◌, ◌++◌, length, take, get_or, map, Option, Some, None, Bool, refl, ap, sym, subst, ◌∙◌, arith, inl, inr, length-append}
use Rattle.std.proofs.lemmas.Bool.{cases_eq, eq-eqb}
use Rattle.spec_map.specs.Map.{lookup, without, Rises}
use Rattle.spec_map.proofs.MapLaws.{lookup-without_same, lookup-without_other}
use Rattle.node_base.specs.Form.{smaller_form}
use Rattle.node_base.specs.declared.base_node.NodeType.TheVariants.{N4}
use Rattle.spec_node.specs.Key.{Begins, next_byte}
use Rattle.spec_node.specs.TableNode.{TableNode, Child, MayHave}
use Rattle.node_table.specs.Table.{NodeTable, node_at}
use Rattle.spec_node.specs.declared.child.Child.TheVariants.{Payload, Node}
use Rattle.node_table.proofs.BeginLaws.{begins_append}
use Rattle.node_table.proofs.DownLaws.{Begins-trans}
use Rattle.node_table.proofs.TableLaws.{open_subtree}
use Rattle.tree_path.specs.inner.Descent.{Halts, IsOfOneKind, LeadsTo, PathTo}
use Rattle.tree_path.specs.declared.descent.Stop.TheVariants as stops
use Rattle.tree_path.specs.declared.supply.FormCounts.{FormCounts}
use Rattle.tree_path.proofs.PathEndLaws.{leads_kind}
use Rattle.tree_edit.specs.inner.Rise.{HasRisen, IsRemoval, ThinsAt}
use Rattle.tree_edit.specs.inner.Writes.{SameElsewhere}
use Rattle.tree_edit.proofs.TidyLaws.{at_spot, at_trail, ends_thin}
use Rattle.tree_links.specs.PairCalls.{HasLeaf}
use Rattle.tree_links.specs.SeenTable.{leaf_of, name_of}
use Rattle.tree_edit.specs.inner.Lowers.{HasLeafOnPath, HasTaken, SameOnPath}
use Rattle.tree_edit.proofs.LeadLaws.{goes_still, step_above, StepAbove}
use Rattle.tree_edit.proofs.SameLaws.{same_removal}

-- a trail of slots by the numbers under which they are seen
pub at_name : (xs : List ℕ) (i : ℕ) → get_or (map name_of xs) i 0 ≡ name_of (get_or xs i 0)
at_name [] i = omega arith
at_name (x ∷ xs) zero = refl
at_name (x ∷ xs) (suc i) = at_name xs i

take_front : (p : List ℕ) (r : List ℕ) → take (length p) (p ++ r) ≡ p
take_front [] r = refl
take_front (b ∷ p) r = ap (λ x. b ∷ x) (take_front p r)

at_end : (p : List ℕ) (b : ℕ) → get_or (p ++ b ∷ []) (length p) 0 ≡ b
at_end [] b = refl
at_end (c ∷ p) b = at_end p b

module _ {P : Type 0} where
  -- the leaf of one pair
  pub record OnePair (n : TableNode P) : Type 0 where
    pub key : List ℕ
    pub payload : P
    pub full : length key ≡ 8
    pub begins : Begins n.prefix key
    pub is : n ≡ leaf_of key payload

  one_in : (n : TableNode P) → n.form ≡ N4 → length n.prefix ≡ 7 → IsOfOneKind n → (es : List (ℕ × Child P)) → n.children ≡ es → length es ≡ 1 → OnePair n
  one_in n form seven kind [] children one = absurd (omega (arith, one))
  one_in n form seven kind (e ∷ d ∷ es) children one = absurd (omega (arith, one))
  one_in n form seven kind (e ∷ []) children one = at e.1 refl
    where
      at : (c : Child P) → e.1 ≡ c → OnePair n
      at (Node j) is =
          let first : lookup (e ∷ []) e.0 ≡ Some e.1 = rw (eq-eqb e.0 e.0 refl) refl in
          let less : length n.prefix < 7 = kind e.0 (Node j) (ap (λ es. lookup es e.0) children ∙ first ∙ ap (λ c. Some c) is) in
          absurd (omega (arith, seven, less))
      at (Payload v) is =
          let key = n.prefix ++ e.0 ∷ [] in
          let front : take 7 key ≡ n.prefix = subst (λ k. take k key ≡ n.prefix) seven (take_front n.prefix (e.0 ∷ [])) in
          let last : get_or key 7 0 ≡ e.0 = subst (λ k. get_or key k 0 ≡ e.0) seven (at_end n.prefix e.0) in
          let one_child : n.children ≡ (get_or key 7 0, Payload v) ∷ [] = children ∙ ap (λ c. (e.0, c) ∷ []) is ∙ ap (λ b. (b, Payload v) ∷ []) (sym last) in
          record {
            key = key;
            payload = v;
            full = omega (arith, length-append n.prefix (e.0 ∷ []), seven);
            begins = begins_append n.prefix (e.0 ∷ []);
            is = ap (λ f. record { form = f; prefix = n.prefix; children = n.children }) form
                ∙ ap (λ p. record { form = N4; prefix = p; children = n.children }) (sym front)
                ∙ ap (λ cs. record { form = N4; prefix = take 7 key; children = cs }) one_child;
          }

  pub one_pair : (n : TableNode P) → n.form ≡ N4 → length n.prefix ≡ 7 → IsOfOneKind n → length n.children ≡ 1 → OnePair n
  one_pair n form seven kind one = one_in n form seven kind n.children refl one

  -- it may go back
  pub has_leaf : (s : NodeTable P) (parent leaf b : ℕ) (key : List ℕ) (h : HasLeafOnPath s parent leaf key) → b ≡ next_byte h.above.prefix key → h.node.form ≡ N4 → length h.node.children ≡ 1 → HasLeaf s parent b leaf
  has_leaf s parent leaf b key h byte form one =
      let x = one_pair h.node form h.seven h.kind one in
      record {
        below = record { node = h.above; here = h.above_here; inner = h.inner; found = subst (λ c. lookup h.above.children c ≡ Some (Node leaf)) (sym byte) h.found };
        key = x.key;
        payload = x.payload;
        full = x.full;
        begins = Begins-trans (h.above.prefix ++ b ∷ []) h.node.prefix x.key (subst (λ c. Begins (h.above.prefix ++ c ∷ []) h.node.prefix) (sym byte) h.begins) x.begins;
        is = h.here ∙ ap (λ (n : TableNode P). Some n) x.is;
      }

  -- what a node has left is of its kind
  kind_without : (p : List ℕ) (es : List (ℕ × Child P)) (b : ℕ) → Rises 0 256 es → ((c : ℕ) (d : Child P) → lookup es c ≡ Some d → MayHave p d) → (c : ℕ) (d : Child P) → lookup (without es b) c ≡ Some d → MayHave p d
  kind_without p es b ordered kind c d found =
      elim (cases_eq c b) [
        | inl same ↦ absurd (let none : lookup (without es b) c ≡ None = ap (λ z. lookup (without es b) z) same ∙ lookup-without_same 0 256 es b ordered in let clash : ◌≡◌ {A = Option (Child P)} None (Some d) = sym none ∙ found in cc)
        | inr other ↦ kind c d (sym (lookup-without_other es b c other) ∙ found)
      ]

  module _ (s t : NodeTable P) (root : ℕ) (key trail : List ℕ) (above leaf parent byte : ℕ) (forms : FormCounts) (h : HasTaken s t root key trail above leaf parent byte forms) where
    pub risen_there : HasRisen s root key t leaf above forms forms
    risen_there = at_spot s root key t trail forms (record { slot = leaf; parent = parent; above = above; stop = stops.Leaf byte }) h.payload h.whole h.ends h.stored h.takes

    pub risen_on_trail : HasRisen s root key t (get_or trail above 0) above forms forms
    risen_on_trail = at_trail s root key t trail forms (record { slot = leaf; parent = parent; above = above; stop = stops.Leaf byte }) h.payload h.whole h.ends h.stored h.takes

    leaf_stop : Halts key h.ends.node (stops.Leaf byte)
    leaf_stop = h.ends.stop

    below_root : 0 < above
    below_root = at_place above h.ends.leads.levels h.ends.leads.q h.ends.leads.path
      where
        at_place : (a levels : ℕ) (q : List ℕ) → PathTo s root key a levels q leaf → 0 < a
        at_place zero levels q path =
            let both : Some h.ends.node ≡ Some h.whole.rooted.node = sym h.ends.here ∙ ap (λ z. node_at s z) path.2 ∙ h.whole.rooted.here in
            let is : h.ends.node ≡ h.whole.rooted.node = cc in
            let none : length h.ends.node.prefix ≡ 0 = ap (λ (n : TableNode P). length n.prefix) is ∙ ap (λ (p : List ℕ). length p) h.whole.rooted.prefix in
            absurd (omega (arith, leaf_stop.2, none))
        at_place (suc a) levels q path = omega arith

    one_more : above ≡ suc (above - 1)
    one_more = omega (arith, below_root)

    step : StepAbove s root key h.whole.bytes h.whole.full (above - 1) leaf parent
    step = step_above s root key h.whole.bytes h.whole.full (above - 1) leaf parent (subst (λ a. LeadsTo s root key a leaf parent) one_more h.ends.leads) h.whole.tree

    module _ (t' : NodeTable P) (new : FormCounts) (shrinks : Bool) (same : SameElsewhere leaf t t') (thins : ThinsAt t t' leaf shrinks forms new) (some : (n : TableNode P) → node_at t leaf ≡ Some n → 0 < length n.children) where
      elsewhere : SameElsewhere leaf s t'
      elsewhere o off = same o off ∙ h.takes.0 o off

      pub left_removal : IsRemoval s root key shrinks t' new
      left_removal =
          let r = subst (λ a. HasRisen s root key t leaf a forms forms) one_more risen_there in
          ends_thin s root key t leaf forms forms (above - 1) r trail above h.whole (some r.left r.risen.there) t' new same shrinks thins

      pub leaf_left : HasLeafOnPath t' parent leaf key
      leaf_left =
          let n = h.ends.node in
          let x = h.takes.1 n h.ends.here in
          let kind = leads_kind s root key above leaf parent n h.ends.leads h.ends.here in
          let o = open_subtree s h.ends.leads.levels leaf n (record { above = h.ends.leads.q; tree = h.ends.leads.tree }) (sym h.ends.here) in
          let ordered : Rises 0 256 n.children = o.sound.ordered in
          let kept : IsOfOneKind x.0 = λ c d found. subst (λ p. MayHave p d) (sym x.2.0) (kind_without n.prefix n.children byte ordered kind c d (subst (λ es. lookup es c ≡ Some d) x.2.1 found)) in
          elim (thins x.0 x.1) [
            | inl z ↦ at x.0 z.0 x.2.0 kept
            | inr z ↦ at (record x.0 { form = smaller_form x.0.form }) z.2 x.2.0 kept
          ]
        where
          at : (m : TableNode P) → node_at t' leaf ≡ Some m → m.prefix ≡ h.ends.node.prefix → IsOfOneKind m → HasLeafOnPath t' parent leaf key
          at m here prefix kind = record {
            above = step.node;
            above_here = elsewhere parent (λ e. step.apart (sym e)) ∙ step.here;
            inner = step.inner;
            found = step.found;
            node = m;
            here = here;
            seven = ap (λ (p : List ℕ). length p) prefix ∙ leaf_stop.2;
            begins = subst (λ p. Begins (step.node.prefix ++ next_byte step.node.prefix key ∷ []) p) (sym prefix) (step.below h.ends.node h.ends.here);
            kind = kind;
          }

      -- and where it has gone back
      pub settled : (u : NodeTable P) → SameOnPath t' u parent key → IsRemoval s root key shrinks u new
      settled u on_path =
          let r = left_removal in
          let goes = goes_still s root key h.whole.bytes h.whole.full t' r.tree (above - 1) leaf parent (subst (λ a. LeadsTo s root key a leaf parent) one_more h.ends.leads) h.whole.tree elsewhere in
          same_removal t' u root (on_path root _ r.tree goes) s key shrinks new r
