-- A removal goes up a key's path, step by step: what its loop keeps.
use Rattle.std.proofs.Common.{◌≡◌, ◌≢◌, ℕ, zero, suc, ◌+◌, ◌<◌, List, [], ◌∷◌, ◌++◌, length, get_or, Option, Some, None, IsSome, ◌⊎◌, Bool, false, refl, ap, sym, subst, ◌∙◌, arith, inl, inr, length-append}
use Rattle.node_table.specs.Charge.{Charge}
use Rattle.node_base.specs.Form.{smaller_form}
use Rattle.node_base.specs.declared.base_node.NodeType.{NodeType}
use Rattle.spec_map.specs.Map.{lookup}
use Rattle.std.proofs.lemmas.Bool.{eq-eqb, cases_eq}
use Rattle.spec_node.specs.Key.{AreBytes, low, Begins, next_byte, key_number}
use Rattle.spec_node.specs.TableNode.{TableNode, Child}
use Rattle.node_table.specs.Table.{NodeTable, NodeInfo, node_at, node_info, nodes_at, IsTree}
use Rattle.spec_node.specs.declared.child.Child.TheVariants.{Payload, Node}
use Rattle.node_table.proofs.BeginLaws.{after}
use Rattle.node_table.proofs.KeyLaws.{goes_on, key_number_at}
use Rattle.tree_path.specs.inner.Descent.{PathTo, IsTrail, Halts, LeadsTo, SeeksTo}
use Rattle.tree_path.specs.declared.descent.PathEnd.{PathEnd}
use Rattle.tree_path.specs.declared.descent.Stop.{Stop}
use Rattle.tree_path.specs.declared.descent.Stop.TheVariants.{Differs, Absent, Leaf}
use Rattle.tree_path.specs.inner.Root.{tree_nodes}
use Rattle.tree_path.specs.Charge.{total, MovesAlike}
use Rattle.tree_path.specs.inner.Supply.{count, with_form, one, AreFew}
use Rattle.tree_path.specs.declared.supply.FormCounts.{FormCounts}
use Rattle.tree_edit.specs.inner.Writes.{SameElsewhere, IsStoredWhere}
use Rattle.tree_edit.specs.inner.Takes.{KeepsBut, TakesChild, TakesOnPath, TakesPayload, IsChildOnPath}
use Rattle.tree_edit.specs.Reduce.{with_one_less, in_smaller, MayShrink, IsLessened}
use Rattle.tree_edit.proofs.ShapeLaws.{along_nodes}
use Rattle.tree_edit.proofs.InfoLaws.{less_info}
use Rattle.tree_edit.proofs.WeightLaws.{total-append, total-gone, total-loses, counts_one, counts_itself, few_counted}
use Rattle.tree_edit.proofs.LostLaws.{lost}
use Rattle.tree_edit.proofs.RiseLaws.{longer_than, rises, above_stays, removed}
use Rattle.tree_edit.specs.inner.Rise.{with_all, ThinsAt, Risen, HasRisen, IsWholeBefore, IsRemoval}

abbrev bytes_in : Option Charge → ℕ
bytes_in None = 0
bytes_in (Some c) = c.bytes

abbrev limit_in : Option Charge → ℕ
limit_in None = 0
limit_in (Some c) = c.limit

abbrev more : Charge → ℕ → Charge
more c size = record { bytes = c.bytes + size; limit = c.limit }

pub moves_trans : (a b c : Option Charge) (x y z : ℕ) → MovesAlike a x b y → MovesAlike b y c z → MovesAlike a x c z
moves_trans None None None x y z p q = refl
moves_trans None None (Some c) x y z p q = absurd (let q' : ◌≡◌ {A = Option Charge} None (Some (more c y)) = q in cc)
moves_trans None (Some b) c x y z p q = absurd (let p' : ◌≡◌ {A = Option Charge} None (Some (more b x)) = p in cc)
moves_trans (Some a) None c x y z p q = absurd (let p' : ◌≡◌ {A = Option Charge} (Some (more a y)) None = p in cc)
moves_trans (Some a) (Some b) None x y z p q = absurd (let q' : ◌≡◌ {A = Option Charge} (Some (more b z)) None = q in cc)
moves_trans (Some a) (Some b) (Some c) x y z p q =
    let p' : a.bytes + y ≡ b.bytes + x = ap bytes_in p in
    let q' : b.bytes + z ≡ c.bytes + y = ap bytes_in q in
    let sum : a.bytes + z ≡ c.bytes + x = omega (arith, p', q') in
    let same : a.limit ≡ c.limit = ap limit_in p ∙ ap limit_in q in
    λ i. Some (record { bytes = sum i; limit = same i })

count_all : (f : NodeType) (nodes : List NodeInfo) (c : FormCounts) → count f (with_all nodes c) ≡ count f c + total (one f) nodes
count_all f [] c = omega arith
count_all f (n ∷ nodes) c = omega (arith, count_all f nodes (with_form n.form c), (counts_one f n.form).1 c)

longer_none : (p : List ℕ) (b : ℕ) (r : List ℕ) → Begins (p ++ b ∷ []) r → r ≡ [] → ⊥
longer_none p b r h e =
    let g : Begins (p ++ b ∷ []) [] = subst (λ z. Begins (p ++ b ∷ []) z) e h in
    let k = simp (length-append, length-append) at (ap length (after g).is) in omega arith

module _ {P : Type 0} (s : NodeTable P) (root : ℕ) (key : List ℕ) where
  -- the path of a key determines the slot
  path_one : (a l k : ℕ) (q r : List ℕ) (i j : ℕ) → PathTo s root key a l q i → PathTo s root key a k r j → (l ≡ k) × (i ≡ j)
  path_one zero l k q r i j x y = (x.0 ∙ sym y.0, x.2 ∙ sym y.2)
  path_one (suc a) l k q r i j x y =
      let e = path_one a (suc l) (suc k) x.parent_q y.parent_q x.parent y.parent x.path y.path in
      let both : Some x.tree.node ≡ Some y.tree.node = sym x.tree.here ∙ ap (λ z. node_at s z) e.1 ∙ y.tree.here in
      let same : x.tree.node ≡ y.tree.node = cc in
      let slots : ◌≡◌ {A = Option (Child P)} (Some (Node i)) (Some (Node j)) = sym x.found ∙ ap (λ (n : TableNode P). lookup n.children (next_byte n.prefix key)) same ∙ y.found in
      let slot : i ≡ j = cc in
      (omega (arith, e.0), slot)

  module _ (t : NodeTable P) (slot : ℕ) (old new : FormCounts) where
    pub parent_is : (trail : List ℕ) (n a : ℕ) → IsTrail s root key trail n → a < n → (r : HasRisen s root key t slot (suc a) old new) → r.path.parent ≡ get_or trail a 0
    parent_is trail n a on less r =
        let l = on.at a less in
        (path_one a (suc (suc r.levels)) l.levels r.path.parent_q l.q r.path.parent (get_or trail a 0) r.path.path l.path).1

    pub is_child : (a : ℕ) (r : HasRisen s root key t slot (suc a) old new) → IsChildOnPath t r.path.parent slot key
    is_child a r =
        let p = r.path in
        record {
          above = p.tree.node;
          above_here = above_stays s key t r.levels r.q slot r.top r.left r.risen p.tree.node p.parent p.tree.here p.is;
          found = p.found;
          here = rw r.risen.there refl;
          apart = λ e.
              let both : Some r.top.node ≡ Some p.tree.node = sym r.top.here ∙ ap (λ z. node_at s z) e ∙ p.tree.here in
              let same : r.top.node ≡ p.tree.node = cc in
              longer_than p.tree.node.prefix (next_byte p.tree.node.prefix key) r.top.node.prefix (subst (λ z. Begins z r.top.node.prefix) p.is r.top.begins) (ap (λ (m : TableNode P). m.prefix) same);
        }

    -- ONE NODE MORE IS REMOVED
    pub up_one : (a : ℕ) (r : HasRisen s root key t slot (suc a) old new) → length r.left.children ≡ 0 → (t' : NodeTable P) (new' : FormCounts)
        → KeepsBut r.path.parent slot t t' → TakesOnPath t t' r.path.parent key → new ≡ with_form r.left.form new'
        → HasRisen s root key t' r.path.parent a old new'
    unfolding rises
    up_one a r none t' new' keeps takes less =
        let p = r.path in
        let still = above_stays s key t r.levels r.q slot r.top r.left r.risen p.tree.node p.parent p.tree.here p.is in
        let x = takes p.tree.node still in
        record {
          levels = suc r.levels;
          q = p.parent_q;
          path = p.path;
          top = p.tree;
          left = x.0;
          risen = rises s key t t' r.levels r.q slot r.top r.left r.risen none p.tree.node p.parent p.tree.here p.begins p.is p.found p.parent_q x.0 keeps x.1 x.2;
          form = x.2.2;
          counted = r.counted ∙ ap (with_all r.risen.gone) (less ∙ ap (λ f. with_form f new') r.form);
        }

    module _ (at : ℕ) (r : HasRisen s root key t slot at old new) (trail : List ℕ) (above : ℕ) (w : IsWholeBefore s root key trail above old) where
      -- the node is counted
      pub counted_here : 0 < count r.left.form new
      counted_here =
          let n = r.top.node in
          let x = r.risen in
          let f = n.form in
          let on = goes_on n.prefix key x.begins w.bytes r.top.sound.short w.full in
          let l = lost s t r.levels r.q slot (next_byte n.prefix key) (key_number key) x.child r.left r.top x.keeps x.there x.prefix x.children x.found x.spent on.at_least on.below in
          let lift = along_nodes s t root key at (suc r.levels) slot r.q r.path l.others in
          let part = total-gone (one f) (tree_nodes s root) (tree_nodes t root) (nodes_at s (suc r.levels) r.q slot) (nodes_at t (suc r.levels) r.q slot) lift in
          let was : nodes_at s (suc r.levels) r.q slot ≡ node_info r.q n ∷ (l.among.left ++ (x.gone ++ l.among.right)) = l.was ∙ ap (λ z. node_info r.q n ∷ (l.among.left ++ (z ++ l.among.right))) x.nodes in
          let sums : total (one f) (nodes_at s (suc r.levels) r.q slot) ≡ one f f + total (one f) (l.among.left ++ (x.gone ++ l.among.right)) = ap (total (one f)) was in
          let here : 0 < count f new =
          omega (arith, part, sums, total-append (one f) l.among.left (x.gone ++ l.among.right), total-append (one f) x.gone l.among.right, counts_itself f, w.counted f, ap (count f) r.counted, count_all f x.gone new) in
          subst (λ g. 0 < count g new) (sym r.form) here

      pub few_here : AreFew new
      few_here f = omega (arith, few_counted s root old w.tree w.counted f, ap (count f) r.counted, count_all f r.risen.gone new)

      -- THE END, where the node keeps some form
      ends_at : (t' : NodeTable P) (new' : FormCounts) → SameElsewhere slot t t' → (m : TableNode P) → node_at t' slot ≡ Some m → m.prefix ≡ r.left.prefix → m.children ≡ r.left.children
          → (m.prefix ≡ [] → m.form ≡ r.left.form) → (shrinks : Bool) → (shrinks ≡ false → node_info r.q m ≡ with_one_less (node_info r.q r.top.node))
          → (r.top.node.prefix ≡ []) ⊎ (0 < length m.children) → IsLessened (node_info r.q r.top.node) (node_info r.q m) → with_form r.left.form new' ≡ with_form m.form new → IsRemoval s root key shrinks t' new'
      unfolding removed
      ends_at t' new' same m there prefix children root_form shrinks in_place stays less trade =
          let n = r.top.node in
          let x = r.risen in
          let y : Risen s key t' r.levels r.q slot n m = record {
            begins = x.begins;
            there = there;
            prefix = prefix ∙ x.prefix;
            children = children ∙ x.children;
            child = x.child;
            found = x.found;
            spent = x.spent;
            gone = x.gone;
            nodes = x.nodes;
            way = x.way;
            keeps = λ i z far off here. same i far ∙ x.keeps i z far off here;
          } in
          let d = removed s t' root key w.bytes w.full at r.levels slot r.q r.path r.top m y stays less in
          record {
            tree = d.tree;
            rooted = elim (cases_eq root slot) [
              | inl is ↦
                  let both : Some n ≡ Some w.rooted.node = sym r.top.here ∙ ap (λ z. node_at s z) (sym is) ∙ w.rooted.here in
                  let as_root : n ≡ w.rooted.node = cc in
                  let none : m.prefix ≡ [] = prefix ∙ x.prefix ∙ ap (λ (y : TableNode P). y.prefix) as_root ∙ w.rooted.prefix in
                  record { node = m; here = ap (λ z. node_at t' z) is ∙ there; form = root_form none ∙ r.form ∙ ap (λ (y : TableNode P). y.form) as_root ∙ w.rooted.form; prefix = none }
              | inr other ↦
                  let kept = x.keeps root w.rooted.node other (λ deep. longer_none n.prefix (next_byte n.prefix key) w.rooted.node.prefix deep w.rooted.prefix) w.rooted.here in
                  record { node = w.rooted.node; here = same root other ∙ kept; form = w.rooted.form; prefix = w.rooted.prefix }
            ];
            pairs = d.pairs;
            nodes = d.nodes;
            in_place = in_place;
            counted = λ f.
                let sums : total (one f) (tree_nodes t' root) + (one f n.form + total (one f) x.gone) ≡ total (one f) (tree_nodes s root) + one f m.form = total-loses (one f) (tree_nodes s root) key (tree_nodes t' root) d.nodes in
                omega (arith, sums, w.counted f, ap (count f) r.counted, count_all f x.gone new, ap (count f) trade, (counts_one f r.left.form).1 new', (counts_one f m.form).1 new, ap (one f) r.form);
          }

      lessened : node_info r.q r.left ≡ with_one_less (node_info r.q r.top.node)
      lessened =
          let x = r.risen in
          let some : IsSome (lookup r.top.node.children (next_byte r.top.node.prefix key)) = rw x.found refl in
          less_info r.q r.top.node r.left (next_byte r.top.node.prefix key) r.top.sound.ordered some x.prefix x.children r.form

      -- at the root
      pub ends_top : at ≡ 0 → (shrinks : Bool) → IsRemoval s root key shrinks t new
      ends_top top shrinks =
          let path = subst (λ a. PathTo s root key a (suc r.levels) r.q slot) top r.path in
          let both : Some r.top.node ≡ Some w.rooted.node = sym r.top.here ∙ ap (λ z. node_at s z) path.2 ∙ w.rooted.here in
          let same : r.top.node ≡ w.rooted.node = cc in
          ends_at t new (λ i far. refl) r.left r.risen.there refl refl (λ e. refl) shrinks (λ e. lessened) (inl (ap (λ (m : TableNode P). m.prefix) same ∙ w.rooted.prefix)) (inl lessened) refl

    -- below it, where the node may be in its smaller form now
    pub ends_thin : (a : ℕ) (r : HasRisen s root key t slot (suc a) old new) (trail : List ℕ) (above : ℕ) (w : IsWholeBefore s root key trail above old) → 0 < length r.left.children
        → (t' : NodeTable P) (new' : FormCounts) → SameElsewhere slot t t' → (shrinks : Bool) → ThinsAt t t' slot shrinks new new' → IsRemoval s root key shrinks t' new'
    ends_thin a r trail above w some t' new' same shrinks thins =
        let info = lessened (suc a) r trail above w in
        let small : TableNode P = record r.left { form = smaller_form r.left.form } in
        let below : r.left.prefix ≢ [] = λ e. longer_none r.path.tree.node.prefix (next_byte r.path.tree.node.prefix key) r.top.node.prefix (subst (λ z. Begins z r.top.node.prefix) r.path.is r.top.begins) (sym r.risen.prefix ∙ e) in
        elim (thins r.left r.risen.there) [
          | inl z ↦ ends_at (suc a) r trail above w t' new' same r.left z.0 refl refl (λ e. refl) shrinks (λ e. info) (inr some) (inl info) (ap (with_form r.left.form) z.1)
          | inr z ↦
              let may : MayShrink (node_info r.q r.left) = record { below_root = below; some = some; few = z.1 } in
              ends_at (suc a) r trail above w t' new' same small z.2 refl refl (λ e. absurd (below e)) shrinks (λ e. absurd (let clash = sym z.0 ∙ e in cc)) (inr some) (inr (subst MayShrink info may, ap in_smaller info)) z.3
        ]

  -- ITS START: the payload is taken out of the key's leaf
  pub starts : AreBytes key → length key ≡ 8 → (t : NodeTable P) (above levels slot : ℕ) (q : List ℕ) → PathTo s root key above levels q slot → IsTree s levels q slot
      → (n : TableNode P) → node_at s slot ≡ Some n → Begins n.prefix key → length n.prefix ≡ 7 → (v : P) → lookup n.children (next_byte n.prefix key) ≡ Some (Payload v)
      → SameElsewhere slot s t → TakesChild s t slot (next_byte n.prefix key) → (forms : FormCounts) → HasRisen s root key t slot above forms forms
  starts bytes full t above zero slot q path h n here begins seven v found same takes forms = absurd h
  starts bytes full t above (suc levels) slot q path h n here begins seven v found same takes forms =
      let both : Some n ≡ Some h.node = sym here ∙ h.here in
      let is : n ≡ h.node = cc in
      let p = h.node.prefix in
      let b = next_byte p key in
      let k = key_number key in
      let begins' : Begins p key = subst (λ (m : TableNode P). Begins m.prefix key) is begins in
      let seven' : length p ≡ 7 = subst (λ (m : TableNode P). length m.prefix ≡ 7) is seven in
      let found' : lookup h.node.children b ≡ Some (Payload v) = subst (λ (m : TableNode P). lookup m.children (next_byte m.prefix key) ≡ Some (Payload v)) is found in
      let takes' : TakesChild s t slot b = subst (λ (m : TableNode P). TakesChild s t slot (next_byte m.prefix key)) is takes in
      let x = takes' h.node h.here in
      let on = goes_on p key begins' bytes h.sound.short full in
      let whole : low (p ++ b ∷ []) ≡ k = ap key_number (sym (key_number_at p key _ on.begins seven' full)) in
      record {
        levels = levels;
        q = q;
        path = path;
        top = h;
        left = x.0;
        risen = record {
          begins = begins';
          there = x.1;
          prefix = x.2.0;
          children = x.2.1;
          child = Payload v;
          found = found';
          spent = rw (whole, eq-eqb k k refl) refl;
          gone = [];
          nodes = refl;
          way = let long = length-append p (b ∷ []) in omega (arith, long, seven');
          keeps = λ i z far off stood. same i far ∙ stood;
        };
        form = x.2.2;
        counted = refl;
      }

  at_stop : AreBytes key → length key ≡ 8 → (t : NodeTable P) (forms : FormCounts) (above slot parent : ℕ) (stop : Stop) (v : P) → LeadsTo s root key above slot parent → (n : TableNode P) → node_at s slot ≡ Some n → Halts key n stop
      → IsStoredWhere s slot stop v → TakesPayload s t slot stop → HasRisen s root key t slot above forms forms
  at_stop bytes full t forms above slot parent (Differs at) v l n here halts at_key takes = absurd at_key
  at_stop bytes full t forms above slot parent (Absent b) v l n here halts at_key takes = absurd at_key
  at_stop bytes full t forms above slot parent (Leaf b) v l n here halts at_key takes =
      starts bytes full t above l.levels slot l.q l.path l.tree n here halts.1 halts.2 v (subst (λ x. lookup n.children x ≡ Some (Payload v)) halts.0 (at_key n here)) takes.0 (subst (λ x. TakesChild s t slot x) halts.0 takes.1) forms

  -- at the node where the descent ended
  pub at_spot : (t : NodeTable P) (trail : List ℕ) (forms : FormCounts) (spot : PathEnd) (v : P) → IsWholeBefore s root key trail spot.above forms → SeeksTo s root key spot
      → IsStoredWhere s spot.slot spot.stop v → TakesPayload s t spot.slot spot.stop → HasRisen s root key t spot.slot spot.above forms forms
  at_spot t trail forms spot v w f at_key takes = at_stop w.bytes w.full t forms spot.above spot.slot spot.parent spot.stop v f.leads f.node f.here f.stop at_key takes

  -- which is the trail's last
  pub at_trail : (t : NodeTable P) (trail : List ℕ) (forms : FormCounts) (spot : PathEnd) (v : P) → IsWholeBefore s root key trail spot.above forms → SeeksTo s root key spot
      → IsStoredWhere s spot.slot spot.stop v → TakesPayload s t spot.slot spot.stop → HasRisen s root key t (get_or trail spot.above 0) spot.above forms forms
  at_trail t trail forms spot v w f at_key takes =
      let l = w.on_trail.at spot.above (omega arith) in
      let is = (path_one spot.above l.levels f.leads.levels l.q f.leads.q (get_or trail spot.above 0) spot.slot l.path f.leads.path).1 in
      subst (λ i. HasRisen s root key t i spot.above forms forms) (sym is) (at_spot t trail forms spot v w f at_key takes)
