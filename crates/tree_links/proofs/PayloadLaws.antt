-- What is seen of a leaf in which a payload is set or taken out, and of a node that is taken out of its parent.
use Rattle.std.proofs.Common.{◌≡◌, ◌≢◌, ℕ, zero, suc, ◌+◌, ◌*◌, List, [], ◌∷◌, length, Option, Some, None, IfSome, IfNone, Result, Ok, Err, IfOk, OnErr, refl, ap, sym, subst, ◌∙◌, arith, inl, inr}
use Rattle.std.proofs.lemmas.Bool.{cases_eq}
use Rattle.std.specs.Option.{option_map}
use Rattle.spec_map.specs.Map.{lookup}
use Rattle.spec_map.proofs.MapLaws.{lookup-put_same, lookup-without_same}
use Rattle.node_base.specs.Form.{Fits}
use Rattle.node_base.specs.declared.base_node.NodeType.{NodeType}
use Rattle.spec_node.specs.TableNode.{TableNode}
use Rattle.spec_node.specs.declared.child.Child.TheVariants as children
use Rattle.tree_links.specs.LeafCalls.{HasLeafAt, HasRoomFor, SetsPayload, HasNothing, IsFullFor, TakesPayload}
use Rattle.tree_links.specs.LinkNode.{LinkNode, with_link, without_link}
use Rattle.tree_links.specs.LosesNode.{IsEmptyAt, LosesNode}
use Rattle.tree_links.specs.SeenTable.{LinkTable, width, name_of, link_at, seen_link, seen_links, seen_node, pair_at, pair_in, seen_table}
use Rattle.tree_links.specs.declared.link.Link.{Link}
use Rattle.tree_links.specs.declared.link.Link.TheVariants.{Payload, Slot}
use Rattle.tree_links.specs.inner.Slots.{SameSlots, IsLeafAt, SetsAt, IsAbsentAt, IsFullAt, LacksLink, PutsLink, TakesLink}
use Rattle.tree_links.specs.inner.Pairs.{pairs_in_table}
use Rattle.tree_links.proofs.PairSums.{pairs-set, pairs-taken}
use Rattle.tree_links.proofs.SeenLaws.{seen_in, seen_slot, at_slot, slot_at, lookup-seen, put-seen, none_under, without-seen, length-seen, seen-put, seen-without, same_one}

module _ {P : Type 0} where
  -- A LEAF that is seen is there
  pub leaf_is : (t : LinkTable P) (i : ℕ) → HasLeafAt (seen_table t) (name_of i) → IsLeafAt t i
  leaf_is t i h =
      let n = slot_at t i h.node h.here in
      record { node = n.node; here = n.here; seven = subst (λ (m : TableNode P). length m.prefix ≡ 7) n.is h.seven }

  pub seven_at : (t : LinkTable P) (i : ℕ) (n : LinkNode P) → IsLeafAt t i → link_at t i ≡ Some n → length n.prefix ≡ 7
  seven_at t i n h here =
      let both : Some h.node ≡ Some n = sym h.here ∙ here in
      let is : h.node ≡ n = cc in
      subst (λ (m : LinkNode P). length m.prefix ≡ 7) is h.seven

  -- a payload isn't seen as a leaf in a place of its own
  no_leaf : (p : List ℕ) (b : ℕ) (before : Option P) → pair_at p b (option_map (λ v. Payload v) before) ≡ None
  no_leaf p b None = refl
  no_leaf p b (Some v) = refl

  seen_payload : (i b : ℕ) (before : Option P) → option_map (λ c. seen_link i b c) (option_map (λ v. Payload v) before) ≡ option_map (λ v. children.Payload v) before
  seen_payload i b None = refl
  seen_payload i b (Some v) = refl

  -- A PAYLOAD IS SET
  pub sets_payload : (t u : LinkTable P) (i b : ℕ) (v : P) (before : Option P) → SetsAt t u i b v before → SetsPayload (seen_table t) (seen_table u) (name_of i) b v before
  sets_payload t u i b v before h = record {
    node = seen_node i n;
    here = at_slot t i n h.here;
    was = lookup-seen i n.links b ∙ ap (option_map (λ c. seen_link i b c)) h.was ∙ seen_payload i b before;
    room = λ none. subst (λ k. Fits n.form (k + 1)) (sym (length-seen i n.links)) (h.room none);
    there = at_slot u i (with_link n b (Payload v)) h.there ∙ ap (λ es. Some (record { form = n.form; prefix = n.prefix; children = es })) (put-seen i n.links b (Payload v));
    others = same_one t u i (λ o. o ≢ name_of i) h.others stays;
  }
    where
      n : LinkNode P
      n = h.node

      was_none : pair_in (link_at t i) b ≡ None
      was_none = ap (λ x. pair_in x b) h.here ∙ ap (pair_at n.prefix b) h.was ∙ no_leaf n.prefix b before

      is_none : pair_in (link_at u i) b ≡ None
      is_none = ap (λ x. pair_in x b) h.there ∙ ap (pair_at n.prefix b) (lookup-put_same n.links b (Payload v))

      stays : (a : ℕ) → (i * width + a ≢ name_of i) → seen_in i (link_at u i) a ≡ seen_in i (link_at t i) a
      stays zero off = absurd (off (omega arith))
      stays (suc d) off =
          elim (cases_eq d b) [
            | inl same ↦ subst (λ y. pair_in (link_at u i) y ≡ pair_in (link_at t i) y) (sym same) (is_none ∙ sym was_none)
            | inr other ↦
                ap (λ x. seen_in i x (suc d)) h.there
                ∙ seen-put i n b (Payload v) (suc d) (λ z. absurd (omega (arith, z))) (λ z. other (omega (arith, z)))
                ∙ sym (ap (λ x. seen_in i x (suc d)) h.here)
          ]

  -- where there was room for it
  pub lacks_payload : (t : LinkTable P) (i b : ℕ) (v : P) → HasRoomFor (seen_table t) (name_of i) b → LacksLink t i b (Payload v)
  lacks_payload t i b v h =
      let n = slot_at t i h.node h.here in
      let room : Fits n.node.form (length (seen_links i n.node.links) + 1) = subst (λ (m : TableNode P). Fits m.form (length m.children + 1)) n.is h.room in
      record {
        node = n.node;
        here = n.here;
        absent = none_under i b n.node.links (subst (λ (m : TableNode P). lookup m.children b ≡ None) n.is h.absent);
        room = subst (λ x. Fits n.node.form (x + 1)) (length-seen i n.node.links) room;
        kind = subst (λ (m : TableNode P). length m.prefix ≡ 7) n.is h.seven;
      }

  pub puts_payload : (t u : LinkTable P) (i b : ℕ) (v : P) → LacksLink t i b (Payload v) → PutsLink t u i b (Payload v) → SetsPayload (seen_table t) (seen_table u) (name_of i) b v None
  puts_payload t u i b v was h =
      let both : Some was.node ≡ Some h.node = sym was.here ∙ h.here in
      let is : was.node ≡ h.node = cc in
      sets_payload t u i b v None (record {
        node = h.node;
        here = h.here;
        ordered = h.ordered;
        was = h.absent;
        room = λ none. subst (λ (m : LinkNode P). Fits m.form (length m.links + 1)) is was.room;
        there = h.there;
        others = h.others;
      })

  -- A PAYLOAD IS TAKEN OUT
  pub takes_payload : (t u : LinkTable P) (i b : ℕ) (v : P) → TakesLink t u i b (Payload v) → TakesPayload (seen_table t) (seen_table u) (name_of i) b v
  takes_payload t u i b v h = record {
    node = seen_node i n;
    here = at_slot t i n h.here;
    found = lookup-seen i n.links b ∙ ap (option_map (λ c. seen_link i b c)) h.found;
    there = at_slot u i (without_link n b) h.there ∙ ap (λ es. Some (record { form = n.form; prefix = n.prefix; children = es })) (without-seen i n.links b);
    others = same_one t u i (λ o. o ≢ name_of i) h.others stays;
  }
    where
      n : LinkNode P
      n = h.node

      was_none : pair_in (link_at t i) b ≡ None
      was_none = ap (λ x. pair_in x b) h.here ∙ ap (pair_at n.prefix b) h.found

      is_none : pair_in (link_at u i) b ≡ None
      is_none = ap (λ x. pair_in x b) h.there ∙ ap (pair_at n.prefix b) (lookup-without_same 0 256 n.links b h.ordered)

      stays : (a : ℕ) → (i * width + a ≢ name_of i) → seen_in i (link_at u i) a ≡ seen_in i (link_at t i) a
      stays zero off = absurd (off (omega arith))
      stays (suc d) off =
          elim (cases_eq d b) [
            | inl same ↦ subst (λ y. pair_in (link_at u i) y ≡ pair_in (link_at t i) y) (sym same) (is_none ∙ sym was_none)
            | inr other ↦
                ap (λ x. seen_in i x (suc d)) h.there
                ∙ seen-without i n b (suc d) (λ z. absurd (omega (arith, z))) (λ z. other (omega (arith, z)))
                ∙ sym (ap (λ x. seen_in i x (suc d)) h.here)
          ]

  -- NOTHING IS THERE
  none_seen : (i b : ℕ) (es : List (ℕ × Link P)) → lookup es b ≡ None → lookup (seen_links i es) b ≡ None
  none_seen i b es absent = lookup-seen i es b ∙ ap (option_map (λ c. seen_link i b c)) absent

  pub has_nothing : (t : LinkTable P) (i b : ℕ) → IsAbsentAt t i b → HasNothing (seen_table t) (name_of i) b
  has_nothing t i b h = record { node = seen_node i h.node; here = at_slot t i h.node h.here; absent = none_seen i b h.node.links h.absent }

  pub is_full_for : (t : LinkTable P) (i b : ℕ) → IsFullAt t i b → IsFullFor (seen_table t) (name_of i) b
  is_full_for t i b h = record {
    node = seen_node i h.node;
    here = at_slot t i h.node h.here;
    absent = none_seen i b h.node.links h.absent;
    full = λ fits. h.full (subst (λ k. Fits h.node.form (k + 1)) (length-seen i h.node.links) fits);
  }

  -- A NODE IS TAKEN OUT OF ITS PARENT: its slot has nothing in g, and the parent nothing under the byte in u
  no_links : (i : ℕ) (es : List (ℕ × Link P)) → seen_links i es ≡ [] → es ≡ []
  no_links i [] h = refl
  no_links i (e ∷ es) h = absurd (cc)

  -- nothing is below it
  pub empty_is : (t : LinkTable P) (i : ℕ) (n : LinkNode P) → link_at t i ≡ Some n → IsEmptyAt (seen_table t) (name_of i) → n.links ≡ []
  empty_is t i n here h =
      let both : Some h.node ≡ Some (seen_node i n) = sym h.here ∙ at_slot t i n here in
      let is : h.node ≡ seen_node i n = cc in
      no_links i n.links (subst (λ (m : TableNode P). m.children ≡ []) is h.empty)

  -- and it isn't the parent
  pub empty_apart : (t : LinkTable P) (i j b : ℕ) (n m : LinkNode P) (c : Link P) → link_at t i ≡ Some n → n.links ≡ [] → link_at t j ≡ Some m → lookup m.links b ≡ Some c → j ≢ i
  empty_apart t i j b n m c here empty there found e =
      let both : Some n ≡ Some m = sym here ∙ ap (λ k. link_at t k) (sym e) ∙ there in
      let is : n ≡ m = cc in
      let none : lookup m.links b ≡ None = ap (λ es. lookup es b) (ap (λ (x : LinkNode P). x.links) (sym is) ∙ empty) in
      let clash : ◌≡◌ {A = Option (Link P)} None (Some c) = sym none ∙ found in cc

  pub loses_node : (t g u : LinkTable P) (p b i : ℕ) (n : LinkNode P) (form : NodeType) → link_at t i ≡ Some n → n.links ≡ [] → n.form ≡ form → link_at g i ≡ None → SameSlots t g i → p ≢ i
      → TakesLink g u p b (Slot i) → LosesNode (seen_table t) (seen_table u) (name_of p) b (name_of i) form
  loses_node t g u p b i n form was empty of_form none others apart h = record {
    node = seen_node p h.node;
    gone = seen_node i n;
    here = at_slot t p h.node here;
    was = at_slot t i n was;
    of_form = of_form;
    there = at_slot u p (without_link h.node b) h.there ∙ ap (λ es. Some (record { form = h.node.form; prefix = h.node.prefix; children = es })) (without-seen p h.node.links b);
    free = seen_slot u i ∙ ap (option_map (λ m. seen_node i m)) none_then;
    others = λ o far off.
        same_one g u p (λ o. o ≢ name_of p) h.others in_parent o far ∙ same_one t g i (λ o. o ≢ name_of i) others in_old o off;
  }
    where
      here : link_at t p ≡ Some h.node
      here = sym (others p apart) ∙ h.here

      none_then : link_at u i ≡ None
      none_then = h.others i (λ e. apart (sym e)) ∙ none

      was_none : pair_in (link_at g p) b ≡ None
      was_none = ap (λ x. pair_in x b) h.here ∙ ap (pair_at h.node.prefix b) h.found

      is_none : pair_in (link_at u p) b ≡ None
      is_none = ap (λ x. pair_in x b) h.there ∙ ap (pair_at h.node.prefix b) (lookup-without_same 0 256 h.node.links b h.ordered)

      in_parent : (a : ℕ) → (p * width + a ≢ name_of p) → seen_in p (link_at u p) a ≡ seen_in p (link_at g p) a
      in_parent zero off = absurd (off (omega arith))
      in_parent (suc d) off =
          elim (cases_eq d b) [
            | inl same ↦ subst (λ y. pair_in (link_at u p) y ≡ pair_in (link_at g p) y) (sym same) (is_none ∙ sym was_none)
            | inr other ↦
                ap (λ x. seen_in p x (suc d)) h.there
                ∙ seen-without p h.node b (suc d) (λ z. absurd (omega (arith, z))) (λ z. other (omega (arith, z)))
                ∙ sym (ap (λ x. seen_in p x (suc d)) h.here)
          ]

      in_old : (a : ℕ) → (i * width + a ≢ name_of i) → seen_in i (link_at g i) a ≡ seen_in i (link_at t i) a
      in_old zero off = absurd (off (omega arith))
      in_old (suc d) off = ap (λ x. pair_in x d) none ∙ sym (ap (λ x. pair_in x d) was ∙ ap (λ es. pair_at n.prefix d (lookup es d)) empty)

-- A CALL WITH TWO OUTCOMES
pub if_some : {A : Type 0} {F G : A → Type 0} (o : Option A) → ((a : A) → F a → G a) → IfSome o F → IfSome o G
if_some None f h = h
if_some (Some a) f h = f a h

pub if_none : {A X Y : Type 0} (o : Option A) → (X → Y) → IfNone o X → IfNone o Y
if_none None f h = f h
if_none (Some a) f h = h

module _ {P : Type 0} (t u : LinkTable P) (i b : ℕ) where
  pub pairs_if_set : (v : P) (r : Result (Option P) P) → IfOk r (λ before. SetsAt t u i b v before) → OnErr r (u ≡ t) → pairs_in_table u ≡ pairs_in_table t
  pairs_if_set v (Ok before) h same = pairs-set t u i b v before h
  pairs_if_set v (Err back) h same = ap pairs_in_table same

  pub pairs_if_taken : (o : Option P) → IfSome o (λ before. TakesLink t u i b (Payload before)) → IfNone o (u ≡ t) → pairs_in_table u ≡ pairs_in_table t
  pairs_if_taken None h same = ap pairs_in_table same
  pairs_if_taken (Some before) h same = let less = pairs-taken t u i b (Payload before) h in omega (arith, less)
