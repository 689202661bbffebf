-- A key's payload is taken out of a leaf that has another one: what is left is a whole tree, in which the descent of that
-- other key ends at the same leaf.
use Rattle.std.proofs.Common.{◌≡◌, ◌≢◌, ℕ, zero, suc, ◌+◌, ◌-◌, ◌<◌, ◌≤◌, ◌&&◌, cond, leb, ltb, not, Bool, true, List, [], ◌∷◌, length, length-set, get_or, map, set, Option, Some, None, IsSome, IsTrue, refl, ap, sym, subst, ◌∙◌, arith, inl, inr}
use Rattle.std.proofs.lemmas.Bool.{lt-ltb, le-leb, eq-eqb, ne_eqb, cases_eq}
use Rattle.std.proofs.lemmas.List.{get_or-set_same}
use Rattle.std.specs.Int.{from_be_bytes, w64}
use Rattle.spec_map.specs.Map.{Pairs, IsMap, lookup, without, between, Rises}
use Rattle.spec_map.proofs.MapLaws.{lookup-first, lookup-below, lookup-between_inside, lookup-without_other}
use Rattle.spec_map.proofs.RangeLaws.{between-next, between-within}
use Rattle.node_base.specs.Form.{smaller_form}
use Rattle.node_table.specs.Charge.{Charge}
use Rattle.spec_node.specs.Key.{AreBytes, Begins, begins, key_number}
use Rattle.node_table.specs.Table.{NodeTable, node_at, pairs_at, nodes_at, IsTree}
use Rattle.node_table.proofs.KeyLaws.{key_number-be_bytes}
use Rattle.spec_node.specs.TableNode.{TableNode, Child}
use Rattle.spec_node.specs.declared.child.Child.TheVariants.{Payload, Node}
use Rattle.tree_path.specs.inner.Descent.{Halts, IsOfOneKind, IsTrail, LeadsTo, SeeksTo}
use Rattle.tree_path.specs.inner.Root.{depth, tree_pairs}
use Rattle.tree_path.specs.inner.Supply.{Alike, AreFew, IsCountedAt, SupplyView}
use Rattle.tree_path.specs.declared.descent.PathEnd.{PathEnd}
use Rattle.tree_path.specs.declared.descent.Stop.TheVariants as stops
use Rattle.tree_path.specs.declared.supply.FormCounts.{FormCounts}
use Rattle.tree_path.proofs.PathEndLaws.{leads_kind}
use Rattle.tree_edit.specs.Outside.{outside}
use Rattle.tree_edit.specs.Tree.{TreeView}
use Rattle.tree_edit.specs.TreeCalls.{RemovesRun}
use Rattle.tree_edit.specs.inner.Lowers.{HasTaken}
use Rattle.tree_edit.specs.inner.Rise.{HasRisen, IsRemoval, IsWholeBefore, ThinsAt}
use Rattle.tree_edit.specs.Calls.{HasNoneAfter}
use Rattle.tree_edit.specs.inner.Run.{IsAtPair, HasNoneBetween}
use Rattle.tree_edit.specs.inner.Spots.{HasThere}
use Rattle.tree_edit.specs.inner.Whole.{IsWhole}
use Rattle.tree_edit.specs.inner.Writes.{HasNothingUnder, IsStoredWhere, NothingIsStored, SameElsewhere}
use Rattle.tree_edit.proofs.BesideLaws.{leads_alike, leads_kept}
use Rattle.tree_edit.proofs.CallLaws.{after, moves_alike, nothing_seen}
use Rattle.tree_edit.proofs.CountLaws.{count_less, is_map}
use Rattle.tree_edit.proofs.FilledLaws.{loses}
use Rattle.tree_edit.proofs.RemovalLaws.{leaf_at, leaf_taken}
use Rattle.tree_edit.proofs.SettleLaws.{left_removal, risen_there}
use Rattle.tree_edit.proofs.SpotLaws.{nothing_there, stands_there}
use Rattle.tree_edit.proofs.TidyLaws.{counted_here, few_here, moves_trans}
use Rattle.tree_links.specs.LeafCalls.{HasLeafAt, HasNothing, TakesPayload}
use Rattle.tree_links.specs.SeenTable.{name_of}
use Rattle.tree_links.specs.Seeks.{seen_at, seen_end}
use Rattle.tree_links.specs.declared.link.Link.{Link}
use Rattle.tree_links.specs.declared.descent.LinkEnd.{LinkEnd}
use Rattle.tree_links.specs.declared.descent.LinkStop.TheVariants.{Leaf}

-- WHAT A BYTE of a key leaves as it is
begins_set : (p key : List ℕ) (i v : ℕ) → length p ≤ i → begins p (set key i v) ≡ begins p key
begins_set [] key i v short = refl
begins_set (b ∷ p) [] i v short = refl
begins_set (b ∷ p) (c ∷ q) zero v short = absurd (omega (arith, short))
begins_set (b ∷ p) (c ∷ q) (suc i) v short = rw (begins_set p q i v (omega (arith, short))) refl

pub begins_still : (key : List ℕ) (v : ℕ) (p : List ℕ) → length p ≤ 7 → Begins p key → Begins p (set key 7 v)
begins_still key v p short h = record { holds = subst (λ x. IsTrue x) (sym (begins_set p key 7 v short)) h.holds }

pub are_bytes : (key : List ℕ) (i v : ℕ) → v < 256 → AreBytes key → AreBytes (set key i v)
are_bytes [] i v less h = tt
are_bytes (b ∷ key) zero v less h = (less, h.1)
are_bytes (b ∷ key) (suc i) v less h = (h.0, are_bytes key i v less h.1)

-- WHAT A REMOVAL leaves outside
pub outside-without : {V : Type 0} (m : Pairs V) (s e k : ℕ) → s ≤ k → k < e → outside (without m k) s e ≡ outside m s e
outside-without [] s e k p q = refl
outside-without (x ∷ xs) s e k p q =
    elim (cases_eq x.0 k) [
      | inl same ↦ rw (eq-eqb x.0 k same, le-leb s x.0 (omega (arith, same)), lt-ltb x.0 e (omega (arith, same))) refl
      | inr other ↦ rw (ne_eqb x.0 k other) (ap (λ t. cond (not (leb s x.0 && ltb x.0 e)) (x ∷ t) t) (outside-without xs s e k p q))
    ]

-- another last byte
number_set : (key : List ℕ) (v : ℕ) → length key ≡ 8 → from_be_bytes w64 (set key 7 v) + get_or key 7 0 ≡ from_be_bytes w64 key + v
number_set (a ∷ b ∷ c ∷ d ∷ e ∷ f ∷ g ∷ h ∷ []) v full = omega arith
number_set _ v full = absurd (omega arith)

-- a link that is the first from a byte on is found
pub found_first : {P : Type 0} (es : List (ℕ × Link P)) (a b : ℕ) (c : Link P) (rest : List (ℕ × Link P)) → Rises 0 256 es → between es a 256 ≡ (b, c) ∷ rest → lookup es b ≡ Some c
found_first es a b c rest ordered is =
    let n = between-next 0 256 a 256 es (b, c) rest ordered (omega arith) is in
    sym (lookup-between_inside es a 256 b n.order n.inside) ∙ ap (λ l. lookup l b) is ∙ lookup-first (b, c) rest

-- and the bytes between have none
pub none_found : {P : Type 0} (es : List (ℕ × Link P)) (a b : ℕ) (c : Link P) (rest : List (ℕ × Link P)) → Rises 0 256 es → between es a 256 ≡ (b, c) ∷ rest → (byte : ℕ) → a ≤ byte → byte < b → lookup es byte ≡ None
none_found es a b c rest ordered is byte from below =
    let rises : Rises a 256 ((b, c) ∷ rest) = subst (λ l. Rises a 256 l) is (between-within 0 256 a 256 es ordered) in
    sym (lookup-between_inside es a 256 byte from (omega (arith, below, rises.1))) ∙ ap (λ l. lookup l byte) is
    ∙ lookup-below b 256 ((b, c) ∷ rest) byte (omega arith, rises.1, rises.2) below

module _ {P : Type 0} where
  some_child : (es : List (ℕ × Child P)) (b : ℕ) → IsSome (lookup es b) → 0 < length es
  some_child [] b h = absurd (cc)
  some_child (e ∷ es) b h = omega arith

  record Stored (n : TableNode P) (b : ℕ) : Type 0 where
    payload : P
    is : lookup n.children b ≡ Some (Payload payload)

  stored_in : (n : TableNode P) (b : ℕ) → length n.prefix ≡ 7 → IsOfOneKind n → IsSome (lookup n.children b) → Stored n b
  stored_in n b seven kind h = at (lookup n.children b) refl h
    where
      at : (o : Option (Child P)) → lookup n.children b ≡ o → IsSome o → Stored n b
      at None is some = absurd (cc)
      at (Some (Payload v)) is some = record { payload = v; is = is }
      at (Some (Node j)) is some = absurd (let less : length n.prefix < 7 = kind b (Node j) is in omega (arith, seven, less))

module _ {P : Type 0} (s : NodeTable P) (root : ℕ) (forms : FormCounts) (count : ℕ) (key trail : List ℕ) (e : LinkEnd) (at : IsAtPair s root forms count key (map name_of trail) e) where
  pub whole_here : IsWholeBefore s root key (map name_of trail) e.above forms
  whole_here = record { tree = at.whole.tree; rooted = at.whole.rooted; bytes = at.bytes; full = at.full; on_trail = at.on_trail; counted = at.whole.by_form }

  some_level : (levels : ℕ) (q : List ℕ) (slot : ℕ) → IsTree s levels q slot → 0 < levels
  some_level zero q slot h = absurd h
  some_level (suc levels) q slot h = omega arith

  pub short_here : e.above < 8
  short_here = let w = at.on_trail.at e.above (omega arith) in omega (arith, w.sum, some_level w.levels w.q (get_or (map name_of trail) e.above 0) w.tree)

  pub ordered_here : IsMap (tree_pairs s root)
  ordered_here = is_map s root at.whole.tree

  -- the key's payload
  pub found_here : (v : P) → HasThere s key e v → Some v ≡ lookup (tree_pairs s root) (from_be_bytes w64 key)
  found_here v there = sym (subst (λ k. lookup (tree_pairs s root) k ≡ Some v) (key_number-be_bytes key at.full) (stands_there s root key (seen_end key e) at.ends at.bytes at.full v there))

  -- WHAT A REMOVAL of the pair leaves
  module _ (shrinks : Bool) (t : NodeTable P) (new : FormCounts) (removal : IsRemoval s root key shrinks t new) where
    stored : lookup (pairs_at s depth root) (key_number key) ≡ Some at.payload
    stored = stands_there s root key (seen_end key e) at.ends at.bytes at.full at.payload at.there

    pub one_less : count ≡ length (tree_pairs t root) + 1
    one_less = count_less s root at.whole.tree _ (Some at.payload) (sym stored) _ at.whole.counted _ removal.pairs refl

    pub whole_after : IsWhole t root new (count - 1)
    whole_after = record { tree = removal.tree; rooted = removal.rooted; filled = loses _ key _ removal.nodes at.whole.filled; by_form = removal.counted; counted = omega (arith, one_less) }

  module _ (b : ℕ) (is : e.stop ≡ Leaf b) where
    ends_here : SeeksTo s root key (seen_at key e.slot e.parent e.above (Leaf b))
    ends_here = subst (λ st. SeeksTo s root key (seen_at key e.slot e.parent e.above st)) is at.ends

    leaf_stop : Halts key ends_here.node (stops.Leaf b)
    leaf_stop = ends_here.stop

    pub leaf_here : HasLeafAt s (name_of e.slot)
    leaf_here = leaf_at s root key e b is at.ends

    -- under another byte there is another key's payload, or none
    module _ (other : ℕ) (less : other < 256) where
      aside : SeeksTo s root (set key 7 other) (seen_at (set key 7 other) e.slot e.parent e.above (Leaf other))
      aside = record {
        leads = leads_alike s root key (set key 7 other) (are_bytes key 7 other less at.bytes) (length-set key 7 other ∙ at.full) (begins_still key other) e.above (name_of e.slot) (name_of e.parent) ends_here.leads;
        node = ends_here.node;
        here = ends_here.here;
        stop = (
          sym (get_or-set_same key 7 other 0 (omega (arith, at.full))) ∙ ap (λ i. get_or (set key 7 other) i 0) (sym leaf_stop.2),
          begins_still key other ends_here.node.prefix (omega (arith, leaf_stop.2)) leaf_stop.1,
          leaf_stop.2,
        );
      }

      lacks_aside : HasNothingUnder s (name_of e.slot) other → lookup (tree_pairs s root) (from_be_bytes w64 (set key 7 other)) ≡ None
      lacks_aside nothing =
          subst (λ k. lookup (tree_pairs s root) k ≡ None) (key_number-be_bytes (set key 7 other) (length-set key 7 other ∙ at.full))
          (nothing_there s root (set key 7 other) (seen_at (set key 7 other) e.slot e.parent e.above (Leaf other)) aside (are_bytes key 7 other less at.bytes) (length-set key 7 other ∙ at.full) nothing)

    -- a later byte is that of a later key
    pub rises_here : (next : ℕ) → b < next → from_be_bytes w64 key < from_be_bytes w64 (set key 7 next)
    rises_here next less =
        let last : b ≡ get_or key 7 0 = leaf_stop.0 ∙ ap (λ i. get_or key i 0) leaf_stop.2 in
        let to = number_set key next at.full in
        omega (arith, last, to, less)

    -- so none is before that of the next byte
    pub none_beside : (next : ℕ) → next < 256 → HasNoneBetween s (name_of e.slot) b next → HasNoneAfter (tree_pairs s root) (from_be_bytes w64 key + 1) (from_be_bytes w64 (set key 7 next))
    none_beside next byte none = λ k from below.
        let last : b ≡ get_or key 7 0 = leaf_stop.0 ∙ ap (λ i. get_or key i 0) leaf_stop.2 in
        let other = (k - from_be_bytes w64 key) + b in
        let to = number_set key next at.full in
        let is = number_set key other at.full in
        let less : other < next = omega (arith, last, to, from, below) in
        let same : from_be_bytes w64 (set key 7 other) ≡ k = omega (arith, last, is, from) in
        subst (λ i. lookup (tree_pairs s root) i ≡ None) same
        (lacks_aside other (omega (arith, less, byte)) (λ n here. none n here other (omega (arith, from)) less))

    -- the next payload in the leaf, where this one stays
    module _ (next : ℕ) (byte : next < 256) (present : (n : TableNode P) → node_at s (name_of e.slot) ≡ Some n → IsSome (lookup n.children next)) where
      beyond : Stored ends_here.node next
      beyond = stored_in ends_here.node next leaf_stop.2 (leads_kind s root key e.above (name_of e.slot) (name_of e.parent) ends_here.node ends_here.leads ends_here.here) (present ends_here.node ends_here.here)

      pub along : IsAtPair s root forms count (set key 7 next) (map name_of trail) (record e { stop = Leaf next })
      along = record {
        whole = at.whole;
        bytes = are_bytes key 7 next byte at.bytes;
        full = length-set key 7 next ∙ at.full;
        ends = aside next byte;
        pair = tt;
        on_trail = record { at = λ i less. leads_alike s root key (set key 7 next) (are_bytes key 7 next byte at.bytes) (length-set key 7 next ∙ at.full) (begins_still key next) i (get_or (map name_of trail) i 0) (get_or (map name_of trail) (i - 1) 0) (at.on_trail.at i less) };
        payload = beyond.payload;
        there = λ m here.
            let both : Some ends_here.node ≡ Some m = sym ends_here.here ∙ here in
            let same : ends_here.node ≡ m = cc in
            subst (λ (n : TableNode P). lookup n.children next ≡ Some (Payload beyond.payload)) same beyond.is;
      }

    -- what is taken out is the key's
    pub taken_here : (t : NodeTable P) (v : P) → TakesPayload s t (name_of e.slot) b v → Some v ≡ lookup (tree_pairs s root) (from_be_bytes w64 key)
    taken_here t v x =
        let there : IsStoredWhere s (name_of e.slot) (stops.Leaf b) v = λ n here.
        let both : Some x.node ≡ Some n = sym x.here ∙ here in
        let same : x.node ≡ n = cc in
        subst (λ (m : TableNode P). lookup m.children b ≡ Some (Payload v)) same x.found
        in
        found_here v (subst (λ st. IsStoredWhere s (seen_at key e.slot e.parent e.above st).slot (seen_at key e.slot e.parent e.above st).stop v) (sym is) there)

    -- the payload is there
    pub there_here : (n : TableNode P) → node_at s (name_of e.slot) ≡ Some n → lookup n.children b ≡ Some (Payload at.payload)
    there_here = subst (λ st. IsStoredWhere s (seen_at key e.slot e.parent e.above st).slot (seen_at key e.slot e.parent e.above st).stop at.payload) is at.there

    pub not_nothing : HasNothing s (name_of e.slot) b → ⊥
    not_nothing x = let clash : ◌≡◌ {A = Option (Child P)} None (Some (Payload at.payload)) = sym x.absent ∙ there_here x.node x.here in cc

    module _ (t : NodeTable P) (v : P) (x : TakesPayload s t (name_of e.slot) b v) where
      taken : HasTaken s t root key (map name_of trail) e.above (name_of e.slot) (name_of e.parent) b forms
      taken = leaf_taken s root key e b is at.ends t trail v forms whole_here x

      risen : HasRisen s root key t (name_of e.slot) e.above forms forms
      risen = risen_there s t root key (map name_of trail) e.above (name_of e.slot) (name_of e.parent) b forms taken

      -- the leaf that is left is counted, and may shrink
      pub counted_left : IsCountedAt t (name_of e.slot) forms
      counted_left = record { node = risen.left; here = risen.risen.there; counted = counted_here _ _ _ _ _ _ _ _ risen _ _ taken.whole }

      pub few_left : AreFew forms
      few_left = few_here _ _ _ _ _ _ _ _ risen _ _ taken.whole

      abbrev lessened : TableNode P
      lessened = record x.node { children = without x.node.children b }

      module _ (next : ℕ) (byte : next < 256) (other : next ≢ b) (present : (n : TableNode P) → node_at s (name_of e.slot) ≡ Some n → IsSome (lookup n.children next))
          (u : NodeTable P) (new : FormCounts) (keeps : SameElsewhere (name_of e.slot) t u) (thins : ThinsAt t u (name_of e.slot) true forms new) where
        same : ends_here.node ≡ x.node
        same = let both : Some ends_here.node ≡ Some x.node = sym ends_here.here ∙ x.here in cc

        seven : length x.node.prefix ≡ 7
        seven = subst (λ (n : TableNode P). length n.prefix ≡ 7) same leaf_stop.2

        begun : Begins x.node.prefix key
        begun = subst (λ (n : TableNode P). Begins n.prefix key) same leaf_stop.1

        found : Stored x.node next
        found = stored_in x.node next seven (leads_kind s root key e.above (name_of e.slot) (name_of e.parent) x.node ends_here.leads x.here) (present x.node x.here)

        found_left : lookup lessened.children next ≡ Some (Payload found.payload)
        found_left = lookup-without_other x.node.children b next other ∙ found.is

        some_left : (m : TableNode P) → node_at t (name_of e.slot) ≡ Some m → 0 < length m.children
        some_left m here =
            let both : Some lessened ≡ Some m = sym x.there ∙ here in
            let is_left : lessened ≡ m = cc in
            subst (λ (n : TableNode P). 0 < length n.children) is_left (some_child lessened.children next (rw found_left refl))

        pub removal : IsRemoval s root key true u new
        removal =
            left_removal s t root key (map name_of trail) e.above (name_of e.slot) (name_of e.parent) b forms taken u new true keeps thins some_left

        -- what is there now, in either form
        record Left : Type 0 where
          node : TableNode P
          here : node_at u (name_of e.slot) ≡ Some node
          prefix : node.prefix ≡ x.node.prefix
          children : node.children ≡ lessened.children

        left : Left
        left = elim (thins lessened x.there) [
          | inl z ↦ record { node = lessened; here = z.0; prefix = refl; children = refl }
          | inr z ↦ record { node = record lessened { form = smaller_form x.node.form }; here = z.2; prefix = refl; children = refl }
        ]

        elsewhere : SameElsewhere (name_of e.slot) s u
        elsewhere i off = keeps i off ∙ x.others i off

        -- the other key
        abbrev then : List ℕ
        then = set key 7 next

        bytes_then : AreBytes then
        bytes_then = are_bytes key 7 next byte at.bytes

        full_then : length then ≡ 8
        full_then = length-set key 7 next ∙ at.full

        leads_then : (a slot parent : ℕ) → LeadsTo s root key a slot parent → LeadsTo u root then a slot parent
        leads_then a slot parent w =
            leads_alike u root key then bytes_then full_then (begins_still key next) a slot parent
            (leads_kept s u root (name_of e.slot) x.node x.here seven elsewhere removal.tree key a slot parent w)

        last_then : get_or then 7 0 ≡ next
        last_then = get_or-set_same key 7 next 0 (omega (arith, at.full))

        seven_left : length left.node.prefix ≡ 7
        seven_left = ap (λ (p : List ℕ). length p) left.prefix ∙ seven

        begun_left : Begins left.node.prefix then
        begun_left = subst (λ p. Begins p then) (sym left.prefix) (begins_still key next x.node.prefix (omega (arith, seven)) begun)

        ends_then : SeeksTo u root then (seen_at then e.slot e.parent e.above (Leaf next))
        ends_then = record {
          leads = leads_then e.above (name_of e.slot) (name_of e.parent) ends_here.leads;
          node = left.node;
          here = left.here;
          stop = (sym last_then ∙ ap (λ i. get_or then i 0) (sym seven_left), begun_left, seven_left);
        }

        trail_then : IsTrail u root then (map name_of trail) (e.above + 1)
        trail_then = record { at = λ i less. leads_then i (get_or (map name_of trail) i 0) (get_or (map name_of trail) (i - 1) 0) (at.on_trail.at i less) }

        pub beside : IsAtPair u root new (count - 1) then (map name_of trail) (record e { stop = Leaf next })
        beside = record {
          whole = whole_after true u new removal;
          bytes = bytes_then;
          full = full_then;
          ends = ends_then;
          pair = tt;
          on_trail = trail_then;
          payload = found.payload;
          there = λ m here.
              let both : Some left.node ≡ Some m = sym left.here ∙ here in
              let is_left : left.node ≡ m = cc in
              subst (λ (n : TableNode P). lookup n.children next ≡ Some (Payload found.payload)) is_left (ap (λ cs. lookup cs next) left.children ∙ found_left);
        }

-- THE END of a run: after the payloads that were taken out in place, the last pair is removed
module _ {P A : Type 0} (charge : A → Option Charge) (s : NodeTable P) (root : ℕ) (old : SupplyView A) (count : ℕ) (i : IsWhole s root old.forms count) (w : TreeView P A)
    (seen : ◌≡◌ {A = TreeView P A} (record { pairs = pairs_at s depth root; nodes = nodes_at s depth [] root; budget = old.budget }) w) (start first_key end : ℕ) where
  pub run_ends : (t : NodeTable P) (mid : SupplyView A) → Alike charge old mid → (n : ℕ) (last trail : List ℕ) (e : LinkEnd) → IsAtPair t root mid.forms n last (map name_of trail) e
      → outside (tree_pairs t root) start end ≡ outside (tree_pairs s root) start end → start ≤ from_be_bytes w64 last → from_be_bytes w64 last < end → n ≤ count
      → (u : NodeTable P) (new : SupplyView A) → IsRemoval t root last true u new.forms → Alike charge mid new → RemovesRun charge w start first_key end (after charge s root old count i w seen u new)
  run_ends t mid first n last trail e at others from below fewer u new x second =
      let pairs : tree_pairs u root ≡ without (tree_pairs t root) (from_be_bytes w64 last) = x.pairs ∙ ap (λ k. without (tree_pairs t root) k) (key_number-be_bytes last at.full) in
      let less = one_less t root mid.forms n last trail e at true u new.forms x in
      let alike : Alike charge old new = moves_trans _ _ _ _ _ _ first second in
      record {
        others = rw (← seen) (ap (λ m. outside m start end) pairs ∙ outside-without (tree_pairs t root) start end (from_be_bytes w64 last) from below ∙ others);
        fewer = λ some. rw (← seen) (omega (arith, less, fewer, i.counted));
        charged = rw (← seen) (moves_alike charge old new (nodes_at s depth [] root) (nodes_at u depth [] root) i.by_form x.counted alike);
      }

  -- and where there was no pair at its start
  pub run_empty : (key : List ℕ) (bytes : AreBytes key) (full : length key ≡ 8) (spot : PathEnd) (ends : SeeksTo s root key spot) → from_be_bytes w64 key ≡ first_key → NothingIsStored s spot.slot spot.stop → RemovesRun charge w start first_key end w
  run_empty key bytes full spot ends is nothing =
      let none : lookup w.pairs first_key ≡ None = subst (λ k. lookup w.pairs k ≡ None) is (nothing_seen charge s root old count i w seen key bytes full spot ends nothing) in
      record { others = refl; fewer = λ some. absurd (let clash = rw none at some in cc); charged = refl }
