-- THE LARGER COPY, and the node that is put between: what the code may rely on at the node, and the event that it
-- makes.
use Rattle.std.proofs.Common.{◌≡◌, ◌≢◌, ℕ, ◌+◌, ◌<◌, ◌≤◌, Bool, IsTrue, true, ◌↔◌, List, [], ◌∷◌, length, Option, Some, None, IfSome, refl, sym, subst, ap, ◌∙◌, arith}
use Rattle.std.proofs.lemmas.Bool.{eq-eqb}
use Rattle.node_table.specs.Charge.{Charge}
use Rattle.node_base.specs.Form.{Fits, next_form}
use Rattle.node_base.specs.declared.base_node.NodeType.TheVariants.{N4}
use Rattle.spec_map.specs.Map.{lookup, put}
use Rattle.spec_node.specs.Key.{Begins, next_byte}
use Rattle.spec_node.specs.TableNode.{MayHave, TableNode, Child}
use Rattle.spec_node.specs.declared.child.Child.TheVariants.{Payload, Node as below_at}
use Rattle.node_table.proofs.KindLaws.{length-mapped, lookup-mapped_some, mapped-absent}
use Rattle.spec_olc.specs.Kinds.{report_of}
use Rattle.spec_olc.specs.Lists.{is_in}
use Rattle.spec_olc.specs.Meaning.{child_of}
use Rattle.olc_state.specs.inner.Tails.{held_in, one_more}
use Rattle.spec_olc.specs.State.{State}
use Rattle.spec_olc.specs.Writing.{HeldNode, IsNewNode, IsOwn}
use Rattle.spec_olc.specs.declared.types.Env.{Env}
use Rattle.spec_olc.specs.declared.types.Kind.TheVariants as kind
use Rattle.spec_olc.specs.declared.types.Outcome.TheVariants.{Going}
use Rattle.olc_state.specs.declared.stage.Task.{Task}
use Rattle.olc_state.specs.declared.stock.Stock.{Stock}
use Rattle.olc_state.specs.declared.tail.NodePair.{NodePair}
use Rattle.olc_state.specs.declared.tail.Tail as tails
use Rattle.olc_state.specs.declared.tail.Tail.TheVariants.{Grow, Insert, MakeMiddle, Replace}
use Rattle.olc_state.specs.inner.Meant.{meant_node, meant_task}
use Rattle.olc_state.specs.inner.Shown.{flight}
use Rattle.olc_state.specs.inner.Stocks.{IsStoreSound, StockKnows, StockMoves, table_in}
use Rattle.olc_state.specs.inner.Tables.{IsLinked, IsPlaced}
use Rattle.olc_state.specs.inner.TailFacts.{HasOwn, HasOwnLeaf, HasRoom, IsFork, IsLarge, found, grown_by, is_for, middle_of, stores}
use Rattle.olc_state.specs.inner.Tasks.{key_bytes}
use Rattle.olc_state.specs.inner.Turns.{ShowsNodes}
use Rattle.olc_state.specs.inner.World.{PlacedNode, NodeLifetime, NodeMap}
use Rattle.olc_state.proofs.Options.{none_some, some_same}
use Rattle.olc_state.proofs.Reaching.{one, seen_at}
use Rattle.olc_state.proofs.Ways.{longer-begins}
use Rattle.olc_state.proofs.Unlike.{cons_none}
use Rattle.olc_state.proofs.Members.{first_in}
use Rattle.olc_write.specs.inner.Makings.{AddsBuilt, AreOfKind, IsBetween, IsGrownFor, IsOwnOf}
use Rattle.olc_write.proofs.Copies.{copy_new, middle_new}
use Rattle.olc_write.proofs.CopyLaws.{may_from}
use Rattle.olc_write.proofs.MakingEvents.{granted_moves}
use Rattle.olc_write.proofs.MakingNodes.{at}
use Rattle.olc_write.proofs.MakingFacts.{Enters, copy_enters, copy_made, middle_made}
use Rattle.olc_write.proofs.MakingTurns.{built_is}

few_more : (leaf : Option ℕ) → length (one_more leaf) ≤ 1
few_more None = omega arith
few_more (Some leaf) = omega arith

module _ {M : Type 0} where
  -- each child of a linked node is of its kind
  pub placed_kinds : (t : NodeMap M) (root s : ℕ) (x : PlacedNode M) → IsPlaced t root → IsLinked t s x → AreOfKind x.node
  placed_kinds t root s x placed linked byte (Payload v) h = placed.leaf s x linked byte v h
  placed_kinds t root s x placed linked byte (below_at c) h =
      let below = placed.below s x linked byte c h in
      let longer : length x.node.prefix < length below.node.node.prefix = longer-begins x.node.prefix below.node.node.prefix byte below.begins in
      let short : length below.node.node.prefix ≤ 7 = placed.short c below.node below.linked in omega (arith, longer, short)

  -- what the growth of a node rests on
  pub record Grows (x : PlacedNode M) (k : List ℕ) (leaf : Option ℕ) : Type 0 where
    pub way : Begins x.node.prefix k
    pub none : found x k ≡ None
    pub full : HasRoom x → ⊥
    pub kind : (length x.node.prefix ≡ 7) ↔ (leaf ≡ None)

  pub grows : (x : PlacedNode M) (k : List ℕ) (leaf : Option ℕ) → IsLarge (is_for leaf) x k → Grows x k leaf
  grows x k None w = record { way = w.0; none = w.2; full = w.3; kind = ((λ (e : length x.node.prefix ≡ 7). refl), (λ e. w.1)) }
  grows x k (Some leaf) w =
      let inner : length x.node.prefix < 7 = w.1 in
      record {
        way = w.0;
        none = w.2;
        full = w.3;
        kind = ((λ (e : length x.node.prefix ≡ 7). absurd (omega (arith, inner, e))), (λ e. absurd (none_some leaf (sym e))));
      }

module _ {P M : Type 0} (meaning : P → M) (n : TableNode P) (t : NodeMap M) (root s word : ℕ) (current : NodeLifetime) (x : PlacedNode M) (placed : IsPlaced t root) (linked : IsLinked t s x)
    (there : t s ≡ Some (record { word = word; node = meant_node meaning n; lifetime = current })) where
  -- the linked node is the one in the slot
  pub node_same : x.node ≡ meant_node meaning n
  node_same = ap (λ (z : PlacedNode M). z.node) (some_same x (record { word = word; node = meant_node meaning n; lifetime = current }) (sym linked.here ∙ there))

  pub kinds_here : AreOfKind n
  kinds_here byte child h =
      may_from meaning n.prefix child (subst (λ (z : TableNode M). AreOfKind z) node_same (placed_kinds t root s x placed linked) byte (child_of meaning child) (lookup-mapped_some (child_of meaning) n.children byte child h))

  pub full_here : (HasRoom x → ⊥) → Fits n.form (length n.children + 1) → ⊥
  full_here full fits =
      full (subst (λ (z : TableNode M). Fits z.form (length z.children + 1)) (sym node_same) (subst (λ (c : ℕ). Fits n.form (c + 1)) (sym (length-mapped (child_of meaning) n.children)) fits))

  pub absent_here : (k : List ℕ) → found x k ≡ None → lookup n.children (next_byte n.prefix k) ≡ None
  absent_here k none =
      mapped-absent (child_of meaning) n.children (next_byte n.prefix k) (subst (λ (z : TableNode M). lookup z.children (next_byte z.prefix k) ≡ None) node_same none)

  pub kind_here : (leaf : Option ℕ) → (length x.node.prefix ≡ 7) ↔ (leaf ≡ None) → (length n.prefix ≡ 7) ↔ (leaf ≡ None)
  kind_here leaf k = subst (λ (z : TableNode M). (length z.prefix ≡ 7) ↔ (leaf ≡ None)) node_same k

module _ {P A M : Type 0} (meaning : P → M) (charge : A → Option Charge) (Granted : Type 0) (same : M → M → Bool) (old new : Stock P A) (pin : ℕ) (task : Task P) (env : Env P) (kept : IsStoreSound meaning charge old) where
  -- what the copy has under the key's byte
  own_child_of : (t : NodeMap M) (leaf : Option ℕ) (child : Child P) (value : M) → stores (meant_task meaning task) ≡ Some value → IsOwnOf meaning task leaf child → HasOwnLeaf t (meant_task meaning task) leaf
      → HasOwn t (meant_task meaning task) leaf (child_of meaning child)
  own_child_of t None child value stored own has = (value, stored, own.1 ∙ ap (λ (v : M). Payload v) (own.2 value stored))
  own_child_of t (Some leaf) child value stored own has = (has, own)

  own_flight : (pair : NodePair) (t : NodeMap M) (leaf : Option ℕ) (child : Child M) → HasOwn t (meant_task meaning task) leaf child → IsOwn (flight pin (at (Grow pair leaf) (meant_task meaning task))) (Some child)
  own_flight pair t None child own = subst (λ (c : Child M). IsOwn (flight pin (at (Grow pair None) (meant_task meaning task))) (Some c)) (sym own.2) own.1
  own_flight pair t (Some leaf) child own = subst (λ (c : Child M). IsOwn (flight pin (at (Grow pair (Some leaf)) (meant_task meaning task))) (Some c)) (sym own.1) (rw (eq-eqb leaf leaf refl) refl)

  own_may : (t : NodeMap M) (p : List ℕ) (leaf : Option ℕ) (child : Child M) → HasOwn t (meant_task meaning task) leaf child → (length p ≡ 7) ↔ (leaf ≡ None) → length p ≤ 7 → MayHave p child
  own_may t p None child own kind short = subst (λ (c : Child M). MayHave p c) (sym own.2) (kind.1 refl)
  own_may t p (Some leaf) child own kind short =
      let off : length p ≢ 7 = λ e. none_some leaf (sym (kind.0 e)) in subst (λ (c : Child M). MayHave p c) (sym own.1) (omega (arith, off, short))

  -- a held node, as a reader sees it
  abbrev pub held_node : (s : State M) (root : ℕ) (t : NodeMap M) → ShowsNodes t root s → (tail : tails.Tail) (slot : ℕ) (x : PlacedNode M) → IsLinked t slot x → IsTrue (is_in slot (held_in tail)) → HeldNode s (flight pin (at tail (meant_task meaning task)))
  held_node s root t shows tail slot x linked mine = record { slot = slot; node = one x; mine = mine; here = seen_at t root s shows slot x linked.here }

  module _ (pair : NodePair) (slot word : ℕ) (current : NodeLifetime) (n : TableNode P) (there : table_in meaning charge old pair.here.slot ≡ Some (record { word = word; node = meant_node meaning n; lifetime = current })) (built : Option (TableNode P)) (adds : AddsBuilt meaning charge old new slot built) where
    abbrev t : NodeMap M
    t = table_in meaning charge old

    abbrev job : Task M
    job = meant_task meaning task

    abbrev k : List ℕ
    k = key_bytes job

    pub copy_moves : (leaf : Option ℕ) → StockKnows meaning charge Granted same old pin (at (Grow pair leaf) task) → IfSome built (λ b. IsGrownFor meaning n b task leaf)
        → StockMoves meaning charge Granted same old new pin (at (Grow pair leaf) task) env (at (Replace pair slot leaf) task) (report_of kind.Make (Some slot) 0 true) Going
    copy_moves leaf facts grown_if =
        let held = facts.at.0.held.here in
        let x : PlacedNode M = held.node in
        let work = facts.at.0.work in
        let grow : Grows x k leaf = grows x k leaf work.is in
        let grown : IsGrownFor meaning n adds.node task leaf = built_is (λ b. IsGrownFor meaning n b task leaf) built adds.node grown_if adds.is in
        let child : Child M = child_of meaning grown.child in
        let is_node : x.node ≡ meant_node meaning n = node_same meaning n t old.store.root pair.here.slot word current x kept.placed held.linked there in
        let is : meant_node meaning adds.node ≡ grown_by x k child =
        subst (λ (z : TableNode M). meant_node meaning adds.node ≡ record { form = next_form z.form; prefix = z.prefix; children = put z.children (next_byte z.prefix k) child }) (sym is_node) grown.is in
        let enters : Enters job = copy_enters Granted same job leaf x work in
        let own : HasOwn t job leaf child = own_child_of t leaf grown.child enters.value enters.stores grown.own facts.at.1 in
        let short : length x.node.prefix ≤ 7 = kept.placed.short pair.here.slot x held.linked in
        let fits : Fits x.node.form (length x.node.children) =
        subst (λ (z : TableNode M). Fits z.form (length z.children)) (sym is_node) (subst (λ (c : ℕ). Fits n.form c) (sym (length-mapped (child_of meaning) n.children)) grown.fits) in
        granted_moves meaning charge Granted same old new kept pin task env (Grow pair leaf) (Replace pair slot leaf) facts.small work.writes.opened.undecided enters
        (record { holds = cons_none pair.here.slot (pair.above.slot ∷ []); held = refl; named = refl; remembered = refl }) refl refl
        slot (meant_node meaning adds.node) adds.adds refl (omega arith) (few_more leaf)
        (λ s shows. subst (λ (a : TableNode M). IsNewNode s (flight pin (at (Grow pair leaf) job)) a) (sym is)
        (copy_new s pin job pair leaf (held_node s old.store.root t shows (Grow pair leaf) pair.here.slot x held.linked (first_in pair.here.slot (pair.above.slot ∷ []))) child
        grow.way (kept.placed.ordered pair.here.slot x held.linked) short fits grow.full grow.none (placed_kinds t old.store.root pair.here.slot x kept.placed held.linked)
        (own_may t x.node.prefix leaf child own grow.kind short) (own_flight pair t leaf child own)))
        (copy_made t (table_in meaning charge new) Granted same job slot (meant_node meaning adds.node) adds.adds.empty adds.adds.here adds.adds.others pair leaf facts.at.0 child own is)

    pub middle_moves : (leaf : ℕ) → StockKnows meaning charge Granted same old pin (at (MakeMiddle pair leaf) task) → IfSome built (λ b. IsBetween meaning n b k pair.here.slot leaf)
        → StockMoves meaning charge Granted same old new pin (at (MakeMiddle pair leaf) task) env (at (Insert pair slot leaf) task) (report_of kind.Make (Some slot) 0 true) Going
    middle_moves leaf facts between_if =
        let held = facts.at.0.held.here in
        let x : PlacedNode M = held.node in
        let work = facts.at.0.work in
        let between : IsBetween meaning n adds.node k pair.here.slot leaf = built_is (λ b. IsBetween meaning n b k pair.here.slot leaf) built adds.node between_if adds.is in
        let is_node : x.node ≡ meant_node meaning n = node_same meaning n t old.store.root pair.here.slot word current x kept.placed held.linked there in
        let p : List ℕ = between.prefix in
        let is : meant_node meaning adds.node ≡ middle_of p x pair.here.slot k leaf =
        subst (λ (z : TableNode M). meant_node meaning adds.node ≡ record { form = N4; prefix = p; children = put ((next_byte p z.prefix, below_at pair.here.slot) ∷ []) (next_byte p k) (below_at leaf) }) (sym is_node) between.is in
        let fork : IsFork p x.node.prefix k = subst (λ (z : TableNode M). IsFork p z.prefix k) (sym is_node) between.fork in
        granted_moves meaning charge Granted same old new kept pin task env (MakeMiddle pair leaf) (Insert pair slot leaf) facts.small work.writes.opened.undecided (record { point = work.writes.opened.point; value = facts.at.1.value; stores = facts.at.1.stores })
        (record { holds = cons_none pair.here.slot (pair.above.slot ∷ []); held = refl; named = refl; remembered = refl }) refl refl
        slot (meant_node meaning adds.node) adds.adds refl (omega arith) (omega arith)
        (λ s shows. subst (λ (a : TableNode M). IsNewNode s (flight pin (at (MakeMiddle pair leaf) job)) a) (sym is)
        (middle_new s pin job pair leaf p (held_node s old.store.root t shows (MakeMiddle pair leaf) pair.here.slot x held.linked (first_in pair.here.slot (pair.above.slot ∷ []))) fork
        (kept.placed.bytes pair.here.slot x held.linked) (kept.placed.short pair.here.slot x held.linked)))
        (middle_made t (table_in meaning charge new) Granted same job slot (meant_node meaning adds.node) adds.adds.empty adds.adds.here adds.adds.others pair leaf facts.at.0 facts.at.1 p fork is)
