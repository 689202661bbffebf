-- The events that decide a call at its node, over the stock of nodes that the code changes.
use Rattle.std.proofs.Common.{◌≡◌, ◌≢◌, ℕ, ◌+◌, ◌≤◌, Bool, true, IsTrue, is_some, length, Option, Some, None, IsSome, refl, sym, subst, ap, ◌∙◌}
use Rattle.node_table.specs.Charge.{Charge}
use Rattle.node_base.specs.Form.{Fits}
use Rattle.spec_map.specs.Map.{put}
use Rattle.spec_node.specs.TableNode.{Child}
use Rattle.spec_node.specs.declared.child.Child.TheVariants.{Payload, Node as below_at}
use Rattle.node_table.proofs.KindLaws.{length-mapped}
use Rattle.spec_olc.specs.Calls.{answer_in, asked_of, key_of, stored}
use Rattle.spec_olc.specs.Kinds.{report_of}
use Rattle.spec_olc.specs.Local.{payload_in}
use Rattle.spec_olc.specs.Meaning.{in_some, asking_of, child_of, env_of, op_of}
use Rattle.spec_olc.specs.declared.types.Asking.{Asking}
use Rattle.spec_olc.specs.declared.types.Asking.TheVariants.{Fresh, Wants, Given}
use Rattle.spec_olc.specs.declared.types.Env.{Env}
use Rattle.spec_olc.specs.declared.types.Kind.TheVariants as kind
use Rattle.spec_olc.specs.declared.types.Op.{Op}
use Rattle.spec_olc.specs.declared.types.Op.TheVariants.{Get, Insert, Remove, ComputeIfPresent, ComputeOrInsert, CompareExchange, Range}
use Rattle.spec_olc.specs.declared.types.Outcome.TheVariants.{Decided}
use Rattle.spec_olc.specs.declared.types.Reply.{Reply}
use Rattle.olc_state.specs.declared.stage.Spot.{Spot}
use Rattle.olc_state.specs.declared.stage.Stage.TheVariants.{Tail}
use Rattle.olc_state.specs.declared.stage.Stored.{Stored}
use Rattle.olc_state.specs.declared.stage.Task.{Task}
use Rattle.olc_state.specs.declared.stock.Stock.{Stock}
use Rattle.olc_state.specs.declared.store.Store.{Store}
use Rattle.olc_state.specs.declared.tail.Tail.TheVariants.{Link, Unlock, Write}
use Rattle.olc_state.specs.inner.Effects.{IsChange, reply_with}
use Rattle.olc_state.specs.inner.Facts.{stored_sizes}
use Rattle.olc_state.specs.inner.Meant.{meant_record, meant_table, meant_task, stands_as}
use Rattle.olc_state.specs.inner.Moves.{IsMove}
use Rattle.olc_state.specs.inner.Slots.{SetsNode}
use Rattle.olc_state.specs.inner.Stocks.{CountsEntries, IsStoreSound, StockKnows, StockMoves, counts_in, table_in}
use Rattle.olc_state.specs.inner.Tables.{byte_at}
use Rattle.olc_state.specs.inner.TailFacts.{stores}
use Rattle.olc_state.specs.inner.Tasks.{key_bytes}
use Rattle.olc_state.specs.inner.World.{PlacedNode, entry, is_linked}
use Rattle.olc_state.proofs.Options.{none_some, some_same}
use Rattle.olc_state.proofs.Replies.{reply_meant, change_enters}
use Rattle.olc_state.proofs.Slots.{stored_as}
use Rattle.olc_state.proofs.Unlike.{false_true, linked_retired, private_retired}
use Rattle.olc_laws.proofs.Entries.{payload}
use Rattle.olc_laws.proofs.Writing.{answered, published_new}
use Rattle.olc_write.specs.inner.Storing.{entries_with, with_payload}
use Rattle.olc_write.proofs.Deciding.{StandsAt, entries_after, with_reply}
use Rattle.olc_write.proofs.Entering.{entry_move, entry_placed, leaf_stands}
use Rattle.olc_write.proofs.Keeping.{StoreKeeps, keeps_then, kept_by, sets_keeps}
use Rattle.olc_write.proofs.Linked.{link_move, link_placed, made_published}
use Rattle.olc_state.specs.declared.cleanup.Cleanup.{Cleanup}
use Rattle.olc_write.specs.inner.Leaving.{IsLeftBy}

module _ {P M : Type 0} (meaning : P → M) where
  -- what a call stores means what its meaning stores
  answer_meant : (asking : Asking P) → answer_in (asked_of (asking_of meaning asking)) ≡ in_some meaning (answer_in (asked_of asking))
  answer_meant Fresh = refl
  answer_meant (Wants old) = refl
  answer_meant (Given old answer) = refl

  pub stored_meant : (op : Option (Op P)) (asking : Asking P) → stored (in_some (op_of meaning) op) (asking_of meaning asking) ≡ in_some meaning (stored op asking)
  stored_meant None asking = refl
  stored_meant (Some (Get k)) asking = answer_meant asking
  stored_meant (Some (Insert k v)) asking = refl
  stored_meant (Some (Remove k)) asking = answer_meant asking
  stored_meant (Some (ComputeIfPresent k)) asking = answer_meant asking
  stored_meant (Some (ComputeOrInsert k v)) Fresh = refl
  stored_meant (Some (ComputeOrInsert k v)) (Wants old) = refl
  stored_meant (Some (ComputeOrInsert k v)) (Given old None) = refl
  stored_meant (Some (ComputeOrInsert k v)) (Given old (Some answer)) = refl
  stored_meant (Some (CompareExchange k old new)) asking = refl
  stored_meant (Some (Range a b n)) asking = answer_meant asking

  some_meant : (x : Option P) → is_some (in_some meaning x) ≡ is_some x
  some_meant None = refl
  some_meant (Some v) = refl

  paid : (value : Option P) → in_some (λ (v : M). let c : Child M = Payload v in c) (in_some meaning value) ≡ payload (in_some meaning value)
  paid None = refl
  paid (Some v) = refl

  -- the payload of what was taken out
  pub payload_meant : (c : Option (Child P)) → in_some meaning (payload_in c) ≡ payload_in (in_some (child_of meaning) c)
  payload_meant None = refl
  payload_meant (Some (Payload v)) = refl
  payload_meant (Some (below_at s)) = refl

  -- a stored node has no more children than its form takes, so what it means has none more either
  pub meant_fits : (store : Store P) (slot : ℕ) (n : Stored P) (a : PlacedNode M) → stands_as meaning store slot n → meant_table meaning store slot ≡ Some a → Fits n.node.form (length n.node.children)
      → Fits a.node.form (length a.node.children)
  meant_fits store slot n a at_key found fits =
      let stored : PlacedNode M = stored_as meaning store.pins.slots slot n in
      subst (λ (z : PlacedNode M). Fits z.node.form (length z.node.children)) (some_same stored a (sym at_key ∙ found))
      (subst (λ k. Fits n.node.form k) (sym (length-mapped (child_of meaning) n.node.children)) fits)

  -- what a primitive does to a store
  abbrev pub PutsChild : Store P → Store P → ℕ → ℕ → Child P → Type 0
  PutsChild old new slot byte child = (a : PlacedNode M) → meant_table meaning old slot ≡ Some a → SetsNode meaning old new slot (Some (record a { node = record a.node { children = put a.node.children byte (child_of meaning child) } }))

-- if a call stores nothing, its key is present
some_stands : {M : Type 0} (same : M → M → Bool) (op : Op M) (asking : Asking M) (value : Option M) (there : Option (Child M)) → IsChange same op asking (payload_in there) value → value ≡ None → IsSome there
some_stands same op asking value None change none = let enters = change_enters same op asking value change in absurd (none_some enters.0 (sym none ∙ enters.1))
some_stands same op asking value (Some c) change none = refl

-- If `Granted` holds, a share is always granted. `same` compares two payloads.
module _ {P A M : Type 0} (meaning : P → M) (charge : A → Option Charge) (Granted : Type 0) (same : M → M → Bool) (old : Stock P A) (pin : ℕ) (task : Task P) (spot : Spot)
    (kept : IsStoreSound meaning charge old) (facts : StockKnows meaning charge Granted same old pin (record { stage = Tail (Write spot); task = task })) where
  -- the held leaf
  abbrev pub leaf_at : PlacedNode M
  leaf_at = facts.at.held.node

  abbrev pub key_at : ℕ
  key_at = key_of task.outline

  abbrev pub byte_here : ℕ
  byte_here = byte_at leaf_at (key_bytes task)

  -- what it stores means what the call stores
  value_meant : (value : Option P) → value ≡ stores task → facts.at.work.writes.value ≡ in_some meaning value
  value_meant value is = sym facts.at.work.writes.stores ∙ (stored_meant meaning task.op task.asking ∙ ap (λ z. in_some meaning z) (sym is))

  -- if it stores nothing, the leaf has an entry under the key's byte
  pub leaf_has : (value : Option P) → value ≡ stores task → value ≡ None → IsSome (entry leaf_at byte_here)
  leaf_has value is none =
      let w = facts.at.work.writes in
      some_stands same w.opened.op (asking_of meaning task.asking) w.value (entry leaf_at byte_here) w.change (value_meant value is ∙ ap (λ z. in_some meaning z) none)

  -- if the key is present, there is a pair
  pub leaf_counts : CountsEntries meaning charge old → (before : Option P) → in_some meaning before ≡ payload_in (entry leaf_at byte_here) → IsTrue (is_some before) → 1 ≤ old.entries
  leaf_counts counted None e there = absurd (false_true there)
  leaf_counts counted (Some v) e there =
      counted.some key_at (meaning v) facts.small
      (subst (λ (z : Option M). StandsAt (table_in meaning charge old) (key_bytes task) z) (sym e)
      (leaf_stands (table_in meaning charge old) old.store.root (key_bytes task) kept.placed spot.slot leaf_at facts.at.held.linked (facts.at.way leaf_at facts.at.held.linked.here) facts.at.work.is.0 (entry leaf_at byte_here) refl))

  pub wrote_moves : (store : Store P) (left : Option Cleanup) (byte : ℕ) (value before : Option P) (had has : Bool) (entries : ℕ) (env : Env P)
      → value ≡ stores task
      → byte ≡ byte_here
      → Fits leaf_at.node.form (length leaf_at.node.children)
      → SetsNode meaning old.store store spot.slot (Some (with_payload leaf_at byte (in_some meaning value)))
      → in_some meaning before ≡ payload_in (entry leaf_at byte)
      → stored_sizes store.nodes.slots ≡ stored_sizes old.store.nodes.slots → store.pins ≡ old.store.pins
      → had ≡ is_some before → has ≡ is_some value → entries ≡ entries_with old.entries had has
      → ((a : PlacedNode M) → meant_table meaning store spot.slot ≡ Some a → IsLeftBy (in_some meaning value) a.node left)
      → StockMoves meaning charge Granted same old (record old { store = store; entries = entries }) pin (record { stage = Tail (Write spot); task = task }) env
      (record { stage = Tail (Unlock spot left); task = with_reply task }) (report_of kind.Write (Some spot.slot) 0 true) (Decided (reply_with task.outline before task.returns))
  wrote_moves store left byte value before had has entries env value_is byte_is fits sets stood sizes pins had_is has_is entries_is leaves =
      let a : PlacedNode M = leaf_at in
      let new : Stock P A = record old { store = store; entries = entries } in
      let here : meant_table meaning old.store spot.slot ≡ Some a = facts.at.held.linked.here in
      let means = value_meant value value_is in
      let with_child : ℕ → Option (Child M) → Option (PlacedNode M) = λ x c. Some (answered a x c) in
      let after : meant_table meaning store spot.slot ≡ Some (answered a byte_here (payload facts.at.work.writes.value)) =
      sets.here ∙ (ap (λ x. with_child x (in_some (λ (v : M). let c : Child M = Payload v in c) (in_some meaning value))) byte_is
      ∙ ap (λ (c : Option (Child M)). with_child byte_here c) (paid meaning value ∙ ap (λ (z : Option M). payload z) (sym means))) in
      let keeps : StoreKeeps meaning old.store store = sets_keeps meaning old.store store spot.slot a _ here (λ stamp e. linked_retired stamp (sym facts.at.held.linked.lifetime ∙ e)) sets sizes pins in
      let at_key : in_some meaning before ≡ payload_in (entry a byte_here) = stood ∙ ap (λ x. payload_in (entry a x)) byte_is in
      let counts : entries ≡ entries_after (in_some meaning before) facts.at.work.writes.value old.entries =
      entries_is ∙ (ap (λ b. entries_with old.entries b has) (had_is ∙ sym (some_meant meaning before))
      ∙ ap (λ b. entries_with old.entries (is_some (in_some meaning before)) b) (has_is ∙ sym (ap (λ (z : Option M). is_some z) means ∙ some_meant meaning value))) in
      record {
        kept = kept_by meaning charge old new kept keeps refl
            (entry_placed Granted same (table_in meaning charge old) (table_in meaning charge new) old.store.root pin (meant_task meaning task) (env_of meaning env) spot kept.placed facts after sets.others);
        move = subst (λ (z : Reply M). IsMove Granted same (table_in meaning charge old) (table_in meaning charge new) old.store.root pin (counts_in meaning charge old) (counts_in meaning charge new)
            (meant_record meaning (record { stage = Tail (Write spot); task = task })) (env_of meaning env) (meant_record meaning (record { stage = Tail (Unlock spot left); task = with_reply task })) (report_of kind.Write (Some spot.slot) 0 true) (Decided z))
            (sym (reply_meant meaning task.outline before task.returns))
            (entry_move Granted same (table_in meaning charge old) (table_in meaning charge new) old.store.root pin (meant_task meaning task) (env_of meaning env) spot kept.placed facts after sets.others
            left (subst (λ (z : Option M). IsLeftBy z (answered a byte_here (payload facts.at.work.writes.value)).node left) (sym means) (leaves _ after))
            (counts_in meaning charge old) (counts_in meaning charge new) (in_some meaning before) fits at_key sets.count refl counts);
        root = sets.root;
        seats = sets.seats;
      }

module _ {P A M : Type 0} (meaning : P → M) (charge : A → Option Charge) (Granted : Type 0) (same : M → M → Bool) (old : Stock P A) (pin : ℕ) (task : Task P) (spot : Spot) (leaf : ℕ)
    (kept : IsStoreSound meaning charge old) (facts : StockKnows meaning charge Granted same old pin (record { stage = Tail (Link spot leaf); task = task })) where
  -- the held inner node, and the leaf that was made
  abbrev pub inner_at : PlacedNode M
  inner_at = facts.at.0.held.node

  abbrev pub made_at : PlacedNode M
  made_at = facts.at.1.made.node

  -- the leaf is marked linked first
  module _ (between : Store P) (publishes : SetsNode meaning old.store between leaf (Some (record made_at { lifetime = is_linked }))) where
    apart : spot.slot ≢ leaf
    apart =
        published_new (made_published (meant_table meaning old.store) (meant_table meaning between) (meant_task meaning task) leaf facts.at.1 publishes.here) spot.slot inner_at facts.at.0.held.linked

    pub inner_stays : meant_table meaning between spot.slot ≡ Some inner_at
    inner_stays = publishes.others spot.slot apart ∙ facts.at.0.held.linked.here

    pub linked_moves : (store : Store P) (byte : ℕ) (env : Env P) → byte ≡ byte_at inner_at (key_bytes task) → Fits inner_at.node.form (length inner_at.node.children)
        → PutsChild meaning between store spot.slot byte (below_at leaf)
        → stored_sizes between.nodes.slots ≡ stored_sizes old.store.nodes.slots → between.pins ≡ old.store.pins
        → stored_sizes store.nodes.slots ≡ stored_sizes between.nodes.slots → store.pins ≡ between.pins
        → StockMoves meaning charge Granted same old (record old { store = store; entries = old.entries + 1 }) pin (record { stage = Tail (Link spot leaf); task = task }) env
        (record { stage = Tail (Unlock spot None); task = with_reply task }) (report_of kind.Write (Some spot.slot) 0 true) (Decided (reply_with task.outline None task.returns))
    linked_moves store byte env byte_is fits puts sizes pins sizes' pins' =
        let a : PlacedNode M = inner_at in
        let new : Stock P A = record old { store = store; entries = old.entries + 1 } in
        let sets = puts a inner_stays in
        let at_byte : ℕ → Option (PlacedNode M) = λ x. Some (answered a x (Some (below_at leaf))) in
        let after : meant_table meaning store spot.slot ≡ Some (answered a (byte_at a (key_bytes task)) (Some (below_at leaf))) = sets.here ∙ ap at_byte byte_is in
        let after_leaf : meant_table meaning store leaf ≡ Some (record made_at { lifetime = is_linked }) = sets.others leaf (λ e. apart (sym e)) ∙ publishes.here in
        let others : (o : ℕ) → o ≢ spot.slot → o ≢ leaf → meant_table meaning store o ≡ meant_table meaning old.store o = λ o far off. sets.others o far ∙ publishes.others o off in
        let first : StoreKeeps meaning old.store between =
        sets_keeps meaning old.store between leaf made_at _ facts.at.1.made.here (λ stamp e. private_retired stamp (sym facts.at.1.made.lifetime ∙ e)) publishes sizes pins in
        let second : StoreKeeps meaning between store =
        sets_keeps meaning between store spot.slot a _ inner_stays (λ stamp e. linked_retired stamp (sym facts.at.0.held.linked.lifetime ∙ e)) sets sizes' pins' in
        record {
          kept = kept_by meaning charge old new kept (keeps_then meaning old.store between store first second) refl
              (link_placed Granted same (table_in meaning charge old) (table_in meaning charge new) old.store.root pin (meant_task meaning task) (env_of meaning env) spot leaf kept.placed facts after after_leaf others);
          move = subst (λ (z : Reply M). IsMove Granted same (table_in meaning charge old) (table_in meaning charge new) old.store.root pin (counts_in meaning charge old) (counts_in meaning charge new)
              (meant_record meaning (record { stage = Tail (Link spot leaf); task = task })) (env_of meaning env) (meant_record meaning (record { stage = Tail (Unlock spot None); task = with_reply task })) (report_of kind.Write (Some spot.slot) 0 true) (Decided z))
              (sym (reply_meant meaning task.outline None task.returns))
              (link_move Granted same (table_in meaning charge old) (table_in meaning charge new) old.store.root pin (meant_task meaning task) (env_of meaning env) spot leaf kept.placed facts after after_leaf others
              (counts_in meaning charge old) (counts_in meaning charge new) fits (sets.count ∙ publishes.count) refl refl);
          root = sets.root ∙ publishes.root;
          seats = sets.seats ∙ publishes.seats;
        }
