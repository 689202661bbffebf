-- A LEAF IS TAKEN OUT of a stock of nodes: its parent's child and its own payload are taken, and it is detached.
use Rattle.std.proofs.Common.{◌≡◌, ◌≢◌, ℕ, ◌-◌, ◌≤◌, Bool, true, List, [], ◌∷◌, Option, Some, IsSome, inl, inr, refl, sym, subst, ap, ◌∙◌}
use Rattle.node_table.specs.Charge.{Charge}
use Rattle.spec_map.specs.Map.{without}
use Rattle.spec_node.specs.TableNode.{Child}
use Rattle.spec_node.specs.declared.child.Child.TheVariants.{Payload}
use Rattle.spec_olc.specs.Calls.{bytes_of, key_of}
use Rattle.spec_olc.specs.Kinds.{report_of}
use Rattle.spec_olc.specs.Local.{payload_in}
use Rattle.spec_olc.specs.Meaning.{child_of, env_of, in_some}
use Rattle.spec_olc.specs.declared.types.Env.{Env}
use Rattle.spec_olc.specs.declared.types.Kind.TheVariants as kind
use Rattle.spec_olc.specs.declared.types.Outcome.TheVariants.{Decided}
use Rattle.spec_olc.specs.declared.types.Reply.{Reply}
use Rattle.olc_state.specs.declared.stage.Stage.TheVariants.{Tail}
use Rattle.olc_state.specs.declared.stage.Task.{Task}
use Rattle.olc_state.specs.declared.stock.Stock.{Stock}
use Rattle.olc_state.specs.declared.store.Store.{Store}
use Rattle.olc_state.specs.declared.tail.NodePair.{NodePair}
use Rattle.olc_state.specs.declared.tail.Tail.TheVariants.{Detach, Obsolete}
use Rattle.olc_state.specs.inner.Effects.{reply_with}
use Rattle.olc_state.specs.inner.Facts.{stored_sizes}
use Rattle.olc_state.specs.inner.Meant.{meant_table, meant_task}
use Rattle.olc_state.specs.inner.Moves.{IsMove}
use Rattle.olc_state.specs.inner.Slots.{SetsNode}
use Rattle.olc_state.specs.inner.Stocks.{CountsEntries, IsStoreSound, StockKnows, StockMoves, counts_in, table_in}
use Rattle.olc_state.specs.inner.Tables.{IsPlaced, byte_at}
use Rattle.olc_state.specs.inner.TailFacts.{found}
use Rattle.olc_state.specs.inner.World.{PlacedNode, NodeMap, entry, is_detached}
use Rattle.olc_state.proofs.Records.{at}
use Rattle.olc_state.proofs.Replies.{reply_meant}
use Rattle.olc_laws.proofs.Effects.{OthersStay}
use Rattle.olc_write.proofs.Deciding.{with_reply}
use Rattle.olc_write.proofs.Detached.{drained, leaf_keeps, none_left, taken_moves, taken_placed}
use Rattle.olc_write.proofs.Standstill.{still_kept}
use Rattle.olc_write.proofs.Steps.{ByteIn, DetachesNode, FitsIn, detached_still}
use Rattle.olc_write.proofs.Wrote.{payload_meant}
use Rattle.olc_state.specs.declared.cleanup.Cleanup.{Cleanup}
use Rattle.olc_write.specs.inner.Leaving.{IsLeftOf}

module _ {P M : Type 0} (meaning : P → M) where
  -- the node in a slot has nothing under a byte any more
  abbrev pub TakesChild : Store P → Store P → ℕ → ℕ → Type 0
  TakesChild old new slot byte =
      (x : PlacedNode M) → meant_table meaning old slot ≡ Some x → SetsNode meaning old new slot (Some (record x { node = record x.node { children = without x.node.children byte } }))

  -- what the calls of the store leave: the parent's child and the leaf's payload are taken, and the leaf is detached
  pub record TakesLeaf (s0 s1 s2 s3 : Store P) (p q : ℕ) (k : List ℕ) : Type 0 where
    pub byte : ℕ
    pub is : ByteIn meaning s0 p k byte
    pub last : ℕ
    pub also : ByteIn meaning s0 q k last
    pub first : TakesChild s0 s1 p byte
    pub second : TakesChild s1 s2 q last
    pub detaches : DetachesNode meaning s2 s3 q

  module _ {s0 s1 s2 s3 : Store P} {p q : ℕ} {k : List ℕ} (w : TakesLeaf s0 s1 s2 s3 p q k) (a b : PlacedNode M) (above : meant_table meaning s0 p ≡ Some a) (here : meant_table meaning s0 q ≡ Some b) (apart : p ≢ q) where
    first_sets : SetsNode meaning s0 s1 p (Some (record a { node = record a.node { children = without a.node.children w.byte } }))
    first_sets = w.first a above

    second_sets : SetsNode meaning s1 s2 q (Some (record b { node = record b.node { children = without b.node.children w.last } }))
    second_sets = w.second b (first_sets.others q (λ e. apart (sym e)) ∙ here)

    third_sets : SetsNode meaning s2 s3 q (Some (record b { node = record b.node { children = without b.node.children w.last }; lifetime = is_detached }))
    third_sets = w.detaches (record b { node = record b.node { children = without b.node.children w.last } }) second_sets.here

    pub leaf_left : without b.node.children w.last ≡ [] → meant_table meaning s3 q ≡ Some (drained b)
    leaf_left empty = third_sets.here ∙ ap (λ es. Some (record b { node = record b.node { children = es }; lifetime = is_detached })) empty

    pub parent_left : meant_table meaning s3 p ≡ Some (record a { node = record a.node { children = without a.node.children (byte_at a k) } })
    parent_left =
        third_sets.others p apart ∙ (second_sets.others p apart ∙ (first_sets.here ∙ ap (λ (x : ℕ). Some (record a { node = record a.node { children = without a.node.children x } })) (w.is a above)))

    pub others_left : OthersStay (meant_table meaning s0) (meant_table meaning s3) (p ∷ q ∷ [])
    others_left s out =
        let far : s ≢ q = λ e. out (inr (inl (sym e))) in
        third_sets.others s far ∙ (second_sets.others s far ∙ first_sets.others s (λ e. out (inl (sym e))))

    pub root_left : s3.root ≡ s0.root
    root_left = third_sets.root ∙ (second_sets.root ∙ first_sets.root)

-- WHAT THE FUNCTIONS OF THE STORE REQUIRE
module _ {P A M : Type 0} (meaning : P → M) (charge : A → Option Charge) (Granted : Type 0) (same : M → M → Bool) (old : Stock P A) (pin : ℕ) (task : Task P) (pair : NodePair) (kept : IsStoreSound meaning charge old)
    (facts : StockKnows meaning charge Granted same old pin (record { stage = Tail (Detach pair); task = task })) where
  abbrev k : List ℕ
  k = bytes_of (key_of task.outline)

  abbrev p : ℕ
  p = pair.above.slot

  abbrev q : ℕ
  q = pair.here.slot

  abbrev t : NodeMap M
  t = table_in meaning charge old

  abbrev a : PlacedNode M
  a = facts.at.held.above.node

  abbrev b : PlacedNode M
  b = facts.at.held.here.node

  -- the leaf has its payload once its parent has lost it
  pub leaf_there : (s1 : Store P) (byte last : ℕ) → TakesChild meaning old.store s1 p byte → ByteIn meaning old.store q k last → (x : PlacedNode M) × (meant_table meaning s1 q ≡ Some x) × IsSome (entry x last)
  leaf_there s1 byte last first is = (
    b,
    (first a facts.at.held.above.linked.here).others q (λ e. facts.at.held.over.apart (sym e)) ∙ facts.at.held.here.linked.here,
    subst (λ (z : ℕ). IsSome (entry b z)) (sym (is b facts.at.held.here.linked.here)) (rw facts.at.work.is.2.1 refl),
  )

  -- and is in its slot after that
  pub leaf_still : (s1 s2 : Store P) (byte last : ℕ) → TakesChild meaning old.store s1 p byte → TakesChild meaning s1 s2 q last → (x : PlacedNode M) × (meant_table meaning s2 q ≡ Some x)
  leaf_still s1 s2 byte last first second = (
    record b { node = record b.node { children = without b.node.children last } },
    (second b ((first a facts.at.held.above.linked.here).others q (λ e. facts.at.held.over.apart (sym e)) ∙ facts.at.held.here.linked.here)).here,
  )

  -- and the parent in its
  pub above_still : (s1 s2 s3 : Store P) (byte last : ℕ) → TakesChild meaning old.store s1 p byte → TakesChild meaning s1 s2 q last → DetachesNode meaning s2 s3 q → (x : PlacedNode M) × (meant_table meaning s3 p ≡ Some x)
  above_still s1 s2 s3 byte last first second gone =
      let apart : p ≢ q = facts.at.held.over.apart in
      let sets = first a facts.at.held.above.linked.here in
      let there = sets.others q (λ e. apart (sym e)) ∙ facts.at.held.here.linked.here in
      let taken = second b there in
      (_, (gone _ taken.here).others p apart ∙ (taken.others p apart ∙ sets.here))

  pub pair_counted : CountsEntries meaning charge old → 1 ≤ old.entries
  pair_counted counted =
      counted.some (key_of task.outline) facts.at.work.is.2.0 facts.small
      (leaf_keeps Granted same t (meant_task meaning task) pair facts.at)

  -- THE EVENT: nothing but the store's nodes and the number of pairs changes
  module _ (new : Stock P A) (env : Env P) (budget : new.budget ≡ old.budget) (lives : new.store.pins ≡ old.store.pins) (sizes : stored_sizes new.store.nodes.slots ≡ stored_sizes old.store.nodes.slots)
      (entries : new.entries ≡ old.entries - 1) (fits : FitsIn meaning old.store p) where
    abbrev t' : NodeMap M
    t' = table_in meaning charge new

    abbrev MovesWith : Option Cleanup → Reply M → Type 0
    MovesWith left r =
        IsMove Granted same t t' old.store.root pin (counts_in meaning charge old) (counts_in meaning charge new) (at (Tail (Detach pair)) (meant_task meaning task)) (env_of meaning env)
        (at (Tail (Obsolete pair left)) (with_reply (meant_task meaning task))) (report_of kind.Write (Some p) 0 true) (Decided r)

    pub detaches : (s1 s2 : Store P) (w : TakesLeaf meaning old.store s1 s2 new.store p q k)
        → (left : Option Cleanup) → ((x : PlacedNode M) → t' p ≡ Some x → IsLeftOf true x.node left)
        → (child : Child P) → ((x : PlacedNode M) → meant_table meaning s1 q ≡ Some x → entry x w.last ≡ Some (child_of meaning child))
        → StockMoves meaning charge Granted same old new pin (record { stage = Tail (Detach pair); task = task }) env
        (record { stage = Tail (Obsolete pair left); task = with_reply task }) (report_of kind.Write (Some p) 0 true) (Decided (reply_with task.outline (payload_in (Some child)) task.returns))
    detaches s1 s2 w left leaves child was =
        let held = facts.at.held in
        let here = held.here.linked.here in
        let apart = held.over.apart in
        let there : meant_table meaning s1 q ≡ Some b = (w.first a held.above.linked.here).others q (λ e. apart (sym e)) ∙ here in
        let found_is : entry b w.last ≡ Some (Payload facts.at.work.is.2.0) = ap (λ (x : ℕ). entry b x) (w.also b here) ∙ facts.at.work.is.2.1 in
        let above = parent_left meaning w a b held.above.linked.here here apart in
        let gone = leaf_left meaning w a b held.above.linked.here here apart (none_left b.node.children w.last (Payload facts.at.work.is.2.0) facts.at.work.is.3 found_is) in
        let others = others_left meaning w a b held.above.linked.here here apart in
        let root = root_left meaning w a b held.above.linked.here here apart in
        let said : in_some meaning (payload_in (Some child)) ≡ payload_in (found b k) =
        payload_meant meaning (Some child) ∙ (ap payload_in (sym (was b there)) ∙ ap (λ (x : ℕ). payload_in (entry b x)) (w.also b here)) in
        let move : MovesWith left (reply_with task.outline (payload_in (found b k)) (in_some meaning task.returns)) =
        taken_moves Granted same t t' old.store.root pin (meant_task meaning task) pair kept.placed facts.small (counts_in meaning charge old) (counts_in meaning charge new) (env_of meaning env)
        (ap (λ z. z.count) lives) (ap charge budget) entries facts.at (fits a held.above.linked.here) above gone others left (leaves _ above) in
        let placed : IsPlaced t' old.store.root =
        taken_placed Granted same t t' old.store.root pin (meant_task meaning task) pair kept.placed facts.small (counts_in meaning charge old) (counts_in meaning charge new) (env_of meaning env)
        (ap (λ z. z.count) lives) (ap charge budget) entries facts.at (fits a held.above.linked.here) above gone others in
        record {
          kept = still_kept meaning charge old new (p ∷ q ∷ []) kept others
              (detached_still meaning t t' p q a _ b (drained b) [] held.above.linked above held.here.linked gone (λ o h. absurd h) (λ o h. absurd h))
              (subst (λ z. IsPlaced t' z) (sym root) placed) lives sizes budget;
          move = subst (λ (r : Reply M). MovesWith left r) (sym (reply_meant meaning task.outline (payload_in (Some child)) task.returns ∙ ap (λ z. reply_with task.outline z (in_some meaning task.returns)) said)) move;
          root = root;
          seats = ap (λ z. z.seats) lives;
        }
