-- THE WRITES OF A CLEANUP over the stock of nodes that the code changes, and what is due at a node there.
use Rattle.std.proofs.Common.{◌≡◌, ◌≢◌, ℕ, ◌<◌, ◌≤◌, Bool, true, List, [], ◌∷◌, Option, Some, None, IsSome, inl, inr, refl, sym, subst, ap, ◌∙◌}
use Rattle.node_table.specs.Charge.{Charge}
use Rattle.node_base.specs.Form.{few_in}
use Rattle.node_table.proofs.KindLaws.{length-mapped}
use Rattle.spec_node.specs.TableNode.{TableNode}
use Rattle.spec_node.specs.declared.child.Child.TheVariants.{Node as below_at}
use Rattle.node_table.specs.inner.Kinds.{mapped}
use Rattle.spec_map.specs.Map.{lookup, put, without}
use Rattle.spec_olc.specs.Calls.{bytes_of, key_of}
use Rattle.spec_olc.specs.Kinds.{report_of}
use Rattle.spec_olc.specs.Meaning.{child_of, env_of}
use Rattle.spec_olc.specs.declared.types.Env.{Env}
use Rattle.spec_olc.specs.declared.types.Kind.TheVariants as kind
use Rattle.spec_olc.specs.declared.types.Outcome.TheVariants.{Going}
use Rattle.olc_state.specs.declared.cleanup.Cleanup.{Cleanup}
use Rattle.olc_state.specs.declared.cleanup.Tidy.{Tidy as TidyStep}
use Rattle.olc_state.specs.declared.cleanup.Tidy.TheVariants as tidy
use Rattle.olc_state.specs.declared.stage.Stage.TheVariants.{Tail}
use Rattle.olc_state.specs.declared.stage.Task.{Task}
use Rattle.olc_state.specs.declared.stock.Stock.{Stock}
use Rattle.olc_state.specs.declared.store.Store.{Store}
use Rattle.olc_state.specs.declared.tail.NodePair.{NodePair}
use Rattle.olc_state.specs.declared.tail.Tail.TheVariants.{Obsolete}
use Rattle.olc_state.specs.inner.Facts.{stored_sizes}
use Rattle.olc_state.specs.inner.Meant.{meant_node, meant_table, meant_task}
use Rattle.olc_state.specs.inner.Slots.{SetsNode}
use Rattle.olc_state.specs.inner.Stocks.{IsStoreSound, counts_in, table_in}
use Rattle.olc_state.specs.inner.Tables.{IsLinked, IsPlaced, byte_at}
use Rattle.olc_state.specs.inner.World.{PlacedNode, NodeMap, NodeLifetime, entry, is_detached, is_linked}
use Rattle.olc_state.proofs.Options.{none_some, some_same}
use Rattle.olc_state.proofs.Unlike.{linked_private}
use Rattle.olc_laws.proofs.Effects.{OthersStay}
use Rattle.olc_laws.proofs.Writing.{answered}
use Rattle.olc_write.proofs.DetachedSteps.{TakesChild}
use Rattle.olc_write.proofs.Growths.{IsPrivate, above_inner}
use Rattle.olc_write.proofs.Standstill.{still_kept}
use Rattle.olc_write.proofs.Steps.{ArePrivate, ByteIn, DetachesNode, FitsIn, IsThereInside, MayPut, PutsBelow, detached_here, detached_leads, detached_links, detached_others, detached_root, detached_still, put_other}
use Rattle.olc_tidy.specs.inner.Tidying.{IsDueAs, IsLeftAgain, KnowsTidy, TidyMoves}
use Rattle.olc_tidy.proofs.Writes.{away_moves, away_placed, put_moves, put_placed}

module _ {P M : Type 0} (meaning : P → M) where
  -- what is due at a node is due at what it means
  due_meant : (n : TableNode P) (pair : NodePair) (x : TidyStep) → IsDueAs n pair x → IsDueAs (meant_node meaning n) pair x
  due_meant n pair (tidy.TakeAway p) h = (h.0, ap (mapped (child_of meaning)) h.1)
  due_meant n pair (tidy.MakeSmaller p) h = (h.0, subst (λ z. z ≤ few_in n.form) (sym (length-mapped (child_of meaning) n.children)) h.1)
  due_meant n pair (tidy.UnlockBelow p) h = (h.0, subst (λ z. few_in n.form < z) (sym (length-mapped (child_of meaning) n.children)) h.1)
  due_meant n pair x h = absurd h

  pub due_here : {word : ℕ} {life : NodeLifetime} (n : TableNode P) (pair : NodePair) (x : TidyStep) (a : PlacedNode M) → IsDueAs n pair x → Some a ≡ Some (record { word = word; node = meant_node meaning n; lifetime = life }) → IsDueAs a.node pair x
  due_here {word = word} {life = life} n pair x a h there =
      subst (λ (z : PlacedNode M). IsDueAs z.node pair x) (sym (some_same a (record { word = word; node = meant_node meaning n; lifetime = life }) there)) (due_meant n pair x h)

module _ {P A M : Type 0} (meaning : P → M) (charge : A → Option Charge) (Granted : Type 0) (same : M → M → Bool) (old : Stock P A) (pin : ℕ) (task : Task P) (c : Cleanup) (pair : NodePair) (kept : IsStoreSound meaning charge old) where
  abbrev p : ℕ
  p = pair.above.slot

  abbrev q : ℕ
  q = pair.here.slot

  abbrev t : NodeMap M
  t = table_in meaning charge old

  abbrev k : List ℕ
  k = bytes_of (key_of task.outline)

  -- THE EMPTY NODE IS TAKEN OUT
  module _ (facts : KnowsTidy meaning charge Granted same old pin task c (tidy.TakeAway pair)) where
    abbrev a : PlacedNode M
    a = facts.at.0.held.above.node

    abbrev b : PlacedNode M
    b = facts.at.0.held.here.node

    pub above_there : IsThereInside t p
    above_there = (a, facts.at.0.held.above.linked.here, kept.placed.short p a facts.at.0.held.above.linked)

    -- the parent has the node below
    pub child_there : (byte : ℕ) → ByteIn meaning old.store p k byte → (x : PlacedNode M) × (t p ≡ Some x) × IsSome (entry x byte)
    child_there byte is = (a, facts.at.0.held.above.linked.here, subst (λ (z : ℕ). IsSome (entry a z)) (sym (is a facts.at.0.held.above.linked.here)) (rw facts.at.0.held.leads refl))

    module _ (s1 : Store P) (byte : ℕ) (first : TakesChild meaning old.store s1 p byte) where
      first_sets : SetsNode meaning old.store s1 p (Some (record a { node = record a.node { children = without a.node.children byte } }))
      first_sets = first a facts.at.0.held.above.linked.here

      still_here : meant_table meaning s1 q ≡ Some b
      still_here = first_sets.others q (λ e. facts.at.0.held.over.apart (sym e)) ∙ facts.at.0.held.here.linked.here

      pub here_there : (x : PlacedNode M) × (meant_table meaning s1 q ≡ Some x)
      here_there = (b, still_here)

      module _ (s2 : Store P) (detaches : DetachesNode meaning s1 s2 q) where
        second_sets : SetsNode meaning s1 s2 q (Some (record b { lifetime = is_detached }))
        second_sets = detaches b still_here

        pub above_still : (x : PlacedNode M) × (meant_table meaning s2 p ≡ Some x)
        above_still = (_, second_sets.others p facts.at.0.held.over.apart ∙ first_sets.here)

        module _ (new : Stock P A) (is : ByteIn meaning old.store p k byte) (env : Env P) (budget : new.budget ≡ old.budget) (lives : s2.pins ≡ old.store.pins)
            (sizes : stored_sizes s2.nodes.slots ≡ stored_sizes old.store.nodes.slots) (entries : new.entries ≡ old.entries) (fits : FitsIn meaning old.store p) where
          pub takes_away : (left : Option Cleanup) → ((x : PlacedNode M) → meant_table meaning s2 p ≡ Some x → IsLeftAgain c.again x.node left)
              → TidyMoves meaning charge Granted same old (record new { store = s2 }) pin task c (tidy.TakeAway pair) env (record { stage = Tail (Obsolete pair left); task = task }) (report_of kind.Write (Some p) 0 true) Going
          takes_away left leaves =
              let held = facts.at.0.held in
              let t' : NodeMap M = meant_table meaning s2 in
              let above : t' p ≡ Some (answered a (byte_at a k) None) =
              second_sets.others p held.over.apart ∙ (first_sets.here ∙ ap (λ (x : ℕ). Some (record a { node = record a.node { children = without a.node.children x } })) (is a held.above.linked.here)) in
              let others : OthersStay t t' (p ∷ q ∷ []) = λ s out. second_sets.others s (λ e. out (inr (inl (sym e)))) ∙ first_sets.others s (λ e. out (inl (sym e))) in
              let root : s2.root ≡ old.store.root = second_sets.root ∙ first_sets.root in
              let after : Stock P A = record new { store = s2 } in
              let placed : IsPlaced t' old.store.root =
              away_placed Granted same t t' old.store.root pin (meant_task meaning task) pair kept.placed facts.small (counts_in meaning charge old) (counts_in meaning charge after) (env_of meaning env)
              (ap (λ z. z.count) lives) (ap charge budget) entries c facts.at.0 facts.at.1 (fits a held.above.linked.here) above second_sets.here others in
              record {
                kept = still_kept meaning charge old after (p ∷ q ∷ []) kept others
                    (detached_still meaning t t' p q a _ b _ [] held.above.linked above held.here.linked second_sets.here (λ o h. absurd h) (λ o h. absurd h))
                    (subst (λ z. IsPlaced t' z) (sym root) placed) lives sizes budget;
                move = away_moves Granted same t t' old.store.root pin (meant_task meaning task) pair kept.placed facts.small (counts_in meaning charge old) (counts_in meaning charge after) (env_of meaning env)
                    (ap (λ z. z.count) lives) (ap charge budget) entries c facts.at.0 facts.at.1 (fits a held.above.linked.here) above second_sets.here others left (leaves _ above);
                root = root;
                seats = ap (λ z. z.seats) lives;
              }

  -- THE SMALLER COPY IS PUT IN ITS PLACE
  module _ (copy : ℕ) (facts : KnowsTidy meaning charge Granted same old pin task c (tidy.PutSmaller pair copy)) where
    pub over_there : IsThereInside t p
    over_there = (facts.at.0.held.above.node, facts.at.0.held.above.linked.here, kept.placed.short p facts.at.0.held.above.node facts.at.0.held.above.linked)

    pub copy_there : (x : PlacedNode M) × (t copy ≡ Some x)
    copy_there = (facts.at.1.node, facts.at.1.here)

    copy_private : ArePrivate meaning t (copy ∷ [])
    copy_private s h = elim h [ inl e ↦ subst (λ z. IsPrivate t z) e (record { node = facts.at.1.node; here = facts.at.1.here; lifetime = facts.at.1.lifetime }) | inr none ↦ absurd none ]

    off_copy : (s : ℕ) (x : PlacedNode M) → IsLinked t s x → s ≢ copy
    off_copy s x l e =
        linked_private (sym l.lifetime ∙ (ap (λ (z : PlacedNode M). z.lifetime) (some_same x facts.at.1.node (sym l.here ∙ subst (λ z. t z ≡ Some facts.at.1.node) (sym e) facts.at.1.here)) ∙ facts.at.1.lifetime))

    module _ (s1 : Store P) (publishes : (x : PlacedNode M) → t copy ≡ Some x → SetsNode meaning old.store s1 copy (Some (record x { lifetime = is_linked }))) where
      publish_sets : SetsNode meaning old.store s1 copy (Some (record facts.at.1.node { lifetime = is_linked }))
      publish_sets = publishes facts.at.1.node facts.at.1.here

      pub may_put : (byte : ℕ) → ByteIn meaning old.store p k byte → MayPut meaning s1 p byte
      may_put byte is =
          let held = facts.at.0.held in
          let a : PlacedNode M = held.above.node in
          let under : lookup a.node.children byte ≡ Some (below_at q) = subst (λ (x : ℕ). lookup a.node.children x ≡ Some (below_at q)) (sym (is a held.above.linked.here)) held.leads in (
            a,
            publish_sets.others p (off_copy p a held.above.linked) ∙ held.above.linked.here,
            above_inner t old.store.root (meant_task meaning task) pair kept.placed held,
            (λ none. absurd (none_some (below_at q) (sym none ∙ under))),
          )

      pub puts_below : (s2 : Store P) (byte : ℕ) → ByteIn meaning old.store p k byte
          → ((x : PlacedNode M) → meant_table meaning s1 p ≡ Some x → SetsNode meaning s1 s2 p (Some (record x { node = record x.node { children = put x.node.children byte (below_at copy) } })))
          → PutsBelow meaning old.store s1 s2 (copy ∷ []) p copy k
      puts_below s2 byte is puts = record {
        byte = byte;
        is = is;
        links = λ s x h was. elim h [
          | inl e ↦ subst (λ z. meant_table meaning s1 z ≡ Some (record x { lifetime = is_linked })) e (publishes x (subst (λ z. t z ≡ Some x) (sym e) was)).here
          | inr none ↦ absurd none
        ];
        others = λ s out. publish_sets.others s (λ e. out (inl (sym e)));
        root = publish_sets.root;
        puts = puts;
      }

      pub node_there : (s2 : Store P) → PutsBelow meaning old.store s1 s2 (copy ∷ []) p copy k → (x : PlacedNode M) × (meant_table meaning s2 q ≡ Some x)
      node_there s2 w =
          let held = facts.at.0.held in
          (held.here.node, put_other meaning w copy_private held.above.node held.above.linked q held.here.node held.here.linked held.over.apart)

      module _ (s2 s3 : Store P) (w : PutsBelow meaning old.store s1 s2 (copy ∷ []) p copy k) (detaches : DetachesNode meaning s2 s3 q) (new : Stock P A) (env : Env P) (budget : new.budget ≡ old.budget) (lives : s3.pins ≡ old.store.pins)
          (sizes : stored_sizes s3.nodes.slots ≡ stored_sizes old.store.nodes.slots) (entries : new.entries ≡ old.entries) (fits : FitsIn meaning old.store p) where
        pub puts_smaller : TidyMoves meaning charge Granted same old (record new { store = s3 }) pin task c (tidy.PutSmaller pair copy) env (record { stage = Tail (Obsolete pair None); task = task }) (report_of kind.Write (Some p) 0 true) Going
        puts_smaller =
            let held = facts.at.0.held in
            let a : PlacedNode M = held.above.node in
            let b : PlacedNode M = held.here.node in
            let t' : NodeMap M = meant_table meaning s3 in
            let above = detached_leads meaning w copy_private a held.above.linked q b held.here.linked held.over.apart detaches in
            let gone = detached_here meaning w copy_private a held.above.linked q b held.here.linked held.over.apart detaches in
            let linked = detached_links meaning w copy_private a held.above.linked q b held.here.linked held.over.apart detaches in
            let others = detached_others meaning w copy_private a held.above.linked q b held.here.linked held.over.apart detaches in
            let root = detached_root meaning w copy_private a held.above.linked q b held.here.linked held.over.apart detaches in
            let after : Stock P A = record new { store = s3 } in
            let placed : IsPlaced t' old.store.root =
            put_placed Granted same t t' old.store.root pin (meant_task meaning task) pair kept.placed facts.small (counts_in meaning charge old) (counts_in meaning charge after) (env_of meaning env)
            (ap (λ z. z.count) lives) (ap charge budget) entries c facts.at.0 copy facts.at.1 facts.at.2 (fits a held.above.linked.here) above gone linked others in
            record {
              kept = still_kept meaning charge old after (p ∷ q ∷ copy ∷ []) kept others
                  (detached_still meaning t t' p q a (answered a (byte_at a k) (Some (below_at copy))) b (record b { lifetime = is_detached }) (copy ∷ []) held.above.linked above held.here.linked gone copy_private linked)
                  (subst (λ z. IsPlaced t' z) (sym root) placed) lives sizes budget;
              move = put_moves Granted same t t' old.store.root pin (meant_task meaning task) pair kept.placed facts.small (counts_in meaning charge old) (counts_in meaning charge after) (env_of meaning env)
                  (ap (λ z. z.count) lives) (ap charge budget) entries c facts.at.0 copy facts.at.1 facts.at.2 (fits a held.above.linked.here) above gone linked others;
              root = root;
              seats = ap (λ z. z.seats) lives;
            }
