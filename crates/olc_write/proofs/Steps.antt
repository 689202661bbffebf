-- A WRITE AT THE PARENT in a stock of nodes: the call's new nodes are linked, the parent has one of them as a child,
-- and the node that a copy replaces is detached.
use Rattle.std.proofs.Common.{◌≡◌, ◌≢◌, ℕ, ◌+◌, ◌≤◌, ◌<◌, Bool, true, List, [], ◌∷◌, length, Option, Some, None, inl, inr, sym, subst, ap, ◌∙◌}
use Rattle.node_table.specs.Charge.{Charge}
use Rattle.node_base.specs.Form.{Fits}
use Rattle.spec_map.specs.Map.{lookup, put}
use Rattle.spec_node.specs.declared.child.Child.TheVariants.{Node as below_at}
use Rattle.spec_olc.specs.Calls.{bytes_of, key_of}
use Rattle.spec_olc.specs.Kinds.{report_of}
use Rattle.spec_olc.specs.Meaning.{env_of, in_some, meant_reply}
use Rattle.spec_olc.specs.declared.types.Env.{Env}
use Rattle.spec_olc.specs.declared.types.Kind.TheVariants as kind
use Rattle.spec_olc.specs.declared.types.Outcome.TheVariants.{Decided}
use Rattle.spec_olc.specs.declared.types.Reply.{Reply}
use Rattle.olc_state.specs.declared.stage.Stage.{Stage}
use Rattle.olc_state.specs.declared.stage.Stage.TheVariants.{Tail}
use Rattle.olc_state.specs.declared.stage.Task.{Task}
use Rattle.olc_state.specs.declared.stock.Stock.{Stock}
use Rattle.olc_state.specs.declared.store.Store.{Store}
use Rattle.olc_state.specs.declared.tail.NodePair.{NodePair}
use Rattle.olc_state.specs.declared.tail.Tail.TheVariants.{Replace, Insert, Obsolete, UnlockBelow}
use Rattle.olc_state.specs.inner.Effects.{reply_with}
use Rattle.olc_state.specs.inner.Facts.{stored_sizes}
use Rattle.olc_state.specs.inner.Meant.{meant_table, meant_task}
use Rattle.olc_state.specs.inner.Moves.{IsMove}
use Rattle.olc_state.specs.inner.Slots.{SetsNode}
use Rattle.olc_state.specs.inner.Stocks.{IsStoreSound, StockKnows, StockMoves, table_in, counts_in}
use Rattle.olc_state.specs.inner.Tables.{IsIn, IsLinked, IsPlaced, byte_at}
use Rattle.olc_state.specs.inner.TailFacts.{AreHeld}
use Rattle.olc_state.specs.inner.Tails.{one_more}
use Rattle.olc_state.specs.inner.World.{PlacedNode, NodeMap, is_linked, is_detached}
use Rattle.olc_state.proofs.Options.{none_some, some_same}
use Rattle.olc_state.proofs.Records.{at}
use Rattle.olc_state.proofs.Unlike.{linked_private, linked_retired, private_retired}
use Rattle.olc_state.proofs.Replies.{reply_meant}
use Rattle.olc_laws.proofs.Effects.{OthersStay}
use Rattle.olc_laws.proofs.Writing.{answered}
use Rattle.olc_write.proofs.Deciding.{with_reply}
use Rattle.olc_write.proofs.Growths.{BecomesLinked, LeadsNow, IsPrivate, copy_private, middle_private, above_inner}
use Rattle.olc_write.proofs.Standstill.{StandsStill, still_kept}
use Rattle.olc_write.proofs.Parents.{copy_moves, middle_moves}

module _ {P M : Type 0} (meaning : P → M) where
  -- what the functions of the store leave: private nodes are linked, a node has a child, a node is detached
  abbrev pub LinksAll : Store P → Store P → List ℕ → Type 0
  LinksAll old new made = (s : ℕ) (a : PlacedNode M) → IsIn s made → meant_table meaning old s ≡ Some a → meant_table meaning new s ≡ Some (record a { lifetime = is_linked })

  abbrev pub LeavesOthers : Store P → Store P → List ℕ → Type 0
  LeavesOthers old new made = (s : ℕ) → (IsIn s made → ⊥) → meant_table meaning new s ≡ meant_table meaning old s

  abbrev pub PutsNode : Store P → Store P → ℕ → ℕ → ℕ → Type 0
  PutsNode old new p byte child =
      (a : PlacedNode M) → meant_table meaning old p ≡ Some a → SetsNode meaning old new p (Some (record a { node = record a.node { children = put a.node.children byte (below_at child) } }))

  abbrev pub DetachesNode : Store P → Store P → ℕ → Type 0
  DetachesNode old new q = (b : PlacedNode M) → meant_table meaning old q ≡ Some b → SetsNode meaning old new q (Some (record b { lifetime = is_detached }))

  -- the byte under which a key goes on below the node in a slot, and that this node fits its form
  abbrev pub ByteIn : Store P → ℕ → List ℕ → ℕ → Type 0
  ByteIn store p k byte = (a : PlacedNode M) → meant_table meaning store p ≡ Some a → byte ≡ byte_at a k

  abbrev pub FitsIn : Store P → ℕ → Type 0
  FitsIn store p = (a : PlacedNode M) → meant_table meaning store p ≡ Some a → Fits a.node.form (length a.node.children)

  -- a node in this slot may have a node under this byte
  abbrev pub MayPut : Store P → ℕ → ℕ → Type 0
  MayPut store p byte =
      (a : PlacedNode M) × (meant_table meaning store p ≡ Some a) × (length a.node.prefix < 7) × (lookup a.node.children byte ≡ None → Fits a.node.form (length a.node.children + 1))

  -- a linked node isn't among private ones
  abbrev pub ArePrivate : NodeMap M → List ℕ → Type 0
  ArePrivate t made = (o : ℕ) → IsIn o made → IsPrivate t o

  linked_out : (t : NodeMap M) (made : List ℕ) (s : ℕ) (a : PlacedNode M) → ArePrivate t made → IsLinked t s a → IsIn s made → ⊥
  linked_out t made s a private l h =
      let x = private s h in
      linked_private (sym l.lifetime ∙ (ap (λ (z : PlacedNode M). z.lifetime) (some_same a x.node (sym l.here ∙ x.here)) ∙ x.lifetime))

  -- UP TO THE PARENT'S NEW CHILD: the call's own nodes are linked, and one of them is put below the parent
  pub record PutsBelow (s0 s1 s2 : Store P) (made : List ℕ) (p child : ℕ) (k : List ℕ) : Type 0 where
    pub byte : ℕ
    pub is : ByteIn s0 p k byte
    pub links : LinksAll s0 s1 made
    pub others : LeavesOthers s0 s1 made
    pub root : s1.root ≡ s0.root
    pub puts : PutsNode s1 s2 p byte child

  module _ {s0 s1 s2 : Store P} {made : List ℕ} {p child : ℕ} {k : List ℕ} (w : PutsBelow s0 s1 s2 made p child k) (private : ArePrivate (meant_table meaning s0) made)
      (a : PlacedNode M) (here : IsLinked (meant_table meaning s0) p a) where
    put_sets : SetsNode meaning s1 s2 p (Some (record a { node = record a.node { children = put a.node.children w.byte (below_at child) } }))
    put_sets = w.puts a (w.others p (linked_out (meant_table meaning s0) made p a private here) ∙ here.here)

    pub put_leads : LeadsNow (meant_table meaning s2) p a k child
    put_leads = subst (λ (x : ℕ). meant_table meaning s2 p ≡ Some (record a { node = record a.node { children = put a.node.children x (below_at child) } })) (w.is a here.here) put_sets.here

    pub put_root : s2.root ≡ s0.root
    put_root = put_sets.root ∙ w.root

    pub put_links : (s : ℕ) → IsIn s made → BecomesLinked (meant_table meaning s0) (meant_table meaning s2) s
    put_links s h c was =
        put_sets.others s (λ e. linked_out (meant_table meaning s0) made p a private here (subst (λ z. IsIn z made) e h)) ∙ w.links s c h was

    pub put_others : OthersStay (meant_table meaning s0) (meant_table meaning s2) (p ∷ made)
    put_others s out = put_sets.others s (λ e. out (inl (sym e))) ∙ w.others s (λ h. out (inr h))

    -- another linked node is unchanged
    pub put_other : (q : ℕ) (b : PlacedNode M) → IsLinked (meant_table meaning s0) q b → p ≢ q → meant_table meaning s2 q ≡ Some b
    put_other q b below apart =
        put_others q (λ h. elim h [ inl e ↦ apart e | inr later ↦ linked_out (meant_table meaning s0) made q b private below later ]) ∙ below.here

    -- AND A NODE DETACHED after that
    module _ {s3 : Store P} (q : ℕ) (b : PlacedNode M) (below : IsLinked (meant_table meaning s0) q b) (apart : p ≢ q) (detaches : DetachesNode s2 s3 q) where
      detach_sets : SetsNode meaning s2 s3 q (Some (record b { lifetime = is_detached }))
      detach_sets = detaches b (put_other q b below apart)

      pub detached_here : meant_table meaning s3 q ≡ Some (record b { lifetime = is_detached })
      detached_here = detach_sets.here

      pub detached_root : s3.root ≡ s0.root
      detached_root = detach_sets.root ∙ put_root

      pub detached_leads : LeadsNow (meant_table meaning s3) p a k child
      detached_leads = detach_sets.others p apart ∙ put_leads

      pub detached_links : (s : ℕ) → IsIn s made → BecomesLinked (meant_table meaning s0) (meant_table meaning s3) s
      detached_links s h c was =
          detach_sets.others s (λ e. linked_out (meant_table meaning s0) made q b private below (subst (λ z. IsIn z made) e h)) ∙ put_links s h c was

      pub detached_others : OthersStay (meant_table meaning s0) (meant_table meaning s3) (p ∷ q ∷ made)
      detached_others s out =
          detach_sets.others s (λ e. out (inr (inl (sym e))))
          ∙ put_others s (λ h. elim h [ inl e ↦ out (inl e) | inr later ↦ out (inr (inr later)) ])

  -- THE WRITTEN NODES stay in their slots
  module _ (t t' : NodeMap M) where
    linked_still : (s : ℕ) (a b : PlacedNode M) → IsLinked t s a → t' s ≡ Some b → StandsStill t t' s
    linked_still s a b l after = record { was = a; here = l.here; fresh = λ stamp r. linked_retired stamp (sym l.lifetime ∙ r); now = b; there = after }

    private_still : (s : ℕ) → IsPrivate t s → BecomesLinked t t' s → StandsStill t t' s
    private_still s x linked = record { was = x.node; here = x.here; fresh = λ stamp r. private_retired stamp (sym x.lifetime ∙ r); now = record x.node { lifetime = is_linked }; there = linked x.node x.here }

    still_at : (z s : ℕ) → z ≡ s → StandsStill t t' z → StandsStill t t' s
    still_at z s e h = subst (λ o. StandsStill t t' o) e h

    pub put_still : (p : ℕ) (a b : PlacedNode M) (made : List ℕ) → IsLinked t p a → t' p ≡ Some b → ArePrivate t made → ((o : ℕ) → IsIn o made → BecomesLinked t t' o)
        → (s : ℕ) → IsIn s (p ∷ made) → StandsStill t t' s
    put_still p a b made l after private linked s h =
        elim h [
          | inl e ↦ still_at p s e (linked_still p a b l after)
          | inr later ↦ private_still s (private s later) (linked s later)
        ]

    pub detached_still : (p q : ℕ) (a b c d : PlacedNode M) (made : List ℕ) → IsLinked t p a → t' p ≡ Some b → IsLinked t q c → t' q ≡ Some d
        → ArePrivate t made → ((o : ℕ) → IsIn o made → BecomesLinked t t' o) → (s : ℕ) → IsIn s (p ∷ q ∷ made) → StandsStill t t' s
    detached_still p q a b c d made l after m gone private linked s h =
        elim h [
          | inl e ↦ still_at p s e (linked_still p a b l after)
          | inr (inl e) ↦ still_at q s e (linked_still q c d m gone)
          | inr (inr later) ↦ private_still s (private s later) (linked s later)
        ]

abbrev pub IsThereInside : {M : Type 0} → NodeMap M → ℕ → Type 0
IsThereInside {M} t s = (a : PlacedNode M) × (t s ≡ Some a) × (length a.node.prefix ≤ 7)

-- WHAT THE FUNCTIONS OF THE STORE REQUIRE
module _ {P A M : Type 0} (meaning : P → M) (charge : A → Option Charge) (Granted : Type 0) (same : M → M → Bool) (old : Stock P A) (pin : ℕ) (task : Task P) (pair : NodePair) (kept : IsStoreSound meaning charge old) where
  abbrev before : NodeMap M
  before = table_in meaning charge old

  abbrev k : List ℕ
  k = bytes_of (key_of task.outline)

  -- the parent is in its slot, with a prefix of at most seven bytes
  there_inside : AreHeld before pair k → IsThereInside before pair.above.slot
  there_inside held = (held.above.node, held.above.linked.here, kept.placed.short pair.above.slot held.above.node held.above.linked)

  -- it may have another node in its child's place
  put_may : (s1 : Store P) (made : List ℕ) (byte : ℕ) (held : AreHeld before pair k) → ArePrivate meaning before made → LeavesOthers meaning old.store s1 made → ByteIn meaning old.store pair.above.slot k byte
      → MayPut meaning s1 pair.above.slot byte
  put_may s1 made byte held private others is =
      let a : PlacedNode M = held.above.node in
      let under : lookup a.node.children byte ≡ Some (below_at pair.here.slot) = subst (λ (x : ℕ). lookup a.node.children x ≡ Some (below_at pair.here.slot)) (sym (is a held.above.linked.here)) held.leads in (
        a,
        others pair.above.slot (linked_out meaning before made pair.above.slot a private held.above.linked) ∙ held.above.linked.here,
        above_inner before old.store.root (meant_task meaning task) pair kept.placed held,
        (λ none. absurd (none_some (below_at pair.here.slot) (sym none ∙ under))),
      )

  module _ (copy : ℕ) (leaf : Option ℕ) (facts : StockKnows meaning charge Granted same old pin (record { stage = Tail (Replace pair copy leaf); task = task })) where
    pub copies_private : ArePrivate meaning before (copy ∷ one_more leaf)
    copies_private = copy_private before (meant_task meaning task) facts.at.0.held.here.node copy leaf facts.at.1

    pub copies_there : (s : ℕ) → IsIn s (copy ∷ one_more leaf) → (a : PlacedNode M) × (before s ≡ Some a)
    copies_there s h = let x = copies_private s h in (x.node, x.here)

    pub above_there : IsThereInside before pair.above.slot
    above_there = there_inside facts.at.0.held

    pub copy_may : (s1 : Store P) (byte : ℕ) → LeavesOthers meaning old.store s1 (copy ∷ one_more leaf) → ByteIn meaning old.store pair.above.slot k byte → MayPut meaning s1 pair.above.slot byte
    copy_may s1 byte others is = put_may s1 (copy ∷ one_more leaf) byte facts.at.0.held copies_private others is

    pub here_there : (s1 s2 : Store P) → PutsBelow meaning old.store s1 s2 (copy ∷ one_more leaf) pair.above.slot copy k → (a : PlacedNode M) × (meant_table meaning s2 pair.here.slot ≡ Some a)
    here_there s1 s2 w =
        let held = facts.at.0.held in
        (held.here.node, put_other meaning w copies_private held.above.node held.above.linked pair.here.slot held.here.node held.here.linked held.over.apart)

  module _ (middle leaf : ℕ) (facts : StockKnows meaning charge Granted same old pin (record { stage = Tail (Insert pair middle leaf); task = task })) where
    pub middles_private : ArePrivate meaning before (middle ∷ leaf ∷ [])
    middles_private = middle_private before (meant_task meaning task) pair.here.slot facts.at.0.held.here.node middle leaf facts.at.1 facts.at.2

    pub middles_there : (s : ℕ) → IsIn s (middle ∷ leaf ∷ []) → (a : PlacedNode M) × (before s ≡ Some a)
    middles_there s h = let x = middles_private s h in (x.node, x.here)

    pub over_there : IsThereInside before pair.above.slot
    over_there = there_inside facts.at.0.held

    pub middle_may : (s1 : Store P) (byte : ℕ) → LeavesOthers meaning old.store s1 (middle ∷ leaf ∷ []) → ByteIn meaning old.store pair.above.slot k byte → MayPut meaning s1 pair.above.slot byte
    middle_may s1 byte others is = put_may s1 (middle ∷ leaf ∷ []) byte facts.at.0.held middles_private others is

-- THE EVENTS: nothing but the store's nodes and the number of pairs changes
module _ {P A M : Type 0} (meaning : P → M) (charge : A → Option Charge) (Granted : Type 0) (same : M → M → Bool) (old new : Stock P A) (pin : ℕ) (task : Task P) (pair : NodePair) (env : Env P) (kept : IsStoreSound meaning charge old)
    (budget : new.budget ≡ old.budget) (lives : new.store.pins ≡ old.store.pins) (sizes : stored_sizes new.store.nodes.slots ≡ stored_sizes old.store.nodes.slots) (entries : new.entries ≡ old.entries + 1)
    (fits : FitsIn meaning old.store pair.above.slot) where
  abbrev p : ℕ
  p = pair.above.slot

  abbrev q : ℕ
  q = pair.here.slot

  abbrev key_bytes : List ℕ
  key_bytes = bytes_of (key_of task.outline)

  abbrev t : NodeMap M
  t = table_in meaning charge old

  abbrev t' : NodeMap M
  t' = table_in meaning charge new

  -- the reply of the code means the reply
  told_move : (stage next : Stage) → let moved : Task M = meant_task meaning task in
      IsMove Granted same t t' old.store.root pin (counts_in meaning charge old) (counts_in meaning charge new) (at stage moved) (env_of meaning env) (at next (with_reply moved)) (report_of kind.Write (Some p) 0 true)
      (Decided (reply_with task.outline None (in_some meaning task.returns)))
      → IsMove Granted same t t' old.store.root pin (counts_in meaning charge old) (counts_in meaning charge new) (at stage moved) (env_of meaning env) (at next (with_reply moved)) (report_of kind.Write (Some p) 0 true)
      (Decided (meant_reply meaning (reply_with task.outline None task.returns)))
  told_move stage next move =
      let moved : Task M = meant_task meaning task in
      subst (λ (r : Reply M). IsMove Granted same t t' old.store.root pin (counts_in meaning charge old) (counts_in meaning charge new) (at stage moved) (env_of meaning env) (at next (with_reply moved))
      (report_of kind.Write (Some p) 0 true) (Decided r))
      (sym (reply_meant meaning task.outline None task.returns)) move

  pub replaces : (s1 s2 : Store P) (copy : ℕ) (leaf : Option ℕ) (facts : StockKnows meaning charge Granted same old pin (record { stage = Tail (Replace pair copy leaf); task = task }))
      → PutsBelow meaning old.store s1 s2 (copy ∷ one_more leaf) p copy key_bytes → DetachesNode meaning s2 new.store q
      → StockMoves meaning charge Granted same old new pin (record { stage = Tail (Replace pair copy leaf); task = task }) env
      (record { stage = Tail (Obsolete pair None); task = with_reply task }) (report_of kind.Write (Some p) 0 true) (Decided (reply_with task.outline None task.returns))
  replaces s1 s2 copy leaf facts w detaches =
      let own = facts.at.0 in
      let a : PlacedNode M = own.held.above.node in
      let b : PlacedNode M = own.held.here.node in
      let made : List ℕ = copy ∷ one_more leaf in
      let private = copies_private meaning charge Granted same old pin task pair kept copy leaf facts in
      let above = detached_leads meaning w private a own.held.above.linked q b own.held.here.linked own.held.over.apart detaches in
      let gone = detached_here meaning w private a own.held.above.linked q b own.held.here.linked own.held.over.apart detaches in
      let linked = detached_links meaning w private a own.held.above.linked q b own.held.here.linked own.held.over.apart detaches in
      let others = detached_others meaning w private a own.held.above.linked q b own.held.here.linked own.held.over.apart detaches in
      let root = detached_root meaning w private a own.held.above.linked q b own.held.here.linked own.held.over.apart detaches in
      let moves = copy_moves Granted same t t' old.store.root pin (meant_task meaning task) pair kept.placed facts.small (counts_in meaning charge old) (counts_in meaning charge new) (env_of meaning env)
      (ap (λ z. z.count) lives) (ap charge budget) entries copy leaf own facts.at.1 (fits a own.held.above.linked.here) above gone linked others in
      record {
        kept = still_kept meaning charge old new (p ∷ q ∷ made) kept others
            (detached_still meaning t t' p q a (answered a (byte_at a key_bytes) (Some (below_at copy))) b (record b { lifetime = is_detached }) made own.held.above.linked above own.held.here.linked gone private linked)
            (subst (λ z. IsPlaced t' z) (sym root) moves.0) lives sizes budget;
        move = told_move (Tail (Replace pair copy leaf)) (Tail (Obsolete pair None)) moves.1;
        root = root;
        seats = ap (λ z. z.seats) lives;
      }

  pub inserts : (s1 : Store P) (middle leaf : ℕ) (facts : StockKnows meaning charge Granted same old pin (record { stage = Tail (Insert pair middle leaf); task = task }))
      → PutsBelow meaning old.store s1 new.store (middle ∷ leaf ∷ []) p middle key_bytes
      → StockMoves meaning charge Granted same old new pin (record { stage = Tail (Insert pair middle leaf); task = task }) env
      (record { stage = Tail (UnlockBelow pair); task = with_reply task }) (report_of kind.Write (Some p) 0 true) (Decided (reply_with task.outline None task.returns))
  inserts s1 middle leaf facts w =
      let own = facts.at.0 in
      let a : PlacedNode M = own.held.above.node in
      let made : List ℕ = middle ∷ leaf ∷ [] in
      let private = middles_private meaning charge Granted same old pin task pair kept middle leaf facts in
      let above = put_leads meaning w private a own.held.above.linked in
      let linked = put_links meaning w private a own.held.above.linked in
      let others = put_others meaning w private a own.held.above.linked in
      let root = put_root meaning w private a own.held.above.linked in
      let moves = middle_moves Granted same t t' old.store.root pin (meant_task meaning task) pair kept.placed facts.small (counts_in meaning charge old) (counts_in meaning charge new) (env_of meaning env)
      (ap (λ z. z.count) lives) (ap charge budget) entries middle leaf own facts.at.1 facts.at.2 (fits a own.held.above.linked.here) above linked others in
      record {
        kept = still_kept meaning charge old new (p ∷ made) kept others
            (put_still meaning t t' p a (answered a (byte_at a key_bytes) (Some (below_at middle))) made own.held.above.linked above private linked)
            (subst (λ z. IsPlaced t' z) (sym root) moves.0) lives sizes budget;
        move = told_move (Tail (Insert pair middle leaf)) (Tail (UnlockBelow pair)) moves.1;
        root = root;
        seats = ap (λ z. z.seats) lives;
      }
