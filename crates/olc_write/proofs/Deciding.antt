-- A WRITE THAT DECIDES its call: its reply, how it changes the content, and what a reader sees of the nodes.
use Rattle.std.proofs.Common.{◌≡◌, ◌≢◌, ℕ, ◌+◌, ◌^◌, ◌<◌, Bool, true, false, IsTrue, is_some, List, [], length, map, Option, Some, None, IsSome, inl, inr, refl, sym, subst, ap, ◌∙◌, arith}
use Rattle.std.proofs.lemmas.Bool.Decides.{eqb_tells}
use Rattle.node_base.specs.Form.{Fits}
use Rattle.spec_map.specs.Legal.{reply_of as reply_by}
use Rattle.spec_map.specs.Map.{Pairs, IsMap, Rises, lookup, put, with_answer}
use Rattle.spec_map.proofs.ByteMapLaws.{length-put_new, length-put_some, length-without_present}
use Rattle.spec_map.proofs.MapLaws.{Rises-put, lookup-put_same, lookup-put_other, without-absent}
use Rattle.spec_node.specs.TableNode.{Child, MayHave}
use Rattle.spec_node.specs.declared.child.Child.TheVariants.{Payload, Node as below_at}
use Rattle.spec_olc.specs.Calls.{Outline, asked_of, bytes_of, key_of, map_asked, map_call, map_reply}
use Rattle.spec_olc.specs.Content.{IsContent}
use Rattle.spec_olc.specs.Deciding.{AppliesCall}
use Rattle.spec_olc.specs.Due.{IsLeft}
use Rattle.spec_olc.specs.Kinds.{DoesAs, report_of}
use Rattle.spec_olc.specs.Lists.{is_in}
use Rattle.spec_olc.specs.Local.{IsLocal, MayChange, MayLock, SeesPayloads, SharesNone, seen_map, seen_payload}
use Rattle.spec_olc.specs.State.{State, CallState, Cleaning, settled}
use Rattle.spec_olc.specs.State as state
use Rattle.spec_olc.specs.Writing.{IsChanged, IsOwn, HeldNode, TakesOut, changed, emptied, entry_below, linked}
use Rattle.spec_olc.specs.declared.types.Env.{Env}
use Rattle.spec_olc.specs.declared.types.Asking.{Asking}
use Rattle.spec_olc.specs.declared.types.Op.{Op}
use Rattle.spec_olc.specs.declared.types.Op.TheVariants.{Get, Insert, Remove, ComputeIfPresent, ComputeOrInsert, CompareExchange, Range}
use Rattle.spec_olc.specs.declared.types.Kind.TheVariants as kind
use Rattle.spec_olc.specs.declared.types.Outcome.TheVariants.{Decided}
use Rattle.spec_olc.specs.declared.types.Progress.TheVariants as progress
use Rattle.spec_olc.specs.declared.types.Reply.{Reply}
use Rattle.spec_olc.specs.declared.types.Outcome.{Outcome}
use Rattle.olc_state.specs.declared.stage.Task.{Task}
use Rattle.olc_state.specs.declared.tail.Tail as tails
use Rattle.olc_state.specs.inner.Effects.{IsChange, reply_with}
use Rattle.olc_state.specs.inner.Moves.{StoreCounts, IsAfter, IsOutcome}
use Rattle.olc_state.specs.inner.Shown.{flight, shown}
use Rattle.olc_state.specs.inner.Tables.{IsIn, IsPlaced, Keeps}
use Rattle.olc_state.specs.inner.TailFacts.{HasRoom, WritesAtKey}
use Rattle.olc_state.specs.inner.Tasks.{closed, key_bytes}
use Rattle.olc_state.specs.inner.Turns.{IsCourse, ShowsNodes, work_of}
use Rattle.olc_state.specs.inner.World.{PlacedNode, NodeMap, entry, is_linked}
use Rattle.olc_state.specs.inner.Tails.{cleaning_in, named_in, spots_in}
use Rattle.olc_state.specs.declared.stage.Stage.TheVariants.{Tail}
use Rattle.spec_olc.specs.Lock.{IsFree, IsLocked}
use Rattle.olc_state.proofs.Contents.{kept_there, none_there}
use Rattle.olc_state.proofs.Options.{none_some, some_same}
use Rattle.olc_state.proofs.Reaching.{one, seen_at, lookup-inside}
use Rattle.olc_state.proofs.Replies.{alone_there, change_after, change_asked, change_point, change_replied, key_is}
use Rattle.olc_state.proofs.Records.{at}
use Rattle.olc_state.proofs.Members.{true_or_false}
use Rattle.olc_laws.proofs.Contents.{content_put, content_without}
use Rattle.olc_laws.proofs.Pairs.{PutsPair, TakesPair}
use Rattle.olc_write.specs.inner.Storing.{entries_with}
use Rattle.olc_write.proofs.Showing.{Among, ShownBy, lookup-linked, nodes_are, published_there, Rises-linked}

-- what is left of a call once it has its reply
abbrev pub with_reply : {M : Type 0} → Task M → Task M
with_reply task = closed progress.Decided task

module _ {M : Type 0} where
  -- the current value of a key, what happens to its pair, and how many pairs there are then
  abbrev pub StandsAt : NodeMap M → List ℕ → Option M → Type 0
  StandsAt t k None = (v : M) → Keeps t k v → ⊥
  StandsAt t k (Some v) = Keeps t k v

  abbrev pub AnswersPair : NodeMap M → NodeMap M → ℕ → Option M → Type 0
  AnswersPair t t' key None = TakesPair t t' key
  AnswersPair t t' key (Some v) = PutsPair t t' key v

  abbrev pub entries_after : Option M → Option M → ℕ → ℕ
  entries_after at_key value n = entries_with n (is_some at_key) (is_some value)

  is_there : (m : Pairs M) (key : ℕ) (v : M) → lookup m key ≡ Some v → IsSome (lookup m key)
  is_there m key v e = subst (λ z. IsSome z) (sym e) refl

  counted_answer : (m : Pairs M) (key : ℕ) (at_key value : Option M) (n : ℕ) → IsMap m → lookup m key ≡ at_key → n ≡ length m → entries_after at_key value n ≡ length (with_answer m key value)
  counted_answer m key None None n map there e = e ∙ sym (ap length (without-absent m key there))
  counted_answer m key None (Some v) n map there e = omega (arith, e, length-put_new 0 (2 ^ 64) m key v map there)
  counted_answer m key (Some w) None n map there e = omega (arith, e, length-without_present 0 (2 ^ 64) m key map (is_there m key w there))
  counted_answer m key (Some w) (Some v) n map there e = e ∙ sym (length-put_some 0 (2 ^ 64) m key v map (is_there m key w there))

  content_at : (t : NodeMap M) (root : ℕ) (s : State M) → IsPlaced t root → ShowsNodes t root s → (m : Pairs M) → IsContent s m → (key : ℕ) (at_key : Option M) → key < 2 ^ 64 → StandsAt t (bytes_of key) at_key → lookup m key ≡ at_key
  content_at t root s placed shows m content key None small none = none_there t root s placed shows m content key none
  content_at t root s placed shows m content key (Some v) small keeps = kept_there t root s placed shows m content key v small keeps

  content_answered : (t t' : NodeMap M) (root : ℕ) (s s' : State M) → IsPlaced t root → IsPlaced t' root → ShowsNodes t root s → ShowsNodes t' root s' → (key : ℕ) (value : Option M) → key < 2 ^ 64 → AnswersPair t t' key value
      → (m : Pairs M) → IsContent s m → IsContent s' (with_answer m key value)
  content_answered t t' root s s' placed placed' shows shows' key None small takes m c = content_without t t' root s s' placed placed' shows shows' key takes m c
  content_answered t t' root s s' placed placed' shows shows' key (Some v) small puts m c = content_put t t' root s s' placed placed' shows shows' key v small puts m c

-- a node that is held is locked
pub held_locked : (word before : ℕ) → word ≡ before + 2 → IsFree before → IsLocked word
held_locked word before is free = omega (arith, is, free)

module _ {M : Type 0} where
  -- a node with one child more, or another, has room for it
  fits_by : (a : PlacedNode M) (x : ℕ) (c : Child M) (e : Option (Child M)) → entry a x ≡ e → Rises 0 256 a.node.children → Fits a.node.form (length a.node.children) → (entry a x ≡ None → HasRoom a)
      → Fits a.node.form (length (put a.node.children x c))
  fits_by a x c None e rises fits room = subst (λ n. Fits a.node.form n) (sym (length-put_new 0 256 a.node.children x c rises e)) (room e)
  fits_by a x c (Some d) e rises fits room = subst (λ n. Fits a.node.form n) (sym (length-put_some 0 256 a.node.children x c rises (subst (λ z. IsSome z) (sym e) refl))) fits

  pub put_fits : (a : PlacedNode M) (x : ℕ) (c : Child M) → Rises 0 256 a.node.children → Fits a.node.form (length a.node.children) → (entry a x ≡ None → HasRoom a)
      → Fits a.node.form (length (put a.node.children x c))
  put_fits a x c rises fits room = fits_by a x c (entry a x) refl rises fits room

-- THE NODES: a held one has a child more, those that were made are linked
module _ {M : Type 0} where
  not_published : (made : List ℕ) (o : ℕ) (x : Option (state.VersionedNode M)) → is_in o made ≡ false → published_there made o x ≡ x
  not_published made o None e = refl
  not_published made o (Some a) e = rw e refl

  -- WHAT A WRITE SHOWS: the written node has its child, each new one is linked now, and all others look as before
  pub record ShowsWrite (t t' : NodeMap M) (made : List ℕ) (slot : ℕ) (after : state.VersionedNode M) : Type 0 where
    pub was : PlacedNode M
    pub here : t slot ≡ Some was
    pub there : shown (t' slot) ≡ Some after
    pub apart : is_in slot made ≡ false
    pub published : (o : ℕ) → IsTrue (is_in o made) → (c : PlacedNode M) × (t o ≡ Some c) × (t' o ≡ Some (record c { lifetime = is_linked }))
    pub others : (o : ℕ) → o ≢ slot → is_in o made ≡ false → shown (t' o) ≡ shown (t o)

  pub write_rises : (t : NodeMap M) (root : ℕ) (s : State M) (made : List ℕ) (slot : ℕ) (was : PlacedNode M) (after : state.VersionedNode M) → ShowsNodes t root s → IsMap s.nodes → t slot ≡ Some was → IsMap (linked made (put s.nodes slot after))
  write_rises t root s made slot was after shows map here =
      let small = lookup-inside 0 (2 ^ 64) s.nodes slot (one was) map (seen_at t root s shows slot was here) in
      Rises-linked 0 (2 ^ 64) made (put s.nodes slot after) (Rises-put 0 (2 ^ 64) s.nodes slot after map (omega arith) small.1)

  pub write_shown : (t t' : NodeMap M) (root : ℕ) (s : State M) (made : List ℕ) (slot : ℕ) (after : state.VersionedNode M) → ShowsNodes t root s → ShowsWrite t t' made slot after → ShownBy t' (linked made (put s.nodes slot after))
  write_shown t t' root s made slot after shows w o =
      let written : List (ℕ × state.VersionedNode M) = put s.nodes slot after in
      lookup-linked made written o ∙
      elim (eqb_tells o slot) [
        | inl same ↦ subst (λ z. published_there made z (lookup written z) ≡ shown (t' z)) (sym same.1)
            (ap (published_there made slot) (lookup-put_same s.nodes slot after) ∙ (not_published made slot (Some after) w.apart ∙ sym w.there))
        | inr far ↦
            elim (true_or_false (is_in o made)) [
              | inl e ↦
                  let p = w.published o e in
                  ap (published_there made o) (lookup-put_other s.nodes slot after o far.1 ∙ seen_at t root s shows o p.0 p.1) ∙ (rw e refl ∙ sym (ap shown p.2))
              | inr e ↦
                  not_published made o (lookup written o) e ∙ (lookup-put_other s.nodes slot after o far.1 ∙ (shows.nodes o ∙ sym (w.others o far.1 e)))
            ]
      ]

  pub nodes_written : (t t' : NodeMap M) (root : ℕ) (s s' : State M) (made : List ℕ) (slot : ℕ) (after : state.VersionedNode M) → ShowsNodes t root s → ShowsNodes t' root s' → IsMap s.nodes → IsMap s'.nodes
      → ShowsWrite t t' made slot after → s'.nodes ≡ linked made (put s.nodes slot after)
  nodes_written t t' root s s' made slot after shows shows' map map' w =
      nodes_are t' root s' shows' map' (linked made (put s.nodes slot after)) (write_rises t root s made slot w.was after shows map w.here) (write_shown t t' root s made slot after shows w)

  -- nothing is taken out where a child comes
  pub takes_none : (s : State M) (call : CallState M) (was : Option (Child M)) (c : Child M) → TakesOut s call was (Some c) None
  takes_none s call None c = refl
  takes_none s call (Some (Payload v)) c = refl
  takes_none s call (Some (below_at slot)) c = refl

-- a call that changes the current value is of a kind that may
change_may : {M : Type 0} (Granted : Type 0) (same : M → M → Bool) (op : Op M) (asking : Asking M) (at_key value : Option M) → IsChange same op asking at_key value → MayChange Granted same op at_key
change_may Granted same (Get k) asking at_key value change = absurd change
change_may Granted same (Insert k v) asking at_key value change = tt
change_may Granted same (Remove k) asking None value change = absurd change
change_may Granted same (Remove k) asking (Some old) value change = refl
change_may Granted same (ComputeIfPresent k) asking None value change = absurd change
change_may Granted same (ComputeIfPresent k) asking (Some old) value change = refl
change_may Granted same (ComputeOrInsert k v) asking at_key value change = tt
change_may Granted same (CompareExchange k old new) asking None value change = absurd change
change_may Granted same (CompareExchange k old new) asking (Some current) value change = change.1
change_may Granted same (Range a b n) asking at_key value change = absurd change

-- where a node comes, the entry is another one
pub changed_node : {M : Type 0} (same : M → M → Bool) (was : Option (Child M)) (slot : ℕ) → IsChanged same was (Some (below_at slot))
changed_node same None slot = tt
changed_node same (Some (Payload v)) slot = tt
changed_node same (Some (below_at s)) slot = tt

-- THE COURSE of a write to a node of its tail: the call names no other then, and remembers no word
pub write_course : {M : Type 0} (t t' : NodeMap M) (root : ℕ) (task : Task M) (env : Env M) (tail next : tails.Tail) (slot : ℕ) (out : Outcome M)
    → IsIn slot (named_in tail) → named_in next ≡ named_in tail → spots_in next ≡ [] → work_of t' (at (Tail next) (with_reply task)) < work_of t (at (Tail tail) task)
    → IsCourse t t' root (at (Tail tail) task) env (at (Tail next) (with_reply task)) (report_of kind.Write (Some slot) 0 true) out
write_course t t' root task env tail next slot out mine named remembered less = record {
  touches = λ z e make. inr (subst (λ (x : ℕ). IsIn x (named_in tail)) (some_same slot z e) mine);
  names = λ z h. inr (inl (subst (λ (n : List ℕ). IsIn z n) named h));
  reads = λ z h. absurd h;
  outline = refl;
  keeps = λ current z word h. absurd (none_some word (subst (λ (n : List (ℕ × ℕ)). lookup n z ≡ Some word) remembered h));
  falls = λ served. inr less;
}

-- THE DECISION. If `Granted` holds, a share is always granted. `same` compares two payloads.
module _ {M : Type 0} (Granted : Type 0) (same : M → M → Bool) (task : Task M) (tail : tails.Tail) (quiet : cleaning_in tail ≡ None) (pin : ℕ) (at_key : Option M) (w : WritesAtKey Granted same task at_key) where
  abbrev pub writing_call : CallState M
  writing_call = flight pin (at (Tail tail) task)

  abbrev pub writing_reply : Reply M
  writing_reply = reply_with task.outline at_key task.returns

  own_key : key_of w.opened.op ≡ key_of task.outline
  own_key = key_is w.opened.op task.outline w.opened.outline

  seen_stands : (m : Pairs M) → lookup m (key_of task.outline) ≡ at_key → lookup m (key_of w.opened.op) ≡ at_key
  seen_stands m there = ap (λ k. lookup m k) own_key ∙ there

  replied : (m : Pairs M) → lookup m (key_of task.outline) ≡ at_key
      → map_reply writing_reply ≡ reply_by same m (map_call w.opened.op) (map_asked w.opened.op (asked_of task.asking))
  replied m there =
      subst (λ (o : Outline). map_reply (reply_with o at_key task.returns) ≡ reply_by same m (map_call w.opened.op) (map_asked w.opened.op (asked_of task.asking))) w.opened.outline
      (change_replied same m w.opened.op task.asking at_key w.value task.returns w.change w.opened.returned (seen_stands m there))

  last_seen : SeesPayloads Granted same writing_call → lookup (seen_map writing_call) (key_of task.outline) ≡ at_key
  last_seen sees = alone_there (key_of task.outline) (seen_payload task.last) ∙ w.seen (subst (λ (c : Option Cleaning). SharesNone task.outline c → Granted) quiet sees)

  -- the reply is what the map's call replies with this current value
  pub replies : IsLocal Granted same writing_call writing_reply
  replies = record {
    op = w.opened.op;
    op_is = w.opened.op_is;
    undecided = w.opened.undecided;
    read = w.read;
    point = change_point same w.opened.op task.asking at_key w.value w.change;
    asked = λ sees. change_asked same (seen_map writing_call) w.opened.op task.asking at_key w.value w.change (seen_stands (seen_map writing_call) (last_seen sees));
    reply = λ sees. replied (seen_map writing_call) (last_seen sees);
  }

  -- so it may lock what it writes to
  pub may_lock : MayLock Granted same writing_call
  unfolding replies
  may_lock = inr (writing_reply, replies, (λ sees. subst (λ (x : Option M). MayChange Granted same w.opened.op x) (sym (w.seen (subst (λ (c : Option Cleaning). SharesNone task.outline c → Granted) quiet sees))) (change_may Granted same w.opened.op task.asking at_key w.value w.change)))

  -- the key has the value that the call stores, or none
  pub leads : (m : Pairs M) → lookup m (key_of task.outline) ≡ at_key → AppliesCall same m (with_answer m (key_of task.outline) w.value) writing_call writing_reply
  leads m there = record {
    op = w.opened.op;
    op_is = w.opened.op_is;
    asked = change_asked same m w.opened.op task.asking at_key w.value w.change (seen_stands m there);
    replied = replied m there;
    after = ap (λ k. with_answer m k w.value) (sym own_key) ∙ sym (change_after same m w.opened.op task.asking at_key w.value w.change (seen_stands m there));
  }

  pub becomes_of : (t t' : NodeMap M) (root : ℕ) (books books' : StoreCounts) → IsPlaced t root → IsPlaced t' root → key_of task.outline < 2 ^ 64 → StandsAt t (key_bytes task) at_key
      → AnswersPair t t' (key_of task.outline) w.value → books'.entries ≡ entries_after at_key w.value books.entries
      → (s s' : State M) → ShowsNodes t root s → ShowsNodes t' root s' → (m : Pairs M) → IsContent s m → IsOutcome Granted same s s' m writing_call (Decided writing_reply) books books'
  becomes_of t t' root books books' placed placed' small is answers entries s s' shows shows' m content =
      let there : lookup m (key_of task.outline) ≡ at_key = content_at t root s placed shows m content (key_of task.outline) at_key small is in
      record {
        content = with_answer m (key_of task.outline) w.value;
        content_is = content_answered t t' root s s' placed placed' shows shows' (key_of task.outline) w.value small answers m content;
        carries = leads m there;
        counted = λ e. entries ∙ counted_answer m (key_of task.outline) at_key w.value books.entries content.map there e;
      }

  -- THE WRITE at a held node: its entry is this now, or it has none there, and this is taken out
  pub writes_answer : (s s' : State M) (id : ℕ) (env : Env M) (next : CallState M) (books books' : StoreCounts) → IsAfter s s' id next books books' → books'.count ≡ books.count → books'.charge ≡ books.charge
      → (held : HeldNode s writing_call) (child : Option (Child M)) (gone : Option (ℕ × state.VersionedNode M))
      → s'.nodes ≡ emptied gone (linked writing_call.made (put s.nodes held.slot (changed writing_call held.node child)))
      → IsOwn writing_call child → IsChanged same (entry_below writing_call held.node) child → ((c : Child M) → child ≡ Some c → MayHave held.node.node.prefix c) → Fits held.node.node.form (length (changed writing_call held.node child).node.children)
      → TakesOut s writing_call (entry_below writing_call held.node) child gone
      → (left : Option Cleaning) → IsLeft None child (changed writing_call held.node child).node left
      → next ≡ record (settled progress.Decided (record writing_call { made = []; cleaning = left })) { remembered = next.remembered }
      → Among next.remembered writing_call.remembered
      → DoesAs Granted same s s' id writing_call env (report_of kind.Write (Some held.slot) 0 true) (Decided writing_reply) kind.Write
  writes_answer s s' id env next books books' after count charge held child gone nodes own changes shape fits takes left leaves is within =
      let count_is : books'.count ≡ s.count = count ∙ sym (ap (λ (b : StoreCounts). b.count) after.was) in
      let charge_is : books'.charge ≡ s.charge = charge ∙ sym (ap (λ (b : StoreCounts). b.charge) after.was) in (
        inl w.opened.undecided,
        record {
          held = held;
          child = child;
          gone = gone;
          entries = books'.entries;
          is = refl;
          own = own;
          changes = changes;
          cleans = λ c cleaning. absurd (none_some c (sym quiet ∙ cleaning));
          shape = shape;
          fits = fits;
          takes_out = takes;
          left = left;
          leaves = subst (λ (was : Option Cleaning). IsLeft was child (changed writing_call held.node child).node left) (sym quiet) leaves;
          reports = replies;
          becomes = record {
            next = next;
            is = is;
            remembered = within;
            after = after.is ∙ rw (nodes, count_is, charge_is) refl;
          };
        },
      )

  -- the same where a child comes
  pub writes_child : (s s' : State M) (id : ℕ) (env : Env M) (next : CallState M) (books books' : StoreCounts) → IsAfter s s' id next books books' → books'.count ≡ books.count → books'.charge ≡ books.charge
      → (held : HeldNode s writing_call) (c : Child M)
      → s'.nodes ≡ linked writing_call.made (put s.nodes held.slot (changed writing_call held.node (Some c)))
      → IsOwn writing_call (Some c) → IsChanged same (entry_below writing_call held.node) (Some c) → MayHave held.node.node.prefix c → Fits held.node.node.form (length (changed writing_call held.node (Some c)).node.children)
      → next ≡ record (settled progress.Decided (record writing_call { made = []; cleaning = None })) { remembered = next.remembered }
      → Among next.remembered writing_call.remembered
      → DoesAs Granted same s s' id writing_call env (report_of kind.Write (Some held.slot) 0 true) (Decided writing_reply) kind.Write
  writes_child s s' id env next books books' after count charge held c nodes own changes shape fits is within =
      writes_answer s s' id env next books books' after count charge held (Some c) None nodes own changes (λ d e. subst (λ (z : Child M). MayHave held.node.node.prefix z) (some_same c d e) shape) fits
      (takes_none s writing_call (entry_below writing_call held.node) c) None (λ may none. absurd (none_some c (sym none))) is within
