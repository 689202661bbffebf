-- The call after a Read on the way down of a cleanup.
use Rattle.std.proofs.Common.{◌≡◌, ◌≢◌, ℕ, ◌<◌, ◌≤◌, ◌⊎◌, Bool, true, List, length, Option, Some, None, inl, inr, refl, sym, subst, ap, ◌∙◌, arith}
use Rattle.spec_node.specs.Key.{next_byte}
use Rattle.spec_node.specs.TableNode.{TableNode, Child}
use Rattle.spec_node.specs.declared.child.Child.TheVariants.{Payload, Node as below_at}
use Rattle.spec_olc.specs.Calls.{bytes_of, key_of}
use Rattle.spec_olc.specs.Kinds.{report_of}
use Rattle.spec_olc.specs.Local.{SeesPayloads}
use Rattle.spec_olc.specs.Meaning.{child_of, in_some}
use Rattle.spec_olc.specs.Reading.{IsSeenOf}
use Rattle.spec_olc.specs.declared.types.Env.{Env}
use Rattle.spec_olc.specs.declared.types.Kind.TheVariants as kind
use Rattle.spec_olc.specs.declared.types.Outcome.TheVariants.{Going}
use Rattle.spec_olc.specs.declared.types.Seen.{Seen}
use Rattle.olc_state.specs.declared.cleanup.Cleanup.{Cleanup}
use Rattle.olc_state.specs.declared.cleanup.Seek.TheVariants.{Read, Check}
use Rattle.olc_state.specs.declared.stage.Path.{Path}
use Rattle.olc_state.specs.declared.stage.Record.{Record}
use Rattle.olc_state.specs.declared.stage.Stage.TheVariants as stage
use Rattle.olc_state.specs.declared.stage.Task.{Task}
use Rattle.olc_state.specs.inner.CleanupFacts.{IsSeeking}
use Rattle.olc_state.specs.inner.Facts.{Facts}
use Rattle.olc_state.specs.inner.Meant.{meant_node}
use Rattle.olc_state.specs.inner.Shown.{flight}
use Rattle.olc_state.specs.inner.Tables.{IsPlaced}
use Rattle.olc_state.specs.inner.TailFacts.{found}
use Rattle.olc_state.specs.inner.Tasks.{key_bytes, CleansUp}
use Rattle.olc_state.specs.inner.Turns.{IsCourse, IsRead}
use Rattle.olc_state.specs.inner.World.{NodeMap, PlacedNode}
use Rattle.olc_state.proofs.Options.{none_some, some_same}
use Rattle.olc_state.proofs.Ways.{payload_below, slots_same}
use Rattle.olc_state.proofs.Reaching.{one, seen_at}
use Rattle.olc_state.proofs.Records.{at}
use Rattle.olc_descend.specs.inner.Looked.{HasPayload, IsFull}
use Rattle.olc_descend.proofs.Checks.{child_point}
use Rattle.olc_descend.proofs.Courses.{still_current}
use Rattle.olc_descend.proofs.Looks.{child_means}
use Rattle.olc_descend.proofs.Events.{read_torn, read_whole}
use Rattle.olc_descend.proofs.Spots.{here_known}
use Rattle.olc_seek.specs.declared.checking.Found.TheVariants.{Nothing}
use Rattle.olc_seek.specs.inner.Sought.{IsFound, IsSought, under}

module _ {M : Type 0} where
  exact_seen : (Q : Type 0) (c seen : Option (Child M)) → seen ≡ c → IsSeenOf Q c seen
  exact_seen Q None seen e = e
  exact_seen Q (Some (Payload v)) seen e = λ q. e
  exact_seen Q (Some (below_at s)) seen e = e

  seen_if : (Q R : Type 0) → (R → Q) → (c seen : Option (Child M)) → IsSeenOf Q c seen → IsSeenOf R c seen
  seen_if Q R f None seen is = is
  seen_if Q R f (Some (Payload v)) seen is = λ r. is (f r)
  seen_if Q R f (Some (below_at s)) seen is = is

  -- the child was reported
  pub sought_shared : (Granted : Type 0) (a : TableNode M) (k : List ℕ) (s : Seen M) → s.child ≡ under a k → s.count ≡ length a.children → IsFull a.form (length a.children) s.full → IsSought Granted a k s
  sought_shared Granted a k s child count full = record { child = exact_seen Granted (under a k) s.child child; count = count; full = full }

  -- a share of the payload was refused
  pub sought_none : (Granted : Type 0) (a : TableNode M) (k : List ℕ) (s : Seen M) → (Granted → ⊥) → HasPayload (under a k) → s.count ≡ length a.children → IsFull a.form (length a.children) s.full → IsSought Granted a k s
  sought_none Granted a k s granted payload count full = record {
    child = subst (λ (x : Option (Child M)). IsSeenOf Granted x s.child) (sym payload.1) (λ (g : Granted). absurd (granted g));
    count = count;
    full = full;
  }

module _ {M : Type 0} (Granted : Type 0) (same : M → M → Bool) (t : NodeMap M) (root pin : ℕ) (task : Task M) (c : Cleanup) (env : Env M) (placed : IsPlaced t root) (path : Path) (a : PlacedNode M) (here : t path.here.slot ≡ Some a)
    (facts : Facts Granted same t root pin (at (stage.Seek c (Read path)) task)) where
  abbrev before : Record M
  before = at (stage.Seek c (Read path)) task

  abbrev saw : Seen M → Task M
  saw seen = record task { last = Some seen }

  abbrev after : Seen M → Record M
  after seen = at (stage.Seek c (Check path)) (saw seen)

  -- it is where it was, and knows the slots and words that it knew
  seeks_on : (seen : Seen M) → IsSeeking t root pin (saw seen) c path
  seeks_on seen =
      let f = facts.at in
      record {
        cleans = record { decided = f.cleans.decided; op = f.cleans.op; fresh = f.cleans.fresh; point = f.cleans.point; removes = f.cleans.removes; below_root = f.cleans.below_root; short = f.cleans.short };
        on = f.on;
        within = f.within;
      }

  read_course : (seen : Seen M) → IsCourse t t root before env (after seen) (report_of kind.Read (Some path.here.slot) 0 true) Going
  read_course seen = record {
    touches = λ z e make. inr (inl (some_same path.here.slot z e));
    names = λ z h. inr (inl h);
    reads = λ z h. refl;
    outline = refl;
    keeps = still_current t (stage.Seek c (Read path)) (stage.Seek c (Check path)) (λ z w h. h);
    falls = λ point. inr (omega arith);
  }

  -- A TORN READ
  pub torn_read : (torn : Seen M) → env.torn ≡ torn → a.word ≢ path.here.word
      → IsRead Granted same t root pin before env (after torn) (report_of kind.Read (Some path.here.slot) 0 true) Going
  torn_read torn is other =
      let gone : (b : PlacedNode M) → t path.here.slot ≡ Some b → b.word ≡ path.here.word → ⊥ = λ b h e. other (ap (λ (z : PlacedNode M). z.word) (some_same a b (sym here ∙ h)) ∙ e) in
      subst (λ (x : Seen M). IsRead Granted same t root pin before env (after x) (report_of kind.Read (Some path.here.slot) 0 true) Going) is
      (record {
        facts = record { small = facts.small; at = (seeks_on env.torn, record { seen = env.torn; is = refl; child = λ b h e. absurd (gone b h e) }) };
        held = refl;
        made = refl;
        course = read_course env.torn;
        does = λ s id shows. read_torn Granted same s id (flight pin before) env (inr (facts.at.cleans.decided, refl)) path.here.slot path.here.word (one a) (seen_at t root s shows path.here.slot a here) (here_known path) other;
        carries = λ s shows m content. refl;
      })

  -- A READ OF A NODE whose word is the remembered one
  pub whole_read : (seen : Seen M) → a.word ≡ path.here.word → IsSought Granted a.node (key_bytes task) seen
      → IsRead Granted same t root pin before env (after seen) (report_of kind.Read (Some path.here.slot) 0 true) Going
  whole_read seen word sought =
      let cleans : CleansUp task c = facts.at.cleans in
      let call = flight pin before in
      let child : IsSeenOf Granted (found a (key_bytes task)) seen.child = sought.child in
      let shown : IsSeenOf (SeesPayloads Granted same call) (found a (key_bytes task)) seen.child = seen_if Granted (SeesPayloads Granted same call) (λ sees. sees tt) (found a (key_bytes task)) seen.child child in
      record {
        facts = record {
          small = facts.small;
          at = (
            seeks_on seen,
            record {
              seen = seen;
              is = refl;
              child = λ (b : PlacedNode M) (h : t path.here.slot ≡ Some b) (e : b.word ≡ path.here.word).
                  subst (λ (z : PlacedNode M). IsSeenOf Granted (found z (key_bytes task)) seen.child) (some_same a b (sym here ∙ h)) child;
            },
          );
        };
        held = refl;
        made = refl;
        course = read_course seen;
        does = λ s id shows. read_whole Granted same s id call env (inr (cleans.decided, refl)) path.here.slot path.here.word (one a) (seen_at t root s shows path.here.slot a here) (here_known path) seen word
            (record { child = subst (λ (x : Option (Child M)). IsSeenOf (SeesPayloads Granted same call) x seen.child) (sym (child_point task.outline cleans.point (key_of task.outline) a.node)) shown; count = sought.count; full = sought.full });
        carries = λ s shows m content. refl;
      }

-- that there is no node to clean up, with payloads replaced by their meanings
module _ {P M : Type 0} (meaning : P → M) (a : TableNode P) where
  node_means : (c : Option (Child P)) (slot : ℕ) → in_some (child_of meaning) c ≡ Some (below_at slot) → c ≡ Some (below_at slot)
  node_means None slot e = absurd (none_some (below_at slot) e)
  node_means (Some (Payload v)) slot e = absurd (payload_below (meaning v) slot (sym e))
  node_means (Some (below_at s)) slot e = ap (λ (z : ℕ). Some (below_at z)) (slots_same s slot e)

  pub nothing_means : (key other depth : ℕ) (path : Path) → key ≡ other → IsFound a (bytes_of key) depth path Nothing
      → ((depth ≤ length a.prefix) × (path.above ≡ None)) ⊎ ((length a.prefix < depth) × ((slot : ℕ) → under (meant_node meaning a) (bytes_of other) ≢ Some (below_at slot)))
  nothing_means key other depth path same nothing = elim nothing [
    | inl top ↦ inl top
    | inr none ↦ inr (none.0, (λ slot e. none.1 slot (node_means (under a (bytes_of key)) slot (sym (child_means meaning a (next_byte a.prefix (bytes_of key))) ∙ subst (λ (k : ℕ). under (meant_node meaning a) (bytes_of k) ≡ Some (below_at slot)) (sym same) e))))
  ]
