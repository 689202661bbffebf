-- The call after a Read.
use Rattle.std.proofs.Common.{◌≡◌, ◌≢◌, ℕ, Bool, true, List, [], ◌∷◌, length, Option, Some, None, Result, Ok, Err, IfErr, inl, inr, refl, sym, subst, ap, ◌∙◌, arith}
use Rattle.std.proofs.lemmas.Bool.Decides.{eqb_tells}
use Rattle.spec_map.specs.Map.{lookup}
use Rattle.spec_node.specs.Key.{next_byte}
use Rattle.spec_node.specs.TableNode.{TableNode, Child}
use Rattle.spec_node.specs.declared.child.Child.TheVariants.{Payload, Node as below_at}
use Rattle.node_table.specs.inner.Kinds.{mapped}
use Rattle.spec_olc.specs.Calls.{Outline, IsPoint, bytes_of, key_of}
use Rattle.spec_olc.specs.Kinds.{report_of}
use Rattle.spec_olc.specs.Local.{SharesNone, payload_in}
use Rattle.spec_olc.specs.Meaning.{in_some, child_of}
use Rattle.spec_olc.specs.Reading.{IsSeenOf, child_for}
use Rattle.spec_olc.specs.declared.types.Env.{Env}
use Rattle.spec_olc.specs.declared.types.Kind.TheVariants as kind
use Rattle.spec_olc.specs.declared.types.Outcome.{Outcome}
use Rattle.spec_olc.specs.declared.types.Outcome.TheVariants.{Going, Refused}
use Rattle.spec_olc.specs.declared.types.Progress.{Progress}
use Rattle.spec_olc.specs.declared.types.Seen.{Seen}
use Rattle.olc_state.specs.declared.stage.Path.{Path}
use Rattle.olc_state.specs.declared.stage.Record.{Record}
use Rattle.olc_state.specs.declared.stage.Stage.TheVariants.{Read, Check}
use Rattle.olc_state.specs.declared.stage.Task.{Task}
use Rattle.olc_state.specs.inner.Effects.{HasClosure}
use Rattle.olc_state.specs.inner.Tables.{IsPlaced}
use Rattle.olc_state.specs.inner.Tasks.{Agrees}
use Rattle.olc_state.specs.inner.Facts.{Facts}
use Rattle.olc_state.specs.inner.Meant.{meant_node}
use Rattle.olc_state.specs.inner.Shown.{flight}
use Rattle.olc_state.specs.inner.Turns.{IsCourse, IsRead, cleanup_work}
use Rattle.olc_state.specs.inner.World.{PlacedNode, NodeMap}
use Rattle.olc_state.proofs.Options.{none_some, some_same}
use Rattle.olc_state.proofs.Reaching.{one, seen_at}
use Rattle.olc_state.proofs.Unlike.{refused_open}
use Rattle.olc_state.proofs.Records.{at}
use Rattle.olc_descend.specs.inner.Looked.{HasPayload, IsFull, IsLooking, IsUnseen, IsWholeRead, SeesAll, refused_task}
use Rattle.olc_descend.proofs.Checks.{child_point, closure_shares}
use Rattle.olc_descend.proofs.Courses.{forgets, still_current}
use Rattle.olc_descend.proofs.Events.{read_whole, read_torn, read_refused}
use Rattle.olc_descend.proofs.Spots.{here_known}

lookup-mapped : {C D : Type 0} (f : C → D) (es : List (ℕ × C)) (k : ℕ) → lookup (mapped f es) k ≡ in_some f (lookup es k)
lookup-mapped f [] k = refl
lookup-mapped f (e ∷ es) k =
    elim (eqb_tells e.0 k) [
      | inl is ↦ rw is.0 refl
      | inr off ↦ rw off.0 (lookup-mapped f es k)
    ]

pub length-meant : {C D : Type 0} (f : C → D) (es : List (ℕ × C)) → length (mapped f es) ≡ length es
length-meant f [] = refl
length-meant f (e ∷ es) = omega (arith, length-meant f es)

-- a child that has a payload has one when its payload is replaced by its meaning
pub payload_means : {P M : Type 0} (meaning : P → M) (c : Option (Child P)) → HasPayload c → HasPayload (in_some (child_of meaning) c)
payload_means meaning c h = (meaning h.0, ap (in_some (child_of meaning)) h.1)

-- the child under a byte, with payloads replaced by their meanings
pub child_means : {P M : Type 0} (meaning : P → M) (a : TableNode P) (k : ℕ) → lookup (meant_node meaning a).children k ≡ in_some (child_of meaning) (lookup a.children k)
child_means meaning a k = lookup-mapped (child_of meaning) a.children k

pub found_means : {P M : Type 0} (meaning : P → M) (a : TableNode P) (o : Outline) (k : ℕ) (x : Option (Child P)) → x ≡ lookup a.children (next_byte a.prefix (bytes_of k)) → k ≡ key_of o
    → lookup (meant_node meaning a).children (next_byte (meant_node meaning a).prefix (bytes_of (key_of o))) ≡ in_some (child_of meaning) x
found_means meaning a o k x found key =
    child_means meaning a (next_byte a.prefix (bytes_of (key_of o)))
    ∙ ap (in_some (child_of meaning)) (ap (λ (z : ℕ). lookup a.children (next_byte a.prefix (bytes_of z))) (sym key) ∙ sym found)

-- the count of the children, and that there is no room for more
pub count_means : {P M : Type 0} (meaning : P → M) (a : TableNode P) (count : ℕ) → count ≡ length a.children → count ≡ length (meant_node meaning a).children
count_means meaning a count e = e ∙ sym (length-meant (child_of meaning) a.children)

pub full_means : {P M : Type 0} (meaning : P → M) (a : TableNode P) (full : Bool) → IsFull a.form (length a.children) full → IsFull a.form (length (meant_node meaning a).children) full
full_means meaning a full h = subst (λ (n : ℕ). IsFull a.form n full) (sym (length-meant (child_of meaning) a.children)) h

pub if_err : {A E : Type 0} (Q : Type 0) (r : Result A E) → Q → IfErr r (λ e. Q)
if_err Q (Ok x) q = tt
if_err Q (Err e) q = q

module _ {M : Type 0} where
  exact_seen : (Q : Type 0) (c seen : Option (Child M)) → seen ≡ c → IsSeenOf Q c seen
  exact_seen Q None seen e = e
  exact_seen Q (Some (Payload v)) seen e = λ q. e
  exact_seen Q (Some (below_at s)) seen e = e

none_below : {M : Type 0} (slot : ℕ) → let c : Child M = below_at slot in None ≡ Some c → ⊥
none_below slot e = none_some (below_at slot) e

module _ {M : Type 0} (Granted : Type 0) (same : M → M → Bool) (a : TableNode M) (o : Outline) (point : IsPoint o) (c : Option (Child M)) (there : lookup a.children (next_byte a.prefix (bytes_of (key_of o))) ≡ c)
    (s : Seen M) (spare question : Option M) (count : s.count ≡ length a.children) (full : IsFull a.form (length a.children) s.full) where
  child_is : child_for o (key_of o) a ≡ c
  child_is = child_point o point (key_of o) a ∙ there

  -- the payload was shared
  pub looks_shared : s.child ≡ c → spare ≡ payload_in c → (HasClosure o → question ≡ payload_in c) → IsLooking Granted same a o s spare question
  looks_shared child kept asks = record {
    child = exact_seen (SeesAll Granted o) (child_for o (key_of o) a) s.child (child ∙ sym child_is);
    count = count;
    full = full;
    kept = λ sees. kept ∙ ap payload_in (sym child);
    asks = λ h. asks h ∙ ap payload_in (sym child);
    below = λ slot e. child_is ∙ (sym child ∙ e);
  }

  -- a call that shares nothing leaves the child unseen
  pub looks_open : SharesNone o None → (Granted → ⊥) → HasPayload c → s.child ≡ None → IsLooking Granted same a o s spare question
  looks_open shares granted payload none = record {
    child = subst (λ (x : Option (Child M)). IsSeenOf (SeesAll Granted o) x s.child) (sym (child_is ∙ payload.1)) (λ (sees : SeesAll Granted o). absurd (granted (sees shares)));
    count = count;
    full = full;
    kept = λ sees. absurd (granted (sees shares));
    asks = λ h. absurd (closure_shares o h shares);
    below = λ slot e. absurd (none_below slot (sym none ∙ e));
  }

module _ {M : Type 0} (Granted : Type 0) (same : M → M → Bool) (a : TableNode M) (o : Outline) (point : IsPoint o) (c : Option (Child M)) (there : lookup a.children (next_byte a.prefix (bytes_of (key_of o))) ≡ c) where
  pub looks_refused : (SharesNone o None → ⊥) → (Granted → ⊥) → HasPayload c → IsUnseen Granted same a o
  looks_refused shares granted payload = record {
    payload = (payload.0, child_point o point (key_of o) a ∙ there ∙ payload.1);
    shares = shares;
    granted = granted;
  }

module _ {M : Type 0} (Granted : Type 0) (same : M → M → Bool) (t : NodeMap M) (root pin : ℕ) (task : Task M) (env : Env M) (placed : IsPlaced t root) (path : Path) (a : PlacedNode M)
    (here : t path.here.slot ≡ Some a) (facts : Facts Granted same t root pin (at (Read path) task)) where
  -- the call knows the slots and words that it knew before
  read_course : (next : Task M) (out : Outcome M) → next.outline ≡ task.outline → next.progress ≡ task.progress → IsCourse t t root (at (Read path) task) env (at (Check path) next) (report_of kind.Read (Some path.here.slot) 0 true) out
  read_course next out same progressed = record {
    touches = λ z e make. inr (inl (some_same path.here.slot z e));
    names = λ z h. inr (inl h);
    reads = λ z h. refl;
    outline = same;
    keeps = still_current t (Read path) (Check path) (λ z w h. h);
    falls = λ served. inr (
        let alike : cleanup_work next.progress next.outline ≡ cleanup_work task.progress task.outline = ap (λ (o : Outline). cleanup_work next.progress o) same ∙ ap (λ (p : Progress). cleanup_work p task.outline) progressed in
        omega (arith, alike));
  }

  pub torn_read : (torn : Seen M) → env.torn ≡ torn → a.word ≢ path.here.word
      → IsRead Granted same t root pin (at (Read path) task) env (at (Check path) (record task { last = Some torn; spare = None; question = None })) (report_of kind.Read (Some path.here.slot) 0 true) Going
  torn_read torn is other =
      let f = facts.at in
      let gone : (b : PlacedNode M) → t path.here.slot ≡ Some b → b.word ≡ path.here.word → ⊥ = λ b h e. other (ap (λ (z : PlacedNode M). z.word) (some_same a b (sym here ∙ h)) ∙ e) in
      subst (λ (x : Seen M). IsRead Granted same t root pin (at (Read path) task) env (at (Check path) (record task { last = Some x; spare = None; question = None })) (report_of kind.Read (Some path.here.slot) 0 true) Going) is
      (record {
        facts = record {
          small = facts.small;
          at = (
            record { opened = record { undecided = f.0.opened.undecided; op = f.0.opened.op; op_is = f.0.opened.op_is; outline = f.0.opened.outline; point = f.0.opened.point; returned = f.0.opened.returned }; fresh = f.0.fresh },
            f.1,
            record { seen = env.torn; is = refl; agrees = λ b h e. absurd (gone b h e) },
          );
        };
        held = refl;
        made = refl;
        course = read_course _ _ refl refl;
        does = λ s id shows. read_torn Granted same s id (flight pin (at (Read path) task)) env (inl f.0.opened.undecided) path.here.slot path.here.word (one a) (seen_at t root s shows path.here.slot a here) (here_known path) other;
        carries = λ s shows m content. refl;
      })

  module _ (word : a.word ≡ path.here.word) where
    whole : (seen : Seen M) (spare question : Option M) → IsLooking Granted same a.node task.outline seen spare question
        → IsRead Granted same t root pin (at (Read path) task) env (at (Check path) (record task { last = Some seen; spare = spare; question = question })) (report_of kind.Read (Some path.here.slot) 0 true) Going
    whole seen spare question looks =
        let f = facts.at in
        let next : Task M = record task { last = Some seen; spare = spare; question = question } in
        let agrees : Agrees Granted same next (Check path) pin a seen = record {
          reading = record { child = looks.child; count = looks.count; full = looks.full };
          spare = looks.kept;
          question = looks.asks;
          below = looks.below;
        } in
        record {
          facts = record {
            small = facts.small;
            at = (
              record { opened = record { undecided = f.0.opened.undecided; op = f.0.opened.op; op_is = f.0.opened.op_is; outline = f.0.opened.outline; point = f.0.opened.point; returned = f.0.opened.returned }; fresh = f.0.fresh },
              f.1,
              record {
                seen = seen;
                is = refl;
                agrees = λ (b : PlacedNode M) (h : t path.here.slot ≡ Some b) (e : b.word ≡ path.here.word).
                    subst (λ (z : PlacedNode M). Agrees Granted same next (Check path) pin z seen) (some_same a b (sym here ∙ h)) agrees;
              },
            );
          };
          held = refl;
          made = refl;
          course = read_course _ _ refl refl;
          does = λ s id shows. read_whole Granted same s id (flight pin (at (Read path) task)) env (inl f.0.opened.undecided) path.here.slot path.here.word (one a) (seen_at t root s shows path.here.slot a here) (here_known path)
              seen word (record { child = looks.child; count = looks.count; full = looks.full });
          carries = λ s shows m content. refl;
        }

    unseen : IsUnseen Granted same a.node task.outline
        → IsRead Granted same t root pin (at (Read path) task) env (refused_task Granted same task) (report_of kind.Read (Some path.here.slot) 0 true) Refused
    unseen denied =
        let f = facts.at in
        record {
          facts = record { small = facts.small; at = refused_open };
          held = refl;
          made = refl;
          course = forgets t (inr (inl refl)) (λ z h. h) (λ z h. h) refl refl (λ served. inr (omega arith));
          does = λ s id shows. read_refused Granted same s id (flight pin (at (Read path) task)) env (inl f.0.opened.undecided) path.here.slot path.here.word (one a) (seen_at t root s shows path.here.slot a here) (here_known path)
              denied.payload.0 word denied.payload.1 denied.shares denied.granted f.0.opened.undecided;
          carries = λ s shows m content. refl;
        }

    -- a Read of a node whose word is the remembered one
    pub whole_or_refused : (next : Record M) (out : Outcome M) → IsWholeRead Granted same a.node path task next out
        → IsRead Granted same t root pin (at (Read path) task) env next (report_of kind.Read (Some path.here.slot) 0 true) out
    whole_or_refused next Going h =
        subst (λ (n : Record M). IsRead Granted same t root pin (at (Read path) task) env n (report_of kind.Read (Some path.here.slot) 0 true) Going) (sym h.is) (whole h.seen h.spare h.question h.looking)
    whole_or_refused next Refused h =
        subst (λ (n : Record M). IsRead Granted same t root pin (at (Read path) task) env n (report_of kind.Read (Some path.here.slot) 0 true) Refused) (sym h.1) (unseen h.0)
    whole_or_refused next out h = absurd h
