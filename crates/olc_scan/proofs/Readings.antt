-- A range after a Read.
use Rattle.std.proofs.Common.{◌≡◌, ◌≢◌, ℕ, ◌+◌, Bool, true, IsTrue, ◌↔◌, [], ◌∷◌, length, Option, Some, None, ◌⊎◌, inl, inr, refl, sym, subst, ap, ◌∙◌}
use Rattle.node_base.specs.Form.{Fits}
use Rattle.spec_node.specs.TableNode.{TableNode, Child}
use Rattle.spec_node.specs.declared.child.Child.TheVariants.{Payload, Node as below_at}
use Rattle.spec_olc.specs.Calls.{Outline}
use Rattle.spec_olc.specs.Kinds.{report_of}
use Rattle.spec_olc.specs.Local.{SharesNone, SeesPayloads, payload_in}
use Rattle.spec_olc.specs.Reading.{IsSeenOf, bound_at, child_for, first_from}
use Rattle.spec_olc.specs.declared.types.Env.{Env}
use Rattle.spec_olc.specs.declared.types.Kind.TheVariants as kind
use Rattle.spec_olc.specs.declared.types.Op.TheVariants.{Range}
use Rattle.spec_olc.specs.declared.types.Outcome.TheVariants.{Going, Refused}
use Rattle.spec_olc.specs.declared.types.Progress.TheVariants as progress
use Rattle.spec_olc.specs.declared.types.Seen.{Seen}
use Rattle.olc_state.specs.declared.stage.Spot.{Spot}
use Rattle.olc_state.specs.declared.stage.Task.{Task}
use Rattle.olc_state.specs.inner.Tables.{IsIn, IsPlaced}
use Rattle.olc_state.specs.inner.Tasks.{closed}
use Rattle.olc_state.specs.inner.World.{PlacedNode, NodeMap}
use Rattle.olc_state.proofs.Options.{none_some, some_same}
use Rattle.olc_state.proofs.Reaching.{one, seen_at}
use Rattle.olc_descend.proofs.Events.{read_refused, read_torn, read_whole}
use Rattle.olc_state.specs.declared.scan.RangeProgress.{RangeProgress}
use Rattle.olc_state.specs.declared.scan.Scan.TheVariants.{Read, Check, Finish}
use Rattle.olc_scan.specs.inner.Ranges.{IsAtNode, IsRanging, IsScanned, flight_on}
use Rattle.olc_scan.proofs.Steps.{spot_known}

module _ {M : Type 0} where
  exact_seen : (Q : Type 0) (c seen : Option (Child M)) → seen ≡ c → IsSeenOf Q c seen
  exact_seen Q None seen e = e
  exact_seen Q (Some (Payload v)) seen e = λ q. e
  exact_seen Q (Some (below_at s)) seen e = e

  -- what a range looks for in a node
  child_of_range : (o : Outline) (a b n cursor : ℕ) (node : TableNode M) → o ≡ Range a b n → child_for o cursor node ≡ first_from (bound_at cursor node.prefix) node.children
  child_of_range o a b n cursor node e = ap (λ (x : Outline). child_for x cursor node) e

range_shares : (o : Outline) (a b n : ℕ) → o ≡ Range a b n → SharesNone o None → ⊥
range_shares o a b n e shares = subst (λ (x : Outline). SharesNone x None) e shares

module _ {M : Type 0} (Granted : Type 0) (same : M → M → Bool) (t : NodeMap M) (root pin : ℕ) (task : Task M) (course : RangeProgress) (env : Env M) (placed : IsPlaced t root) (spot : Spot) (a : PlacedNode M) (here : t spot.slot ≡ Some a)
    (at : IsAtNode t pin task course spot) where
  -- after a Read
  abbrev looked : Seen M → Option M → Task M
  looked seen spare = record task { last = Some seen; spare = spare; question = None }

  at_next : (seen : Seen M) (spare : Option M) → IsAtNode t pin (looked seen spare) course spot
  at_next seen spare = record {
    ranging = record {
      start = at.ranging.start;
      end = at.ranging.end;
      limit = at.ranging.limit;
      outline = at.ranging.outline;
      op = at.ranging.op;
      undecided = at.ranging.undecided;
      fresh = at.ranging.fresh;
      order = at.ranging.order;
      small = at.ranging.small;
      most = at.ranging.most;
    };
    here = at.here;
    looks = at.looks;
  }

  touched : (slot : ℕ) → Some spot.slot ≡ Some slot → (slot ≡ root) ⊎ IsIn slot (spot.slot ∷ [])
  touched slot e = inr (inl (some_same spot.slot slot e))

  -- A TORN READ
  pub torn : (seen : Seen M) → env.torn ≡ seen → a.word ≢ spot.word
      → IsScanned Granted same t root pin task course (Read spot) env (looked seen None) course (Check spot) (report_of kind.Read (Some spot.slot) 0 true) Going
  torn seen is other =
      subst (λ (x : Seen M). IsScanned Granted same t root pin task course (Read spot) env (looked x None) course (Check spot) (report_of kind.Read (Some spot.slot) 0 true) Going) is
      (record {
        facts = (
          at_next env.torn None,
          record {
            seen = env.torn;
            is = refl;
            at_key = λ (b : PlacedNode M) (h : t spot.slot ≡ Some b) (e : b.word ≡ spot.word). absurd (other (ap (λ (z : PlacedNode M). z.word) (some_same a b (sym here ∙ h)) ∙ e));
          },
        );
        outline = refl;
        touches = touched;
        names = λ z h. inr (inl h);
        reads = λ z h. refl;
        keeps = λ z w h. inl h;
        leaves = λ m. refl;
        does = λ s id shows. read_torn Granted same s id (flight_on pin task course (Read spot)) env (inl at.ranging.undecided) spot.slot spot.word (one a) (seen_at t root s shows spot.slot a here) (spot_known spot) other;
      })

  module _ (word : a.word ≡ spot.word) where
    -- A READ of a node whose word is the remembered one
    pub whole : (seen : Seen M) (spare : Option M) → seen.child ≡ first_from (bound_at course.cursor a.node.prefix) a.node.children → spare ≡ payload_in seen.child
        → seen.count ≡ length a.node.children → (IsTrue seen.full ↔ (Fits a.node.form (length a.node.children + 1) → ⊥))
        → IsScanned Granted same t root pin task course (Read spot) env (looked seen spare) course (Check spot) (report_of kind.Read (Some spot.slot) 0 true) Going
    whole seen spare child kept count full =
        let r : IsRanging task course = at.ranging in
        let is : child_for task.outline course.cursor a.node ≡ first_from (bound_at course.cursor a.node.prefix) a.node.children = child_of_range task.outline r.start r.end r.limit course.cursor a.node r.outline in
        record {
          facts = (
            at_next seen spare,
            record {
              seen = seen;
              is = refl;
              at_key = λ (b : PlacedNode M) (h : t spot.slot ≡ Some b) (e : b.word ≡ spot.word).
                  subst (λ (z : PlacedNode M). (seen.child ≡ first_from (bound_at course.cursor z.node.prefix) z.node.children) × (spare ≡ payload_in seen.child)) (some_same a b (sym here ∙ h)) (child, kept);
            },
          );
          outline = refl;
          touches = touched;
          names = λ z h. inr (inl h);
          reads = λ z h. refl;
          keeps = λ z w h. inl h;
          leaves = λ m. refl;
          does = λ s id shows. read_whole Granted same s id (flight_on pin task course (Read spot)) env (inl r.undecided) spot.slot spot.word (one a) (seen_at t root s shows spot.slot a here) (spot_known spot) seen word
              (record { child = exact_seen (SeesPayloads Granted same (flight_on pin task course (Read spot))) _ seen.child (child ∙ sym is); count = count; full = full });
        }

    -- A READ whose share is refused
    pub unseen : (v : M) → first_from (bound_at course.cursor a.node.prefix) a.node.children ≡ Some (Payload v) → (Granted → ⊥)
        → IsScanned Granted same t root pin task course (Read spot) env (closed progress.Refused task) course Finish (report_of kind.Read (Some spot.slot) 0 true) Refused
    unseen v there granted =
        let r : IsRanging task course = at.ranging in
        record {
          facts = inl refl;
          outline = refl;
          touches = touched;
          names = λ z h. absurd h;
          reads = λ z h. absurd h;
          keeps = λ z w h. absurd (none_some w h);
          leaves = λ m. refl;
          does = λ s id shows. read_refused Granted same s id (flight_on pin task course (Read spot)) env (inl r.undecided) spot.slot spot.word (one a) (seen_at t root s shows spot.slot a here) (spot_known spot)
              v word (child_of_range task.outline r.start r.end r.limit course.cursor a.node r.outline ∙ there) (range_shares task.outline r.start r.end r.limit r.outline) granted r.undecided;
        }
