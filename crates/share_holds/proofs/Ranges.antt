-- A range enters no operation in a history, and its events leave its call running.
use Rattle.std.proofs.Common.{◌≡◌, ℕ, Bool, List, [], ◌++◌, subst}
use Rattle.std.specs.Prelude.{Option, Some, None}
use Rattle.atomic_table.specs.Table.{Me}
use Rattle.share_backend.specs.Stages.{operation_by}
use Rattle.share_backend.specs.declared.lent.CallStage.{CallStage}
use Rattle.share_backend.specs.declared.lent.CallStage.TheVariants.{Ready, Running, Denied}
use Rattle.share_holds.proofs.Last.{last_allowed}
use Rattle.share_holds.specs.Moments.{WasStored}
use Rattle.share_holds.specs.inner.Events.{AfterEvent, AfterFirst, KnowsOf}
use Rattle.share_rule.specs.History.{Entry, entry, operations_of}
use Rattle.share_rule.specs.inner.SeatView.{SeatView}
use Rattle.share_rule.specs.inner.Steps.{Made, caller_of, seen_of}
use Rattle.spec_map.specs.Legal.{IsLegal}
use Rattle.spec_map.specs.Refusal.{never}
use Rattle.spec_map.specs.Call.{ranged}
use Rattle.spec_olc.specs.Calls.{asked_of, map_reply}
use Rattle.spec_olc.specs.Meaning.{in_some, meant_reply, outcome_of}
use Rattle.spec_olc.specs.declared.types.Asking.{Asking}
use Rattle.spec_olc.specs.declared.types.Asking.TheVariants.{Fresh, Wants}
use Rattle.spec_olc.specs.declared.types.Kind.{Kind}
use Rattle.spec_olc.specs.declared.types.Op.TheVariants.{Range}
use Rattle.spec_olc.specs.declared.types.Outcome.{Outcome}
use Rattle.spec_olc.specs.declared.types.Outcome.TheVariants.{Going, Ask, Pair, Decided, Refused, Done, Unknown}
use Rattle.spec_olc.specs.declared.types.Reply.{Reply}
use Rattle.spec_olc.specs.declared.types.Reply.TheVariants.{Old, Computed, Exchanged}

not_ranged : {T : Type 0} (reply : Reply T) (pairs : List (ℕ × T)) → map_reply reply ≡ ranged pairs → ⊥
not_ranged (Old before) pairs e = cc
not_ranged (Computed both) pairs e = cc
not_ranged (Exchanged r) pairs e = cc

module _ {P T S : Type 0} (meaning : P → T) (same : T → T → Bool) (id a b n : ℕ) (m m' : Me (Option S) (SeatView T (CallStage T) S)) where
  abbrev Runs : Asking T → Type 0
  Runs s = KnowsOf (Some (id, Running (Range a b n) (Range a b n) s)) m m'

  no_operation : (asked : Option (Option T × Option T)) (reply : Reply T) → Made same m (operation_by (Range a b n) asked reply) m' → ⊥
  no_operation asked reply h =
      let w = last_allowed same [] (seen_of m.0 ++ h.between) (entry (caller_of m.0) (operation_by (Range a b n) asked reply)) h.legal.0
      (subst (λ (l : List (Entry T)). IsLegal same never [] (operations_of l) h.legal.0) h.seen h.legal.1)
      in
      not_ranged reply _ w.1.1

  -- the first event
  pub begun : (out : Outcome P) → AfterFirst id (Range a b n) same (Range a b n) (outcome_of meaning out) m m' → (s : Asking T) × Runs s
  begun Going t = (Fresh, t)
  begun (Ask old) t = (Wants (in_some meaning old), t)
  begun (Pair key value) t = absurd t
  begun (Decided reply) t = absurd (no_operation None (meant_reply meaning reply) t.made)
  begun Refused t = absurd t
  begun Done t = absurd t
  begun Unknown t = absurd t

  -- an event of a running one
  module _ (out : Outcome P) (s : Asking T) (answer : Option T) (k : Kind) (after : AfterEvent id (Range a b n) same (Range a b n) s answer k (outcome_of meaning out) m m') where
    abbrev After : Outcome P → Type 0
    After o = AfterEvent id (Range a b n) same (Range a b n) s answer k (outcome_of meaning o) m m'

    pub going_range : out ≡ Going → (t : Asking T) × Runs t
    going_range e = let w = subst After e after in (w.0, w.3)

    pub pair_range : (key : ℕ) (value : P) → out ≡ Pair key value → (t : Asking T) × Runs t
    pair_range key value e = (subst After e after).1

    -- the pair was stored
    pub pair_stored : (key : ℕ) (value : P) → out ≡ Pair key value → WasStored same (seen_of m.0) key (meaning value)
    pair_stored key value e = (subst After e after).2

    pub asked_range : (old : Option P) → out ≡ Ask old → (t : Asking T) × Runs t
    asked_range old e = (Wants (in_some meaning old), subst After e after)

    pub refused_range : out ≡ Refused → KnowsOf (Some (id, Denied (Range a b n))) m m'
    refused_range e = subst After e after

    pub done_range : out ≡ Done → KnowsOf (Some (id, Ready)) m m'
    done_range e = (subst After e after).1

    pub unknown_range : out ≡ Unknown → KnowsOf (Some (id, Ready)) m m'
    unknown_range e = subst After e after

    pub undecided_range : (reply : Reply P) → out ≡ Decided reply → ⊥
    undecided_range reply e = no_operation (asked_of s) (meant_reply meaning reply) (subst After e after).made
