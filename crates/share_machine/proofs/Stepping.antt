-- How a step of the machine changes the number of pairs, by the call and its reply.
use Rattle.std.proofs.Common.{◌≡◌, ◌≢◌, ℕ, ◌+◌, ◌≤◌, ◌^◌, Bool, length, Option, Some, None, inl, inr, sym, subst, ap, ◌∙◌, arith}
use Rattle.std.proofs.lemmas.Bool.{cases_eq}
use Rattle.spec_map.specs.Legal.{after}
use Rattle.spec_map.specs.Map.{Pairs, lookup}
use Rattle.spec_olc.specs.Calls.{map_call, outline_of}
use Rattle.spec_olc.specs.Content.{IsContent}
use Rattle.spec_olc.specs.Deciding.{IsContentStep, AppliesCall}
use Rattle.spec_olc.specs.Kinds.{IsStep}
use Rattle.spec_olc.specs.Local.{answers}
use Rattle.spec_olc.specs.Meaning.{flight_of, meant, outcome_of}
use Rattle.spec_olc.specs.Meaning as meaning
use Rattle.spec_olc.specs.Seats.{IsHanded}
use Rattle.spec_olc.specs.State.{State, CallState}
use Rattle.spec_olc.specs.WellFormed.{IsWellFormed}
use Rattle.spec_olc.specs.declared.types.Env.{Env}
use Rattle.spec_olc.specs.declared.types.Op.{Op}
use Rattle.spec_olc.specs.declared.types.Op.TheVariants.{Get, Insert, Remove, ComputeIfPresent, ComputeOrInsert, CompareExchange, Range}
use Rattle.spec_olc.specs.declared.types.Outcome.{Outcome}
use Rattle.spec_olc.specs.declared.types.Outcome.TheVariants.{Going, Ask, Pair, Decided, Refused, Done, Unknown}
use Rattle.spec_olc.specs.declared.types.Reply.{Reply}
use Rattle.spec_olc.specs.declared.types.Reply.TheVariants.{Old, Computed, Exchanged}
use Rattle.spec_olc.specs.declared.types.Report.{Report}
use Rattle.node_table.proofs.KindLaws.{lookup-mapped_some}
use Rattle.olc_machine.specs.Whole.{AllHaveTheirOps, HasItsOp}
use Rattle.share_backend.specs.Changing.{added, taken, change_of, reply_in, Counts, IsReply, IsReplyTo}
use Rattle.share_backend.specs.declared.change.Change.{Change}
use Rattle.share_backend.specs.declared.change.Change.TheVariants.{Same}
use Rattle.share_backend.proofs.Counting.{counts, replies, by_outline, to_outline, of_outline, change_alike, reply_alike}
use Rattle.share_machine.proofs.Deciding.{decided_local}

some_same : {X : Type 0} (x y : X) → Some x ≡ Some y → x ≡ y
some_same x y e = cc

-- how an event changes the number of pairs, whether it fixes a reply or not
abbrev pub change_by : {P : Type 0} → Op P → Option (Reply P) → Change
change_by op None = Same
change_by op (Some reply) = change_of op reply

pub counts_by : {P : Type 0} (op : Op P) (reply : Option (Reply P)) (n m : ℕ) → m + taken (change_by op reply) ≡ n + added (change_by op reply) → m ≤ 2 ^ 64 → IsReply op reply → Counts op reply n m
counts_by op None n m e small fits = omega (arith, e)
counts_by op (Some reply) n m e small fits = (e, small, fits)

-- ONE STEP of a machine.
module _ {P M : Type 0} (means : P → M) (Granted : Type 0) (same : M → M → Bool) (old new : State P) (id : ℕ) (op : Op P) (env : Env M) (report : Report)
    (handed : IsHanded old id op) (m : Pairs M) (before : IsContent (meant means old) m) (counted : old.entries ≡ length m)
    (formed : IsWellFormed (meant means new)) (whole : AllHaveTheirOps (meant means old)) where
  -- the call of the number, with payloads replaced by their meanings
  meant_flight : lookup (meant means old).calls id ≡ Some (flight_of means handed.call)
  meant_flight = lookup-mapped_some (flight_of means) old.calls id handed.call handed.in_flight

  module _ (reply : Reply P) (step : IsStep Granted same (meant means old) (meant means new) id env report (Decided (meaning.meant_reply means reply)))
      (carried : IsContentStep same m (meant means old) (meant means new) id (Decided (meaning.meant_reply means reply))) where
    leads : AppliesCall same m carried.content carried.call (meaning.meant_reply means reply)
    leads = carried.carries

    -- the decided call has the kind and keys of the one handed over
    outline_is : outline_of leads.op ≡ outline_of op
    outline_is =
        let local = decided_local Granted same (meant means old) (meant means new) id step.call env report (meaning.meant_reply means reply) report.kind step.event in
        let same_call : step.call ≡ carried.call = some_same step.call carried.call (sym step.in_flight ∙ carried.in_flight) in
        let w : HasItsOp carried.call = whole id carried.call carried.in_flight (subst (λ (c : CallState M). c.progress ≡ _) same_call local.undecided) in
        let its : w.op ≡ leads.op = some_same w.op leads.op (sym w.op_is ∙ leads.op_is) in
        let call_is : carried.call ≡ flight_of means handed.call = some_same carried.call (flight_of means handed.call) (sym carried.in_flight ∙ meant_flight) in
        ap outline_of (sym its) ∙ (w.outline ∙ (ap (λ (c : CallState M). c.outline) call_is ∙ sym handed.same))

    changes : change_of leads.op (meaning.meant_reply means reply) ≡ change_of op reply
    changes =
        by_outline leads.op (meaning.meant_reply means reply)
        ∙ (ap (λ o. change_of o (meaning.meant_reply means reply)) outline_is
        ∙ (sym (by_outline op (meaning.meant_reply means reply)) ∙ change_alike means op reply))

    pub decided_counts : new.entries + taken (change_of op reply) ≡ old.entries + added (change_of op reply)
    decided_counts =
        let c = counts same m (answers carried.call leads.op) leads.op (meaning.meant_reply means reply) before.map leads.asked leads.replied in
        let now : new.entries ≡ length carried.content = formed.counted carried.content carried.content_is in
        let grown : length carried.content ≡ length (after same m (map_call leads.op) (answers carried.call leads.op)) = ap (λ (x : Pairs M). length x) leads.after in
        subst (λ x. new.entries + taken x ≡ old.entries + added x) changes (omega (arith, c, now, grown, counted))

    pub decided_fits : IsReplyTo op reply
    decided_fits =
        let r = replies same m (answers carried.call leads.op) leads.op (meaning.meant_reply means reply) leads.replied in
        reply_alike means op reply
        (of_outline op (meaning.meant_reply means reply) (subst (λ o. IsReplyTo o (meaning.meant_reply means reply)) outline_is (to_outline leads.op (meaning.meant_reply means reply) r)))

  same_counts : (content : Pairs M) → IsContent (meant means new) content → content ≡ m → new.entries + 0 ≡ old.entries + 0
  same_counts content is e = let now = formed.counted content is in let l = ap (λ (x : Pairs M). length x) e in omega (arith, now, l, counted)

  pub step_counts : (out : Outcome P) → IsStep Granted same (meant means old) (meant means new) id env report (outcome_of means out)
      → IsContentStep same m (meant means old) (meant means new) id (outcome_of means out)
      → new.entries + taken (change_by op (reply_in out)) ≡ old.entries + added (change_by op (reply_in out))
  step_counts Going step carried = same_counts carried.content carried.content_is carried.carries
  step_counts (Ask x) step carried = same_counts carried.content carried.content_is carried.carries
  step_counts (Pair k v) step carried = same_counts carried.content carried.content_is carried.carries
  step_counts (Decided reply) step carried = decided_counts reply step carried
  step_counts Refused step carried = same_counts carried.content carried.content_is carried.carries
  step_counts Done step carried = same_counts carried.content carried.content_is carried.carries
  step_counts Unknown step carried = same_counts carried.content carried.content_is carried.carries

  pub step_fits : (out : Outcome P) → IsStep Granted same (meant means old) (meant means new) id env report (outcome_of means out)
      → IsContentStep same m (meant means old) (meant means new) id (outcome_of means out)
      → IsReply op (reply_in out)
  step_fits (Decided reply) step carried = decided_fits reply step carried
  step_fits Going step carried = tt
  step_fits (Ask x) step carried = tt
  step_fits (Pair k v) step carried = tt
  step_fits Refused step carried = tt
  step_fits Done step carried = tt
  step_fits Unknown step carried = tt

-- what can't be false is true
pub not_not : (a b : ℕ) → ((a ≢ b) → ⊥) → a ≡ b
not_not a b h = elim (cases_eq a b) [ inl e ↦ e | inr ne ↦ absurd (h ne) ]

module _ {P : Type 0} where
  not_not_reply : (op : Op P) (reply : Reply P) → ((IsReplyTo op reply → ⊥) → ⊥) → IsReplyTo op reply
  not_not_reply (Get k) (Old b) h = tt
  not_not_reply (Get k) (Computed b) h = h (λ x. x)
  not_not_reply (Get k) (Exchanged b) h = h (λ x. x)
  not_not_reply (Insert k v) (Old b) h = tt
  not_not_reply (Insert k v) (Computed b) h = h (λ x. x)
  not_not_reply (Insert k v) (Exchanged b) h = h (λ x. x)
  not_not_reply (Remove k) (Old b) h = tt
  not_not_reply (Remove k) (Computed b) h = h (λ x. x)
  not_not_reply (Remove k) (Exchanged b) h = h (λ x. x)
  not_not_reply (ComputeIfPresent k) (Old b) h = h (λ x. x)
  not_not_reply (ComputeIfPresent k) (Computed b) h = tt
  not_not_reply (ComputeIfPresent k) (Exchanged b) h = h (λ x. x)
  not_not_reply (ComputeOrInsert k v) (Old b) h = tt
  not_not_reply (ComputeOrInsert k v) (Computed b) h = h (λ x. x)
  not_not_reply (ComputeOrInsert k v) (Exchanged b) h = h (λ x. x)
  not_not_reply (CompareExchange k old new) (Old b) h = h (λ x. x)
  not_not_reply (CompareExchange k old new) (Computed b) h = h (λ x. x)
  not_not_reply (CompareExchange k old new) (Exchanged b) h = tt
  not_not_reply (Range a b' n) (Old b) h = tt
  not_not_reply (Range a b' n) (Computed b) h = h (λ x. x)
  not_not_reply (Range a b' n) (Exchanged b) h = h (λ x. x)

  pub not_not_fits : (op : Op P) (r : Option (Reply P)) → ((IsReply op r → ⊥) → ⊥) → IsReply op r
  not_not_fits op None h = tt
  not_not_fits op (Some reply) h = not_not_reply op reply h
