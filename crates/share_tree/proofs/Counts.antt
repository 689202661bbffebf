-- How a decided call changes the number of pairs.
use Rattle.std.proofs.Common.{◌≡◌, ℕ, ◌+◌, ◌^◌, Bool, [], ◌∷◌, length, Option, Some, None, refl, sym, subst, ap, ◌∙◌, arith}
use Rattle.share_backend.proofs.Counting.{by_outline, change_alike, counts, few, of_outline, replies, reply_alike, to_outline}
use Rattle.share_backend.specs.Changing.{added, taken, change_of, Counts, IsReplyTo, reply_in}
use Rattle.share_backend.specs.Stages.{Changes, IsOf, Turns, operation_by}
use Rattle.share_backend.specs.declared.lent.CallStage.{CallStage}
use Rattle.share_backend.specs.declared.lent.CallStage.TheVariants.{Running}
use Rattle.spec_map.specs.Legal.{IsLegal}
use Rattle.spec_map.specs.Map.{Pairs, IsMap}
use Rattle.spec_map.specs.Refusal.{never}
use Rattle.node_table.proofs.KindLaws.{Rises-mapped, length-mapped}
use Rattle.node_table.specs.inner.Kinds.{mapped}
use Rattle.spec_olc.specs.Calls.{Outline, asked_of, map_asked, outline_of}
use Rattle.spec_olc.specs.Meaning.{in_some, op_of, outcome_of, meant_reply}
use Rattle.spec_olc.specs.declared.types.Asking.TheVariants.{Fresh as unasked}
use Rattle.spec_olc.specs.declared.types.Kind.{Kind}
use Rattle.spec_olc.specs.declared.types.Op.{Op}
use Rattle.spec_olc.specs.declared.types.Op.TheVariants.{Get, Insert, Remove, ComputeIfPresent, ComputeOrInsert, CompareExchange, Range}
use Rattle.spec_olc.specs.declared.types.Outcome.{Outcome}
use Rattle.spec_olc.specs.declared.types.Outcome.TheVariants.{Going, Ask, Pair, Decided, Refused, Done, Unknown}
use Rattle.spec_olc.specs.declared.types.Reply.{Reply}
use Rattle.share_tree.specs.Seats.{asked_with, seat_stage_of}
use Rattle.share_tree.specs.declared.seat.CallSeat.{CallSeat}
use Rattle.share_tree.specs.declared.seat.CallSeat.TheVariants.{Ready, Fresh, Present, Always, Settled, Denied}

module _ {P : Type 0} where
  -- the kind and the keys of a call determine it
  alike : (a b : Op P) (reply : Reply P) (n m : ℕ) → outline_of a ≡ outline_of b → Counts a (Some reply) n m → Counts b (Some reply) n m
  alike a b reply n m same h =
      let change : change_of a reply ≡ change_of b reply =
      by_outline a reply ∙ (ap (λ (o : Outline). change_of o reply) same ∙ sym (by_outline b reply))
      in (
        subst (λ c. m + taken c ≡ n + added c) change h.0,
        h.1,
        of_outline b reply (subst (λ (o : Outline). IsReplyTo o reply) same (to_outline a reply h.2)),
      )

module _ {P M : Type 0} (meaning : P → M) where
  -- a call's outline doesn't depend on its payloads
  outline_means : (op : Op P) → outline_of (op_of meaning op) ≡ outline_of op
  outline_means (Get k) = refl
  outline_means (Insert k v) = refl
  outline_means (Remove k) = refl
  outline_means (ComputeIfPresent k) = refl
  outline_means (ComputeOrInsert k v) = refl
  outline_means (CompareExchange k old new) = refl
  outline_means (Range a b n) = refl

  module _ (same : M → M → Bool) (m n : Pairs P) (before : IsMap m) (after : IsMap n) where
    legal_counts : (op : Op P) (asked : Option (Option M × Option M)) (reply : Reply P)
        → IsLegal same never (mapped meaning m) (operation_by (op_of meaning op) asked (meant_reply meaning reply) ∷ []) (mapped meaning n)
        → Counts op (Some reply) (length m) (length n)
    legal_counts op asked reply h =
        let o = op_of meaning op in
        let r = meant_reply meaning reply in
        let a = map_asked o asked in
        let change : change_of o r ≡ change_of op reply =
        by_outline o r
        ∙ (ap (λ (u : Outline). change_of u r) (outline_means op)
        ∙ (sym (by_outline op r) ∙ change_alike meaning op reply))
        in
        let count = counts same (mapped meaning m) a o r (Rises-mapped meaning 0 (2 ^ 64) m before) h.0.0 h.0.1 in
        let grown = ap (λ (x : Pairs M). length x) h.1 in
        let wide = length-mapped meaning m in
        let long = length-mapped meaning n in
        let fits : IsReplyTo o r = replies same (mapped meaning m) a o r h.0.1 in (
          subst (λ c. length n + taken c ≡ length m + added c) change (omega (arith, count, grown, wide, long)),
          few n after,
          reply_alike meaning op reply
              (of_outline op r (subst (λ (u : Outline). IsReplyTo u r) (outline_means op) (to_outline o r fits))),
        )

    -- an event that decides nothing
    quiet_counts : mapped meaning n ≡ mapped meaning m → length n ≡ length m
    quiet_counts e = omega (arith, ap (λ (x : Pairs M). length x) e, length-mapped meaning m, length-mapped meaning n)

    -- the first event of a call
    pub opened_counts : (op : Op P) (out : Outcome P)
        → Changes same (Running (outline_of op) (op_of meaning op) unasked) (mapped meaning m) (mapped meaning n) (outcome_of meaning out)
        → Counts op (reply_in out) (length m) (length n)
    opened_counts op (Decided reply) h = legal_counts op None reply h
    opened_counts op Going h = quiet_counts h
    opened_counts op (Ask old) h = quiet_counts h
    opened_counts op (Pair k v) h = quiet_counts h.0
    opened_counts op Refused h = quiet_counts h
    opened_counts op Done h = quiet_counts h
    opened_counts op Unknown h = quiet_counts h

    module _ (op : Op P) (reply : Reply P) (answer : Option M) (k : Kind) (q : Option (CallStage M)) where
      decided_counts : (seat : CallSeat P) → IsOf (outline_of op) (seat_stage_of meaning seat)
          → Turns (seat_stage_of meaning seat) answer k q (Decided (meant_reply meaning reply))
          → Changes same (seat_stage_of meaning seat) (mapped meaning m) (mapped meaning n) (Decided (meant_reply meaning reply))
          → Counts op (Some reply) (length m) (length n)
      decided_counts Ready is t h = absurd is
      decided_counts (Fresh key) is t h =
          alike (ComputeIfPresent key) op reply (length m) (length n) is (legal_counts (ComputeIfPresent key) None reply h)
      decided_counts (Present asks given) is t h =
          let asked = asked_of (asked_with meaning (in_some meaning asks.old) given) in
          alike (ComputeIfPresent asks.key) op reply (length m) (length n) is (legal_counts (ComputeIfPresent asks.key) asked reply h)
      decided_counts (Always other asks given) is t h =
          let asked = asked_of (asked_with meaning (in_some meaning asks.old) given) in
          alike (ComputeOrInsert asks.key other) op reply (length m) (length n) is (legal_counts (ComputeOrInsert asks.key other) asked reply h)
      decided_counts (Settled o) is t h = absurd t
      decided_counts (Denied o) is t h = absurd t

    -- each later event
    pub turned_counts : (op : Op P) (seat : CallSeat P) (answer : Option M) (k : Kind) (q : Option (CallStage M)) (out : Outcome P)
        → IsOf (outline_of op) (seat_stage_of meaning seat) → Turns (seat_stage_of meaning seat) answer k q (outcome_of meaning out)
        → Changes same (seat_stage_of meaning seat) (mapped meaning m) (mapped meaning n) (outcome_of meaning out)
        → Counts op (reply_in out) (length m) (length n)
    turned_counts op seat answer k q (Decided reply) is t h = decided_counts op reply answer k q seat is t h
    turned_counts op seat answer k q Going is t h = quiet_counts h
    turned_counts op seat answer k q (Ask old) is t h = quiet_counts h
    turned_counts op seat answer k q (Pair key v) is t h = quiet_counts h.0
    turned_counts op seat answer k q Refused is t h = quiet_counts h
    turned_counts op seat answer k q Done is t h = quiet_counts h
    turned_counts op seat answer k q Unknown is t h = quiet_counts h
