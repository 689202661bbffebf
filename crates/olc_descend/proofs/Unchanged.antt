-- A CALL THAT LEAVES THE CONTENT UNCHANGED: its reply by what it has seen is its reply by the whole map.
use Rattle.std.proofs.Common.{◌≡◌, ℕ, ◌+◌, ◌^◌, Bool, List, Option, Some, None, IsSome, inl, inr, sym, subst, ◌∙◌, arith}
use Rattle.std.proofs.lemmas.Bool.Decides.{eqb_tells}
use Rattle.spec_map.proofs.MapLaws.{Rises-put, lookup-put_same, lookup-put_other, same_from_lookups, without-absent}
use Rattle.spec_map.specs.Map.{Pairs, IsMap, Rises, lookup, put, with_answer}
use Rattle.spec_map.specs.Legal.{reply_of}
use Rattle.spec_olc.specs.Calls.{Outline, key_of, map_call, map_reply, map_asked, asked_of}
use Rattle.spec_olc.specs.Deciding.{AppliesCall}
use Rattle.spec_olc.specs.Local.{IsLocal, LeavesAll, SeesPayloads, SharesNone, only_at, seen_map, seen_payload}
use Rattle.spec_olc.specs.State.{CallState, Cleaning}
use Rattle.spec_olc.specs.declared.types.Asking.TheVariants.{Fresh}
use Rattle.spec_olc.specs.declared.types.Reply.{Reply}
use Rattle.olc_state.specs.declared.stage.Stage.{Stage}
use Rattle.olc_state.specs.declared.stage.Task.{Task}
use Rattle.olc_state.specs.inner.Effects.{IsChange, IsLeft, reply_with}
use Rattle.olc_state.specs.inner.Shown.{cursor_at, flight}
use Rattle.olc_state.specs.inner.Tasks.{IsOpen, MaySee}
use Rattle.olc_state.proofs.Reaching.{lookup-inside}
use Rattle.olc_state.proofs.Records.{IsPlain, at, plain_cleaning, plain_cursor}
use Rattle.olc_state.proofs.Replies.{alone_there, key_is, change_point, change_asked, change_replied, change_after, left_point, left_asked, left_replied, left_after}

-- MAPS: to put the current value of a key again leaves the map unchanged
module _ {V : Type 0} where
  pub put_again : (a b : ℕ) (es : List (ℕ × V)) (k : ℕ) (v : V) → Rises a b es → lookup es k ≡ Some v → put es k v ≡ es
  put_again a b es k v rises there =
      let inside = lookup-inside a b es k v rises there in
      let alike : (j : ℕ) → lookup (put es k v) j ≡ lookup es j = λ j.
      elim (eqb_tells k j) [
        | inl e ↦ subst (λ (z : ℕ). lookup (put es k v) z ≡ lookup es z) e.1 (lookup-put_same es k v ∙ sym there)
        | inr e ↦ lookup-put_other es k v j (λ (q : j ≡ k). e.1 (sym q))
      ]
      in
      same_from_lookups a b a b (put es k v) es (Rises-put a b es k v rises inside.0 inside.1) rises alike

  pub answer_again : (a b : ℕ) (es : List (ℕ × V)) (k : ℕ) (v : Option V) → Rises a b es → lookup es k ≡ v → with_answer es k v ≡ es
  answer_again a b es k None rises there = without-absent es k there
  answer_again a b es k (Some v) rises there = put_again a b es k v rises there

  alone_rises : (k : ℕ) (v : Option V) → Rises k (k + 1) (only_at k v)
  alone_rises k None = tt
  alone_rises k (Some v) = (omega arith, omega arith, tt)

-- what a call has seen decides it with this reply, and leaves the content unchanged
abbrev pub Tells : {M : Type 0} → Type 0 → (M → M → Bool) → CallState M → Reply M → Type 0
Tells Granted same call reply = (local : IsLocal Granted same call reply) × LeavesAll Granted same call local.op

-- a call without a reply, beside the current value of its key
module _ {M : Type 0} (Granted : Type 0) (same : M → M → Bool) (pin : ℕ) (stage : Stage) (plain : IsPlain stage) (task : Task M) (opened : IsOpen task) (at_key : Option M) (read : IsSome task.last) where
  key_same : key_of opened.op ≡ key_of task.outline
  key_same = key_is opened.op task.outline opened.outline

  there_same : (m : Pairs M) → lookup m (key_of task.outline) ≡ at_key → lookup m (key_of opened.op) ≡ at_key
  there_same m there = subst (λ (k : ℕ). lookup m k ≡ at_key) (sym key_same) there

  seen_alone : seen_payload task.last ≡ at_key → lookup (seen_map (flight pin (at stage task))) (key_of opened.op) ≡ at_key
  seen_alone seen =
      subst (λ (k : ℕ). lookup (only_at k (seen_payload task.last)) (key_of opened.op) ≡ at_key) (sym (plain_cursor stage plain (key_of task.outline)))
      (there_same (only_at (key_of task.outline) (seen_payload task.last)) (alone_there (key_of task.outline) (seen_payload task.last) ∙ seen))

  -- it sees what its kind sees
  may_see : SeesPayloads Granted same (flight pin (at stage task)) → MaySee Granted same task
  may_see sees = subst (λ (c : Option Cleaning). SharesNone task.outline c → Granted) (plain_cleaning stage plain) sees

  -- IT CHANGES NOTHING
  module _ (reply : Reply M) (fresh : task.asking ≡ Fresh) (left : IsLeft same opened.op at_key reply) where
    pub left_tells : (MaySee Granted same task → seen_payload task.last ≡ at_key) → Tells Granted same (flight pin (at stage task)) reply
    left_tells seen = (
      record {
        op = opened.op;
        op_is = opened.op_is;
        undecided = opened.undecided;
        read = read;
        point = left_point same opened.op at_key reply left;
        asked = λ sees. left_asked same (seen_map (flight pin (at stage task))) opened.op task.asking at_key reply fresh left (seen_alone (seen (may_see sees)));
        reply = λ sees. left_replied same (seen_map (flight pin (at stage task))) opened.op task.asking at_key reply fresh left (seen_alone (seen (may_see sees)));
      },
      (λ sees. left_after same (seen_map (flight pin (at stage task))) opened.op task.asking at_key reply fresh left (seen_alone (seen (may_see sees))) (λ k none. without-absent (seen_map (flight pin (at stage task))) k none)),
    )

    pub left_leads : (m : Pairs M) → lookup m (key_of task.outline) ≡ at_key → AppliesCall same m m (flight pin (at stage task)) reply
    left_leads m there = record {
      op = opened.op;
      op_is = opened.op_is;
      asked = left_asked same m opened.op task.asking at_key reply fresh left (there_same m there);
      replied = left_replied same m opened.op task.asking at_key reply fresh left (there_same m there);
      after = sym (left_after same m opened.op task.asking at_key reply fresh left (there_same m there) (λ k none. without-absent m k none));
    }

  -- WHAT IT WOULD STORE IS THE CURRENT VALUE
  module _ (change : IsChange same opened.op task.asking at_key at_key) where
    same_reply : (m : Pairs M) → lookup m (key_of opened.op) ≡ at_key
        → map_reply (reply_with task.outline at_key task.returns) ≡ reply_of same m (map_call opened.op) (map_asked opened.op (asked_of task.asking))
    same_reply m there =
        subst (λ (o : Outline). map_reply (reply_with o at_key task.returns) ≡ reply_of same m (map_call opened.op) (map_asked opened.op (asked_of task.asking))) opened.outline
        (change_replied same m opened.op task.asking at_key at_key task.returns change opened.returned there)

    pub same_tells : (MaySee Granted same task → seen_payload task.last ≡ at_key) → Tells Granted same (flight pin (at stage task)) (reply_with task.outline at_key task.returns)
    same_tells seen = (
      record {
        op = opened.op;
        op_is = opened.op_is;
        undecided = opened.undecided;
        read = read;
        point = change_point same opened.op task.asking at_key at_key change;
        asked = λ sees. change_asked same (seen_map (flight pin (at stage task))) opened.op task.asking at_key at_key change (seen_alone (seen (may_see sees)));
        reply = λ sees. same_reply (seen_map (flight pin (at stage task))) (seen_alone (seen (may_see sees)));
      },
      (λ sees.
          change_after same (seen_map (flight pin (at stage task))) opened.op task.asking at_key at_key change (seen_alone (seen (may_see sees)))
          ∙ answer_again (cursor_at stage (key_of task.outline)) (cursor_at stage (key_of task.outline) + 1) (seen_map (flight pin (at stage task))) (key_of opened.op) at_key (alone_rises (cursor_at stage (key_of task.outline)) (seen_payload task.last)) (seen_alone (seen (may_see sees)))),
    )

    pub same_leads : (m : Pairs M) → IsMap m → lookup m (key_of task.outline) ≡ at_key → AppliesCall same m m (flight pin (at stage task)) (reply_with task.outline at_key task.returns)
    same_leads m map there = record {
      op = opened.op;
      op_is = opened.op_is;
      asked = change_asked same m opened.op task.asking at_key at_key change (there_same m there);
      replied = same_reply m (there_same m there);
      after = sym (change_after same m opened.op task.asking at_key at_key change (there_same m there)
          ∙ answer_again 0 (2 ^ 64) m (key_of opened.op) at_key map (there_same m there));
    }
