-- The kind of a made call: the last operation of a legal history is one that the map allows then.
use Rattle.std.proofs.Common.{◌≡◌, ℕ, Bool, List, [], ◌∷◌, ◌++◌, sym, ap, ◌∙◌, subst}
use Rattle.std.specs.Prelude.{Option, Some, None, Result, IfSome}
use Rattle.share_backend.specs.Stages.{operation_by}
use Rattle.std.specs.List.{FoldsTo}
use Rattle.share_holds.specs.Closures.{IsLastCall, Reaches, StepsAlways, StepsIfPresent}
use Rattle.share_holds.proofs.Attempts.{one_call}
use Rattle.share_guards.specs.Made.{MadeWith}
use Rattle.share_guards.specs.Operations.{returned, asked_by, computed_with, inserted_with, WasLastCalled}
use Rattle.share_holds.proofs.Last.{last_allowed}
use Rattle.share_rule.specs.History.{Entry, entry, operations_of}
use Rattle.share_rule.specs.Known.{Known, MadeCall}
use Rattle.spec_map.specs.Call.{ClosureCall, Operation, replied, computed, exchanged, old_value, compute_if_present, compute_or_insert}
use Rattle.spec_map.specs.Legal.{Allows, CallsIfPresent, IsClosureCalled, IsLegal, computed_by}
use Rattle.spec_map.specs.Legal as legal
use Rattle.spec_map.specs.Map.{Pairs, lookup}
use Rattle.spec_map.specs.Refusal.{never}
use Rattle.spec_olc.specs.Calls.{map_asked, map_call, map_reply}
use Rattle.spec_olc.specs.Meaning.{both_of, exchanged_of, in_some, meant_reply, op_of}
use Rattle.spec_olc.specs.declared.types.Op.{Op}
use Rattle.spec_olc.specs.declared.types.Op.TheVariants.{ComputeIfPresent, ComputeOrInsert}
use Rattle.spec_olc.specs.declared.types.Reply.{Reply}
use Rattle.spec_olc.specs.declared.types.Reply.TheVariants.{Old, Computed, Exchanged}

allowed : {T : Type 0} (same : T → T → Bool) (k n : Known T) (operation : Operation ℕ T T) → MadeCall same k operation n → (a : Pairs T) × Allows same never a operation
allowed same k n operation m =
    last_allowed same [] (k.seen ++ m.between) (entry k.caller operation) m.legal.0
    (subst (λ (l : List (Entry _)). IsLegal same never [] (operations_of l) m.legal.0) m.seen m.legal.1)

module _ {P T F : Type 0} (same : T → T → Bool) (meaning : P → T) (step : F → Option P → Option P → F → Type 0) (last : F) (k n : Known T) where
  -- A CALL WITHOUT A CLOSURE
  pub plain_made : (op : Op P) (reply : Reply P) → ((a : Pairs T) (asked : ClosureCall T) → IsClosureCalled a (map_call (op_of meaning op)) asked → asked ≡ None) → MadeWith same meaning step last op reply k n
      → MadeCall same k (returned (map_call (op_of meaning op)) (map_reply (meant_reply meaning reply))) n
  plain_made op reply plain h =
      let a = allowed same k n (operation_by (op_of meaning op) h.asked (meant_reply meaning reply)) h.made in
      let none = plain a.0 (map_asked (op_of meaning op) h.asked) a.1.0 in
      subst (λ (asked : ClosureCall T). MadeCall same k (record { call = map_call (op_of meaning op); asked = asked; answer = replied (map_reply (meant_reply meaning reply)) }) n) none h.made

  pub plain_old : (op : Op P) (before : Option P) (reply : Reply P) → ((a : Pairs T) (asked : ClosureCall T) → IsClosureCalled a (map_call (op_of meaning op)) asked → asked ≡ None) → reply ≡ Old before → MadeWith same meaning step last op reply k n
      → MadeCall same k (returned (map_call (op_of meaning op)) (old_value (in_some meaning before))) n
  plain_old op before reply plain is h = plain_made op (Old before) plain (subst (λ (z : Reply P). MadeWith same meaning step last op z k n) is h)

  pub plain_exchanged : (op : Op P) (current : Result (Option P) (Option P)) (reply : Reply P) → ((a : Pairs T) (asked : ClosureCall T) → IsClosureCalled a (map_call (op_of meaning op)) asked → asked ≡ None) → reply ≡ Exchanged current → MadeWith same meaning step last op reply k n
      → MadeCall same k (returned (map_call (op_of meaning op)) (exchanged (exchanged_of meaning current))) n
  plain_exchanged op current reply plain is h = plain_made op (Exchanged current) plain (subst (λ (z : Reply P). MadeWith same meaning step last op z k n) is h)

  computed_is : (a b : Option (T × Option T)) → map_reply (Computed a) ≡ map_reply (Computed b) → a ≡ b
  computed_is a b e = cc

  old_is : (a b : Option T) → map_reply (Old a) ≡ map_reply (Old b) → a ≡ b
  old_is a b e = cc

  -- COMPUTE_IF_PRESENT: what the closure was called with is in the reply
  asked_is : (at_key : Option T) (asked : ClosureCall T) (both : Option (T × Option T)) → CallsIfPresent at_key asked → both ≡ computed_by asked → asked ≡ asked_by both
  asked_is None asked both none is =
      none ∙ ap asked_by (sym (is ∙ ap computed_by none))
  asked_is (Some old) asked both some is =
      some.1 ∙ ap asked_by (sym (is ∙ ap computed_by some.1))

  pub computed_asked : (key : ℕ) (both : Option (P × Option P)) (h : MadeWith same meaning step last (ComputeIfPresent key) (Computed both) k n) → h.asked ≡ asked_by (in_some (both_of meaning) both)
  computed_asked key both h =
      let a = allowed same k n (operation_by (ComputeIfPresent key) h.asked (meant_reply meaning (Computed both))) h.made in
      asked_is (lookup a.0 key) h.asked (in_some (both_of meaning) both) a.1.0 (computed_is (in_some (both_of meaning) both) (computed_by h.asked) a.1.1)

  pub computed_made : (key : ℕ) (both : Option (P × Option P)) (reply : Reply P) → reply ≡ Computed both → MadeWith same meaning step last (ComputeIfPresent key) reply k n → MadeCall same k (computed_with key (in_some (both_of meaning) both)) n
  computed_made key both reply is h =
      let g = subst (λ (z : Reply P). MadeWith same meaning step last (ComputeIfPresent key) z k n) is h in
      subst (λ (asked : ClosureCall T). MadeCall same k (record { call = compute_if_present key; asked = asked; answer = replied (computed (in_some (both_of meaning) both)) }) n) (computed_asked key both g) g.made

  pub computed_last : (key : ℕ) (both : Option (P × Option P)) (reply : Reply P) → reply ≡ Computed both → MadeWith same meaning step last (ComputeIfPresent key) reply k n → IsLastCall meaning step last (asked_by (in_some (both_of meaning) both))
  computed_last key both reply is h =
      let g = subst (λ (z : Reply P). MadeWith same meaning step last (ComputeIfPresent key) z k n) is h in
      subst (IsLastCall meaning step last) (computed_asked key both g) g.last_call

  -- COMPUTE_OR_INSERT
  inserted_is : (key : ℕ) (otherwise : P) (old : Option P) (asked : ClosureCall T) → (a : Pairs T) → legal.CallsAlways (lookup a key) (map_asked (ComputeOrInsert key (meaning otherwise)) asked) → map_reply (Old (in_some meaning old)) ≡ map_reply (Old (lookup a key))
      → (new : T) × (map_asked (ComputeOrInsert key (meaning otherwise)) asked ≡ Some (in_some meaning old, Some new))
  inserted_is key otherwise old asked a calls is =
      (calls.0, calls.1 ∙ ap (λ (z : Option T). Some (z, Some calls.0)) (sym (old_is (in_some meaning old) (lookup a key) is)))

  pub inserted_asked : (key : ℕ) (otherwise : P) (old : Option P) (reply : Reply P) → reply ≡ Old old → (h : MadeWith same meaning step last (ComputeOrInsert key otherwise) reply k n)
      → (new : T) × (map_asked (ComputeOrInsert key (meaning otherwise)) h.asked ≡ Some (in_some meaning old, Some new))
  inserted_asked key otherwise old reply is h =
      let op : Op T = ComputeOrInsert key (meaning otherwise) in
      let a = allowed same k n (operation_by op h.asked (meant_reply meaning reply)) h.made in
      inserted_is key otherwise old h.asked a.0 a.1.0 (sym (ap (λ (z : Reply P). map_reply (meant_reply meaning z)) is) ∙ a.1.1)

  pub inserted_made : (key : ℕ) (otherwise : P) (old : Option P) (reply : Reply P) (is : reply ≡ Old old) (h : MadeWith same meaning step last (ComputeOrInsert key otherwise) reply k n)
      → MadeCall same k (inserted_with key (in_some meaning old) (inserted_asked key otherwise old reply is h).0) n
  inserted_made key otherwise old reply is h =
      let asked = inserted_asked key otherwise old reply is h in
      subst (λ (z : ClosureCall T × Reply P). MadeCall same k (record { call = compute_or_insert key; asked = z.0; answer = replied (map_reply (meant_reply meaning z.1)) }) n) (λ i. (asked.1 i, is i)) h.made

-- THE LAST CALL of a closure that is called only with a value that is present, and of one that always returns one
module _ {P T F : Type 0} (meaning : P → T) (step : F → P → Option P → F → Type 0) (last : F) where
  some_is : (x y : T) → Some x ≡ Some y → x ≡ y
  some_is x y e = cc

  last_present : (before : F) (argument answer : Option P) (old : T) (new : Option T) → StepsIfPresent step before argument answer last → in_some meaning argument ≡ Some old → in_some meaning answer ≡ new
      → WasLastCalled step last meaning (in_some meaning) old new
  last_present before None answer old new called is back = absurd (let clash = is in cc)
  last_present before (Some argument) answer old new called is back = record { before = before; argument = argument; answer = answer; called = called; argument_is = some_is (meaning argument) old is; answer_is = back }

  -- the closure in what asks it
  module _ {Q : Type 0} (closure : Q → F) (left : Q) (is_last : closure left ≡ last) where
    pub asked_present : (both : Option (P × Option P)) → IsLastCall meaning (λ s old answer t. StepsIfPresent step (closure s) old answer (closure t)) left (asked_by (in_some (both_of meaning) both))
        → IfSome both (λ pair. WasLastCalled step last meaning (in_some meaning) (meaning pair.0) (in_some meaning pair.1))
    asked_present None h = tt
    asked_present (Some pair) h =
        let call = h.1 in
        last_present (closure call.before) call.argument h.0 (meaning pair.0) (in_some meaning pair.1)
        (subst (λ (z : F). StepsIfPresent step (closure call.before) call.argument h.0 z) is_last call.called) call.old_is h.2

module _ {P T F Q : Type 0} (meaning : P → T) (step : F → Option P → P → F → Type 0) (closure : Q → F) (left : Q) where
  abbrev both : Option T → Option T → Option T × Option T
  both a x = (a, x)

  value_is : (x y : T) → Some x ≡ Some y → x ≡ y
  value_is x y e = cc

  pair_is : (a b : Option T) (x y : Option T) → Some (both a x) ≡ Some (both b y) → both a x ≡ both b y
  pair_is a b x y e = cc

  -- the closure of compute_or_insert, which always returns a value, was called as the operation has it
  pub asked_always : (key : ℕ) (otherwise : P) (old : Option T) (new : T) (asked : Option (Option T × Option T)) → IsLastCall meaning (λ s o answer t. StepsAlways step (closure s) o answer (closure t)) left asked
      → map_asked (ComputeOrInsert key (meaning otherwise)) asked ≡ Some (old, Some new) → WasLastCalled step (closure left) (in_some meaning) meaning old new
  asked_always key otherwise old new None h is = absurd (let clash = is in cc)
  asked_always key otherwise old new (Some (asked_old, None)) h is =
      let call = h.1 in let made = call.called in
      absurd (let clash : Some (meaning made.0) ≡ None = sym (ap (in_some meaning) made.1) ∙ h.2 in cc)
  asked_always key otherwise old new (Some (asked_old, Some asked_new)) h is =
      let call = h.1 in let made = call.called in
      let e : both asked_old (Some asked_new) ≡ both old (Some new) = pair_is asked_old old (Some asked_new) (Some new) is in
      let back : Some (meaning made.0) ≡ Some new = sym (ap (in_some meaning) made.1) ∙ (h.2 ∙ ap (λ (z : Option T × Option T). z.1) e) in
      record {
        before = closure call.before;
        argument = call.argument;
        answer = made.0;
        called = made.2;
        argument_is = call.old_is ∙ ap (λ (z : Option T × Option T). z.0) e;
        answer_is = value_is (meaning made.0) new back;
      }

-- ALL CALLS of a closure that is called only with a value that is present, and of one that always returns one
module _ {P F : Type 0} (step : F → P → Option P → F → Type 0) where
  present_calls : (calls : List (Option P × Option P)) (f g : F) → FoldsTo (λ (s : F) (call : Option P × Option P) (t : F). StepsIfPresent step s call.0 call.1 t) f calls g → Reaches step f g
  present_calls [] f g is = ([], is)
  present_calls ((None, answer) ∷ calls) f g (next, called, later) =
      subst (λ (x : F). Reaches step x g) called.1 (present_calls calls next g later)
  present_calls ((Some value, answer) ∷ calls) f g (next, called, later) =
      one_call step f value answer next g called (present_calls calls next g later)

  pub reached_present : (f g : F) → Reaches (λ (s : F) (old answer : Option P) (t : F). StepsIfPresent step s old answer t) f g → Reaches step f g
  reached_present f g all = present_calls all.0 f g all.1

module _ {P F : Type 0} (step : F → Option P → P → F → Type 0) where
  always_calls : (calls : List (Option P × Option P)) (f g : F) → FoldsTo (λ (s : F) (call : Option P × Option P) (t : F). StepsAlways step s call.0 call.1 t) f calls g → Reaches step f g
  always_calls [] f g is = ([], is)
  always_calls (call ∷ calls) f g (next, called, later) =
      one_call step f call.0 called.0 next g called.2 (always_calls calls next g later)

  pub reached_always : (f g : F) → Reaches (λ (s : F) (old answer : Option P) (t : F). StepsAlways step s old answer t) f g → Reaches step f g
  reached_always f g all = always_calls all.0 f g all.1
