-- The meaning of a number is the number, so the inside of a machine over numbers is its own
-- meaning.
use Rattle.std.proofs.Common.{◌≡◌, ℕ, List, [], ◌∷◌, map, Option, Result, Ok, Err, refl, sym, subst, ap, ◌∙◌}
use Rattle.spec_map.specs.Map.{Pairs}
use Rattle.node_table.specs.inner.Kinds.{mapped}
use Rattle.spec_node.specs.TableNode.{Child}
use Rattle.spec_olc.specs.Kinds.{MayReclaim}
use Rattle.spec_olc.specs.Meaning.{in_some, child_of, seen_of, op_of, asking_of, both_of, exchanged_of, meant_reply, outcome_of, env_of, meant}
use Rattle.spec_olc.specs.declared.types.Asking.{Asking}
use Rattle.spec_olc.specs.declared.types.Env.{Env}
use Rattle.spec_olc.specs.declared.types.Op.{Op}
use Rattle.spec_olc.specs.declared.types.Outcome.{Outcome}
use Rattle.spec_olc.specs.declared.types.Outcome.TheVariants.{Ask, Decided}
use Rattle.spec_olc.proofs.Same.{some_same, list_same, itself, child_same, number_same, seen_same, op_same, asking_same, state_same}
use Rattle.spec_olc.specs.Content.{IsContent}
use Rattle.spec_olc.specs.Runs.{same_number}
use Rattle.spec_olc.specs.State.{State}
use Rattle.spec_olc.specs.declared.types.Reply.{Reply}
use Rattle.spec_olc.specs.declared.types.Reply.TheVariants.{Old, Computed, Exchanged}
use Rattle.spec_olc.specs.declared.types.Report.{Report}
use Rattle.spec_olc.specs.declared.types.Seen.{Seen}
use Rattle.olc_state.specs.declared.stage.Record.{Record}
use Rattle.olc_state.specs.declared.stage.Stored.{Stored}
use Rattle.olc_state.specs.declared.stage.Task.{Task}
use Rattle.olc_state.specs.inner.Meant.{meant_stored, meant_task, meant_record, meant_calls, meant_world}
use Rattle.olc_state.specs.inner.Facts.{IsSoundWorld}
use Rattle.olc_state.specs.inner.Shown.{state_of}
use Rattle.olc_state.specs.inner.Turns.{IsBegun, IsFreed, IsTurn}
use Rattle.olc_state.specs.inner.World.{World}

each_same : {X : Type 0} (f : X → X) → ((x : X) → f x ≡ x) → (xs : List X) → map f xs ≡ xs
each_same f h [] = refl
each_same f h (x ∷ xs) = ap (λ y. y ∷ map f xs) (h x) ∙ ap (λ t. x ∷ t) (each_same f h xs)

pub env_same : (env : Env ℕ) → env_of itself env ≡ env
env_same env =
    ap (λ (s : Seen ℕ). record env { torn = s; answer = in_some itself env.answer }) (seen_same env.torn)
    ∙ ap (λ (o : Option ℕ). record env { answer = o }) (number_same env.answer)

both_same : (p : ℕ × Option ℕ) → both_of itself p ≡ p
both_same p = ap (λ o. (p.0, o)) (number_same p.1)

exchanged_same : (r : Result (Option ℕ) (Option ℕ)) → exchanged_of itself r ≡ r
exchanged_same (Ok new) = ap Ok (number_same new)
exchanged_same (Err current) = ap Err (number_same current)

reply_same : (r : Reply ℕ) → meant_reply itself r ≡ r
reply_same (Old before) = ap Old (number_same before)
reply_same (Computed both) = ap Computed (some_same (both_of itself) both_same both)
reply_same (Exchanged r) = ap Exchanged (exchanged_same r)

pub outcome_same : (out : Outcome ℕ) → outcome_of itself out ≡ out
outcome_same (Ask old) = ap Ask (number_same old)
outcome_same (Decided reply) = ap Decided (reply_same reply)
outcome_same out = refl

task_same : (t : Task ℕ) → meant_task itself t ≡ t
task_same t =
    ap (λ (o : Option (Op ℕ)). record (meant_task itself t) { op = o }) (some_same (op_of itself) op_same t.op)
    ∙ (ap (λ (s : Option (Seen ℕ)). record (meant_task itself t) { op = t.op; last = s }) (some_same (seen_of itself) seen_same t.last)
    ∙ (ap (λ (o : Option ℕ). record (meant_task itself t) { op = t.op; last = t.last; spare = o }) (number_same t.spare)
    ∙ (ap (λ (o : Option ℕ). record t { question = o; returns = in_some itself t.returns; asking = asking_of itself t.asking }) (number_same t.question)
    ∙ (ap (λ (o : Option ℕ). record t { returns = o; asking = asking_of itself t.asking }) (number_same t.returns)
    ∙ ap (λ (a : Asking ℕ). record t { asking = a }) (asking_same t.asking)))))

record_same : (r : Record ℕ) → meant_record itself r ≡ r
record_same r = ap (λ (t : Task ℕ). record r { task = t }) (task_same r.task)

stored_same : (n : Stored ℕ) → meant_stored itself n ≡ n
stored_same n = ap (λ (cs : List (ℕ × Child ℕ)). record n { node = record n.node { children = cs } }) (list_same (child_of itself) child_same n.node.children)

-- THE INSIDE of a machine over numbers is its own meaning.
pub world_same : (w : World ℕ) → meant_world itself w ≡ w
world_same w =
    ap (λ (slots : List (Option (Stored ℕ))). record w { slots = slots; calls = meant_calls itself w.calls }) (each_same (in_some (meant_stored itself)) (some_same (meant_stored itself) stored_same) w.slots)
    ∙ ap (λ (calls : List (ℕ × Option (Record ℕ))). record w { calls = calls }) (list_same (in_some (meant_record itself)) (some_same (meant_record itself) record_same) w.calls)

pub pairs_same : (m : Pairs ℕ) → mapped itself m ≡ m
pairs_same m = list_same itself (λ x. refl) m

-- So what the contracts of the machine's methods state of its meaning holds of the inside itself.
pub sound_itself : (w : World ℕ) → IsSoundWorld (Unit {0}) same_number (meant_world itself w) → IsSoundWorld (Unit {0}) same_number w
sound_itself w h = subst (λ (z : World ℕ). IsSoundWorld (Unit {0}) same_number z) (world_same w) h

pub sound_meant : (w : World ℕ) → IsSoundWorld (Unit {0}) same_number w → IsSoundWorld (Unit {0}) same_number (meant_world itself w)
sound_meant w h = subst (λ (z : World ℕ). IsSoundWorld (Unit {0}) same_number z) (sym (world_same w)) h

pub begun_itself : (w after : World ℕ) (id : ℕ) (op : Op ℕ) (report : Report) → IsBegun (Unit {0}) same_number (meant_world itself w) (meant_world itself after) id (op_of itself op) report
    → IsBegun (Unit {0}) same_number w after id op report
begun_itself w after id op report h =
    subst (λ (z : World ℕ). IsBegun (Unit {0}) same_number z after id op report) (world_same w)
    (subst (λ (z : World ℕ). IsBegun (Unit {0}) same_number (meant_world itself w) z id op report) (world_same after)
    (subst (λ (o : Op ℕ). IsBegun (Unit {0}) same_number (meant_world itself w) (meant_world itself after) id o report) (op_same op) h))

pub may_itself : (w : World ℕ) (slot : ℕ) → MayReclaim (state_of w) slot → MayReclaim (state_of (meant_world itself w)) slot
may_itself w slot h = subst (λ (z : World ℕ). MayReclaim (state_of z) slot) (sym (world_same w)) h

pub freed_itself : (w after : World ℕ) (slot : ℕ) (report : Report) → IsFreed (Unit {0}) same_number (meant_world itself w) (meant_world itself after) slot report
    → IsFreed (Unit {0}) same_number w after slot report
freed_itself w after slot report h =
    subst (λ (z : World ℕ). IsFreed (Unit {0}) same_number z after slot report) (world_same w)
    (subst (λ (z : World ℕ). IsFreed (Unit {0}) same_number (meant_world itself w) z slot report) (world_same after) h)

pub turn_itself : (w after : World ℕ) (id : ℕ) (env : Env ℕ) (report : Report) (out : Outcome ℕ)
    → IsTurn (Unit {0}) same_number (meant_world itself w) (meant_world itself after) id (env_of itself env) report (outcome_of itself out) → IsTurn (Unit {0}) same_number w after id env report out
turn_itself w after id env report out h =
    subst (λ (z : World ℕ). IsTurn (Unit {0}) same_number z after id env report out) (world_same w)
    (subst (λ (z : World ℕ). IsTurn (Unit {0}) same_number (meant_world itself w) z id env report out) (world_same after)
    (subst (λ (e : Env ℕ). IsTurn (Unit {0}) same_number (meant_world itself w) (meant_world itself after) id e report out) (env_same env)
    (subst (λ (o : Outcome ℕ). IsTurn (Unit {0}) same_number (meant_world itself w) (meant_world itself after) id (env_of itself env) report o) (outcome_same out) h)))

pub content_itself : (s : State ℕ) (m : Pairs ℕ) → IsContent (meant itself s) (mapped itself m) → IsContent s m
content_itself s m h =
    subst (λ (t : State ℕ). IsContent t m) (state_same s) (subst (λ (n : Pairs ℕ). IsContent (meant itself s) n) (pairs_same m) h)
