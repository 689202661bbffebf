-- A Make as the code makes it, granted and refused.
use Rattle.std.proofs.Common.{◌≡◌, ℕ, ◌<◌, ◌≤◌, ◌^◌, Bool, true, List, [], ◌∷◌, length, Option, Some, None, inl, refl, sym, subst, ap, ◌∙◌, arith}
use Rattle.node_table.specs.Charge.{Charge}
use Rattle.spec_node.specs.TableNode.{TableNode}
use Rattle.spec_olc.specs.Calls.{key_of}
use Rattle.spec_olc.specs.Kinds.{refusal, refused, report_of}
use Rattle.spec_olc.specs.Meaning.{env_of}
use Rattle.spec_olc.specs.State.{CallState, Cleaning, State, settled}
use Rattle.spec_olc.specs.Writing.{IsNewNode}
use Rattle.spec_olc.specs.declared.types.Env.{Env}
use Rattle.spec_olc.specs.declared.types.Kind.TheVariants as kind
use Rattle.spec_olc.specs.declared.types.Outcome.TheVariants.{Going, Refused}
use Rattle.spec_olc.specs.declared.types.Progress.{Progress}
use Rattle.spec_olc.specs.declared.types.Progress.TheVariants as progress
use Rattle.olc_state.specs.declared.stage.Stage.TheVariants.{Tail}
use Rattle.olc_state.specs.declared.stage.Task.{Task}
use Rattle.olc_state.specs.declared.stock.Stock.{Stock}
use Rattle.olc_state.specs.declared.tail.Tail as tails
use Rattle.olc_state.specs.inner.Meant.{meant_task}
use Rattle.olc_state.specs.inner.Shown.{flight}
use Rattle.olc_state.specs.inner.Stocks.{IsStoreSound, StockMoves, counts_in, table_in}
use Rattle.olc_state.specs.inner.TailFacts.{TailFacts}
use Rattle.olc_state.specs.inner.Tails.{cleaning_in, held_in, made_in, one_more, spots_in, tail_work}
use Rattle.olc_state.specs.inner.Turns.{ShowsNodes}
use Rattle.olc_write.specs.inner.Makings.{AddsPrivate, GivesUp, gone}
use Rattle.olc_write.proofs.MakingNodes.{at}
use Rattle.olc_write.proofs.MakingMoves.{Follows, granted, refuses}
use Rattle.olc_write.proofs.MakingFacts.{Enters, some_stored}
use Rattle.olc_write.proofs.MakingStocks.{made_of}

module _ {M : Type 0} where
  -- the call at the next tail, by what it has made then
  next-flight : (pin : ℕ) (task : Task M) (tail next : tails.Tail) (made : List ℕ) → cleaning_in tail ≡ None → cleaning_in next ≡ None → held_in next ≡ held_in tail → made_in next ≡ made
      → flight pin (at next task) ≡ record (flight pin (at tail task)) { made = made; remembered = spots_in next }
  next-flight pin task tail next made quiet still held is =
      let f : Option Cleaning → List ℕ → List ℕ → CallState M = λ c h m. record (flight pin (at next task)) { cleaning = c; held = h; made = m } in
      ap (λ c. f c (held_in next) (made_in next)) (still ∙ sym quiet) ∙ (ap (λ h. f (cleaning_in tail) h (made_in next)) held ∙ ap (λ m. f (cleaning_in tail) (held_in tail) m) is)

  gone_planned : (call : CallState M) → call.progress ≡ progress.Open → refused call.progress call ≡ settled progress.Refused call
  gone_planned call undecided = ap (λ (p : Progress). refused p call) undecided

module _ {P A M : Type 0} (meaning : P → M) (charge : A → Option Charge) (Granted : Type 0) (same : M → M → Bool) (old new : Stock P A) (kept : IsStoreSound meaning charge old) (pin : ℕ) (task : Task P) (env : Env P) (tail next : tails.Tail)
    (small : key_of task.outline < 2 ^ 64) (undecided : task.progress ≡ progress.Open) (own : Enters (meant_task meaning task)) (follows : Follows (Tail tail) (Tail next)) (quiet : cleaning_in tail ≡ None) (still : cleaning_in next ≡ None) where
  pub granted_moves : (slot : ℕ) (a : TableNode M) → AddsPrivate meaning charge old new slot a → made_in next ≡ slot ∷ made_in tail → tail_work task.progress next < tail_work task.progress tail → length (made_in tail) ≤ 1
      → ((s : State M) → ShowsNodes (table_in meaning charge old) old.store.root s → IsNewNode s (flight pin (at tail (meant_task meaning task))) a)
      → TailFacts Granted same (table_in meaning charge new) old.store.root pin (meant_task meaning task) next
      → StockMoves meaning charge Granted same old new pin (at tail task) env (at next task) (report_of kind.Make (Some slot) 0 true) Going
  granted_moves slot a adds made less few is_new facts = record {
    kept = adds.rest.kept;
    move = granted Granted same (table_in meaning charge old) (table_in meaning charge new) old.store.root pin (counts_in meaning charge old) (counts_in meaning charge new) (meant_task meaning task) (env_of meaning env) (Tail tail) kept.placed (inl undecided) (own.point, inl (some_stored (meant_task meaning task) own))
        (Tail next) slot a (made_of (table_in meaning charge old) (table_in meaning charge new) slot a adds.empty adds.here adds.others) adds.rest.count adds.rest.entries adds.charged follows made (next-flight pin (meant_task meaning task) tail next (slot ∷ made_in tail) quiet still follows.held made) (λ z h. h) (omega (arith, less)) few is_new
        (record { small = small; at = facts });
    root = adds.rest.root;
    seats = adds.rest.seats;
  }

  pub refused_moves : (made : Option ℕ) → made_in tail ≡ one_more made → GivesUp meaning charge old new made → made_in next ≡ [] → tail_work progress.Refused next < tail_work task.progress tail
      → TailFacts Granted same (table_in meaning charge new) old.store.root pin (gone (meant_task meaning task)) next
      → StockMoves meaning charge Granted same old new pin (at tail task) env (at next (gone task)) (report_of kind.Make None 0 true) Refused
  refused_moves made is gives none less facts = record {
    kept = gives.rest.kept;
    move = refuses Granted same (table_in meaning charge old) (table_in meaning charge new) old.store.root pin (counts_in meaning charge old) (counts_in meaning charge new) (meant_task meaning task) (env_of meaning env) (Tail tail) kept.placed (inl undecided) (own.point, inl (some_stored (meant_task meaning task) own))
        (at next (gone (meant_task meaning task))) Refused made is gives.up gives.rest.count gives.rest.entries follows none
        (subst (λ (z : CallState M). flight pin (at next (gone (meant_task meaning task))) ≡ record z { remembered = spots_in next }) (sym (gone_planned (record (flight pin (at tail (meant_task meaning task))) { made = [] }) undecided))
        (next-flight pin (gone (meant_task meaning task)) tail next [] quiet still follows.held none))
        (sym (ap (λ (p : Progress). refusal p) undecided)) (λ m. refl) (λ z h. h) refl (omega (arith, less))
        (record { small = small; at = facts });
    root = gives.rest.root;
    seats = gives.rest.seats;
  }
