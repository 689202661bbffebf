-- THE MAKE OF A CLEANUP, granted and refused: the smaller copy is private, and both nodes are still held.
use Rattle.std.proofs.Common.{◌≡◌, ◌≢◌, ℕ, ◌≤◌, Bool, true, [], ◌∷◌, length, Option, Some, None, IfSome, inl, inr, refl, sym, subst, ap, ◌∙◌, arith}
use Rattle.node_table.specs.Charge.{Charge}
use Rattle.node_base.specs.Form.{few_in}
use Rattle.spec_map.specs.Map.{Rises, lookup}
use Rattle.spec_node.specs.Key.{Begins}
use Rattle.spec_node.specs.TableNode.{MayHave, TableNode, Child}
use Rattle.node_table.proofs.KindLaws.{length-mapped}
use Rattle.spec_olc.specs.Kinds.{refusal, refused, report_of}
use Rattle.spec_olc.specs.Meaning.{child_of, env_of}
use Rattle.spec_olc.specs.State.{State}
use Rattle.spec_olc.specs.Writing.{HeldNode, IsCopy, IsNewNode}
use Rattle.spec_olc.specs.declared.types.Env.{Env}
use Rattle.spec_olc.specs.declared.types.Kind.TheVariants as kind
use Rattle.spec_olc.specs.declared.types.Outcome.TheVariants.{Going}
use Rattle.spec_olc.specs.declared.types.Progress.{Progress}
use Rattle.spec_olc.specs.declared.types.Progress.TheVariants as progress
use Rattle.olc_state.specs.declared.cleanup.Cleanup.{Cleanup}
use Rattle.olc_state.specs.declared.cleanup.Tidy.TheVariants.{MakeSmaller, PutSmaller}
use Rattle.olc_state.specs.declared.stage.Stage.{Stage}
use Rattle.olc_state.specs.declared.stage.Stage.TheVariants.{Tail, Tidy}
use Rattle.olc_state.specs.declared.stage.Task.{Task}
use Rattle.olc_state.specs.declared.stock.Stock.{Stock}
use Rattle.olc_state.specs.declared.tail.NodePair.{NodePair}
use Rattle.olc_state.specs.declared.tail.Tail.TheVariants.{UnlockBelow}
use Rattle.olc_state.specs.inner.CleanupFacts.{TidyFacts, smaller_of}
use Rattle.olc_state.specs.inner.Meant.{meant_node, meant_task}
use Rattle.olc_state.specs.inner.Shown.{flight}
use Rattle.olc_state.specs.inner.Slots.{made_node}
use Rattle.olc_state.specs.inner.Stocks.{IsStoreSound, StockKnows, StockMoves, counts_in, table_in}
use Rattle.olc_state.specs.inner.Tables.{IsLinked, IsPlaced}
use Rattle.olc_state.specs.inner.Tasks.{key_bytes}
use Rattle.olc_state.specs.inner.World.{NodeLifetime, NodeMap, PlacedNode}
use Rattle.olc_state.proofs.Members.{first_in}
use Rattle.olc_state.proofs.Reaching.{one, seen_at}
use Rattle.olc_state.proofs.Records.{at}
use Rattle.olc_state.proofs.Unlike.{cons_none, decided_open}
use Rattle.olc_write.specs.inner.Makings.{AddsBuilt, GivesUp}
use Rattle.olc_write.proofs.MakingCopies.{node_same, placed_kinds}
use Rattle.olc_write.proofs.MakingFacts.{held_still, pair_still, there_still}
use Rattle.olc_write.proofs.MakingMoves.{granted, refuses}
use Rattle.olc_write.proofs.MakingStocks.{made_of}
use Rattle.olc_write.proofs.MakingTurns.{built_is}
use Rattle.olc_tidy.proofs.SmallerForms.{fits_few}

module _ {P M : Type 0} (meaning : P → M) (n : TableNode P) (t : NodeMap M) (root s word : ℕ) (current : NodeLifetime) (x : PlacedNode M) (placed : IsPlaced t root) (linked : IsLinked t s x)
    (there : t s ≡ Some (record { word = word; node = meant_node meaning n; lifetime = current })) where
  -- the linked node is the one in the slot, and has few children
  pub few_here : length x.node.children ≤ few_in x.node.form → length n.children ≤ few_in n.form
  few_here few =
      subst (λ (c : ℕ). c ≤ few_in n.form) (length-mapped (child_of meaning) n.children)
      (subst (λ (z : TableNode M). length z.children ≤ few_in z.form) (node_same meaning n t root s word current x placed linked there) few)

-- before the Make
abbrev pub making : Cleanup → NodePair → Stage
making cleanup pair = Tidy cleanup (MakeSmaller pair)

module _ {M : Type 0} (cleanup : Cleanup) (pair : NodePair) where
  -- the smaller copy is a new node of its call
  pub smaller_new : (s : State M) (pin : ℕ) (task : Task M) (held : HeldNode s (flight pin (at (making cleanup pair) task)))
      → Begins held.node.node.prefix (key_bytes task) → Rises 0 256 held.node.node.children → length held.node.node.children ≤ few_in held.node.node.form
      → ((byte : ℕ) (c : Child M) → lookup held.node.node.children byte ≡ Some c → MayHave held.node.node.prefix c)
      → IsNewNode s (flight pin (at (making cleanup pair) task)) (smaller_of held.node.node)
  smaller_new s pin task held way rises few kinds =
      let copy : IsCopy s (flight pin (at (making cleanup pair) task)) (smaller_of held.node.node) = record { from = held; prefix_is = refl; form_is = refl } in record {
        way = way;
        ascending = rises;
        fits = fits_few held.node.node.form (length held.node.node.children) few;
        form_is = inr copy;
        entries = λ byte c h. (kinds byte c h, inr (inl (copy, h)));
      }

  -- what the call knows after its Make
  pub smaller_made : (t t' : NodeMap M) (pin slot : ℕ) (task : Task M) (a : TableNode M) → t slot ≡ None → t' slot ≡ Some (made_node a) → ((o : ℕ) → o ≢ slot → t' o ≡ t o)
      → (facts : TidyFacts t pin task cleanup (MakeSmaller pair)) → a ≡ smaller_of facts.0.held.here.node.node
      → TidyFacts t' pin task cleanup (PutSmaller pair slot)
  smaller_made t t' pin slot task a empty here others facts is =
      let held = facts.0.held in (
        record {
          cleans = facts.0.cleans;
          held = pair_still t t' pair (key_bytes task) held
              (there_still t t' slot pair.above.slot held.above.node empty others held.above.linked.here)
              (there_still t t' slot pair.here.slot held.here.node empty others held.here.linked.here);
          reaches = facts.0.reaches;
        },
        record { node = made_node a; here = here; lifetime = refl; word = refl; is = is },
        facts.1,
      )

  -- a call that has its reply stops to clean up
  pub stops : (pin : ℕ) (task : Task M) → task.progress ≡ progress.Decided
      → flight pin (at (Tail (UnlockBelow pair)) task) ≡ record (refused task.progress (record (flight pin (at (making cleanup pair) task)) { made = [] })) { remembered = [] }
  stops pin task decided =
      subst (λ (p : Progress). flight pin (at (Tail (UnlockBelow pair)) task) ≡ record (refused p (record (flight pin (at (making cleanup pair) task)) { made = [] })) { remembered = [] }) (sym decided) refl

module _ {P A M : Type 0} (meaning : P → M) (charge : A → Option Charge) (Granted : Type 0) (same : M → M → Bool) (old new : Stock P A) (pin : ℕ) (task : Task P) (env : Env P) (kept : IsStoreSound meaning charge old) (cleanup : Cleanup) (pair : NodePair)
    (facts : StockKnows meaning charge Granted same old pin (record { stage = making cleanup pair; task = task })) where
  abbrev t : NodeMap M
  t = table_in meaning charge old

  abbrev t' : NodeMap M
  t' = table_in meaning charge new

  abbrev job : Task M
  job = meant_task meaning task

  pub smaller_moves : (slot word : ℕ) (current : NodeLifetime) (n : TableNode P) → t pair.here.slot ≡ Some (record { word = word; node = meant_node meaning n; lifetime = current })
      → (built : Option (TableNode P)) → AddsBuilt meaning charge old new slot built → IfSome built (λ b. meant_node meaning b ≡ smaller_of (meant_node meaning n))
      → StockMoves meaning charge Granted same old new pin (at (making cleanup pair) task) env (at (Tidy cleanup (PutSmaller pair slot)) task) (report_of kind.Make (Some slot) 0 true) Going
  smaller_moves slot word current n there built adds smaller_if =
      let cleans = facts.at.0.cleans in
      let held = facts.at.0.held.here in
      let x : PlacedNode M = held.node in
      let is_node : x.node ≡ meant_node meaning n = node_same meaning n t old.store.root pair.here.slot word current x kept.placed held.linked there in
      let is : meant_node meaning adds.node ≡ smaller_of x.node =
      built_is (λ b. meant_node meaning b ≡ smaller_of (meant_node meaning n)) built adds.node smaller_if adds.is ∙ ap (λ (z : TableNode M). smaller_of z) (sym is_node) in
      record {
        kept = adds.adds.rest.kept;
        move = granted Granted same t t' old.store.root pin (counts_in meaning charge old) (counts_in meaning charge new) job (env_of meaning env) (making cleanup pair) kept.placed (inr (cleans.decided, refl)) (cleans.point, inr refl)
            (Tidy cleanup (PutSmaller pair slot)) slot (meant_node meaning adds.node) (made_of t t' slot (meant_node meaning adds.node) adds.adds.empty adds.adds.here adds.adds.others)
            adds.adds.rest.count adds.adds.rest.entries adds.adds.charged
            (record { holds = cons_none pair.here.slot (pair.above.slot ∷ []); held = refl; named = refl; remembered = refl }) refl refl (λ z h. h) (omega arith) (omega arith)
            (λ s shows. subst (λ (a : TableNode M). IsNewNode s (flight pin (at (making cleanup pair) job)) a) (sym is)
            (smaller_new cleanup pair s pin job (record { slot = pair.here.slot; node = one x; mine = first_in pair.here.slot (pair.above.slot ∷ []); here = seen_at t old.store.root s shows pair.here.slot x held.linked.here })
            facts.at.0.reaches.0 (kept.placed.ordered pair.here.slot x held.linked) facts.at.1 (placed_kinds t old.store.root pair.here.slot x kept.placed held.linked)))
            (record {
              small = facts.small;
              at = smaller_made cleanup pair t t' pin slot job (meant_node meaning adds.node) adds.adds.empty adds.adds.here adds.adds.others facts.at is;
            });
        root = adds.adds.rest.root;
        seats = adds.adds.rest.seats;
      }

  pub smaller_refused : GivesUp meaning charge old new None
      → StockMoves meaning charge Granted same old new pin (at (making cleanup pair) task) env (at (Tail (UnlockBelow pair)) task) (report_of kind.Make None 0 true) Going
  smaller_refused gives =
      let cleans = facts.at.0.cleans in
      let both = facts.at.0.held in
      record {
        kept = gives.rest.kept;
        move = refuses Granted same t t' old.store.root pin (counts_in meaning charge old) (counts_in meaning charge new) job (env_of meaning env) (making cleanup pair) kept.placed (inr (cleans.decided, refl)) (cleans.point, inr refl)
            (at (Tail (UnlockBelow pair)) job) Going None refl gives.up gives.rest.count gives.rest.entries
            (record { holds = cons_none pair.here.slot (pair.above.slot ∷ []); held = refl; named = refl; remembered = refl }) refl
            (stops cleanup pair pin job cleans.decided) (sym (ap (λ (p : Progress). refusal p) cleans.decided)) (λ m. refl) (λ z h. h) refl (omega arith)
            (record {
              small = facts.small;
              at = (
                (λ e. decided_open (sym cleans.decided ∙ e)),
                held_still t t' pair.above both.above (gives.up.nodes pair.above.slot),
                held_still t t' pair.here both.here (gives.up.nodes pair.here.slot),
                both.over.apart,
              );
            });
        root = gives.rest.root;
        seats = gives.rest.seats;
      }
