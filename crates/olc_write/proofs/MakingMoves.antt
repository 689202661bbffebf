-- MAKE: a private node is added, or is refused, and then what the call has made is freed. Each is an event of its call,
-- whichever comes next.
use Rattle.std.proofs.Common.{◌≡◌, ◌≢◌, ℕ, ◌+◌, ◌<◌, ◌≤◌, Bool, true, IsTrue, List, [], ◌∷◌, length, Option, Some, None, ◌⊎◌, inl, inr, refl, sym, subst, ap, ◌∙◌, arith}
use Rattle.std.proofs.lemmas.Bool.{eq-eqb, ne_eqb}
use Rattle.std.proofs.lemmas.Bool.Decides.{eqb_tells}
use Rattle.node_base.specs.Form.{stated_size}
use Rattle.spec_map.specs.Map.{Pairs, lookup, put, IsMap}
use Rattle.node_table.specs.Charge.{Charge, add_charge}
use Rattle.spec_node.specs.TableNode.{TableNode}
use Rattle.spec_olc.specs.Deciding.{ContentAfter}
use Rattle.spec_olc.specs.Kinds.{IsAtWork, MayMake, report_of, refusal, refused}
use Rattle.spec_olc.specs.Lists.{is_in, without_all}
use Rattle.spec_olc.specs.State.{State, CallState, unlinked, with_call}
use Rattle.spec_olc.specs.State as state
use Rattle.spec_olc.specs.WellFormed.{sizes_of}
use Rattle.spec_olc.specs.Writing.{IsNewNode}
use Rattle.spec_olc.specs.declared.types.Env.{Env}
use Rattle.spec_olc.specs.declared.types.Kind.TheVariants as kind
use Rattle.spec_olc.specs.declared.types.Outcome.{Outcome}
use Rattle.spec_olc.specs.declared.types.Outcome.TheVariants.{Going}
use Rattle.olc_state.specs.declared.stage.Record.{Record}
use Rattle.olc_state.specs.declared.stage.Stage.{Stage}
use Rattle.olc_state.specs.declared.stage.Task.{Task}
use Rattle.olc_state.specs.inner.Facts.{Facts, Holding, named_at}
use Rattle.olc_state.specs.inner.Moves.{StoreCounts, IsAfter, IsMove}
use Rattle.olc_state.specs.inner.Shown.{flight, held_at, made_at, shown, spots_of}
use Rattle.olc_state.specs.inner.Slots.{made_node}
use Rattle.olc_state.specs.inner.Tables.{IsIn, IsPlaced}
use Rattle.olc_state.specs.inner.Tails.{one_more}
use Rattle.olc_state.specs.inner.Turns.{IsCourse, MayFollow, ShowsNodes, work_of}
use Rattle.olc_state.specs.inner.World.{NodeMap}
use Rattle.olc_state.proofs.Options.{none_some}
use Rattle.olc_state.proofs.Reaching.{one}
use Rattle.olc_state.proofs.Records.{at}
use Rattle.olc_state.proofs.States.{state_is}
use Rattle.olc_state.proofs.Members.{first_in, told, true_or_not}
use Rattle.olc_laws.proofs.Contents.{content_same}
use Rattle.olc_laws.proofs.Effects.{Effect, beside_one}
use Rattle.olc_laws.proofs.Making.{Makes, GivesBack as IsBack, made_effect, made_pairs, given_back_effect, given_back_pairs}
use Rattle.olc_laws.proofs.Pairs.{SamePairs}
use Rattle.olc_write.specs.inner.Makings.{IsGivenUp}
use Rattle.olc_write.proofs.MakingNodes.{sizes-without}
use Rattle.olc_write.proofs.Showing.{nodes_put, nodes_same, nodes_without}

not-in_none : (s : ℕ) → IsTrue (is_in s []) → ⊥
not-in_none s e = cc

in-more : (s slot : ℕ) (xs : List ℕ) → IsTrue (is_in s (slot ∷ xs)) → (slot ≡ s) ⊎ IsTrue (is_in s xs)
in-more s slot xs h =
    elim (eqb_tells slot s) [
      | inl e ↦ inl e.1
      | inr off ↦ inr (subst (λ (b : Bool). IsTrue b) (rw (ne_eqb slot s off.1) refl) h)
    ]

in-later : (s slot : ℕ) (xs : List ℕ) → IsTrue (is_in s xs) → IsTrue (is_in s (slot ∷ xs))
in-later s slot xs h =
    elim (eqb_tells slot s) [
      | inl e ↦ rw (eq-eqb slot s e.1) refl
      | inr off ↦ rw (ne_eqb slot s off.1) h
    ]

no-remembered : (remembered : List (ℕ × ℕ)) (slot word : ℕ) → remembered ≡ [] → lookup remembered slot ≡ Some word → ⊥
no-remembered remembered slot word none h = none_some word (subst (λ (z : List (ℕ × ℕ)). lookup z slot ≡ Some word) none h)

-- two stages at which the same nodes are held, at the second of which no words are remembered
pub record Follows (stage next : Stage) : Type 0 where
  pub holds : held_at stage ≢ []
  pub held : held_at next ≡ held_at stage
  pub named : named_at next ≡ named_at stage
  pub remembered : spots_of next ≡ []

module _ {M : Type 0} where
  -- a state after an event that leaves the count and the number of pairs
  after_with : (s s' : State M) (id : ℕ) (next : CallState M) (books books' : StoreCounts) (nodes : List (ℕ × state.VersionedNode M)) (charge : Option Charge) → IsAfter s s' id next books books'
      → s'.nodes ≡ nodes → books'.count ≡ books.count → books'.entries ≡ books.entries → books'.charge ≡ charge
      → s' ≡ with_call (record s { nodes = nodes; charge = charge }) id next
  after_with s s' id next books books' nodes charge after here count entries charged =
      state_is s' nodes s.root s.count (put s.calls id next) s.seats s.entries charge
      here
      (ap (λ (z : State M). z.root) after.is)
      (ap (λ (z : State M). z.count) after.is ∙ (count ∙ sym (ap (λ (z : StoreCounts). z.count) after.was)))
      (ap (λ (z : State M). z.calls) after.is)
      (ap (λ (z : State M). z.seats) after.is)
      (ap (λ (z : State M). z.entries) after.is ∙ (entries ∙ sym (ap (λ (z : StoreCounts). z.entries) after.was)))
      (ap (λ (z : State M). z.charge) after.is ∙ charged)

  -- the course of a Make
  make_course : (t t' : NodeMap M) (root : ℕ) (stage : Stage) (task : Task M) (next : Record M) (env : Env M) (slot : Option ℕ) (out : Outcome M)
      → Follows stage next.stage → ((z : ℕ) → MayFollow t' next.stage next.task.last z → ⊥) → next.task.outline ≡ task.outline → work_of t' next < work_of t (at stage task)
      → IsCourse t t' root (at stage task) env next (report_of kind.Make slot 0 true) out
  make_course t t' root stage task next env slot out follows reads outline less = record {
    touches = λ z e other. absurd (other refl);
    names = λ z h. inr (inl (subst (λ (n : List ℕ). IsIn z n) follows.named h));
    reads = λ z h. absurd (reads z h);
    outline = outline;
    keeps = λ current z word h. absurd (no-remembered (spots_of next.stage) z word follows.remembered h);
    falls = λ served. inr less;
  }

module _ {M : Type 0} (Granted : Type 0) (same : M → M → Bool) (t t' : NodeMap M) (root pin : ℕ) (books books' : StoreCounts) (task : Task M) (env : Env M) (stage : Stage) (placed : IsPlaced t root) (work : IsAtWork (flight pin (at stage task))) (may : MayMake (flight pin (at stage task))) where
  -- A NODE IS ADDED
  pub granted : (next : Stage) (slot : ℕ) (a : TableNode M) → Makes t t' slot (made_node a)
      → books'.count ≡ books.count → books'.entries ≡ books.entries → books'.charge ≡ add_charge books.charge (stated_size a.form)
      → Follows stage next → made_at next ≡ slot ∷ made_at stage → flight pin (at next task) ≡ record (flight pin (at stage task)) { made = slot ∷ made_at stage; remembered = spots_of next }
      → ((z : ℕ) → MayFollow t' next task.last z → ⊥) → work_of t' (at next task) < work_of t (at stage task)
      → length (made_at stage) ≤ 1 → ((s : State M) → ShowsNodes t root s → IsNewNode s (flight pin (at stage task)) a) → Facts Granted same t' root pin (at next task)
      → IsMove Granted same t t' root pin books books' (at stage task) env (at next task) (report_of kind.Make (Some slot) 0 true) Going
  granted next slot a makes count entries charge follows made alike reads less few new facts =
      let Mine : ℕ → Type 0 = Holding stage in
      let effect : Effect t t' root Mine (λ p. Unit {0}) (slot ∷ []) (slot ∷ []) = made_effect makes root Mine (λ p. Unit {0}) placed in
      let others : (o : ℕ) → o ≢ slot → t' o ≡ t o = λ o ne. makes.others o (λ h. elim h [ inl e ↦ ne (sym e) | inr never ↦ never ]) in
      let mine : (s : ℕ) → Mine s → Holding next s = λ s h. elim h [
        | inl l ↦ inl (subst (λ (z : List ℕ). IsTrue (is_in s z)) (sym follows.held) l)
        | inr m ↦ inr (subst (λ (z : List ℕ). IsTrue (is_in s z)) (sym made) (in-later s slot (made_at stage) m))
      ] in
      record {
        facts = facts;
        counts = omega (arith, count);
        others = λ p below. effect.others p tt;
        privates = effect.privates;
        holds = λ s h. elim h [
          | inl l ↦ inl (inl (subst (λ (z : List ℕ). IsTrue (is_in s z)) follows.held l))
          | inr m ↦ elim (in-more s slot (made_at stage) (subst (λ (z : List ℕ). IsTrue (is_in s z)) made m)) [
            | inl e ↦ inr (inl (subst (λ (z : ℕ). t z ≡ None) e makes.empty))
            | inr old ↦ inl (inr old)
          ]
        ];
        holders = λ s need. elim (effect.needs s need) [
          | inl is ↦ elim is [
            | inl e ↦ inl (inr (subst (λ (z : List ℕ). IsTrue (is_in s z)) (sym made) (subst (λ (z : ℕ). IsTrue (is_in s (z ∷ made_at stage))) (sym e) (first_in s (made_at stage)))))
            | inr never ↦ absurd never
          ]
          | inr was ↦ elim (true_or_not (is_in s (held_at stage))) [
            | inl held ↦ inl (mine s (inl held))
            | inr free ↦ elim (true_or_not (is_in s (made_at stage))) [
              | inl own ↦ inl (mine s (inr own))
              | inr other ↦ inr (was.0, (λ h. elim h [ inl l ↦ free l | inr m ↦ other m ]))
            ]
          ]
        ];
        course = make_course t t' root stage task (at next task) env (Some slot) Going follows reads refl less;
        does = λ s s' id shows shows' map map' after.
            let nodes : s'.nodes ≡ put s.nodes slot (unlinked a) = nodes_put t' root s' shows' map' t s shows map slot (made_node a) makes.after others in
            let charged : books'.charge ≡ add_charge s.charge (stated_size a.form) = charge ∙ ap (λ (z : StoreCounts). add_charge z.charge (stated_size a.form)) (sym after.was) in (
              work,
              may,
              inl (record {
                slot = slot;
                made = a;
                free = shows.nodes slot ∙ ap shown makes.empty;
                reports = (refl, refl);
                holds = follows.holds;
                few = few;
                allowed = new s shows;
                becomes = record {
                  next = flight pin (at next task);
                  is = alike;
                  remembered = λ z word h. absurd (no-remembered (spots_of next) z word follows.remembered h);
                  after = after_with s s' id (flight pin (at next task)) books books' (put s.nodes slot (unlinked a)) (add_charge s.charge (stated_size a.form)) after nodes count entries charged;
                };
              }),
            );
        carries = λ s s' shows shows' m content. record {
          content = m;
          content_is = content_same t t' root s s' placed effect.placed shows shows' (made_pairs makes) m content;
          carries = refl;
          counted = λ e. entries ∙ e;
        };
      }

  -- WHAT THE CALL HAS MADE IS FREED: the slots that become empty, the state's nodes and their sizes
  pub record Leaves (made : Option ℕ) : Type 0 where
    pub effect : Effect t t' root (Holding stage) (λ p. Unit {0}) (one_more made) []
    pub pairs : SamePairs t t'
    pub nodes : (s s' : State M) → ShowsNodes t root s → ShowsNodes t' root s' → IsMap s.nodes → IsMap s'.nodes
        → s'.nodes ≡ without_all s.nodes (one_more made)
    pub size : ℕ
    pub sizes : (s : State M) → ShowsNodes t root s → sizes_of s.nodes ≡ sizes_of (without_all s.nodes (one_more made)) + size
    pub charged : books.charge ≡ add_charge books'.charge size

  no_charge : (charge : Option Charge) → charge ≡ add_charge charge 0
  no_charge None = refl
  no_charge (Some c) = ap (λ (n : ℕ). Some (record { bytes = n; limit = c.limit })) (omega arith)

  leaves : (made : Option ℕ) → made_at stage ≡ one_more made → IsGivenUp t t' made books.charge books'.charge → Leaves made
  leaves None is up =
      let back : IsBack t t' (Holding stage) [] = record { each = tt; others = λ o out. up.nodes o } in
      record {
        effect = given_back_effect back root (λ p. Unit {0}) placed;
        pairs = given_back_pairs back;
        nodes = λ s s' shows shows' map map'. nodes_same t' root s' shows' map' t s shows map up.nodes;
        size = 0;
        sizes = λ s shows. omega arith;
        charged = sym up.charged ∙ no_charge books'.charge;
      }
  leaves (Some slot) is up =
      let mine : Holding stage slot = inr (subst (λ (z : List ℕ). IsTrue (is_in slot z)) (sym is) (first_in slot [])) in
      let back : IsBack t t' (Holding stage) (slot ∷ []) = record {
        each = (record { node = up.node; here = up.here; private = up.private; mine = mine; gone = up.after }, tt);
        others = beside_one t t' slot up.others;
      } in
      record {
        effect = given_back_effect back root (λ p. Unit {0}) placed;
        pairs = given_back_pairs back;
        nodes = λ s s' shows shows' map map'. nodes_without t' root s' shows' map' t s shows map slot up.after up.others;
        size = stated_size up.node.node.form;
        sizes = λ s shows. sizes-without s.nodes slot (one up.node) (shows.nodes slot ∙ ap shown up.here);
        charged = up.charged;
      }

  -- A MAKE IS REFUSED
  pub refuses : (next : Record M) (out : Outcome M) (made : Option ℕ) → made_at stage ≡ one_more made → IsGivenUp t t' made books.charge books'.charge
      → books'.count ≡ books.count → books'.entries ≡ books.entries → Follows stage next.stage → made_at next.stage ≡ []
      → flight pin next ≡ record (refused task.progress (record (flight pin (at stage task)) { made = [] })) { remembered = spots_of next.stage }
      → out ≡ refusal task.progress → ((m : Pairs M) → ContentAfter same m m (flight pin (at stage task)) out)
      → ((z : ℕ) → MayFollow t' next.stage next.task.last z → ⊥) → next.task.outline ≡ task.outline → work_of t' next < work_of t (at stage task)
      → Facts Granted same t' root pin next
      → IsMove Granted same t t' root pin books books' (at stage task) env next (report_of kind.Make None 0 true) out
  refuses next out made is up count entries follows none alike reports quiet reads outline less facts =
      let Mine : ℕ → Type 0 = Holding stage in
      let left : Leaves made = leaves made is up in
      record {
        facts = facts;
        counts = omega (arith, count);
        others = λ p below. left.effect.others p tt;
        privates = left.effect.privates;
        holds = λ s h. elim h [
          | inl l ↦ inl (inl (subst (λ (z : List ℕ). IsTrue (is_in s z)) follows.held l))
          | inr m ↦ absurd (not-in_none s (subst (λ (z : List ℕ). IsTrue (is_in s z)) none m))
        ];
        holders = λ s need. elim (left.effect.needs s need) [
          | inl never ↦ absurd never
          | inr was ↦ elim (true_or_not (is_in s (held_at stage))) [
            | inl held ↦ inl (inl (subst (λ (z : List ℕ). IsTrue (is_in s z)) (sym follows.held) held))
            | inr free ↦ inr (
              was.0,
              (λ h. elim h [
                | inl l ↦ free l
                | inr m ↦ was.1 (told s (one_more made) (subst (λ (z : List ℕ). IsTrue (is_in s z)) is m))
              ]),
            )
          ]
        ];
        course = make_course t t' root stage task next env None out follows reads outline less;
        does = λ s s' id shows shows' map map' after.
            let nodes : s'.nodes ≡ without_all s.nodes (made_at stage) = left.nodes s s' shows shows' map map' ∙ ap (without_all s.nodes) (sym is) in (
              work,
              may,
              inr (record {
                charge = books'.charge;
                reports = (refl, reports);
                holds = follows.holds;
                frees = record {
                  size = left.size;
                  sizes = subst (λ (z : List ℕ). sizes_of s.nodes ≡ sizes_of (without_all s.nodes z) + left.size) (sym is) (left.sizes s shows);
                  charged = ap (λ (z : StoreCounts). z.charge) after.was ∙ left.charged;
                };
                becomes = record {
                  next = flight pin next;
                  is = alike;
                  remembered = λ z word h. absurd (no-remembered (spots_of next.stage) z word follows.remembered h);
                  after = after_with s s' id (flight pin next) books books' (without_all s.nodes (made_at stage)) books'.charge after nodes count entries refl;
                };
              }),
            );
        carries = λ s s' shows shows' m content. record {
          content = m;
          content_is = content_same t t' root s s' placed left.effect.placed shows shows' left.pairs m content;
          carries = quiet m;
          counted = λ e. entries ∙ e;
        };
      }
