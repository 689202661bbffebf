-- How a Start, a seat and a Reclaim change the calls of all numbers, and which call a caller hands over.
use Rattle.std.proofs.Common.{◌≡◌, ◌≢◌, ℕ, Bool, true, false, IsTrue, [], ◌∷◌, length, suc, arith, Option, Some, None, IsSome, Result, Ok, Err, IfOk, OnErr, inl, inr, refl, sym, subst, ap, ◌∙◌}
use Rattle.spec_map.proofs.MapLaws.{lookup-put_same, lookup-put_other}
use Rattle.spec_map.specs.Map.{Pairs, lookup}
use Rattle.node_table.specs.inner.Kinds.{mapped}
use Rattle.spec_olc.specs.Calls.{Outline, outline_of}
use Rattle.spec_olc.specs.Content.{IsContent}
use Rattle.spec_olc.specs.Kinds.{IsStart, IsReclaim, begun}
use Rattle.spec_olc.specs.Lists.{is_in}
use Rattle.spec_olc.specs.Meaning.{in_some, flight_of, op_of, meant}
use Rattle.spec_olc.specs.Seats.{IsHanded, IsReseated, IsSeating}
use Rattle.spec_olc.specs.State.{State, CallState, with_call}
use Rattle.spec_olc.specs.declared.types.Asking.{Asking}
use Rattle.spec_olc.specs.declared.types.Asking.TheVariants.{Fresh}
use Rattle.spec_olc.specs.declared.types.Op.{Op}
use Rattle.spec_olc.specs.declared.types.Op.TheVariants.{Get, Insert, Remove, ComputeIfPresent, ComputeOrInsert, CompareExchange, Range}
use Rattle.spec_olc.specs.declared.types.Progress.{Progress}
use Rattle.spec_olc.specs.declared.types.Progress.TheVariants as progress
use Rattle.spec_olc.specs.declared.types.Report.{Report}
use Rattle.olc_state.proofs.Changes.{same_content}
use Rattle.olc_state.proofs.Entries.{lookup-mapped}
use Rattle.share_backend.specs.declared.lent.CallStage.{CallStage}
use Rattle.share_backend.specs.declared.lent.CallStage.TheVariants.{Ready, Running}
use Rattle.share_backend.specs.Stages.{IsOf}
use Rattle.share_machine.specs.Places.{staged, stage_of, place_of, place_in}

some_is : {X : Type 0} (x y : X) → Some x ≡ Some y → x ≡ y
some_is x y e = cc

none_some : {X : Type 0} (x : X) → None ≡ Some x → ⊥
none_some x e = cc

pub same_error : {X E : Type 0} (x y : E) (a b : Result X E) → a ≡ Err x → b ≡ Err y → a ≡ b → x ≡ y
same_error x y a b p q e = cc

pub no_pairs : {M : Type 0} (m : Pairs M) → length m ≡ 0 → m ≡ []
no_pairs [] e = refl
no_pairs (p ∷ m) e = absurd (some_pairs (length m) e)
  where
    some_pairs : (n : ℕ) → suc n ≡ 0 → ⊥
    some_pairs n e = omega (arith, e)

not_so : (b : Bool) → (IsTrue b → ⊥) → b ≡ false
not_so true h = absurd (h refl)
not_so false h = refl

none_if : {X : Type 0} (o : Option X) → (IsSome o → ⊥) → o ≡ None
none_if None h = refl
none_if (Some x) h = absurd (h refl)

nothing_there : (X : Type 0) → let n : Option X = None in IsSome n → ⊥
nothing_there X h = cc

pub no_some : (X : Type 0) (o : Option X) → o ≡ None → IsSome o → ⊥
no_some X o e h = nothing_there X (subst (λ (z : Option X). IsSome z) e h)

module _ {M : Type 0} where
  known_by : (b : Bool) (f : Option (CallState M)) (p : CallStage M) → place_of b f ≡ Some p → (b ≡ true) × (place_of true f ≡ Some p)
  known_by true f p e = (refl, e)
  known_by false f p e = absurd (none_some p e)

  -- A START of a number that is ready
  pub started : (old new : State M) (id : ℕ) (op : Op M) (report : Report) → IsStart old new id op report → place_in old id ≡ Some Ready → place_in new id ≡ Some (Running (outline_of op) op Fresh)
  started old new id op report h here =
      let known = known_by (is_in id old.seats) (lookup old.calls id) Ready here in
      ap (λ (s : State M). place_in s id) h.after
      ∙ (ap (λ (b : Bool). place_of b (lookup (with_call old id (begun op old.count)).calls id)) known.0
      ∙ ap (place_of true) (lookup-put_same old.calls id (begun op old.count)))

  pub started_others : (old new : State M) (id : ℕ) (op : Op M) (report : Report) → IsStart old new id op report → (k : ℕ) → k ≢ id → place_in new k ≡ place_in old k
  started_others old new id op report h k ne =
      ap (λ (s : State M). place_in s k) h.after ∙ ap (place_of (is_in k old.seats)) (lookup-put_other old.calls id (begun op old.count) k ne)

  pub started_content : (old new : State M) (id : ℕ) (op : Op M) (report : Report) → IsStart old new id op report → (m : Pairs M) → IsContent old m → IsContent new m
  started_content old new id op report h m c =
      subst (λ (s : State M). IsContent s m) (sym h.after) (same_content old (with_call old id (begun op old.count)) refl refl m c)

  -- A RECLAIM leaves all numbers unchanged
  pub reclaimed : (old new : State M) (slot : ℕ) (report : Report) → IsReclaim old new slot report → (k : ℕ) → place_in new k ≡ place_in old k
  reclaimed old new slot report h k = ap (λ (s : State M). place_in s k) h.after

module _ {P M : Type 0} (meaning : P → M) where
  flight_there : (s : State P) (id : ℕ) → lookup (meant meaning s).calls id ≡ in_some (flight_of meaning) (lookup s.calls id)
  flight_there s id = lookup-mapped (flight_of meaning) s.calls id

  absent : (o : Option (CallState P)) → in_some (flight_of meaning) o ≡ None → o ≡ None
  absent None e = refl
  absent (Some c) e = absurd (none_some (flight_of meaning c) (sym e))

  -- A SEAT for a number that wasn't seated
  pub seated : (old new : State P) (id : ℕ) → IsSeating old new id
      → (place_in (meant meaning old) id ≡ None) × (place_in (meant meaning new) id ≡ Some Ready) × ((k : ℕ) → k ≢ id → place_in (meant meaning new) k ≡ place_in (meant meaning old) k)
  seated old new id h =
      let unseated : is_in id old.seats ≡ false = not_so (is_in id old.seats) (λ e. h.free (inl e)) in
      let unflown : lookup old.calls id ≡ None = none_if (lookup old.calls id) (λ e. h.free (inr e)) in
      let calls : new.calls ≡ old.calls = ap (λ (s : State P). s.calls) h.seats.rest in
      let here : lookup (meant meaning new).calls id ≡ None = flight_there new id ∙ (ap (λ fs. in_some (flight_of meaning) (lookup fs id)) calls ∙ ap (in_some (flight_of meaning)) unflown) in (
        ap (λ (b : Bool). place_of b (lookup (meant meaning old).calls id)) unseated,
        (λ i. place_of (h.seats.here i) (here i)),
        (λ k ne. (λ i. place_of (h.seats.others k ne i) (lookup (mapped (flight_of meaning) (calls i)) k))),
      )

  -- and a number whose seat is freed
  pub unseated : (old new : State P) (id : ℕ) → IsReseated old new id false
      → (place_in (meant meaning new) id ≡ None) × ((k : ℕ) → k ≢ id → place_in (meant meaning new) k ≡ place_in (meant meaning old) k)
  unseated old new id h =
      let calls : new.calls ≡ old.calls = ap (λ (s : State P). s.calls) h.rest in (
        ap (λ (b : Bool). place_of b (lookup (meant meaning new).calls id)) h.here,
        (λ k ne. (λ i. place_of (h.others k ne i) (lookup (mapped (flight_of meaning) (calls i)) k))),
      )

  pub reseated_content : (old new : State P) (id : ℕ) (b : Bool) → IsReseated old new id b → (m : Pairs M) → IsContent (meant meaning old) m → IsContent (meant meaning new) m
  reseated_content old new id b h m c =
      same_content (meant meaning old) (meant meaning new) (ap (λ (s : State P). (meant meaning s).nodes) h.rest) (ap (λ (s : State P). s.root) h.rest) m c

  -- a number that is ready has no call
  pub unflown : (s : State P) (id : ℕ) → place_in (meant meaning s) id ≡ Some Ready → lookup s.calls id ≡ None
  unflown s id here =
      let known = known_by (is_in id s.seats) (lookup (meant meaning s).calls id) Ready here in
      none_ready (lookup s.calls id) (ap (place_of true) (sym (flight_there s id)) ∙ known.1)
    where
      never : (o : Outline) (op : Option (Op M)) (p : Progress) (a : Asking M) → staged o op p a ≡ Ready → ⊥
      never o (Some op) progress.Open a e = cc
      never o (Some op) progress.Decided a e = cc
      never o (Some op) progress.Refused a e = cc
      never o None progress.Open a e = cc
      never o None progress.Decided a e = cc
      never o None progress.Refused a e = cc

      none_ready : (f : Option (CallState P)) → place_of true (in_some (flight_of meaning) f) ≡ Some Ready → f ≡ None
      none_ready None e = refl
      none_ready (Some c) e = let f = flight_of meaning c in absurd (never f.outline f.op f.progress f.asking (some_is (stage_of f) Ready e))

  outline_means : (op : Op P) → outline_of (op_of meaning op) ≡ outline_of op
  outline_means (Get k) = refl
  outline_means (Insert k v) = refl
  outline_means (Remove k) = refl
  outline_means (ComputeIfPresent k) = refl
  outline_means (ComputeOrInsert k v) = refl
  outline_means (CompareExchange k old new) = refl
  outline_means (Range a b n) = refl

  -- so a call in flight has the outline with which it was started
  pub started_as : (old new : State M) (id : ℕ) (op : Op P) (report : Report) → IsStart old new id (op_of meaning op) report → place_in old id ≡ Some Ready
      → place_in new id ≡ Some (Running (outline_of op) (op_of meaning op) Fresh)
  started_as old new id op report h here =
      started old new id (op_of meaning op) report h here ∙ ap (λ (o : Outline). Some (Running o (op_of meaning op) Fresh)) (outline_means op)

  of_staged : (u : Outline) (op : Option (Op M)) (p : Progress) (a : Asking M) (o : Outline) → IsOf o (staged u op p a) → u ≡ o
  of_staged u (Some op) progress.Open a o h = h
  of_staged u (Some op) progress.Decided a o h = absurd h
  of_staged u (Some op) progress.Refused a o h = absurd h
  of_staged u None progress.Open a o h = absurd h
  of_staged u None progress.Decided a o h = h
  of_staged u None progress.Refused a o h = h

  -- THE CALL of a number is the one that is handed over
  pub handed : (s : State P) (id : ℕ) (op : Op P) (p : CallStage M) → place_in (meant meaning s) id ≡ Some p → IsOf (outline_of op) p → IsHanded s id op
  handed s id op p here of =
      let known = known_by (is_in id s.seats) (lookup (meant meaning s).calls id) p here in
      there (lookup s.calls id) refl (ap (place_of true) (sym (flight_there s id)) ∙ known.1)
    where
      there : (f : Option (CallState P)) → lookup s.calls id ≡ f → place_of true (in_some (flight_of meaning) f) ≡ Some p → IsHanded s id op
      there None e h = absurd (subst (λ (x : CallStage M). IsOf (outline_of op) x) (sym (some_is Ready p h)) of)
      there (Some c) e h =
          let f = flight_of meaning c in
          record {
            call = c;
            in_flight = e;
            same = sym (of_staged f.outline f.op f.progress f.asking (outline_of op) (subst (λ (x : CallStage M). IsOf (outline_of op) x) (sym (some_is (stage_of f) p h)) of));
          }

  -- a seat that may be refused
  pub seat_content : {E : Type 0} (r : Result ℕ E) (old new : State P) → IfOk r (λ id. IsSeating old new id) → OnErr r (new ≡ old)
      → (m : Pairs M) → IsContent (meant meaning old) m → IsContent (meant meaning new) m
  seat_content (Ok id) old new ok err m c = reseated_content old new id true ok.seats m c
  seat_content (Err e) old new ok err m c = subst (λ (s : State P). IsContent (meant meaning s) m) (sym err) c

  pub seat_ok : {E : Type 0} (r : Result ℕ E) (old new : State P) → IfOk r (λ id. IsSeating old new id)
      → IfOk r (λ id. (place_in (meant meaning old) id ≡ None) × (place_in (meant meaning new) id ≡ Some Ready) × ((k : ℕ) → k ≢ id → place_in (meant meaning new) k ≡ place_in (meant meaning old) k))
  seat_ok (Ok id) old new ok = seated old new id ok
  seat_ok (Err e) old new ok = tt
