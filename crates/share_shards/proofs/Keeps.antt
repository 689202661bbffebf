-- Each step of the sharded lock keeps its rule.
use Rattle.std.proofs.Common.{◌≡◌, ◌≢◌, ℕ, ◌+◌, ◌*◌, ◌<◌, ◌≤◌, Bool, true, false, cond, eqb, zero, suc, ◌⊎◌, List, [], ◌∷◌, ◌++◌, map, All, length, get_or, set, sym, refl, ap, ◌∙◌, subst, inl, inr, ⊎_elim, arith, append_assoc, get_or-set_same, get_or-set_other, length-set, nat_eq, eq-eqb, ne_eqb, append-nil}
use Rattle.std.proofs.lemmas.Bool.{true≢false, false_from_ne_true, eqb-true}
use Rattle.std.proofs.lemmas.List.{length-map, set-get_or}
use Rattle.std.specs.Prelude.{Option, None, Some, unwrap_or}
use mathlib.Core.Logic.{dite}
use mathlib.Core.Option.{none, some, some-injective, some-ne-none}
use native.Mathlib.Decide.{ℕ_discrete}
use lib.ListN.{get_elem?}
use prog.Atomic.{either}
use Rattle.atomic_table.specs.Table.{State, Me, step, keeps, takes, gives, stepped, Allows, Enters, Splits, Joins, opening}
use Rattle.atomic_table.proofs.Lists.{at_set, set_here, set_else}
use Rattle.share_parts.specs.Parts.{kept, Ascends, AreApart, RunsOnWhole}
use Rattle.share_parts.proofs.Parts.{ascends_kept, kept-kept, kept-none, part_runs}
use Rattle.share_rule.specs.History.{Entry, StartsWith, entry, entries_by, entries_of, IsLegalHistory}
use Rattle.share_rule.specs.inner.Hold.{StepsBy}
use Rattle.share_rule.specs.inner.Rule.{HasSeen, Owns}
use Rattle.share_rule.specs.inner.Steps.{seen_after}
use Rattle.share_rule.proofs.Holds.{history_on}
use Rattle.share_rule.proofs.Keeps.{entries-append}
use Rattle.share_shards.specs.Held.{is_in, keys_at, keys_of, numbers}
use Rattle.share_shards.specs.inner.SeatView.{ShardView, Blank, Caller, Paired}
use Rattle.share_shards.specs.inner.Rule.{Fits, IsHeld, ShardRule}
use Rattle.share_shards.specs.inner.Steps.{Tries, Won, MayAppend, Appended}
use Rattle.share_shards.proofs.Lists.{is_in_here, is_in_next, found_in, value_in, none_in, at_here, at_next, unsome}
use Rattle.spec_map.specs.Call.{Operation}
use Rattle.spec_map.specs.Map.{Pairs, lookup}

module _ {T : Type 0} where
  pub starts_same : (history : List (Entry T)) → StartsWith history history
  starts_same history = ([], sym (append-nil history))

  starts_trans : (a b c : List (Entry T)) → StartsWith a b → StartsWith b c → StartsWith a c
  starts_trans a b c p q = (q.0 ++ p.0, p.1 ∙ (ap (λ (x : List (Entry T)). x ++ p.0) q.1 ∙ append_assoc c q.0 p.0))

  longer_fits : (history history' : List (Entry T)) (c : ℕ) (s : List (Entry T)) → StartsWith history' history → entries_of c history' ≡ entries_of c history → HasSeen history c s → HasSeen history' c s
  longer_fits history history' c s more same f = record { begins = starts_trans history' history s more f.begins; own = same ∙ f.own }

  -- a hold makes entries of its own caller alone
  no_other : (c d : ℕ) (operations : List (Operation ℕ T T)) → d ≢ c → entries_of d (entries_by c operations) ≡ []
  no_other c d [] ne = refl
  no_other c d (x ∷ xs) ne =
      let later : List (Entry T) = entries_of d (entries_by c xs) in ap (λ (b : Bool). cond b (entry c x ∷ later) later) (ne_eqb d c ne) ∙ no_other c d xs ne

  -- what is seen after a hold fits the history then
  fit_after : (c : ℕ) (seen history : List (Entry T)) (operations : List (Operation ℕ T T)) → HasSeen history c seen → HasSeen (history ++ entries_by c operations) c (seen_after seen history (entries_by c operations))
  fit_after c seen history [] f = subst (λ (l : List (Entry T)). HasSeen l c seen) (sym (append-nil history)) f
  fit_after c seen history (x ∷ xs) f = record { begins = starts_same (history ++ entries_by c (x ∷ xs)); own = refl }

-- one place of a function changes
abbrev pub with_at : {A : Type 0} → (ℕ → A) → ℕ → A → ℕ → A
with_at f i a j = cond (nat_eq j i) a (f j)

with_now : {A : Type 0} (f : ℕ → A) (i : ℕ) (a : A) → with_at f i a i ≡ a
with_now f i a = ap (λ (b : Bool). cond b a (f i)) (eq-eqb i i refl)

with_else : {A : Type 0} (f : ℕ → A) (i : ℕ) (a : A) (j : ℕ) → j ≢ i → with_at f i a j ≡ f j
with_else f i a j ne = ap (λ (b : Bool). cond b a (f j)) (ne_eqb j i ne)

same_shard : (i j : ℕ) → 8 * i ≡ 8 * j → i ≡ j
same_shard i j e = omega (arith, e)

-- the words of two shards are two
apart : (i j : ℕ) → j ≢ i → 8 * j ≢ 8 * i
apart i j ne e = ne (omega arith)

module _ {T S : Type 0} (same : T → T → Bool) (content : S → Pairs T → Type 0) (shard : ℕ → ℕ) (count : ℕ) where
  abbrev D : Type 0
  D = ShardView T S

  abbrev St : Type 0
  St = State (Option S) D

  abbrev M : Type 0
  M = Me (Option S) D

  abbrev Rule : St → Type 0
  Rule = ShardRule same content shard count

  -- what another seat knows stays so
  other_fits : (o o' : ℕ → ℕ) (n n' : ℕ) (history history' : List (Entry T)) (whole whole' : Pairs T) (h h' : ℕ → ℕ) (x x' : ℕ → S) (ws ws' : List ℕ) (j : ℕ) → StartsWith history' history
      → ((c : ℕ) → Owns o n j c → Owns o' n' j c × (entries_of c history' ≡ entries_of c history))
      → ((i : ℕ) (y : S) → IsHeld count h x ws j i y → IsHeld count h' x' ws' j i y)
      → ((held : List (ℕ × S)) → ((i : ℕ) (y : S) → lookup held i ≡ Some y → IsHeld count h x ws j i y) → kept (keys_of shard (numbers held)) whole ≡ kept (keys_of shard (numbers held)) whole')
      → (v : D) → Fits shard count o n history whole h x ws j v → Fits shard count o' n' history' whole' h' x' ws' j v
  other_fits o o' n n' history history' whole whole' h h' x x' ws ws' j more same hold stay Blank k = tt
  other_fits o o' n n' history history' whole whole' h h' x x' ws ws' j more same hold stay (Caller c s pairs held) k =
      let a = same c k.0 in (a.0, longer_fits history history' c s more a.1 k.1, k.2 ∙ stay held k.3, λ i y e. hold i y (k.3 i y e))
  other_fits o o' n n' history history' whole whole' h h' x x' ws ws' j more same hold stay (Paired c d s t) k =
      let a = same c k.0 in let b = same d k.1 in (a.0, b.0, k.2, longer_fits history history' c s more a.1 k.3, longer_fits history history' d t more b.1 k.4)

  seats_stay : (K : ℕ → D → Type 0) (vs : List D) (me : ℕ) (w : D) → K me w → ((j : ℕ) (d : D) → j ≢ me → get_elem? vs j ≡ some d → K j d)
      → (j : ℕ) (d : D) → get_elem? (set vs me w) j ≡ some d → K j d
  seats_stay K vs me w mine others j d e = ⊎_elim (λ (t : (j ≡ me) × (w ≡ d)). subst (λ (x : ℕ × D). K x.0 x.1) (λ i. (sym t.0 i, t.1 i)) mine)
      (λ (t : (j ≢ me) × (get_elem? vs j ≡ some d)). others j d t.0 t.1) (at_set vs me j w d e)

  -- a step that changes no word
  looked : (s : St) (r : Rule s) (o : ℕ → ℕ) (n i id : ℕ) (cs : List (ℕ × Option S)) (w : D)
      → ((j c : ℕ) → j ≢ id → Owns r.owner r.next j c → Owns o n j c)
      → Fits shard count o n r.history r.whole r.holder r.value s.words id w
      → ((c : ℕ) → n ≤ c → entries_of c r.history ≡ [])
      → Rule (stepped s i (get_or s.words i 0) id cs w keeps)
  looked s r o n i id cs w same mine unborn = let P : List ℕ → Type 0 = λ ws. Rule record { words = ws; homes = s.homes; views = set s.views id w } in
      subst P (sym (set-get_or s.words i 0)) (record {
        history = r.history;
        whole = r.whole;
        owner = o;
        next = n;
        holder = r.holder;
        value = r.value;
        wide = r.wide;
        many = r.many;
        run = r.run;
        ordered = r.ordered;
        parts = r.parts;
        home = r.home;
        each_seat = seats_stay (Fits shard count o n r.history r.whole r.holder r.value s.words) s.views id w mine
            (λ j d other e. other_fits r.owner o r.next n r.history r.history r.whole r.whole r.holder r.holder r.value r.value s.words s.words j (starts_same r.history) (λ c k. (same j c other k, refl))
            (λ i y k. k) (λ held k. refl) d (r.each_seat j d e));
        unborn = unborn;
      })

  -- TRIES: the lock of the shard i is taken, where it was free
  module _ (s : St) (r : Rule s) (i z id c : ℕ) (seen : List (Entry T)) (pairs : Pairs T) (held : List (ℕ × S)) (cs : List (ℕ × Option S)) (within : i < count) (shut : z ≢ 0) (free : get_or s.words (8 * i) 0 ≡ 0)
      (known : Fits shard count r.owner r.next r.history r.whole r.holder r.value s.words id (Caller c seen pairs held)) where
    abbrev held1 : List (ℕ × S)
    held1 = (i, r.value i) ∷ held

    abbrev pairs1 : Pairs T
    pairs1 = kept (keys_of shard (numbers held1)) r.whole

    abbrev ws1 : List ℕ
    ws1 = set s.words (8 * i) z

    abbrev h1 : ℕ → ℕ
    h1 = with_at r.holder i id

    now : get_or ws1 (8 * i) 0 ≡ z
    now = get_or-set_same s.words (8 * i) z 0 (omega (arith, within, r.wide))

    else_word : (j : ℕ) → j ≢ i → get_or ws1 (8 * j) 0 ≡ get_or s.words (8 * j) 0
    else_word j ne = get_or-set_other s.words (8 * i) (8 * j) z 0 (apart i j ne)

    -- what is held was taken before
    still_held : (j k : ℕ) (y : S) → IsHeld count r.holder r.value s.words j k y → IsHeld count h1 r.value ws1 j k y
    still_held j k y m = let ne : k ≢ i = λ at. m.taken (ap (λ (l : ℕ). get_or s.words (8 * l) 0) at ∙ free) in record {
      is = m.is;
      by = m.by ∙ sym (with_else r.holder i id k ne);
      taken = λ e. m.taken (sym (else_word k ne) ∙ e);
      within = m.within;
    }

    now_held : (k : ℕ) (y : S) → lookup held1 k ≡ Some y → IsHeld count h1 r.value ws1 id k y
    now_held k y e = dite (ℕ_discrete k i)
        (λ at. let y_is : y ≡ r.value i = unsome y (r.value i) (sym e ∙ at_here i k (r.value i) held (sym at)) in record {
          is = y_is ∙ ap r.value (sym at);
          by = sym (ap h1 at ∙ with_now r.holder i id);
          taken = λ zero. shut (sym now ∙ (ap (λ (l : ℕ). get_or ws1 (8 * l) 0) (sym at) ∙ zero));
          within = subst (λ (l : ℕ). l < count) (sym at) within;
        })
        (λ ne. still_held id k y (known.3 k y (sym (at_next i k (r.value i) held (λ e. ne (sym e))) ∙ e)))

    taken : Rule (stepped s (8 * i) z id cs (Caller c seen pairs1 held1) (takes i (Some (r.value i))))
    taken = record {
      history = r.history;
      whole = r.whole;
      owner = r.owner;
      next = r.next;
      holder = h1;
      value = r.value;
      wide = subst (λ (l : ℕ). 8 * count ≤ l) (sym (length-set s.words (8 * i) z)) r.wide;
      many = length-set s.homes i none ∙ r.many;
      run = r.run;
      ordered = r.ordered;
      parts = r.parts;
      home = λ j lt e. dite (ℕ_discrete j i)
          (λ is. absurd (shut (sym now ∙ (ap (λ (k : ℕ). get_or ws1 (8 * k) 0) (sym is) ∙ e))))
          (λ ne. set_else s.homes i j _ ne ∙ r.home j lt (sym (else_word j ne) ∙ e));
      each_seat = seats_stay (Fits shard count r.owner r.next r.history r.whole h1 r.value ws1) s.views id (Caller c seen pairs1 held1)
          (known.0, known.1, refl, now_held)
          (λ j d other e. other_fits r.owner r.owner r.next r.next r.history r.history r.whole r.whole r.holder h1 r.value r.value s.words ws1 j (starts_same r.history) (λ c k. (k, refl))
          (λ k y m. still_held j k y m) (λ held k. refl) d (r.each_seat j d e));
      unborn = r.unborn;
    }

    won_now : Won content shard i (Caller c seen pairs held, cs) (Caller c seen pairs1 held1, (i, Some (r.value i)) ∷ cs)
    won_now = record {
      value = r.value i;
      pairs = pairs1;
      is = refl;
      new = none_in held i (λ y e. (known.3 i y e).taken free);
      ordered = ascends_kept (keys_of shard (numbers held1)) r.whole r.ordered;
      within = kept-kept (keys_of shard (numbers held1)) (keys_of shard (numbers held1)) r.whole (λ k e. e);
      before = known.2 ∙ sym (kept-kept (keys_of shard (numbers held)) (keys_of shard (numbers held1)) r.whole (λ k e. is_in_next i (numbers held) (shard k) e));
      contains = subst (λ (l : Pairs T). content (r.value i) l)
          (sym (kept-kept (keys_at shard i) (keys_of shard (numbers held1)) r.whole (λ k e. is_in_here i (numbers held) (shard k) (eqb-true (shard k) i e))))
          (r.parts i);
    }

  -- what becomes of the word where the lock was free, and where it was taken
  pub tries : (slots id i c first z : ℕ) (seen : List (Entry T)) (pairs : Pairs T) (held : List (ℕ × S)) (cs : List (ℕ × Option S)) → i < count → z ≢ 0
      → Allows Rule slots id (Caller c seen pairs held, cs) (8 * i) (λ n. either (eqb n 0) z n) (Tries content shard (step slots (8 * i) first z none) (Caller c seen pairs held, cs))
  tries slots id i c first z seen pairs held cs within shut s r wide is small = let n : ℕ = get_or s.words (8 * i) 0 in let m : D = Caller c seen pairs held in let mine = r.each_seat id m is in dite (ℕ_discrete n 0)
      (λ hit. (
        Caller c seen (pairs1 s r i z id c seen pairs held cs within shut hit mine) ((i, r.value i) ∷ held),
        takes i (Some (r.value i)),
        r.home i within hit,
        subst (λ b. Rule (stepped s (8 * i) (either b z n) id cs (Caller c seen (pairs1 s r i z id c seen pairs held cs within shut hit mine) ((i, r.value i) ∷ held)) (takes i (Some (r.value i))))) (sym (eq-eqb n 0 hit)) (taken s r i z id c seen pairs held cs within shut hit mine),
        record {
          won = λ j at _. subst (λ (k : ℕ). Won content shard k (m, cs) (Caller c seen (pairs1 s r i z id c seen pairs held cs within shut hit mine) ((i, r.value i) ∷ held), (i, Some (r.value i)) ∷ cs)) (same_shard i j at) (won_now s r i z id c seen pairs held cs within shut hit mine);
          lost = λ ne. absurd (ne hit);
        },
      ))
      (λ miss. (
        m,
        keeps,
        tt,
        subst (λ b. Rule (stepped s (8 * i) (either b z n) id cs m keeps)) (sym (ne_eqb n 0 miss)) (looked s r r.owner r.next (8 * i) id cs m (λ j c other k. k) mine r.unborn),
        record { won = λ j at e. absurd (miss e); lost = λ _. refl },
      ))

  -- APPENDS: the history goes on by these operations, and the shards that the seat holds have these values
  module _ (operations : List (Operation ℕ T T)) (s : St) (r : Rule s) (word id c : ℕ) (seen : List (Entry T)) (pairs : Pairs T) (held values : List (ℕ × S)) (cs : List (ℕ × Option S))
      (known : Fits shard count r.owner r.next r.history r.whole r.holder r.value s.words id (Caller c seen pairs held))
      (may : MayAppend same content shard operations (Caller c seen pairs held, cs) held values) where
    abbrev mine : ℕ → Bool
    mine = keys_of shard (numbers held)

    abbrev es : List (Entry T)
    es = entries_by c operations

    abbrev new : List (Entry T)
    new = r.history ++ es

    run_on : RunsOnWhole same mine r.whole operations may.end
    run_on = part_runs same mine operations r.whole may.end may.within r.ordered (subst (λ (l : Pairs T). StepsBy same operations l may.end) known.2 may.goes)

    abbrev after : Pairs T
    after = run_on.end

    -- the values then
    abbrev value1 : ℕ → S
    value1 j = unwrap_or (lookup values j) (r.value j)

    -- a shard with a value of its own is held
    held_then : (j : ℕ) (v : S) → lookup values j ≡ Some v → (x : S) × (lookup held j ≡ Some x)
    held_then j v e = value_in held j (ap (λ (ns : List ℕ). is_in ns j) (sym may.alike) ∙ found_in values j v e)

    other_value : (j : ℕ) → ((v : S) → lookup values j ≡ Some v → ⊥) → value1 j ≡ r.value j
    other_value j never = by (lookup values j) refl
      where
        by : (o : Option S) → lookup values j ≡ o → unwrap_or o (r.value j) ≡ r.value j
        by None e = refl
        by (Some v) e = absurd (never v e)

    parts_after : (j : ℕ) → content (value1 j) (kept (keys_at shard j) after)
    parts_after j = by (lookup values j) refl
      where
        by : (o : Option S) → lookup values j ≡ o → content (unwrap_or o (r.value j)) (kept (keys_at shard j) after)
        by None e =
            let out : is_in (numbers held) j ≡ false = ap (λ (ns : List ℕ). is_in ns j) (sym may.alike) ∙ none_in values j (λ v is. absurd (let clash : Some v ≡ None = sym is ∙ e in cc)) in
            let far : AreApart mine (keys_at shard j) = λ k is. false_from_ne_true (keys_at shard j k) (λ at. true≢false (sym is ∙ (ap (λ (i : ℕ). is_in (numbers held) i) (eqb-true (shard k) j at) ∙ out))) in
            subst (λ (l : Pairs T). content (r.value j) l) (sym (run_on.others (keys_at shard j) far)) (r.parts j)
        by (Some v) e =
            let inside : (k : ℕ) → keys_at shard j k ≡ true → mine k ≡ true = λ k at. ap (λ (i : ℕ). is_in (numbers held) i) (eqb-true (shard k) j at) ∙ (ap (λ (ns : List ℕ). is_in ns j) (sym may.alike) ∙ found_in values j v e) in
            subst (λ (l : Pairs T). content v l) (ap (λ (l : Pairs T). kept (keys_at shard j) l) (sym run_on.part) ∙ kept-kept (keys_at shard j) mine after inside) (may.parts j v e)

    -- another seat's shards are others
    apart_from : (j : ℕ) (other : List (ℕ × S)) → j ≢ id → ((i : ℕ) (y : S) → lookup other i ≡ Some y → IsHeld count r.holder r.value s.words j i y) → AreApart mine (keys_of shard (numbers other))
    apart_from j other ne theirs k is = false_from_ne_true (is_in (numbers other) (shard k)) (λ at.
        let a = value_in held (shard k) is in let b = value_in other (shard k) at in
        ne ((theirs (shard k) b.0 b.1).by ∙ sym (known.3 (shard k) a.0 a.1).by))

    others_entries : (d : ℕ) → d ≢ c → entries_of d new ≡ entries_of d r.history
    others_entries d ne = entries-append d r.history es ∙ (ap (λ (l : List (Entry T)). entries_of d r.history ++ l) (no_other c d operations ne) ∙ append-nil (entries_of d r.history))

    abbrev w1 : D
    w1 = Caller c (seen_after seen r.history es) may.end values

    appended : Rule (stepped s word (get_or s.words word 0) id cs w1 keeps)
    appended = let P : List ℕ → Type 0 = λ ws. Rule record { words = ws; homes = s.homes; views = set s.views id w1 } in
        subst P (sym (set-get_or s.words word 0)) (record {
          history = new;
          whole = after;
          owner = r.owner;
          next = r.next;
          holder = r.holder;
          value = value1;
          wide = r.wide;
          many = r.many;
          run = history_on same r.history r.whole after c operations r.run run_on.legal;
          ordered = run_on.ordered;
          parts = parts_after;
          home = λ j lt e. r.home j lt e ∙ (λ k. some (some (Some (sym (other_value j (λ v is. let x = held_then j v is in (known.3 j x.0 x.1).taken e)) k))));
          each_seat = seats_stay (Fits shard count r.owner r.next new after r.holder value1 s.words) s.views id w1 (
            known.0,
            fit_after c seen r.history operations known.1,
            sym run_on.part ∙ ap (λ (ns : List ℕ). kept (keys_of shard ns) after) (sym may.alike),
            λ i y e. let x = held_then i y e in let m = known.3 i x.0 x.1 in record { is = ap (λ (o : Option S). unwrap_or o (r.value i)) (sym e); by = m.by; taken = m.taken; within = m.within },
          )
              (λ j d other e. other_fits r.owner r.owner r.next r.next r.history new r.whole after r.holder r.holder r.value value1 s.words s.words j (es, refl)
              (λ k h. (h, others_entries k (λ at. other (sym h.owned ∙ (ap r.owner at ∙ known.0.owned)))))
              (λ i y m. record { is = m.is ∙ sym (other_value i (λ v is. let x = held_then i v is in other (m.by ∙ sym (known.3 i x.0 x.1).by))); by = m.by; taken = m.taken; within = m.within })
              (λ theirs k. sym (run_on.others (keys_of shard (numbers theirs)) (apart_from j theirs other k))) d (r.each_seat j d e));
          unborn = λ d le. let b = known.0.born in others_entries d (λ at. omega (arith, at, b, le)) ∙ r.unborn d le;
        })

    known_after : Appended same content shard operations (Caller c seen pairs held, cs) values (w1, cs)
    known_after = record {
      history = r.history;
      end = may.end;
      is = refl;
      contain = record {
        ordered = subst (λ (l : Pairs T). Ascends l) run_on.part (ascends_kept mine after run_on.ordered);
        within = subst (λ (l : Pairs T). kept (keys_of shard (numbers values)) l ≡ l) run_on.part
            (kept-kept (keys_of shard (numbers values)) mine after (λ k e. ap (λ (ns : List ℕ). is_in ns (shard k)) (sym may.alike) ∙ e) ∙ ap (λ (ns : List ℕ). kept (keys_of shard ns) after) may.alike);
        parts = may.parts;
      };
      legal = (after, history_on same r.history r.whole after c operations r.run run_on.legal);
      fit = known.1;
    }

  pub appends : (operations : List (Operation ℕ T T)) (slots id word c : ℕ) (seen : List (Entry T)) (pairs : Pairs T) (held values : List (ℕ × S)) (cs : List (ℕ × Option S))
      → MayAppend same content shard operations (Caller c seen pairs held, cs) held values
      → Allows Rule slots id (Caller c seen pairs held, cs) word (λ n. n) (λ _ n. Appended same content shard operations (Caller c seen pairs held, cs) values n)
  appends operations slots id word c seen pairs held values cs may s r wide is small = let mine = r.each_seat id (Caller c seen pairs held) is in (
    w1 operations s r word id c seen pairs held values cs mine may,
    keeps,
    tt,
    appended operations s r word id c seen pairs held values cs mine may,
    known_after operations s r word id c seen pairs held values cs mine may,
  )

  -- RELEASES: the lock of the shard i, which was taken last, is free again
  module _ (s : St) (r : Rule s) (i id c : ℕ) (seen : List (Entry T)) (pairs : Pairs T) (x : S) (held : List (ℕ × S)) (cs : List (ℕ × Option S)) (new : is_in (numbers held) i ≡ false)
      (known : Fits shard count r.owner r.next r.history r.whole r.holder r.value s.words id (Caller c seen pairs ((i, x) ∷ held))) where
    abbrev ws2 : List ℕ
    ws2 = set s.words (8 * i) 0

    abbrev pairs2 : Pairs T
    pairs2 = kept (keys_of shard (numbers held)) pairs

    last : IsHeld count r.holder r.value s.words id i x
    last = known.3 i x (at_here i i x held refl)

    else_after : (j : ℕ) → j ≢ i → get_or ws2 (8 * j) 0 ≡ get_or s.words (8 * j) 0
    else_after j ne = get_or-set_other s.words (8 * i) (8 * j) 0 0 (apart i j ne)

    held_on : (j k : ℕ) (y : S) → k ≢ i → IsHeld count r.holder r.value s.words j k y → IsHeld count r.holder r.value ws2 j k y
    held_on j k y ne m = record { is = m.is; by = m.by; taken = λ e. m.taken (sym (else_after k ne) ∙ e); within = m.within }

    -- the others are in the list too
    other_last : (k : ℕ) (y : S) → lookup held k ≡ Some y → (k ≢ i) × (lookup ((i, x) ∷ held) k ≡ Some y)
    other_last k y e =
        let ne : k ≢ i = λ at. true≢false (sym (found_in held k y e) ∙ (ap (λ (l : ℕ). is_in (numbers held) l) at ∙ new)) in
        (ne, at_next i k x held (λ e. ne (sym e)) ∙ e)

    released : Rule (stepped s (8 * i) 0 id ((i, Some x) ∷ cs) (Caller c seen pairs2 held) gives)
    released = let w : D = Caller c seen pairs2 held in record {
      history = r.history;
      whole = r.whole;
      owner = r.owner;
      next = r.next;
      holder = r.holder;
      value = r.value;
      wide = subst (λ (l : ℕ). 8 * count ≤ l) (sym (length-set s.words (8 * i) 0)) r.wide;
      many = length-set s.homes i (some (Some x)) ∙ r.many;
      run = r.run;
      ordered = r.ordered;
      parts = r.parts;
      home = λ j lt e. dite (ℕ_discrete j i)
          (λ at. let within = last.within in ap (λ (k : ℕ). get_elem? (set s.homes i (some (Some x))) k) at ∙ (set_here s.homes i (some (Some x)) (omega (arith, r.many, within)) ∙ (λ k. some (some (Some ((last.is ∙ ap r.value (sym at)) k))))))
          (λ ne. set_else s.homes i j _ ne ∙ r.home j lt (sym (else_after j ne) ∙ e));
      each_seat = seats_stay (Fits shard count r.owner r.next r.history r.whole r.holder r.value ws2) s.views id w (
        known.0,
        known.1,
        ap (λ (l : Pairs T). kept (keys_of shard (numbers held)) l) known.2 ∙ kept-kept (keys_of shard (numbers held)) (keys_of shard (i ∷ numbers held)) r.whole (λ k e. is_in_next i (numbers held) (shard k) e),
        λ k y e. let o = other_last k y e in held_on id k y o.0 (known.3 k y o.1),
      )
          (λ j d other e. other_fits r.owner r.owner r.next r.next r.history r.history r.whole r.whole r.holder r.holder r.value r.value s.words ws2 j (starts_same r.history) (λ c k. (k, refl))
          (λ k y m. held_on j k y (λ at. other (m.by ∙ (ap r.holder at ∙ sym last.by))) m) (λ held k. refl) d (r.each_seat j d e));
      unborn = r.unborn;
    }

  pub releases : (slots id i c : ℕ) (seen : List (Entry T)) (pairs : Pairs T) (x : S) (held : List (ℕ × S)) (cs : List (ℕ × Option S)) → is_in (numbers held) i ≡ false
      → Allows Rule slots id (Caller c seen pairs ((i, x) ∷ held), (i, Some x) ∷ cs) (8 * i) (λ _. 0) (λ _ n. n ≡ (Caller c seen (kept (keys_of shard (numbers held)) pairs) held, cs))
  releases slots id i c seen pairs x held cs new s r wide is small = (
    Caller c seen (kept (keys_of shard (numbers held)) pairs) held,
    gives,
    tt,
    released s r i id c seen pairs x held cs new (r.each_seat id (Caller c seen pairs ((i, x) ∷ held)) is),
    refl,
  )

  -- a seat that holds nothing
  none_held : (r_whole : Pairs T) → ◌≡◌ {A = Pairs T} [] (kept (keys_of shard []) r_whole)
  none_held m = sym (kept-none (keys_of shard []) m (λ k. refl))

  none_there : {A : Type 0} (i : ℕ) (y : S) → ◌≡◌ {A = Option S} None (Some y) → A
  none_there i y e = absurd (let clash : ◌≡◌ {A = Option S} None (Some y) = e in cc)

  -- a new seat comes last
  at_new : (l : List D) (a b : D) (j : ℕ) → get_elem? (l ++ a ∷ []) j ≡ some b → (get_elem? l j ≡ some b) ⊎ ((j ≡ length l) × (a ≡ b))
  at_new [] a b zero e = inr (refl, some-injective a b e)
  at_new [] a b (suc j) e = absurd (some-ne-none b (sym e))
  at_new (x ∷ xs) a b zero e = inl e
  at_new (x ∷ xs) a b (suc j) e = ⊎_elim (λ t. inl t) (λ (t : (j ≡ length xs) × (a ≡ b)). inr (ap suc t.0, t.1)) (at_new xs a b j e)

  -- a new seat has a caller of its own, which has seen nothing
  pub comes : (slots : ℕ) (then : ℕ → D → Type 0) → ((n c : ℕ) → then n (Caller c [] [] [])) → Enters Rule slots 0 then
  comes slots then learned s r many small = let end : ℕ = length s.views in let o = with_at r.owner r.next end in let W : D = Caller r.next [] [] [] in
      let K = Fits shard count o (r.next + 1) r.history r.whole r.holder r.value s.words in (
        W,
        record {
          history = r.history;
          whole = r.whole;
          owner = o;
          next = r.next + 1;
          holder = r.holder;
          value = r.value;
          wide = r.wide;
          many = r.many;
          run = r.run;
          ordered = r.ordered;
          parts = r.parts;
          home = r.home;
          each_seat = λ j e p. ⊎_elim
              (λ h. other_fits r.owner o r.next (r.next + 1) r.history r.history r.whole r.whole r.holder r.holder r.value r.value s.words s.words j (starts_same r.history)
              (λ c k. let b = k.born in (record { owned = with_else r.owner r.next end c (λ is. omega (arith, is, b)) ∙ k.owned; born = omega (arith, b) }, refl))
              (λ i y k. k) (λ held k. refl) e (r.each_seat j e h))
              (λ (t : (j ≡ end) × (W ≡ e)). subst (λ (z : ℕ × D). K z.0 z.1) (λ i. (sym t.0 i, t.1 i))
              (record { owned = with_now r.owner r.next end; born = omega arith }, record { begins = (r.history, refl); own = r.unborn r.next (omega arith) }, none_held r.whole, λ i y h. none_there i y h))
              (at_new s.views W e j p);
          unborn = λ c le. r.unborn c (omega (arith, le));
        },
        learned (get_or s.words 0 0) r.next,
      )

  -- one seat takes in what another knows
  pub joins : (id c : ℕ) (a : List (Entry T)) (other d : ℕ) (b : List (Entry T)) → Joins Rule id (Caller c a [] []) other (Caller d b [] []) (Paired c d a b) Blank
  joins id c a other d b s r here apart there = let W : D = Paired c d a b in let o = with_at r.owner d id in let K = Fits shard count o r.next r.history r.whole r.holder r.value s.words in
      let ka = r.each_seat id (Caller c a [] []) here in let kb = r.each_seat other (Caller d b [] []) (sym (set_else s.views id other W apart) ∙ there) in
      let ne : c ≢ d = λ is. apart (sym kb.0.owned ∙ (ap r.owner (sym is) ∙ ka.0.owned)) in record {
        history = r.history;
        whole = r.whole;
        owner = o;
        next = r.next;
        holder = r.holder;
        value = r.value;
        wide = r.wide;
        many = r.many;
        run = r.run;
        ordered = r.ordered;
        parts = r.parts;
        home = r.home;
        each_seat = seats_stay K (set s.views id W) other Blank tt (λ j x far e. seats_stay (λ i y. i ≢ other → K i y) s.views id W
            (λ _. (
              record { owned = with_else r.owner d id c ne ∙ ka.0.owned; born = ka.0.born },
              record { owned = with_now r.owner d id; born = kb.0.born },
              ne,
              ka.1,
              kb.1,
            ))
            (λ i y not_me p not_other. other_fits r.owner o r.next r.next r.history r.history r.whole r.whole r.holder r.holder r.value r.value s.words s.words i (starts_same r.history)
            (λ k h. (record { owned = with_else r.owner d id k (λ is. not_other (sym h.owned ∙ (ap r.owner is ∙ kb.0.owned))) ∙ h.owned; born = h.born }, refl))
            (λ m z h. h) (λ held h. refl) y (r.each_seat i y p)) j x e far);
        unborn = r.unborn;
      }

  -- two callers at one seat see the whole history
  pub meets : (slots id c d : ℕ) (a b : List (Entry T)) (cs : List (ℕ × Option S)) (then : ℕ → M → Type 0)
      → ((n : ℕ) (history : List (Entry T)) → IsLegalHistory same history → c ≢ d → HasSeen history c a → HasSeen history d b → then n (Paired c d history history, cs))
      → Allows Rule slots id (Paired c d a b, cs) 0 (λ n. n) then
  meets slots id c d a b cs then learned s r wide here small = let k = r.each_seat id (Paired c d a b) here in let all : (e : ℕ) → HasSeen r.history e r.history = λ e. record { begins = starts_same r.history; own = refl } in (
    Paired c d r.history r.history,
    keeps,
    tt,
    looked s r r.owner r.next 0 id cs (Paired c d r.history r.history) (λ j c other h. h) (k.0, k.1, k.2, all c, all d) r.unborn,
    learned (get_or s.words 0 0) r.history (r.whole, r.run) k.2 k.3 k.4,
  )

  -- and gives the other back to a seat of its own
  pub splits_both : (id c d : ℕ) (a b : List (Entry T)) → Splits Rule id (Paired c d a b) (Caller c a [] []) (Caller d b [] [])
  splits_both id c d a b s r here = let W : D = Caller c a [] [] in let end : ℕ = length (set s.views id W) in let o = with_at r.owner d end in
      let K = Fits shard count o r.next r.history r.whole r.holder r.value s.words in let k = r.each_seat id (Paired c d a b) here in record {
        history = r.history;
        whole = r.whole;
        owner = o;
        next = r.next;
        holder = r.holder;
        value = r.value;
        wide = r.wide;
        many = r.many;
        run = r.run;
        ordered = r.ordered;
        parts = r.parts;
        home = r.home;
        each_seat = λ j e p. ⊎_elim
            (λ h. seats_stay K s.views id W (record { owned = with_else r.owner d end c k.2 ∙ k.0.owned; born = k.0.born }, k.3, none_held r.whole, λ m z h. none_there m z h)
            (λ i y not_me q. other_fits r.owner o r.next r.next r.history r.history r.whole r.whole r.holder r.holder r.value r.value s.words s.words i (starts_same r.history)
            (λ m h. (record { owned = with_else r.owner d end m (λ is. not_me (sym h.owned ∙ (ap r.owner is ∙ k.1.owned))) ∙ h.owned; born = h.born }, refl))
            (λ m z h. h) (λ held h. refl) y (r.each_seat i y q)) j e h)
            (λ (t : (j ≡ end) × (Caller d b [] [] ≡ e)). subst (λ (z : ℕ × D). K z.0 z.1) (λ i. (sym t.0 i, t.1 i)) (record { owned = with_now r.owner d end; born = k.1.born }, k.4, none_held r.whole, λ m z h. none_there m z h))
            (at_new (set s.views id W) (Caller d b [] []) e j p);
        unborn = r.unborn;
      }

  -- a seat makes a blank one
  pub cuts : (id : ℕ) (v : D) → Splits Rule id v v Blank
  cuts id v s r at = let K = Fits shard count r.owner r.next r.history r.whole r.holder r.value s.words in record {
    history = r.history;
    whole = r.whole;
    owner = r.owner;
    next = r.next;
    holder = r.holder;
    value = r.value;
    wide = r.wide;
    many = r.many;
    run = r.run;
    ordered = r.ordered;
    parts = r.parts;
    home = r.home;
    each_seat = λ j e p. ⊎_elim (λ h. seats_stay K s.views id v (r.each_seat id v at) (λ i x _. r.each_seat i x) j e h) (λ (t : (j ≡ length (set s.views id v)) × (Blank ≡ e)). subst (λ (z : D). K j z) t.1 tt)
        (at_new (set s.views id v) Blank e j p);
    unborn = r.unborn;
  }

  one_seat : (K : ℕ → D → Type 0) → K 0 Blank → (j : ℕ) (v : D) → get_elem? (Blank ∷ []) j ≡ some v → K j v
  one_seat K k zero v e = subst (K 0) (some-injective Blank v e) k
  one_seat K k (suc j) v e = absurd (some-ne-none v (sym e))

  -- the table at the start: each slot has an empty part of the map
  pub opens : (ws : List ℕ) (x : S) (xs : List S) → 8 * count ≤ length ws → length (x ∷ xs) ≡ count → All (λ (y : S). content y []) (x ∷ xs)
      → Rule (opening ws (map (λ (y : S). Some y) (x ∷ xs)) Blank)
  opens ws x xs wide enough empty = record {
    history = [];
    whole = [];
    owner = λ _. 0;
    next = 0;
    holder = λ _. 0;
    value = λ i. get_or (x ∷ xs) i x;
    wide = wide;
    many = length-map (map (λ (y : S). Some y) (x ∷ xs)) some ∙ (length-map (x ∷ xs) (λ (y : S). Some y) ∙ enough);
    run = refl;
    ordered = (0, tt);
    parts = λ i. empty_at (x ∷ xs) x i empty (empty 0 x (omega arith));
    home = λ i lt _. home_at (x ∷ xs) x i (omega (arith, lt, enough));
    each_seat = one_seat (Fits shard count (λ _. 0) 0 [] [] (λ _. 0) (λ i. get_or (x ∷ xs) i x) ws) tt;
    unborn = λ _ _. refl;
  }
    where
      empty_at : (l : List S) (d : S) (i : ℕ) → All (λ (y : S). content y []) l → content d [] → content (get_or l i d) []
      empty_at [] d i h k = k
      empty_at (y ∷ l) d zero h k = h 0 d (omega arith)
      empty_at (y ∷ l) d (suc i) h k = empty_at l d i (λ j e lt. h (suc j) e (omega (arith, lt))) k

      home_at : (l : List S) (d : S) (i : ℕ) → i < length l → get_elem? (map some (map (λ (y : S). Some y) l)) i ≡ some (some (Some (get_or l i d)))
      home_at [] d i lt = absurd (omega (arith, lt))
      home_at (y ∷ l) d zero lt = refl
      home_at (y ∷ l) d (suc i) lt = home_at l d i (omega (arith, lt))
