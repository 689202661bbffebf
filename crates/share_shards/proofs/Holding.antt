-- What a seat knows while it holds shards, and after it.
use Rattle.std.proofs.Common.{◌≡◌, ◌≢◌, ◌<◌, ℕ, zero, suc, All, Bool, true, false, true≢false, cond, List, [], ◌∷◌, ◌++◌, reverse, length, get_or, drop, refl, sym, ap, ◌∙◌, subst, inl, inr, append_assoc, eq-eqb, ne_eqb, arith}
use Rattle.std.proofs.lemmas.Bool.{cases_eq, eqb-true}
use Rattle.std.proofs.lemmas.List.{reverse-append}
use Rattle.std.specs.Prelude.{Option, Some, None, IsFalse}
use Rattle.atomic_table.specs.Table.{Me, rest}
use Rattle.share_parts.specs.Parts.{kept, AreWithin, RunsOnWhole}
use Rattle.share_parts.proofs.Parts.{ascends_kept, kept-kept, kept-none, kept-agree, part_runs}
use Rattle.share_rule.specs.History.{Entry, IsLegalHistory, entries_by, entries_of}
use Rattle.share_rule.specs.inner.Hold.{StepsBy}
use Rattle.share_rule.specs.inner.Steps.{seen_after}
use Rattle.share_rule.proofs.Keeps.{entries-append}
use Rattle.share_rule.proofs.Moves.{own_all}
use Rattle.share_shards.specs.Held.{is_in, keys_at, keys_of, numbers, slots_of, values_of, AreDistinct, Visited}
use Rattle.share_shards.specs.inner.SeatView.{ShardView, Caller}
use Rattle.share_shards.specs.inner.Steps.{caller_of, seen_of, pairs_of, held_of, seat_with, IsIdle, HeldBy, Holds, Took, Won, MayAppend, Appended, operations_at, without_last}
use Rattle.share_shards.proofs.Lists.{at_here, at_next, found_in, unsome}
use Rattle.spec_map.specs.Call.{Operation}
use Rattle.spec_map.specs.Map.{Pairs, lookup}

clash_none : {S A : Type 0} (v : S) → ◌≡◌ {A = Option S} None (Some v) → A
clash_none {S} v e = absurd (let clash : ◌≡◌ {A = Option S} None (Some v) = e in cc)

-- a list of shards that begins with this one
pub record Begins {S : Type 0} (l : List (ℕ × S)) (i : ℕ) (ns : List ℕ) : Type 0 where
  pub value : S
  pub held : List (ℕ × S)
  pub is : l ≡ (i, value) ∷ held
  pub later : numbers held ≡ ns

begins_with : {S : Type 0} (l : List (ℕ × S)) (i : ℕ) (ns : List ℕ) → numbers l ≡ i ∷ ns → Begins l i ns
begins_with [] i ns e = absurd (let clash : ◌≡◌ {A = List ℕ} [] (i ∷ ns) = e in cc)
begins_with {S} (h ∷ t) i ns e = record {
  value = h.1;
  held = t;
  is = λ k. (get_or (e k) 0 h.0, h.1) ∷ t;
  later = ap (λ (l : List ℕ). drop 1 l) e;
}

no_numbers : {S : Type 0} (l : List (ℕ × S)) → numbers l ≡ [] → l ≡ []
no_numbers [] e = refl
no_numbers (h ∷ t) e = absurd (let clash : ◌≡◌ {A = List ℕ} (h.0 ∷ numbers t) [] = e in cc)

pub empty_of : (l : List ℕ) → length l ≡ 0 → l ≡ []
empty_of [] e = refl
empty_of (x ∷ xs) e = absurd (omega arith)

pub last_of_reverse : (shards front : List ℕ) (last : ℕ) (ns : List ℕ) → shards ≡ front ++ last ∷ [] → ns ≡ reverse shards → ns ≡ last ∷ reverse front
last_of_reverse shards front last ns is e = e ∙ (ap (λ (l : List ℕ). reverse l) is ∙ reverse-append front (last ∷ []))

-- what holds of all holds of all but the last
all_but_last : (n : ℕ) (front : List ℕ) (last : ℕ) → All (λ (i : ℕ). i < n) (front ++ last ∷ []) → All (λ (i : ℕ). i < n) front
all_but_last n [] last h k d lt = absurd (omega (arith, lt))
all_but_last n (x ∷ xs) last h zero d lt = h zero d (omega arith)
all_but_last n (x ∷ xs) last h (suc k) d lt = all_but_last n xs last (λ j e l. h (suc j) e (omega (arith, l))) k d (omega (arith, lt))

pub all_front : (n : ℕ) (shards front : List ℕ) (last : ℕ) → shards ≡ front ++ last ∷ [] → All (λ (i : ℕ). i < n) shards → All (λ (i : ℕ). i < n) front
all_front n shards front last is h = all_but_last n front last (subst (λ (l : List ℕ). All (λ (i : ℕ). i < n) l) is h)

module _ {S : Type 0} where
  abbrev first_option : List (ℕ × Option S) → Option S → Option S
  first_option [] d = d
  first_option (s ∷ slots) d = s.1

  -- the first of the slots, which hold these values and then others
  pub record FirstSlot (slots : List (ℕ × Option S)) (held : List (ℕ × S)) (others : List (ℕ × Option S)) (i : ℕ) (ns : List ℕ) : Type 0 where
    pub value : S
    pub later : List (ℕ × S)
    pub held_is : held ≡ (i, value) ∷ later
    pub slots_are : slots ≡ (i, Some value) ∷ (slots_of later ++ others)
    pub numbers_are : numbers later ≡ ns

  pub first_slot : (slots : List (ℕ × Option S)) (held : List (ℕ × S)) (others : List (ℕ × Option S)) (i : ℕ) (ns : List ℕ) → slots ≡ slots_of held ++ others → numbers held ≡ i ∷ ns → FirstSlot slots held others i ns
  first_slot slots held others i ns is e = let b = begins_with held i ns e in record {
    value = b.value;
    later = b.held;
    held_is = b.is;
    slots_are = is ∙ ap (λ (l : List (ℕ × S)). slots_of l ++ others) b.is;
    numbers_are = b.later;
  }

  -- the seat has it
  pub has_first : (slots : List (ℕ × Option S)) (i : ℕ) (v : S) (later : List (ℕ × Option S)) → slots ≡ (i, Some v) ∷ later → slots ≡ (i, Some v) ∷ rest slots
  has_first slots i v later is = is ∙ ap (λ (l : List (ℕ × Option S)). let w : List (ℕ × Option S) = (i, Some v) ∷ rest l in w) (sym is)

  pub first_value : (slots : List (ℕ × Option S)) (i : ℕ) (v : S) (x : Option S) (later r : List (ℕ × Option S)) → slots ≡ (i, Some v) ∷ later → slots ≡ (i, x) ∷ r → x ≡ Some v
  first_value slots i v x later r is e = ap (λ (l : List (ℕ × Option S)). first_option l x) (sym e ∙ is)

  -- it goes behind the others, with another value
  pub turned_slots : (slots : List (ℕ × Option S)) (i : ℕ) (v w : S) (later : List (ℕ × S)) (others after : List (ℕ × Option S)) → slots ≡ (i, Some v) ∷ (slots_of later ++ others) → after ≡ rest slots ++ (i, Some w) ∷ []
      → after ≡ slots_of later ++ (others ++ (i, Some w) ∷ [])
  turned_slots slots i v w later others after is e =
      e ∙ (ap (λ (l : List (ℕ × Option S)). rest l ++ (i, Some w) ∷ []) is ∙ append_assoc (slots_of later) others ((i, Some w) ∷ []))

  pub behind : (i : ℕ) (w : S) (others : List (ℕ × Option S)) (values : List (ℕ × S)) → (others ++ (i, Some w) ∷ []) ++ slots_of values ≡ others ++ slots_of ((i, w) ∷ values)
  behind i w others values = append_assoc others ((i, Some w) ∷ []) (slots_of values)

  pub visited_more : {V E : Type 0} (does : V → List E → ℕ → S → V → List E → S → Type 0) (v next w : V) (before between after : List E) (i : ℕ) (x z y : S) (held later values : List (ℕ × S))
      → held ≡ (i, x) ∷ later → Some x ≡ Some z → does v before i z next between y → Visited does next between later w after values → Visited does v before held w after ((i, y) ∷ values)
  visited_more does v next w before between after i x z y held later values is same done more =
      subst (λ (l : List (ℕ × S)). Visited does v before l w after ((i, y) ∷ values)) (sym is)
      (refl, next, between, subst (λ (s : S). does v before i s next between y) (sym (unsome x z same)) done, more)

module _ {T S : Type 0} (content : S → Pairs T → Type 0) (shard : ℕ → ℕ) where
  abbrev V : Type 0
  V = Me (Option S) (ShardView T S)

  -- the keys of one shard, by both words
  one_key : (i k : ℕ) → keys_at shard i k ≡ keys_of shard (i ∷ []) k
  one_key i k =
      elim (cases_eq (shard k) i) [
        | inl is ↦ eq-eqb (shard k) i is ∙ sym (ap (λ (b : Bool). cond b true false) (eq-eqb i (shard k) (sym is)))
        | inr ne ↦ ne_eqb (shard k) i ne ∙ sym (ap (λ (b : Bool). cond b true false) (ne_eqb i (shard k) (λ e. ne (sym e))))
      ]

  at_is_in : (ns : List ℕ) (i : ℕ) → is_in ns i ≡ true → (k : ℕ) → keys_at shard i k ≡ true → keys_of shard ns k ≡ true
  at_is_in ns i is k at = ap (λ (j : ℕ). is_in ns j) (eqb-true (shard k) i at) ∙ is

  pub idle_holds : (m : V) → IsIdle m → Holds content shard m
  idle_holds m idle = let P : V → Type 0 = λ z. Holds content shard z in
      subst P (sym idle) (record { is = refl; distinct = tt; contain = record { ordered = (0, tt); within = refl; parts = λ i v e. clash_none v e } })

  pub caller_is : (m : V) → Holds content shard m → m.0 ≡ Caller (caller_of m.0) (seen_of m.0) (pairs_of m.0) (held_of m.0)
  caller_is m h = ap (λ (z : V). z.0) h.is

  pub holds_more : (i : ℕ) (m n : V) → Holds content shard m → Won content shard i m n → Holds content shard n
  holds_more i m n h won = let P : V → Type 0 = λ z. Holds content shard z in
      let held : List (ℕ × S) = held_of m.0 in let x : S = won.value in
      let view : ShardView T S = Caller (caller_of m.0) (seen_of m.0) won.pairs ((i, x) ∷ held) in
      subst P (sym won.is) (record {
        is = λ k. (view, (i, Some x) ∷ (h.is k).1);
        distinct = (won.new, h.distinct);
        contain = record {
          ordered = won.ordered;
          within = won.within;
          parts = λ j v e. elim (cases_eq i j) [
            | inl at ↦
                let same : v ≡ x = unsome v x (sym e ∙ at_here i j x held at) in
                subst (λ (z : ℕ × S). content z.1 (kept (keys_at shard z.0) won.pairs)) (λ k. (at k, sym same k)) won.contains
            | inr ne ↦
                let old : lookup held j ≡ Some v = sym (at_next i j x held ne) ∙ e in
                subst (λ (l : Pairs T). content v l)
                (ap (λ (l : Pairs T). kept (keys_at shard j) l) won.before ∙ kept-kept (keys_at shard j) (keys_of shard (numbers held)) won.pairs (at_is_in (numbers held) j (found_in held j v old)))
                (h.contain.parts j v old)
          ];
        };
      })

  -- the seat has one slot, which it took last
  pub tail_none : (i : ℕ) (m n : V) → IsIdle m → Won content shard i m n → rest n.1 ≡ []
  tail_none i m n idle won = ap (λ (z : V). rest z.1) won.is ∙ ap (λ (z : V). z.1) idle

  -- the last shard is released as it was taken
  pub back_again : (i : ℕ) (m n : V) → Holds content shard m → Won content shard i m n → (without_last shard n.0, rest n.1) ≡ m
  back_again i m n h won =
      let held : List (ℕ × S) = held_of m.0 in
      let taken : V → V = λ z. (without_last shard z.0, rest z.1) in
      ap taken won.is
      ∙ (λ k. (Caller (caller_of m.0) (seen_of m.0) (sym won.before k) held, m.1))
      ∙ (λ k. ((sym h.is k).0, m.1))

  pub took_none : (shards : List ℕ) (m : V) → shards ≡ [] → Holds content shard m → Took content shard shards m m
  took_none shards m none h =
      subst (λ (l : List ℕ). Took content shard l m m) (sym none) (record { holds = h; caller = refl; seen = refl; taken = refl })

  pub took_more : (first : ℕ) (others shards : List ℕ) (m n p : V) → shards ≡ first ∷ others → Won content shard first m n → Took content shard others n p → Took content shard shards m p
  took_more first others shards m n p is won took =
      subst (λ (l : List ℕ). Took content shard l m p) (sym is) (record {
        holds = took.holds;
        caller = took.caller ∙ ap (λ (z : V). caller_of z.0) won.is;
        seen = took.seen ∙ ap (λ (z : V). seen_of z.0) won.is;
        taken = took.taken ∙ (ap (λ (z : V). reverse others ++ numbers (held_of z.0)) won.is ∙ sym (ap (λ (l : List ℕ). l ++ numbers (held_of m.0)) (reverse-append (first ∷ []) others) ∙ append_assoc (reverse others) (first ∷ []) (numbers (held_of m.0))));
      })

  -- what a seat knows once the last shard is released
  pub record Less (m : V) (ns : List ℕ) (n : V) : Type 0 where
    pub holds : Holds content shard n
    pub held : numbers (held_of n.0) ≡ ns
    pub caller : caller_of n.0 ≡ caller_of m.0
    pub seen : seen_of n.0 ≡ seen_of m.0

  pub last_held : (m : V) (i : ℕ) (ns : List ℕ) → numbers (held_of m.0) ≡ i ∷ ns → Begins (held_of m.0) i ns
  last_held m i ns e = begins_with (held_of m.0) i ns e

  pub last_new : (m : V) (i : ℕ) (ns : List ℕ) → Holds content shard m → (b : Begins (held_of m.0) i ns) → IsFalse (is_in (numbers b.held) i)
  last_new m i ns h b = (subst (λ (l : List (ℕ × S)). AreDistinct (numbers l)) b.is h.distinct).0

  pub last_is : (m : V) (i : ℕ) (ns : List ℕ) → Holds content shard m → (b : Begins (held_of m.0) i ns) → m ≡ seat_with (caller_of m.0) (seen_of m.0) (pairs_of m.0) ((i, b.value) ∷ b.held)
  last_is m i ns h b = h.is ∙ ap (λ (l : List (ℕ × S)). seat_with (caller_of m.0) (seen_of m.0) (pairs_of m.0) l) b.is

  pub holds_less : (m n : V) (i : ℕ) (ns : List ℕ) → Holds content shard m → numbers (held_of m.0) ≡ i ∷ ns → n ≡ (without_last shard m.0, rest m.1) → Less m ns n
  holds_less m n i ns h e is =
      let b = last_held m i ns e in
      let c : ℕ = caller_of m.0 in let s : List (Entry T) = seen_of m.0 in let p : Pairs T = pairs_of m.0 in
      let l : List (ℕ × S) = b.held in
      let q : Pairs T = kept (keys_of shard (numbers l)) p in
      let new : IsFalse (is_in (numbers l) i) = last_new m i ns h b in
      let now : n ≡ seat_with c s q l = is ∙ ap (λ (z : V). let w : V = (without_last shard z.0, rest z.1) in w) (last_is m i ns h b) in
      let P : V → Type 0 = λ z. Less m ns z in
      subst P (sym now) (record {
        holds = record {
          is = refl;
          distinct = (subst (λ (t : List (ℕ × S)). AreDistinct (numbers t)) b.is h.distinct).1;
          contain = record {
            ordered = ascends_kept (keys_of shard (numbers l)) p h.contain.ordered;
            within = kept-kept (keys_of shard (numbers l)) (keys_of shard (numbers l)) p (λ k y. y);
            parts = λ j v f.
                let ne : i ≢ j = λ at. true≢false (sym (found_in l j v f) ∙ (ap (λ (k : ℕ). is_in (numbers l) k) (sym at) ∙ new)) in
                let before : lookup (held_of m.0) j ≡ Some v = ap (λ (t : List (ℕ × S)). lookup t j) b.is ∙ (at_next i j b.value l ne ∙ f) in
                subst (λ (t : Pairs T). content v t) (sym (kept-kept (keys_at shard j) (keys_of shard (numbers l)) p (at_is_in (numbers l) j (found_in l j v f)))) (h.contain.parts j v before);
          };
        };
        held = b.later;
        caller = refl;
        seen = refl;
      })

  -- a seat that holds nothing more
  pub holds_none : (m : V) → Holds content shard m → numbers (held_of m.0) ≡ [] → IsIdle m
  holds_none m h none =
      let nothing : held_of m.0 ≡ [] = no_numbers (held_of m.0) none in
      let empty : pairs_of m.0 ≡ [] = sym h.contain.within ∙ (ap (λ (ns : List ℕ). kept (keys_of shard ns) (pairs_of m.0)) none ∙ kept-none (keys_of shard []) (pairs_of m.0) (λ k. refl)) in
      h.is ∙ (λ k. seat_with (caller_of m.0) (seen_of m.0) (empty k) (nothing k))

module _ {T S : Type 0} (same : T → T → Bool) (content : S → Pairs T → Type 0) (shard : ℕ → ℕ) (operations : List (Operation ℕ T T)) where
  abbrev W : Type 0
  W = Me (Option S) (ShardView T S)

  pub appended_holds : (m n : W) (held values : List (ℕ × S)) → MayAppend same content shard operations m held values → Appended same content shard operations m values n → Holds content shard n
  appended_holds m n held values may a = let P : W → Type 0 = λ z. Holds content shard z in
      let view : ShardView T S = Caller (caller_of m.0) (seen_after (seen_of m.0) a.history (entries_by (caller_of m.0) operations)) a.end values in
      subst P (sym a.is) (record {
        is = λ k. (view, (may.is k).1);
        distinct = subst (λ (ns : List ℕ). AreDistinct ns) (sym may.alike) may.distinct;
        contain = a.contain;
      })

  pub appended_held : (m n : W) (values : List (ℕ × S)) → Appended same content shard operations m values n → numbers (held_of n.0) ≡ numbers values
  appended_held m n values a = ap (λ (z : W). numbers (held_of z.0)) a.is

-- what is known after a hold, in which these operations were appended at the seat m, and everything was released at n
module _ {T S : Type 0} (same : T → T → Bool) (content : S → Pairs T → Type 0) (shard : ℕ → ℕ) where
  abbrev U : Type 0
  U = Me (Option S) (ShardView T S)

  pub held_by : (operations : List (Operation ℕ T T)) (m a n : U) (values : List (ℕ × S)) → Appended same content shard operations m values a → IsIdle n → caller_of n.0 ≡ caller_of a.0 → seen_of n.0 ≡ seen_of a.0 → HeldBy same operations m n
  held_by [] m a n values e idle caller seen = record {
    idle = idle;
    caller = caller ∙ ap (λ (z : U). caller_of z.0) e.is;
    seen = seen ∙ ap (λ (z : U). seen_of z.0) e.is;
  }
  held_by (x ∷ xs) m a n values e idle caller seen =
      let c : ℕ = caller_of m.0 in let es : List (Entry T) = entries_by c (x ∷ xs) in
      let is_caller : caller_of n.0 ≡ c = caller ∙ ap (λ (z : U). caller_of z.0) e.is in
      let is_seen : seen_of n.0 ≡ e.history ++ es = seen ∙ ap (λ (z : U). seen_of z.0) e.is in
      record {
        between = e.fit.begins.0;
        idle = idle;
        caller = is_caller;
        legal = subst (λ (l : List (Entry T)). IsLegalHistory same l) (sym is_seen) e.legal;
        seen = is_seen ∙ ap (λ (l : List (Entry T)). l ++ es) e.fit.begins.1;
        own = (λ i. entries_of (is_caller i) (is_seen i)) ∙ (entries-append c e.history es ∙ (λ i. e.fit.own i ++ own_all c (x ∷ xs) i));
      }

  pub held_idle : (operations : List (Operation ℕ T T)) (m n : U) → HeldBy same operations m n → IsIdle n
  held_idle [] m n h = h.idle
  held_idle (x ∷ xs) m n h = h.idle

  -- the same from a seat before, which knew the same
  pub held_from : (operations : List (Operation ℕ T T)) (m a n : U) → caller_of a.0 ≡ caller_of m.0 → seen_of a.0 ≡ seen_of m.0 → HeldBy same operations a n → HeldBy same operations m n
  held_from [] m a n caller seen h = record { idle = h.idle; caller = h.caller ∙ caller; seen = h.seen ∙ seen }
  held_from (x ∷ xs) m a n caller seen h = record {
    between = h.between;
    idle = h.idle;
    caller = h.caller ∙ caller;
    legal = h.legal;
    seen = h.seen ∙ (λ i. (seen i ++ h.between) ++ entries_by (caller i) (x ∷ xs));
    own = h.own ∙ (λ i. entries_of (caller i) (seen i) ++ entries_by (caller i) (x ∷ xs));
  }

  -- ONE SHARD: work on the value in its slot, which was x and is y now
  module _ (made : S → List (Operation ℕ T T)) (i : ℕ) (m m1 m2 : U) (x y : S) (idle : IsIdle m) (won : Won content shard i m m1) (carried : m1.1 ≡ (i, Some x) ∷ []) (is : m2 ≡ (m1.0, (i, Some y) ∷ []))
      (work_goes : (c : Pairs T) → content x c → (d : Pairs T) × content y d × StepsBy same (made x) c d) (within : AreWithin (keys_at shard i) (made x)) where
    found : x ≡ won.value
    found = unsome x won.value (sym (first_value m1.1 i x (Some won.value) [] m.1 carried (ap (λ (z : U). z.1) won.is)))

    none_before : held_of m.0 ≡ []
    none_before = ap (λ (z : U). held_of z.0) idle

    -- all pairs that the seat knows are of this shard
    all_here : kept (keys_at shard i) won.pairs ≡ won.pairs
    all_here =
        kept-agree (keys_at shard i) (keys_of shard (i ∷ [])) won.pairs (one_key content shard i)
        ∙ (ap (λ (l : List (ℕ × S)). kept (keys_of shard (i ∷ numbers l)) won.pairs) (sym none_before) ∙ won.within)

    went : (d : Pairs T) × content y d × StepsBy same (made x) (kept (keys_at shard i) won.pairs) d
    went = work_goes (kept (keys_at shard i) won.pairs) (subst (λ (v : S). content v (kept (keys_at shard i) won.pairs)) (sym found) won.contains)

    run_on : RunsOnWhole same (keys_at shard i) won.pairs (made x) went.0
    run_on = part_runs same (keys_at shard i) (made x) won.pairs went.0 within won.ordered went.2

    end_here : kept (keys_at shard i) went.0 ≡ went.0
    end_here = ap (λ (l : Pairs T). kept (keys_at shard i) l) (sym run_on.part) ∙ (kept-kept (keys_at shard i) (keys_at shard i) run_on.end (λ k e. e) ∙ run_on.part)

    view_is : m1.0 ≡ Caller (caller_of m.0) (seen_of m.0) won.pairs ((i, won.value) ∷ [])
    view_is = ap (λ (z : U). z.0) won.is ∙ ap (λ (l : List (ℕ × S)). Caller (caller_of m.0) (seen_of m.0) won.pairs ((i, won.value) ∷ l)) none_before

    seat_is : m2 ≡ (Caller (caller_of m.0) (seen_of m.0) won.pairs ((i, won.value) ∷ []), slots_of ((i, y) ∷ []))
    seat_is = is ∙ (λ k. (view_is k, (i, Some y) ∷ []))

    abbrev operations : List (Operation ℕ T T)
    operations = operations_at made (held_of m1.0)

    -- the operations, as the view has what was found
    made_then : operations ≡ made x
    made_then = ap (λ (v : ShardView T S). operations_at made (held_of v)) view_is ∙ ap made (sym found)

    pub one_may : MayAppend same content shard operations m2 ((i, won.value) ∷ []) ((i, y) ∷ [])
    one_may = let P : U × List (Operation ℕ T T) → Type 0 = λ z. MayAppend same content shard z.1 z.0 ((i, won.value) ∷ []) ((i, y) ∷ []) in
        subst P (λ k. (sym seat_is k, sym made_then k)) (record {
          end = went.0;
          is = refl;
          alike = refl;
          distinct = (refl, tt);
          within = subst (λ (f : ℕ → Bool). AreWithin f (made x)) (λ j k. one_key content shard i k j) within;
          goes = subst (λ (l : Pairs T). StepsBy same (made x) l went.0) all_here went.2;
          parts = λ j v e. elim (cases_eq i j) [
            | inl at ↦
                let this : v ≡ y = unsome v y (sym e ∙ at_here i j y [] at) in
                subst (λ (z : ℕ × S). content z.1 (kept (keys_at shard z.0) went.0)) (λ k. (at k, sym this k)) (subst (λ (l : Pairs T). content y l) (sym end_here) went.1)
            | inr ne ↦ clash_none v (sym (at_next i j y [] ne) ∙ e)
          ];
        })

    -- what is known once they were appended, and the shard released
    pub one_held : (a n : U) → Appended same content shard operations m2 (values_of m2.1) a → n ≡ (without_last shard a.0, rest a.1) → HeldBy same (made x) m n
    one_held a n appended released =
        let values : List (ℕ × S) = (i, y) ∷ [] in
        let there : Appended same content shard operations m2 values a = subst (λ (l : List (ℕ × S)). Appended same content shard operations m2 l a) (ap (λ (z : U). values_of z.1) seat_is) appended in
        let holds = appended_holds same content shard operations m2 a ((i, won.value) ∷ []) values one_may there in
        let less = holds_less content shard a n i [] holds (appended_held same content shard operations m2 a values there) released in
        let idle_then = holds_none content shard n less.holds less.held in
        subst (λ (l : List (Operation ℕ T T)). HeldBy same l m n) made_then
        (held_from operations m m2 n (ap (λ (z : U). caller_of z.0) seat_is) (ap (λ (z : U). seen_of z.0) seat_is) (held_by operations m2 a n values there idle_then less.caller less.seen))
