-- What visits of all shards that are held come to.
use Rattle.std.proofs.Common.{◌≡◌, ◌≢◌, ℕ, ◌+◌, ◌*◌, ◌<◌, ◌≤◌, Bool, true, false, true≢false, cond, List, [], ◌∷◌, ◌++◌, reverse, append-nil, length, refl, sym, ap, ◌∙◌, subst, inl, inr, arith, eqb, eq-eqb, ne_eqb, suc-mul}
use Rattle.std.proofs.lemmas.Bool.{cases_eq, cases_Bool, eqb-true, or_cases, or_from, or_left, or_right}
use Rattle.std.specs.Prelude.{Option, Some, None, ◌||◌}
use Rattle.atomic_table.specs.Table.{Me}
use Rattle.share_parts.specs.Nearest.{nearer}
use Rattle.share_parts.specs.Parts.{kept, Ascends, AreWithin}
use Rattle.share_parts.proofs.Nearest.{AreParts, near_parts}
use Rattle.share_parts.proofs.Parts.{kept-agree, kept-none}
use Rattle.share_rule.specs.inner.Hold.{StepsBy}
use Rattle.share_shards.specs.Held.{is_in, keys_at, keys_of, numbers, slots_of, values_of, AreDistinct, Visited}
use Rattle.share_shards.specs.inner.SeatView.{ShardView, Caller}
use Rattle.share_shards.specs.inner.Steps.{IsIdle, MayAppend, Took, caller_of, held_of, pairs_of, seen_of}
use Rattle.share_shards.proofs.Lists.{at_here, at_next, found_in, is_in_here, unsome, values-slots}
use Rattle.spec_map.specs.Call.{Near, first, last, floor, below, ceiling, above, Operation}
use Rattle.spec_map.specs.Map.{Pairs, lookup}
use Rattle.spec_map.specs.Near.{pair_near}

-- visits that leave each value as it was leave all
pub visited_same : {V E S : Type 0} (does : V → List E → ℕ → S → V → List E → S → Type 0)
    → ((v : V) (b : List E) (i : ℕ) (x : S) (w : V) (a : List E) (y : S) → does v b i x w a y → y ≡ x)
    → (v w : V) (before after : List E) (held values : List (ℕ × S)) → Visited does v before held w after values → values ≡ held
visited_same does same v w before after [] [] h = refl
visited_same {V} {E} {S} does same v w before after (h ∷ held) (k ∷ values) t =
    let y = same v before h.0 h.1 t.1 t.2 k.1 t.3 in
    let rest = visited_same does same t.1 w t.2 after held values t.4 in
    λ i. (t.0 i, y i) ∷ rest i
visited_same does same v w before after [] (k ∷ values) h = absurd h
visited_same does same v w before after (h ∷ held) [] t = absurd t

-- each shard is as it was, but for its value, which has what each visit gives it
pub visited_numbers : {V E S : Type 0} (does : V → List E → ℕ → S → V → List E → S → Type 0)
    → (v w : V) (before after : List E) (held values : List (ℕ × S)) → Visited does v before held w after values → numbers values ≡ numbers held
visited_numbers does v w before after [] [] h = refl
visited_numbers does v w before after (h ∷ held) (k ∷ values) t =
    let rest = visited_numbers does t.1 w t.2 after held values t.4 in λ i. t.0 i ∷ rest i
visited_numbers does v w before after [] (k ∷ values) h = absurd h
visited_numbers does v w before after (h ∷ held) [] t = absurd t

pub visited_all : {V E S : Type 0} (does : V → List E → ℕ → S → V → List E → S → Type 0) (P : S → Type 0)
    → ((v : V) (b : List E) (i : ℕ) (x : S) (w : V) (a : List E) (y : S) → does v b i x w a y → P y)
    → (v w : V) (before after : List E) (held values : List (ℕ × S)) → Visited does v before held w after values → (i : ℕ) (y : S) → lookup values i ≡ Some y → P y
visited_all {V} {E} {S} does P each v w before after [] [] t i y e = absurd (let clash : ◌≡◌ {A = Option S} None (Some y) = e in cc)
visited_all {V} {E} {S} does P each v w before after (h ∷ held) (k ∷ values) t i y e =
    elim (cases_eq k.0 i) [
      | inl at ↦ subst P (unsome k.1 y (sym (at_here k.0 i k.1 values at) ∙ e)) (each v before h.0 h.1 t.1 t.2 k.1 t.3)
      | inr ne ↦ visited_all does P each t.1 w t.2 after held values t.4 i y (sym (at_next k.0 i k.1 values ne) ∙ e)
    ]
visited_all does P each v w before after [] (k ∷ values) h i y e = absurd h
visited_all does P each v w before after (h ∷ held) [] t i y e = absurd t

-- each value is made of what was there as each visit makes it, while the visitor keeps what it knows
pub visited_each : {V E S : Type 0} (does : V → List E → ℕ → S → V → List E → S → Type 0) (Knows : V → Type 0) (Makes : S → S → Type 0)
    → ((v : V) (b : List E) (i : ℕ) (x : S) (w : V) (a : List E) (y : S) → does v b i x w a y → Knows v → Knows w × Makes x y)
    → (v w : V) (before after : List E) (held values : List (ℕ × S)) → Knows v → Visited does v before held w after values
    → (i : ℕ) (y : S) → lookup values i ≡ Some y → (x : S) × (lookup held i ≡ Some x) × Makes x y
visited_each {V} {E} {S} does Knows Makes each v w before after [] [] knows t i y e = absurd (let clash : ◌≡◌ {A = Option S} None (Some y) = e in cc)
visited_each {V} {E} {S} does Knows Makes each v w before after (h ∷ held) (k ∷ values) knows t i y e =
    let one = each v before h.0 h.1 t.1 t.2 k.1 t.3 knows in
    elim (cases_eq k.0 i) [
      | inl at ↦ (h.1, at_here h.0 i h.1 held (sym t.0 ∙ at), subst (λ (z : S). Makes h.1 z) (unsome k.1 y (sym (at_here k.0 i k.1 values at) ∙ e)) one.1)
      | inr ne ↦
          let rest = visited_each does Knows Makes each t.1 w t.2 after held values one.0 t.4 i y (sym (at_next k.0 i k.1 values ne) ∙ e) in
          (rest.0, at_next h.0 i h.1 held (λ is. ne (t.0 ∙ is)) ∙ rest.1, rest.2)
    ]
visited_each does Knows Makes each v w before after [] (k ∷ values) knows h i y e = absurd h
visited_each does Knows Makes each v w before after (h ∷ held) [] knows t i y e = absurd t

-- the sum of the sizes of all that are held
abbrev pub sum_sizes : {S : Type 0} → (S → ℕ) → List (ℕ × S) → ℕ
sum_sizes size [] = 0
sum_sizes size (h ∷ held) = size h.1 + sum_sizes size held

-- a tally that is below the limit at its end counts each
pub tallied : {V E S : Type 0} (limit : ℕ) (does : V → List E → ℕ → S → V → List E → S → Type 0) (tally : V → ℕ) (size : S → ℕ)
    → ((v : V) (b : List E) (i : ℕ) (x : S) (w : V) (a : List E) (y : S) → does v b i x w a y → tally v + size x < limit → tally w ≡ tally v + size x)
    → (v w : V) (before after : List E) (held values : List (ℕ × S)) → Visited does v before held w after values → tally v + sum_sizes size held < limit → tally w ≡ tally v + sum_sizes size held
tallied limit does tally size each v w before after [] [] h small = ap tally h.0 ∙ omega arith
tallied {V} {E} {S} limit does tally size each v w before after (h ∷ held) (k ∷ values) t small =
    let first : tally t.1 ≡ tally v + size h.1 = each v before h.0 h.1 t.1 t.2 k.1 t.3 (omega (arith, small)) in
    let rest : tally w ≡ tally t.1 + sum_sizes size held = tallied limit does tally size each t.1 w t.2 after held values t.4 (omega (arith, small, first)) in
    omega (arith, first, rest)
tallied limit does tally size each v w before after [] (k ∷ values) h small = absurd h
tallied limit does tally size each v w before after (h ∷ held) [] t small = absurd t

-- an amount to which each visit adds no more than this
pub bounded : {V E S : Type 0} (most : ℕ) (does : V → List E → ℕ → S → V → List E → S → Type 0) (amount : V → ℕ) (Fits : S → Type 0)
    → ((v : V) (b : List E) (i : ℕ) (x : S) (w : V) (a : List E) (y : S) → does v b i x w a y → Fits x → amount w ≤ amount v + most)
    → (v w : V) (before after : List E) (held values : List (ℕ × S)) → AreDistinct (numbers held) → ((i : ℕ) (x : S) → lookup held i ≡ Some x → Fits x)
    → Visited does v before held w after values → amount w ≤ amount v + length held * most
bounded most does amount Fits each v w before after [] [] distinct fit h = let is = ap amount h.0 in omega (arith, is)
bounded {V} {E} {S} most does amount Fits each v w before after (h ∷ held) (k ∷ values) distinct fit t =
    let first : amount t.1 ≤ amount v + most = each v before h.0 h.1 t.1 t.2 k.1 t.3 (fit h.0 h.1 (at_here h.0 h.0 h.1 held refl)) in
    let rest : amount w ≤ amount t.1 + length held * most = bounded most does amount Fits each t.1 w t.2 after held values distinct.1
    (λ i x e. fit i x (at_next h.0 i h.1 held (λ at. true≢false (sym (found_in held i x e) ∙ (ap (λ (n : ℕ). is_in (numbers held) n) (sym at) ∙ distinct.0))) ∙ e)) t.4
    in
    let more : length (h ∷ held) * most ≡ length held * most + most = suc-mul (length held) most in
    omega (arith, first, rest, more)
bounded most does amount Fits each v w before after [] (k ∷ values) distinct fit h = absurd h
bounded most does amount Fits each v w before after (h ∷ held) [] distinct fit t = absurd t

module _ {T : Type 0} (shard : ℕ → ℕ) where
  none_of : (m : Pairs T) → length (kept (keys_of shard []) m) ≡ 0
  none_of [] = refl
  none_of (e ∷ es) = none_of es

  -- one shard more has its own pairs more
  one_more : (i : ℕ) (ns : List ℕ) → is_in ns i ≡ false → (m : Pairs T) → length (kept (keys_of shard (i ∷ ns)) m) ≡ length (kept (keys_at shard i) m) + length (kept (keys_of shard ns) m)
  one_more i ns new [] = refl
  one_more i ns new (e ∷ es) =
      let rest : length (kept (keys_of shard (i ∷ ns)) es) ≡ length (kept (keys_at shard i) es) + length (kept (keys_of shard ns) es) = one_more i ns new es in
      elim (cases_eq (shard e.0) i) [
        | inl is ↦
            let all : is_in (i ∷ ns) (shard e.0) ≡ true = ap (λ (b : Bool). cond b true (is_in ns (shard e.0))) (eq-eqb i (shard e.0) (sym is)) in
            let here : eqb (shard e.0) i ≡ true = eq-eqb (shard e.0) i is in
            let gone : is_in ns (shard e.0) ≡ false = ap (λ (k : ℕ). is_in ns k) is ∙ new in
            rw (all, here, gone) (omega (arith, rest))
        | inr ne ↦
            let here : eqb (shard e.0) i ≡ false = ne_eqb (shard e.0) i ne in
            let all : is_in (i ∷ ns) (shard e.0) ≡ is_in ns (shard e.0) = ap (λ (b : Bool). cond b true (is_in ns (shard e.0))) (ne_eqb i (shard e.0) (λ at. ne (sym at))) in
            elim (cases_Bool (is_in ns (shard e.0))) [
              | inl there ↦ rw (all, here, there) (omega (arith, rest))
              | inr gone ↦ rw (all, here, gone) rest
            ]
      ]

  -- the pairs of all shards that are held are as many as those of each
  pub parts_count : {S : Type 0} (size : S → ℕ) (m : Pairs T) (held : List (ℕ × S)) → AreDistinct (numbers held) → ((i : ℕ) (x : S) → lookup held i ≡ Some x → length (kept (keys_at shard i) m) ≡ size x)
      → length (kept (keys_of shard (numbers held)) m) ≡ sum_sizes size held
  parts_count size m [] distinct sizes = none_of m
  parts_count size m (h ∷ held) distinct sizes =
      let first : length (kept (keys_at shard h.0) m) ≡ size h.1 = sizes h.0 h.1 (at_here h.0 h.0 h.1 held refl) in
      let rest : length (kept (keys_of shard (numbers held)) m) ≡ sum_sizes size held = parts_count size m held distinct.1 (λ i x e.
      sizes i x (at_next h.0 i h.1 held (λ at. true≢false (sym (found_in held i x e) ∙ (ap (λ (k : ℕ). is_in (numbers held) k) (sym at) ∙ distinct.0))) ∙ e)) in
      one_more h.0 (numbers held) distinct.0 m ∙ omega (arith, first, rest)

-- A hold of these shards, from its start to its end
module _ {T S : Type 0} (content : S → Pairs T → Type 0) (shard : ℕ → ℕ) (shards : List ℕ) (m m1 : Me (Option S) (ShardView T S)) (idle : IsIdle m) (took : Took content shard shards m m1) where
  abbrev taken : List (ℕ × S)
  taken = held_of m1.0

  pub took_all : numbers taken ≡ reverse shards
  took_all = took.taken ∙ (ap (λ (z : Me (Option S) (ShardView T S)). reverse shards ++ numbers (held_of z.0)) idle ∙ append-nil (reverse shards))

  pub took_slots : m1.1 ≡ slots_of taken ++ []
  took_slots = ap (λ (z : Me (Option S) (ShardView T S)). z.1) took.holds.is ∙ sym (append-nil (slots_of taken))

  -- with other values in the slots: what may be appended then
  pub may_all : (same : T → T → Bool) (operations : List (Operation ℕ T T)) (m2 : Me (Option S) (ShardView T S)) (values : List (ℕ × S)) (end : Pairs T)
      → m2.0 ≡ m1.0 → m2.1 ≡ slots_of values → numbers values ≡ numbers taken → AreWithin (keys_of shard (numbers taken)) operations → StepsBy same operations (pairs_of m1.0) end
      → ((i : ℕ) (value : S) → lookup values i ≡ Some value → content value (kept (keys_at shard i) end))
      → MayAppend same content shard operations m2 (held_of m2.0) (values_of m2.1)
  may_all same operations m2 values end view slots alike within goes parts =
      let view_is : m1.0 ≡ Caller (caller_of m1.0) (seen_of m1.0) (pairs_of m1.0) taken = ap (λ (z : Me (Option S) (ShardView T S)). z.0) took.holds.is in
      let P : ShardView T S × List (ℕ × Option S) → Type 0 = λ z. MayAppend same content shard operations z (held_of z.0) (values_of z.1) in
      subst P (λ i. (sym view i, sym slots i))
      (subst (λ (l : List (ℕ × S)). MayAppend same content shard operations (m1.0, slots_of values) taken l) (sym (values-slots values)) (record {
        end = end;
        is = λ i. (view_is i, slots_of values);
        alike = alike;
        distinct = took.holds.distinct;
        within = within;
        goes = goes;
        parts = parts;
      }))

near_nothing : {T : Type 0} (n : Near ℕ) → ◌≡◌ {A = Option (ℕ × T)} None (pair_near [] n)
near_nothing first = refl
near_nothing last = refl
near_nothing (floor k) = refl
near_nothing (below k) = refl
near_nothing (ceiling k) = refl
near_nothing (above k) = refl

-- THE PAIR NEAREST to a place, from those of all shards that are held. The keys of s were looked at before
module _ {T : Type 0} (shard : ℕ → ℕ) (near : Near ℕ) (m : Pairs T) (up : Ascends m) where
  -- the keys of s, and those of one shard more
  abbrev with_shard : (ℕ → Bool) → ℕ → ℕ → Bool
  with_shard s i k = s k || keys_at shard i k

  abbrev AreNew : (ℕ → Bool) → List ℕ → Type 0
  AreNew s ns = (k : ℕ) → s k ≡ true → is_in ns (shard k) ≡ false

  not_first : (n : ℕ) (ns : List ℕ) (j : ℕ) → is_in (n ∷ ns) j ≡ false → (n ≢ j) × (is_in ns j ≡ false)
  not_first n ns j e =
      elim (cases_eq n j) [
        | inl is ↦ absurd (true≢false (sym (is_in_here n ns j (sym is)) ∙ e))
        | inr ne ↦ (ne, sym (ap (λ (b : Bool). cond b true (is_in ns j)) (ne_eqb n j ne)) ∙ e)
      ]

  one_part : (s : ℕ → Bool) (i : ℕ) (ns : List ℕ) → AreNew s (i ∷ ns) → AreParts s (keys_at shard i) (with_shard s i)
  one_part s i ns new k =
      elim (cases_Bool (s k)) [
        | inl here ↦
            let other = not_first i ns (shard k) (new k here) in
            inl (here, ne_eqb (shard k) i (λ e. other.0 (sym e)), or_left (s k) (keys_at shard i k) here)
        | inr gone ↦ elim (cases_eq (shard k) i) [
          | inl is ↦ let at : keys_at shard i k ≡ true = eq-eqb (shard k) i is in inr (inl (gone, at, or_right (s k) (keys_at shard i k) at))
          | inr ne ↦ let at : keys_at shard i k ≡ false = ne_eqb (shard k) i ne in inr (inr (gone, at, or_from (s k) (keys_at shard i k) gone at))
        ]
      ]

  still_new : (s : ℕ → Bool) (i : ℕ) (ns : List ℕ) → is_in ns i ≡ false → AreNew s (i ∷ ns) → AreNew (with_shard s i) ns
  still_new s i ns distinct new k e =
      elim (or_cases (s k) (keys_at shard i k) e) [
        | inl here ↦ (not_first i ns (shard k) (new k here)).1
        | inr at ↦ ap (λ (j : ℕ). is_in ns j) (eqb-true (shard k) i at) ∙ distinct
      ]

  or_none : (x : Bool) → (x || false) ≡ x
  or_none true = refl
  or_none false = refl

  same_keys : (s : ℕ → Bool) (i : ℕ) (ns : List ℕ) (k : ℕ) → (with_shard s i k || is_in ns (shard k)) ≡ (s k || is_in (i ∷ ns) (shard k))
  same_keys s i ns k =
      elim (cases_eq (shard k) i) [
        | inl is ↦
            or_left (with_shard s i k) (is_in ns (shard k)) (or_right (s k) (keys_at shard i k) (eq-eqb (shard k) i is))
            ∙ sym (or_right (s k) (is_in (i ∷ ns) (shard k)) (is_in_here i ns (shard k) is))
        | inr ne ↦
            ap (λ (b : Bool). (s k || b) || is_in ns (shard k)) (ne_eqb (shard k) i ne)
            ∙ (ap (λ (b : Bool). b || is_in ns (shard k)) (or_none (s k))
            ∙ ap (λ (b : Bool). s k || b) (sym (ap (λ (b : Bool). cond b true (is_in ns (shard k))) (ne_eqb i (shard k) (λ e. ne (sym e))))))
      ]

  module _ {V E S : Type 0} (does : V → List E → ℕ → S → V → List E → S → Type 0) (best : V → Option (ℕ × T)) (found : S → Option (ℕ × T))
      (each : (v : V) (b : List E) (i : ℕ) (x : S) (w : V) (a : List E) (y : S) → does v b i x w a y → best w ≡ nearer near (best v) (found x)) where
    nearest_on : (s : ℕ → Bool) (v w : V) (before after : List E) (held values : List (ℕ × S)) → Visited does v before held w after values → AreDistinct (numbers held) → AreNew s (numbers held)
        → ((i : ℕ) (x : S) → lookup held i ≡ Some x → found x ≡ pair_near (kept (keys_at shard i) m) near) → best v ≡ pair_near (kept s m) near
        → best w ≡ pair_near (kept (λ k. s k || is_in (numbers held) (shard k)) m) near
    nearest_on s v w before after [] [] t distinct new parts known =
        ap best t.0 ∙ (known ∙ ap (λ (l : Pairs T). pair_near l near) (kept-agree s (λ k. s k || false) m (λ k. sym (or_none (s k)))))
    nearest_on s v w before after (h ∷ held) (y ∷ values) t distinct new parts known =
        let next : best t.1 ≡ pair_near (kept (with_shard s h.0) m) near =
        each v before h.0 h.1 t.1 t.2 y.1 t.3
        ∙ ((λ i. nearer near (known i) (parts h.0 h.1 (at_here h.0 h.0 h.1 held refl) i))
        ∙ sym (near_parts s (keys_at shard h.0) (with_shard s h.0) (one_part s h.0 (numbers held) new) near m up))
        in
        let later = λ (i : ℕ) (x : S) (e : lookup held i ≡ Some x). parts i x (at_next h.0 i h.1 held (λ at. true≢false (sym (found_in held i x e) ∙ (ap (λ (k : ℕ). is_in (numbers held) k) (sym at) ∙ distinct.0))) ∙ e) in
        nearest_on (with_shard s h.0) t.1 w t.2 after held values t.4 distinct.1 (still_new s h.0 (numbers held) distinct.0 new) later next
        ∙ ap (λ (l : Pairs T). pair_near l near) (kept-agree (λ k. with_shard s h.0 k || is_in (numbers held) (shard k)) (λ k. s k || is_in (h.0 ∷ numbers held) (shard k)) m (same_keys s h.0 (numbers held)))
    nearest_on s v w before after [] (y ∷ values) t distinct new parts known = absurd t
    nearest_on s v w before after (h ∷ held) [] t distinct new parts known = absurd t

    -- visits that keep the nearer pair find the nearest of all
    pub nearest_visited : (v w : V) (before after : List E) (held values : List (ℕ × S)) → Visited does v before held w after values → AreDistinct (numbers held) → kept (keys_of shard (numbers held)) m ≡ m
        → ((i : ℕ) (x : S) → lookup held i ≡ Some x → found x ≡ pair_near (kept (keys_at shard i) m) near) → best v ≡ None → best w ≡ pair_near m near
    nearest_visited v w before after held values visited distinct within parts start =
        nearest_on (λ _. false) v w before after held values visited distinct (λ k e. absurd (true≢false (sym e))) parts
        (start ∙ (near_nothing near ∙ ap (λ (l : Pairs T). pair_near l near) (sym (kept-none (λ _. false) m (λ k. refl)))))
        ∙ ap (λ (l : Pairs T). pair_near l near) within
