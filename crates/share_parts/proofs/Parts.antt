-- A call that some keys determine does on the whole map what it does on the pairs with these keys.
use Rattle.std.proofs.Common.{◌≡◌, ◌≢◌, ℕ, ◌+◌, ◌<◌, ◌≤◌, Bool, true, false, cond, eqb, List, [], ◌∷◌, Option, Some, None, refl, sym, ap, subst, ◌∙◌, inl, inr, arith}
use Rattle.std.specs.Prelude.{Result, Ok, Err, take, nat_le, nat_lt, ◌&&◌}
use Rattle.std.proofs.lemmas.Bool.{cases_eq, cases_lt, cases_Bool, lt-leb, le-ltb, and_left, and_right, true≢false, false_from_ne_true}
use Rattle.spec_map.proofs.MapLaws.{without-absent, lookup-next, Rises-wider, same_from_lookups}
use Rattle.spec_map.specs.Call.{Call, get, insert, remove, compare_exchange, compute_if_present, compute_or_insert, is_empty, keys, range, nearest, count, ClosureCall, Answer, replied, refused, ranged, Operation}
use Rattle.spec_map.specs.Legal.{IsLegal, MayAnswer, exchange, after_exchange, after_asking, after_operation, after_answer}
use Rattle.spec_map.specs.Map.{Pairs, lookup, without, with_answer, between, Rises}
use Rattle.spec_map.specs.Refusal.{never}
use Rattle.share_parts.specs.Parts.{kept, Ascends, IsWithin, AreWithin, AreApart, RunsOnWhole}
use Rattle.share_parts.proofs.OnKeys.{ascends_answer, ascends_after, allows_same, answer_at, other_answer}

-- the first pair stays or goes
module _ {P : Type 0} (mine : ℕ → Bool) where
  pub kept_here : (e : ℕ × P) (es : Pairs P) → mine e.0 ≡ true → kept mine (e ∷ es) ≡ e ∷ kept mine es
  kept_here e es is = ap (λ (b : Bool). cond b (e ∷ kept mine es) (kept mine es)) is

  pub kept_there : (e : ℕ × P) (es : Pairs P) → mine e.0 ≡ false → kept mine (e ∷ es) ≡ kept mine es
  kept_there e es goes = ap (λ (b : Bool). cond b (e ∷ kept mine es) (kept mine es)) goes

  pub lookup-kept : (m : Pairs P) (k : ℕ) → mine k ≡ true → lookup (kept mine m) k ≡ lookup m k
  lookup-kept [] k is = refl
  lookup-kept (e ∷ es) k is =
      let rest : lookup (kept mine es) k ≡ lookup es k = lookup-kept es k is in
      elim (cases_Bool (mine e.0)) [
        | inl stays ↦ ap (λ (l : Pairs P). lookup l k) (kept_here e es stays) ∙ ap (λ (o : Option P). cond (eqb e.0 k) (Some e.1) o) rest
        | inr goes ↦
            let other : e.0 ≢ k = λ at. true≢false (sym is ∙ (ap mine (sym at) ∙ goes)) in
            ap (λ (l : Pairs P). lookup l k) (kept_there e es goes) ∙ (rest ∙ sym (lookup-next e es k other))
      ]

  pub lookup-kept_not : (m : Pairs P) (k : ℕ) → mine k ≡ false → lookup (kept mine m) k ≡ None
  lookup-kept_not [] k goes = refl
  lookup-kept_not (e ∷ es) k goes =
      let rest : lookup (kept mine es) k ≡ None = lookup-kept_not es k goes in
      elim (cases_Bool (mine e.0)) [
        | inl stays ↦
            let other : e.0 ≢ k = λ at. true≢false (sym stays ∙ (ap mine at ∙ goes)) in
            ap (λ (l : Pairs P). lookup l k) (kept_here e es stays) ∙ (lookup-next e (kept mine es) k other ∙ rest)
        | inr out ↦ ap (λ (l : Pairs P). lookup l k) (kept_there e es out) ∙ rest
      ]

  pub Rises-kept : (a b : ℕ) (m : Pairs P) → Rises a b m → Rises a b (kept mine m)
  Rises-kept a b [] h = tt
  Rises-kept a b (e ∷ es) h =
      let rest : Rises (e.0 + 1) b (kept mine es) = Rises-kept (e.0 + 1) b es h.2 in
      let from = h.0 in
      elim (cases_Bool (mine e.0)) [
        | inl stays ↦ subst (λ (l : Pairs P). Rises a b l) (sym (kept_here e es stays)) (h.0, h.1, rest)
        | inr goes ↦ subst (λ (l : Pairs P). Rises a b l) (sym (kept_there e es goes)) (Rises-wider (e.0 + 1) b a b (kept mine es) (omega (arith, from)) (omega arith) rest)
      ]

  pub ascends_kept : (m : Pairs P) → Ascends m → Ascends (kept mine m)
  ascends_kept m h = (h.0, Rises-kept 0 h.0 m h.1)

  pub kept-all : (m : Pairs P) → ((k : ℕ) → mine k ≡ true) → kept mine m ≡ m
  kept-all [] all = refl
  kept-all (e ∷ es) all = kept_here e es (all e.0) ∙ ap (λ (l : Pairs P). e ∷ l) (kept-all es all)

  pub kept-none : (m : Pairs P) → ((k : ℕ) → mine k ≡ false) → kept mine m ≡ []
  kept-none [] none = refl
  kept-none (e ∷ es) none = kept_there e es (none e.0) ∙ kept-none es none

module _ {P : Type 0} where
  -- a part of a part
  pub kept-kept : (p q : ℕ → Bool) (m : Pairs P) → ((k : ℕ) → p k ≡ true → q k ≡ true) → kept p (kept q m) ≡ kept p m
  kept-kept p q [] inside = refl
  kept-kept p q (e ∷ es) inside =
      let rest : kept p (kept q es) ≡ kept p es = kept-kept p q es inside in
      elim (cases_Bool (q e.0)) [
        | inl stays ↦ ap (λ (l : Pairs P). kept p l) (kept_here q e es stays) ∙ ap (λ (l : Pairs P). cond (p e.0) (e ∷ l) l) rest
        | inr goes ↦
            let out : p e.0 ≡ false = false_from_ne_true (p e.0) (λ y. true≢false (sym (inside e.0 y) ∙ goes)) in
            ap (λ (l : Pairs P). kept p l) (kept_there q e es goes) ∙ (rest ∙ sym (kept_there p e es out))
      ]

  pub kept-agree : (p q : ℕ → Bool) (m : Pairs P) → ((k : ℕ) → p k ≡ q k) → kept p m ≡ kept q m
  kept-agree p q m same = ap (λ (f : ℕ → Bool). kept f m) (λ i k. same k i)

  same_maps : (m n : Pairs P) → Ascends m → Ascends n → ((k : ℕ) → lookup m k ≡ lookup n k) → m ≡ n
  same_maps m n h g same = same_from_lookups 0 h.0 0 g.0 m n h.1 g.1 same

  -- the pairs of a range whose keys are all in the part
  between_here : (e : ℕ × P) (l r : Pairs P) (a b : ℕ) → between l a b ≡ between r a b → between (e ∷ l) a b ≡ between (e ∷ r) a b
  between_here e l r a b rest = ap (λ (t : Pairs P). cond (nat_le a e.0 && nat_lt e.0 b) (e ∷ t) t) rest

  between_not : (e : ℕ × P) (l : Pairs P) (a b : ℕ) → (nat_le a e.0 && nat_lt e.0 b) ≡ false → between (e ∷ l) a b ≡ between l a b
  between_not e l a b goes = ap (λ (t : Bool). cond t (e ∷ between l a b) (between l a b)) goes

  pub between-kept : (mine : ℕ → Bool) (m : Pairs P) (a b : ℕ) → ((k : ℕ) → a ≤ k → k < b → mine k ≡ true) → between (kept mine m) a b ≡ between m a b
  between-kept mine [] a b within = refl
  between-kept mine (e ∷ es) a b within =
      let rest : between (kept mine es) a b ≡ between es a b = between-kept mine es a b within in
      elim (cases_Bool (mine e.0)) [
        | inl stays ↦ ap (λ (l : Pairs P). between l a b) (kept_here mine e es stays) ∙ between_here e (kept mine es) es a b rest
        | inr goes ↦
            let outside : (nat_le a e.0 && nat_lt e.0 b) ≡ false =
            elim (cases_lt e.0 a) [
              | inl less ↦ and_left (nat_le a e.0) (nat_lt e.0 b) (lt-leb a e.0 less)
              | inr from ↦ elim (cases_lt e.0 b) [
                | inl to ↦ absurd (true≢false (sym (within e.0 from to) ∙ goes))
                | inr past ↦ and_right (nat_le a e.0) (nat_lt e.0 b) (le-ltb e.0 b past)
              ]
            ]
            in
            ap (λ (l : Pairs P). between l a b) (kept_there mine e es goes) ∙ (rest ∙ sym (between_not e es a b outside))
      ]

module _ {P : Type 0} (same : P → P → Bool) where
  -- every call keeps the order of the keys
  pub ascends_operation : (m : Pairs P) (call : Call ℕ P) (asked : ClosureCall P) (answer : Answer ℕ P P) → Ascends m → Ascends (after_answer same m call asked answer)
  ascends_operation m (get k) asked answer h = ascends_after same m (get k) asked answer tt h
  ascends_operation m (insert k v) asked answer h = ascends_after same m (insert k v) asked answer tt h
  ascends_operation m (remove k) asked answer h = ascends_after same m (remove k) asked answer tt h
  ascends_operation m (compare_exchange k old new) asked answer h = ascends_after same m (compare_exchange k old new) asked answer tt h
  ascends_operation m (compute_if_present k) asked answer h = ascends_after same m (compute_if_present k) asked answer tt h
  ascends_operation m (compute_or_insert k) asked answer h = ascends_after same m (compute_or_insert k) asked answer tt h
  ascends_operation m is_empty asked (replied reply) h = h
  ascends_operation m keys asked (replied reply) h = h
  ascends_operation m (range a b n) asked (replied reply) h = h
  ascends_operation m (nearest near) asked (replied reply) h = h
  ascends_operation m count asked (replied reply) h = h
  ascends_operation m is_empty asked refused h = h
  ascends_operation m keys asked refused h = h
  ascends_operation m (range a b n) asked refused h = h
  ascends_operation m (nearest near) asked refused h = h
  ascends_operation m count asked refused h = h

  module _ (mine : ℕ → Bool) where
    -- a value is put at a key that isn't of the part, or taken out
    answer_else : (m : Pairs P) (k : ℕ) (new : Option P) → Ascends m → mine k ≡ false → kept mine (with_answer m k new) ≡ kept mine m
    answer_else m k new h out =
        same_maps (kept mine (with_answer m k new)) (kept mine m) (ascends_kept mine (with_answer m k new) (ascends_answer same m k new h)) (ascends_kept mine m h)
        (λ j. elim (cases_Bool (mine j)) [
          | inl stays ↦
              let other : j ≢ k = λ at. true≢false (sym stays ∙ (ap mine at ∙ out)) in
              lookup-kept mine (with_answer m k new) j stays ∙ (other_answer same m k new j other ∙ sym (lookup-kept mine m j stays))
          | inr goes ↦ lookup-kept_not mine (with_answer m k new) j goes ∙ sym (lookup-kept_not mine m j goes)
        ])

    exchange_else : (m : Pairs P) (k : ℕ) (r : Result (Option P) (Option P)) → Ascends m → mine k ≡ false → kept mine (after_exchange m k r) ≡ kept mine m
    exchange_else m k (Ok new) h out = answer_else m k new h out
    exchange_else m k (Err current) h out = refl

    asking_else : (m : Pairs P) (k : ℕ) (asked : ClosureCall P) → Ascends m → mine k ≡ false → kept mine (after_asking m k asked) ≡ kept mine m
    asking_else m k None h out = refl
    asking_else m k (Some (old, new)) h out = answer_else m k new h out

  module _ (mine : ℕ → Bool) where
    -- a value is put at a key of the part, or taken out
    answer_kept : (m : Pairs P) (k : ℕ) (new : Option P) → Ascends m → mine k ≡ true → kept mine (with_answer m k new) ≡ with_answer (kept mine m) k new
    answer_kept m k new h is =
        let part : Pairs P = kept mine m in let up = ascends_kept mine m h in
        let left = ascends_kept mine (with_answer m k new) (ascends_answer same m k new h) in
        same_maps (kept mine (with_answer m k new)) (with_answer part k new) left (ascends_answer same part k new up)
        (λ j. elim (cases_eq j k) [
          | inl at ↦
              let in_part : mine j ≡ true = ap mine at ∙ is in
              lookup-kept mine (with_answer m k new) j in_part
              ∙ subst (λ (i : ℕ). lookup (with_answer m i new) j ≡ lookup (with_answer part i new) j) at (answer_at same m part j new h up)
          | inr ne ↦ elim (cases_Bool (mine j)) [
            | inl stays ↦
                lookup-kept mine (with_answer m k new) j stays ∙ other_answer same m k new j ne
                ∙ sym (other_answer same part k new j ne ∙ lookup-kept mine m j stays)
            | inr goes ↦
                lookup-kept_not mine (with_answer m k new) j goes
                ∙ sym (other_answer same part k new j ne ∙ lookup-kept_not mine m j goes)
          ]
        ])

    exchange_kept : (m : Pairs P) (k : ℕ) (r : Result (Option P) (Option P)) → Ascends m → mine k ≡ true → kept mine (after_exchange m k r) ≡ after_exchange (kept mine m) k r
    exchange_kept m k (Ok new) h is = answer_kept m k new h is
    exchange_kept m k (Err current) h is = refl

    asking_kept : (m : Pairs P) (k : ℕ) (asked : ClosureCall P) → Ascends m → mine k ≡ true → kept mine (after_asking m k asked) ≡ after_asking (kept mine m) k asked
    asking_kept m k None h is = refl
    asking_kept m k (Some (old, new)) h is = answer_kept m k new h is

    -- the whole map allows what the part allows
    allows_part : (m : Pairs P) (call : Call ℕ P) (asked : ClosureCall P) (answer : Answer ℕ P P) → IsWithin mine call → MayAnswer same never (kept mine m) call asked answer → MayAnswer same never m call asked answer
    allows_part m (get k) asked answer on a = allows_same same m (kept mine m) (get k) asked answer tt (sym (lookup-kept mine m k on)) a
    allows_part m (insert k v) asked answer on a = allows_same same m (kept mine m) (insert k v) asked answer tt (sym (lookup-kept mine m k on)) a
    allows_part m (remove k) asked answer on a = allows_same same m (kept mine m) (remove k) asked answer tt (sym (lookup-kept mine m k on)) a
    allows_part m (compare_exchange k old new) asked answer on a = allows_same same m (kept mine m) (compare_exchange k old new) asked answer tt (sym (lookup-kept mine m k on)) a
    allows_part m (compute_if_present k) asked answer on a = allows_same same m (kept mine m) (compute_if_present k) asked answer tt (sym (lookup-kept mine m k on)) a
    allows_part m (compute_or_insert k) asked answer on a = allows_same same m (kept mine m) (compute_or_insert k) asked answer tt (sym (lookup-kept mine m k on)) a
    allows_part m (range a b n) asked (replied reply) on h = (h.0, h.1 ∙ ap (λ (l : Pairs P). ranged (take n l)) (between-kept mine m a b on))
    allows_part m (range a b n) asked refused on h = h
    allows_part m is_empty asked answer on a = subst (λ (z : Pairs P). MayAnswer same never z is_empty asked answer) (kept-all mine m on) a
    allows_part m keys asked answer on a = subst (λ (z : Pairs P). MayAnswer same never z keys asked answer) (kept-all mine m on) a
    allows_part m (nearest near) asked answer on a = subst (λ (z : Pairs P). MayAnswer same never z (nearest near) asked answer) (kept-all mine m on) a
    allows_part m count asked answer on a = subst (λ (z : Pairs P). MayAnswer same never z count asked answer) (kept-all mine m on) a

    -- and changes there as the part does
    after_part : (m : Pairs P) (call : Call ℕ P) (asked : ClosureCall P) (answer : Answer ℕ P P) → IsWithin mine call → Ascends m → kept mine (after_answer same m call asked answer) ≡ after_answer same (kept mine m) call asked answer
    after_part m (get k) asked (replied reply) on h = refl
    after_part m (insert k v) asked (replied reply) on h = answer_kept m k (Some v) h on
    after_part m (remove k) asked (replied reply) on h = answer_kept m k None h on
    after_part m (compare_exchange k old new) asked (replied reply) on h =
        exchange_kept m k (exchange same (lookup m k) old new) h on
        ∙ ap (λ (o : Option P). after_exchange (kept mine m) k (exchange same o old new)) (sym (lookup-kept mine m k on))
    after_part m (compute_if_present k) asked (replied reply) on h = asking_kept m k asked h on
    after_part m (compute_or_insert k) asked (replied reply) on h = asking_kept m k asked h on
    after_part m (range a b n) asked (replied reply) on h = refl
    after_part m is_empty asked (replied reply) on h = refl
    after_part m keys asked (replied reply) on h = refl
    after_part m (nearest near) asked (replied reply) on h = refl
    after_part m count asked (replied reply) on h = refl
    after_part m call asked refused on h = refl

    -- the pairs with other keys stay
    after_else : (other : ℕ → Bool) → AreApart mine other → (m : Pairs P) (call : Call ℕ P) (asked : ClosureCall P) (answer : Answer ℕ P P) → IsWithin mine call → Ascends m → kept other (after_answer same m call asked answer) ≡ kept other m
    after_else other apart m (get k) asked (replied reply) on h = refl
    after_else other apart m (insert k v) asked (replied reply) on h = answer_else other m k (Some v) h (apart k on)
    after_else other apart m (remove k) asked (replied reply) on h = answer_else other m k None h (apart k on)
    after_else other apart m (compare_exchange k old new) asked (replied reply) on h = exchange_else other m k (exchange same (lookup m k) old new) h (apart k on)
    after_else other apart m (compute_if_present k) asked (replied reply) on h = asking_else other m k asked h (apart k on)
    after_else other apart m (compute_or_insert k) asked (replied reply) on h = asking_else other m k asked h (apart k on)
    after_else other apart m (range a b n) asked (replied reply) on h = refl
    after_else other apart m is_empty asked (replied reply) on h = refl
    after_else other apart m keys asked (replied reply) on h = refl
    after_else other apart m (nearest near) asked (replied reply) on h = refl
    after_else other apart m count asked (replied reply) on h = refl
    after_else other apart m call asked refused on h = refl

    pub part_runs : (operations : List (Operation ℕ P P)) (m d : Pairs P) → AreWithin mine operations → Ascends m → IsLegal same never (kept mine m) operations d → RunsOnWhole same mine m operations d
    part_runs [] m d within h legal = record { end = m; legal = refl; ordered = h; part = sym legal; others = λ other apart. refl }
    part_runs (x ∷ xs) m d within h legal =
        let next : Pairs P = after_operation same m x in
        let rest = part_runs xs next d within.1 (ascends_operation m x.call x.asked x.answer h)
        (subst (λ (z : Pairs P). IsLegal same never z xs d) (sym (after_part m x.call x.asked x.answer within.0 h)) legal.1)
        in
        record {
          end = rest.end;
          legal = (allows_part m x.call x.asked x.answer within.0 legal.0, rest.legal);
          ordered = rest.ordered;
          part = rest.part;
          others = λ other apart. rest.others other apart ∙ after_else other apart m x.call x.asked x.answer within.0 h;
        }

-- a part of a map without a key
pub kept-without : {P : Type 0} (mine : ℕ → Bool) (m : Pairs P) (k : ℕ) → Ascends m → kept mine (without m k) ≡ without (kept mine m) k
kept-without {P} mine m k h =
    let any : P → P → Bool = λ a b. true in
    elim (cases_Bool (mine k)) [
      | inl stays ↦ answer_kept any mine m k None h stays
      | inr goes ↦ answer_else any mine m k None h goes ∙ sym (without-absent (kept mine m) k (lookup-kept_not mine m k goes))
    ]
