-- What visits of all shards come to.
use Rattle.std.proofs.Common.{◌≡◌, ℕ, ◌+◌, ◌*◌, ◌-◌, ◌<◌, ◌≤◌, ◌^◌, List, [], ◌∷◌, ◌++◌, reverse, append-nil, length, map, min, refl, sym, ap, subst, ◌∙◌, arith}
use Rattle.std.proofs.lemmas.List.{length-map}
use Rattle.std.specs.Prelude.{Option, None}
use Rattle.share_parts.specs.Nearest.{nearer}
use Rattle.share_parts.specs.Parts.{kept}
use Rattle.share_parts.proofs.Parts.{kept-all}
use Rattle.share_shards.specs.Held.{keys_of, numbers, slots_of, AreDistinct, Visited}
use Rattle.share_shards.specs.Lock.{LockView}
use Rattle.share_shards.proofs.Whole.{bounded, nearest_visited, parts_count, sum_sizes, tallied, visited_all, visited_each, visited_numbers, visited_same}
use Rattle.share_visits.specs.Charged.{AreCharges, IsChargeOfAll, sum_of}
use Rattle.share_visits.specs.Near.{near_of}
use Rattle.share_visits.specs.Visits.{Charges, Clears, Finds, Tallies}
use Rattle.share_visits.specs.Whole.{Contains, IsCount, down, shard_of}
use Rattle.share_visits.specs.declared.near.Near.{Near}
use Rattle.share_visits.specs.declared.part.Part.{Part}
use Rattle.share_visits.specs.declared.visits.Charge.{Charge}
use Rattle.share_visits.specs.declared.visits.Clear.{Clear}
use Rattle.share_visits.specs.declared.visits.Find.{Find}
use Rattle.share_visits.specs.declared.visits.Tally.{Tally}
use Rattle.share_visits.proofs.Numbers.{all_keys, distinct, few_shards, length-down}
use Rattle.spec_map.specs.Map.{Pairs}
use Rattle.spec_map.specs.Near.{pair_near}

module _ {M : Type 0} (pairs : M → Pairs ℕ) (limit_of : M → ℕ) (lock : LockView) where
  abbrev count : ℕ
  count = lock.table.slots

  abbrev Held : Type 0
  Held = List (ℕ × Part M)

  abbrev Slots : Type 0
  Slots = List (ℕ × Option (Part M))

  -- what a visit of all gives
  module _ {V E : Type 0} (does : V → List E → ℕ → Part M → V → List E → Part M → Type 0) (v w : V) (before after : List E) (slots later : Slots) (shards : List ℕ) where
    abbrev pub Visits : Type 0
    Visits = (held : Held) (others : Slots) → slots ≡ slots_of held ++ others → numbers held ≡ reverse shards → (values : Held) × (later ≡ others ++ slots_of values) × Visited does v before held w after values

    pub visited : (all : Pairs ℕ) (c : Contains pairs limit_of lock all slots) → reverse shards ≡ down count → Visits
        → (values : Held) × (later ≡ slots_of values) × Visited does v before c.held w after values
    visited all c is visits = visits c.held [] (c.is ∙ sym (append-nil (slots_of c.held))) (c.numbered ∙ sym is)

    -- visits that leave each value as it was
    pub looked : (all : Pairs ℕ) (c : Contains pairs limit_of lock all slots) → reverse shards ≡ down count → Visits
        → ((v : V) (b : List E) (i : ℕ) (x : Part M) (w : V) (a : List E) (y : Part M) → does v b i x w a y → y ≡ x)
        → (values : Held) × (later ≡ slots) × Visited does v before c.held w after values
    looked all c is visits same =
        let t = visited all c is visits in
        (t.0, t.1 ∙ (ap (λ (l : Held). slots_of l) (visited_same does same v w before after c.held t.0 t.2) ∙ sym c.is), t.2)

  within_all : (all : Pairs ℕ) (slots : Slots) (c : Contains pairs limit_of lock all slots) → IsCount count → kept (keys_of (shard_of count) (numbers c.held)) all ≡ all
  within_all all slots c some =
      kept-all (keys_of (shard_of count) (numbers c.held)) all (λ k. ap (λ (l : List ℕ). keys_of (shard_of count) l k) c.numbered ∙ all_keys count some k)

  -- the visitor keeps what it knows
  knowing : {V E : Type 0} (does : V → List E → ℕ → Part M → V → List E → Part M → Type 0) (Knows : V → Type 0)
      → ((v : V) (b : List E) (i : ℕ) (x : Part M) (w : V) (a : List E) (y : Part M) → does v b i x w a y → Knows v → Knows w)
      → (v w : V) (before after : List E) (held values : Held) → Knows v → Visited does v before held w after values
      → Visited (λ v b i x w a y. Knows v × does v b i x w a y) v before held w after values
  knowing does Knows each v w before after [] [] knows t = t
  knowing does Knows each v w before after (h ∷ held) (k ∷ values) knows t =
      (t.0, t.1, t.2, (knows, t.3), knowing does Knows each t.1 w t.2 after held values (each v before h.0 h.1 t.1 t.2 k.1 t.3 knows) t.4)
  knowing does Knows each v w before after [] (k ∷ values) knows t = absurd t
  knowing does Knows each v w before after (h ∷ held) [] knows t = absurd t

  abbrev size_of : Part M → ℕ
  size_of part = length (pairs part.map)

  few_pairs : {E : Type 0} (v w : Tally) (before after : List E) (held values : Held) → Visited (Tallies pairs) v before held w after values → sum_sizes size_of held ≤ length held * 2 ^ 64
  few_pairs v w before after [] [] t = omega arith
  few_pairs v w before after (h ∷ held) (k ∷ values) t =
      let first : size_of h.1 ≤ 2 ^ 64 = t.3.few in
      let rest : sum_sizes size_of held ≤ length held * 2 ^ 64 = few_pairs t.1 w t.2 after held values t.4 in
      omega (arith, first, rest)
  few_pairs v w before after [] (k ∷ values) t = absurd t
  few_pairs v w before after (h ∷ held) [] t = absurd t

  module _ (all : Pairs ℕ) (slots : Slots) (c : Contains pairs limit_of lock all slots) (some : IsCount count) where
    pub counted_all : {E : Type 0} (v w : Tally) (before after : List E) (values : Held) → v.pairs ≡ 0 → Visited (Tallies pairs) v before c.held w after values → w.pairs ≡ length all
    counted_all v w before after values start t =
        let few = few_pairs v w before after c.held values t in
        let many : length c.held ≡ count = sym (length-map c.held (λ h. h.0)) ∙ (ap (λ (l : List ℕ). length l) c.numbered ∙ length-down count) in
        let small = few_shards count some in
        let total : w.pairs ≡ v.pairs + sum_sizes size_of c.held =
        tallied (2 ^ 128) (Tallies pairs) (λ t. t.pairs) size_of (λ v b i x w a y d. d.counts) v w before after c.held values t (omega (arith, few, many, small, start))
        in
        let parts : length (kept (keys_of (shard_of count) (numbers c.held)) all) ≡ sum_sizes size_of c.held =
        parts_count (shard_of count) size_of all c.held (subst (λ (l : List ℕ). AreDistinct l) (sym c.numbered) (distinct count)) (λ i x e. ap (λ (l : Pairs ℕ). length l) (c.parts i x e))
        in
        let whole = ap (λ (l : Pairs ℕ). length l) (within_all all slots c some) in
        omega (arith, total, parts, whole, start)

    -- the maps of all shards
    abbrev maps_of : Held → List M
    maps_of held = map (λ (h : ℕ × Part M). h.1.map) held

    sizes_of : (held : Held) → sum_sizes size_of held ≡ sum_of (λ m. length (pairs m)) (maps_of held)
    sizes_of [] = refl
    sizes_of (h ∷ held) = ap (λ (n : ℕ). size_of h.1 + n) (sizes_of held)

    charged_on : {E : Type 0} (charges : M → ℕ → Type 0) (v w : Charge) (before after : List E) (held values : Held) → v.bytes < 2 ^ 128 → Visited (Charges pairs charges limit_of) v before held w after values
        → (sizes : List ℕ) × AreCharges charges (maps_of held) sizes × (w.bytes ≡ min (v.bytes + sum_of (λ b. b) sizes) (2 ^ 128 - 1))
    charged_on charges v w before after [] [] small t = let is = ap (λ (c : Charge). c.bytes) t.0 in ([], tt, omega (arith, is, small))
    charged_on charges v w before after (h ∷ held) (k ∷ values) small t =
        let adds = t.3.adds in
        let rest = charged_on charges t.1 w t.2 after held values (omega (arith, adds)) t.4 in
        let sum = rest.2 in
        (t.3.bytes ∷ rest.0, (t.3.is, rest.1), omega (arith, adds, sum))
    charged_on charges v w before after [] (k ∷ values) small t = absurd t
    charged_on charges v w before after (h ∷ held) [] small t = absurd t

    pub charged_all : {E : Type 0} (charges : M → ℕ → Type 0) (v w : Charge) (before after : List E) (values : Held) → v.bytes ≡ 0 → Visited (Charges pairs charges limit_of) v before c.held w after values
        → (maps : List M) × (length maps ≡ count) × (length all ≡ sum_of (λ m. length (pairs m)) maps) × IsChargeOfAll charges maps w.bytes
    charged_all charges v w before after values start t =
        let found = charged_on charges v w before after c.held values (omega (arith, start)) t in
        let many : length (maps_of c.held) ≡ count =
        length-map c.held (λ h. h.1.map) ∙ (sym (length-map c.held (λ h. h.0)) ∙ (ap (λ (l : List ℕ). length l) c.numbered ∙ length-down count))
        in
        let parts : length (kept (keys_of (shard_of count) (numbers c.held)) all) ≡ sum_sizes size_of c.held =
        parts_count (shard_of count) size_of all c.held (subst (λ (l : List ℕ). AreDistinct l) (sym c.numbered) (distinct count)) (λ i x e. ap (λ (l : Pairs ℕ). length l) (c.parts i x e))
        in
        let sum = found.2 in (
          maps_of c.held,
          many,
          sym (ap (λ (l : Pairs ℕ). length l) (within_all all slots c some)) ∙ (parts ∙ sizes_of c.held),
          record { sizes = found.0; each = found.1; sum = omega (arith, sum, start) },
        )

    -- each is charged no more than its limit
    pub charged_within : {E : Type 0} (charges : M → ℕ → Type 0) (v w : Charge) (before after : List E) (values : Held) → v.bytes ≡ 0 → Visited (Charges pairs charges limit_of) v before c.held w after values → w.bytes ≤ count * lock.limit
    charged_within charges v w before after values start t =
        let below =
        bounded lock.limit (Charges pairs charges limit_of) (λ (a : Charge). a.bytes) (λ (x : Part M). limit_of x.map ≡ lock.limit) (λ v b i x w a y d is. let adds = d.adds in let within = d.within in omega (arith, adds, within, is)) v w before after c.held values
        (subst (λ (l : List ℕ). AreDistinct l) (sym c.numbered) (distinct count)) c.limits t
        in
        let many : length c.held ≡ count = sym (length-map c.held (λ h. h.0)) ∙ (ap (λ (l : List ℕ). length l) c.numbered ∙ length-down count) in
        let same = ap (λ (n : ℕ). n * lock.limit) many in
        omega (arith, below, same, start)

    pub found_all : {E : Type 0} (near : Near) (v w : Find) (before after : List E) (values : Held) → v.near ≡ near → v.pair ≡ None → Visited (Finds pairs) v before c.held w after values
        → w.pair ≡ pair_near all (near_of near)
    found_all {E} near v w before after values is start t =
        nearest_visited (shard_of count) (near_of near) all c.ordered (λ (v : Find) (b : List E) (i : ℕ) (x : Part M) (w : Find) (a : List E) (y : Part M). (v.near ≡ near) × Finds pairs v b i x w a y) (λ f. f.pair)
        (λ (part : Part M). pair_near (pairs part.map) (near_of near))
        (λ v b i x w a y d. d.1.keeps ∙ ap (λ (n : Near). nearer (near_of n) v.pair (pair_near (pairs x.map) (near_of n))) d.0) v w before after c.held values
        (knowing (Finds pairs) (λ f. f.near ≡ near) (λ v b i x w a y d k. d.near ∙ k) v w before after c.held values is t)
        (subst (λ (l : List ℕ). AreDistinct l) (sym c.numbered) (distinct count)) (within_all all slots c some)
        (λ i x e. ap (λ (l : Pairs ℕ). pair_near l (near_of near)) (sym (c.parts i x e))) start

    pub cleared : {E : Type 0} (v w : Clear) (before after : List E) (values : Held) (later : Slots) → later ≡ slots_of values → Visited (Clears pairs limit_of) v before c.held w after values → Contains pairs limit_of lock [] later
    cleared {E} v w before after values later on t = record {
      held = values;
      is = on;
      numbered = visited_numbers (Clears pairs limit_of) v w before after c.held values t ∙ c.numbered;
      ordered = (0, tt);
      parts = λ i y e. sym (visited_all (Clears pairs limit_of) (λ (x : Part M). pairs x.map ≡ []) (λ v b i x w a y d. d.empty) v w before after c.held values t i y e);
      limits = λ i y e.
          let one = visited_each (Clears pairs limit_of) (λ _. Unit {0}) (λ (x y : Part M). limit_of y.map ≡ limit_of x.map) (λ v b i x w a y d k. (tt, d.limit)) v w before after c.held values tt t i y e in
          one.2 ∙ c.limits i one.0 one.1;
    }
