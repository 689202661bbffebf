-- A visit of one shard: the slots before it are turned, and those behind it after it.
use Rattle.std.proofs.Common.{◌≡◌, ℕ, zero, suc, ◌+◌, ◌-◌, ◌<◌, ◌≢◌, Bool, cond, eqb, List, [], ◌∷◌, ◌++◌, length, reverse, append_assoc, refl, sym, ap, subst, ◌∙◌, inl, inr, eq-eqb, arith}
use Rattle.std.proofs.lemmas.Bool.{cases_eq}
use Rattle.std.proofs.lemmas.List.{length-map, map-append}
use Rattle.std.specs.Prelude.{Option, Some}
use Rattle.share_parts.specs.Parts.{kept, Ascends}
use Rattle.share_shards.specs.Held.{keys_at, numbers, slots_of, Visited}
use Rattle.share_shards.specs.Lock.{LockView}
use Rattle.share_visits.specs.Whole.{Contains, down, shard_of}
use Rattle.share_visits.specs.declared.part.Part.{Part}
use Rattle.share_visits.specs.inner.One.{VisitedOne}
use Rattle.share_visits.proofs.Numbers.{length-down}
use Rattle.spec_map.proofs.MapLaws.{lookup-next}
use Rattle.spec_map.specs.Map.{Pairs, lookup}

abbrev Held : Type 0 → Type 0
Held M = List (ℕ × Part M)

abbrev Slots : Type 0 → Type 0
Slots M = List (ℕ × Option (Part M))

module _ {M : Type 0} where
  -- where a shard is among those that are held
  record PlaceOf (n shard : ℕ) (held : Held M) : Type 0 where
    before : Held M
    part : Part M
    behind : Held M
    is : held ≡ before ++ (shard, part) ∷ behind
    early : length before + 1 + shard ≡ n
    late : length behind ≡ shard
    found : (x : Part M) → lookup (before ++ (shard, x) ∷ behind) shard ≡ Some x

  later_place : (n shard : ℕ) (h : ℕ × Part M) (held : Held M) → (h.0 ≡ shard → ⊥) → PlaceOf n shard held → PlaceOf (suc n) shard (h ∷ held)
  later_place n shard h held ne p =
      let early = p.early in
      record {
        before = h ∷ p.before;
        part = p.part;
        behind = p.behind;
        is = ap (λ (l : Held M). h ∷ l) p.is;
        early = omega (arith, early);
        late = p.late;
        found = λ x. lookup-next h (p.before ++ (shard, x) ∷ p.behind) shard ne ∙ p.found x;
      }

  place_of : (n shard : ℕ) → shard < n → (held : Held M) → numbers held ≡ down n → PlaceOf n shard held
  place_of zero shard less held is = absurd (omega (arith, less))
  place_of (suc n) shard less [] is = absurd (cc)
  place_of (suc n) shard less (h ∷ held) is =
      let first : h.0 ≡ n = cc in
      let rest : numbers held ≡ down n = cc in
      elim (cases_eq n shard) [
        | inl same ↦
            let at : h.0 ≡ shard = first ∙ same in
            let long : length held ≡ n = sym (length-map held (λ (x : ℕ × Part M). x.0)) ∙ (ap (λ (l : List ℕ). length l) rest ∙ length-down n) in
            record {
              before = [];
              part = h.1;
              behind = held;
              is = ap (λ (i : ℕ). (i, h.1) ∷ held) at;
              early = omega (arith, same);
              late = long ∙ same;
              found = λ x. ap (λ (b : Bool). cond b (Some x) (lookup held shard)) (eq-eqb shard shard refl);
            }
        | inr ne ↦ later_place n shard h held (λ at. ne (sym first ∙ at)) (place_of n shard (omega (arith, less, ne)) held rest)
      ]

  -- another shard's value is the same
  else_same : (before behind : Held M) (shard i : ℕ) (x y : Part M) → i ≢ shard → lookup (before ++ (shard, x) ∷ behind) i ≡ lookup (before ++ (shard, y) ∷ behind) i
  else_same [] behind shard i x y ne = lookup-next (shard, x) behind i (λ at. ne (sym at)) ∙ sym (lookup-next (shard, y) behind i (λ at. ne (sym at)))
  else_same (h ∷ before) behind shard i x y ne = ap (λ (o : Option (Part M)). cond (eqb h.0 i) (Some h.1) o) (else_same before behind shard i x y ne)

  -- the first so many slots were turned behind the others
  abbrev pub Turns : ℕ → Slots M → Slots M → Type 0
  Turns n slots later = (first others : Slots M) → slots ≡ first ++ others → length first ≡ n → later ≡ others ++ first

  -- the shards that are held were visited
  abbrev pub Visits : {V E : Type 0} → (V → List E → ℕ → Part M → V → List E → Part M → Type 0) → List ℕ → V → List E → V → List E → Slots M → Slots M → Type 0
  Visits does shards v before w after slots later =
      (held : Held M) (others : Slots M) → slots ≡ slots_of held ++ others → numbers held ≡ reverse shards → (values : Held M) × (later ≡ others ++ slots_of values) × Visited does v before held w after values

  module _ (pairs : M → Pairs ℕ) (limit_of : M → ℕ) (lock : LockView) (shard : ℕ) (within : shard < lock.table.slots) (all : Pairs ℕ) (slots : Slots M) (c : Contains pairs limit_of lock all slots) where
    abbrev count : ℕ
    count = lock.table.slots

    abbrev at : PlaceOf count shard c.held
    at = place_of count shard within c.held c.numbered

    parted : slots ≡ slots_of at.before ++ slots_of ((shard, at.part) ∷ at.behind)
    parted = c.is ∙ (ap (λ (l : Held M). slots_of l) at.is ∙ map-append (λ (h : ℕ × Part M). (h.0, Some h.1)) at.before ((shard, at.part) ∷ at.behind))

    -- with another value of the shard
    abbrev with_value : Part M → Held M
    with_value x = at.before ++ (shard, x) ∷ at.behind

    numbered_as : (x : Part M) → numbers (with_value x) ≡ down count
    numbered_as x =
        map-append (λ (h : ℕ × Part M). h.0) at.before ((shard, x) ∷ at.behind)
        ∙ (sym (map-append (λ (h : ℕ × Part M). h.0) at.before ((shard, at.part) ∷ at.behind)) ∙ (ap (λ (l : Held M). numbers l) (sym at.is) ∙ c.numbered))

    -- what the shards contain then
    contains_then : (value : Part M) (later : Slots M) (end : Pairs ℕ) → later ≡ slots_of (with_value value) → Ascends end → kept (keys_at (shard_of count) shard) end ≡ pairs value.map → limit_of value.map ≡ lock.limit
        → ((i : ℕ) → i ≢ shard → kept (keys_at (shard_of count) i) end ≡ kept (keys_at (shard_of count) i) all) → Contains pairs limit_of lock end later
    contains_then value later end is up here limit others = record {
      held = with_value value;
      is = is;
      numbered = numbered_as value;
      ordered = up;
      parts = λ i part e. elim (cases_eq i shard) [
        | inl same ↦
            let found = at.found value in
            let again : lookup (with_value value) shard ≡ Some part = ap (λ (j : ℕ). lookup (with_value value) j) (sym same) ∙ e in
            let one : value ≡ part = cc in
            ap (λ (j : ℕ). kept (keys_at (shard_of count) j) end) same ∙ (here ∙ ap (λ (x : Part M). pairs x.map) one)
        | inr ne ↦ others i ne ∙ c.parts i part (ap (λ (l : Held M). lookup l i) at.is ∙ (else_same at.before at.behind shard i at.part value ne ∙ e))
      ];
      limits = λ i part e. elim (cases_eq i shard) [
        | inl same ↦
            let found = at.found value in
            let again : lookup (with_value value) shard ≡ Some part = ap (λ (j : ℕ). lookup (with_value value) j) (sym same) ∙ e in
            let one : value ≡ part = cc in
            ap (λ (x : Part M). limit_of x.map) (sym one) ∙ limit
        | inr ne ↦ c.limits i part (ap (λ (l : Held M). lookup l i) at.is ∙ (else_same at.before at.behind shard i at.part value ne ∙ e))
      ];
    }

    module _ (n : ℕ) (mid : Slots M) (early : n ≡ count - 1 - shard) (turns : Turns n slots mid) where
      first : mid ≡ slots_of ((shard, at.part) ∷ []) ++ (slots_of at.behind ++ slots_of at.before)
      first =
          let place = at.early in
          turns (slots_of at.before) (slots_of ((shard, at.part) ∷ at.behind)) parted
          (length-map at.before (λ (h : ℕ × Part M). (h.0, Some h.1)) ∙ omega (arith, place, early))

      pub to_one : (held : Held M) × (others : Slots M) × (mid ≡ slots_of held ++ others) × (numbers held ≡ reverse (shard ∷ []))
      to_one = ((shard, at.part) ∷ [], slots_of at.behind ++ slots_of at.before, first, refl)

      module _ {V E : Type 0} (does : V → List E → ℕ → Part M → V → List E → Part M → Type 0) (v w : V) (before after : List E) (next later : Slots M) (turns_back : Turns shard next later) where
        one_in : (values : Held M) → next ≡ (slots_of at.behind ++ slots_of at.before) ++ slots_of values → Visited does v before ((shard, at.part) ∷ []) w after values → VisitedOne pairs limit_of does lock shard all v before w after slots later
        one_in [] is t = absurd t
        one_in (k ∷ (x ∷ values)) is t = absurd t.4
        one_in (k ∷ []) is t =
            let back : later ≡ (slots_of at.before ++ slots_of (k ∷ [])) ++ slots_of at.behind =
            turns_back (slots_of at.behind) (slots_of at.before ++ slots_of (k ∷ [])) (is ∙ append_assoc (slots_of at.behind) (slots_of at.before) (slots_of (k ∷ [])))
            (length-map at.behind (λ (h : ℕ × Part M). (h.0, Some h.1)) ∙ at.late)
            in
            let now : later ≡ slots_of (with_value k.1) =
            back ∙ (append_assoc (slots_of at.before) (slots_of (k ∷ [])) (slots_of at.behind)
            ∙ ((λ i. slots_of at.before ++ (t.0 i, Some k.1) ∷ slots_of at.behind)
            ∙ sym (map-append (λ (h : ℕ × Part M). (h.0, Some h.1)) at.before ((shard, k.1) ∷ at.behind))))
            in
            record {
              part = at.part;
              value = k.1;
              contains = c.parts shard at.part (ap (λ (l : Held M). lookup l shard) at.is ∙ at.found at.part);
              limit = c.limits shard at.part (ap (λ (l : Held M). lookup l shard) at.is ∙ at.found at.part);
              visited = subst (λ (z : V × List E). does v before shard at.part z.0 z.1 k.1) (λ i. (sym t.4.0 i, sym t.4.1 i)) t.3;
              stays = λ same. now ∙ (ap (λ (x : Part M). slots_of (with_value x)) same ∙ (ap (λ (l : Held M). slots_of l) (sym at.is) ∙ sym c.is));
              leaves = λ end up here limit others. contains_then k.1 later end now up here limit others;
            }

        pub one_visited : Visits does (shard ∷ []) v before w after mid next → VisitedOne pairs limit_of does lock shard all v before w after slots later
        one_visited visits =
            let t = visits ((shard, at.part) ∷ []) (slots_of at.behind ++ slots_of at.before) first refl in
            one_in t.0 t.1 t.2
