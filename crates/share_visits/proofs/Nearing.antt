-- The table of the nearest pairs of all shards: the nearest of them, and what changes when one shard's run was listed.
use Rattle.std.proofs.Common.{◌≡◌, ◌≢◌, ℕ, suc, ◌+◌, ◌<◌, ◌≤◌, ◌^◌, Bool, true, false, cond, List, [], ◌++◌, append-nil, get_or, length, set, refl, sym, ap, subst, ◌∙◌, inl, inr, eq-eqb, ne_eqb, arith}
use Rattle.std.proofs.lemmas.Bool.{cases_Bool, cases_eq, cases_lt}
use Rattle.std.proofs.lemmas.List.{get_or-set_same, get_or-set_other, length-set}
use Rattle.std.specs.Prelude.{Option, None}
use Rattle.share_parts.specs.Nearest.{nearer}
use Rattle.share_parts.specs.Parts.{kept, Ascends}
use Rattle.share_parts.proofs.Nearest.{AreParts, near_parts}
use Rattle.share_parts.proofs.Parts.{ascends_kept, kept-all, kept-none, lookup-kept, lookup-kept_not}
use Rattle.share_shards.specs.Held.{is_in, keys_at, keys_of}
use Rattle.share_visits.specs.Whole.{IsCount, down, shard_of}
use Rattle.share_visits.specs.inner.Next.{AreNearest}
use Rattle.share_visits.proofs.Numbers.{all_keys, fresh}
use Rattle.share_visits.proofs.Splitting.{between-split}
use Rattle.spec_map.proofs.NearLaws.{none-between, none_between}
use Rattle.spec_map.specs.Call.{Near, first, last, floor, below, ceiling, above}
use Rattle.spec_map.specs.Map.{Pairs, between, lookup}
use Rattle.spec_map.specs.Near.{first_of, last_of, pair_near}

near_nothing : (n : Near ℕ) → ◌≡◌ {A = Option (ℕ × ℕ)} None (pair_near [] n)
near_nothing first = refl
near_nothing last = refl
near_nothing (floor k) = refl
near_nothing (below k) = refl
near_nothing (ceiling k) = refl
near_nothing (above k) = refl

pub nearer_nothing : (n : Near ℕ) (o : Option (ℕ × ℕ)) → nearer n None o ≡ o
nearer_nothing first o = refl
nearer_nothing last o = refl
nearer_nothing (floor k) o = refl
nearer_nothing (below k) o = refl
nearer_nothing (ceiling k) o = refl
nearer_nothing (above k) o = refl

module _ (count : ℕ) (all : Pairs ℕ) where
  -- the nearest pair of the shards below this one
  abbrev pub of_shards : ℕ → Near ℕ → Option (ℕ × ℕ)
  of_shards n near = pair_near (kept (keys_of (shard_of count) (down n)) all) near

  pub of_none : (near : Near ℕ) → None ≡ of_shards 0 near
  of_none near = near_nothing near ∙ ap (λ (l : Pairs ℕ). pair_near l near) (sym (kept-none (λ _. false) all (λ k. refl)))

  parts_of : (n : ℕ) → AreParts (keys_of (shard_of count) (down n)) (keys_at (shard_of count) n) (keys_of (shard_of count) (down (suc n)))
  parts_of n k =
      let i : ℕ = shard_of count k in
      elim (cases_eq n i) [
        | inl is ↦
            inr (inl (subst (λ (j : ℕ). is_in (down n) j ≡ false) is (fresh n n (omega arith)), eq-eqb i n (sym is), ap (λ (b : Bool). cond b true (is_in (down n) i)) (eq-eqb n i is)))
        | inr ne ↦
            let other : keys_at (shard_of count) n k ≡ false = ne_eqb i n (λ e. ne (sym e)) in
            let same : is_in (down (suc n)) i ≡ is_in (down n) i = ap (λ (b : Bool). cond b true (is_in (down n) i)) (ne_eqb n i ne) in
            elim (cases_Bool (is_in (down n) i)) [
              | inl here ↦ inl (here, other, same ∙ here)
              | inr gone ↦ inr (inr (gone, other, same ∙ gone))
            ]
      ]

  module _ (up : Ascends all) (near : Near ℕ) where
    pub of_more : (n : ℕ) (best next found : Option (ℕ × ℕ)) → best ≡ of_shards n near → next ≡ pair_near (kept (keys_at (shard_of count) n) all) near → found ≡ nearer near best next → found ≡ of_shards (n + 1) near
    of_more n best next found known is nearest =
        let one : suc n ≡ n + 1 = omega arith in
        subst (λ (j : ℕ). found ≡ of_shards j near) one
        (nearest
        ∙ ((λ i. nearer near (known i) (is i))
        ∙ sym (near_parts (keys_of (shard_of count) (down n)) (keys_at (shard_of count) n) (keys_of (shard_of count) (down (suc n))) (parts_of n) near all up)))

    pub of_all : IsCount count → of_shards count near ≡ pair_near all near
    of_all some = ap (λ (l : Pairs ℕ). pair_near l near) (kept-all (keys_of (shard_of count) (down count)) all (λ k. all_keys count some k))

  -- what is found in the table, by its number of shards
  pub found_near : (n : ℕ) (near : Near ℕ) (pairs : List (Option (ℕ × ℕ))) (o : Option (ℕ × ℕ)) → n ≡ count → Ascends all
      → ((m : Pairs ℕ) → Ascends m → AreNearest n near m pairs → o ≡ pair_near m near) → AreNearest count near all pairs → pair_near all near ≡ o
  found_near n near pairs o same up finds t = sym (finds all up (subst (λ (j : ℕ). AreNearest j near all pairs) (sym same) t))

  -- one shard more was asked
  pub asked : (near : Near ℕ) (n : ℕ) (pairs : List (Option (ℕ × ℕ))) (next : Option (ℕ × ℕ)) → n < length pairs → ((i : ℕ) → i < n → get_or pairs i None ≡ pair_near (kept (keys_at (shard_of count) i) all) near)
      → next ≡ pair_near (kept (keys_at (shard_of count) n) all) near → (i : ℕ) → i < n + 1 → get_or (set pairs n next) i None ≡ pair_near (kept (keys_at (shard_of count) i) all) near
  asked near n pairs next room known is i less =
      elim (cases_eq i n) [
        | inl at ↦
            subst (λ (j : ℕ). get_or (set pairs n next) j None ≡ pair_near (kept (keys_at (shard_of count) j) all) near) (sym at) (get_or-set_same pairs n next None room ∙ is)
        | inr ne ↦ get_or-set_other pairs n i next None ne ∙ known i (omega (arith, less, ne))
      ]

  -- A RUN of one shard was listed
  module _ (up : Ascends all) (s : ℕ) where
    -- another shard has no key there
    absent : (i from to j : ℕ) → i ≢ s → ((k : ℕ) → from ≤ k → k ≤ to → shard_of count k ≡ s) → from ≤ j → j ≤ to → lookup (kept (keys_at (shard_of count) i) all) j ≡ None
    absent i from to j ne one low high = lookup-kept_not (keys_at (shard_of count) i) all j (ne_eqb (shard_of count j) i (λ at. ne (sym at ∙ one j low high)))

    absent_there : (i a b j : ℕ) → between all a b ≡ [] → a ≤ j → j < b → lookup (kept (keys_at (shard_of count) i) all) j ≡ None
    absent_there i a b j none low high =
        elim (cases_Bool (keys_at (shard_of count) i j)) [
          | inl mine ↦ lookup-kept (keys_at (shard_of count) i) all j mine ∙ none_between a b all j low high none
          | inr other ↦ lookup-kept_not (keys_at (shard_of count) i) all j other
        ]

    abbrev part : ℕ → Pairs ℕ
    part i = kept (keys_at (shard_of count) i) all

    -- the next pairs of the other shards are as they were
    above_run : (i key from end : ℕ) → i ≢ s → ((k : ℕ) → from ≤ k → k ≤ end → shard_of count k ≡ s) → key < from → from ≤ end → end < 2 ^ 64 → between all (key + 1) from ≡ []
        → pair_near (part i) (above key) ≡ pair_near (part i) (above end)
    above_run i key from end ne one less high small none =
        ap (λ (l : Pairs ℕ). first_of l)
        (between-split (part i) (ascends_kept (keys_at (shard_of count) i) all up) (key + 1) (end + 1) (2 ^ 64) (omega (arith, less, high)) (omega (arith, small))
        ∙ ap (λ (l : Pairs ℕ). l ++ between (part i) (end + 1) (2 ^ 64)) (none-between (part i) (key + 1) (end + 1) (λ j low to. elim (cases_lt j from) [
          | inl early ↦ absent_there i (key + 1) from j none low early
          | inr late ↦ absent i from end j ne one late (omega (arith, to))
        ])))

    below_run : (i key to start : ℕ) → i ≢ s → ((k : ℕ) → start ≤ k → k ≤ to → shard_of count k ≡ s) → to < key → start ≤ to → between all (to + 1) key ≡ []
        → pair_near (part i) (below key) ≡ pair_near (part i) (below start)
    below_run i key to start ne one less low none =
        ap (λ (l : Pairs ℕ). last_of l)
        (between-split (part i) (ascends_kept (keys_at (shard_of count) i) all up) 0 start key (omega arith) (omega (arith, less, low))
        ∙ ap (λ (l : Pairs ℕ). between (part i) 0 start ++ l) (none-between (part i) start key (λ j from high. elim (cases_lt to j) [
          | inl late ↦ absent_there i (to + 1) key j none (omega (arith, late)) high
          | inr early ↦ absent i start to j ne one from early
        ])) ∙ append-nil (between (part i) 0 start))

    stepped : (old new : Near ℕ) (pairs : List (Option (ℕ × ℕ))) (next : Option (ℕ × ℕ)) → s < count → count ≤ 64 → AreNearest count old all pairs → next ≡ pair_near (part s) new
        → ((i : ℕ) → i ≢ s → pair_near (part i) old ≡ pair_near (part i) new) → AreNearest count new all (set pairs s next)
    stepped old new pairs next within few t is others =
        let long = t.many in
        record {
          many = length-set pairs s next ∙ t.many;
          each = λ i less. elim (cases_eq i s) [
            | inl at ↦ subst (λ (j : ℕ). get_or (set pairs s next) j None ≡ pair_near (part j) new) (sym at) (get_or-set_same pairs s next None (omega (arith, long, within, few)) ∙ is)
            | inr ne ↦ get_or-set_other pairs s i next None ne ∙ (t.each i less ∙ others i ne)
          ];
        }

    pub above_next : (key from end : ℕ) (pairs : List (Option (ℕ × ℕ))) (next : Option (ℕ × ℕ)) → s < count → count ≤ 64 → ((k : ℕ) → from ≤ k → k ≤ end → shard_of count k ≡ s) → key < from → from ≤ end → end < 2 ^ 64
        → between all (key + 1) from ≡ [] → AreNearest count (above key) all pairs → next ≡ pair_near (part s) (above end) → AreNearest count (above end) all (set pairs s next)
    above_next key from end pairs next within few one less high small none t is =
        stepped (above key) (above end) pairs next within few t is (λ i ne. above_run i key from end ne one less high small none)

    pub below_next : (key to start : ℕ) (pairs : List (Option (ℕ × ℕ))) (next : Option (ℕ × ℕ)) → s < count → count ≤ 64 → ((k : ℕ) → start ≤ k → k ≤ to → shard_of count k ≡ s) → to < key → start ≤ to
        → between all (to + 1) key ≡ [] → AreNearest count (below key) all pairs → next ≡ pair_near (part s) (below start) → AreNearest count (below start) all (set pairs s next)
    below_next key to start pairs next within few one less low none t is =
        stepped (below key) (below start) pairs next within few t is (λ i ne. below_run i key to start ne one less low none)
