-- A run of keys of one shard, whose first pair is known: whether there are more, and the next pair of the shard.
use Rattle.std.proofs.Common.{◌≡◌, ℕ, ◌+◌, ◌<◌, ◌≤◌, ◌^◌, List, [], ◌∷◌, ◌++◌, length, reverse, set, append-nil, Option, Some, None, sym, ap, subst, ◌∙◌, inl, inr, eq-eqb, arith}
use Rattle.std.proofs.lemmas.Bool.{cases_lt, cases_eq}
use Rattle.std.proofs.lemmas.List.{length-append}
use Rattle.share_parts.specs.Parts.{kept, Ascends}
use Rattle.share_parts.proofs.Parts.{ascends_kept, between-kept}
use Rattle.share_shards.specs.Held.{keys_at}
use Rattle.share_visits.specs.Whole.{shard_of}
use Rattle.share_visits.specs.Written.{AreWritten}
use Rattle.share_visits.proofs.Splitting.{after_key, before_key, below_start, between-split, in_range, none_after, none_before, past_last}
use Rattle.share_visits.proofs.Writing.{one_more}
use Rattle.spec_map.proofs.MapLaws.{lookup-between_inside, lookup-between_outside, lookup-first, lookup-next, same_from_lookups, Rises-between}
use Rattle.spec_map.proofs.NearLaws.{first_at, last_at}
use Rattle.spec_map.specs.Call.{above, below}
use Rattle.spec_map.specs.Map.{Pairs, between, lookup}
use Rattle.spec_map.specs.Near.{first_of, last_of, pair_near}

module _ (m : Pairs ℕ) (up : Ascends m) where
  -- the pair that was found is stored
  pub stored_above : (key : ℕ) (p : ℕ × ℕ) → pair_near m (above key) ≡ Some p → lookup m p.0 ≡ Some p.1
  stored_above key p is =
      let at = first_at 0 up.0 (between m (key + 1) (2 ^ 64)) p (Rises-between 0 up.0 (key + 1) (2 ^ 64) m up.1) is in
      let r = in_range m up (key + 1) (2 ^ 64) p at.stored in
      sym (lookup-between_inside m (key + 1) (2 ^ 64) p.0 r.0 r.1) ∙ at.stored

  pub stored_below : (key : ℕ) (p : ℕ × ℕ) → pair_near m (below key) ≡ Some p → lookup m p.0 ≡ Some p.1
  stored_below key p is =
      let at = last_at 0 up.0 (between m 0 key) p (Rises-between 0 up.0 0 key m up.1) is in
      let r = in_range m up 0 key p at.stored in
      sym (lookup-between_inside m 0 key p.0 r.0 r.1) ∙ at.stored

  -- the range of one key
  pub single : (key value : ℕ) → lookup m key ≡ Some value → between m key (key + 1) ≡ (key, value) ∷ []
  single key value is =
      same_from_lookups 0 up.0 key (key + 1) (between m key (key + 1)) ((key, value) ∷ []) (Rises-between 0 up.0 key (key + 1) m up.1) (omega arith, omega arith, tt)
      (λ k. elim (cases_eq key k) [
        | inl at ↦
            lookup-between_inside m key (key + 1) k (omega (arith, at)) (omega (arith, at))
            ∙ (ap (λ (j : ℕ). lookup m j) (sym at) ∙ (is ∙ (sym (lookup-first (key, value) []) ∙ ap (λ (j : ℕ). lookup ((key, value) ∷ []) j) at)))
        | inr ne ↦ elim (cases_lt k key) [
          | inl less ↦ lookup-between_outside m key (key + 1) k (inl less) ∙ sym (lookup-next (key, value) [] k ne)
          | inr from ↦ lookup-between_outside m key (key + 1) k (inr (omega (arith, from, ne))) ∙ sym (lookup-next (key, value) [] k ne)
        ]
      ])

module _ (count : ℕ) (all : Pairs ℕ) (up : Ascends all) (s : ℕ) where
  abbrev part : Pairs ℕ
  part = kept (keys_at (shard_of count) s) all

  ascends : Ascends part
  ascends = ascends_kept (keys_at (shard_of count) s) all up

  same_run : (a b : ℕ) → ((k : ℕ) → a ≤ k → k < b → shard_of count k ≡ s) → between part a b ≡ [] → between all a b ≡ []
  same_run a b one none = sym (between-kept (keys_at (shard_of count) s) all a b (λ k from to. eq-eqb (shard_of count k) s (one k from to))) ∙ none

  -- the run has no pair above the key, and the next pair of the shard is above the run
  pub record EndsAbove (key end : ℕ) (next : Option (ℕ × ℕ)) : Type 0 where
    pub none : between all (key + 1) (end + 1) ≡ []
    pub next_is : next ≡ pair_near part (above end)

  ends_above : (key end : ℕ) (next : Option (ℕ × ℕ)) → key ≤ end → end < 2 ^ 64 → ((k : ℕ) → key ≤ k → k ≤ end → shard_of count k ≡ s) → next ≡ pair_near part (above key) → between part (key + 1) (end + 1) ≡ []
      → EndsAbove key end next
  ends_above key end next order small one is none = record {
    none = same_run (key + 1) (end + 1) (λ k from to. one k (omega (arith, from)) (omega (arith, to))) none;
    next_is = is
        ∙ ap (λ (l : Pairs ℕ). first_of l)
        (between-split part ascends (key + 1) (end + 1) (2 ^ 64) (omega (arith, order)) (omega (arith, small)) ∙ ap (λ (l : Pairs ℕ). l ++ between part (end + 1) (2 ^ 64)) none);
  }

  pub none_is_above : (key end : ℕ) (next : Option (ℕ × ℕ)) → key ≤ end → end < 2 ^ 64 → ((k : ℕ) → key ≤ k → k ≤ end → shard_of count k ≡ s) → next ≡ pair_near part (above key) → next ≡ None → EndsAbove key end next
  none_is_above key end next order small one is none = ends_above key end next order small one is (none_after part ascends key end small (sym is ∙ none))

  pub next_is_past : (key end : ℕ) (next : Option (ℕ × ℕ)) (p : ℕ × ℕ) → key ≤ end → end < 2 ^ 64 → ((k : ℕ) → key ≤ k → k ≤ end → shard_of count k ≡ s) → next ≡ pair_near part (above key) → next ≡ Some p → end < p.0
      → EndsAbove key end next
  next_is_past key end next p order small one is found past =
      ends_above key end next order small one is (past_last part ascends key end p.0 past (after_key part ascends key p (sym is ∙ found)).2)

  pub next_is_above : (key : ℕ) (next : Option (ℕ × ℕ)) (p : ℕ × ℕ) → next ≡ pair_near part (above key) → next ≡ Some p → key < p.0
  next_is_above key next p is found = (after_key part ascends key p (sym is ∙ found)).0

  -- the same below
  pub record EndsBelow (key start : ℕ) (next : Option (ℕ × ℕ)) : Type 0 where
    pub none : between all start key ≡ []
    pub next_is : next ≡ pair_near part (below start)

  ends_below : (key start : ℕ) (next : Option (ℕ × ℕ)) → start ≤ key → ((k : ℕ) → start ≤ k → k ≤ key → shard_of count k ≡ s) → next ≡ pair_near part (below key) → between part start key ≡ []
      → EndsBelow key start next
  ends_below key start next order one is none = record {
    none = same_run start key (λ k from to. one k from (omega (arith, to))) none;
    next_is = is
        ∙ ap (λ (l : Pairs ℕ). last_of l)
        (between-split part ascends 0 start key (omega arith) order ∙ (ap (λ (l : Pairs ℕ). between part 0 start ++ l) none ∙ append-nil (between part 0 start)));
  }

  pub none_is_below : (key start : ℕ) (next : Option (ℕ × ℕ)) → start ≤ key → ((k : ℕ) → start ≤ k → k ≤ key → shard_of count k ≡ s) → next ≡ pair_near part (below key) → next ≡ None → EndsBelow key start next
  none_is_below key start next order one is none = ends_below key start next order one is (none_before part ascends key start (sym is ∙ none))

  pub next_is_before : (key start : ℕ) (next : Option (ℕ × ℕ)) (p : ℕ × ℕ) → start ≤ key → ((k : ℕ) → start ≤ k → k ≤ key → shard_of count k ≡ s) → next ≡ pair_near part (below key) → next ≡ Some p → p.0 < start
      → EndsBelow key start next
  next_is_before key start next p order one is found before =
      ends_below key start next order one is (below_start part ascends key start p.0 before (before_key part ascends key p (sym is ∙ found)).1)

  pub next_is_below : (key : ℕ) (next : Option (ℕ × ℕ)) (p : ℕ × ℕ) → next ≡ pair_near part (below key) → next ≡ Some p → p.0 < key
  next_is_below key next p is found = (before_key part ascends key p (sym is ∙ found)).0

-- the first pair of a run is written
module _ {E : Type 0} (entry : ℕ → ℕ → E) (m : Pairs ℕ) (up : Ascends m) (done : Pairs ℕ) (before : List E) where
  put : (key value n : ℕ) (mid : List E) (e : E) (l : Pairs ℕ) → l ≡ (key, value) ∷ [] → e ≡ entry key value → AreWritten entry done before n mid → n ≡ length done → n < length mid
      → AreWritten entry (done ++ l) before (n + 1) (set mid n e) × (n + 1 ≡ length (done ++ l))
  put key value n mid e l one is w many room =
      let long = length-append done l in
      let single_long = ap (λ (t : Pairs ℕ). length t) one in (
        subst (λ (z : Pairs ℕ × E). AreWritten entry (done ++ z.0) before (n + 1) (set mid n z.1)) (λ i. (sym one i, sym is i)) (one_more entry done before n mid key value w many room),
        omega (arith, long, single_long, many),
      )

  pub put_up : (key value n : ℕ) (mid : List E) (e : E) → lookup m key ≡ Some value → e ≡ entry key value → AreWritten entry done before n mid → n ≡ length done → n < length mid
      → AreWritten entry (done ++ between m key (key + 1)) before (n + 1) (set mid n e) × (n + 1 ≡ length (done ++ between m key (key + 1)))
  put_up key value n mid e stored is w many room = put key value n mid e (between m key (key + 1)) (single m up key value stored) is w many room

  pub put_down : (key value n : ℕ) (mid : List E) (e : E) → lookup m key ≡ Some value → e ≡ entry key value → AreWritten entry done before n mid → n ≡ length done → n < length mid
      → AreWritten entry (done ++ reverse (between m key (key + 1))) before (n + 1) (set mid n e) × (n + 1 ≡ length (done ++ reverse (between m key (key + 1))))
  put_down key value n mid e stored is w many room =
      put key value n mid e (reverse (between m key (key + 1))) (ap (λ (l : Pairs ℕ). reverse l) (single m up key value stored)) is w many room
