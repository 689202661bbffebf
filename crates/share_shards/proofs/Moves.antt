-- Each step of the sharded lock is allowed by its rule.
use Rattle.std.proofs.Common.{◌≡◌, ◌≢◌, ℕ, ◌*◌, ◌<◌, ◌≤◌, map, All, length, Bool, eqb, List, [], ◌∷◌, sym, refl, ap, ◌∙◌, subst, arith}
use Rattle.std.proofs.lemmas.List.{length-map}
use Rattle.std.specs.Prelude.{Option, Some, IsFalse}
use mathlib.Core.Option.{none}
use prog.Atomic.{either}
use Rattle.atomic_table.specs.Table.{State, Me, Step, step, opening, Allows, Enters as Admits, Splits, Joins}
use Rattle.share_rule.specs.History.{Entry, IsLegalHistory}
use Rattle.share_rule.specs.inner.Rule.{HasSeen}
use Rattle.share_shards.specs.Held.{is_in, numbers, slots_of}
use Rattle.share_shards.specs.inner.SeatView.{ShardView, Blank, Caller, Paired}
use Rattle.share_shards.specs.inner.Rule.{ShardRule, TableRule}
use Rattle.share_shards.specs.inner.Steps.{caller_of, seen_of, pairs_of, held_of, IsIdle, Tries, MayAppend, Appended, Appends, Releases, Enters, both_of, first_of, second_of, Met, Meets, SeesMore}
use Rattle.share_shards.proofs.Keeps.{tries, appends, releases, comes, cuts, joins, meets, splits_both, opens}
use Rattle.share_shards.proofs.Lists.{values-slots}
use Rattle.spec_map.specs.Call.{Operation}
use Rattle.spec_map.specs.Map.{Pairs}

-- the word of a lock that is taken
pub taken_shut : ◌≢◌ {A = ℕ} 1 0
taken_shut e = omega arith

module _ {T S : Type 0} (same : T → T → Bool) (content : S → Pairs T → Type 0) (shard : ℕ → ℕ → ℕ) where
  abbrev V : Type 0
  V = Me (Option S) (ShardView T S)

  abbrev St : Type 0
  St = State (Option S) (ShardView T S)

  abbrev Rule : St → Type 0
  Rule = TableRule same content shard

  abbrev RuleOf : ℕ → St → Type 0
  RuleOf n = ShardRule same content (shard n) n

  -- the same, by the number of slots
  to_rule : (n : ℕ) (s : St) → RuleOf n s → Rule s
  to_rule n s r = subst (λ (k : ℕ). RuleOf k s) (sym r.many) r

  allows : (slots id : ℕ) (me : V) (i : ℕ) (f : ℕ → ℕ) (then : ℕ → V → Type 0) → Allows (RuleOf slots) slots id me i f then → Allows Rule slots id me i f then
  allows slots id me i f then a s r many is small =
      let t = a s (subst (λ (k : ℕ). RuleOf k s) many r) many is small in (t.0, t.1, t.2, to_rule slots _ t.3, t.4)

  pub may_try : (slots id i z : ℕ) (m : V) → i < slots → z ≢ 0 → m.0 ≡ Caller (caller_of m.0) (seen_of m.0) (pairs_of m.0) (held_of m.0) → Allows Rule slots id m (8 * i) (λ n. either (eqb n 0) z n) (Tries content (shard slots) (step slots (8 * i) 0 z none) m)
  may_try slots id i z m within shut is =
      let P : V → Type 0 = λ x. Allows (RuleOf slots) slots id x (8 * i) (λ n. either (eqb n 0) z n) (Tries content (shard slots) (step slots (8 * i) 0 z none) x) in
      allows slots id m (8 * i) (λ n. either (eqb n 0) z n) (Tries content (shard slots) (step slots (8 * i) 0 z none) m)
      (subst P (λ k. (sym is k, m.1)) (tries same content (shard slots) slots slots id i (caller_of m.0) 0 z (seen_of m.0) (pairs_of m.0) (held_of m.0) m.1 within shut))

  pub may_append : (operations : List (Operation ℕ T T)) (slots id word : ℕ) (m : V) (held values : List (ℕ × S)) → MayAppend same content (shard slots) operations m held values
      → Allows Rule slots id m word (λ n. n) (Appends same content (shard slots) operations (step slots word 0 0 none) m)
  may_append operations slots id word m held values may =
      let P : V → Type 0 = λ x. Allows (RuleOf slots) slots id x word (λ n. n) (Appends same content (shard slots) operations (step slots word 0 0 none) x) in
      let m0 : V = (Caller (caller_of m.0) (seen_of m.0) (pairs_of m.0) held, slots_of values) in
      allows slots id m word (λ n. n) (Appends same content (shard slots) operations (step slots word 0 0 none) m)
      (subst P (sym may.is)
      (subst (λ (l : List (ℕ × S)). Allows (RuleOf slots) slots id m0 word (λ n. n) (λ _ n. Appended same content (shard slots) operations m0 l n)) (sym (values-slots values))
      (appends same content (shard slots) slots operations slots id word (caller_of m.0) (seen_of m.0) (pairs_of m.0) held values (slots_of values)
      (subst (λ (x : V). MayAppend same content (shard slots) operations x held values) may.is may))))

  pub may_release : (slots id i c : ℕ) (seen : List (Entry T)) (pairs : Pairs T) (x : S) (held : List (ℕ × S)) (m : V) → IsFalse (is_in (numbers held) i) → m ≡ (Caller c seen pairs ((i, x) ∷ held), slots_of ((i, x) ∷ held))
      → Allows Rule slots id m (8 * i) (λ _. 0) (Releases (shard slots) (step slots (8 * i) 0 0 none) m)
  may_release slots id i c seen pairs x held m new is =
      let P : V → Type 0 = λ z. Allows (RuleOf slots) slots id z (8 * i) (λ _. 0) (Releases (shard slots) (step slots (8 * i) 0 0 none) z) in
      allows slots id m (8 * i) (λ _. 0) (Releases (shard slots) (step slots (8 * i) 0 0 none) m)
      (subst P (sym is) (releases same content (shard slots) slots slots id i c seen pairs x held (slots_of held) new))

  pub may_cut : (id : ℕ) (v : ShardView T S) → Splits Rule id v v Blank
  may_cut id v s r is = to_rule (length s.homes) _ (cuts same content (shard (length s.homes)) (length s.homes) id v s r is)

  pub may_come : (slots : ℕ) → Admits Rule slots 0 (λ n w. Enters (step slots 0 0 0 none) (Blank, []) n (w, []))
  may_come slots s r many small =
      let t = comes same content (shard slots) slots slots (λ n w. Enters (step slots 0 0 0 none) (Blank, []) n (w, [])) (λ n c. (c, refl)) s (subst (λ (k : ℕ). RuleOf k s) many r) many small in
      (t.0, to_rule slots _ t.1, t.2)

  pub may_join : (id : ℕ) (m : V) (other : ℕ) (n : V) → IsIdle m → IsIdle n → Joins Rule id m.0 other n.0 (both_of m.0 n.0) Blank
  may_join id m other n idle idle2 =
      let P : ShardView T S × ShardView T S → Type 0 = λ z. Joins Rule id z.0 other z.1 (both_of z.0 z.1) Blank in
      subst P (λ i. ((sym idle i).0, (sym idle2 i).0))
      (λ s r here apart there. to_rule (length s.homes) _ (joins same content (shard (length s.homes)) (length s.homes) id (caller_of m.0) (seen_of m.0) other (caller_of n.0) (seen_of n.0) s r here apart there))

  pub may_meet : (slots id : ℕ) (m : V) (c d : ℕ) (a b : List (Entry T)) → m ≡ (Paired c d a b, []) → Allows Rule slots id m 0 (λ n. n) (Meets same (step slots 0 0 0 none) m)
  may_meet slots id m c d a b is =
      let P : V → Type 0 = λ x. Allows (RuleOf slots) slots id x 0 (λ n. n) (Meets same (step slots 0 0 0 none) x) in
      allows slots id m 0 (λ n. n) (Meets same (step slots 0 0 0 none) m)
      (subst P (sym is) (meets same content (shard slots) slots slots id c d a b [] (Meets same (step slots 0 0 0 none) (Paired c d a b, []))
      (λ n history legal differ first second. record { history = history; is = refl; legal = legal; differ = differ; first = first; second = second })))

  pub may_part : (id : ℕ) (v : ShardView T S) (c d : ℕ) (a b : List (Entry T)) → v ≡ Paired c d a b → Splits Rule id v (first_of v) (second_of v)
  may_part id v c d a b is =
      let P : ShardView T S → Type 0 = λ x. Splits Rule id x (first_of x) (second_of x) in
      subst P (sym is) (λ s r here. to_rule (length s.homes) _ (splits_both same content (shard (length s.homes)) (length s.homes) id c d a b s r here))

  pub may_open : (ws : List ℕ) (slots : List (Option S)) (xs : List S) → 0 < length slots → 8 * length slots ≤ length ws → slots ≡ map (λ (x : S). Some x) xs → All (λ (x : S). content x []) xs
      → Rule (opening ws slots Blank)
  may_open ws slots [] positive wide is empty = absurd (let none : length slots ≡ 0 = ap length is in omega (arith, positive, none))
  may_open ws slots (x ∷ xs) positive wide is empty =
      let many : length slots ≡ length (x ∷ xs) = ap length is ∙ length-map (x ∷ xs) (λ (y : S). Some y) in
      to_rule (length slots) (opening ws slots Blank)
      (subst (λ (l : List (Option S)). RuleOf (length slots) (opening ws l Blank)) (sym is) (opens same content (shard (length slots)) (length slots) ws x xs wide (sym many) empty))

module _ {T S : Type 0} where
  -- two idle seats in one
  pub both_idle : (m n m' : Me (Option S) (ShardView T S)) → IsIdle m → IsIdle n → m' ≡ (both_of m.0 n.0, m.1) → m' ≡ (Paired (caller_of m.0) (caller_of n.0) (seen_of m.0) (seen_of n.0), [])
  both_idle m n m' idle idle2 is = is ∙ (λ i. (both_of (idle i).0 (idle2 i).0, (idle i).1))

  pub met_of : (same : T → T → Bool) (st : Step (Option S)) (m m' : Me (Option S) (ShardView T S)) (found c d : ℕ) (a b : List (Entry T)) → m ≡ (Paired c d a b, []) → Meets same st m found m' → Met same c d a b m'
  met_of same st m m' found c d a b is learned = subst (λ (x : Me (Option S) (ShardView T S)). Meets same st x found m') is learned

  pub sees_more : (same : T → T → Bool) (m m' : Me (Option S) (ShardView T S)) (history : List (Entry T)) → m' ≡ (Caller (caller_of m.0) history [] [], []) → IsLegalHistory same history → HasSeen history (caller_of m.0) (seen_of m.0) → SeesMore same m m'
  sees_more same m m' history is legal fit =
      subst (λ (x : Me (Option S) (ShardView T S)). SeesMore same m x) (sym is) record { idle = refl; caller = refl; legal = legal; seen = fit.begins; own = fit.own }
