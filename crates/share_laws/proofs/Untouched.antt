-- Keys that operations leave alone, and numbers that they only raise.
use Rattle.std.proofs.Common.{◌≡◌, ◌≢◌, ℕ, Bool, List, [], ◌∷◌, ◌++◌, Option, Some, None, Result, Ok, Err, refl, sym, ap, subst, ◌∙◌, inl, inr, arith}
use Rattle.std.proofs.lemmas.Bool.{cases_eq}
use Rattle.std.proofs.lemmas.List.{map-append}
use Rattle.spec_map.specs.Map.{Pairs, lookup, put, with_answer}
use Rattle.spec_map.specs.Call.{Call, get, insert, remove, compare_exchange, compute_if_present, compute_or_insert, is_empty, keys, range, nearest, count, ClosureCall, Answer, replied, refused, Operation, Reply, old_value}
use Rattle.spec_map.specs.Legal.{Allows, IsLegal, CallsAlways, MayAnswer, after_operation, after_answer, after, after_asking, after_exchange, exchange}
use Rattle.spec_map.specs.Refusal.{never}
use Rattle.spec_map.proofs.MapLaws.{lookup-put_other, lookup-put_same, lookup-without_other}
use Rattle.share_rule.specs.History.{Entry, entry, operations_of, IsHistory}
use Rattle.share_rule.specs.Known.{Known, MadeCall}
use Rattle.share_laws.specs.Keys.{Leaves, AllLeave, IsAtLeast, RaisesAsked, Raises, AllRaise, finds, inserts}

-- where a run is split
pub record SplitRun {P : Type 0} (same : P → P → Bool) (m : Pairs P) (ds es : List (Operation ℕ P P)) (n : Pairs P) : Type 0 where
  pub mid : Pairs P
  pub first : IsLegal same never m ds mid
  pub then : IsLegal same never mid es n

module _ {P : Type 0} (same : P → P → Bool) where
  pub split : (m n : Pairs P) (ds es : List (Operation ℕ P P)) → IsLegal same never m (ds ++ es) n → SplitRun same m ds es n
  split m n [] es h = record { mid = m; first = refl; then = h }
  split m n (d ∷ ds) es h = let r = split (after_operation same m d) n ds es h.1 in record { mid = r.mid; first = (h.0, r.first); then = r.then }

  pub split_history : (m n : Pairs P) (xs ys : List (Entry P)) → IsLegal same never m (operations_of (xs ++ ys)) n → SplitRun same m (operations_of xs) (operations_of ys) n
  split_history m n xs ys h = split m n (operations_of xs) (operations_of ys) (subst (λ (l : List (Operation ℕ P P)). IsLegal same never m l n) (map-append (λ (e : Entry P). e.operation) xs ys) h)

other : (key k : ℕ) → (let at : Option ℕ = Some k in at ≢ Some key) → key ≢ k
other key k ne e = ne (ap Some (sym e))

module _ {P : Type 0} (key : ℕ) where
  answered : (m : Pairs P) (k : ℕ) (new : Option P) → key ≢ k → lookup (with_answer m k new) key ≡ lookup m key
  answered m k None ne = lookup-without_other m k key ne
  answered m k (Some v) ne = lookup-put_other m k v key ne

  asked_leaves : (m : Pairs P) (k : ℕ) (asked : ClosureCall P) → key ≢ k → lookup (after_asking m k asked) key ≡ lookup m key
  asked_leaves m k None ne = refl
  asked_leaves m k (Some (old, new)) ne = answered m k new ne

  exchange_leaves : (m : Pairs P) (k : ℕ) (e : Result (Option P) (Option P)) → key ≢ k → lookup (after_exchange m k e) key ≡ lookup m key
  exchange_leaves m k (Ok new) ne = answered m k new ne
  exchange_leaves m k (Err current) ne = refl

  pub call_leaves : (same : P → P → Bool) (m : Pairs P) (call : Call ℕ P) (asked : ClosureCall P) → Leaves key call → lookup (after same m call asked) key ≡ lookup m key
  call_leaves same m (get k) asked ne = refl
  call_leaves same m (insert k v) asked ne = lookup-put_other m k v key (other key k ne)
  call_leaves same m (remove k) asked ne = lookup-without_other m k key (other key k ne)
  call_leaves same m (compare_exchange k old new) asked ne = exchange_leaves m k (exchange same (lookup m k) old new) (other key k ne)
  call_leaves same m (compute_if_present k) asked ne = asked_leaves m k asked (other key k ne)
  call_leaves same m (compute_or_insert k) asked ne = asked_leaves m k asked (other key k ne)
  call_leaves same m is_empty asked ne = refl
  call_leaves same m keys asked ne = refl
  call_leaves same m (range a b n) asked ne = refl
  call_leaves same m (nearest near) asked ne = refl
  call_leaves same m count asked ne = refl

  pub answer_leaves : (same : P → P → Bool) (m : Pairs P) (call : Call ℕ P) (asked : ClosureCall P) (answer : Answer ℕ P P) → Leaves key call → lookup (after_answer same m call asked answer) key ≡ lookup m key
  answer_leaves same m call asked (replied reply) ne = call_leaves same m call asked ne
  answer_leaves same m call asked refused ne = refl

  pub stays : (same : P → P → Bool) (m n : Pairs P) (es : List (Entry P)) → IsLegal same never m (operations_of es) n → AllLeave key es → lookup n key ≡ lookup m key
  stays same m n [] h leave = ap (λ l. lookup l key) h
  stays same m n (e ∷ es) h leave =
      stays same (after_operation same m e.operation) n es h.1 leave.1 ∙ answer_leaves same m e.operation.call e.operation.asked e.operation.answer leave.0

-- what is at least itself, and at least what less is at least
least_same : (x : Option ℕ) → IsAtLeast x x
least_same None = tt
least_same (Some n) = omega arith

least_trans : (x y z : Option ℕ) → IsAtLeast x y → IsAtLeast y z → IsAtLeast x z
least_trans None y z p q = tt
least_trans (Some a) (Some b) (Some c) p q = omega arith
least_trans (Some a) (Some b) None p q = absurd q
least_trans (Some a) None z p q = absurd p

module _ (key : ℕ) where
  raised : (m : Pairs ℕ) (k : ℕ) (asked : ClosureCall ℕ) → CallsAlways (lookup m k) asked → (k ≡ key → RaisesAsked asked) → IsAtLeast (lookup m key) (lookup (after_asking m k asked) key)
  raised m k asked called raises =
      elim (cases_eq k key) [
        | inl at ↦
            let least : IsAtLeast (lookup m k) (Some called.0) = subst RaisesAsked called.1 (raises at) in
            subst (λ (a : ClosureCall ℕ). IsAtLeast (lookup m key) (lookup (after_asking m k a) key)) (sym called.1)
            (subst (λ j. IsAtLeast (lookup m j) (lookup (put m k called.0) j)) at (subst (IsAtLeast (lookup m k)) (sym (lookup-put_same m k called.0)) least))
        | inr ne ↦ subst (IsAtLeast (lookup m key)) (sym (asked_leaves key m k asked (λ e. ne (sym e)))) (least_same (lookup m key))
      ]

  untouched : (same : ℕ → ℕ → Bool) (m : Pairs ℕ) (call : Call ℕ ℕ) (asked : ClosureCall ℕ) → Leaves key call → IsAtLeast (lookup m key) (lookup (after same m call asked) key)
  untouched same m call asked leave = subst (IsAtLeast (lookup m key)) (sym (call_leaves key same m call asked leave)) (least_same (lookup m key))

  raises_on : (same : ℕ → ℕ → Bool) (m : Pairs ℕ) (call : Call ℕ ℕ) (asked : ClosureCall ℕ) (answer : Answer ℕ ℕ ℕ) → MayAnswer same never m call asked answer → Raises key call asked
      → IsAtLeast (lookup m key) (lookup (after_answer same m call asked answer) key)
  raises_on same m call asked refused may r = least_same (lookup m key)
  raises_on same m (compute_or_insert k) asked (replied reply) may r = raised m k asked may.0 r
  raises_on same m (get k) asked (replied reply) may r = untouched same m (get k) asked r
  raises_on same m (insert k v) asked (replied reply) may r = untouched same m (insert k v) asked r
  raises_on same m (remove k) asked (replied reply) may r = untouched same m (remove k) asked r
  raises_on same m (compare_exchange k old new) asked (replied reply) may r = untouched same m (compare_exchange k old new) asked r
  raises_on same m (compute_if_present k) asked (replied reply) may r = untouched same m (compute_if_present k) asked r
  raises_on same m is_empty asked (replied reply) may r = untouched same m is_empty asked r
  raises_on same m keys asked (replied reply) may r = untouched same m keys asked r
  raises_on same m (range a b n) asked (replied reply) may r = untouched same m (range a b n) asked r
  raises_on same m (nearest near) asked (replied reply) may r = untouched same m (nearest near) asked r
  raises_on same m count asked (replied reply) may r = untouched same m count asked r

  pub rises : (same : ℕ → ℕ → Bool) (m n : Pairs ℕ) (es : List (Entry ℕ)) → IsLegal same never m (operations_of es) n → AllRaise key es → IsAtLeast (lookup m key) (lookup n key)
  rises same m n [] h raise = subst (λ l. IsAtLeast (lookup m key) (lookup l key)) (sym h) (least_same (lookup m key))
  rises same m n (e ∷ es) h raise =
      least_trans (lookup m key) (lookup (after_operation same m e.operation) key) (lookup n key)
      (raises_on same m e.operation.call e.operation.asked e.operation.answer h.0 raise.0)
      (rises same (after_operation same m e.operation) n es h.1 raise.1)

-- what a reply with a previous value has
abbrev pub old_in : {P : Type 0} → Reply ℕ P P → Option P
old_in (old_value before) = before
old_in reply = None

module _ {P : Type 0} (same : P → P → Bool) where
  pub finds_it : (first between : List (Entry P)) (a b key : ℕ) (value : P) (before found : Option P) (m : Pairs P)
      → IsHistory same (first ++ (inserts a key value before ∷ (between ++ finds b key found ∷ []))) m → AllLeave key between → found ≡ Some value
  finds_it first between a b key value before found m h leave =
      let one = split_history same [] m first (inserts a key value before ∷ (between ++ finds b key found ∷ [])) h in
      let two = split_history same (put one.mid key value) m between (finds b key found ∷ []) one.then.1 in
      ap old_in two.then.0.1 ∙ (stays key same (put one.mid key value) two.mid between two.first leave ∙ lookup-put_same one.mid key value)

  pub reply_of_map : (k n : Known P) (operation : Operation ℕ P P) (made : MadeCall same k operation n)
      → (m : Pairs P) × IsHistory same (k.seen ++ made.between) m × Allows same never m operation × IsHistory same n.seen (after_operation same m operation)
  reply_of_map k n operation made =
      let whole = subst (λ (l : List (Entry P)). IsHistory same l made.legal.0) made.seen made.legal.1 in
      let at = split_history same [] made.legal.0 (k.seen ++ made.between) (entry k.caller operation ∷ []) whole in
      (at.mid, at.first, at.then.0, subst (λ (l : Pairs P). IsHistory same n.seen l) at.then.1 made.legal.1)
