-- The sums over one more node.
use Rattle.std.proofs.Common.{◌≡◌, ◌≢◌, ℕ, zero, suc, ◌+◌, ◌-◌, ◌<◌, max, true, false, if◌then◌else◌, List, [], ◌∷◌, ◌++◌, length, get_or, replicate, refl, ap, sym, ◌∙◌, arith, add-zero, eq-eqb, nat_eq, length-set, length-append, cond}
use Rattle.std.specs.Prelude.{slice_set}
use Rattle.std.proofs.lemmas.List.Sums.{sum_by_push}
use Rattle.std.proofs.lemmas.List.{get_or-set_same, get_or-set_other, length-replicate}
use Rattle.std.proofs.lemmas.Option.{unwrap_or-slice_get}
use Rattle.std.proofs.lemmas.Bool.{cases_eq, ne_eqb}
use mathlib.Core.Logic.{⊎_elim}
use Rattle.node_base.specs.declared.base_node.NodeType.{NodeType}
use Rattle.node_base.specs.declared.base_node.NodeType.TheVariants.{N4, N16, N48, N256}
use Rattle.node_stats.specs.declared.levels.LevelStats.{LevelStats}
use Rattle.node_stats.specs.LevelCounts.{empty_level, capped}
use Rattle.node_stats.specs.inner.OneMore.{with_one_node}
use Rattle.node_stats.specs.Stats.{Visit, visit, is_at, count_at, entries_at, level_of, height, counts_at, IsTally}

-- a cap on a part of a sum
capped-capped : (a n : ℕ) → capped (capped a + n) ≡ capped (a + n)
capped-capped a n = omega arith

height-more : (nodes : List Visit) (level : ℕ) (form : NodeType) (entries : ℕ)
    → height (nodes ++ visit level form entries ∷ []) ≡ max (level + 1) (height nodes)
height-more [] level form entries = refl
height-more (node ∷ nodes) level form entries = omega (arith, height-more nodes level form entries)

count_at-more : (level : ℕ) (form : NodeType) (nodes : List Visit) (node : Visit)
    → count_at level (nodes ++ node ∷ []) form ≡ count_at level nodes form + cond (is_at level form node) 1 0
unfolding count_at
count_at-more level form nodes node = sum_by_push (λ n. cond (is_at level form n) 1 0) nodes node

entries_at-more : (level : ℕ) (form : NodeType) (nodes : List Visit) (node : Visit)
    → entries_at level (nodes ++ node ∷ []) form ≡ entries_at level nodes form + (if is_at level form node then node.entries else 0)
unfolding entries_at
entries_at-more level form nodes node = sum_by_push (λ n. if is_at level form n then n.entries else 0) nodes node

-- a level that the node is on
level_of-same : (level : ℕ) (form : NodeType) (entries : ℕ) (nodes : List Visit)
    → level_of level (nodes ++ visit level form entries ∷ []) ≡ with_one_node form entries (level_of level nodes)
level_of-same level N4 e nodes = let same : nat_eq level level ≡ true = eq-eqb level level refl in simp (count_at-more, entries_at-more, same, add-zero, capped-capped)
level_of-same level N16 e nodes = let same : nat_eq level level ≡ true = eq-eqb level level refl in simp (count_at-more, entries_at-more, same, add-zero, capped-capped)
level_of-same level N48 e nodes = let same : nat_eq level level ≡ true = eq-eqb level level refl in simp (count_at-more, entries_at-more, same, add-zero, capped-capped)
level_of-same level N256 e nodes = let same : nat_eq level level ≡ true = eq-eqb level level refl in simp (count_at-more, entries_at-more, same, add-zero, capped-capped)

-- a level that it is not on
level_of-other : (k level : ℕ) (form : NodeType) (entries : ℕ) (nodes : List Visit) → level ≢ k
    → level_of k (nodes ++ visit level form entries ∷ []) ≡ level_of k nodes
level_of-other k level form e nodes apart = let off : nat_eq level k ≡ false = ne_eqb level k apart in simp (count_at-more, entries_at-more, off, add-zero)

-- empty levels at the end
get_or-empty : (k n : ℕ) → get_or (replicate n empty_level) k empty_level ≡ empty_level
get_or-empty zero zero = refl
get_or-empty zero (suc n) = refl
get_or-empty (suc k) zero = refl
get_or-empty (suc k) (suc n) = get_or-empty k n

get_or-more : (k n : ℕ) (levels : List LevelStats) → get_or (levels ++ replicate n empty_level) k empty_level ≡ get_or levels k empty_level
get_or-more zero n [] = get_or-empty zero n
get_or-more (suc k) n [] = get_or-empty (suc k) n
get_or-more zero n (x ∷ levels) = refl
get_or-more (suc k) n (x ∷ levels) = get_or-more k n levels

pub counts_at-is : (k : ℕ) (levels : List LevelStats) → counts_at k levels ≡ get_or levels k empty_level
counts_at-is k levels = unwrap_or-slice_get levels k empty_level

-- one more node
pub tally_more : (nodes : List Visit) (old new : List LevelStats) (level : ℕ) (form : NodeType) (entries : ℕ)
    → IsTally nodes old
    → (let reached : List LevelStats = old ++ replicate (level + 1 - length old) empty_level in
    new ≡ slice_set reached level (with_one_node form entries (counts_at level reached)))
    → IsTally (nodes ++ visit level form entries ∷ []) new
tally_more nodes old new level form e tally is =
    let more : ℕ = level + 1 - length old in
    let reached : List LevelStats = old ++ replicate more empty_level in
    let row : LevelStats = with_one_node form e (counts_at level reached) in
    let long : length reached ≡ length old + more = length-append old (replicate more empty_level) ∙ ap (λ (n : ℕ). length old + n) (length-replicate more empty_level) in
    let same : (k : ℕ) → counts_at k reached ≡ counts_at k old
    = λ k. counts_at-is k reached ∙ get_or-more k more old ∙ sym (counts_at-is k old) in
    let at_new : (k : ℕ) → counts_at k new ≡ get_or (slice_set reached level row) k empty_level
    = λ k. counts_at-is k new ∙ ap (λ xs. get_or xs k empty_level) is in
    record {
      as_deep =
          let set : length new ≡ length reached = ap length is ∙ length-set reached level row in
          let more = height-more nodes level form e in
          let as_deep = tally.as_deep in
          omega arith;
      sums = λ k. ⊎_elim
          (λ at. let here : level < length reached = omega arith in
          at_new k
          ∙ rw (← at) (get_or-set_same reached level row empty_level here
          ∙ ap (λ x. with_one_node form e x) (same level ∙ tally.sums level) ∙ sym (level_of-same level form e nodes)))
          (λ apart. at_new k
          ∙ get_or-set_other reached level k row empty_level (λ h. apart (sym h))
          ∙ sym (counts_at-is k reached) ∙ same k ∙ tally.sums k ∙ sym (level_of-other k level form e nodes apart))
          (cases_eq level k);
    }

-- no nodes and no levels
pub tally_empty : IsTally [] []
unfolding count_at entries_at
tally_empty = record { as_deep = refl; sums = λ level. counts_at-is level [] ∙ get_or-empty level 0 }
