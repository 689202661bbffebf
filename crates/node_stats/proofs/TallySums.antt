-- The sums over all levels of a tally are those over its nodes.
use Rattle.std.proofs.Common.{◌≡◌, ℕ, zero, suc, ◌+◌, ◌<◌, ◌≤◌, Bool, true, false, ◌&&◌, ◌==◌, if◌then◌else◌, List, [], ◌∷◌, length, get_or, refl, ap, sym, ◌∙◌, arith, nat_eq, add-zero, zero-add, ◌^◌}
use Rattle.std.specs.Prelude.{sum_by}
use Rattle.std.proofs.lemmas.List.Sums.{sum_by-cons}
use Rattle.std.proofs.lemmas.Bool.{cases_Bool, cases_eq, ne_eqb}
use Rattle.std.proofs.Common.{eq-eqb}
use mathlib.Core.Logic.{⊎_elim}
use Rattle.node_base.specs.declared.base_node.NodeType.{NodeType}
use Rattle.node_base.specs.declared.base_node.NodeType.TheVariants.{N4, N16, N48, N256}
use Rattle.node_stats.specs.declared.levels.LevelStats.{LevelStats}
use Rattle.node_base.specs.Form.{form_place}
use Rattle.node_stats.specs.LevelCounts.{node_count, entry_count, empty_level, capped}
use Rattle.node_stats.specs.Stats.{Visit, is_at, count_at, entries_at, level_of, height, IsTally}
use Rattle.node_stats.specs.StatsText.{all_nodes, all_entries}
use Rattle.node_stats.specs.Stays.{NoCountSaturates}
use Rattle.node_stats.proofs.TallyLaws.{counts_at-is}

-- the sum of a function at so many numbers, from one on
abbrev sum_from : ℕ → ℕ → (ℕ → ℕ) → ℕ
sum_from k zero f = 0
sum_from k (suc n) f = f k + sum_from (suc k) n f

sum_from-same : (k n : ℕ) (f g : ℕ → ℕ) → ((j : ℕ) → f j ≡ g j) → sum_from k n f ≡ sum_from k n g
sum_from-same k zero f g same = refl
sum_from-same k (suc n) f g same = rw (same k, sum_from-same (suc k) n f g same)

sum_from-add : (k n : ℕ) (f g : ℕ → ℕ) → sum_from k n (λ j. f j + g j) ≡ sum_from k n f + sum_from k n g
sum_from-add k zero f g = refl
sum_from-add k (suc n) f g = omega (arith, sum_from-add (suc k) n f g)

sum_from-zero : (k n : ℕ) → sum_from k n (λ j. 0) ≡ 0
sum_from-zero k zero = refl
sum_from-zero k (suc n) = omega (arith, sum_from-zero (suc k) n)

-- a number that counts at one place alone
miss : (l a k n : ℕ) → l < k → sum_from k n (λ j. if l == j then a else 0) ≡ 0
miss l a k zero below = refl
miss l a k (suc n) below =
    let off : nat_eq l k ≡ false = ne_eqb l k (λ at. omega arith) in
    rw (off, miss l a (suc k) n (omega arith))

hit : (l a k n : ℕ) → k ≤ l → l < k + n → sum_from k n (λ j. if l == j then a else 0) ≡ a
hit l a k zero from below = absurd (omega arith)
hit l a k (suc n) from below = ⊎_elim
    (λ at. let on : nat_eq l k ≡ true = eq-eqb l k at in rw (on, miss l a (suc k) n (omega arith), add-zero))
    (λ apart. let off : nat_eq l k ≡ false = ne_eqb l k apart in let rest = hit l a (suc k) n (omega arith) (omega arith) in rw off (omega arith))
    (cases_eq l k)

-- a sum over the levels, from what each level is
levels-sum : (f : LevelStats → ℕ) (at : ℕ → LevelStats) (k : ℕ) (levels : List LevelStats)
    → ((j : ℕ) → get_or levels j empty_level ≡ at (k + j)) → sum_by f levels ≡ sum_from k (length levels) (λ j. f (at j))
levels-sum f at k [] is = refl
levels-sum f at k (x ∷ levels) is =
    let here : k + 0 ≡ k = omega arith in
    let first : x ≡ at k = is 0 ∙ ap at here in
    let rest = levels-sum f at (suc k) levels (λ j. let e : k + suc j ≡ suc k + j = omega arith in is (suc j) ∙ ap at e) in
    sum_by-cons f x levels ∙ rw (first, rest)

-- what the nodes of a level and form weigh
abbrev part : (Visit → ℕ) → ℕ → List Visit → NodeType → ℕ
part w level nodes form = sum_by (λ node. if is_at level form node then w node else 0) nodes

abbrev parts : (Visit → ℕ) → ℕ → List Visit → ℕ
parts w level nodes = part w level nodes N4 + part w level nodes N16 + part w level nodes N48 + part w level nodes N256

one_form : (same : Bool) (form : NodeType) (a : ℕ)
    → (if same && form_place form == 0 then a else 0) + (if same && form_place form == 1 then a else 0)
    + (if same && form_place form == 2 then a else 0) + (if same && form_place form == 3 then a else 0) ≡ (if same then a else 0)
one_form false form a = refl
one_form true N4 a = omega arith
one_form true N16 a = omega arith
one_form true N48 a = omega arith
one_form true N256 a = omega arith

parts-cons : (w : Visit → ℕ) (level : ℕ) (n : Visit) (nodes : List Visit)
    → parts w level (n ∷ nodes) ≡ (if n.level == level then w n else 0) + parts w level nodes
parts-cons w level n nodes =
    let once = one_form (n.level == level) n.form (w n) in
    let a = sum_by-cons (λ m. if is_at level N4 m then w m else 0) n nodes in
    let b = sum_by-cons (λ m. if is_at level N16 m then w m else 0) n nodes in
    let c = sum_by-cons (λ m. if is_at level N48 m then w m else 0) n nodes in
    let d = sum_by-cons (λ m. if is_at level N256 m then w m else 0) n nodes in
    omega arith

-- every node is on one level and of one form
all_parts : (w : Visit → ℕ) (nodes : List Visit) (deep : ℕ) → height nodes ≤ deep → sum_from 0 deep (λ k. parts w k nodes) ≡ sum_by w nodes
all_parts w [] deep fits = sum_from-zero 0 deep
all_parts w (n ∷ nodes) deep fits =
    sum_from-same 0 deep (λ k. parts w k (n ∷ nodes)) (λ k. (if n.level == k then w n else 0) + parts w k nodes) (λ k. parts-cons w k n nodes)
    ∙ sum_from-add 0 deep (λ k. if n.level == k then w n else 0) (λ k. parts w k nodes)
    ∙ rw (hit n.level (w n) 0 deep (omega arith) (omega arith), all_parts w nodes deep (omega arith), sum_by-cons)

-- a part is no more than the whole
part-le : (w : Visit → ℕ) (level : ℕ) (nodes : List Visit) (form : NodeType) → part w level nodes form ≤ sum_by w nodes
part-le w level [] form = omega arith
part-le w level (n ∷ nodes) form =
    let rest = part-le w level nodes form in
    let whole = sum_by-cons w n nodes in
    let kept = sum_by-cons (λ m. if is_at level form m then w m else 0) n nodes in
    ⊎_elim
    (λ yes_at. let one : (if is_at level form n then w n else 0) ≡ w n = rw yes_at in omega arith)
    (λ not_at. let none : (if is_at level form n then w n else 0) ≡ 0 = rw not_at in omega arith)
    (cases_Bool (is_at level form n))

sum_by-ones : (nodes : List Visit) → sum_by (λ n. 1) nodes ≡ length nodes
sum_by-ones [] = refl
sum_by-ones (n ∷ nodes) = sum_by-cons (λ m. 1) n nodes ∙ (let rest = sum_by-ones nodes in omega arith)

-- the sums over the levels, where each form's count is its part
sums-of-parts : (w : Visit → ℕ) (f : NodeType → LevelStats → ℕ) (nodes : List Visit) (levels : List LevelStats) → IsTally nodes levels
    → ((form : NodeType) (level : ℕ) → f form (level_of level nodes) ≡ part w level nodes form)
    → sum_by (f N4) levels + sum_by (f N16) levels + sum_by (f N48) levels + sum_by (f N256) levels ≡ sum_by w nodes
sums-of-parts w f nodes levels tally is =
    let deep : ℕ = length levels in
    let here : (j : ℕ) → get_or levels j empty_level ≡ level_of j nodes = λ j. sym (counts_at-is j levels) ∙ tally.sums j in
    let one : (form : NodeType) → sum_by (f form) levels ≡ sum_from 0 deep (λ k. part w k nodes form)
    = λ form. levels-sum (f form) (λ j. level_of j nodes) 0 levels (λ j. here j ∙ ap (λ (k : ℕ). level_of k nodes) (sym (zero-add j)))
    ∙ sum_from-same 0 deep (λ k. f form (level_of k nodes)) (λ k. part w k nodes form) (λ k. is form k) in
    let fits : height nodes ≤ deep = let as_deep = tally.as_deep in omega arith in
    let a = one N4 in
    let b = one N16 in
    let c = one N48 in
    let d = one N256 in
    let first = sum_from-add 0 deep (λ k. part w k nodes N4) (λ k. part w k nodes N16) in
    let second = sum_from-add 0 deep (λ k. part w k nodes N4 + part w k nodes N16) (λ k. part w k nodes N48) in
    let third = sum_from-add 0 deep (λ k. part w k nodes N4 + part w k nodes N16 + part w k nodes N48) (λ k. part w k nodes N256) in
    let all = all_parts w nodes deep fits in
    omega arith

count-is : (nodes : List Visit) (form : NodeType) (level : ℕ) → length nodes < 2 ^ 64
    → capped (count_at level nodes form) ≡ part (λ n. 1) level nodes form
unfolding count_at
count-is nodes form level few =
    let most = part-le (λ n. 1) level nodes form in
    let ones = sum_by-ones nodes in
    omega arith

entries-is : (nodes : List Visit) (form : NodeType) (level : ℕ) → sum_by (λ n. n.entries) nodes < 2 ^ 64
    → capped (entries_at level nodes form) ≡ part (λ n. n.entries) level nodes form
unfolding entries_at
entries-is nodes form level few = let most = part-le (λ n. n.entries) level nodes form in omega arith

pub nodes_complete : (nodes : List Visit) (levels : List LevelStats) → IsTally nodes levels → length nodes < 2 ^ 64
    → all_nodes levels ≡ length nodes
nodes_complete nodes levels tally few =
    sums-of-parts (λ n. 1) node_count nodes levels tally nodes_at ∙ sum_by-ones nodes
  where
    nodes_at : (form : NodeType) (level : ℕ) → node_count form (level_of level nodes) ≡ part (λ n. 1) level nodes form
    nodes_at N4 level = count-is nodes N4 level few
    nodes_at N16 level = count-is nodes N16 level few
    nodes_at N48 level = count-is nodes N48 level few
    nodes_at N256 level = count-is nodes N256 level few

pub entries_complete : (nodes : List Visit) (levels : List LevelStats) → IsTally nodes levels → sum_by (λ n. n.entries) nodes < 2 ^ 64
    → all_entries levels ≡ sum_by (λ n. n.entries) nodes
entries_complete nodes levels tally few =
    sums-of-parts (λ n. n.entries) entry_count nodes levels tally entries_here
  where
    entries_here : (form : NodeType) (level : ℕ) → entry_count form (level_of level nodes) ≡ part (λ n. n.entries) level nodes form
    entries_here N4 level = entries-is nodes N4 level few
    entries_here N16 level = entries-is nodes N16 level few
    entries_here N48 level = entries-is nodes N48 level few
    entries_here N256 level = entries-is nodes N256 level few

-- the same, if none of the counts saturates

count-stays : (nodes : List Visit) (form : NodeType) (level : ℕ) → count_at level nodes form < 2 ^ 64
    → capped (count_at level nodes form) ≡ part (λ n. 1) level nodes form
unfolding count_at
count-stays nodes form level below = omega arith

entries-stay : (nodes : List Visit) (form : NodeType) (level : ℕ) → entries_at level nodes form < 2 ^ 64
    → capped (entries_at level nodes form) ≡ part (λ n. n.entries) level nodes form
unfolding entries_at
entries-stay nodes form level below = omega arith

pub nodes_told : (nodes : List Visit) (levels : List LevelStats) → IsTally nodes levels → NoCountSaturates nodes
    → all_nodes levels ≡ length nodes
nodes_told nodes levels tally stays =
    sums-of-parts (λ n. 1) node_count nodes levels tally nodes_at ∙ sum_by-ones nodes
  where
    nodes_at : (form : NodeType) (level : ℕ) → node_count form (level_of level nodes) ≡ part (λ n. 1) level nodes form
    nodes_at N4 level = count-stays nodes N4 level (stays.nodes_fit level N4)
    nodes_at N16 level = count-stays nodes N16 level (stays.nodes_fit level N16)
    nodes_at N48 level = count-stays nodes N48 level (stays.nodes_fit level N48)
    nodes_at N256 level = count-stays nodes N256 level (stays.nodes_fit level N256)

pub entries_told : (nodes : List Visit) (levels : List LevelStats) → IsTally nodes levels → NoCountSaturates nodes
    → all_entries levels ≡ sum_by (λ n. n.entries) nodes
entries_told nodes levels tally stays =
    sums-of-parts (λ n. n.entries) entry_count nodes levels tally entries_here
  where
    entries_here : (form : NodeType) (level : ℕ) → entry_count form (level_of level nodes) ≡ part (λ n. n.entries) level nodes form
    entries_here N4 level = entries-stay nodes N4 level (stays.entries_fit level N4)
    entries_here N16 level = entries-stay nodes N16 level (stays.entries_fit level N16)
    entries_here N48 level = entries-stay nodes N48 level (stays.entries_fit level N48)
    entries_here N256 level = entries-stay nodes N256 level (stays.entries_fit level N256)
