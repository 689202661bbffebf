-- The levels of a node and of those below it, and of nodes under different bytes.
use Rattle.std.proofs.Common.{◌≡◌, ℕ, suc, ◌+◌, ◌<◌, ◌≤◌, true, false, cond, List, [], ◌∷◌, ◌++◌, length, map, refl, ap, ◌∙◌, arith, length-append, append_assoc}
use Rattle.std.specs.Prelude.{nat_lt}
use Rattle.std.proofs.Math.Bool.{and-false}
use Rattle.std.proofs.lemmas.Bool.{lt-ltb, le-ltb}
use Rattle.std.proofs.lemmas.List.Sums.{sum_by-cons, sum_by-append}
use Rattle.std.proofs.lemmas.List.{map-append}
use Rattle.spec_node.specs.Key.{begins, Begins}
use Rattle.node_table.specs.Table.{NodeInfo}
use Rattle.node_table.specs.Shape.{IsUnder, AreUnder, AllBegin}
use Rattle.node_stats.specs.Stats.{visit}
use Rattle.node_stats.specs.Visits.{goes_on, nodes_above, visits_below}
use Rattle.node_table.proofs.BeginLaws.{after, begins_by, begins_other}

goes_on-longer : (p q : List ℕ) → Begins p q → length p < length q → goes_on p q ≡ true
goes_on-longer p q begin longer = rw (lt-ltb (length p) (length q) longer) begin.holds

goes_on-short : (p q : List ℕ) → length q ≤ length p → goes_on p q ≡ false
goes_on-short p q short = rw (le-ltb (length p) (length q) short) refl

goes_on-other : (p q : List ℕ) → begins p q ≡ false → goes_on p q ≡ false
goes_on-other p q other = rw other (and-false (nat_lt (length p) (length q)))

nodes_above-nil : (n : NodeInfo) → nodes_above [] n ≡ 0
unfolding nodes_above
nodes_above-nil n = refl

nodes_above-cons : (m n : NodeInfo) (nodes : List NodeInfo) → nodes_above (m ∷ nodes) n ≡ cond (goes_on m.edge n.edge) 1 0 + nodes_above nodes n
unfolding nodes_above
nodes_above-cons m n nodes = sum_by-cons (λ x. cond (goes_on x.edge n.edge) 1 0) m nodes

nodes_above-append : (xs ys : List NodeInfo) (n : NodeInfo) → nodes_above (xs ++ ys) n ≡ nodes_above xs n + nodes_above ys n
unfolding nodes_above
nodes_above-append xs ys n = sum_by-append (λ x. cond (goes_on x.edge n.edge) 1 0) xs ys

-- a node that isn't above counts nothing
not_above : (m n : NodeInfo) (nodes : List NodeInfo) → goes_on m.edge n.edge ≡ false → nodes_above nodes n ≡ 0 → nodes_above (m ∷ nodes) n ≡ 0
not_above m n nodes off rest = nodes_above-cons m n nodes ∙ rw off (omega arith)

-- the bytes that lead to a node that is below others
under_is : (Passes : ℕ → Type 0) (p : List ℕ) (m : NodeInfo) (u : IsUnder Passes p m) → m.edge ≡ p ++ u.byte ∷ (after u.begins).rest
under_is Passes p m u = (after u.begins).is ∙ append_assoc p (u.byte ∷ []) (after u.begins).rest

-- a node and those below it

below_is : (n m : NodeInfo) (b : Begins n.edge n.prefix) (u : IsUnder (λ _. Unit {0}) n.prefix m)
    → m.edge ≡ n.edge ++ ((after b).rest ++ u.byte ∷ (after u.begins).rest)
below_is n m b u =
    let last : List ℕ = u.byte ∷ (after u.begins).rest in
    under_is (λ _. Unit {0}) n.prefix m u ∙ ap (λ p. p ++ last) (after b).is ∙ append_assoc n.edge (after b).rest last

longer_below : (n m : NodeInfo) → Begins n.edge n.prefix → IsUnder (λ _. Unit {0}) n.prefix m → length n.edge < length m.edge
longer_below n m b u =
    let first : List ℕ = (after b).rest in
    let last : List ℕ = u.byte ∷ (after u.begins).rest in
    let more : length (first ++ last) ≡ length first + suc (length (after u.begins).rest) = length-append first last in
    let all : length m.edge ≡ length n.edge + length (first ++ last) = ap length (below_is n m b u) ∙ length-append n.edge (first ++ last) in
    omega arith

goes_on-below : (n m : NodeInfo) → Begins n.edge n.prefix → IsUnder (λ _. Unit {0}) n.prefix m → goes_on n.edge m.edge ≡ true
goes_on-below n m b u =
    goes_on-longer n.edge m.edge (begins_by n.edge ((after b).rest ++ u.byte ∷ (after u.begins).rest) m.edge (below_is n m b u)) (longer_below n m b u)

goes_on-back : (n m : NodeInfo) → Begins n.edge n.prefix → IsUnder (λ _. Unit {0}) n.prefix m → goes_on m.edge n.edge ≡ false
goes_on-back n m b u = let longer = longer_below n m b u in goes_on-short m.edge n.edge (omega arith)

none_above : (n : NodeInfo) (nodes : List NodeInfo) → Begins n.edge n.prefix → AreUnder (λ _. Unit {0}) n.prefix nodes → nodes_above nodes n ≡ 0
none_above n [] b under = nodes_above-nil n
none_above n (m ∷ nodes) b under = not_above m n nodes (goes_on-back n m b under.0) (none_above n nodes b under.1)

one_deeper : (above : ℕ) (n : NodeInfo) (all nodes : List NodeInfo) → Begins n.edge n.prefix → AreUnder (λ _. Unit {0}) n.prefix nodes
    → map (λ m. visit (above + nodes_above (n ∷ all) m) m.form m.count) nodes ≡ map (λ m. visit (above + 1 + nodes_above all m) m.form m.count) nodes
one_deeper above n all [] b under = refl
one_deeper above n all (m ∷ nodes) b under =
    let counted : nodes_above (n ∷ all) m ≡ 1 + nodes_above all m = nodes_above-cons n m all ∙ rw (goes_on-below n m b under.0) refl in
    let level : above + nodes_above (n ∷ all) m ≡ above + 1 + nodes_above all m = omega arith in
    ap (λ (k : ℕ). visit k m.form m.count ∷ map (λ x. visit (above + nodes_above (n ∷ all) x) x.form x.count) nodes) level
    ∙ ap (λ vs. visit (above + 1 + nodes_above all m) m.form m.count ∷ vs) (one_deeper above n all nodes b under.1)

pub visits-node : (above : ℕ) (n : NodeInfo) (nodes : List NodeInfo) → Begins n.edge n.prefix → AreUnder (λ _. Unit {0}) n.prefix nodes
    → visits_below above (n ∷ nodes) ≡ visit above n.form n.count ∷ visits_below (above + 1) nodes
visits-node above n nodes b under =
    let first : nodes_above (n ∷ nodes) n ≡ 0 = not_above n n nodes (goes_on-short n.edge n.edge (omega arith)) (none_above n nodes b under) in
    let level : above + nodes_above (n ∷ nodes) n ≡ above = omega arith in
    ap (λ (k : ℕ). visit k n.form n.count ∷ map (λ m. visit (above + nodes_above (n ∷ nodes) m) m.form m.count) nodes) level
    ∙ ap (λ vs. visit above n.form n.count ∷ vs) (one_deeper above n nodes nodes b under)

-- nodes under a byte, and those under greater bytes

first_is : (p : List ℕ) (b : ℕ) (x : NodeInfo) (begin : Begins (p ++ b ∷ []) x.edge) → x.edge ≡ p ++ b ∷ (after begin).rest
first_is p b x begin = (after begin).is ∙ append_assoc p (b ∷ []) (after begin).rest

none_on_the_right : (p : List ℕ) (b : ℕ) (x : NodeInfo) (ys : List NodeInfo) → Begins (p ++ b ∷ []) x.edge → AreUnder (λ c. b < c) p ys → nodes_above ys x ≡ 0
none_on_the_right p b x [] begin under = nodes_above-nil x
none_on_the_right p b x (y ∷ ys) begin under =
    let u : IsUnder (λ c. b < c) p y = under.0 in
    let greater = u.passes in
    let other : begins y.edge x.edge ≡ false = rw (under_is (λ c. b < c) p y u, first_is p b x begin) (begins_other p u.byte b (after u.begins).rest (after begin).rest (λ same. omega arith)) in
    not_above y x ys (goes_on-other y.edge x.edge other) (none_on_the_right p b x ys begin under.1)

none_on_the_left : (p : List ℕ) (b : ℕ) (y : NodeInfo) (xs : List NodeInfo) → AllBegin (p ++ b ∷ []) xs → IsUnder (λ c. b < c) p y → nodes_above xs y ≡ 0
none_on_the_left p b y [] begin u = nodes_above-nil y
none_on_the_left p b y (x ∷ xs) begin u =
    let greater = u.passes in
    let here : Begins (p ++ b ∷ []) x.edge = begin.0 in
    let other : begins x.edge y.edge ≡ false = rw (under_is (λ c. b < c) p y u, first_is p b x here) (begins_other p b u.byte (after here).rest (after u.begins).rest (λ same. omega arith)) in
    not_above x y xs (goes_on-other x.edge y.edge other) (none_on_the_left p b y xs begin.1 u)

same_on_the_left : (above : ℕ) (p : List ℕ) (b : ℕ) (all xs ys : List NodeInfo) → AllBegin (p ++ b ∷ []) xs → AreUnder (λ c. b < c) p ys
    → map (λ n. visit (above + nodes_above (all ++ ys) n) n.form n.count) xs ≡ map (λ n. visit (above + nodes_above all n) n.form n.count) xs
same_on_the_left above p b all [] ys begin under = refl
same_on_the_left above p b all (x ∷ xs) ys begin under =
    let none = none_on_the_right p b x ys begin.0 under in
    let both = nodes_above-append all ys x in
    let level : above + nodes_above (all ++ ys) x ≡ above + nodes_above all x = omega arith in
    ap (λ (k : ℕ). visit k x.form x.count ∷ map (λ n. visit (above + nodes_above (all ++ ys) n) n.form n.count) xs) level
    ∙ ap (λ vs. visit (above + nodes_above all x) x.form x.count ∷ vs) (same_on_the_left above p b all xs ys begin.1 under)

same_on_the_right : (above : ℕ) (p : List ℕ) (b : ℕ) (xs all ys : List NodeInfo) → AllBegin (p ++ b ∷ []) xs → AreUnder (λ c. b < c) p ys
    → map (λ n. visit (above + nodes_above (xs ++ all) n) n.form n.count) ys ≡ map (λ n. visit (above + nodes_above all n) n.form n.count) ys
same_on_the_right above p b xs all [] begin under = refl
same_on_the_right above p b xs all (y ∷ ys) begin under =
    let none = none_on_the_left p b y xs begin under.0 in
    let both = nodes_above-append xs all y in
    let level : above + nodes_above (xs ++ all) y ≡ above + nodes_above all y = omega arith in
    ap (λ (k : ℕ). visit k y.form y.count ∷ map (λ n. visit (above + nodes_above (xs ++ all) n) n.form n.count) ys) level
    ∙ ap (λ vs. visit (above + nodes_above all y) y.form y.count ∷ vs) (same_on_the_right above p b xs all ys begin under.1)

pub visits-append : (above : ℕ) (p : List ℕ) (b : ℕ) (xs ys : List NodeInfo) → AllBegin (p ++ b ∷ []) xs → AreUnder (λ c. b < c) p ys
    → visits_below above (xs ++ ys) ≡ visits_below above xs ++ visits_below above ys
visits-append above p b xs ys begin under =
    map-append (λ n. visit (above + nodes_above (xs ++ ys) n) n.form n.count) xs ys
    ∙ ap (λ vs. vs ++ map (λ n. visit (above + nodes_above (xs ++ ys) n) n.form n.count) ys) (same_on_the_left above p b xs xs ys begin under)
    ∙ ap (λ vs. visits_below above xs ++ vs) (same_on_the_right above p b xs ys ys begin under)
