-- All pairs of a map, written into a list that has a place for each.
use Rattle.std.proofs.Common.{◌≡◌, ℕ, ◌^◌, min, map, length, take, drop, ◌++◌, sym, ap, ◌∙◌, append-nil, arith}
use Rattle.std.proofs.lemmas.List.{take_all, drop_all, take_at}
use Rattle.spec_map.specs.Map.{Pairs, between, IsMap}
use Rattle.spec_map.proofs.RangeLaws.{between-all}
use Rattle.face_typed.proofs.Entries.{as_they_are}

pub all_written : (ps items old new : Pairs ℕ) (len n : ℕ) → IsMap ps → len ≡ length ps → length old ≡ len → n ≡ min (length old) (length (between ps 0 (2 ^ 64)))
    → new ≡ take n (map (λ (e : ℕ × ℕ). (e.0, e.1)) (between ps 0 (2 ^ 64))) ++ drop n old → take len (new ++ drop (length new) items) ≡ ps
all_written ps items old new len n rises long room count written =
    let all : between ps 0 (2 ^ 64) ≡ ps = between-all 0 (2 ^ 64) 0 (2 ^ 64) ps rises (omega arith) (omega arith) in
    let same = ap (λ (xs : Pairs ℕ). map (λ (e : ℕ × ℕ). (e.0, e.1)) xs) all ∙ as_they_are ps in
    let counted : n ≡ min (length old) (length ps) = count ∙ ap (λ (xs : Pairs ℕ). min (length old) (length xs)) all in
    let whole : n ≡ length ps = omega (arith, counted, room, long) in
    let front : take n (map (λ (e : ℕ × ℕ). (e.0, e.1)) (between ps 0 (2 ^ 64))) ≡ ps = ap (λ (xs : Pairs ℕ). take n xs) same ∙ take_all n ps (omega (arith, whole)) in
    let back = drop_all n old (omega (arith, whole, room, long)) in
    let is : new ≡ ps = written ∙ (λ i. front i ++ back i) ∙ append-nil ps in
    ap (λ (xs : Pairs ℕ). take len (xs ++ drop (length xs) items)) is ∙ take_at ps (drop (length ps) items) len (sym long)
