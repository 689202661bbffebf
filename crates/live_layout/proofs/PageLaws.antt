-- A page grows by a pair, and ends.
use Rattle.std.proofs.Common.{◌≡◌, ℕ, ◌+◌, ◌<◌, ◌≤◌, List, [], ◌∷◌, ◌++◌, length, take, drop, set, map, Some, None, sym, ap, ◌∙◌, arith, inl, inr, length-take-le}
use Rattle.std.proofs.lemmas.Bool.{cases_lt, cases_eq, eq-eqb, ne_eqb}
use Rattle.std.proofs.lemmas.List.{take_more_set, take-set-le, drop-append-le, drop_all, map-set, length-map}
use Rattle.spec_map.specs.Map.{Pairs, lookup, Rises}
use Rattle.spec_map.proofs.MapLaws.{Rises-wider}
use Rattle.spec_map.proofs.JoinLaws.{Rises-append, lookup-above, lookup-append_left, lookup-append_right}
use Rattle.spec_node.specs.TableNode.{TableNode}
use Rattle.live_layout.specs.Encodes.{payload_of}
use Rattle.live_layout.specs.Page.{IsNext, AreListed}

pub listed_none : (n : TableNode ℕ) (base from : ℕ) → AreListed n base from from []
listed_none n base from = record { ascend = tt; value = λ b f l. absurd (omega (arith, f, l)) }

-- one more pair
pub listed_more : (n : TableNode ℕ) (base first from last : ℕ) (ps : Pairs ℕ) (e : ℕ × ℕ) → first ≤ from → AreListed n base first from ps → IsNext n from last (Some e) → AreListed n base first (e.0 + 1) (ps ++ (base + e.0, e.1) ∷ [])
listed_more n base first from last ps e low h next =
    let f = next.0 in
    let up : Rises (base + from) (base + (e.0 + 1)) ((base + e.0, e.1) ∷ []) = (omega (arith, f), omega arith, tt) in record {
      ascend = Rises-append (base + first) (base + from) (base + (e.0 + 1)) ps ((base + e.0, e.1) ∷ []) (omega (arith, low)) (omega (arith, f)) h.ascend up;
      value = λ b from-b to-b.
          elim (cases_lt b from) [
            | inl below ↦ lookup-append_left (base + from) (base + (e.0 + 1)) ps ((base + e.0, e.1) ∷ []) (base + b) up (omega (arith, below)) ∙ h.value b from-b below
            | inr above ↦
                lookup-append_right (base + first) (base + from) ps ((base + e.0, e.1) ∷ []) (base + b) h.ascend (omega (arith, above))
                ∙ elim (cases_eq b e.0) [
                  | inl same ↦ rw (eq-eqb (base + e.0) (base + b) (omega (arith, same))) (sym (ap (λ (z : ℕ). payload_of (lookup n.children z)) same ∙ next.2))
                  | inr other ↦ rw (ne_eqb (base + e.0) (base + b) (λ x. other (omega (arith, x)))) (sym (ap payload_of (next.3 b above (omega (arith, to-b, other)))))
                ]
          ];
    }

-- nothing more
pub listed_rest : (n : TableNode ℕ) (base first from last : ℕ) (ps : Pairs ℕ) → from ≤ last + 1 → AreListed n base first from ps → IsNext n from last None → AreListed n base first (last + 1) ps
listed_rest n base first from last ps low h next = record {
  ascend = Rises-wider (base + first) (base + from) (base + first) (base + (last + 1)) ps (omega arith) (omega (arith, low)) h.ascend;
  value = λ b from-b to-b.
      elim (cases_lt b from) [
        | inl below ↦ h.value b from-b below
        | inr above ↦ lookup-above (base + first) (base + from) ps (base + b) h.ascend (omega (arith, above)) ∙ sym (ap payload_of (next b above (omega (arith, to-b))))
      ];
}

-- the part of a buffer that was filled
pub filled_more : (l : List (ℕ × ℕ)) (start place : ℕ) (e : ℕ × ℕ) → start ≤ place → place < length l → drop start (take (place + 1) (set l place e)) ≡ drop start (take place l) ++ e ∷ []
filled_more l start place e low inside = ap (drop start) (take_more_set l place e inside)
    ∙ drop-append-le start (take place l) (e ∷ []) (let x = length-take-le place l (omega (arith, inside)) in omega (arith, x, low))

pub filled_none : (l : List (ℕ × ℕ)) (start : ℕ) → start ≤ length l → drop start (take start l) ≡ []
filled_none l start low = drop_whole (take start l) start (length-take-le start l low)
  where
    drop_whole : (xs : List (ℕ × ℕ)) (n : ℕ) → length xs ≡ n → drop n xs ≡ []
    drop_whole xs n e = drop_all n xs (omega (arith, e))

-- the same of entries, which have pairs
module _ {P : Type 0} (pair : P → ℕ × ℕ) (l : List P) (start place : ℕ) (entry : P) (low : start ≤ place) where
  pub entered_more : (e : ℕ × ℕ) → pair entry ≡ e → place < length l → drop start (take (place + 1) (map pair (set l place entry))) ≡ drop start (take place (map pair l)) ++ e ∷ []
  entered_more e is inside = ap (λ (xs : List (ℕ × ℕ)). drop start (take (place + 1) xs)) (map-set pair l place entry ∙ ap (set (map pair l) place) is)
      ∙ filled_more (map pair l) start place e low (let n = length-map l pair in omega (arith, inside, n))

  pub entered_before : take start (map pair (set l place entry)) ≡ take start (map pair l)
  entered_before = ap (take start) (map-set pair l place entry) ∙ take-set-le start (map pair l) place (pair entry) low
