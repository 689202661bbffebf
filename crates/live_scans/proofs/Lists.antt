-- A page downwards grows by a pair of a leaf, and ends.
use Rattle.std.proofs.Common.{◌≡◌, ℕ, ◌+◌, ◌<◌, ◌≤◌, List, [], ◌∷◌, length, take, drop, set, map, reverse, false, Some, None, sym, ap, ◌∙◌, arith, inl, inr}
use Rattle.std.proofs.lemmas.Bool.{cases_lt, cases_eq, eq-eqb, ne_eqb}
use Rattle.std.proofs.lemmas.List.{reverse-append}
use Rattle.spec_map.specs.Map.{Pairs, lookup}
use Rattle.spec_map.proofs.MapLaws.{Rises-wider, lookup-below}
use Rattle.spec_node.specs.TableNode.{TableNode}
use Rattle.live_layout.specs.Encodes.{Encodes, payload_of}
use Rattle.live_layout.specs.Order.{HasNearest}
use Rattle.live_layout.specs.Page.{AreListed}
use Rattle.live_layout.proofs.StandLaws.{leaf-found}
use Rattle.live_layout.proofs.PageLaws.{entered_more}
use Rattle.live_scans.specs.inner.Fills.{IsPrevious}

pub previous_child : (c : List ℕ) (n : TableNode ℕ) (from first : ℕ) (e : ℕ × ℕ) → Encodes c n → length n.prefix ≡ 7 → first ≤ e.0 → HasNearest false n.children from (Some e) → IsPrevious n from first (Some e)
previous_child c n from first e encodes seven low near = (low, near.0, leaf-found c n e.0 (Some e.1) encodes seven near.1, λ b above l. near.2 b l above)

pub none_within : (n : TableNode ℕ) (from first : ℕ) (e : ℕ × ℕ) → e.0 < first → HasNearest false n.children from (Some e) → IsPrevious n from first None
none_within n from first e low near = λ b f l. near.2 b l (omega (arith, f, low))

-- one more pair
pub listed_more : (n : TableNode ℕ) (base from first to : ℕ) (ps : Pairs ℕ) (e : ℕ × ℕ) → from < to → AreListed n base (from + 1) to ps → IsPrevious n from first (Some e) → AreListed n base e.0 to ((base + e.0, e.1) ∷ ps)
listed_more n base from first to ps e low h previous =
    let under = previous.1 in record {
      ascend = (omega arith, omega (arith, under, low), Rises-wider (base + (from + 1)) (base + to) (base + e.0 + 1) (base + to) ps (omega (arith, under)) (omega arith) h.ascend);
      value = λ b from-b to-b.
          elim (cases_eq b e.0) [
            | inl same ↦ rw (eq-eqb (base + e.0) (base + b) (omega (arith, same))) (sym (ap (λ (z : ℕ). payload_of (lookup n.children z)) same ∙ previous.2))
            | inr other ↦
                rw (ne_eqb (base + e.0) (base + b) (λ x. other (omega (arith, x))))
                (elim (cases_lt from b) [
                  | inl above ↦ h.value b (omega (arith, above)) to-b
                  | inr below ↦ lookup-below (base + (from + 1)) (base + to) ps (base + b) h.ascend (omega (arith, below)) ∙ sym (ap payload_of (previous.3 b (omega (arith, from-b, other)) below))
                ])
          ];
    }

-- nothing more
pub listed_rest : (n : TableNode ℕ) (base from first to : ℕ) (ps : Pairs ℕ) → first ≤ from + 1 → AreListed n base (from + 1) to ps → IsPrevious n from first None → AreListed n base first to ps
listed_rest n base from first to ps low h none = record {
  ascend = Rises-wider (base + (from + 1)) (base + to) (base + first) (base + to) ps (omega (arith, low)) (omega arith) h.ascend;
  value = λ b from-b to-b.
      elim (cases_lt from b) [
        | inl above ↦ h.value b (omega (arith, above)) to-b
        | inr below ↦ lookup-below (base + (from + 1)) (base + to) ps (base + b) h.ascend (omega (arith, below)) ∙ sym (ap payload_of (none b from-b below))
      ];
}

-- the part of a buffer that was filled, ascending
pub more_filled : {P : Type 0} (pair : P → ℕ × ℕ) (l : List P) (start place : ℕ) (entry : P) → start ≤ place → (e : ℕ × ℕ) → pair entry ≡ e → place < length l → reverse (drop start (take (place + 1) (map pair (set l place entry)))) ≡ e ∷ reverse (drop start (take place (map pair l)))
more_filled pair l start place entry low e is inside =
    ap reverse (entered_more pair l start place entry low e is inside) ∙ reverse-append (drop start (take place (map pair l))) (e ∷ [])
