-- PARTS OF MOVES: the pairs that were moved so far.
use Rattle.std.specs.Prelude.{◌≡◌, ℕ, List, [], ◌∷◌, is_none, Some}
use Rattle.spec_map.specs.Map.{Pairs, lookup}
use Rattle.congee_tree.specs.Bulk.{put_all}
use Rattle.word_slots.specs.declared.log.LogEntry.{LogEntry}
use Rattle.word_slots.specs.Tickets.{HasIssued}
use Rattle.live_payloads.specs.Payloads.{IsPayloadOf}

-- the map after insertions of these pairs
abbrev pub map_of : Pairs ℕ → Pairs ℕ
map_of pairs = put_all (λ (key : ℕ). key) (λ (ticket : ℕ). ticket) [] pairs

module _ {V : Type 0} where
  -- the keys of tickets and of payloads are the same
  abbrev pub HaveSameKeys : Pairs ℕ → List (ℕ × V) → Type 0
  HaveSameKeys tickets payloads = (key : ℕ) → is_none (lookup payloads key) ≡ is_none (lookup tickets key)

  -- at the key of each ticket is its payload
  abbrev pub ArePlaced : List (LogEntry V) → Pairs ℕ → List (ℕ × V) → Type 0
  ArePlaced log tickets payloads = (key ticket : ℕ) → lookup tickets key ≡ Some ticket → IsPayloadOf log (Some ticket) (lookup payloads key)

  -- tickets for the payloads of these pairs, one by one
  abbrev pub AreIssuedFor : (V → V → Type 0) → List (LogEntry V) → List (ℕ × V) → Pairs ℕ → Type 0
  AreIssuedFor alike log [] [] = Unit {0}
  AreIssuedFor alike log [] (t ∷ ts) = ⊥
  AreIssuedFor alike log (p ∷ ps) [] = ⊥
  AreIssuedFor alike log (p ∷ ps) (t ∷ ts) = (t.0 ≡ p.0) × ((y : V) × HasIssued log t.1 y × alike p.1 y) × AreIssuedFor alike log ps ts
