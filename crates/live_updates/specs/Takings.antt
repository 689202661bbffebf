-- THE PAIRS OF A LEAF in a range of keys are removed at one moment.
use Rattle.std.specs.Prelude.{◌≡◌, ℕ, ◌<◌, ◌≤◌, nat_eq, List, [], ◌∷◌, ◌++◌, None, Ok}
use Rattle.spec_map.specs.Map.{Pairs, lookup, Rises}
use Rattle.share_rule.specs.History.{Entry, IsHistory}
use Rattle.share_rule.specs.inner.Rule.{HasSeen}
use Rattle.live_nodes.specs.Begun.{began}
use Rattle.live_nodes.specs.Known.{Known}
use Rattle.live_updates.specs.Entries.{swapped}

-- the removal of a pair
abbrev pub taken : ℕ → ℕ × ℕ → Entry ℕ
taken caller p = swapped caller p.0 p.1 None (Ok None)

-- removals of these pairs, and before each of them a reader begins
abbrev pub takings : ℕ → Pairs ℕ → List (Entry ℕ)
takings caller [] = []
takings caller (p ∷ ps) = began caller ∷ taken caller p ∷ takings caller ps

-- removals of these pairs, where a reader begins before each but the first
abbrev pub removals : ℕ → Pairs ℕ → List (Entry ℕ)
removals caller [] = []
removals caller (p ∷ ps) = taken caller p ∷ takings caller ps

-- THE PAIRS with keys from `low` on and below `high` were these at one moment. The caller removed them then, keys ascending. No
-- other call was made meanwhile
pub record Takes (caller low high : ℕ) (ps : Pairs ℕ) (seen seen' : List (Entry ℕ)) : Type 0 where
  pub whole : List (Entry ℕ)
  pub pairs : Pairs ℕ
  pub legal : IsHistory nat_eq whole pairs
  pub fits : HasSeen whole caller seen
  pub value : (k : ℕ) → low ≤ k → k < high → lookup ps k ≡ lookup pairs k
  pub ascend : Rises low high ps
  pub is : seen' ≡ whole ++ removals caller ps

-- THESE PAIRS WERE TAKEN OUT by a guard that knew k: all those with keys from `low` on and below `to`
pub record HasTakenOut (k : Known) (low high : ℕ) (ps : Pairs ℕ) (n : Known) : Type 0 where
  pub book : n.book ≡ k.book
  pub caller : n.caller ≡ k.caller
  pub to : ℕ
  pub within : to ≤ high
  pub takes : Takes k.caller low to ps k.seen n.seen
