-- How the nearest byte is searched for.
use Rattle.std.specs.Prelude.{◌≡◌, ℕ, ◌-◌, ◌<◌, ◌≤◌, Bool, true, false, List, Option, Some, None}
use Rattle.node_base.specs.inner.Marked.{mark_at}
use Rattle.live_layout.specs.Order.{IsFrom, IsBefore}

-- downwards, bytes are counted from the other end
abbrev pub turned : Bool → ℕ → ℕ
turned true b = b
turned false b = 255 - b

-- Of the numbers of so many places, this is the least that is at least `least`, with its place.
abbrev pub IsBest : (ℕ → ℕ) → ℕ → ℕ → Option (ℕ × ℕ) → Type 0
IsBest f least n None = (j : ℕ) → j < n → f j < least
IsBest f least n (Some e) = (e.1 < n) × (f e.1 ≡ e.0) × (least ≤ e.0) × ((j : ℕ) → j < n → least ≤ f j → e.0 ≤ f j)

-- the nearest byte that has a mark
abbrev pub IsMarked : Bool → List ℕ → ℕ → Option ℕ → Type 0
IsMarked up marks from None = (k : ℕ) → IsFrom up from k → mark_at marks k ≡ 0
IsMarked up marks from (Some b) = IsFrom up from b × (mark_at marks b ≡ 1)
    × ((k : ℕ) → IsFrom up from k → IsBefore up k b → mark_at marks k ≡ 0)
