-- What a key sees of a node, by the node's prefix.
use Rattle.std.specs.Prelude.{◌≡◌, ◌≢◌, ℕ, ◌+◌, ◌-◌, ◌<◌, ◌≤◌, List, length, slice_index, Option, Some, None}
use Rattle.word_book.specs.Book.{Book, Name}
use Rattle.live_nodes.specs.Seats.{SeatView}
use Rattle.live_nodes.specs.Levels.{digit}
use Rattle.live_nodes.specs.Views.{View}
use Rattle.live_reads.specs.declared.prefix_match.PrefixMatch.{PrefixMatch}
use Rattle.live_reads.specs.declared.prefix_match.PrefixMatch.TheVariants as prefix_matches
use Rattle.live_reads.specs.declared.prefix_match.Next.{Next}
use Rattle.live_reads.specs.declared.prefix_match.Next.TheVariants as nexts
use Rattle.live_reads.specs.Paths.{Names, Leaves, IsOpen}

-- the prefix has the key's bytes down to this height
abbrev pub Alike : List ℕ → ℕ → ℕ → Type 0
Alike p key n = (i : ℕ) → i < n → slice_index p i ≡ digit (8 - i) key

-- It begins the key's bytes, or it has another byte at a height.
abbrev pub Sees : List ℕ → ℕ → PrefixMatch → Type 0
Sees p key (prefix_matches.Covers h) = (h + length p ≡ 8) × Alike p key (length p)
Sees p key (prefix_matches.Leaves h b) = (1 ≤ h) × (h ≤ 8) × (8 - h < length p) × (slice_index p (8 - h) ≡ b) × (b < 256) × (b ≢ digit h key) × Alike p key (8 - h)

-- what a seat knows then of the node with that name, which is open
abbrev pub HasMet : SeatView View → Book → List Name → ℕ → ℕ → ℕ → PrefixMatch → Type 0
HasMet w b words taken name key (prefix_matches.Covers h) = IsOpen w b words taken name key h × (1 ≤ h) × (h ≤ 8)
HasMet w b words taken name key (prefix_matches.Leaves h byte) = Leaves w name key h byte

-- What is next on a key's path, below a node of this height.
abbrev pub Follows : (SeatView View → SeatView View → Type 0) → SeatView View → SeatView View → ℕ → ℕ → Option Next → Type 0
Follows Ends v w key height None = w.client.seen ≡ v.client.seen
Follows Ends v w key height (Some nexts.Ends) = Ends v w
Follows Ends v w key height (Some (nexts.Goes name h)) = (w.client.seen ≡ v.client.seen) × Names w name key h × (1 ≤ h) × (h < height)
Follows Ends v w key height (Some (nexts.Mismatches f)) = (w.client.seen ≡ v.client.seen) × Leaves w f.below key f.at f.byte

-- If a node is next, it is open.
abbrev pub IsNextOpen : SeatView View → Book → List Name → ℕ → ℕ → Next → Type 0
IsNextOpen w b words taken key nexts.Ends = Unit {0}
IsNextOpen w b words taken key (nexts.Goes name h) = IsOpen w b words taken name key h
IsNextOpen w b words taken key (nexts.Mismatches f) = Unit {0}
