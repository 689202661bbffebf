-- Counts, as guards know them.
use Rattle.std.proofs.Common.{◌≡◌, ℕ, ◌^◌, ◌<◌, [], ◌∷◌, ◌++◌, length, sym, ap, ◌∙◌, inl, inr, arith, append_assoc}
use Rattle.std.proofs.lemmas.Bool.{cases_lt}
use Rattle.spec_map.specs.Map.{Pairs, lookup, IsMap}
use Rattle.spec_map.proofs.MapLaws.{same_from_lookups}
use Rattle.spec_map.proofs.JoinLaws.{lookup-above}
use Rattle.share_rule.specs.History.{StartsWith}
use Rattle.word_book.specs.Book.{Book}
use Rattle.live_nodes.specs.Seats.{SeatView}
use Rattle.live_nodes.specs.Views.{View}
use Rattle.live_nodes.specs.Known.{Known}
use Rattle.live_nodes.specs.Begun.{began}
use Rattle.live_growth.specs.Calls.{known_of}
use Rattle.live_reads.specs.Roots.{Begins}
use Rattle.live_scans.specs.Scans.{Moment, IsBetween}
use Rattle.live_scans.specs.inner.Moments.{SeesMore}
use Rattle.live_scans.proofs.Composed.{starts_then}
use Rattle.live_scans.proofs.Pages.{begun_by}
use Rattle.live_scans.specs.Counts.{HasCounted}
use Rattle.live_scans.specs.inner.Steps.{Counts}

abbrev Seen : Type 0
Seen = SeatView View

-- by the seat
pub counted_seat : (b b₁ b₂ : Book) (c c₁ c₂ : ℕ) (u v w : Seen) (count : ℕ) → b₁ ≡ b → c₁ ≡ c → b₂ ≡ b₁ → c₂ ≡ c₁ → Begins c u.client.seen v.client.seen → SeesMore w.client.seen c₁ v.client.seen → Counts c₁ v w count → HasCounted (known_of b c u) count (known_of b₂ c₂ w)
counted_seat b b₁ b₂ c c₁ c₂ u v w count book caller book₂ caller₂ begins more h = record {
  seen = begun_by b b₁ b₂ c c₁ c₂ u v w book caller book₂ caller₂ begins more;
  pairs = h.pairs;
  read = h.reads.read;
  count_is = h.count_is;
}

-- where the map has the same pairs throughout
pub exact : (k n : Known) (count : ℕ) (pairs : Pairs ℕ) → HasCounted k count n → IsMap pairs → ((m : Moment) → IsBetween k.seen n.seen m → m.pairs ≡ pairs) → count ≡ length pairs
exact k n count pairs h map stays = h.count_is ∙ ap (λ (ps : Pairs ℕ). length ps) (same_from_lookups 0 (2 ^ 64) 0 (2 ^ 64) h.pairs pairs h.read.ascend map same)
  where
    old : StartsWith h.seen.start.seen k.seen
    old = (h.seen.begun.between ++ began k.caller ∷ [], h.seen.begun.seen ∙ append_assoc k.seen h.seen.begun.between (began k.caller ∷ []))

    earlier : (key : ℕ) → key < 2 ^ 64 → IsBetween k.seen n.seen (h.read.moment key)
    earlier key low = let b = h.read.between key (omega arith) low in (b.0, starts_then k.seen h.seen.start.seen (h.read.moment key).history old b.1, b.2)

    same : (key : ℕ) → lookup h.pairs key ≡ lookup pairs key
    same key =
        elim (cases_lt key (2 ^ 64)) [
          | inl low ↦ h.read.value key (omega arith) low ∙ ap (λ (ps : Pairs ℕ). lookup ps key) (stays (h.read.moment key) (earlier key low))
          | inr high ↦ lookup-above 0 (2 ^ 64) h.pairs key h.read.ascend high ∙ sym (lookup-above 0 (2 ^ 64) pairs key map high)
        ]
