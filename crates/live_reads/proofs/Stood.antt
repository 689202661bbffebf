-- Where a call has come to, as its seat comes to know more.
use Rattle.std.proofs.Common.{ℕ, zero, suc, ◌≡◌, ◌/◌, ◌<◌, ◌≤◌, Option, Some, None, IfSome, ap, sym, ◌∙◌, subst, arith}
use Rattle.live_nodes.specs.Seats.{Place, SeatView, IsIn}
use Rattle.word_book.specs.Book.{Book}
use Rattle.live_nodes.specs.Levels.{up, Spot, place_at}
use Rattle.live_nodes.specs.Views.{View}
use Rattle.live_reads.specs.Paths.{Names, IsOpen, Keeps}
use Rattle.live_reads.specs.Positions.{KnowsPosition, KnowsLast}
use Rattle.live_reads.specs.declared.descend.Position.{Position}
use Rattle.live_reads.specs.declared.last_leaf.LastLeaf.{LastLeaf}
use Rattle.live_reads.specs.declared.path.Opened.{Opened}
use Rattle.live_reads.proofs.Finds.{names_kept}

abbrev Seen : Type 0
Seen = SeatView View

abbrev position : ℕ → ℕ → ℕ → ℕ → Position
position a l n h = record { above = a; level = l; name = n; height = h }

module _ (v w : Seen) (places : (p : Place) → IsIn p v.places → IsIn p w.places) (met : (a : Spot) → IsIn a v.client.met → IsIn a w.client.met) where
  names_known : (name key height : ℕ) → Names v name key height → Names w name key height
  names_known name key height n = record {
    spot = n.spot;
    met = met n.spot n.met;
    placed = places (place_at n.spot) n.placed;
    named = n.named;
    high = n.high;
    covers = n.covers;
  }

  pub position_known : (key : ℕ) (s : Position) → KnowsPosition v key s → KnowsPosition w key s
  position_known key s e = record {
    named = names_known s.name key s.height e.named;
    upper = λ low. names_known s.above key s.level (e.upper low);
    lower = e.lower;
    level = e.level;
    low = e.low;
    high = e.high;
  }

pub position_kept : (v w : Seen) (key : ℕ) (s : Position) → Keeps v w → KnowsPosition v key s → KnowsPosition w key s
position_kept v w key s k = position_known v w k.places k.met key s

-- at the root
pub position_first : (v : Seen) (key name : ℕ) → Names v name key 8 → KnowsPosition v key (position name 8 name 8)
position_first v key name n = record {
  named = n;
  upper = λ low. absurd (omega (arith, low));
  lower = λ low. low;
  level = omega arith;
  low = omega arith;
  high = omega arith;
}

-- further down
pub position_below : (v w : Seen) (key : ℕ) (s : Position) (name height : ℕ) → Keeps v w → KnowsPosition v key s → Names w name key height → 1 ≤ height → height < s.height → KnowsPosition w key (position s.name s.height name height)
position_below v w key s name height k e n some_height lower = record {
  named = n;
  upper = λ _. names_kept v w s.name key s.height k e.named;
  lower = λ _. lower;
  level = e.high;
  low = some_height;
  high = (let h = e.high in omega (arith, h, lower));
}

pub last_known : (v w : Seen) (l : LastLeaf) → ((p : Place) → IsIn p v.places → IsIn p w.places) → ((a : Spot) → IsIn a v.client.met → IsIn a w.client.met) → KnowsLast v l → KnowsLast w l
last_known v w l places met k = λ some. (position_known v w places met l.key l.position (k some).0, (k some).1)

pub last_kept : (v w : Seen) (l : LastLeaf) → Keeps v w → KnowsLast v l → KnowsLast w l
last_kept v w l k known = last_known v w l k.places k.met known

-- at the leaf of another key that differs in its lowest byte alone
up_beside : (h k l : ℕ) → 1 ≤ h → k / 256 ≡ l / 256 → up h k ≡ up h l
up_beside zero k l some same = absurd (omega (arith, some))
up_beside (suc zero) k l some same = same
up_beside (suc (suc h)) k l some same = ap (λ n. n / 256) (up_beside (suc h) k l (omega arith) same)

names_beside : (v : Seen) (name k l height : ℕ) → 1 ≤ height → k / 256 ≡ l / 256 → Names v name k height → Names v name l height
names_beside v name k l height some same n = record {
  spot = n.spot;
  met = n.met;
  placed = n.placed;
  named = n.named;
  high = n.high;
  covers = sym (up_beside n.spot.shape.height k l (subst (λ h. 1 ≤ h) (sym n.high) some) same) ∙ n.covers;
}

pub position_beside : (v : Seen) (k l : ℕ) (s : Position) → k / 256 ≡ l / 256 → KnowsPosition v k s → KnowsPosition v l s
position_beside v k l s same e = record {
  named = names_beside v s.name k l s.height e.low same e.named;
  upper = λ low. (let lower = e.lower low in let some = e.low in names_beside v s.above k l s.level (omega (arith, lower, some)) same (e.upper low));
  lower = e.lower;
  level = e.level;
  low = e.low;
  high = e.high;
}

pub opened_last : (o : Option Opened) (v : Seen) (b : Book) (key : ℕ) (s : Position) → KnowsPosition v key s → s.height ≡ 1 → IfSome o (λ here. IsOpen v b here.words.now here.taken s.name key 1)
    → IfSome o (λ here. KnowsPosition v key s × (s.height ≡ 1) × IsOpen v b here.words.now here.taken s.name key 1)
opened_last None v b key s known one there = tt
opened_last (Some here) v b key s known one there = (known, one, there)

-- a leaf, below the root
pub position_below_root : (v : Seen) (key top name : ℕ) → Names v top key 8 → Names v name key 1 → KnowsPosition v key (position top 8 name 1)
position_below_root v key top name above n = record {
  named = n;
  upper = λ _. above;
  lower = λ _. omega arith;
  level = omega arith;
  low = omega arith;
  high = omega arith;
}
