-- What a seat learns at one moment of all keys.
use Rattle.std.specs.Prelude.{◌≡◌, ℕ, ◌^◌, nat_eq, List}
use Rattle.spec_map.specs.Map.{Pairs, lookup, Rises}
use Rattle.share_rule.specs.History.{IsHistory}
use Rattle.share_rule.specs.inner.Rule.{HasSeen}
use Rattle.live_nodes.specs.Seats.{Place}
use Rattle.live_nodes.specs.Levels.{Covers, Spot}
use Rattle.live_nodes.specs.Views.{View, view_of}
use Rattle.live_copies.specs.inner.Told.{Tells}

-- THE WHOLE HISTORY is seen, and the map that it leads to: what the locked nodes tell is so there.
pub record HasWhole (caller : ℕ) (v w : View) : Type 0 where
  pub is : w ≡ view_of w.seen v.met v.own
  pub fits : HasSeen w.seen caller v.seen
  pub pairs : Pairs ℕ
  pub legal : IsHistory nat_eq w.seen pairs
  pub rises : Rises 0 (2 ^ 64) pairs
  pub same : (n : ℕ) (a : Spot) (m : Pairs ℕ) → Tells v.own n a m → (k : ℕ) → Covers a.shape k → lookup pairs k ≡ lookup m k

abbrev pub LearnsWhole : ℕ → View → ℕ → ℕ → List (ℕ × ℕ) → List Place → View → Type 0
LearnsWhole caller v k word saw ps w = HasWhole caller v w
