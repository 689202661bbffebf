-- What the content has at a key, by what linked leaves keep.
use Rattle.std.proofs.Common.{◌≡◌, ℕ, ◌^◌, ◌<◌, Option, Some, None, refl}
use Rattle.spec_map.specs.Map.{Pairs, lookup}
use Rattle.spec_olc.specs.Calls.{bytes_of}
use Rattle.spec_olc.specs.Content.{IsContent, IsCurrent}
use Rattle.spec_olc.specs.State.{State}
use Rattle.olc_state.specs.inner.Tables.{IsPlaced, Keeps}
use Rattle.olc_state.specs.inner.Turns.{ShowsNodes}
use Rattle.olc_state.specs.inner.World.{NodeMap}
use Rattle.olc_state.proofs.Reaching.{keeps_stands, stands_keeps}

found_at : {X : Type 0} (x : Option X) → ((v : X) → x ≡ Some v → ⊥) → x ≡ None
found_at None h = refl
found_at (Some v) h = absurd (h v refl)

-- the current value of a key is what the content has there
pub current_there : {M : Type 0} (s : State M) (m : Pairs M) → IsContent s m → (key : ℕ) (value : Option M) → IsCurrent s key value → lookup m key ≡ value
current_there s m content key (Some v) h = (content.pairs key v).1 h
current_there s m content key None h = found_at (lookup m key) (λ v e. h v ((content.pairs key v).0 e))

module _ {M : Type 0} (t : NodeMap M) (root : ℕ) (s : State M) (placed : IsPlaced t root) (shows : ShowsNodes t root s) where
  -- that of a key that a linked leaf keeps, and that of a key that none keeps
  pub kept_now : (key : ℕ) (v : M) → key < 2 ^ 64 → Keeps t (bytes_of key) v → IsCurrent s key (Some v)
  kept_now key v small keeps = keeps_stands t root s placed shows key v small keeps

  pub none_now : (key : ℕ) → ((v : M) → Keeps t (bytes_of key) v → ⊥) → IsCurrent s key None
  none_now key none v there = none v (stands_keeps t root s placed shows key v there).0

module _ {M : Type 0} (t : NodeMap M) (root : ℕ) (s : State M) (placed : IsPlaced t root) (shows : ShowsNodes t root s) (m : Pairs M) (content : IsContent s m) where
  -- a key that a linked leaf keeps has its value
  pub kept_there : (key : ℕ) (v : M) → key < 2 ^ 64 → Keeps t (bytes_of key) v → lookup m key ≡ Some v
  kept_there key v small keeps = (content.pairs key v).1 (keeps_stands t root s placed shows key v small keeps)

  -- and the other way round
  pub there_kept : (key : ℕ) (v : M) → lookup m key ≡ Some v → Keeps t (bytes_of key) v × (key < 2 ^ 64)
  there_kept key v there = stands_keeps t root s placed shows key v ((content.pairs key v).0 there)

  -- a key that no linked leaf keeps is absent
  pub none_there : (key : ℕ) → ((v : M) → Keeps t (bytes_of key) v → ⊥) → lookup m key ≡ None
  none_there key none = found_at (lookup m key) (λ v e. none v (there_kept key v e).0)
