-- HOW THE CONTENT CHANGES, as a reader sees it: it stays, has one pair more or another value, or one pair less.
use Rattle.std.proofs.Common.{◌≡◌, ℕ, ◌^◌, ◌<◌, Some}
use Rattle.spec_map.specs.Map.{Pairs, lookup, put, without}
use Rattle.spec_olc.specs.Content.{IsContent}
use Rattle.spec_olc.specs.State.{State}
use Rattle.olc_state.specs.inner.Tables.{IsPlaced}
use Rattle.olc_state.specs.inner.Turns.{ShowsNodes}
use Rattle.olc_state.specs.inner.World.{NodeMap}
use Rattle.olc_state.proofs.Reaching.{keeps_stands, stands_keeps}
use Rattle.olc_laws.proofs.Maps.{IsMapOf, map_same, map_put, map_without}
use Rattle.olc_laws.proofs.Pairs.{SamePairs, PutsPair, TakesPair}

module _ {M : Type 0} (t : NodeMap M) (root : ℕ) (s : State M) (placed : IsPlaced t root) (shows : ShowsNodes t root s) where
  -- the content is the map that the table keeps
  pub content_map : (m : Pairs M) → IsContent s m → IsMapOf t m
  content_map m c = record {
    map = c.map;
    pairs = λ key v. (
      (λ (e : lookup m key ≡ Some v). let h = stands_keeps t root s placed shows key v ((c.pairs key v).0 e) in (h.1, h.0)),
      (λ h. (c.pairs key v).1 (keeps_stands t root s placed shows key v h.0 h.1)),
    );
  }

  pub map_content : (m : Pairs M) → IsMapOf t m → IsContent s m
  map_content m is = record {
    map = is.map;
    pairs = λ key v. (
      (λ (e : lookup m key ≡ Some v). let h = (is.pairs key v).0 e in keeps_stands t root s placed shows key v h.0 h.1),
      (λ h. let k = stands_keeps t root s placed shows key v h in (is.pairs key v).1 (k.1, k.0)),
    );
  }

module _ {M : Type 0} (t t' : NodeMap M) (root : ℕ) (s s' : State M) (placed : IsPlaced t root) (placed' : IsPlaced t' root) (shows : ShowsNodes t root s) (shows' : ShowsNodes t' root s') where
  pub content_same : SamePairs t t' → (m : Pairs M) → IsContent s m → IsContent s' m
  content_same same m c = map_content t' root s' placed' shows' m (map_same same (content_map t root s placed shows m c))

  pub content_put : (key : ℕ) (v : M) → key < 2 ^ 64 → PutsPair t t' key v → (m : Pairs M) → IsContent s m → IsContent s' (put m key v)
  content_put key v small puts m c = map_content t' root s' placed' shows' (put m key v) (map_put root placed' small puts (content_map t root s placed shows m c))

  pub content_without : (key : ℕ) → TakesPair t t' key → (m : Pairs M) → IsContent s m → IsContent s' (without m key)
  content_without key takes m c = map_content t' root s' placed' shows' (without m key) (map_without takes (content_map t root s placed shows m c))
