-- A key is removed from the map of its shard.
use Rattle.std.proofs.Common.{◌≡◌, ℕ, true, List, sym, ap, ◌∙◌, ne_eqb}
use Rattle.std.specs.Prelude.{Option, None}
use Rattle.share_parts.specs.Parts.{kept}
use Rattle.share_parts.proofs.OnKeys.{ascends_answer}
use Rattle.share_parts.proofs.Parts.{kept-without, lookup-kept_not}
use Rattle.share_shards.specs.Held.{keys_at}
use Rattle.share_shards.specs.Lock.{LockView}
use Rattle.share_visits.specs.Visits.{Removes}
use Rattle.share_visits.specs.Whole.{Contains, shard_of}
use Rattle.share_visits.specs.declared.part.Part.{Part}
use Rattle.share_visits.specs.declared.visits.Remove.{Remove}
use Rattle.share_visits.specs.inner.One.{VisitedOne}
use Rattle.spec_map.proofs.MapLaws.{without-absent}
use Rattle.spec_map.specs.Map.{Pairs, without}

pub removed_key : {M E : Type 0} (pairs : M → Pairs ℕ) (limit_of : M → ℕ) (lock : LockView) (shard key : ℕ) (all : Pairs ℕ) (v w : Remove) (before after : List E) (slots later : List (ℕ × Option (Part M))) → Contains pairs limit_of lock all slots
    → shard ≡ shard_of lock.table.slots key → v.key ≡ key → VisitedOne pairs limit_of (Removes pairs limit_of) lock shard all v before w after slots later → Contains pairs limit_of lock (without all key) later
removed_key pairs limit_of lock shard key all v w before after slots later c mine is t =
    t.leaves (without all key) (ascends_answer (λ a b. true) all key None c.ordered)
    (kept-without (keys_at (shard_of lock.table.slots) shard) all key c.ordered
    ∙ (ap (λ (l : Pairs ℕ). without l key) t.contains ∙ (ap (λ (k : ℕ). without (pairs t.part.map) k) (sym is) ∙ sym t.visited.left)))
    (t.visited.limit ∙ t.limit)
    (λ i ne.
    kept-without (keys_at (shard_of lock.table.slots) i) all key c.ordered
    ∙ without-absent (kept (keys_at (shard_of lock.table.slots) i) all) key (lookup-kept_not (keys_at (shard_of lock.table.slots) i) all key (ne_eqb (shard_of lock.table.slots key) i (λ at. ne (sym at ∙ sym mine)))))
