-- What a visit of one shard finds in it, of the map.
use Rattle.std.proofs.Common.{◌≡◌, ℕ, ◌+◌, ◌≤◌, Bool, List, sym, ap, subst, ◌∙◌, eq-eqb, arith}
use Rattle.share_parts.specs.Parts.{kept}
use Rattle.share_parts.proofs.Parts.{between-kept}
use Rattle.share_shards.specs.Held.{keys_at}
use Rattle.share_visits.specs.Whole.{shard_of}
use Rattle.share_visits.specs.Written.{AreWritten, listed}
use Rattle.share_visits.specs.declared.part.Part.{Part}
use Rattle.spec_map.specs.Map.{Pairs, between}

-- a run of keys of one shard
pub listed_run : {M E : Type 0} (pairs : M → Pairs ℕ) (entry : ℕ → ℕ → E) (count shard : ℕ) (all : Pairs ℕ) (part : Part M) (start last : ℕ) (back : Bool) (before after : List E) (n : ℕ)
    → kept (keys_at (shard_of count) shard) all ≡ pairs part.map → ((k : ℕ) → start ≤ k → k ≤ last → shard_of count k ≡ shard)
    → AreWritten entry (listed back (between (pairs part.map) start (last + 1))) before n after → AreWritten entry (listed back (between all start (last + 1))) before n after
listed_run pairs entry count shard all part start last back before after n contains one written =
    let same : between (pairs part.map) start (last + 1) ≡ between all start (last + 1) =
    ap (λ (l : Pairs ℕ). between l start (last + 1)) (sym contains)
    ∙ between-kept (keys_at (shard_of count) shard) all start (last + 1) (λ k from to. eq-eqb (shard_of count k) shard (one k from (omega (arith, to))))
    in
    subst (λ (l : Pairs ℕ). AreWritten entry (listed back l) before n after) same written
