-- What a caller knows after a hold, and after it met another.
use Rattle.std.proofs.Common.{◌≡◌, ℕ, Bool, List, [], ◌∷◌, refl, sym, subst, append-nil}
use Rattle.atomic_table.specs.Seated.{TableId}
use Rattle.share_works.specs.Made.{IsOnly, KnowsBy}
use Rattle.share_rule.specs.History.{IsLegalHistory}
use Rattle.share_rule.specs.Known.{Known, SeenMore, MadeCalls}
use Rattle.share_shards.specs.inner.SeatView.{ShardSeat}
use Rattle.share_shards.specs.inner.Steps.{HeldBy, SeesMore, known_of}
use Rattle.spec_map.specs.Call.{Operation}
use Rattle.spec_olc.specs.Runs.{same_number}

-- after no call, and after it met another
pub seen_same : {T : Type 0} (same : T → T → Bool) (k : Known T) → IsLegalHistory same k.seen → SeenMore same k k
seen_same same k legal = record { table = refl; caller = refl; legal = legal; seen = ([], sym (append-nil k.seen)); own = refl }

pub seen_more : {T S : Type 0} (same : T → T → Bool) (t t' : TableId) (m m1 n : ShardSeat T S) → t' ≡ t → m1 ≡ m → SeesMore same m1 n → SeenMore same (known_of t m) (known_of t' n)
seen_more {T} {S} same t t' m m1 n is kept more =
    subst (λ (z : ShardSeat T S). SeenMore same (known_of t z) (known_of t' n)) kept
    (record { table = is; caller = more.caller; legal = more.legal; seen = more.seen; own = more.own })

-- after a hold
module _ {S : Type 0} (t t' : TableId) (m n : ShardSeat ℕ S) (is : t' ≡ t) where
  only : (first : Operation ℕ ℕ ℕ) (later : List (Operation ℕ ℕ ℕ)) → MadeCalls same_number (known_of t m) (first ∷ later) (known_of t' n) → IsOnly later first (known_of t m) (known_of t' n)
  only first [] k = record { between = k.between; table = k.table; caller = k.caller; legal = k.legal; seen = k.seen; own = k.own }
  only first (next ∷ later) k = tt

  pub knows_by : (operations : List (Operation ℕ ℕ ℕ)) → HeldBy same_number operations m n → KnowsBy operations (known_of t m) (known_of t' n)
  knows_by [] h = λ i. record { table = is i; caller = h.caller i; seen = h.seen i }
  knows_by (first ∷ later) k =
      let made : MadeCalls same_number (known_of t m) (first ∷ later) (known_of t' n) = record { between = k.between; table = is; caller = k.caller; legal = k.legal; seen = k.seen; own = k.own } in
      (made, only first later made)
