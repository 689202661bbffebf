-- Seats, the numbers for which room is kept, and the call that a caller passes.
use Rattle.std.specs.Prelude.{◌≡◌, ◌≢◌, ℕ, ◌<◌, Bool, true, IsTrue, Option, Some, None, IsSome, ◌⊎◌}
use Rattle.spec_map.specs.Map.{lookup}
use Rattle.spec_olc.specs.Calls.{outline_of}
use Rattle.spec_olc.specs.Lists.{is_in}
use Rattle.spec_olc.specs.State.{State, CallState}
use Rattle.spec_olc.specs.declared.types.Op.{Op}
use Rattle.spec_olc.specs.declared.types.Seen.{Seen}

module _ {M : Type 0} where
  -- call `id` is in flight, with the kind and keys of the call that was passed
  pub record IsHanded (s : State M) (id : ℕ) (op : Op M) : Type 0 where
    pub call : CallState M
    pub in_flight : lookup s.calls id ≡ Some call
    pub same : outline_of op ≡ call.outline

  -- the number is seated, or has a call in flight
  abbrev pub IsTaken : State M → ℕ → Type 0
  IsTaken s id = IsTrue (is_in id s.seats) ⊎ IsSome (lookup s.calls id)

  -- the number is seated exactly if `seated`, and nothing else has changed
  pub record IsReseated (old new : State M) (id : ℕ) (seated : Bool) : Type 0 where
    pub here : is_in id new.seats ≡ seated
    pub others : (other : ℕ) → other ≢ id → is_in other new.seats ≡ is_in other old.seats
    pub rest : new ≡ record old { seats = new.seats }

  -- the least number that wasn't taken is seated
  pub record IsSeating (old new : State M) (id : ℕ) : Type 0 where
    pub free : IsTaken old id → ⊥
    pub least : (lesser : ℕ) → lesser < id → IsTaken old lesser
    pub seats : IsReseated old new id true

  -- what the call has seen, if there is one
  abbrev pub seen_in : Option (CallState M) → Option (Seen M)
  seen_in None = None
  seen_in (Some call) = call.seen
