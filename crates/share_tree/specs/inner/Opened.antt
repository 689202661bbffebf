-- The seat of a number after the first event of a call, and the event's outcome.
use Rattle.spec_olc.specs.declared.types.Outcome.{Outcome}
use Rattle.spec_olc.specs.declared.types.Outcome.TheVariants.{Ask, Decided}
use Rattle.share_tree.specs.declared.opened.Opened.{Opened}
use Rattle.share_tree.specs.declared.opened.Opened.TheVariants.{Over, Asks}
use Rattle.share_tree.specs.declared.seat.CallSeat.{CallSeat}
use Rattle.share_tree.specs.declared.seat.CallSeat.TheVariants.{Ready}

module _ {P : Type 0} where
  abbrev pub seat_opened : Opened P → CallSeat P
  seat_opened (Over reply) = Ready
  seat_opened (Asks seat old) = seat

  abbrev pub outcome_opened : Opened P → Outcome P
  outcome_opened (Over reply) = Decided reply
  outcome_opened (Asks seat old) = Ask old
