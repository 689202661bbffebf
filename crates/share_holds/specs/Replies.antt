-- The reply of an attempt at a call, if it has one.
use Rattle.std.specs.Prelude.{Option, Some, None, Result, Ok, Err}
use Rattle.spec_olc.specs.declared.types.Reply.{Reply}
use Rattle.share_holds.specs.declared.tried.Tried.{Tried}
use Rattle.share_holds.specs.declared.tried.Tried.TheVariants.{Replied}

module _ {P : Type 0} where
  abbrev pub reply_tried : Tried P → Option (Reply P)
  reply_tried (Replied reply) = Some reply
  reply_tried _ = None

  abbrev pub reply_got : {E : Type 0} → Result (Reply P) E → Option (Reply P)
  reply_got (Ok reply) = Some reply
  reply_got (Err e) = None
