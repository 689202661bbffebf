-- Threads may share a seat, which then lets them enter.
use denote.RattleType.{RattleType}
use denote.Param.Send.{IsSync, sendable}
use denote.Struct.Struct.{Struct}
use denote.Struct.Owning.{shape}
use Rattle.word_book.specs.declared.seat.Rule.{Ghosts}
use Rattle.word_book.specs.contracts.seat.Seat.{the_row, the_type}
use Rattle.word_book.proofs.Fields.{shows_keyless}

pub sync : (V P : RattleType) (g : Ghosts P.Denot V.Denot) → IsSync (the_row V P g)
sync V P g =
    let fields : IsSync (Struct (shape (the_type V P g))) = search sendable depth 20 in
    record { shared = λ s b o κ. (fields.shared (tt, tt) b o κ, shows_keyless V.coded.code g.holds s.book κ) }
