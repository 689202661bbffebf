-- A seat may go to another thread, whatever its view is: that exists in proofs alone.
use denote.RattleType.{RattleType}
use denote.Param.Send.{IsSend}
use Rattle.word_book.specs.declared.seat.Rule.{Ghosts}
use Rattle.word_book.specs.contracts.seat.Seat.{the_row}
use Rattle.word_book.proofs.Fields.{seat_keyless}

pub send : (V P : RattleType) (g : Ghosts P.Denot V.Denot) → IsSend (the_row V P g)
send V P g = record { owned = λ s vs. ((λ vss. (tt, ((λ uss. (tt, tt)), tt))), seat_keyless V.coded.code g.holds s.book s.id s.view); leaving = λ k f vs. tt }
