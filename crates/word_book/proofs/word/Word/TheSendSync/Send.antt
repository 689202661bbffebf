-- A word may go to another thread.
use denote.RattleType.{RattleType}
use denote.Param.Send.{IsSend}
use Rattle.word_book.specs.declared.seat.Rule.{Ghosts}
use Rattle.word_book.specs.contracts.word.Word.{the_row}
use Rattle.word_book.proofs.Fields.{beside_keyless}

pub send : (V P : RattleType) (g : Ghosts P.Denot V.Denot) → IsSend (the_row V P g)
send V P g = record { owned = λ w vs. ((λ _. tt), λ n. ((λ vss. (tt, ((tt, tt), ((λ uss. (tt, tt)), tt)))), beside_keyless w n)); leaving = λ k w vs. tt }
