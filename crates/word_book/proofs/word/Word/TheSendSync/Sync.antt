-- Threads may share a word: each step is atomic.
use denote.RattleType.{RattleType}
use denote.Param.Send.{IsSync}
use Rattle.core.proofs.atomic.Sent.{chain-Keyless}
use Rattle.word_book.specs.declared.seat.Rule.{Ghosts}
use Rattle.word_book.specs.contracts.word.Word.{the_row}
use Rattle.word_book.proofs.Fields.{beside_keyless}

pub sync : (V P : RattleType) (g : Ghosts P.Denot V.Denot) → IsSync (the_row V P g)
sync V P g = record { shared = λ w b o κ t. ((λ νs. chain-Keyless νs κ t.0), ((λ _. tt), λ n. (tt, beside_keyless w n))) }
