-- The rights to make words may go to another thread.
use denote.Param.Send.{IsSend}
use Rattle.word_book.specs.contracts.seat.Pens.{the_row}
use Rattle.word_book.proofs.Fields.{pens_keyless}

pub send : IsSend the_row
send = record { owned = λ p vs. ((λ vss. (tt, ((λ uss. (tt, tt)), tt))), pens_keyless p.book.words_name p.next p.left); leaving = λ k f vs. tt }
