use Rattle.std.proofs.Common.{◌≡◌, ◌∷◌, [], decimal}
use Rattle.text_lines.specs.inner.Words.{words_left}
use Rattle.text_schedule.proofs.EntryLemmas.{no_range}
use Rattle.text_schedule.proofs.entry.range_of.Goals as goal

pub returns-in_err-limit : goal.returns-in_err-limit
returns-in_err-limit c =
    rw c.from_residual-in_err-limit.ensures (
    no_range (words_left c.args.words) (λ start end limit first second fits words.
    let third : words_left c.next_number-2.new.self ≡ decimal limit ∷ [] = cc (words, c.in_ok-start.ensures.found, c.in_ok-end.ensures.found) in
    c.in_err-limit.ensures.none limit [] fits third)
    )
