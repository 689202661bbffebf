use Rattle.std.proofs.Common.{◌≡◌, ◌+◌, ◌<◌, length, ap, ◌∙◌, arith}
use Rattle.std.specs.Option.{option_copied}
use Rattle.std.proofs.lemmas.List.{take_rest}
use Rattle.text_lines.specs.inner.Words.{words_in}
use Rattle.text_lines.proofs.WordLemmas.{words_none, words_cut, lacks_from_reads}
use Rattle.text_lines.proofs.words.Words.next_word.Goals as goal

pub returns-then-at-text : goal.returns-then-at-text
returns-then-at-text c =
    let at_end : c.space_or_end-at.result ≡ length c.in_ok-text.text.now = c.if-at-text.true in
    ap (λ o. words_in (option_copied o)) c.in_ok-text.was
    ∙ words_none c.in_ok-text.text.now (lacks_from_reads 32 _ (rw at_end at c.space_or_end-at.ensures.before))

pub returns : goal.returns
returns c =
    let text = c.in_ok-text.text.now in
    let at = c.space_or_end-at.result in
    let below : at < length text = omega (arith, c.space_or_end-at.ensures.within, c.if-at-text.false) in
    rw (take_rest text (at + 1))
    (ap (λ o. words_in (option_copied o)) c.in_ok-text.was ∙ words_cut text at below c.space_or_end-at.ensures.before (c.space_or_end-at.ensures.found below))
