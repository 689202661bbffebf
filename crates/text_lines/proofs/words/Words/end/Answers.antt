use Rattle.std.proofs.Common.{sym, ap, ◌∙◌}
use Rattle.std.specs.Option.{option_copied}
use Rattle.text_lines.specs.inner.Words.{words_in}
use Rattle.text_lines.proofs.WordLemmas.{words_some}
use Rattle.text_lines.proofs.words.Words.end.Goals as goal

pub returns-in-Some : goal.returns-in-Some
returns-in-Some c none = words_some c.in-Some.field-0.now (sym (ap (λ o. words_in (option_copied o)) c.in-Some.is) ∙ none)
