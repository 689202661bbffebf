use Rattle.std.proofs.Common.{◌≡◌, [], ◌∷◌, length, map, string_bytes, codes, ap, ◌∙◌, rules}
use Rattle.text_serve.proofs.Items.{no_items}
use Rattle.text_serve.proofs.serve.asked_by.Goals as goal

pub returns-then-is_empty-clause-some : goal.returns-then-is_empty-clause-some
returns-then-is_empty-clause-some c =
    let name = string_bytes c.in_ok-name.name.now in
    let words : map string_bytes c.args.words.now ≡ name ∷ map string_bytes c.in_ok-name.others.now = ap (map string_bytes) c.in_ok-name.ensures.cases.0 in
    let same : name ≡ codes "schedule" = search rules in
    let none : length c.in_ok-name.others.now ≡ 0 = search rules in
    words ∙ ap (λ ws. name ∷ map string_bytes ws) (no_items c.in_ok-name.others.now none) ∙ ap (λ n. n ∷ []) same
