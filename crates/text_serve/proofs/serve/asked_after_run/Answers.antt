use Rattle.std.proofs.Common.{◌≡◌, ℕ, List, [], ◌∷◌, map, string_bytes, codes, decimal, ap, ◌∙◌, rules, arith}
use Rattle.text_serve.proofs.Items.{two_items}
use Rattle.text_serve.proofs.serve.asked_after_run.Goals as goal

pub returns-in_ok-number-in-len2-clause-some : goal.returns-in_ok-number-in-len2-clause-some
returns-in_ok-number-in-len2-clause-some c =
    let word = string_bytes c.word-item-then-words-lt3.result in
    let limit = string_bytes c.limit-item.result in
    let words : map string_bytes c.args.words.now ≡ word ∷ limit ∷ [] =
    ap (map string_bytes) (two_items _ _ _ (omega arith) c.word-item-then-words-lt3.is c.limit-item.is) in
    let stats : word ≡ codes "--stats" = search rules in
    let number : limit ≡ decimal c.in_ok-number-in-len2.field-0 = search rules in
    let same = words ∙ ap (λ w. w ∷ limit ∷ []) stats ∙ ap (λ w. codes "--stats" ∷ w ∷ []) number in
    (ap (λ (ws : List (List ℕ)). codes "run" ∷ ws) same, c.in_ok-number-in-len2.ensures.range)
