use Rattle.std.proofs.Common.{◌≡◌, ℕ, List, [], ◌∷◌, map, string_bytes, codes, ap, ◌∙◌, rules, arith}
use Rattle.text_serve.proofs.Items.{one_item}
use Rattle.text_serve.proofs.serve.asked_after_trace.Goals as goal

pub returns-in-len1-clause-some : goal.returns-in-len1-clause-some
returns-in-len1-clause-some c =
    let word = string_bytes c.word-item.result in
    let words : map string_bytes c.args.words.now ≡ word ∷ [] = ap (map string_bytes) (one_item _ _ (omega arith) c.word-item.is) in
    let content : word ≡ codes "--content" = search rules in
    ap (λ (ws : List (List ℕ)). codes "trace" ∷ ws) (words ∙ ap (λ w. w ∷ []) content)
