use Rattle.std.proofs.Common.{◌≡◌, ℕ, List, ◌++◌, ◌∷◌, [], ◌∙◌, sym, ap, length, length-append, arith, w64}
use Rattle.std.specs.Int.{from_be_bytes}
use Rattle.node_table.proofs.KeyLaws.{key_number-be_bytes}
use Rattle.olc_scan.proofs.course.leaf_key.Goals as goal

pub returns : goal.returns
returns c =
    let full : length (c.args.prefix.now ++ c.args.byte ∷ []) ≡ 8 = length-append c.args.prefix.now (c.args.byte ∷ []) ∙ omega (arith, c.requires) in
    c.from_be_bytes.ensures ∙ ap (λ (t : List ℕ). from_be_bytes w64 (t ++ c.args.byte ∷ [])) c.copy_from_slice.ensures.after ∙ sym (key_number-be_bytes (c.args.prefix.now ++ c.args.byte ∷ []) full)
