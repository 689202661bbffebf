-- By what the tree has from the start on.
use Rattle.std.proofs.Common.{◌≡◌, [], ◌∷◌, ap, arith, refl, sym, ◌∙◌}
use Rattle.std.specs.Prelude.{IfNone, Option, None, Some}
use Rattle.congee_tree.specs.Bulk.{unread_pairs}
use Rattle.spec_map.specs.Map.{Pairs}
use Rattle.face_payloads.proofs.Left.{first_left, last_left, none_left, past_left}
use Rattle.face_payloads.proofs.congee_arc.iter.next_pair.Goals as goal
use Rattle.face_payloads.proofs.congee_arc.iter.next_pair.Goals.{then-key-last-2, else-key-last-2}

if_none : {A P : Type 0} (r : Option A) → P → IfNone r P
if_none None p = p
if_none (Some x) p = tt

pub returns-in_err-key-clause-none : goal.returns-in_err-key-clause-none
returns-in_err-key-clause-none g c =
    let m = c.args.tree.now.pairs in let was : c.args.unread.now ≡ Some (c.in_ok-start.start, c.in_ok-start.last) = c.in_ok-start.was in
    let left : unread_pairs m c.args.unread.now ≡ [] = ap (λ u. unread_pairs m u) was ∙ none_left m c.in_ok-start.start c.in_ok-start.last c.law_ordered.ensures c.in_err-key.ensures in
    let both : (unread_pairs m c.args.unread.now ≡ []) × ◌≡◌ {A = Pairs g.row.P.Denot} [] [] = (left, refl) in
    if_none c.from_residual-in_err-key.result both

pub returns-then-key-last-clause-none : goal.returns-then-key-last-clause-none
returns-then-key-last-clause-none g c =
    let m = c.args.tree.now.pairs in let was : c.args.unread.now ≡ Some (c.in_ok-start.start, c.in_ok-start.last) = c.in_ok-start.was in (
      ap (λ u. unread_pairs m u) was
          ∙ past_left m c.in_ok-start.start c.in_ok-start.last c.in_ok-key.key c.in_ok-key.payload.now c.law_ordered.ensures c.in_ok-key.ensures (omega (arith, c.if-key-last.true)),
      refl,
    )

pub returns-clause-some : goal.returns-clause-some
returns-clause-some g c =
    let m = c.args.tree.now.pairs in let was : c.args.unread.now ≡ Some (c.in_ok-start.start, c.in_ok-start.last) = c.in_ok-start.was in
    let k = c.in_ok-key.key in let p = c.in_ok-key.payload.now in
    ap (λ u. unread_pairs m u) was ∙ elim c.if-key-last-2.branch [
      | then-key-last-2 w ↦
          first_left m c.in_ok-start.start c.in_ok-start.last k p c.law_ordered.ensures c.in_ok-key.ensures (omega (arith, c.if-key-last.false))
          ∙ ap (λ u. (k, p) ∷ unread_pairs m u) (sym w.unread-is)
      | else-key-last-2 w ↦
          last_left m c.in_ok-start.start c.in_ok-start.last k p c.law_ordered.ensures c.in_ok-key.ensures (omega (arith, c.if-key-last.false, w.if-key-last-2.false))
          ∙ ap (λ u. (k, p) ∷ unread_pairs m u) (sym w.unread-is)
    ]
