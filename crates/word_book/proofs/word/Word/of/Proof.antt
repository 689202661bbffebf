-- `of` puts the part of the first right beside a new word.
use Rattle.word_book.proofs.Walks.{ℕ, ◌+◌, ◌-◌, ◌<◌, List, [], ◌∷◌, refl, lit<, a_type, dcons, dnil, named, Val, vptr, inst_fn, SProp, Fml, ftrue, fsep, flft, ‵, raw, ◌⊛◌, given, ◌$◌, ◌∵◌, !, qed, by, move, keep, drop, split, fsplit, fsplit3, fjoin, fjoin3, learn, use1, feq_i, lit, no_more, and_then, returns, enter, alloc_all, pass_all, free_all, look_at, get, sets, agg, fact, tables, RattleType, owns, types_at, plain, mut_vals, mut_Tells, nothing, opens, closes, param, bounded, Stays, stay_ref, walk_of, Goes-ref, proved}
use Rattle.word_book.specs.Book.{Name, name}
use Rattle.word_book.specs.inner.Owned.{part, pens_own}
use Rattle.word_book.specs.contracts.seat.Pens.{the_row as Pens}
use Rattle.word_book.proofs.Cells.{one_right}
use Rattle.word_book.proofs.Fields.{ends, three_facts, word_val, word_made}
use Rattle.word_book.proofs.Held as held
use Rattle.word_book.specs.contracts.word.Word.of.{ended, clauses}
use Rattle.word_book.specs.contracts.word.Word.of.Key.{name as #self}
use Rattle.word_book.proofs.word.Word.of.Statement.{statement}
use Rattle.word_book.proofs.word.Word.of.Code as code

pub of_spec : {M : Type 1} → statement M
of_spec 𝓤 𝓛 𝓜 𝓡 wired V P _ _ g d _ =
    let 𝓣 = tables 𝓤 𝓛.H 𝓜 𝓡 𝓡.env in let V' : RattleType = param 0 V in let P' : RattleType = param 1 P in let Word : RattleType = held.Word V' P' g in
    let T = ended V P g d in let c = clauses V P g d 𝓛 𝓜.mem 𝓡.returns in let inst = bounded (a_type ∷ a_type ∷ []) (V, (P, tt)) (dcons d dnil) in let fn = inst_fn inst code.function in
    let stayed : Stays T.signature.params T.kept = (stay_ref (0 ∷ []) tt (plain (λ _. Pens)), tt) in
    proved 𝓛 T stayed c 𝓜 𝓡 (Goes-ref 𝓛 3 0 tt (plain (λ _. Pens)), tt) (#self inst) fn (code.unfolded 𝓤 𝓛.H 𝓜 𝓡 wired (V, (P, tt)) d)
    (λ κs. (mut_vals, tt)) (λ κs. (mut_Tells (named 0) κs.0 Pens, tt)) (λ κs qs bounds a ghosts are.
    let p = a.0.now in let pb : ℕ = a.0.ref_ptr.0 in let po : ℕ = a.0.ref_ptr.1 in let w : Name = name p.next p.book in let left : Pens.Denot = record { marker = record {}; book = p.book; next = p.next + 1; left = p.left - 1 } in
    let y : (walk_of 𝓛 T stayed c).Ghost = ((κs, qs, bounds, a, (vptr pb po ∷ [], tt)), ghosts) in let Post : Val → SProp 𝓤 = (walk_of 𝓛 T stayed c).post y in
    let others : Fml = fsep (flft κs.1.0 qs.1.0) (fsep (flft κs.1.1.0 qs.1.1.0) ftrue) in let tokens : Fml = fsep (flft κs.0 qs.0) others in
    qed 𝓛 ((‵ tokens ⊛ ‵ (owns (types_at T.signature.params κs) a y.0.4)) ∷ raw (fact 𝓤 _) ∷ raw (fact 𝓤 _) ∷ given (0 < p.left) (‵ ftrue) ∷ []) ∵
    keep ! (3 ∷ 0 ∷ []) $ learn ! (λ asked. drop ! $ split ! $ fsplit ! $ move ! (2 ∷ []) $ fsplit ! $ fsplit3 ! $ keep ! (1 ∷ 2 ∷ 4 ∷ 5 ∷ []) $
    enter ! 𝓣.C 𝓣.Λ fn (vptr pb po ∷ []) Post $ alloc_all ! (λ l. pass_all ! refl ((tt, tt), tt) $
    opens ! tt Pens pb po (λ vs. move ! (1 ∷ []) $ fsplit ! $ move ! (1 ∷ []) $
    use1 𝓛 (‵ (part p.book.words_name p.next 0) ⊛ ‵ (pens_own p.book.words_name left.next left.left)) (one_right 𝓛 p.book.words_name p.next p.left asked) $ split ! $
    use1 𝓛 (‵ (Word.own_val w (word_val 0 ∷ []))) (word_made 𝓛 V' P' g w 0 (lit< tt)) $
    -- [the word; the other rights; the plain part; the place; the open borrow, in three entries; the other tokens]
    move ! (2 ∷ 1 ∷ []) $ fjoin ! $ move ! (2 ∷ 0 ∷ 3 ∷ 4 ∷ 5 ∷ []) $ closes ! tt Pens left vs pb po $
    sets ! (agg ! (no_more !)) refl (tt, tt) $ sets ! (agg ! (and_then ! (lit ! tt) (and_then ! (get ! refl) (no_more !)))) refl (tt, (record { fits = lit< tt }, (tt, tt))) $
    returns ! (look_at ! 0 refl) $ free_all ! refl $
    -- [the rights, in two entries; their token; the word; the other tokens]
    move ! (2 ∷ 4 ∷ []) $ fjoin ! $ nothing ! $ feq_i ! (List Val) (vptr pb po ∷ []) (vptr pb po ∷ []) refl $ move ! (0 ∷ 3 ∷ 4 ∷ []) $ fjoin3 ! $ fjoin ! $ keep ! (1 ∷ 0 ∷ 2 ∷ []) $
    by ! (ends 𝓛 T stayed c y (word_val 0) w (left, tt) (tt, tt) (three_facts 𝓛 refl refl (refl, refl)))))))
