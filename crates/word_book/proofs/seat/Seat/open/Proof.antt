-- A book is made of ghost state alone.
use Rattle.word_book.proofs.Walks.{ℕ, List, [], ◌∷◌, ◌++◌, refl, w64, a_type, dcons, dnil, Val, vint, vstruct, vcons, vnil, of_list, inst_fn, SProp, Fml, ftrue, fsep, feq, flft, ‵, raw, ◌⊛◌, some, given, later, ◌$◌, ◌∵◌, !, qed, by, move, keep, drop, split, fjoin, fpack, pick, learn, use0, await, feq_i, no_more, and_then, returns, enter, alloc_all, pass_all, free_all, look_at, get, sets, agg, fact, tables, yes, RattleType, owns, Valss, types_at, plain, usize, u64, unit, uint_vals, uint_Tells, nothing, param, bounded, Stays, stay_dropped, walk_of, Goes-dropped, proved}
use Rattle.word_book.specs.Book.{Book}
use Rattle.word_book.specs.inner.Owned.{pens_own, seat_owns}
use Rattle.word_book.specs.contracts.seat.Pens.{the_row as Pens}
use Rattle.word_book.proofs.Fields.{ends, three_facts, token, Token, token_made}
use Rattle.word_book.proofs.Held as held
use Rattle.word_book.proofs.Steps.{begins, limited}
use Rattle.word_book.specs.contracts.seat.Seat.open.{ended, clauses}
use Rattle.word_book.specs.contracts.seat.Seat.open.Key.{name as #self}
use Rattle.word_book.proofs.seat.Seat.open.Statement.{statement}
use Rattle.word_book.proofs.seat.Seat.open.Code as code

pub open_spec : {M : Type 1} → statement M
open_spec 𝓤 𝓛 𝓜 𝓡 wired V P _ _ g d _ =
    let 𝓣 = tables 𝓤 𝓛.H 𝓜 𝓡 𝓡.env in let V' : RattleType = param 0 V in let P' : RattleType = param 1 P in let Seat : RattleType = held.Seat V' P' g in let Plain : RattleType = held.Plain V' P' g in
    let T = ended V P g d in let c = clauses V P g d 𝓛 𝓜.mem 𝓡.returns in let inst = bounded (a_type ∷ a_type ∷ []) (V, (P, tt)) (dcons d dnil) in let fn = inst_fn inst code.function in
    let stayed : Stays T.signature.params T.kept = (stay_dropped (plain (λ _. usize)) yes, (stay_dropped (plain (λ _. u64)) yes, tt)) in
    proved 𝓛 T stayed c 𝓜 𝓡 (Goes-dropped 𝓛 2 (plain (λ _. usize)) yes (λ κs x w. refl), (Goes-dropped 𝓛 2 (plain (λ _. u64)) yes (λ κs x w. refl), tt)) (#self inst) fn (code.unfolded 𝓤 𝓛.H 𝓜 𝓡 wired (V, (P, tt)) d)
    (λ κs. (uint_vals w64, (uint_vals w64, tt))) (λ κs. (uint_Tells w64, (uint_Tells w64, tt))) (λ κs qs bounds a ghosts are.
    let n : ℕ = a.0 in let limit : ℕ = a.1.0 in
    let y : (walk_of 𝓛 T stayed c).Ghost = ((κs, qs, bounds, a, (vint w64 n ∷ [], (vint w64 limit ∷ [], tt))), ghosts) in let Post : Val → SProp 𝓤 = (walk_of 𝓛 T stayed c).post y in
    let tokens : Fml = fsep (flft κs.0 qs.0) (fsep (flft κs.1.0 qs.1.0) ftrue) in
    qed 𝓛 ((‵ tokens ⊛ ‵ (owns (types_at T.signature.params κs) a y.0.4)) ∷ raw (fact 𝓤 _) ∷ raw (fact 𝓤 _) ∷ given _ (‵ ftrue) ∷ []) ∵
    keep ! (3 ∷ 0 ∷ []) $ learn ! (λ asked. drop ! $ split ! $ keep ! (0 ∷ []) $
    enter ! 𝓣.C 𝓣.Λ fn (vint w64 n ∷ vint w64 limit ∷ []) Post $ alloc_all ! (λ l. pass_all ! refl ((tt, record { fits = are.0.1 }), ((tt, record { fits = are.1.0.1 }), tt)) $
    use0 𝓛 (later (some (λ (b : Book). ‵ (seat_owns V'.coded.code g.holds b 0 g.first) ⊛ ‵ (pens_own b.words_name 0 n)))) (begins 𝓛 V'.coded g.holds g.first n asked) $ await ! tt $ pick ! (λ names. split ! $
    sets ! (agg ! (no_more !)) refl (tt, tt) $ sets ! (agg ! (and_then ! (get ! refl) (no_more !))) refl (tt, (tt, tt)) $
    sets ! (agg ! (no_more !)) refl (tt, tt) $ sets ! (agg ! (and_then ! (get ! refl) (no_more !))) refl (tt, (tt, tt)) $
    sets ! (agg ! (and_then ! (get ! refl) (and_then ! (get ! refl) (no_more !)))) refl (tt, ((tt, tt), ((tt, tt), tt))) $ returns ! (look_at ! 0 refl) $ free_all ! refl $
    let b : Book = limited 𝓛 V'.coded g.holds names limit in let s = held.seat V' P' g b 0 g.first in let pens : Pens.Denot = record { marker = record {}; book = b; next = 0; left = n } in
    let pair : Val = vstruct (vcons token (vcons token vnil)) in let Rows : List RattleType = Seat ∷ Pens ∷ [] in
    -- [the seat; the rights; the tokens]
    use0 𝓛 (‵ (Plain.own_val (record {}, tt) (token ∷ []))) (token_made (denote.Struct.Tuple.Tuple (V' ∷ P' ∷ [])) 𝓛) $ fjoin ! $ move ! (1 ∷ []) $
    use0 𝓛 (‵ ((Token unit).own_val (record {}, tt) (token ∷ []))) (token_made unit 𝓛) $ fjoin ! $ nothing ! $ move ! (1 ∷ 0 ∷ []) $ fjoin ! $ move ! (1 ∷ 0 ∷ []) $ fjoin ! $
    feq_i ! (List Val) (pair ∷ []) (pair ∷ []) refl $ fjoin ! $
    fpack ! (Valss Rows) (λ vss. fsep (feq (List Val) (pair ∷ []) (vstruct (of_list (vss.0 ++ (vss.1.0 ++ []))) ∷ [])) (owns Rows (s, (pens, tt)) vss)) (token ∷ [], (token ∷ [], tt)) $
    nothing ! $ nothing ! $ fjoin ! $ nothing ! $ fjoin ! $ keep ! (2 ∷ 0 ∷ 1 ∷ []) $
    by ! (ends 𝓛 T stayed c y pair (s, pens) (tt, (tt, tt)) (tt, (tt, tt)) (three_facts 𝓛 (refl, refl) (refl, refl, refl) refl))))))
