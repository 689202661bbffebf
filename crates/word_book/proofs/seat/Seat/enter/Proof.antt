-- A seat comes by opening the book's invariant, with no step on a word.
use Rattle.word_book.proofs.Walks.{ℕ, [], ◌∷◌, refl, a_type, dcons, dnil, named, Val, vptr, inst_fn, SProp, emp, Fml, ftrue, fsep, flft, fhide, ‵, raw, ◌⊛◌, some, given, later, ◌$◌, ◌∵◌, !, qed, by, move, keep, drop, split, fsplit, fjoin, pick, learn, use0, use1, await, no_more, and_then, returns, enter, alloc_all, pass_all, free_all, look_at, get, sets, agg, fact, fact_i, tables, yes, RattleType, owns, types_at, plain, RefOf, shr_vals, shr_Tells, hidden_shr, unhide, lent_out, nothing, param, bounded, Stays, stay_dropped, walk_of, Goes-dropped, proved}
use Rattle.core.specs.contracts.marker.PhantomData as marker
use Rattle.word_book.specs.inner.Owned.{stands, seat_owns, seat_shows}
use Rattle.word_book.specs.contracts.seat.Seat as of_seat
use Rattle.word_book.proofs.Fields.{ends, token, token_made}
use Rattle.word_book.proofs.Held as held
use Rattle.word_book.proofs.Steps.{shown_stands, enters}
use Rattle.word_book.specs.contracts.seat.Seat.enter.{ended, clauses}
use Rattle.word_book.specs.contracts.seat.Seat.enter.Key.{name as #self}
use Rattle.word_book.proofs.seat.Seat.enter.Statement.{statement}
use Rattle.word_book.proofs.seat.Seat.enter.Code as code

pub enter_spec : {M : Type 1} → statement M
enter_spec 𝓤 𝓛 𝓜 𝓡 wired V P _ _ g d _ =
    let 𝓣 = tables 𝓤 𝓛.H 𝓜 𝓡 𝓡.env in let V' : RattleType = param 0 V in let P' : RattleType = param 1 P in let Seat : RattleType = held.Seat V' P' g in let Plain : RattleType = held.Plain V' P' g in
    let Both : RattleType = denote.Struct.Tuple.Tuple (V' ∷ P' ∷ []) in
    let T = ended V P g d in let c = clauses V P g d 𝓛 𝓜.mem 𝓡.returns in let inst = bounded (a_type ∷ a_type ∷ []) (V, (P, tt)) (dcons d dnil) in let fn = inst_fn inst code.function in
    let stayed : Stays T.signature.params T.kept = (stay_dropped (RefOf (0 ∷ []) tt (plain (λ _. Seat)) (λ _. tt)) yes, tt) in
    proved 𝓛 T stayed c 𝓜 𝓡 (Goes-dropped 𝓛 3 (RefOf (0 ∷ []) tt (plain (λ _. Seat)) (λ _. tt)) yes (λ κs x w. refl), tt) (#self inst) fn (code.unfolded 𝓤 𝓛.H 𝓜 𝓡 wired (V, (P, tt)) d)
    (λ κs. (shr_vals, tt)) (λ κs. (shr_Tells (named 0) κs.0 Seat, tt)) (λ κs qs bounds a ghosts are.
    let s = a.0.now in let sb : ℕ = a.0.ref_ptr.0 in let so : ℕ = a.0.ref_ptr.1 in
    let y : (walk_of 𝓛 T stayed c).Ghost = ((κs, qs, bounds, a, (vptr sb so ∷ [], tt)), ghosts) in let Post : Val → SProp 𝓤 = (walk_of 𝓛 T stayed c).post y in
    let tokens : Fml = fsep (flft κs.0 qs.0) (fsep (flft κs.1.0 qs.1.0) (fsep (flft κs.1.1.0 qs.1.1.0) ftrue)) in
    qed 𝓛 ((‵ tokens ⊛ ‵ (owns (types_at T.signature.params κs) a y.0.4)) ∷ raw (fact 𝓤 _) ∷ raw (fact 𝓤 _) ∷ given _ (‵ ftrue) ∷ []) ∵
    keep ! (3 ∷ 0 ∷ []) $ learn ! (λ asked. drop ! $ split ! $ move ! (1 ∷ []) $ fsplit ! $ fsplit ! $ keep ! (1 ∷ 3 ∷ []) $
    enter ! 𝓣.C 𝓣.Λ fn (vptr sb so ∷ []) Post $ alloc_all ! (λ l. pass_all ! refl ((tt, tt), tt) $
    use1 𝓛 (‵ (hidden_shr Plain κs.0 (record {}, tt) sb so) ⊛ ‵ (fhide (seat_shows V'.coded.code g.holds s.book κs.0)))
    (lent_out 𝓛 (of_seat.struct V' P' g) (of_seat.the_codes V.Denot P.Denot V'.coded P'.coded (marker.the_row Both).coded) (of_seat.the_heap V' P' g) (of_seat.the_lent V' P' g) κs.0 s sb so) $ split ! $ drop ! $ unhide ! $
    use1 𝓛 (‵ (stands V'.coded.code g.holds s.book)) (shown_stands 𝓛 V'.coded g.holds s.book κs.0) $
    use1 𝓛 (later (some (λ (id : ℕ). ‵ (seat_owns V'.coded.code g.holds s.book id g.first)))) (enters 𝓛 V'.coded g.holds s.book g.first asked) $ await ! tt $ pick ! (λ id.
    use0 𝓛 (‵ (Plain.own_val (record {}, tt) (token ∷ []))) (token_made Both 𝓛) $ fjoin ! $
    sets ! (agg ! (no_more !)) refl (tt, tt) $ sets ! (agg ! (and_then ! (get ! refl) (no_more !))) refl (tt, (tt, tt)) $ returns ! (look_at ! 0 refl) $ free_all ! refl $
    -- [the seat; the tokens]
    nothing ! $ nothing ! $ fjoin ! $ keep ! (2 ∷ 0 ∷ 1 ∷ []) $
    by ! (ends 𝓛 T stayed c y token (held.seat V' P' g s.book id g.first) (tt, tt) (tt, tt) (fact_i 𝓤 _ (emp 𝓤) (refl, refl)))))))
