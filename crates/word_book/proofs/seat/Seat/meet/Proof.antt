-- Two seats meet by opening the book's invariant, with no step on a word.
use Rattle.word_book.proofs.Walks.{ℕ, List, [], ◌∷◌, ◌≡◌, sym, refl, a_type, dcons, dnil, named, Val, vunit, vptr, inst_fn, SProp, Fml, ftrue, fsep, flft, ‵, raw, ◌⊛◌, given, later, ◌$◌, ◌∵◌, !, qed, by, move, keep, drop, split, fsplit, fsplit3, fjoin, fjoin3, fpick, learn, use2, await, rewrite, feq_i, unit_lit, of_opd, returns, enter, alloc_all, pass_all, free_all, look_at, sets, fact, tables, RattleType, owns, types_at, plain, mut_vals, mut_Tells, nothing, opens, closes, param, bounded, Stays, stay_ref, walk_of, Goes-ref, proved}
use Rattle.word_book.specs.Book.{Book, Meets}
use Rattle.word_book.specs.inner.Owned.{seat_owns}
use Rattle.word_book.proofs.Fields.{ends, four_facts}
use Rattle.word_book.proofs.Held as held
use Rattle.word_book.proofs.Steps.{Both, met, meets}
use Rattle.word_book.specs.contracts.seat.Seat.meet.{ended, clauses}
use Rattle.word_book.specs.contracts.seat.Seat.meet.Key.{name as #self}
use Rattle.word_book.proofs.seat.Seat.meet.Statement.{statement}
use Rattle.word_book.proofs.seat.Seat.meet.Code as code

pub meet_spec : {M : Type 1} → statement M
meet_spec 𝓤 𝓛 𝓜 𝓡 wired V P N _ _ _ g d gn dn _ _ =
    let 𝓣 = tables 𝓤 𝓛.H 𝓜 𝓡 𝓡.env in let V' : RattleType = param 0 V in let P' : RattleType = param 1 P in let Seat : RattleType = held.Seat V' P' g in
    let T = ended V P N g d gn dn in let c = clauses V P N g d gn dn 𝓛 𝓜.mem 𝓡.returns in
    let inst = bounded (a_type ∷ a_type ∷ a_type ∷ []) (V, (P, (N, tt))) (dcons d (dcons dn dnil)) in let fn = inst_fn inst code.function in
    let stayed : Stays T.signature.params T.kept = (stay_ref (0 ∷ []) tt (plain (λ _. Seat)), (stay_ref (1 ∷ []) tt (plain (λ _. Seat)), tt)) in
    proved 𝓛 T stayed c 𝓜 𝓡 (Goes-ref 𝓛 5 0 tt (plain (λ _. Seat)), (Goes-ref 𝓛 5 1 tt (plain (λ _. Seat)), tt))
    (#self inst) fn (code.unfolded 𝓤 𝓛.H 𝓜 𝓡 wired (V, (P, (N, tt))) d dn)
    (λ κs. (mut_vals, (mut_vals, tt))) (λ κs. (mut_Tells (named 0) κs.0 Seat, (mut_Tells (named 1) κs.1.0 Seat, tt))) (λ κs qs bounds a ghosts are.
    let s = a.0.now in let o = a.1.0.now in let sb : ℕ = a.0.ref_ptr.0 in let so : ℕ = a.0.ref_ptr.1 in let ob : ℕ = a.1.0.ref_ptr.0 in let oo : ℕ = a.1.0.ref_ptr.1 in
    let y : (walk_of 𝓛 T stayed c).Ghost = ((κs, qs, bounds, a, (vptr sb so ∷ [], (vptr ob oo ∷ [], tt))), ghosts) in let Post : Val → SProp 𝓤 = (walk_of 𝓛 T stayed c).post y in
    let others : Fml = fsep (flft κs.1.1.0 qs.1.1.0) (fsep (flft κs.1.1.1.0 qs.1.1.1.0) (fsep (flft κs.1.1.1.1.0 qs.1.1.1.1.0) ftrue)) in
    let tokens : Fml = fsep (flft κs.0 qs.0) (fsep (flft κs.1.0 qs.1.0) others) in
    qed 𝓛 ((‵ tokens ⊛ ‵ (owns (types_at T.signature.params κs) a y.0.4)) ∷ raw (fact 𝓤 _) ∷ raw (fact 𝓤 _) ∷ raw (fact 𝓤 _) ∷ (given (s.book ≡ o.book) (‵ ftrue) ⊛ given (Meets g.holds gn.then s.id s.view o.id o.view) (‵ ftrue)) ∷ []) ∵
    keep ! (4 ∷ 0 ∷ []) $ split ! $ learn ! (λ same. drop ! $ learn ! (λ law. drop ! $ split ! $ fsplit ! $ move ! (1 ∷ []) $ fsplit ! $ move ! (3 ∷ []) $ fsplit ! $ fsplit3 ! $ move ! (3 ∷ []) $ fsplit ! $ fsplit3 ! $ keep ! (5 ∷ 6 ∷ 9 ∷ 1 ∷ 2 ∷ 7 ∷ 8 ∷ []) $
    enter ! 𝓣.C 𝓣.Λ fn (vptr sb so ∷ vptr ob oo ∷ []) Post $ alloc_all ! (λ l. pass_all ! refl ((tt, tt), ((tt, tt), tt)) $
    -- [the first seat, in three entries; the second; the other tokens]
    opens ! tt Seat sb so (λ vs. move ! (1 ∷ []) $ fsplit ! $ move ! (1 ∷ []) $
    move ! (6 ∷ 7 ∷ 8 ∷ []) $ opens ! tt Seat ob oo (λ us. move ! (1 ∷ []) $ fsplit ! $ move ! (1 ∷ []) $
    -- [the ghost state, the plain part, the place and the open borrow of the second; those of the first; the other tokens]
    move ! (6 ∷ 0 ∷ []) $ rewrite ! 0 (λ (b : Book). ‵ (seat_owns V'.coded.code g.holds b s.id s.view)) same refl $
    use2 𝓛 (later (‵ (Both 𝓛 V'.coded g.holds o.book s.id o.id (met 𝓛 V'.coded g.holds o.book s.id o.id s.view o.view gn.then)))) (meets 𝓛 V'.coded g.holds o.book s.id o.id s.view o.view gn.then law) $ await ! tt $ fpick ! (λ t. fsplit3 ! $ fpick ! (λ told. drop ! $
    move ! (7 ∷ 0 ∷ []) $ fjoin ! $ move ! (7 ∷ 0 ∷ 8 ∷ 9 ∷ 10 ∷ []) $ closes ! tt Seat (held.seat V' P' g o.book s.id t.0) vs sb so $
    move ! (4 ∷ 3 ∷ []) $ fjoin ! $ move ! (4 ∷ 0 ∷ 5 ∷ 6 ∷ 7 ∷ []) $ closes ! tt Seat (held.seat V' P' g o.book o.id t.1) us ob oo $
    sets ! (of_opd ! (unit_lit !)) refl (tt, tt) $ returns ! (look_at ! 0 refl) $ free_all ! refl $
    -- [the second seat, in three entries; the first; the other tokens]
    move ! (2 ∷ 6 ∷ []) $ fjoin ! $ move ! (5 ∷ 0 ∷ []) $ fjoin ! $ nothing ! $ feq_i ! (List Val) (vptr ob oo ∷ []) (vptr ob oo ∷ []) refl $ move ! (0 ∷ 3 ∷ 4 ∷ []) $ fjoin3 ! $ fjoin ! $
    feq_i ! (List Val) (vptr sb so ∷ []) (vptr sb so ∷ []) refl $ move ! (0 ∷ 3 ∷ 4 ∷ []) $ fjoin3 ! $ fjoin ! $
    feq_i ! (List Val) (vunit ∷ []) (vunit ∷ []) refl $ keep ! (2 ∷ 1 ∷ 0 ∷ []) $
    by ! (ends 𝓛 T stayed c y vunit tt (held.seat V' P' g o.book s.id t.0, (held.seat V' P' g o.book o.id t.1, tt)) (tt, (tt, tt)) (four_facts 𝓛 (sym same, refl) (refl, refl) told.0 told.1))))))))))
