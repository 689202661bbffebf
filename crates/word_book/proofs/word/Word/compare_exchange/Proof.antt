-- `compare_exchange` is one step, by which words may join.
use Rattle.word_book.proofs.Walks.{ℕ, ◌^◌, List, [], ◌∷◌, ◌≡◌, ◌++◌, sym, refl, eqb, w64, a_type, dcons, dnil, named, Val, vint, vptr, vstruct, vcons, vnil, of_list, inst_fn, SProp, Fml, ftrue, fsep, feq, flft, either, ‵, raw, ◌⊛◌, given, mean, at_ret, ◌$◌, ◌∵◌, !, qed, by, move, keep, drop, split, fsplit, fsplit3, fjoin, fjoin3, fpack, learn, use0, use1, feq_i, flt_i, stop, addr, of_opd, no_more, and_then, first, blocks, exec, Calls-last, returns, enter, alloc_all, pass_all, free_all, look_at, get, through, sets, lands_last, env, agg, fact, tables, yes, RattleType, owns, Valss, types_at, plain, RefOf, u64, unit, mut_vals, mut_Tells, shr_vals, shr_Tells, uint_vals, uint_Tells, block_ptr, nothing, param, bounded, Stays, stay_dropped, stay_ref, walk_of, Goes-dropped, Goes-ref, tail, proved, fm, found, finds, exchanges}
use Rattle.word_book.specs.Book.{Joined, compares, Exchanges}
use Rattle.word_book.proofs.Asks.{exchange_moves}
use Rattle.word_book.proofs.Fields.{ends, token, Token, token_made, three_facts}
use Rattle.word_book.specs.contracts.seat.Pens.{the_row as Pens}
use Rattle.word_book.proofs.Held as held
use Rattle.word_book.specs.contracts.word.Word.compare_exchange.{ended, clauses}
use Rattle.word_book.specs.contracts.word.Word.compare_exchange.Key.{name as #self}
use Rattle.word_book.proofs.word.Word.compare_exchange.Statement.{statement}
use Rattle.word_book.proofs.word.Word.compare_exchange.Code as code

pub compare_exchange_spec : {M : Type 1} → statement M
compare_exchange_spec 𝓤 𝓛 𝓜 𝓡 wired V P N _ _ _ g d gn dn _ _ =
    let 𝓣 = tables 𝓤 𝓛.H 𝓜 𝓡 𝓡.env in let V' : RattleType = param 0 V in let P' : RattleType = param 1 P in
    let Word : RattleType = held.Word V' P' g in let Seat : RattleType = held.Seat V' P' g in
    let T = ended V P N g d gn dn in let c = clauses V P N g d gn dn 𝓛 𝓜.mem 𝓡.returns in
    let inst = bounded (a_type ∷ a_type ∷ a_type ∷ []) (V, (P, (N, tt))) (dcons d (dcons dn dnil)) in let fn = inst_fn inst code.function in
    let stayed : Stays T.signature.params T.kept = (stay_dropped (RefOf (0 ∷ []) tt (plain (λ _. Word)) (λ _. tt)) yes, (stay_dropped (plain (λ _. u64)) yes, (stay_dropped (plain (λ _. u64)) yes, (stay_ref (1 ∷ []) tt (plain (λ _. Seat)), tt)))) in
    proved 𝓛 T stayed c 𝓜 𝓡 (Goes-dropped 𝓛 5 (RefOf (0 ∷ []) tt (plain (λ _. Word)) (λ _. tt)) yes (λ κs x w. refl), (Goes-dropped 𝓛 5 (plain (λ _. u64)) yes (λ κs x w. refl), (Goes-dropped 𝓛 5 (plain (λ _. u64)) yes (λ κs x w. refl), (Goes-ref 𝓛 5 1 tt (plain (λ _. Seat)), tt))))
    (#self inst) fn (code.unfolded 𝓤 𝓛.H 𝓜 𝓡 wired (V, (P, (N, tt))) d dn)
    (λ κs. (shr_vals, (uint_vals w64, (uint_vals w64, (mut_vals, tt))))) (λ κs. (shr_Tells (named 0) κs.0 Word, (uint_Tells w64, (uint_Tells w64, (mut_Tells (named 1) κs.1.0 Seat, tt))))) (λ κs qs bounds a ghosts are.
    let w = a.0.now in let old : ℕ = a.1.0 in let new : ℕ = a.1.1.0 in let s = a.1.1.1.0.now in let wb : ℕ = a.0.ref_ptr.0 in let wo : ℕ = a.0.ref_ptr.1 in let sb : ℕ = a.1.1.1.0.ref_ptr.0 in let so : ℕ = a.1.1.1.0.ref_ptr.1 in
    let then : ℕ → Joined → V.Denot → Type 0 = gn.then (compares w.key old new) s.view in let f : ℕ → ℕ = λ n. either (eqb n old) new n in
    let y : (walk_of 𝓛 T stayed c).Ghost = ((κs, qs, bounds, a, (vptr wb wo ∷ [], (vint w64 old ∷ [], (vint w64 new ∷ [], (vptr sb so ∷ [], tt))))), ghosts) in let Post : Val → SProp 𝓤 = (walk_of 𝓛 T stayed c).post y in
    let others : Fml = fsep (flft κs.1.1.0 qs.1.1.0) (fsep (flft κs.1.1.1.0 qs.1.1.1.0) (fsep (flft κs.1.1.1.1.0 qs.1.1.1.1.0) ftrue)) in
    let tokens : Fml = fsep (flft κs.0 qs.0) (fsep (flft κs.1.0 qs.1.0) others) in
    qed 𝓛 ((‵ tokens ⊛ ‵ (owns (types_at T.signature.params κs) a y.0.4)) ∷ raw (fact 𝓤 _) ∷ raw (fact 𝓤 _) ∷ raw (fact 𝓤 _) ∷ (given (s.book ≡ w.book) (‵ ftrue) ⊛ given (Exchanges g.holds gn.then s.id s.view w.key old new) (‵ ftrue)) ∷ []) ∵
    keep ! (4 ∷ 0 ∷ []) $ split ! $ learn ! (λ same. drop ! $ learn ! (λ law. drop ! $ split ! $ fsplit ! $ move ! (1 ∷ []) $ fsplit ! $ move ! (3 ∷ []) $ fsplit ! $ fsplit ! $ move ! (2 ∷ []) $ fsplit ! $ move ! (1 ∷ []) $ fsplit ! $ move ! (1 ∷ []) $ fsplit ! $ fsplit3 ! $ keep ! (7 ∷ 10 ∷ 1 ∷ 2 ∷ 8 ∷ 9 ∷ []) $
    enter ! 𝓣.C 𝓣.Λ fn (vptr wb wo ∷ vint w64 old ∷ vint w64 new ∷ vptr sb so ∷ []) Post $ alloc_all ! (λ l. pass_all ! refl ((tt, tt), ((tt, record { fits = are.1.0.1 }), ((tt, record { fits = are.1.1.0.1 }), ((tt, tt), tt)))) $
    -- [the word; its token; the seat, in three entries; the other tokens]
    held.ready V' P' g 𝓛 w s wb wo sb so κs.0 qs.0 κs.1.0 qs.1.0 a.1.1.1.0.ghost_name f then ! tt 𝓜 𝓡 same (exchange_moves g.holds s.id s.view w.key gn.then old new law) (λ α p i vs.
    let out : ℕ → Fml = held.out V' P' g 𝓛 w s wb wo sb so κs.0 qs.0 κs.1.0 qs.1.0 a.1.1.1.0.ghost_name f then α p i in
    first ! $ blocks ! $ sets ! (addr ! (through ! refl (stop !))) refl (tt, tt) $ sets ! (of_opd ! (get ! refl)) refl (tt, tt) $
    use1 𝓛 (raw (𝓣.C _ (vptr wb wo ∷ vint w64 old ∷ vint w64 new ∷ []) (λ u. mean 𝓛 (found out u)))) (exchanges 𝓛 𝓜 𝓡 (code.calls-atomic_table::exchange 𝓡.env wired) (block_ptr wb wo) old new are.1.0.1 are.1.1.0.1 out) $
    Calls-last ! (fm 𝓛 𝓜 𝓡) (found out) (and_then ! (get ! refl) (and_then ! (get ! refl) (and_then ! (get ! refl) (no_more !)))) (λ u. finds ! out (λ n fits. lands_last ! refl (tt, record { fits = fits }) $
    exec ! 𝓣.C 𝓣.Λ (env fn.locals l) (tail fn.body) (at_ret (env fn.locals l) Post) $
    held.settled V' P' g 𝓛 w s wb wo sb so κs.0 qs.0 κs.1.0 qs.1.0 a.1.1.1.0.ghost_name f then ! tt α p i vs n (λ v j true_of.
    sets ! (of_opd ! (get ! refl)) refl (tt, record { fits = fits }) $ sets ! (agg ! (no_more !)) refl (tt, tt) $ sets ! (agg ! (and_then ! (get ! refl) (no_more !))) refl (tt, (tt, tt)) $
    let pens : Pens.Denot = record { marker = record {}; book = w.book; next = j.first; left = j.count } in let pair : Val = vstruct (vcons (vint w64 n) (vcons token vnil)) in let Rows : List RattleType = u64 ∷ Pens ∷ [] in
    sets ! (agg ! (and_then ! (get ! refl) (and_then ! (get ! refl) (no_more !)))) refl (tt, (record { fits = fits }, ((tt, tt), tt))) $ returns ! (look_at ! 0 refl) $ free_all ! refl $
    -- [the word's token; the seat, in three entries; the rights; the other tokens]
    move ! (3 ∷ 5 ∷ []) $ fjoin ! $ move ! (1 ∷ 0 ∷ []) $ fjoin ! $ nothing ! $ feq_i ! (List Val) (vptr sb so ∷ []) (vptr sb so ∷ []) refl $ move ! (0 ∷ 3 ∷ 4 ∷ []) $ fjoin3 ! $ fjoin ! $
    nothing ! $ fjoin ! $ nothing ! $ fjoin ! $ nothing ! $ fjoin ! $
    -- [the parameters; the tokens; the rights]
    move ! (2 ∷ []) $ use0 𝓛 (‵ ((Token unit).own_val (record {}, tt) (token ∷ []))) (token_made unit 𝓛) $ fjoin ! $ nothing ! $ move ! (1 ∷ 0 ∷ []) $ fjoin ! $
    flt_i ! n (2 ^ 64) fits $ feq_i ! (List Val) (vint w64 n ∷ []) (vint w64 n ∷ []) refl $ fjoin ! $ fjoin ! $ feq_i ! (List Val) (pair ∷ []) (pair ∷ []) refl $ fjoin ! $
    fpack ! (Valss Rows) (λ vss. fsep (feq (List Val) (pair ∷ []) (vstruct (of_list (vss.0 ++ (vss.1.0 ++ []))) ∷ [])) (owns Rows (n, (pens, tt)) vss)) (vint w64 n ∷ [], (token ∷ [], tt)) $ keep ! (2 ∷ 1 ∷ 0 ∷ []) $
    by ! (ends 𝓛 T stayed c y pair (n, pens) (tt, (tt, (tt, (held.seat V' P' g w.book s.id v, tt)))) (tt, (tt, (tt, (tt, tt)))) (three_facts 𝓛 (sym same, refl) (sym same) true_of))))))))))
