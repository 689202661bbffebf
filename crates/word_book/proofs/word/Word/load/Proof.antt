-- `load` is one step that changes no word.
use Rattle.word_book.proofs.Walks.{ℕ, ◌^◌, List, [], ◌∷◌, ◌≡◌, sym, refl, lit<, w64, a_type, dcons, dnil, named, Val, vint, vptr, inst_fn, SProp, Fml, ftrue, fsep, flft, ‵, raw, ◌⊛◌, given, mean, at_ret, ◌$◌, ◌∵◌, !, qed, by, move, keep, drop, split, fsplit, fsplit3, fjoin, fjoin3, learn, use1, feq_i, flt_i, stop, addr, lit, of_opd, no_more, and_then, first, blocks, exec, Calls-last, returns, enter, alloc_all, pass_all, free_all, look_at, get, through, sets, lands_last, env, agg, fact, tables, yes, RattleType, owns, types_at, plain, RefOf, mut_vals, mut_Tells, shr_vals, shr_Tells, block_ptr, nothing, param, bounded, Stays, stay_dropped, stay_ref, walk_of, Goes-dropped, Goes-ref, tail, proved, fm, seq_cst, found, finds, loads}
use Rattle.word_book.specs.Book.{Joined, none_joined, reads, Loads}
use Rattle.word_book.proofs.Asks.{load_moves}
use Rattle.word_book.proofs.Fields.{ends, two_facts}
use Rattle.word_book.proofs.Held as held
use Rattle.word_book.specs.contracts.word.Word.load.{ended, clauses}
use Rattle.word_book.specs.contracts.word.Word.load.Key.{name as #self}
use Rattle.word_book.proofs.word.Word.load.Statement.{statement}
use Rattle.word_book.proofs.word.Word.load.Code as code

pub load_spec : {M : Type 1} → statement M
load_spec 𝓤 𝓛 𝓜 𝓡 wired V P N _ _ _ g d gn dn _ _ =
    let 𝓣 = tables 𝓤 𝓛.H 𝓜 𝓡 𝓡.env in let V' : RattleType = param 0 V in let P' : RattleType = param 1 P in
    let Word : RattleType = held.Word V' P' g in let Seat : RattleType = held.Seat V' P' g in
    let T = ended V P N g d gn dn in let c = clauses V P N g d gn dn 𝓛 𝓜.mem 𝓡.returns in
    let inst = bounded (a_type ∷ a_type ∷ a_type ∷ []) (V, (P, (N, tt))) (dcons d (dcons dn dnil)) in let fn = inst_fn inst code.function in
    let stayed : Stays T.signature.params T.kept = (stay_dropped (RefOf (0 ∷ []) tt (plain (λ _. Word)) (λ _. tt)) yes, (stay_ref (1 ∷ []) tt (plain (λ _. Seat)), tt)) in
    proved 𝓛 T stayed c 𝓜 𝓡 (Goes-dropped 𝓛 5 (RefOf (0 ∷ []) tt (plain (λ _. Word)) (λ _. tt)) yes (λ κs x w. refl), (Goes-ref 𝓛 5 1 tt (plain (λ _. Seat)), tt))
    (#self inst) fn (code.unfolded 𝓤 𝓛.H 𝓜 𝓡 wired (V, (P, (N, tt))) d dn)
    (λ κs. (shr_vals, (mut_vals, tt))) (λ κs. (shr_Tells (named 0) κs.0 Word, (mut_Tells (named 1) κs.1.0 Seat, tt))) (λ κs qs bounds a ghosts are.
    let w = a.0.now in let s = a.1.0.now in let wb : ℕ = a.0.ref_ptr.0 in let wo : ℕ = a.0.ref_ptr.1 in let sb : ℕ = a.1.0.ref_ptr.0 in let so : ℕ = a.1.0.ref_ptr.1 in
    let then : ℕ → Joined → V.Denot → Type 0 = λ n j u. gn.then (reads w.key) s.view n none_joined u in let f : ℕ → ℕ = λ n. n in
    let y : (walk_of 𝓛 T stayed c).Ghost = ((κs, qs, bounds, a, (vptr wb wo ∷ [], (vptr sb so ∷ [], tt))), ghosts) in let Post : Val → SProp 𝓤 = (walk_of 𝓛 T stayed c).post y in
    let others : Fml = fsep (flft κs.1.1.0 qs.1.1.0) (fsep (flft κs.1.1.1.0 qs.1.1.1.0) (fsep (flft κs.1.1.1.1.0 qs.1.1.1.1.0) ftrue)) in
    let tokens : Fml = fsep (flft κs.0 qs.0) (fsep (flft κs.1.0 qs.1.0) others) in
    qed 𝓛 ((‵ tokens ⊛ ‵ (owns (types_at T.signature.params κs) a y.0.4)) ∷ raw (fact 𝓤 _) ∷ raw (fact 𝓤 _) ∷ raw (fact 𝓤 _) ∷ (given (s.book ≡ w.book) (‵ ftrue) ⊛ given (Loads g.holds gn.then s.id s.view w.key) (‵ ftrue)) ∷ []) ∵
    keep ! (4 ∷ 0 ∷ []) $ split ! $ learn ! (λ same. drop ! $ learn ! (λ law. drop ! $ split ! $ fsplit ! $ move ! (1 ∷ []) $ fsplit ! $ move ! (3 ∷ []) $ fsplit ! $ fsplit ! $ move ! (2 ∷ []) $ fsplit ! $ fsplit3 ! $ keep ! (5 ∷ 8 ∷ 1 ∷ 2 ∷ 6 ∷ 7 ∷ []) $
    enter ! 𝓣.C 𝓣.Λ fn (vptr wb wo ∷ vptr sb so ∷ []) Post $ alloc_all ! (λ l. pass_all ! refl ((tt, tt), ((tt, tt), tt)) $
    -- [the word; its token; the seat, in three entries; the other tokens]
    held.ready V' P' g 𝓛 w s wb wo sb so κs.0 qs.0 κs.1.0 qs.1.0 a.1.0.ghost_name f then ! tt 𝓜 𝓡 same (load_moves g.holds s.id s.view w.key gn.then law) (λ α p i vs.
    let out : ℕ → Fml = held.out V' P' g 𝓛 w s wb wo sb so κs.0 qs.0 κs.1.0 qs.1.0 a.1.0.ghost_name f then α p i in
    first ! $ blocks ! $ sets ! (addr ! (through ! refl (stop !))) refl (tt, tt) $ sets ! (of_opd ! (get ! refl)) refl (tt, tt) $
    use1 𝓛 (raw (𝓣.C _ (vptr wb wo ∷ seq_cst ∷ []) (λ u. mean 𝓛 (found out u)))) (loads 𝓛 𝓜 𝓡 (code.calls-core::raw_atomic::load 𝓡.env wired) (block_ptr wb wo) out) $
    sets ! (agg ! (and_then ! (lit ! tt) (no_more !))) refl (tt, (record { fits = lit< tt }, tt)) $
    Calls-last ! (fm 𝓛 𝓜 𝓡) (found out) (and_then ! (get ! refl) (and_then ! (get ! refl) (no_more !))) (λ u. finds ! out (λ n fits. lands_last ! refl (tt, record { fits = fits }) $
    exec ! 𝓣.C 𝓣.Λ (env fn.locals l) (tail fn.body) (at_ret (env fn.locals l) Post) $
    held.settled V' P' g 𝓛 w s wb wo sb so κs.0 qs.0 κs.1.0 qs.1.0 a.1.0.ghost_name f then ! tt α p i vs n (λ v j true_of.
    sets ! (of_opd ! (get ! refl)) refl (tt, record { fits = fits }) $ returns ! (look_at ! 0 refl) $ free_all ! refl $
    -- [the word's token; the seat, in three entries; no rights; the other tokens]
    move ! (3 ∷ 5 ∷ []) $ fjoin ! $ move ! (1 ∷ 0 ∷ []) $ fjoin ! $ nothing ! $ feq_i ! (List Val) (vptr sb so ∷ []) (vptr sb so ∷ []) refl $ move ! (0 ∷ 3 ∷ 4 ∷ []) $ fjoin3 ! $ fjoin ! $ nothing ! $ fjoin ! $
    flt_i ! n (2 ^ 64) fits $ feq_i ! (List Val) (vint w64 n ∷ []) (vint w64 n ∷ []) refl $ fjoin ! $ keep ! (2 ∷ 1 ∷ 0 ∷ []) $
    by ! (ends 𝓛 T stayed c y (vint w64 n) n (tt, (held.seat V' P' g w.book s.id v, tt)) (tt, (tt, tt)) (two_facts 𝓛 (sym same, refl) true_of))))))))))
