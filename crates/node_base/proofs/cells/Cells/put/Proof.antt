-- `put` writes a value into an empty cell's room.
use Rattle.node_base.proofs.CellWalks.{List, [], ◌∷◌, Some, None, length, get_or, set, ◌≡◌, refl, sym, subst, ℕ, ◌+◌, ◌*◌, ◌<◌, ◌^◌, arith, length-set, w8, proved_at, Ura, ftrue, froom, flft, SProp, ent, Fn, inst_fn, Val, vunit, vint, vptr, Model, WpFn, Logic, ◌⊑◌, fact, Running, tables, owns, plain, types_at, heard, nothing, says, Clauses, Ended, Vals, Stays, stay_dropped, stay_ref, walk_of, ends_at, Goes-dropped, Goes-ref, ‵, raw, ◌⊛◌, at_ret, ◌$◌, ◌∵◌, !, qed, move, keep, use1, use3, drop, split, join, fsplit, fsplit3, fjoin, fjoin3, feq_i, suffices, done, whole, sub, look_in, init, stop, fld, load, size_lit, unit_lit, of_opd, un, bin, assigns_last, first, blocks, exec, returns, enter, alloc_all, pass_all, free_all, look_at, get, through, sets, env, yes, no, u8, El, R, args, el_x, elτ, Good, lawful, one, after}
use Rattle.node_base.proofs.CellRows.{step_size, all, rest, empty_out, filled_back}
use Rattle.node_base.proofs.CellSteps.{Row, Block, with_slots, opened, closed, small_steps}
use Rattle.node_base.specs.contracts.cells.Cells.put as F
use Rattle.node_base.specs.contracts.cells.Cells.put.Key.{name as #self}
use Rattle.node_base.proofs.cells.Cells.put.Statement.{statement}
use Rattle.node_base.proofs.cells.Cells.put.Code as code

module _ (E : El) where
  abbrev T : Ended
  T = F.ended E.row

  abbrev here : Fn
  here = inst_fn (args E) code.function

  abbrev stayed : Stays T.signature.params T.kept
  stayed = (stay_ref (0 ∷ []) tt (plain (λ _. Row E)), (stay_dropped (plain (λ _. u8)) yes, (stay_dropped (plain (λ _. R E)) no, tt)))

  module _ {M : Type 1} {𝓤 : Ura M} (𝓛 : Logic 𝓤) (𝓜 : Model 𝓤 𝓛.H) (𝓡 : Running 𝓤 𝓛.H 𝓜) where
    abbrev c : Clauses 𝓤 T
    c = F.clauses E.row 𝓛 𝓜.mem 𝓡.returns

    abbrev In : Type 0
    In = (walk_of 𝓛 T stayed c).Ghost

    abbrev Holds : In → Type 1
    Holds z = ent 𝓤 ((walk_of 𝓛 T stayed c).pre z) (WpFn 𝓤 𝓛.H (tables 𝓤 𝓛.H 𝓜 𝓡 𝓡.env).C (tables 𝓤 𝓛.H 𝓜 𝓡 𝓡.env).Λ here ((walk_of 𝓛 T stayed c).args z) ((walk_of 𝓛 T stayed c).post z))

    -- the parameters, at machine values
    abbrev at : (y : In) → Vals (T).signature y.0.0 → In
    at y vss = ((y.0.0, y.0.1, y.0.2, y.0.3, vss), y.1)

    abbrev values : (y : In) → Val → Vals (T).signature y.0.0
    values y v = (vptr y.0.3.0.ref_ptr.0 y.0.3.0.ref_ptr.1 ∷ [], (vint w8 y.0.3.1.0 ∷ [], (v ∷ [], tt)))

    walk : (y : In) → y.0.3.1.0 < 2 ^ 8 → (v : Val) → Good E v → Holds (at y (values y v))
    walk y small v good =
        let z : In = at y (values y v) in
        let self = y.0.3.0 in let i : ℕ = y.0.3.1.0 in let x : el_x E = y.0.3.1.1.0 in let d : Block E = self.now in
        let rb : ℕ = self.ref_ptr.0 in let ro : ℕ = self.ref_ptr.1 in
        let 𝓣 = tables 𝓤 𝓛.H 𝓜 𝓡 𝓡.env in let Post : Val → SProp 𝓤 = (walk_of 𝓛 T stayed c).post z in
        let s : ℕ = step_size E in
        let inside : i < length d.slots = (let count = d.full in omega arith) in
        let Empty : Type 0 = get_or d.slots i None ≡ None in
        let new : Block E = with_slots E d (set d.slots i (Some x)) (length-set d.slots i (Some x)) in
        qed 𝓛 (((‵ (flft y.0.0.0 y.0.1.0) ⊛ ‵ (flft y.0.0.1.0 y.0.1.1.0) ⊛ ‵ ftrue) ⊛ ‵ (owns (types_at (T).signature.params y.0.0) y.0.3 z.0.4)) ∷ (raw (fact 𝓤 (y.0.0.1.0 ⊑ E.row.lives)) ⊛ raw (fact 𝓤 Empty)) ∷ []) ∵
        move ! (1 ∷ []) $ split ! $ drop ! $ heard ! Empty (λ empty.
        split ! $ split ! $ move ! (2 ∷ []) $ fsplit3 ! $ fsplit3 ! $ move ! (4 ∷ []) $ fsplit ! $ keep ! (3 ∷ 4 ∷ 6 ∷ 0 ∷ 7 ∷ []) $
        enter ! 𝓣.C 𝓣.Λ here (vptr rb ro ∷ vint w8 i ∷ v ∷ []) _ $ alloc_all ! (λ l. pass_all ! refl ((tt, tt), ((tt, record { fits = small }), (good, tt))) $
        opened E ! tt d rb ro (λ b o at_b fit.
        let sized = small_steps i s small fit in
        let wide : i < 2 ^ 64 = omega arith in
        use1 𝓛 (‵ (froom (elτ E) b (i * s + o)) ⊛ ‵ (rest E b d.slots i o)) (empty_out E 𝓛 b d.slots i o inside empty) $ split ! $
        -- [the room; the other cells; the right; the words; their place; the open borrow; obs; auth; what the child owns; the other token]
        first ! $ blocks ! $
        sets ! (of_opd ! (load ! (through ! refl (fld ! refl (stop !))) (look_in ! 4 (sub ! 0 refl (whole !))))) refl (tt, tt) $
        sets ! (un ! (get ! refl) (record { fits = wide })) refl (tt, record { fits = wide }) $
        sets ! (bin ! (get ! refl) (size_lit ! (record { fits = sized.0 })) (record { fits = sized.1 })) refl (tt, record { fits = sized.1 }) $
        sets ! (bin ! (get ! refl) (get ! refl) tt) refl (tt, tt) $ sets ! (of_opd ! (get ! refl)) refl good $
        assigns_last ! (of_opd ! (get ! refl)) (through ! refl (stop !)) (init ! 0 refl good) $
        exec ! 𝓣.C 𝓣.Λ (env (here).locals l) (after 1 (here).body) (at_ret (env (here).locals l) Post) $ sets ! (of_opd ! (unit_lit !)) refl (tt, tt) $
        move ! (0 ∷ 8 ∷ 1 ∷ []) $ use3 𝓛 (‵ (all E b new.slots o)) (filled_back E 𝓛 b d.slots i o inside x v) $
        closed E ! tt new b o rb ro at_b fit $ returns ! (look_at ! 0 refl) $ free_all ! refl $
        -- [obs; the borrow; the token; the other token]
        suffices ! _ (ends_at 𝓛 T stayed c z vunit tt (new, (tt, (tt, tt))) (tt, (tt, (tt, tt)))) $ says ! refl $
        feq_i ! (List Val) (vptr rb ro ∷ []) (vptr rb ro ∷ []) refl $ fjoin3 ! $
        nothing ! $ nothing ! $ fjoin ! $ nothing ! $ fjoin ! $ move ! (1 ∷ 0 ∷ []) $ fjoin ! $
        move ! (1 ∷ 2 ∷ []) $ join ! $ feq_i ! (List Val) (vunit ∷ []) (vunit ∷ []) refl $ keep ! (1 ∷ 2 ∷ 0 ∷ []) $ done !)))

pub put_spec : {M : Type 1} → statement M
put_spec 𝓤 𝓛 𝓜 𝓡 wired X L =
    let E : El = record { row = X; laws = L } in
    proved_at 𝓛 (T E) (stayed E) (c E 𝓛 𝓜 𝓡) 𝓜 𝓡
    (Goes-ref 𝓛 2 0 tt (plain (λ _. Row E)), (Goes-dropped 𝓛 2 (plain (λ _. u8)) yes (λ κs x w. refl), (Goes-dropped 𝓛 2 (plain (λ _. R E)) no (λ κs x w. refl), tt)))
    (#self (args E)) (here E) (code.unfolded 𝓤 𝓛.H 𝓜 𝓡 wired (X, tt))
    (λ y are. let got = one E y.0.4.1.1.0 ((lawful E 𝓛).typed y.0.3.1.1.0 y.0.4.1.1.0 are.1.1.0) in
    let told : y.0.4 ≡ values E 𝓛 𝓜 𝓡 y got.0 = λ k. (are.0.0 k, (are.1.0.0 k, (got.1 k, tt))) in
    subst (λ vss. Holds E 𝓛 𝓜 𝓡 (at E 𝓛 𝓜 𝓡 y vss)) (sym told) (walk E 𝓛 𝓜 𝓡 y are.1.0.1 got.0 got.2))
