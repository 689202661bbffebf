-- `get` passes on the `&` to a child that a `&` to the cells shows.
use Rattle.node_base.proofs.CellWalks.{List, [], ◌∷◌, None, IsSome, get_or, refl, ℕ, ◌+◌, ◌*◌, ◌<◌, ◌^◌, arith, w8, proved, Ura, ftrue, flft, SProp, ent, Fn, named, inst_fn, Val, vint, vptr, Model, WpFn, Logic, ◌⊑◌, fact, Running, tables, owns, plain, types_at, heard, nothing, says, Clauses, Ended, Stays, stay_dropped, walk_of, ends_at, Goes-dropped, ‵, raw, ◌⊛◌, at_ret, ◌$◌, ◌∵◌, !, qed, move, keep, use1, drop, split, split3, join, fsplit, fjoin, feq_i, flt_l, suffices, done, look, stop, fld, load, addr, size_lit, of_opd, un, bin, first, blocks, exec, returns, enter, alloc_all, pass_all, free_all, look_at, get, through, sets, sets_last, env, yes, u8, uint_vals, uint_Tells, RefOf, shr_vals, shr_Tells, El, R, args, el_x, after}
use denote.Memory.{hidden_shr}
use denote.RawPtr.{Ptr, RawPtr, in_a_block}
use Rattle.core.proofs.slots.Lent.{pointer_in, pointer_out}
use Rattle.node_base.specs.inner.Cells.{cells_lent, bound}
use Rattle.node_base.proofs.CellRows.{filling, step_size, none_at_null, child_lent}
use Rattle.node_base.proofs.CellSteps.{Row, Block, shown, small_steps}
use Rattle.node_base.specs.contracts.cells.Cells.get as F
use Rattle.node_base.specs.contracts.cells.Cells.get.Key.{name as #self}
use Rattle.node_base.proofs.cells.Cells.get.Statement.{statement}
use Rattle.node_base.proofs.cells.Cells.get.Code as code

module _ (E : El) where
  abbrev T : Ended
  T = F.ended E.row

  abbrev here : Fn
  here = inst_fn (args E) code.function

  abbrev stayed : Stays T.signature.params T.kept
  stayed = (stay_dropped (RefOf (0 ∷ []) tt (plain (λ _. Row E)) (λ _. tt)) yes, (stay_dropped (plain (λ _. u8)) yes, tt))

  module _ {M : Type 1} {𝓤 : Ura M} (𝓛 : Logic 𝓤) (𝓜 : Model 𝓤 𝓛.H) (𝓡 : Running 𝓤 𝓛.H 𝓜) where
    abbrev c : Clauses 𝓤 T
    c = F.clauses E.row 𝓛 𝓜.mem 𝓡.returns

    abbrev In : Type 0
    In = (walk_of 𝓛 T stayed c).Ghost

    -- the parameters, at their machine values
    abbrev told : In → In
    told y = ((y.0.0, y.0.1, y.0.2, y.0.3, (shr_vals y.0.3.0, (uint_vals w8 y.0.3.1.0, tt))), y.1)

    walk : (y : In) → y.0.3.1.0 < 2 ^ 8
        → ent 𝓤 ((walk_of 𝓛 T stayed c).pre (told y)) (WpFn 𝓤 𝓛.H (tables 𝓤 𝓛.H 𝓜 𝓡 𝓡.env).C (tables 𝓤 𝓛.H 𝓜 𝓡 𝓡.env).Λ here ((walk_of 𝓛 T stayed c).args (told y)) ((walk_of 𝓛 T stayed c).post (told y)))
    walk y small =
        let z : In = told y in
        let κ = y.0.0.0 in
        let self = y.0.3.0 in let i : ℕ = y.0.3.1.0 in let d : Block E = self.now in
        let rb : ℕ = self.ref_ptr.0 in let ro : ℕ = self.ref_ptr.1 in
        let 𝓣 = tables 𝓤 𝓛.H 𝓜 𝓡 𝓡.env in let Post : Val → SProp 𝓤 = (walk_of 𝓛 T stayed c).post z in
        let s : ℕ = step_size E in
        let Full : Type 0 = IsSome (get_or d.slots i None) in
        qed 𝓛 (((‵ (flft κ y.0.1.0) ⊛ ‵ (flft y.0.0.1.0 y.0.1.1.0) ⊛ ‵ ftrue) ⊛ ‵ (owns (types_at (T).signature.params y.0.0) y.0.3 z.0.4)) ∷ (raw (fact 𝓤 (y.0.0.1.0 ⊑ E.row.lives)) ⊛ raw (fact 𝓤 Full)) ∷ []) ∵
        move ! (1 ∷ []) $ split ! $ drop ! $ heard ! Full (λ full. let x : el_x E = (filling _ full).0 in let is = (filling _ full).1 in
        split ! $ split ! $ move ! (2 ∷ []) $ fsplit ! $ fsplit ! $ drop ! $
        use1 𝓛 (‵ (hidden_shr RawPtr κ d.ptr rb (ro + 0)) ⊛ ‵ (bound (R E)) ⊛ ‵ (cells_lent (R E) d.slots d.ptr κ)) (shown E 𝓛 κ d rb ro) $
        split3 ! $ move ! (1 ∷ []) $ flt_l ! (λ fit.
        let sized = small_steps i s small fit in
        let wide : i < 2 ^ 64 = omega arith in
        move ! (1 ∷ []) $ in_a_block ! d.ptr (λ (p : Ptr). cells_lent (R E) d.slots p κ) (none_at_null E 𝓛 κ x d.slots i is) (λ b o at_b.
        use1 𝓛 (‵ (hidden_shr (R E) κ x b (i * s + o))) (child_lent E 𝓛 κ x d.slots i b o is) $
        keep ! (1 ∷ 3 ∷ 4 ∷ 0 ∷ []) $
        enter ! 𝓣.C 𝓣.Λ here (vptr rb ro ∷ vint w8 i ∷ []) _ $ alloc_all ! (λ l. pass_all ! refl ((tt, tt), ((tt, record { fits = small }), tt)) $
        -- [the pointer; the token; the other token; the child]
        first ! $ blocks ! $ pointer_in ! tt d.ptr b o at_b rb (ro + 0) (λ q.
        sets ! (of_opd ! (load ! (through ! refl (fld ! refl (stop !))) (look ! 0 refl))) refl (tt, tt) $
        pointer_out ! tt d.ptr b o at_b rb (ro + 0) $
        sets ! (un ! (get ! refl) (record { fits = wide })) refl (tt, record { fits = wide }) $
        sets ! (bin ! (get ! refl) (size_lit ! (record { fits = sized.0 })) (record { fits = sized.1 })) refl (tt, record { fits = sized.1 }) $
        sets ! (bin ! (get ! refl) (get ! refl) tt) refl (tt, tt) $
        sets_last ! (addr ! (through ! refl (stop !))) refl (tt, tt) $
        exec ! 𝓣.C 𝓣.Λ (env (here).locals l) (after 1 (here).body) (at_ret (env (here).locals l) Post) $ sets ! (of_opd ! (get ! refl)) refl (tt, tt) $
        returns ! (look_at ! 0 refl) $ free_all ! refl $
        -- [the token; the other token; the child]
        suffices ! _ (ends_at 𝓛 T stayed c z (vptr b (i * s + o)) (record { ref_ptr = (b, i * s + o); now = x }) (tt, (tt, tt)) (tt, (tt, tt))) $ says ! is $
        join ! $ move ! (1 ∷ []) $ feq_i ! (List Val) (vptr b (i * s + o) ∷ []) (vptr b (i * s + o) ∷ []) refl $ fjoin ! $
        nothing ! $ nothing ! $ fjoin ! $ nothing ! $ fjoin ! $ keep ! (2 ∷ 0 ∷ 1 ∷ []) $ done !)))))

pub get_spec : {M : Type 1} → statement M
get_spec 𝓤 𝓛 𝓜 𝓡 wired X L =
    let E : El = record { row = X; laws = L } in
    proved 𝓛 (T E) (stayed E) (c E 𝓛 𝓜 𝓡) 𝓜 𝓡 (Goes-dropped 𝓛 2 (RefOf (0 ∷ []) tt (plain (λ _. Row E)) (λ _. tt)) yes (λ κs x w. refl), (Goes-dropped 𝓛 2 (plain (λ _. u8)) yes (λ κs x w. refl), tt))
    (#self (args E)) (here E) (code.unfolded 𝓤 𝓛.H 𝓜 𝓡 wired (X, tt))
    (λ κs. (shr_vals, (uint_vals w8, tt))) (λ κs. (shr_Tells (named 0) κs.0 (Row E), (uint_Tells w8, tt)))
    (λ κs qs bounds a g are. walk E 𝓛 𝓜 𝓡 ((κs, qs, bounds, a, (shr_vals a.0, (uint_vals w8 a.1.0, tt))), g) are.1.0.1)
