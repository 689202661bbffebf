-- `take` reads a filled cell's value, and leaves room in its place.
use Rattle.node_base.proofs.CellWalks.{List, [], ◌∷◌, None, IsSome, length, get_or, set, refl, ℕ, ◌+◌, ◌*◌, ◌<◌, ◌^◌, arith, length-set, w8, proved, Ura, full_share, ftrue, fat, flft, SProp, ent, Fn, named, inst_fn, Val, vint, vptr, Model, WpFn, Logic, ◌⊑◌, fact, Running, tables, owns, plain, types_at, heard, nothing, Clauses, Ended, Stays, stay_dropped, stay_ref, walk_of, ends_at, Goes-dropped, Goes-ref, ‵, raw, ◌⊛◌, some, given, at_ret, ◌$◌, ◌∵◌, !, qed, move, keep, use1, use2, drop, split, split3, join, pick, learn, fsplit, fsplit3, fjoin, fjoin3, feq_i, suffices, done, whole, sub, look_in, look, forget, stop, fld, load, size_lit, of_opd, un, bin, first, blocks, exec, returns, enter, alloc_all, pass_all, free_all, look_at, get, through, sets, sets_last, env, yes, u8, uint_vals, uint_Tells, mut_vals, mut_Tells, El, args, el_x, elτ, Good, says_two, after}
use Rattle.node_base.proofs.CellRows.{filling, step_size, all, rest, filled_out, empty_back}
use Rattle.node_base.proofs.CellSteps.{Row, Block, with_slots, opened, closed, small_steps}
use Rattle.node_base.specs.contracts.cells.Cells.take as F
use Rattle.node_base.specs.contracts.cells.Cells.take.Key.{name as #self}
use Rattle.node_base.proofs.cells.Cells.take.Statement.{statement}
use Rattle.node_base.proofs.cells.Cells.take.Code as code

module _ (E : El) where
  abbrev T : Ended
  T = F.ended E.row

  abbrev here : Fn
  here = inst_fn (args E) code.function

  abbrev stayed : Stays T.signature.params T.kept
  stayed = (stay_ref (0 ∷ []) tt (plain (λ _. Row E)), (stay_dropped (plain (λ _. u8)) yes, tt))

  module _ {M : Type 1} {𝓤 : Ura M} (𝓛 : Logic 𝓤) (𝓜 : Model 𝓤 𝓛.H) (𝓡 : Running 𝓤 𝓛.H 𝓜) where
    abbrev c : Clauses 𝓤 T
    c = F.clauses E.row 𝓛 𝓜.mem 𝓡.returns

    abbrev In : Type 0
    In = (walk_of 𝓛 T stayed c).Ghost

    -- the parameters, at their machine values
    abbrev told : In → In
    told y = ((y.0.0, y.0.1, y.0.2, y.0.3, (mut_vals y.0.3.0, (uint_vals w8 y.0.3.1.0, tt))), y.1)

    walk : (y : In) → y.0.3.1.0 < 2 ^ 8
        → ent 𝓤 ((walk_of 𝓛 T stayed c).pre (told y)) (WpFn 𝓤 𝓛.H (tables 𝓤 𝓛.H 𝓜 𝓡 𝓡.env).C (tables 𝓤 𝓛.H 𝓜 𝓡 𝓡.env).Λ here ((walk_of 𝓛 T stayed c).args (told y)) ((walk_of 𝓛 T stayed c).post (told y)))
    walk y small =
        let z : In = told y in
        let self = y.0.3.0 in let i : ℕ = y.0.3.1.0 in let d : Block E = self.now in
        let rb : ℕ = self.ref_ptr.0 in let ro : ℕ = self.ref_ptr.1 in
        let 𝓣 = tables 𝓤 𝓛.H 𝓜 𝓡 𝓡.env in let Post : Val → SProp 𝓤 = (walk_of 𝓛 T stayed c).post z in
        let s : ℕ = step_size E in
        let inside : i < length d.slots = (let count = d.full in omega arith) in
        let Full : Type 0 = IsSome (get_or d.slots i None) in
        let new : Block E = with_slots E d (set d.slots i None) (length-set d.slots i None) in
        qed 𝓛 (((‵ (flft y.0.0.0 y.0.1.0) ⊛ ‵ (flft y.0.0.1.0 y.0.1.1.0) ⊛ ‵ ftrue) ⊛ ‵ (owns (types_at (T).signature.params y.0.0) y.0.3 z.0.4)) ∷ (raw (fact 𝓤 (y.0.0.1.0 ⊑ E.row.lives)) ⊛ raw (fact 𝓤 Full)) ∷ []) ∵
        move ! (1 ∷ []) $ split ! $ drop ! $ heard ! Full (λ full. let x : el_x E = (filling _ full).0 in let is = (filling _ full).1 in
        split ! $ split ! $ move ! (2 ∷ []) $ fsplit ! $ fsplit3 ! $ keep ! (1 ∷ 2 ∷ 4 ∷ 5 ∷ []) $
        enter ! 𝓣.C 𝓣.Λ here (vptr rb ro ∷ vint w8 i ∷ []) _ $ alloc_all ! (λ l. pass_all ! refl ((tt, tt), ((tt, record { fits = small }), tt)) $
        opened E ! tt d rb ro (λ b o at_b fit.
        let sized = small_steps i s small fit in
        let wide : i < 2 ^ 64 = omega arith in
        use1 𝓛 (some (λ (v : Val). given (Good E v) (‵ (fat full_share (elτ E) b (i * s + o) v) ⊛ ‵ (E.row.own_val x (v ∷ [])) ⊛ ‵ (rest E b d.slots i o)))) (filled_out E 𝓛 b d.slots i o inside x is) $
        pick ! (λ v. learn ! (λ good. split3 ! $
        -- [the cell; what the child owns; the other cells; the right; the words; their place; the open borrow; obs; auth; the other token]
        first ! $ blocks ! $
        sets ! (of_opd ! (load ! (through ! refl (fld ! refl (stop !))) (look_in ! 5 (sub ! 0 refl (whole !))))) refl (tt, tt) $
        sets ! (un ! (get ! refl) (record { fits = wide })) refl (tt, record { fits = wide }) $
        sets ! (bin ! (get ! refl) (size_lit ! (record { fits = sized.0 })) (record { fits = sized.1 })) refl (tt, record { fits = sized.1 }) $
        sets ! (bin ! (get ! refl) (get ! refl) tt) refl (tt, tt) $
        sets_last ! (of_opd ! (load ! (through ! refl (stop !)) (look ! 0 refl))) refl good $
        exec ! 𝓣.C 𝓣.Λ (env (here).locals l) (after 1 (here).body) (at_ret (env (here).locals l) Post) $ sets ! (of_opd ! (get ! refl)) refl good $
        forget ! 0 refl $ move ! (0 ∷ 2 ∷ []) $ use2 𝓛 (‵ (all E b new.slots o)) (empty_back E 𝓛 b d.slots i o inside) $
        move ! (0 ∷ 2 ∷ 3 ∷ 4 ∷ 5 ∷ 6 ∷ 7 ∷ []) $ closed E ! tt new b o rb ro at_b fit $
        returns ! (look_at ! 0 refl) $ free_all ! refl $
        -- [obs; the borrow; the token; what the child owns; the other token]
        suffices ! _ (ends_at 𝓛 T stayed c z v x (new, (tt, tt)) (tt, (tt, tt))) $ says_two ! (is, refl) $
        feq_i ! (List Val) (vptr rb ro ∷ []) (vptr rb ro ∷ []) refl $ fjoin3 ! $ nothing ! $ nothing ! $ fjoin ! $ move ! (1 ∷ 0 ∷ []) $ fjoin ! $
        move ! (1 ∷ 3 ∷ []) $ join ! $ keep ! (0 ∷ 1 ∷ 2 ∷ []) $ done !)))))

pub take_spec : {M : Type 1} → statement M
take_spec 𝓤 𝓛 𝓜 𝓡 wired X L =
    let E : El = record { row = X; laws = L } in
    proved 𝓛 (T E) (stayed E) (c E 𝓛 𝓜 𝓡) 𝓜 𝓡 (Goes-ref 𝓛 2 0 tt (plain (λ _. Row E)), (Goes-dropped 𝓛 2 (plain (λ _. u8)) yes (λ κs x w. refl), tt))
    (#self (args E)) (here E) (code.unfolded 𝓤 𝓛.H 𝓜 𝓡 wired (X, tt))
    (λ κs. (mut_vals, (uint_vals w8, tt))) (λ κs. (mut_Tells (named 0) κs.0 (Row E), (uint_Tells w8, tt)))
    (λ κs qs bounds a g are. walk E 𝓛 𝓜 𝓡 ((κs, qs, bounds, a, (mut_vals a.0, (uint_vals w8 a.1.0, tt))), g) are.1.0.1)
