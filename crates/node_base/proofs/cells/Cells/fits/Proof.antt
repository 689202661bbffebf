-- `fits` learns the bound on a block's size from a `&` to it.
use Rattle.node_base.proofs.CellWalks.{List, [], ◌∷◌, refl, ℕ, ◌+◌, proved, Ura, ftrue, flft, ent, Fn, named, inst_fn, Val, vunit, vptr, Model, WpFn, Logic, ◌⊑◌, fact, Running, tables, owns, plain, types_at, nothing, says, Clauses, Ended, Stays, stay_dropped, walk_of, ends_at, Goes-dropped, ‵, raw, ◌⊛◌, ◌$◌, ◌∵◌, !, qed, move, keep, use1, drop, split, split3, fsplit, fjoin, feq_i, flt_l, suffices, done, unit_lit, of_opd, returns, enter, alloc_all, pass_all, free_all, look_at, sets, yes, RefOf, shr_vals, shr_Tells, El, R, args}
use Rattle.std.proofs.Common.{lit<}
use denote.Memory.{hidden_shr}
use denote.RawPtr.{RawPtr}
use Rattle.node_base.specs.inner.Cells.{cells_lent, bound}
use Rattle.node_base.proofs.CellSteps.{Row, Block, shown}
use Rattle.node_base.specs.contracts.cells.Cells.fits as F
use Rattle.node_base.specs.contracts.cells.Cells.fits.Key.{name as #self}
use Rattle.node_base.proofs.cells.Cells.fits.Statement.{statement}
use Rattle.node_base.proofs.cells.Cells.fits.Code as code

module _ (E : El) where
  abbrev T : Ended
  T = F.ended E.row

  abbrev here : Fn
  here = inst_fn (args E) code.function

  abbrev stayed : Stays T.signature.params T.kept
  stayed = (stay_dropped (RefOf (0 ∷ []) tt (plain (λ _. Row E)) (λ _. tt)) yes, tt)

  module _ {M : Type 1} {𝓤 : Ura M} (𝓛 : Logic 𝓤) (𝓜 : Model 𝓤 𝓛.H) (𝓡 : Running 𝓤 𝓛.H 𝓜) where
    abbrev c : Clauses 𝓤 T
    c = F.clauses E.row 𝓛 𝓜.mem 𝓡.returns

    abbrev In : Type 0
    In = (walk_of 𝓛 T stayed c).Ghost

    -- the parameter, at its machine value
    abbrev told : In → In
    told y = ((y.0.0, y.0.1, y.0.2, y.0.3, (shr_vals y.0.3.0, tt)), y.1)

    walk : (y : In)
        → ent 𝓤 ((walk_of 𝓛 T stayed c).pre (told y)) (WpFn 𝓤 𝓛.H (tables 𝓤 𝓛.H 𝓜 𝓡 𝓡.env).C (tables 𝓤 𝓛.H 𝓜 𝓡 𝓡.env).Λ here ((walk_of 𝓛 T stayed c).args (told y)) ((walk_of 𝓛 T stayed c).post (told y)))
    walk y =
        let z : In = told y in let κ = y.0.0.0 in let self = y.0.3.0 in let d : Block E = self.now in
        let rb : ℕ = self.ref_ptr.0 in let ro : ℕ = self.ref_ptr.1 in let 𝓣 = tables 𝓤 𝓛.H 𝓜 𝓡 𝓡.env in
        qed 𝓛 (((‵ (flft κ y.0.1.0) ⊛ ‵ (flft y.0.0.1.0 y.0.1.1.0) ⊛ ‵ ftrue) ⊛ ‵ (owns (types_at (T).signature.params y.0.0) y.0.3 z.0.4)) ∷ (raw (fact 𝓤 (y.0.0.1.0 ⊑ E.row.lives)) ⊛ ‵ ftrue) ∷ []) ∵
        keep ! (0 ∷ []) $ split ! $ move ! (1 ∷ []) $ fsplit ! $ fsplit ! $ drop ! $
        use1 𝓛 (‵ (hidden_shr RawPtr κ d.ptr rb (ro + 0)) ⊛ ‵ (bound (R E)) ⊛ ‵ (cells_lent (R E) d.slots d.ptr κ)) (shown E 𝓛 κ d rb ro) $
        split3 ! $ move ! (1 ∷ []) $ flt_l ! (λ fit. keep ! (3 ∷ []) $
        enter ! 𝓣.C 𝓣.Λ here (vptr rb ro ∷ []) _ $ alloc_all ! (λ l. pass_all ! refl ((tt, tt), tt) $
        sets ! (of_opd ! (unit_lit !)) refl (tt, tt) $ returns ! (look_at ! 0 refl) $ free_all ! refl $
        suffices ! _ (ends_at 𝓛 T stayed c z vunit tt (tt, tt) (tt, tt)) $ says ! (fit, lit< tt) $
        feq_i ! (List Val) (vunit ∷ []) (vunit ∷ []) refl $ nothing ! $ nothing ! $ fjoin ! $ keep ! (2 ∷ 0 ∷ 1 ∷ []) $ done !))

pub fits_spec : {M : Type 1} → statement M
fits_spec 𝓤 𝓛 𝓜 𝓡 wired X L =
    let E : El = record { row = X; laws = L } in
    proved 𝓛 (T E) (stayed E) (c E 𝓛 𝓜 𝓡) 𝓜 𝓡 (Goes-dropped 𝓛 2 (RefOf (0 ∷ []) tt (plain (λ _. Row E)) (λ _. tt)) yes (λ κs x w. refl), tt)
    (#self (args E)) (here E) (code.unfolded 𝓤 𝓛.H 𝓜 𝓡 wired (X, tt))
    (λ κs. (shr_vals, tt)) (λ κs. (shr_Tells (named 0) κs.0 (Row E), tt))
    (λ κs qs bounds a g are. walk E 𝓛 𝓜 𝓡 ((κs, qs, bounds, a, (shr_vals a.0, tt)), g))
