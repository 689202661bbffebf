-- `emptied` puts empty cells together, into room for an array.
use Rattle.node_base.proofs.CellWalks.{List, [], ◌∷◌, None, replicate, ◌≡◌, refl, sym, ◌<◌, ◌^◌, proved_at, Ura, ftrue, froom, flft, SProp, ent, Fn, inst_fn, Val, Model, WpFn, Logic, id⊢, ◌⊑◌, fact, Running, tables, owns, plain, types_at, heard, nothing, Clauses, Ended, Stays, stay_dropped, walk_of, ends_at, Goes-dropped, ‵, raw, ◌⊛◌, ◌$◌, ◌∵◌, !, qed, move, keep, use1, rewrite, drop, split, fsplit, fjoin, suffices, done, whole, sub, agg, stop, fld, of_opd, no_more, and_then, returns, enter, alloc_all, pass_all, free_all, look_at, get, get_in, sets, no, El, R, args, elτ}
use mathlib.Core.List.{◌++◌}
use mir.Raw.{raw as bare}
use mir.Syntax.{ty_array}
use prog.Memory.{size}
use types.Kit.{regoal, prop, group}
use denote.Array.{Array}
use denote.Param.{layout}
use denote.RattleType.{RattleType}
use denote.RawPtr.{Ptr, block_ptr}
use Rattle.std_alloc.specs.Vacant.{vacant}
use Rattle.std_alloc.specs.contracts.room.vacant.Vacant as V
use Rattle.std_heap.specs.contracts.Global as Heap
use Rattle.std_heap.specs.contracts.GlobalAllocator.TheImpl.{ghosts}
use Rattle.node_base.proofs.CellRows.{Slots, all, to_room}
use Rattle.node_base.proofs.CellSteps.{Row, Block, word, taken}
use Rattle.node_base.specs.contracts.cells.Cells.emptied as F
use Rattle.node_base.specs.contracts.cells.Cells.emptied.Key.{name as #self}
use Rattle.node_base.proofs.cells.Cells.emptied.Statement.{statement}
use Rattle.node_base.proofs.cells.Cells.emptied.Code as code

module _ (E : El) where
  abbrev T : Ended
  T = F.ended E.row

  abbrev here : Fn
  here = inst_fn (args E) code.function

  -- room for an array of 256 children
  abbrev Room : RattleType
  Room = V.the_row (Array (R E) 256) Heap.the_row ghosts

  abbrev stayed : Stays T.signature.params T.kept
  stayed = (stay_dropped (plain (λ _. Row E)) no, tt)

  module _ {M : Type 1} {𝓤 : Ura M} (𝓛 : Logic 𝓤) (𝓜 : Model 𝓤 𝓛.H) (𝓡 : Running 𝓤 𝓛.H 𝓜) where
    abbrev c : Clauses 𝓤 T
    c = F.clauses E.row 𝓛 𝓜.mem 𝓡.returns

    walk : (z : (walk_of 𝓛 T stayed c).Ghost)
        → ent 𝓤 ((walk_of 𝓛 T stayed c).pre z) (WpFn 𝓤 𝓛.H (tables 𝓤 𝓛.H 𝓜 𝓡 𝓡.env).C (tables 𝓤 𝓛.H 𝓜 𝓡 𝓡.env).Λ here ((walk_of 𝓛 T stayed c).args z) ((walk_of 𝓛 T stayed c).post z))
    walk z =
        let d : Block E = z.0.3.0 in let vs : List Val = z.0.4.0 in
        let 𝓣 = tables 𝓤 𝓛.H 𝓜 𝓡 𝓡.env in let Post : Val → SProp 𝓤 = (walk_of 𝓛 T stayed c).post z in
        let Empty : Type 0 = d.slots ≡ replicate 256 None in
        let room : (Room).Denot = record { ptr = d.ptr; alloc = d.alloc } in
        qed 𝓛 (((‵ (flft z.0.0.0 z.0.1.0) ⊛ ‵ ftrue) ⊛ ‵ (owns (types_at (T).signature.params z.0.0) z.0.3 z.0.4)) ∷ (raw (fact 𝓤 (z.0.0.0 ⊑ E.row.lives)) ⊛ raw (fact 𝓤 (size (layout (Array (R E) 256)) < 2 ^ 63)) ⊛ raw (fact 𝓤 Empty)) ∷ []) ∵
        move ! (1 ∷ []) $ split ! $ drop ! $ split ! $ drop ! $ heard ! Empty (λ empty.
        split ! $ move ! (1 ∷ []) $ fsplit ! $ taken E ! d vs (λ b o e at fit.
        let bits : Val = word E (block_ptr b o) d.alloc in
        -- [the cells; the right; the words; nothing; the token]
        rewrite ! 0 (λ (cs : Slots E). ‵ (all E b cs o)) empty refl $
        use1 𝓛 (‵ (froom (ty_array (elτ E) 256) b o)) (to_room E 𝓛 b 256 o) $
        use1 𝓛 (‵ (froom (bare (ty_array (elτ E) 256)) b o)) (𝓛.laws.room-raw (ty_array (elτ E) 256) b o) $ fjoin ! $
        rewrite ! 0 (λ (p : Ptr). ‵ (vacant (ghosts.dealloc_token d.alloc) (Array (R E) 256) p)) (sym e) refl $
        move ! (1 ∷ []) $ fjoin ! $ use1 𝓛 (‵ ((Room).own_val room (bits ∷ []))) (id⊢ 𝓤 _) $ keep ! (0 ∷ 2 ∷ []) $
        regoal ! (λ (us : List Val). prop (WpFn 𝓤 𝓛.H 𝓣.C 𝓣.Λ here (us ++ []) Post)) at refl $
        enter ! 𝓣.C 𝓣.Λ here (bits ∷ []) _ $ alloc_all ! (λ l. pass_all ! refl ((tt, (tt, (((tt, tt), tt), tt))), tt) $
        sets ! (of_opd ! (get_in ! (fld ! refl (stop !)) (sub ! 0 refl (whole !)))) refl (tt, tt) $
        sets ! (of_opd ! (get_in ! (fld ! refl (stop !)) (sub ! 1 refl (whole !)))) refl (tt, ((tt, tt), tt)) $
        sets ! (of_opd ! (get ! refl)) refl (tt, tt) $
        sets ! (agg ! (and_then ! (get ! refl) (and_then ! (get ! refl) (no_more !)))) refl (tt, (tt, (((tt, tt), tt), tt))) $
        returns ! (look_at ! 0 refl) $ free_all ! refl $
        suffices ! _ (ends_at 𝓛 T stayed c z bits room (tt, tt) (tt, tt)) $
        nothing ! $ nothing ! $ fjoin ! $ keep ! (2 ∷ 0 ∷ 1 ∷ []) $ group ! 3 $ nothing ! $ move ! (1 ∷ 0 ∷ []) $ done !)))

pub emptied_spec : {M : Type 1} → statement M
emptied_spec 𝓤 𝓛 𝓜 𝓡 wired X L =
    let E : El = record { row = X; laws = L } in
    proved_at 𝓛 (T E) (stayed E) (c E 𝓛 𝓜 𝓡) 𝓜 𝓡 (Goes-dropped 𝓛 1 (plain (λ _. Row E)) no (λ κs x w. refl), tt)
    (#self (args E)) (here E) (code.unfolded 𝓤 𝓛.H 𝓜 𝓡 wired (X, tt)) (λ z are. walk E 𝓛 𝓜 𝓡 z)
