-- `within` takes room for an array apart, into empty cells.
use Rattle.node_base.proofs.CellWalks.{List, [], ◌∷◌, Option, None, replicate, ◌≡◌, refl, ap, ◌∙◌, ◌<◌, ◌^◌, proved_at, Ura, ftrue, froom, flft, SProp, ent, Fn, inst_fn, Val, Model, WpFn, Logic, sem, id⊢, ◌⊑◌, fact, Running, tables, owns, plain, types_at, heard, nothing, says, Clauses, Ended, Stays, stay_dropped, walk_of, ends_at, Goes-dropped, ‵, raw, ◌⊛◌, ◌$◌, ◌∵◌, !, qed, move, keep, use1, rewrite, drop, split, fsplit, fjoin, suffices, done, whole, sub, agg, stop, fld, of_opd, no_more, and_then, returns, enter, alloc_all, pass_all, free_all, look_at, get, get_in, sets, no, El, R, args, el_x, elτ}
use base.Logic.{never, fst∗}
use mathlib.Core.List.{◌++◌}
use mir.Syntax.{ty_array}
use prog.Memory.{size}
use denote.Param.{layout}
use types.Kit.{regoal, prop}
use denote.Array.{Array}
use denote.Laws.{Is, shows}
use denote.RattleType.{RattleType}
use denote.RawPtr.{Ptr, block_ptr, null_ptr, in_a_block}
use denote.Steps.{peeks}
use denote.Struct.Owning.{to}
use Rattle.std.proofs.lemmas.List.{length-replicate}
use Rattle.std_alloc.specs.Vacant.{vacant}
use Rattle.std_alloc.specs.Vec.Ownership.{FitsInBlock}
use Rattle.std_alloc.specs.contracts.room.vacant.Vacant as V
use Rattle.std_heap.specs.contracts.Global as Heap
use Rattle.std_heap.specs.contracts.GlobalAllocator.TheImpl.{ghosts}
use Rattle.node_base.proofs.CellRows.{all, of_room}
use Rattle.node_base.proofs.CellSteps.{Row, Block, Words, words, word, words_tell, right, made}
use Rattle.node_base.specs.contracts.cells.Cells as C
use Rattle.node_base.specs.contracts.cells.Cells.within as F
use Rattle.node_base.specs.contracts.cells.Cells.within.Key.{name as #self}
use Rattle.node_base.proofs.cells.Cells.within.Statement.{statement}
use Rattle.node_base.proofs.cells.Cells.within.Code as code

module _ (E : El) where
  abbrev T : Ended
  T = F.ended E.row

  abbrev here : Fn
  here = inst_fn (args E) code.function

  -- room for an array of 256 children
  abbrev Room : RattleType
  Room = V.the_row (Array (R E) 256) Heap.the_row ghosts

  abbrev stayed : Stays T.signature.params T.kept
  stayed = (stay_dropped (plain (λ _. Room)) no, tt)

  abbrev empty : (Room).Denot → Block E
  empty v = record { ptr = v.ptr; alloc = v.alloc; slots = replicate 256 None; full = length-replicate {A = Option (el_x E)} 256 None }

  module _ {M : Type 1} {𝓤 : Ura M} (𝓛 : Logic 𝓤) (𝓜 : Model 𝓤 𝓛.H) (𝓡 : Running 𝓤 𝓛.H 𝓜) where
    abbrev c : Clauses 𝓤 T
    c = F.clauses E.row 𝓛 𝓜.mem 𝓡.returns

    walk : (z : (walk_of 𝓛 T stayed c).Ghost)
        → ent 𝓤 ((walk_of 𝓛 T stayed c).pre z) (WpFn 𝓤 𝓛.H (tables 𝓤 𝓛.H 𝓜 𝓡 𝓡.env).C (tables 𝓤 𝓛.H 𝓜 𝓡 𝓡.env).Λ here ((walk_of 𝓛 T stayed c).args z) ((walk_of 𝓛 T stayed c).post z))
    walk z =
        let v = z.0.3.0 in let vs : List Val = z.0.4.0 in let d : Block E = empty v in
        let 𝓣 = tables 𝓤 𝓛.H 𝓜 𝓡 𝓡.env in let Post : Val → SProp 𝓤 = (walk_of 𝓛 T stayed c).post z in
        let token = ghosts.dealloc_token v.alloc in
        qed 𝓛 (((‵ (flft z.0.0.0 z.0.1.0) ⊛ ‵ ftrue) ⊛ ‵ (owns (types_at (T).signature.params z.0.0) z.0.3 z.0.4)) ∷ (raw (fact 𝓤 (z.0.0.0 ⊑ E.row.lives)) ⊛ raw (fact 𝓤 (size (layout (Array (R E) 256)) < 2 ^ 63)) ⊛ raw (fact 𝓤 (FitsInBlock (R E) 256))) ∷ []) ∵
        move ! (1 ∷ []) $ split ! $ drop ! $ split ! $ drop ! $ heard ! (FitsInBlock (R E) 256) (λ fit.
        split ! $ move ! (1 ∷ []) $ fsplit ! $ fsplit ! $ use1 𝓛 (‵ (words E d vs)) (id⊢ 𝓤 _) $
        peeks ! (Words E) (Is (Words E)) (shows 𝓛 (Words E)) (to (C.the_type (R E)) d) vs (λ is.
        let bits = words_tell E d vs is in
        move ! (1 ∷ []) $ in_a_block ! v.ptr (vacant token (Array (R E) 256)) (fst∗ 𝓤 (never 𝓤) (sem 𝓛 (right E v.alloc null_ptr))) (λ b o e. fsplit ! $
        let at : vs ≡ word E (block_ptr b o) v.alloc ∷ [] = bits ∙ ap (λ (p : Ptr). word E p v.alloc ∷ []) e in
        -- [the room; the right; the words; nothing; the token]
        use1 𝓛 (‵ (froom (ty_array (elτ E) 256) b o)) (𝓛.laws.raw-room (ty_array (elτ E) 256) b o) $
        use1 𝓛 (‵ (all E b d.slots o)) (of_room E 𝓛 b 256 o) $ made E ! d vs b o e fit.0 $ keep ! (0 ∷ 2 ∷ []) $
        rewrite ! 0 (λ (us : List Val). ‵ ((Row E).own_val d us)) at refl $
        regoal ! (λ (us : List Val). prop (WpFn 𝓤 𝓛.H 𝓣.C 𝓣.Λ here (us ++ []) Post)) at refl $
        enter ! 𝓣.C 𝓣.Λ here (word E (block_ptr b o) v.alloc ∷ []) _ $ alloc_all ! (λ l. pass_all ! refl ((tt, (tt, (((tt, tt), tt), tt))), tt) $
        sets ! (of_opd ! (get_in ! (fld ! refl (stop !)) (sub ! 0 refl (whole !)))) refl (tt, tt) $
        sets ! (of_opd ! (get_in ! (fld ! refl (stop !)) (sub ! 1 refl (whole !)))) refl (tt, ((tt, tt), tt)) $
        sets ! (of_opd ! (get ! refl)) refl (tt, tt) $
        sets ! (agg ! (and_then ! (get ! refl) (and_then ! (get ! refl) (no_more !)))) refl (tt, (tt, (((tt, tt), tt), tt))) $
        returns ! (look_at ! 0 refl) $ free_all ! refl $
        suffices ! _ (ends_at 𝓛 T stayed c z (word E (block_ptr b o) v.alloc) d (tt, tt) (tt, tt)) $ says ! refl $
        nothing ! $ nothing ! $ fjoin ! $ keep ! (2 ∷ 0 ∷ 1 ∷ []) $ done !))))

pub within_spec : {M : Type 1} → statement M
within_spec 𝓤 𝓛 𝓜 𝓡 wired X L =
    let E : El = record { row = X; laws = L } in
    proved_at 𝓛 (T E) (stayed E) (c E 𝓛 𝓜 𝓡) 𝓜 𝓡 (Goes-dropped 𝓛 1 (plain (λ _. Room E)) no (λ κs x w. refl), tt)
    (#self (args E)) (here E) (code.unfolded 𝓤 𝓛.H 𝓜 𝓡 wired (X, tt)) (λ z are. walk E 𝓛 𝓜 𝓡 z)
