-- One cell comes out of a row of cells and goes back, and empty cells are room for an array.
use Rattle.std.specs.Prelude.{List, [], ◌∷◌, Option, Some, None, IsSome, length, get_or, set, replicate}
use Rattle.std.proofs.Common.{◌≡◌, refl, sym, ℕ, zero, suc, ◌+◌, ◌*◌, ◌<◌, true≢false, not-suc-le-zero, le_of_suc-le-suc}
use Rattle.std.proofs.lemmas.Option.{none-some}
use seplogic.Ra.Ura.{Ura}
use base.Fraction.{full_share}
use base.Logic.{ent, sep, ex, guard, never}
use base.Fml.{Lft, Fml, ftrue, fsep, fat, froom}
use mir.Syntax.{ty_array}
use mir.Val.{Val}
use types.Logic.{Logic, sem}
use types.Kit.{‵, ◌⊛◌, some, given, ◌$◌, ◌∵◌, !, qed, by, move, keep, drop, show, use1, use2, split, pick, learn, rewrite, fsplit, check, frame, done}
use denote.Memory.{part_at, hidden_shr}
use denote.RawPtr.{block_ptr, null_ptr}
use denote.Index.{place, place_is}
use Rattle.core.specs.Mem.{type_size}
use Rattle.core.proofs.mem.Param.{El, R, el_x, elτ, Good}
use Rattle.core.proofs.slice.Rows.{el_out, el_in}
use Rattle.node_base.specs.inner.Cells.{cell, cells, cell_lent, cells_lent}

-- the value of a filled cell
pub filling : {X : Type 0} (c : Option X) → IsSome c → (x : X) × (c ≡ Some x)
filling None e = absurd (true≢false (sym e))
filling (Some x) e = (x, refl)

module _ (E : El) where
  -- bytes that a value takes
  abbrev pub step_size : ℕ
  step_size = type_size (R E)

  abbrev pub Slots : Type 0
  Slots = List (Option (el_x E))

module _ (E : El) (b : ℕ) where
  abbrev pub one : Option (el_x E) → ℕ → Fml
  one c o = cell (R E) c (block_ptr b o)

  abbrev pub all : Slots E → ℕ → Fml
  all cs o = cells (R E) cs (block_ptr b o)

  -- the row without one cell
  abbrev pub rest : Slots E → ℕ → ℕ → Fml
  rest [] i o = ftrue
  rest (c ∷ cs) zero o = all cs (o + step_size E)
  rest (c ∷ cs) (suc i) o = fsep (one c o) (rest cs i (o + step_size E))

module _ (E : El) {M : Type 1} {𝓤 : Ura M} (𝓛 : Logic 𝓤) (b : ℕ) where
  open 𝓛 use {H}

  abbrev s : ℕ
  s = step_size E

  out : (cs : Slots E) (i o : ℕ) → i < length cs
      → ent 𝓤 (sem 𝓛 (all E b cs o)) (sep 𝓤 (sem 𝓛 (one E b (get_or cs i None) (place s o i))) (sem 𝓛 (rest E b cs i o)))
  out [] i o l = absurd (not-suc-le-zero l)
  out (c ∷ cs) zero o l = qed 𝓛 (‵ (all E b (c ∷ cs) o) ∷ []) ∵ fsplit ! $ done !
  out (c ∷ cs) (suc i) o l =
      qed 𝓛 (‵ (all E b (c ∷ cs) o) ∷ []) ∵ fsplit ! $ move ! (1 ∷ []) $
      use1 𝓛 (‵ (one E b (get_or cs i None) (place s (o + s) i)) ⊛ ‵ (rest E b cs i (o + s))) (out cs i (o + s) (le_of_suc-le-suc l)) $
      split ! $ frame ! $ move ! (1 ∷ 0 ∷ []) $ done !

  back : (cs : Slots E) (i o : ℕ) (c : Option (el_x E)) → i < length cs
      → ent 𝓤 (sep 𝓤 (sem 𝓛 (one E b c (place s o i))) (sem 𝓛 (rest E b cs i o))) (sem 𝓛 (all E b (set cs i c) o))
  back [] i o c l = absurd (not-suc-le-zero l)
  back (d ∷ cs) zero o c l = qed 𝓛 (‵ (one E b c o) ∷ ‵ (all E b cs (o + s)) ∷ []) ∵ done !
  back (d ∷ cs) (suc i) o c l =
      qed 𝓛 (‵ (one E b c (place s (o + s) i)) ∷ ‵ (rest E b (d ∷ cs) (suc i) o) ∷ []) ∵
      move ! (1 ∷ []) $ fsplit ! $ move ! (2 ∷ 1 ∷ []) $
      use2 𝓛 (‵ (all E b (set cs i c) (o + s))) (back cs i (o + s) c (le_of_suc-le-suc l)) $ move ! (1 ∷ 0 ∷ []) $ done !

  module _ (cs : Slots E) (i o : ℕ) (l : i < length cs) where
    -- an empty cell's room
    pub empty_out : get_or cs i None ≡ None
        → ent 𝓤 (sem 𝓛 (all E b cs o)) (sep 𝓤 (H.room (elτ E) b (i * s + o)) (sem 𝓛 (rest E b cs i o)))
    empty_out e =
        qed 𝓛 (‵ (all E b cs o) ∷ []) ∵
        use1 𝓛 (‵ (one E b (get_or cs i None) (place s o i)) ⊛ ‵ (rest E b cs i o)) (out cs i o l) $ split ! $
        rewrite ! 0 (λ (c : Option (el_x E)). ‵ (one E b c (place s o i))) e refl $
        rewrite ! 0 (λ (k : ℕ). ‵ (one E b None k)) (place_is s o i) refl $
        use1 𝓛 (‵ (froom (elτ E) b (i * s + o))) (𝓛.laws.raw-room (elτ E) b (i * s + o)) $ done !

    pub empty_back : ent 𝓤 (sep 𝓤 (H.room (elτ E) b (i * s + o)) (sem 𝓛 (rest E b cs i o))) (sem 𝓛 (all E b (set cs i None) o))
    empty_back =
        qed 𝓛 (‵ (froom (elτ E) b (i * s + o)) ∷ ‵ (rest E b cs i o) ∷ []) ∵
        use1 𝓛 (‵ (one E b None (i * s + o))) (𝓛.laws.room-raw (elτ E) b (i * s + o)) $
        rewrite ! 0 (λ (k : ℕ). ‵ (one E b None k)) (sym (place_is s o i)) refl $ by ! (back cs i o None l)

    module _ (x : el_x E) where
      -- a filled cell's machine value, with what it owns
      pub filled_out : get_or cs i None ≡ Some x
          → ent 𝓤 (sem 𝓛 (all E b cs o)) (ex 𝓤 (λ (v : Val). guard 𝓤 (Good E v) (sep 𝓤 (H.at full_share (elτ E) b (i * s + o) v) (sep 𝓤 (sem 𝓛 (E.row.own_val x (v ∷ []))) (sem 𝓛 (rest E b cs i o))))))
      filled_out e =
          qed 𝓛 (‵ (all E b cs o) ∷ []) ∵
          use1 𝓛 (‵ (one E b (get_or cs i None) (place s o i)) ⊛ ‵ (rest E b cs i o)) (out cs i o l) $ split ! $
          rewrite ! 0 (λ (c : Option (el_x E)). ‵ (one E b c (place s o i))) e refl $
          rewrite ! 0 (λ (k : ℕ). ‵ (part_at (R E) full_share x b k)) (place_is s o i) refl $
          use1 𝓛 (some (λ (v : Val). given (Good E v) (‵ (fat full_share (elτ E) b (i * s + o) v) ⊛ ‵ (E.row.own_val x (v ∷ []))))) (el_out E 𝓛 b x (i * s + o)) $
          pick ! (λ v. learn ! (λ good. split ! $
          show ! (λ (w : Val). guard 𝓤 (Good E w) (sep 𝓤 (H.at full_share (elτ E) b (i * s + o) w) (sep 𝓤 (sem 𝓛 (E.row.own_val x (w ∷ []))) (sem 𝓛 (rest E b cs i o))))) v $
          check ! good $ done !))

      pub filled_back : (v : Val)
          → ent 𝓤 (sep 𝓤 (H.at full_share (elτ E) b (i * s + o) v) (sep 𝓤 (sem 𝓛 (E.row.own_val x (v ∷ []))) (sem 𝓛 (rest E b cs i o)))) (sem 𝓛 (all E b (set cs i (Some x)) o))
      filled_back v =
          qed 𝓛 (‵ (fat full_share (elτ E) b (i * s + o) v) ∷ ‵ (E.row.own_val x (v ∷ [])) ∷ ‵ (rest E b cs i o) ∷ []) ∵
          use2 𝓛 (‵ (part_at (R E) full_share x b (i * s + o))) (el_in E 𝓛 b x (i * s + o) v) $
          rewrite ! 0 (λ (k : ℕ). ‵ (part_at (R E) full_share x b k)) (sym (place_is s o i)) refl $ by ! (back cs i o (Some x) l)

  -- room for an array, as empty cells
  pub of_room : (n o : ℕ) → ent 𝓤 (H.room (ty_array (elτ E) n) b o) (sem 𝓛 (all E b (replicate n None) o))
  of_room zero o = qed 𝓛 (‵ (froom (ty_array (elτ E) 0) b o) ∷ []) ∵ keep ! [] $ done !
  of_room (suc n) o =
      qed 𝓛 (‵ (froom (ty_array (elτ E) (suc n)) b o) ∷ []) ∵
      use1 𝓛 (‵ (froom (elτ E) b o) ⊛ ‵ (froom (ty_array (elτ E) n) b (o + s))) (𝓛.laws.room_uncons (elτ E) n b o) $ split ! $
      use1 𝓛 (‵ (one E b None o)) (𝓛.laws.room-raw (elτ E) b o) $ frame ! $ by ! (of_room n (o + s))

  pub to_room : (n o : ℕ) → ent 𝓤 (sem 𝓛 (all E b (replicate n None) o)) (H.room (ty_array (elτ E) n) b o)
  to_room zero o = 𝓛.laws.room_nil (elτ E) b o
  to_room (suc n) o =
      qed 𝓛 (‵ (one E b None o) ∷ ‵ (all E b (replicate n None) (o + s)) ∷ []) ∵
      use1 𝓛 (‵ (froom (elτ E) b o)) (𝓛.laws.raw-room (elτ E) b o) $ move ! (1 ∷ []) $
      use1 𝓛 (‵ (froom (ty_array (elτ E) n) b (o + s))) (to_room n (o + s)) $ move ! (1 ∷ []) $ by ! (𝓛.laws.room_cons (elτ E) n b o)

module _ (E : El) {M : Type 1} {𝓤 : Ura M} (𝓛 : Logic 𝓤) (κ : Lft) (x : el_x E) where
  -- nothing is lent at null
  pub none_at_null : (cs : Slots E) (i : ℕ) → get_or cs i None ≡ Some x → ent 𝓤 (sem 𝓛 (cells_lent (R E) cs null_ptr κ)) (never 𝓤)
  none_at_null [] i e = absurd (none-some x e)
  none_at_null (c ∷ cs) zero e =
      qed 𝓛 (‵ (cell_lent (R E) c null_ptr κ) ∷ ‵ (cells_lent (R E) cs null_ptr κ) ∷ []) ∵
      rewrite ! 0 (λ (d : Option (el_x E)). ‵ (cell_lent (R E) d null_ptr κ)) e refl $ fsplit ! $ keep ! (0 ∷ []) $ done !
  none_at_null (c ∷ cs) (suc i) e =
      qed 𝓛 (‵ (cell_lent (R E) c null_ptr κ) ∷ ‵ (cells_lent (R E) cs null_ptr κ) ∷ []) ∵ drop ! $ by ! (none_at_null cs i e)

  -- the child that a filled cell shows
  lent_out : (cs : Slots E) (i b o : ℕ) → get_or cs i None ≡ Some x
      → ent 𝓤 (sem 𝓛 (cells_lent (R E) cs (block_ptr b o) κ)) (sem 𝓛 (hidden_shr (R E) κ x b (place (step_size E) o i)))
  lent_out [] i b o e = absurd (none-some x e)
  lent_out (c ∷ cs) zero b o e =
      qed 𝓛 (‵ (cell_lent (R E) c (block_ptr b o) κ) ∷ ‵ (cells_lent (R E) cs (block_ptr b (o + step_size E)) κ) ∷ []) ∵
      rewrite ! 0 (λ (d : Option (el_x E)). ‵ (cell_lent (R E) d (block_ptr b o) κ)) e refl $ fsplit ! $ keep ! (1 ∷ []) $ done !
  lent_out (c ∷ cs) (suc i) b o e =
      qed 𝓛 (‵ (cell_lent (R E) c (block_ptr b o) κ) ∷ ‵ (cells_lent (R E) cs (block_ptr b (o + step_size E)) κ) ∷ []) ∵
      drop ! $ by ! (lent_out cs i b (o + step_size E) e)

  pub child_lent : (cs : Slots E) (i b o : ℕ) → get_or cs i None ≡ Some x
      → ent 𝓤 (sem 𝓛 (cells_lent (R E) cs (block_ptr b o) κ)) (sem 𝓛 (hidden_shr (R E) κ x b (i * step_size E + o)))
  child_lent cs i b o e =
      qed 𝓛 (‵ (cells_lent (R E) cs (block_ptr b o) κ) ∷ []) ∵
      use1 𝓛 (‵ (hidden_shr (R E) κ x b (place (step_size E) o i))) (lent_out cs i b o e) $
      rewrite ! 0 (λ (k : ℕ). ‵ (hidden_shr (R E) κ x b k)) (place_is (step_size E) o i) refl $ done !
