-- A `&` to a word is an invariant with the word and its part, of a number above the book's. It is made by lending the
-- word's bytes, and gives them back once the borrow is over. Assumes `Logic`.
use Rattle.std.proofs.Common.{ℕ, zero, ◌+◌, ◌<◌, ◌≤◌, List, [], ◌∷◌, refl, sym, arith, add-zero}
use seplogic.Ra.Ura.{Ura}
use mir.Val.{Val}
use base.Fraction.{full_share}
use base.Logic.{SProp, ent, sep, upd_i, id⊢}
use base.Fml.{Lft, Share, Fml, ftrue, fsep, fseps, fex, fwand, fupd, fdead, fbor, flft, fnamed, Incl-refl}
use base.Before.{before}
use types.Logic.{Logic, sem}
use types.Owned.{named_past}
use types.Kit.{mean, ‵, raw, ◌⊛◌, some, given, later, ◌$◌, ◌∵◌, !, qed, by, move, keep, drop, use0, use1, use2, split, fsplit, fsplit3, fjoin, fjoin3, fpick, fpack, pick, learn, show, assume, suffices, await, updating, now, rewrite, done}
use types.Tokens.{bor_open, obor_alter}
use types.Na.{before-Incl, before_dup}
use denote.RattleType.{RattleType}
use denote.Memory.{part_of, part_at, cell_at, lone}
use denote.Steps.{nothing}
use denote.SharingLaws.{ends_shr_laws}
use denote.Param.Laws.{Laws}
use denote.Struct.Struct.{Struct}
use denote.Struct.Tuple.{Tuple}
use denote.Struct.Members.{Member, Lone, row_of, raw_tys, parts_at}
use denote.Struct.Parts.{shape_of, Struct-left, left_Struct}
use Rattle.core.specs.Sync.RawAtomic.{word}
use Rattle.core.specs.contracts.marker.PhantomData as marker
use Rattle.core.proofs.cell.Borrows.{flag, by_one}
use Rattle.core.proofs.tally.Steps.{word_in, word_out}
use Rattle.atomic_table.specs.Seated.{fact}
use Rattle.word_book.specs.Book.{Name}
use Rattle.word_book.specs.inner.Owned.{beside, lies, reading, lent}
use Rattle.word_book.specs.declared.seat.Rule.{Ghosts}
use Rattle.word_book.specs.contracts.word.Word as C
use Rattle.word_book.proofs.word.Word.TheLaw.Statement.{statement}

module _ (V P : RattleType) (g : Ghosts P.Denot V.Denot) {M : Type 1} {𝓤 : Ura M} (𝓛 : Logic 𝓤) (w : Name) (b o : ℕ) where
  open 𝓛 use {H, A as At}

  abbrev Mark : RattleType
  Mark = marker.the_row (Tuple (V ∷ P ∷ []))

  -- the word's two fields
  abbrev fields : List Member
  fields = flag ∷ record { row = Mark; ty = lone Mark.mir } ∷ []

  abbrev Bare : RattleType
  Bare = Struct (shape_of [] fields)

  -- the struct with the number n, at its place
  abbrev bare_at : ℕ → Fml
  bare_at n = part_at Bare full_share (n, (record {}, tt)) b o

  abbrev Whole : Fml
  Whole = part_at (C.the_written V P g) full_share w b o

  abbrev within : List Val → ℕ → Fml
  within vs n = fsep (Bare.own_val (n, (record {}, tt)) vs) (beside w n)

  abbrev Mine : Fml
  Mine = reading w b o

  -- what lending the number leaves of the struct
  abbrev Marked : Fml
  Marked = fsep (part_at Mark full_share (record {}) b (o + 8)) ftrue

  abbrev Frame : SProp 𝓤
  Frame = H.left full_share (mir.Syntax.ty_struct [] (raw_tys fields)) (raw_tys fields) b o

  opened : ent 𝓤 (sem 𝓛 Whole) (mean 𝓛 (some (λ (n : ℕ). ‵ (bare_at n) ⊛ ‵ (beside w n))))
  unfolding part_of
  opened =
      qed 𝓛 (‵ Whole ∷ []) ∵ fpick ! (λ vs. fsplit ! $ move ! (1 ∷ []) $ use1 𝓛 (‵ (fex ℕ (within vs))) (id⊢ 𝓤 _) $ fpick ! (λ n. fsplit ! $
      move ! (2 ∷ 0 ∷ []) $ fjoin ! $ fpack ! (List Val) (λ us. fsep (cell_at full_share Bare.mir us b o) (Bare.own_val (n, (record {}, tt)) us)) vs $
      show ! (λ (m : ℕ). sep 𝓤 (sem 𝓛 (bare_at m)) (sem 𝓛 (beside w m))) n $ done !))

  closed : (n : ℕ) → ent 𝓤 (sep 𝓤 (sem 𝓛 (bare_at n)) (sem 𝓛 (beside w n))) (sem 𝓛 Whole)
  unfolding part_of
  closed n =
      qed 𝓛 (‵ (bare_at n) ∷ ‵ (beside w n) ∷ []) ∵ fpick ! (λ vs. fsplit ! $ move ! (1 ∷ 2 ∷ []) $ fjoin ! $ fpack ! ℕ (within vs) n $ move ! (1 ∷ 0 ∷ []) $ fjoin ! $
      fpack ! (List Val) (λ us. fsep (cell_at full_share Bare.mir us b o) (fex ℕ (within us))) vs $ done !)

  abbrev ends_with : Lft → Fml
  ends_with κ = fwand (fsep (fdead κ) (fseps (Mine ∷ []))) (fupd Whole)

  gives_back : (κ : Lft) → ent 𝓤 (sep 𝓤 (sem 𝓛 Marked) Frame) (sem 𝓛 (ends_with κ))
  unfolding fseps
  gives_back κ =
      qed 𝓛 (‵ Marked ∷ raw Frame ∷ []) ∵ assume ! (‵ (fsep (fdead κ) (fsep Mine ftrue))) $ suffices ! (sem 𝓛 Whole) (upd_i 𝓤 (sem 𝓛 Whole)) $ fsplit3 ! $ keep ! (1 ∷ 3 ∷ 4 ∷ []) $ fpick ! (λ n. fsplit ! $
      rewrite ! 0 (λ (x : ℕ). ‵ (word b x n)) (sym (add-zero o)) refl $ use1 𝓛 (‵ (part_at (row_of flag) full_share n b (o + 0))) (word_in 𝓛 b (o + 0) n) $ move ! (0 ∷ 2 ∷ []) $ fjoin ! $ move ! (0 ∷ 2 ∷ []) $
      use2 𝓛 (‵ (bare_at n)) (left_Struct 𝓛 full_share [] fields (n, (record {}, tt)) b o) $ by ! (closed n))

  abbrev Shown : Lft → Fml
  Shown κ = fex (Lft × ℕ) (lent w b o κ)

  lends : (κ : Lft) (q : Share) → ent 𝓤 (sep 𝓤 (At.bor κ Whole) (At.lft κ q)) (H.⇛ (sep 𝓤 (sem 𝓛 (Shown κ)) (At.lft κ q)))
  unfolding fseps
  lends κ q =
      qed 𝓛 (‵ (fbor κ Whole) ∷ ‵ (flft κ q) ∷ []) ∵ updating ! $ bor_open ! tt $ move ! (1 ∷ []) $ use1 𝓛 (some (λ (n : ℕ). ‵ (bare_at n) ⊛ ‵ (beside w n))) opened $ pick ! (λ n. split ! $
      use1 𝓛 (‵ (parts_at full_share fields zero (n, (record {}, tt)) b o) ⊛ raw Frame)
      (Struct-left 𝓛 full_share [] fields ((λ x vs p. mathlib.Core.Path.subst Lone (sym p.0) tt), ((λ x vs p. mathlib.Core.Path.subst Lone (sym p.1.0) tt), tt)) (n, (record {}, tt)) b o) $ split ! $ fsplit ! $
      use1 𝓛 (‵ (word b (o + 0) n)) (word_out 𝓛 b (o + 0) n) $ rewrite ! 0 (λ (x : ℕ). ‵ (word b x n)) (add-zero o) refl $
      -- [the number; the marker; the frame; the word's part; the open borrow]
      move ! (0 ∷ 3 ∷ []) $ fjoin ! $ fpack ! ℕ (lies w b o) n $ nothing ! $ move ! (1 ∷ 0 ∷ []) $ fjoin ! $ move ! (1 ∷ 2 ∷ []) $ use2 𝓛 (‵ (ends_with κ)) (gives_back κ) $ move ! (2 ∷ 1 ∷ 0 ∷ []) $
      obor_alter ! tt (Mine ∷ []) $ use1 𝓛 (‵ (fbor κ Mine) ⊛ ‵ ftrue) (id⊢ 𝓤 _) $ split ! $
      use1 𝓛 (later (some (λ (j : ℕ). given (w.book.number + 1 ≤ j) (‵ (fnamed j (fbor κ Mine)))))) (named_past 𝓛 (w.book.number + 1) (fbor κ Mine)) $ await ! tt $ pick ! (λ j. learn ! (λ past.
      nothing ! $ fpack ! (w.book.number < j) (λ _. ftrue) (omega arith) $ use0 𝓛 (‵ (before κ κ)) (before-Incl 𝓛 κ κ (Incl-refl κ)) $ fjoin3 ! $ fpack ! (Lft × ℕ) (lent w b o κ) (κ, j) $
      now ! $ keep ! (0 ∷ 2 ∷ []) $ done !)))

  twice : (κ : Lft) → ent 𝓤 (sem 𝓛 (Shown κ)) (sep 𝓤 (sem 𝓛 (Shown κ)) (sem 𝓛 (Shown κ)))
  twice κ =
      qed 𝓛 (‵ (Shown κ) ∷ []) ∵ fpick ! (λ t. let N : Fml = fnamed t.1 (fbor t.0 Mine) in let later_number : Fml = fact (w.book.number < t.1) in
      fsplit3 ! $ use1 𝓛 (‵ (before κ t.0) ⊛ ‵ (before κ t.0)) (before_dup 𝓛 κ t.0) $ split ! $ move ! (2 ∷ []) $ fpick ! (λ past. drop ! $ move ! (2 ∷ []) $
      use1 𝓛 (‵ N ⊛ ‵ N) (𝓛.invs.named_dup t.1 (fbor t.0 Mine)) $ split ! $
      nothing ! $ fpack ! (w.book.number < t.1) (λ _. ftrue) past $ move ! (3 ∷ 0 ∷ 1 ∷ []) $ fjoin3 ! $ fpack ! (Lft × ℕ) (lent w b o κ) t $
      nothing ! $ fpack ! (w.book.number < t.1) (λ _. ftrue) past $ move ! (3 ∷ 0 ∷ 2 ∷ []) $ fjoin3 ! $ fpack ! (Lft × ℕ) (lent w b o κ) t $ done !))

  shorter : (κ' κ : Lft) → ent 𝓤 (sep 𝓤 (sem 𝓛 (before κ' κ)) (sem 𝓛 (Shown κ))) (sem 𝓛 (Shown κ'))
  shorter κ' κ =
      qed 𝓛 (‵ (before κ' κ) ∷ ‵ (Shown κ) ∷ []) ∵ move ! (1 ∷ []) $ fpick ! (λ t. fsplit ! $ move ! (2 ∷ 0 ∷ []) $
      use2 𝓛 (‵ (before κ' t.0)) ((ends_shr_laws t.0).mono M 𝓤 𝓛 κ' κ) $ fjoin ! $ fpack ! (Lft × ℕ) (lent w b o κ') t $ done !)

pub shares : (V P : RattleType) (g : Ghosts P.Denot V.Denot) (L : Laws V) (L' : Laws P) → statement V P g L L'
shares V P g L L' = record {
  shr_laws = λ w b o. record { contraction = λ M 𝓤 𝓛 κ. twice V P g 𝓛 w b o κ; mono = λ M 𝓤 𝓛 κ' κ. shorter V P g 𝓛 w b o κ' κ };
  shares = λ M 𝓤 𝓛 w κ ts b o inc sp. by_one 𝓛 κ ts sp (𝓛.A.bor κ (Whole V P g 𝓛 w b o)) (sem 𝓛 (Shown V P g 𝓛 w b o κ)) (lends V P g 𝓛 w b o κ);
}
