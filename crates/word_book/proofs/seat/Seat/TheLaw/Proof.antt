-- A `&` to a seat shows that its book stands. That can be had twice, and says nothing of the view. Assumes `Logic`.
use Rattle.std.proofs.Common.{[], ◌∷◌}
use seplogic.Ra.Ura.{Ura}
use base.Logic.{ent, sep, wand, apply∗, snd∗}
use base.Before.{before}
use base.Fml.{Lft, Fml, fbor}
use types.Logic.{Logic, sem, lfts}
use types.Kit.{‵, raw, ◌⊛◌, later, ◌$◌, ◌∵◌, !, qed, move, drop, split, use1, use2, updating, await, now, done}
use denote.RattleType.{RattleType}
use denote.Sharing.{ShrLaws}
use denote.Param.Laws.{Laws}
use denote.Param.Shared.{copy_shared}
use denote.Struct.Tuple.{Tuple}
use denote.Struct.Laws.{field_copy}
use denote.Struct.Lending.{Lends, of_Lends}
use Rattle.core.specs.contracts.marker.PhantomData as marker
use Rattle.word_book.specs.Book.{Book}
use Rattle.word_book.specs.inner.Owned.{contents, view_at, stands, seat_owns, seat_shows}
use Rattle.word_book.specs.declared.seat.Rule.{Ghosts}
use Rattle.word_book.specs.contracts.seat.Seat as C
use Rattle.word_book.proofs.seat.Seat.TheLaw.Statement.{statement}

module _ (V P : RattleType) (g : Ghosts P.Denot V.Denot) (b : Book) where
  abbrev N : Fml
  N = stands V.coded.code g.holds b

  shown : ShrLaws (seat_shows V.coded.code g.holds b)
  unfolding Rattle.atomic_table.specs.Seated.seal
  shown = record {
    contraction = λ M 𝓤 𝓛 κ. 𝓛.invs.named_dup b.number (contents V.coded.code g.holds b.views_name b.words_name);
    mono = λ M 𝓤 𝓛 κ' κ. snd∗ 𝓤 (sem 𝓛 (before κ' κ)) (sem 𝓛 N);
  }

  lends : {M : Type 1} {𝓤 : Ura M} (𝓛 : Logic 𝓤) (id : Rattle.std.proofs.Common.ℕ) (v : V.Denot) (l : Lft) → Lends 𝓛 (seat_owns V.coded.code g.holds b id v) (seat_shows V.coded.code g.holds b) l
  unfolding Rattle.atomic_table.specs.Seated.seal
  lends {𝓤 = 𝓤} 𝓛 id v l κ ts inc sp =
      let Whole : Fml = seat_owns V.coded.code g.holds b id v in let Back = 𝓛.H.⇛ (sep 𝓤 (𝓛.A.bor κ Whole) (lfts 𝓛 ts)) in
      qed 𝓛 (‵ (fbor κ Whole) ∷ raw (lfts 𝓛 ts) ∷ []) ∵ updating ! $
      use2 𝓛 (later (‵ Whole ⊛ raw (wand 𝓤 (sem 𝓛 Whole) Back))) (𝓛.more.bor_acc_by κ ts Whole sp) $ await ! tt $ split ! $
      use1 𝓛 (‵ N ⊛ ‵ (view_at V.coded.code b id v)) (base.Logic.id⊢ 𝓤 _) $ split ! $ use1 𝓛 (‵ N ⊛ ‵ N) (𝓛.invs.named_dup b.number (contents V.coded.code g.holds b.views_name b.words_name)) $ split ! $
      -- [that it stands, twice; the view; the way back]
      move ! (0 ∷ 2 ∷ []) $ use2 𝓛 (‵ Whole) (base.Logic.id⊢ 𝓤 _) $ move ! (0 ∷ 2 ∷ []) $ use2 𝓛 (later (‵ (fbor κ Whole) ⊛ raw (lfts 𝓛 ts))) (apply∗ 𝓤 (sem 𝓛 Whole) Back) $ await ! tt $ split ! $
      drop ! $ move ! (1 ∷ 0 ∷ []) $ now ! $ done !

pub shares : (V P : RattleType) (g : Ghosts P.Denot V.Denot) (L : Laws V) (L' : Laws P) → statement V P g L L'
shares V P g L L' =
    let Both = Tuple (V ∷ P ∷ []) in
    of_Lends (C.struct V P g) (C.the_codes V.Denot P.Denot V.coded P.coded (marker.the_row Both).coded) (C.the_heap V P g) (C.the_lent V P g)
    (λ s p. shown V P g s.book) (copy_shared (marker.the_field Both) (field_copy (marker.the_type Both) tt), tt)
    (λ M 𝓤 𝓛 s p. lends V P g s.book 𝓛 s.id s.view (C.the_row V P g).lives)
