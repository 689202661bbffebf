-- A seat and a word that a function has by references: opened before a step, and closed after it. Assumes `Logic`.
use Rattle.std.proofs.Common.{◌≡◌, ℕ, List, [], ◌∷◌, refl}
use seplogic.Ra.Ura.{Ura}
use mir.Val.{Val}
use base.Fraction.{full_share}
use base.Stored.{Gv}
use base.Logic.{wand, apply∗}
use base.Fml.{Lft, GName, Share, Fml, fsep, flft, fobs, fauth, fbor, fobor}
use prog.Model.{Model}
use contract.Running.{Running}
use contract.Shared.{Lends-one}
use types.Logic.{Logic}
use types.Kit.{Goal, Soaks, Seq, Item, ‵, raw, ◌⊛◌, some, later, ◌$◌, move, drop, split, fsplit, fsplit3, fjoin, fpick, pick, use2, use3, await, rewrite}
use types.SemTy.{Body}
use denote.RattleType.{RattleType}
use denote.Memory.{cell_at, mem, hidden_shr}
use denote.Opens.{unhide}
use denote.RawPtr.{block_ptr}
use denote.Steps.{opens, closes}
use denote.Struct.Tuple.{Tuple}
use Rattle.core.specs.Sync.RawAtomic.{asks, always}
use Rattle.word_book.specs.Book.{Book, Name, Joined}
use Rattle.word_book.specs.inner.Owned.{pens_own, seat_owns}
use Rattle.word_book.specs.declared.seat.Rule.{Ghosts}
use Rattle.word_book.specs.contracts.seat.Seat as of_seat
use Rattle.word_book.specs.contracts.word.Word as of_word
use Rattle.word_book.proofs.Asks.{Moves}
use Rattle.word_book.proofs.Fields.{Token}
use Rattle.word_book.proofs.Steps as ghostly

module _ (V P : RattleType) (g : Ghosts P.Denot V.Denot) where
  abbrev pub Seat : RattleType
  Seat = of_seat.the_row V P g

  abbrev pub Word : RattleType
  Word = of_word.the_row V P g

  -- what a seat is beside its ghost state
  abbrev pub Plain : RattleType
  Plain = Token (Tuple (V ∷ P ∷ []))

  abbrev pub seat : Book → ℕ → V.Denot → Seat.Denot
  seat b id v = record { marker = record {}; book = b; id = id; view = v }

module _ (V P : RattleType) (g : Ghosts P.Denot V.Denot) {M : Type 1} {𝓤 : Ura M} (𝓛 : Logic 𝓤) (w : Name) (s : (Seat V P g).Denot) (bl of rb ro : ℕ)
    (κ : Lft) (q : Share) (κ' : Lft) (q' : Share) (γ : GName) (f : ℕ → ℕ) (then : ℕ → Joined → V.Denot → Type 0) where
  -- what a step leaves where it found n, and the token of the word's own lifetime
  abbrev pub out : Lft → Share → ℕ → ℕ → Fml
  out α p i n = fsep (flft α p) (ghostly.after 𝓛 V.coded g.holds w.book w.key bl of α p i s.id s.view f then n)

  -- the way back to the token of κ
  abbrev pub back : Lft → Share → Item 𝓤
  back α p = raw (wand 𝓤 (𝓛.A.lft α p) (𝓛.H.⇛ (𝓛.A.lft κ q)))

  abbrev pub within : Fml
  within = Body (mem (Seat V P g)) rb ro γ

  abbrev pub code : (Seat V P g).Denot → Gv
  code t = (Seat V P g).coded.code t

  -- the seat's place, and the open borrow
  abbrev pub open_seat : List Val → List (Item 𝓤) → List (Item 𝓤)
  open_seat vs Γ = ‵ (cell_at full_share (Seat V P g).mir vs rb ro) ∷ ‵ ((Plain V P g).own_val (record {}, tt) vs) ∷ ‵ (fobor κ' q' within) ∷ ‵ (fobs γ (code s)) ∷ ‵ (fauth γ (code s)) ∷ Γ

  module _ {K : Type 0} {Γ : List (Item 𝓤)} {G : Goal 𝓤 𝓛.H} where
    pub ready : K → Soaks G → (𝓜 : Model 𝓤 𝓛.H) (𝓡 : Running 𝓤 𝓛.H 𝓜) → s.book ≡ w.book → Moves g.holds s.id s.view w.key f then
        → ((α : Lft) (p : Share) (i : ℕ) (vs : List Val) → Seq K 𝓛 (raw (asks 𝓛 (block_ptr bl of) f always (out α p i)) ∷ back α p ∷ open_seat vs Γ) G)
        → Seq K 𝓛 (‵ (hidden_shr (Word V P g) κ w bl of) ∷ ‵ (flft κ q) ∷ ‵ (fobs γ (code s)) ∷ ‵ (fbor κ' within) ∷ ‵ (flft κ' q') ∷ Γ) G
    ready t z 𝓜 𝓡 same law k =
        unhide t $ fpick t (λ c. fsplit3 t $ move t (1 ∷ []) $ fpick t (λ past. drop t $
        -- [the lifetime's order; the word's invariant; the token of κ; the seat]
        move t (0 ∷ 2 ∷ []) $ use2 𝓛 (later (some (λ (p : Share). ‵ (flft c.0 p) ⊛ back c.0 p))) (Lends-one 𝓛 𝓜 𝓡 κ c.0 q) $ await t z $ pick t (λ p. split t $
        move t (3 ∷ 4 ∷ 5 ∷ []) $ opens t z (Seat V P g) rb ro (λ vs. move t (1 ∷ []) $ fsplit t $ move t (1 ∷ []) $ rewrite t 0 (λ (b : Book). ‵ (seat_owns V.coded.code g.holds b s.id s.view)) same refl $
        -- [the seat's ghost state; its plain part; its place; the open borrow, in three entries; the token; the way back; the word's invariant]
        move t (8 ∷ 6 ∷ 0 ∷ []) $ use3 𝓛 (raw (asks 𝓛 (block_ptr bl of) f always (out c.0 p c.1))) (ghostly.steps 𝓛 V.coded g.holds w.book w.key bl of c.0 p c.1 s.id s.view f then past law) $
        move t (0 ∷ 6 ∷ 2 ∷ 1 ∷ 3 ∷ 4 ∷ 5 ∷ []) $ k c.0 p c.1 vs))))

    pub settled : K → Soaks G → (α : Lft) (p : Share) (i : ℕ) (vs : List Val) (n : ℕ)
        → ((u : V.Denot) (j : Joined) → then n j u → Seq K 𝓛 (‵ (flft κ q) ∷ ‵ (fobs γ (code (seat V P g w.book s.id u))) ∷ ‵ (fbor κ' within) ∷ ‵ (flft κ' q') ∷ ‵ (pens_own w.book.words_name j.first j.count) ∷ Γ) G)
        → Seq K 𝓛 (‵ (out α p i n) ∷ back α p ∷ open_seat vs Γ) G
    settled t z α p i vs n k =
        fsplit t $ move t (0 ∷ 2 ∷ []) $ use2 𝓛 (later (‵ (flft κ q))) (apply∗ 𝓤 (𝓛.A.lft α p) (𝓛.H.⇛ (𝓛.A.lft κ q))) $ await t z $
        move t (1 ∷ []) $ fpick t (λ x. fsplit3 t $ fpick t (λ so. drop t $
        -- [the seat's ghost state; the rights; the token; the seat's place; its plain part; the open borrow]
        move t (4 ∷ 0 ∷ []) $ fjoin t $ move t (3 ∷ 0 ∷ 4 ∷ 5 ∷ 6 ∷ []) $ closes t z (Seat V P g) (seat V P g w.book s.id x.0) vs rb ro $
        move t (4 ∷ 0 ∷ 1 ∷ 2 ∷ 3 ∷ []) $ k x.0 x.1 so))
