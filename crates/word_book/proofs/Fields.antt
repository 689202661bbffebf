-- The machine values of tokens and words, and what crosses threads. Assumes `Logic`.
use Rattle.std.proofs.Common.{◌≡◌, ℕ, zero, suc, ◌^◌, ◌<◌, List, [], ◌∷◌, ◌++◌, refl, ap, ◌∙◌, w64}
use seplogic.Ra.Ura.{Ura}
use mir.Val.{Val, vint, vstruct, vcons, vnil, of_list}
use base.Stored.{Gv, coded_ℕ}
use base.Logic.{ent, sep, emp}
use base.Fml.{Fml, ftrue, fsep, fex}
use base.Shift.{Keyless}
use contract.Monad.{fact, fact_i}
use types.Logic.{Logic, sem}
use types.Keyed.{entry_keyless}
use types.Kit.{‵, raw, ◌$◌, ◌∵◌, !, qed, by, move, fjoin, fpack, use0, done}
use denote.RattleType.{RattleType}
use denote.Laws.{Is, Typed}
use denote.Shadow.{makes_shadow}
use denote.Signature.{type_at}
use denote.Struct.Struct.{Struct}
use denote.Triple.Clauses.{Ended, Clauses, Lasts, at_exit}
use denote.Triple.Entry.{Res, alive}
use denote.Triple.Walked.{Stays, Fit, has_of, walk_of}
use Rattle.core.specs.contracts.marker.PhantomData as marker
use Rattle.atomic_table.specs.Seated.{halved}
use Rattle.atomic_table.proofs.Sent.{roster_keyless}
use Rattle.atomic_table.proofs.Walks.{leaves}
use Rattle.word_book.specs.Book.{Book, Name, State}
use Rattle.word_book.specs.inner.Owned.{beside, contents, pens_own, seat_owns, seat_shows}
use Rattle.word_book.specs.declared.seat.Rule.{Ghosts}
use Rattle.word_book.specs.contracts.word.Word as Word
use Rattle.word_book.specs.contracts.word.Word.TheInside as Inside

-- the value of a struct with a marker alone
abbrev pub token : Val
token = vstruct (vcons (vstruct vnil) vnil)

abbrev pub word_val : ℕ → Val
word_val n = vstruct (vcons (vint w64 n) (vcons (vstruct vnil) vnil))

module _ (X : RattleType) where
  -- that struct, with a marker of X
  abbrev pub Token : RattleType
  Token = Struct record { name = []; args = []; types = []; fields = marker.the_row X ∷ [] }

  pub token_told : (vs : List Val) → Is Token (record {}, tt) vs → vs ≡ token ∷ []
  token_told vs is = is.1.0 ∙ ap (λ (ws : List Val). vstruct (of_list (ws ++ [])) ∷ []) is.1.1.0.1.0

  pub token_made : {M : Type 1} {𝓤 : Ura M} (𝓛 : Logic 𝓤) → ent 𝓤 (emp 𝓤) (sem 𝓛 (Token.own_val (record {}, tt) (token ∷ [])))
  token_made 𝓛 = makes_shadow 𝓛 (Token.own_val (record {}, tt) (token ∷ [])) (λ vss. (tt, ((λ uss. (tt, tt)), tt))) ((vstruct vnil ∷ [], tt), (refl, ((tt, (refl, tt)), tt)))

-- a word is made of its number and its part
pub word_made : {M : Type 1} {𝓤 : Ura M} (𝓛 : Logic 𝓤) (V P : RattleType) (g : Ghosts P.Denot V.Denot) (w : Name) (n : ℕ) → n < 2 ^ 64
    → ent 𝓤 (sem 𝓛 (beside w n)) (sem 𝓛 ((Word.the_row V P g).own_val w (word_val n ∷ [])))
word_made {𝓤 = 𝓤} 𝓛 V P g w n fits =
    let Plain : RattleType = Inside.the_row V P g in let vs : List Val = word_val n ∷ [] in let fields : ℕ → Fml = λ m. Plain.own_val (record { bits = m; marker = record {} }) vs in
    let Fits : Type 0 = Typed (Word.the_row V P g).mir vs in
    qed 𝓛 (‵ (beside w n) ∷ []) ∵
    use0 𝓛 (‵ (fields n)) (makes_shadow 𝓛 (fields n) (λ vss. (tt, ((tt, tt), ((λ uss. (tt, tt)), tt)))) ((vint w64 n ∷ [], (vstruct vnil ∷ [], tt)), (refl, ((refl, fits), ((tt, (refl, tt)), tt))))) $
    fjoin ! $ fpack ! ℕ (λ m. fsep (fields m) (beside w m)) n $
    use0 𝓛 (‵ (fex Fits (λ _. ftrue))) (fact_i 𝓤 Fits (emp 𝓤) ((tt, (record { fits = fits }, (tt, tt))), tt)) $ done !

-- how a walk ends whose `ensures` are facts
pub ends : {M : Type 1} {𝓤 : Ura M} (𝓛 : Logic 𝓤) (T : Ended) (hs : Stays T.signature.params T.kept) (c : Clauses 𝓤 T) (y : (walk_of 𝓛 T hs c).Ghost) (v : Val) (r : Res T.signature y.0.0) (ws : Lasts T y.0.0 y.0.3)
    → Fit T hs y.0.0 y.0.3 ws → ent 𝓤 (emp 𝓤) ((c y.0.0 y.0.3).ensures y.1 r (at_exit T y.0.0 y.0.3 ws))
    → ent 𝓤 (sep 𝓤 (alive 𝓛 T.signature y.0.0 y.0.1) (sep 𝓤 (sem 𝓛 (has_of y.0.0 T.signature.params T.kept hs y.0.3 ws y.0.4)) (sem 𝓛 ((type_at T.signature.result y.0.0).own_val r (v ∷ []))))) ((walk_of 𝓛 T hs c).post y v)
ends 𝓛 T hs c y v r ws fit told =
    qed 𝓛 (raw (alive 𝓛 T.signature y.0.0 y.0.1) ∷ ‵ (has_of y.0.0 T.signature.params T.kept hs y.0.3 ws y.0.4) ∷ ‵ ((type_at T.signature.result y.0.0).own_val r (v ∷ [])) ∷ []) ∵
    use0 𝓛 (raw ((c y.0.0 y.0.3).ensures y.1 r (at_exit T y.0.0 y.0.3 ws))) told $ move ! (1 ∷ 2 ∷ 3 ∷ []) $ by ! (leaves 𝓛 T hs c y v r ws fit)

-- an `ensures` of two clauses, and one of three
module _ {M : Type 1} {𝓤 : Ura M} (𝓛 : Logic 𝓤) {A B : Type 0} (a : A) (b : B) where
  pub two_facts : ent 𝓤 (emp 𝓤) (sep 𝓤 (fact 𝓤 A) (fact 𝓤 B))
  two_facts = qed 𝓛 [] ∵ use0 𝓛 (raw (fact 𝓤 B)) (fact_i 𝓤 B (emp 𝓤) b) $ use0 𝓛 (raw (fact 𝓤 A)) (fact_i 𝓤 A (emp 𝓤) a) $ done !

  pub three_facts : {C : Type 0} → C → ent 𝓤 (emp 𝓤) (sep 𝓤 (fact 𝓤 A) (sep 𝓤 (fact 𝓤 B) (fact 𝓤 C)))
  three_facts {C} c = qed 𝓛 [] ∵ use0 𝓛 (raw (fact 𝓤 C)) (fact_i 𝓤 C (emp 𝓤) c) $ use0 𝓛 (raw (fact 𝓤 B)) (fact_i 𝓤 B (emp 𝓤) b) $ use0 𝓛 (raw (fact 𝓤 A)) (fact_i 𝓤 A (emp 𝓤) a) $ done !

  pub four_facts : {C D : Type 0} → C → D → ent 𝓤 (emp 𝓤) (sep 𝓤 (fact 𝓤 A) (sep 𝓤 (fact 𝓤 B) (sep 𝓤 (fact 𝓤 C) (fact 𝓤 D))))
  four_facts {C} {D} c d = qed 𝓛 [] ∵ use0 𝓛 (raw (fact 𝓤 D)) (fact_i 𝓤 D (emp 𝓤) d) $ use0 𝓛 (raw (fact 𝓤 C)) (fact_i 𝓤 C (emp 𝓤) c) $ use0 𝓛 (raw (fact 𝓤 B)) (fact_i 𝓤 B (emp 𝓤) b) $ use0 𝓛 (raw (fact 𝓤 A)) (fact_i 𝓤 A (emp 𝓤) a) $ done !

-- ghost state may lie with any thread
pub beside_keyless : (w : Name) (n : ℕ) → Keyless (beside w n)
beside_keyless w n = entry_keyless halved w.book.words_name w.key _

pub pens_keyless : (δ k n : ℕ) → Keyless (pens_own δ k n)
pens_keyless δ k zero = tt
pens_keyless δ k (suc n) = (entry_keyless halved δ k _, pens_keyless δ (suc k) n)

module _ {V : Type 0} (c : V → Gv) (holds : State V → Type 0) (b : Book) where
  contents_keyless : Keyless (contents c holds b.views_name b.words_name)
  contents_keyless = λ s. (roster_keyless coded_ℕ.code b.words_name 0 s.words, (roster_keyless c b.views_name 0 s.views, λ _. tt))

  pub seat_keyless : (id : ℕ) (v : V) → Keyless (seat_owns c holds b id v)
  unfolding Rattle.atomic_table.specs.Seated.seal
  seat_keyless id v = (contents_keyless, entry_keyless halved b.views_name id _)

  pub shows_keyless : (κ : base.Fml.Lft) → Keyless (seat_shows c holds b κ)
  unfolding Rattle.atomic_table.specs.Seated.seal
  shows_keyless κ = contents_keyless
