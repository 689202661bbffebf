-- What seats, rights and words own. A word's number is tracked as a seat's view is: one part lies beside the word, the
-- other in the book's invariant, which a seat shows. A word that is shared has an invariant of its own, with a greater
-- number, so that a step can open both.
use Rattle.std.specs.Prelude.{ℕ, zero, suc, ◌<◌}
use base.Share.{three_quarters}
use base.Stored.{Gv, coded_ℕ}
use base.Before.{before}
use base.Fml.{Lft, Fml, ftrue, ffalse, fsep, fex, fbor, fnamed}
use denote.RawPtr.{Ptr, block_ptr, null_ptr}
use denote.Sharing.{said}
use Rattle.core.specs.Sync.RawAtomic.{word}
use Rattle.atomic_table.specs.Seated.{fact, seen, roster, seal}
use Rattle.word_book.specs.Book.{Book, Name, State}

-- the part of the word k that lies beside it
abbrev pub part : ℕ → ℕ → ℕ → Fml
part δ k n = seen coded_ℕ.code δ k three_quarters n

abbrev pub numbers : ℕ → ℕ → Rattle.std.specs.Prelude.List ℕ → Fml
numbers δ k ns = roster coded_ℕ.code δ k ns

abbrev pub pens_own : ℕ → ℕ → ℕ → Fml
pens_own δ k zero = ftrue
pens_own δ k (suc n) = fsep (part δ k 0) (pens_own δ (suc k) n)

module _ {V : Type 0} (c : V → Gv) where
  module _ (holds : State V → Type 0) (γ δ : ℕ) where
    abbrev pub standing : State V → Fml
    standing s = fsep (numbers δ 0 s.words) (fsep (roster c γ 0 s.views) (fact (holds s)))

    abbrev pub contents : Fml
    contents = fex (State V) standing

  abbrev pub view_at : Book → ℕ → V → Fml
  view_at b id v = seen c b.views_name id three_quarters v

  abbrev pub stands : (State V → Type 0) → Book → Fml
  stands holds b = fnamed b.number (contents holds b.views_name b.words_name)

  abbrev pub seat_owns : (State V → Type 0) → Book → ℕ → V → Fml
  seat_owns holds b id v = seal (State V → Type 0) holds (λ h. fsep (stands h b) (view_at b id v))

  abbrev pub seat_shows : (State V → Type 0) → Book → Lft → Fml
  seat_shows holds b = said (seal (State V → Type 0) holds (λ h. stands h b))

abbrev pub beside : Name → ℕ → Fml
beside w n = part w.book.words_name w.key n

abbrev pub lies : Name → ℕ → ℕ → ℕ → Fml
lies w b o n = fsep (word b o n) (beside w n)

abbrev pub reading : Name → ℕ → ℕ → Fml
reading w b o = fex ℕ (lies w b o)

abbrev pub lent : Name → ℕ → ℕ → Lft → Lft × ℕ → Fml
lent w b o κ t = fsep (before κ t.0) (fsep (fact (w.book.number < t.1)) (fnamed t.1 (fbor t.0 (reading w b o))))

abbrev pub word_shows : Name → Ptr → Lft → Fml
word_shows w (block_ptr b o) κ = fex (Lft × ℕ) (lent w b o κ)
word_shows w null_ptr κ = ffalse
