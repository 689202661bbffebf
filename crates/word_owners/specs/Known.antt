-- WHAT A HANDLE KNOWS of a table, and what a call makes of that.
use Rattle.std.specs.Prelude.{◌≡◌, ℕ, ◌∷◌}
use Rattle.word_book.specs.Book.{Book}
use Rattle.word_hazards.specs.Views.{View, HasReclaimed}

pub record Known : Type 0 where
  pub book : Book
  pub view : View

-- its hazard, what it has lent, and what it has claimed are as they were
pub record Keeps (v w : View) : Type 0 where
  pub hazard : w.hazard ≡ v.hazard
  pub lent : w.lent ≡ v.lent
  pub announced : w.announced ≡ v.announced
  pub claim : w.claim ≡ v.claim

-- AN OWNER IS RECLAIMED, that of this ticket, which the handle hadn't reclaimed before.
pub record Reclaims (v w : View) (t owner : ℕ) : Type 0 where
  pub keeps : Keeps v w
  pub issued : w.issued ≡ (t, owner) ∷ v.issued
  pub reclaimed : w.reclaimed ≡ t ∷ v.reclaimed
  pub first : HasReclaimed v t → ⊥

-- None is.
pub record ReclaimsNone (v w : View) : Type 0 where
  pub keeps : Keeps v w
  pub issued : w.issued ≡ v.issued
  pub reclaimed : w.reclaimed ≡ v.reclaimed
