-- WHAT A CALLER KNOWS of a map that is read without a lock, and what a call adds to it.
use Rattle.std.specs.Prelude.{◌≡◌, ℕ, nat_eq, List, [], ◌∷◌, ◌++◌}
use Rattle.word_book.specs.Book.{Book}
use Rattle.share_rule.specs.History.{Entry, entries_of, IsLegalHistory}

-- which map it calls, its number as a caller, and the history that it has seen
pub record Known : Type 0 where
  pub book : Book
  pub caller : ℕ
  pub seen : List (Entry ℕ)

abbrev pub own_entries : Known → List (Entry ℕ)
own_entries k = entries_of k.caller k.seen

-- A CALL WAS MADE: what is seen then is a legal history that begins with what was seen and ends with this entry of the
-- caller. Of the caller's own entries it has this one more
pub record MadeCall (k : Known) (e : Entry ℕ) (n : Known) : Type 0 where
  pub between : List (Entry ℕ)
  pub book : n.book ≡ k.book
  pub caller : n.caller ≡ k.caller
  pub legal : IsLegalHistory nat_eq n.seen
  pub seen : n.seen ≡ (k.seen ++ between) ++ e ∷ []
  pub own : own_entries n ≡ own_entries k ++ e ∷ []
