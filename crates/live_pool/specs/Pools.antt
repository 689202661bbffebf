-- Guards that wait for a successor, and the slots that they lie in.
use Rattle.std.specs.Prelude.{◌≡◌, List}
use Rattle.word_book.specs.Book.{Book}
use Rattle.live_nodes.specs.Seats.{Each}
use Rattle.live_nodes.specs.Known.{Known}

-- These are guards of that map.
abbrev pub AreOf : Book → List Known → Type 0
AreOf b ks = Each (λ k. k.book ≡ b) ks

-- Each slot is for guards of that map.
abbrev pub AreFor : Book → List Book → Type 0
AreFor b slots = Each (λ s. s ≡ b) slots
