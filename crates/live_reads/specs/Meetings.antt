-- Two callers meet: both have then seen one legal history.
use Rattle.std.specs.Prelude.{◌≡◌, ℕ, nat_eq, List}
use Rattle.share_rule.specs.History.{Entry, StartsWith, IsLegalHistory}
use Rattle.share_rule.specs.inner.Rule.{HasSeen}
use Rattle.live_nodes.specs.Views.{View, view_of}
use Rattle.live_nodes.specs.Known.{Known, own_entries}

-- NO CALL WAS MADE: what is seen then is a legal history that begins with what was seen, and has no more entries of the
-- caller
pub record SeenMore (k n : Known) : Type 0 where
  pub book : n.book ≡ k.book
  pub caller : n.caller ≡ k.caller
  pub legal : IsLegalHistory nat_eq n.seen
  pub seen : StartsWith n.seen k.seen
  pub own : own_entries n ≡ own_entries k

-- A caller has seen the whole, and knows nothing else.
pub record Sees (caller : ℕ) (whole : List (Entry ℕ)) (v w : View) : Type 0 where
  pub is : w ≡ view_of whole v.met v.own
  pub fits : HasSeen whole caller v.seen

-- Two callers have.
pub record HaveMet (i j : ℕ) (v w v' w' : View) : Type 0 where
  pub whole : List (Entry ℕ)
  pub legal : IsLegalHistory nat_eq whole
  pub first : Sees i whole v v'
  pub second : Sees j whole w w'
