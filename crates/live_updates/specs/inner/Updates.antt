-- UPDATES of a key: it has another value then, or none.
use Rattle.std.specs.Prelude.{◌≡◌, ℕ, nat_eq, List, [], ◌∷◌, ◌++◌, Option, Some, None, Result, Ok, Err}
use Rattle.spec_node.specs.TableNode.{TableNode, Child}
use Rattle.spec_node.specs.declared.child.Child.TheVariants.{Payload}
use Rattle.spec_map.specs.Map.{Pairs, lookup, with_answer}
use Rattle.share_rule.specs.History.{Entry, IsHistory}
use Rattle.live_nodes.specs.Nodes.{Content}
use Rattle.live_nodes.specs.Seats.{SeatView}
use Rattle.live_layout.specs.Encodes.{Encodes, with_child}
use Rattle.live_nodes.specs.Views.{View, view_of}
use Rattle.live_nodes.specs.Tree.{HasValue, Answers}
use Rattle.live_updates.specs.declared.leaf.Missed.{Missed}

-- who gives which key what, if it has that, and the entry of the call
pub record Update : Type 0 where
  pub caller : ℕ
  pub key : ℕ
  pub old : Option ℕ
  pub new : Option ℕ
  pub entry : Entry ℕ

abbrev pub update_of : ℕ → ℕ → Option ℕ → Option ℕ → Entry ℕ → Update
update_of c k old new e = record { caller = c; key = k; old = old; new = new; entry = e }

-- The entry is the caller's, and leads from a map in which the key has the old value to the one with the new value.
pub record IsUpdate (u : Update) : Type 0 where
  pub by : u.entry.caller ≡ u.caller
  pub legal : (history : List (Entry ℕ)) (m : Pairs ℕ) → IsHistory nat_eq history m → lookup m u.key ≡ u.old
      → IsHistory nat_eq (history ++ u.entry ∷ []) (with_answer m u.key u.new)

-- the child of a leaf for a value
abbrev pub child_for : Option ℕ → Option (Child ℕ)
child_for None = None
child_for (Some x) = Some (Payload x)

-- A byte has the value that is expected there, if one is.
abbrev pub HasExpected : Option (Child ℕ) → Option ℕ → Type 0
HasExpected child None = Unit {0}
HasExpected child (Some x) = HasValue child (Some x)

-- In the words of a leaf the new value replaced the old one, or nothing was written.
abbrev pub IsSet : ℕ → Option ℕ → Option ℕ → Option Missed → Content → Content → TableNode ℕ → Type 0
IsSet b old new None c d n = HasValue (lookup n.children b) old × Encodes d (with_child n b (child_for new))
IsSet b old new (Some missed) c d n = d ≡ c

-- A LEAF was unlocked, which has the new value in the place of the old one.
pub record HasUpdated (u : Update) (v w : View) : Type 0 where
  pub is : w ≡ view_of w.seen v.met []
  pub answers : Answers u.caller u.entry v.seen w.seen

abbrev pub Writes : Update → View → ℕ → Content → View → Type 0
Writes u v k c w = HasUpdated u v w

-- why nothing was written, if so
abbrev pub missed_by : {A : Type 0} → Result A Missed → Option Missed
missed_by (Ok a) = None
missed_by (Err missed) = Some missed

-- The call has ended, or the seat has seen no more.
abbrev pub Updated : Update → Option Missed → SeatView View → SeatView View → Type 0
Updated u None v w = Answers u.caller u.entry v.client.seen w.client.seen
Updated u (Some missed) v w = w.client.seen ≡ v.client.seen
