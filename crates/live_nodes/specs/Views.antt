-- What a seat knows, and what a call asks.
use Rattle.std.specs.Prelude.{ℕ, List, [], ◌∷◌, Option, None}
use Rattle.spec_map.specs.Call.{get, insert, old_value, replied}
use Rattle.share_rule.specs.History.{Entry, entry}
use Rattle.live_nodes.specs.Nodes.{Content}
use Rattle.live_nodes.specs.Levels.{Spot}

-- a node that the seat has to itself
pub data Own : Type 0 where
  -- it is locked, and has this content
  locked : Spot → Content → Own
  -- it is locked, and no part of the map: any more, or as yet
  detached : Spot → Own
  -- the root word is locked
  root_word : Content → Own

-- A node as it was read below another: the number of the one above, and the word by which that one was free, or none, where
-- the seat itself has it locked. While that is so, the node is as it was read.
pub record Watch : Type 0 where
  pub above : ℕ
  pub word : Option ℕ
  pub spot : Spot

abbrev pub watch : ℕ → Option ℕ → Spot → Watch
watch k w a = record { above = k; word = w; spot = a }

-- The history that it has seen, nodes of the map that it has met, its own, and those that it watches. What a node that it
-- has met is for good is its key and its form. Its height and the bytes above it are what they were then.
pub record View : Type 0 where
  pub seen : List (Entry ℕ)
  pub met : List Spot
  pub own : List Own
  pub watched : List Watch

abbrev pub view_of : List (Entry ℕ) → List Spot → List Own → View
view_of s m o = record { seen = s; met = m; own = o; watched = [] }

abbrev pub with_met : View → List Spot → View
with_met v ms = record { seen = v.seen; met = ms; own = v.own; watched = v.watched }

abbrev pub watching : View → Watch → View
watching v w = record { seen = v.seen; met = v.met; own = v.own; watched = w ∷ [] }

-- what it has to itself, without the last one, and what that is
abbrev pub rest_of : List Own → List Own
rest_of [] = []
rest_of (o ∷ os) = os

-- which node it is
abbrev pub number_of : Own → ℕ
number_of (locked a c) = a.number
number_of (detached a) = a.number
number_of (root_word c) = 0

abbrev pub content_of : List Own → Content
content_of [] = []
content_of (locked a c ∷ os) = c
content_of (detached a ∷ os) = []
content_of (root_word c ∷ os) = c

-- who calls, with which key and value, and at which height
pub record Ask : Type 0 where
  pub caller : ℕ
  pub key : ℕ
  pub value : ℕ
  pub height : ℕ

abbrev pub ask : ℕ → ℕ → ℕ → ℕ → Ask
ask c k v h = record { caller = c; key = k; value = v; height = h }

-- the entries of a call, by the value that it finds
abbrev pub got : Ask → Option ℕ → Entry ℕ
got a found = entry a.caller record { call = get a.key; asked = None; answer = replied (old_value found) }

abbrev pub inserted : Ask → Option ℕ → Entry ℕ
inserted a found = entry a.caller record { call = insert a.key a.value; asked = None; answer = replied (old_value found) }
