-- THE STATE of a machine: its nodes by their slots, and its calls in flight by their numbers.
use Rattle.std.specs.Prelude.{◌≡◌, ℕ, ◌+◌, Bool, List, [], Option, None}
use Rattle.node_table.specs.Charge.{Charge}
use Rattle.spec_map.specs.Map.{put}
use Rattle.spec_node.specs.TableNode.{TableNode}
use Rattle.spec_olc.specs.Calls.{Outline}
use Rattle.spec_olc.specs.declared.types.Asking.{Asking}
use Rattle.spec_olc.specs.declared.types.Asking.TheVariants.{Fresh}
use Rattle.spec_olc.specs.declared.types.Op.{Op}
use Rattle.spec_olc.specs.declared.types.Progress.{Progress}
use Rattle.spec_olc.specs.declared.types.Seen.{Seen}

-- A node is private until it is linked, then published until it is retired. A retired node keeps
-- the count of retirements before its own, or None once that count has saturated.
pub data Lifetime : Type 0 where
  not_yet : Lifetime
  published : Lifetime
  retired : Option ℕ → Lifetime

-- a node: its lock word, whether it is published, and its form, prefix and children
pub record VersionedNode (M : Type 0) : Type 0 where
  pub word : ℕ
  pub lifetime : Lifetime
  pub node : TableNode M

-- a cleanup: how long the prefix of its node is, and whether another cleanup may follow it
pub record Cleaning : Type 0 where
  pub depth : ℕ
  pub again : Bool

-- a call in flight
pub record CallState (M : Type 0) : Type 0 where
  -- its kind and keys
  pub outline : Outline
  -- the call with its payloads, until it has its reply or is refused
  pub op : Option (Op M)
  -- the count of retirements at its start
  pub pin : ℕ
  -- of a range, the least key that it may still give; of a point call, its key
  pub cursor : ℕ
  -- the REACH of a range: the key from which on it searches; of a point call, its key
  pub reach : ℕ
  -- how many pairs a range has given
  pub given : ℕ
  -- after a removal: the cleanup that it has to make, or makes
  pub cleaning : Option Cleaning
  -- since it was last at the root: words by slot, what its last Read reported, its closure
  pub remembered : List (ℕ × ℕ)
  pub seen : Option (Seen M)
  pub asking : Asking M
  -- whether it has its reply, or was refused
  pub progress : Progress
  -- the nodes that it holds, and those that it has made and not linked
  pub held : List ℕ
  pub made : List ℕ

-- the state of a machine
pub record State (M : Type 0) : Type 0 where
  -- by ascending slots
  pub nodes : List (ℕ × VersionedNode M)
  -- the slot of the root
  pub root : ℕ
  -- how many nodes were retired; saturates at 2 ^ 64 - 1
  pub count : ℕ
  -- by ascending numbers
  pub calls : List (ℕ × CallState M)
  -- the numbers for which room is kept
  pub seats : List ℕ
  -- how many pairs are stored
  pub entries : ℕ
  -- the bytes that are charged, if they are counted
  pub charge : Option Charge

module _ {M : Type 0} where
  -- a node that is made, one that is linked, and one that is retired with this stamp
  abbrev pub unlinked : TableNode M → VersionedNode M
  unlinked a = record { word = 0; lifetime = not_yet; node = a }

  abbrev pub publish : VersionedNode M → VersionedNode M
  publish a = record a { lifetime = published }

  abbrev pub retire : Option ℕ → VersionedNode M → VersionedNode M
  retire stamp a = record a { word = a.word + 1; lifetime = retired stamp }

  -- the state with this node in a slot, and with this call under a number
  abbrev pub with_node : State M → ℕ → VersionedNode M → State M
  with_node s slot a = record s { nodes = put s.nodes slot a }

  abbrev pub with_call : State M → ℕ → CallState M → State M
  with_call s id call = record s { calls = put s.calls id call }

  -- the nodes, the number of pairs and the charge are unchanged
  abbrev pub LeavesNodes : State M → State M → Type 0
  LeavesNodes old new = (new.nodes ≡ old.nodes) × (new.entries ≡ old.entries)
      × (new.charge ≡ old.charge)

  -- GOING BACK to the root: a call forgets what it has seen and asked, and its reach is its cursor
  abbrev pub back : CallState M → CallState M
  back call = record call { reach = call.cursor; remembered = []; seen = None; asking = Fresh }

  -- A call that has its reply, or is refused, keeps no payload: they are moved out or dropped.
  abbrev pub settled : Progress → CallState M → CallState M
  settled progress call = record call { op = None; asking = Fresh; progress = progress }

  -- the call cleans up no more
  abbrev pub stopped : CallState M → CallState M
  stopped call = record call { cleaning = None }
