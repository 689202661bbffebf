-- What a Write leaves to clean up.
use Rattle.std.specs.Prelude.{◌≡◌, Bool, true, length, Option, Some, None}
use Rattle.spec_node.specs.TableNode.{TableNode}
use Rattle.spec_olc.specs.Due.{IsDue}
use Rattle.olc_state.specs.declared.cleanup.Cleanup.{Cleanup}

module _ {M : Type 0} where
  -- the cleanup for a node that has lost a child; another one may follow it if `again`
  abbrev pub IsLeftOf : Bool → TableNode M → Option Cleanup → Type 0
  IsLeftOf again a None = IsDue a → ⊥
  IsLeftOf again a (Some c) = IsDue a × (c.length ≡ length a.prefix) × (c.again ≡ again)

  -- after a Write of this value, or of none, into a node
  abbrev pub IsLeftBy : Option M → TableNode M → Option Cleanup → Type 0
  IsLeftBy (Some value) a left = left ≡ None
  IsLeftBy None a left = IsLeftOf true a left
