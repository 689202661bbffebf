-- WHAT A REMOVAL LEAVES TO CLEAN UP: a node other than the root that has few children is due.
use Rattle.std.specs.Prelude.{◌≡◌, ◌<◌, ◌≤◌, Bool, true, IsTrue, ◌↔◌, length, Option, Some, None}
use Rattle.node_base.specs.Form.{few_in}
use Rattle.spec_node.specs.TableNode.{TableNode, Child}
use Rattle.spec_olc.specs.State.{Cleaning}

abbrev pub may_follow : Option Cleaning → Bool
may_follow None = true
may_follow (Some c) = c.again

module _ {M : Type 0} where
  pub record IsDue (a : TableNode M) : Type 0 where
    pub below_root : 0 < length a.prefix
    pub few : length a.children ≤ few_in a.form

  -- THE CLEANUP THAT FOLLOWS a Write that has put this child, or none, into a node, now `a`.
  -- The Write decides the call, or is one of a cleanup. After a last cleanup none follows.
  abbrev pub IsLeft : Option Cleaning → Option (Child M) → TableNode M → Option Cleaning → Type 0
  IsLeft was child a None = IsTrue (may_follow was) → child ≡ None → IsDue a → ⊥
  IsLeft was child a (Some c) = IsTrue (may_follow was) × (child ≡ None) × IsDue a
      × (c.depth ≡ length a.prefix) × (IsTrue c.again ↔ (was ≡ None))
