-- What a call stores, and how that changes a leaf and the number of pairs.
use Rattle.std.specs.Prelude.{ℕ, ◌+◌, ◌-◌, Bool, true, false, Option, Some, None}
use Rattle.spec_map.specs.Map.{with_answer}
use Rattle.spec_node.specs.declared.child.Child.TheVariants.{Payload}
use Rattle.spec_olc.specs.Meaning.{in_some}
use Rattle.spec_olc.specs.declared.types.Asking.{Asking}
use Rattle.spec_olc.specs.declared.types.Asking.TheVariants.{Given}
use Rattle.olc_state.specs.inner.World.{PlacedNode}

module _ {M : Type 0} where
  -- the closure's answer, or another value if that is none
  abbrev pub answered : Asking M → Option M → Option M
  answered (Given old (Some answer)) otherwise = Some answer
  answered (Given old None) otherwise = otherwise
  answered asking otherwise = None

  -- the leaf with this payload under a byte, or with none there
  abbrev pub with_payload : PlacedNode M → ℕ → Option M → PlacedNode M
  with_payload a byte value = record a {
    node = record a.node {
      children = with_answer a.node.children byte (in_some (λ v. Payload v) value);
    };
  }

-- how many pairs there are once a key that had a value, or none, has one, or none
abbrev pub entries_with : ℕ → Bool → Bool → ℕ
entries_with n false true = n + 1
entries_with n true false = n - 1
entries_with n had has = n
