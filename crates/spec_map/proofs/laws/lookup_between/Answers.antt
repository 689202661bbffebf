use Rattle.std.proofs.Common.{inl, inr}
use Rattle.spec_map.proofs.MapLaws.{lookup-between_inside, lookup-between_outside}
use Rattle.spec_map.proofs.laws.lookup_between.Goals as goal

pub returns-clause-inside : goal.returns-clause-inside
returns-clause-inside g c m a b k from to = lookup-between_inside m a b k from to

pub returns-clause-below : goal.returns-clause-below
returns-clause-below g c m a b k less = lookup-between_outside m a b k (inl less)

pub returns-clause-above : goal.returns-clause-above
returns-clause-above g c m a b k more = lookup-between_outside m a b k (inr more)
