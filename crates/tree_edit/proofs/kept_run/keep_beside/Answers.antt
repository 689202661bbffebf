use Rattle.std.proofs.Common.{arith, refl}
use Rattle.tree_edit.proofs.AskingLaws.{asked_more, asked_on}
use Rattle.tree_edit.proofs.GainLaws.{spot_there}
use Rattle.tree_edit.proofs.RunLaws.{found_here, ordered_here, rises_here}
use Rattle.tree_edit.proofs.SpotLaws.{stands_alone}
use Rattle.tree_edit.proofs.TidyLaws.{moves_trans}
use Rattle.tree_links.specs.Seeks.{seen_end}
use Rattle.tree_edit.proofs.kept_run.keep_beside.Goals as goal

pub run-init : goal.run-init
run-init g c = (
  c.requires.at,
  record { from = c.args.start; order = c.requires.from; none = c.requires.first; asks = λ f first before. before },
  omega arith,
  refl,
  c.requires.ready,
)

pub current-requires : goal.current-requires
current-requires g c = let at = c.run.invariant.0 in spot_there _ _ _ _ at.ends at.pair

pub unreachable-requires : goal.unreachable-requires
unreachable-requires g c =
    let at = c.run.invariant.0 in
    stands_alone _ _ _ (seen_end c.run.last c.run.spot) at.ends at.bytes at.full at.payload at.there c.in_default.ensures.none

pub run-preserved : goal.run-preserved
run-preserved g c =
    let i = c.run.invariant in
    let e = c.go_on.ensures in
    let called = rw c.from_be_bytes-number.ensures at c.ask-stays.ensures.step in
    let found = found_here _ _ _ _ _ _ _ i.0 _ c.in-Some.ensures.some in
    let less = rises_here _ _ _ _ _ _ _ i.0 _ c.in-Leaf.is c.in-Some-byte_after.next c.in-Some-byte_after.ensures.above in
    let on = asked_on g.R.Asker.step _ _ _ _ _ _ i.1 (ordered_here _ _ _ _ _ _ _ i.0) (omega (arith, c.from_be_bytes-number.ensures)) _ found c.ask-stays.result _ called _ e.pairs _ less e.next in (
      e.at,
      on,
      omega (arith, i.2, less),
      moves_trans _ _ _ _ _ _ i.3 e.alike,
      c.ask-stays.ensures.ready,
    )

pub returns-in_default-stop-clause-asks : goal.returns-in_default-stop-clause-asks
returns-in_default-stop-clause-asks g c =
    let i = c.run.invariant in
    let called = rw c.from_be_bytes-number.ensures at c.ask-stays.ensures.step in
    let found = found_here _ _ _ _ _ _ _ i.0 _ c.in-Some.ensures.some in
    asked_more g.R.Asker.step _ _ _ _ _ _ i.1 (ordered_here _ _ _ _ _ _ _ i.0) (omega (arith, c.from_be_bytes-number.ensures)) _ found c.ask-stays.result _ called _ refl

pub returns-in_default-byte_after-clause-asks : goal.returns-in_default-byte_after-clause-asks
returns-in_default-byte_after-clause-asks g c =
    let i = c.run.invariant in
    let called = rw c.from_be_bytes-number.ensures at c.ask-stays.ensures.step in
    let found = found_here _ _ _ _ _ _ _ i.0 _ c.in-Some.ensures.some in
    asked_more g.R.Asker.step _ _ _ _ _ _ i.1 (ordered_here _ _ _ _ _ _ _ i.0) (omega (arith, c.from_be_bytes-number.ensures)) _ found c.ask-stays.result _ called _ refl
