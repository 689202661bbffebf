use Rattle.std.proofs.Common.{◌≡◌, ◌∙◌, ◌<◌, ◌≤◌, length, ap, arith, get_or, map, refl, subst, sym, true}
use Rattle.std.specs.Int.{from_be_bytes, w64}
use Rattle.std.proofs.lemmas.Nat.{from_be_bytes-to_be_bytes_8}
use Rattle.spec_node.specs.Key.{AreBytes}
use Rattle.tree_path.specs.inner.Root.{tree_pairs}
use Rattle.tree_edit.specs.Outside.{outside}
use Rattle.tree_edit.specs.inner.Rise.{IsRemoval}
use Rattle.tree_edit.specs.inner.Run.{IsAtPair}
use Rattle.tree_edit.proofs.GainLaws.{spot_there}
use Rattle.tree_edit.proofs.PopLaws.{key_bytes}
use Rattle.tree_edit.proofs.RemovedLaws.{root_first}
use Rattle.node_table.proofs.KeyLaws.{key_number-be_bytes}
use Rattle.spec_map.specs.Map.{without}
use Rattle.tree_edit.specs.Calls.{Calls, HasNoneAfter}
use Rattle.tree_edit.proofs.HandedLaws.{calls_more}
use Rattle.tree_edit.proofs.RunLaws.{found_here, one_less, ordered_here, run_empty, run_ends, short_here, whole_after, whole_here}
use Rattle.tree_edit.proofs.SpotLaws.{stands_alone}
use Rattle.tree_links.specs.SeenTable.{name_of}
use Rattle.tree_links.specs.Seeks.{seen_end}
use Rattle.tree_edit.proofs.tree.Tree.extract_run.Goals as goal

pub current-requires : goal.current-requires
current-requires g c = spot_there _ _ _ _ c.seek_along-spot.ensures.ends c.seek_along-spot.ensures.pair

pub take_run-requires-clause-at : goal.take_run-requires-clause-at
take_run-requires-clause-at g c =
    let x = c.seek_along-spot.ensures in
    let key = c.to_be_bytes-bytes.result in
    let bytes : AreBytes key = subst (λ k. AreBytes k) (sym c.to_be_bytes-bytes.ensures) (key_bytes c.args.key) in
    let at : IsAtPair c.self.inside.nodes.table (name_of c.self.inside.root) c.self.inside.supply.forms c.self.inside.count key (map name_of c.seek_along-spot.new.trail) c.seek_along-spot.result =
    record { whole = c.self.invariant; bytes = bytes; full = omega (arith, ap (λ k. length k) c.to_be_bytes-bytes.ensures); ends = x.ends; pair = x.pair; on_trail = x.trail; payload = _; there = c.in-Some.ensures.some } in
    subst (λ r. IsAtPair c.self.inside.nodes.table r c.self.inside.supply.forms c.self.inside.count key (map name_of c.seek_along-spot.new.trail) c.seek_along-spot.result) (sym (root_first _ _ _ _ _ x.trail)) at

pub take_run-requires-clause-below : goal.take_run-requires-clause-below
take_run-requires-clause-below g c =
    let is : from_be_bytes w64 c.to_be_bytes-bytes.result ≡ c.args.key = ap (λ k. from_be_bytes w64 k) c.to_be_bytes-bytes.ensures ∙ from_be_bytes-to_be_bytes_8 c.args.key (omega arith) in
    subst (λ n. n < c.args.end) (sym is) c.requires.below

pub take_run-requires-clause-from : goal.take_run-requires-clause-from
take_run-requires-clause-from g c =
    let is : from_be_bytes w64 c.to_be_bytes-bytes.result ≡ c.args.key = ap (λ k. from_be_bytes w64 k) c.to_be_bytes-bytes.ensures ∙ from_be_bytes-to_be_bytes_8 c.args.key (omega arith) in
    subst (λ n. c.args.start ≤ n) (sym is) c.requires.from

pub take_run-requires-clause-first : goal.take_run-requires-clause-first
take_run-requires-clause-first g c =
    let is : from_be_bytes w64 c.to_be_bytes-bytes.result ≡ c.args.key = ap (λ k. from_be_bytes w64 k) c.to_be_bytes-bytes.ensures ∙ from_be_bytes-to_be_bytes_8 c.args.key (omega arith) in
    subst (λ r. HasNoneAfter (tree_pairs c.self.inside.nodes.table r) c.args.start (from_be_bytes w64 c.to_be_bytes-bytes.result)) (sym (root_first _ _ _ _ _ c.seek_along-spot.ensures.trail))
    (subst (λ n. HasNoneAfter (tree_pairs c.self.inside.nodes.table (name_of c.self.inside.root)) c.args.start n) (sym is) (rw (← c.self.view_is) at c.requires.first))

pub take_out-requires-clause-spot : goal.take_out-requires-clause-spot
take_out-requires-clause-spot g c = c.take_run.ensures.at.ends

pub take_out-requires-clause-pair : goal.take_out-requires-clause-pair
take_out-requires-clause-pair g c = c.take_run.ensures.at.pair

pub take_out-requires-clause-short : goal.take_out-requires-clause-short
take_out-requires-clause-short g c = short_here _ _ _ _ _ _ _ c.take_run.ensures.at

pub take_out-requires-clause-whole : goal.take_out-requires-clause-whole
take_out-requires-clause-whole g c = whole_here _ _ _ _ _ _ _ c.take_run.ensures.at

pub unreachable-requires : goal.unreachable-requires
unreachable-requires g c =
    let at = c.take_run.ensures.at in
    stands_alone _ _ _ (seen_end c.take_run.result.1 c.take_run.result.0) at.ends at.bytes at.full at.payload at.there c.in_default-take_out.ensures.none

pub overflow_sub-self : goal.overflow_sub-self
overflow_sub-self g c =
    let less = one_less _ _ _ _ _ _ _ c.take_run.ensures.at true c.take_out.new.nodes.table c.take_out.new.supply.forms (c.in-Some-take_out.ensures.taken refl) in
    omega (arith, less)

pub invariant_of-self : goal.invariant_of-self
invariant_of-self g c =
    let first = root_first _ _ _ _ _ c.seek_along-spot.ensures.trail in
    let at = subst (λ r. IsAtPair c.take_run.new.nodes.table r c.take_run.new.supply.forms c.take_run.new.count c.take_run.result.1 (map name_of c.seek_along-spot.new.trail) c.take_run.result.0) first c.take_run.ensures.at in
    let x = subst (λ r. IsRemoval c.take_run.new.nodes.table r c.take_run.result.1 true c.take_out.new.nodes.table c.take_out.new.supply.forms) first (c.in-Some-take_out.ensures.taken refl) in
    whole_after _ _ _ _ _ _ _ at true c.take_out.new.nodes.table c.take_out.new.supply.forms x

pub returns-in_default-clause-removes : goal.returns-in_default-clause-removes
returns-in_default-clause-removes g c =
    let bytes : AreBytes c.to_be_bytes-bytes.result = subst (λ k. AreBytes k) (sym c.to_be_bytes-bytes.ensures) (key_bytes c.args.key) in
    run_empty g.A.Allocator.charge _ _ _ _ c.self.invariant _ c.self.view_is c.args.start c.args.key c.args.end c.to_be_bytes-bytes.result bytes (omega (arith, ap (λ k. length k) c.to_be_bytes-bytes.ensures))
    (seen_end c.to_be_bytes-bytes.result c.seek_along-spot.result) c.seek_along-spot.ensures.ends
    (ap (λ k. from_be_bytes w64 k) c.to_be_bytes-bytes.ensures ∙ from_be_bytes-to_be_bytes_8 c.args.key (omega arith)) c.in_default.ensures.none

pub returns-in_default-clause-calls : goal.returns-in_default-clause-calls
returns-in_default-clause-calls g c = λ last calls. calls

pub returns-clause-removes : goal.returns-clause-removes
returns-clause-removes g c =
    let first = root_first _ _ _ _ _ c.seek_along-spot.ensures.trail in
    let run = c.take_run.ensures in
    let at = subst (λ r. IsAtPair c.take_run.new.nodes.table r c.take_run.new.supply.forms c.take_run.new.count c.take_run.result.1 (map name_of c.seek_along-spot.new.trail) c.take_run.result.0) first run.at in
    let x = subst (λ r. IsRemoval c.take_run.new.nodes.table r c.take_run.result.1 true c.take_out.new.nodes.table c.take_out.new.supply.forms) first (c.in-Some-take_out.ensures.taken refl) in
    let others = subst (λ r. outside (tree_pairs c.take_run.new.nodes.table r) c.args.start c.args.end ≡ outside (tree_pairs c.self.inside.nodes.table r) c.args.start c.args.end) first run.others in
    rw c.release_slots.ensures
    (run_ends g.A.Allocator.charge _ _ c.self.inside.supply _ c.self.invariant _ c.self.view_is c.args.start c.args.key c.args.end c.take_run.new.nodes.table c.take_run.new.supply run.alike c.take_run.new.count c.take_run.result.1 c.seek_along-spot.new.trail c.take_run.result.0
    at others run.from run.below run.fewer c.take_out.new.nodes.table c.take_out.new.supply x c.take_out.ensures.alike)

pub returns-clause-calls : goal.returns-clause-calls
returns-clause-calls g c =
    let first = root_first _ _ _ _ _ c.seek_along-spot.ensures.trail in
    let run = c.take_run.ensures in
    let at = subst (λ r. IsAtPair c.take_run.new.nodes.table r c.take_run.new.supply.forms c.take_run.new.count c.take_run.result.1 (map name_of c.seek_along-spot.new.trail) c.take_run.result.0) first run.at in
    let x = subst (λ r. IsRemoval c.take_run.new.nodes.table r c.take_run.result.1 true c.take_out.new.nodes.table c.take_out.new.supply.forms) first (c.in-Some-take_out.ensures.taken refl) in
    let none = subst (λ r. HasNoneAfter (tree_pairs c.take_run.new.nodes.table r) c.args.start (from_be_bytes w64 c.take_run.result.1)) first run.first in
    let called = rw c.from_be_bytes-taken.ensures at c.receive.ensures.step in
    let before = subst (λ r. Calls g.R.Receiver.step c.args.start c.args.end c.args.f.now (tree_pairs c.self.inside.nodes.table r) c.take_run.new.f (tree_pairs c.take_run.new.nodes.table r)) first run.calls in
    rw (c.release_slots.ensures, ← c.self.view_is)
    (calls_more g.R.Receiver.step c.args.start c.args.end _ _ _ _ before (from_be_bytes w64 c.take_run.result.1) c.in-Some-take_out.payload _ _ (ordered_here _ _ _ _ _ _ _ at) run.from run.below
    (found_here _ _ _ _ _ _ _ at c.in-Some-take_out.payload c.in-Some-take_out.ensures.before) none called
    (x.pairs ∙ ap (λ k. without (tree_pairs c.take_run.new.nodes.table (name_of c.self.inside.root)) k) (key_number-be_bytes _ at.full)))
