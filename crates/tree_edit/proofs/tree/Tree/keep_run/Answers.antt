use Rattle.std.proofs.Common.{◌≡◌, ◌∙◌, ◌+◌, ◌≤◌, None, length, ap, arith, get_or, map, refl, subst, sym, true}
use Rattle.std.specs.Int.{from_be_bytes, w64}
use Rattle.std.proofs.lemmas.Nat.{from_be_bytes-to_be_bytes_8}
use Rattle.spec_node.specs.Key.{AreBytes}
use Rattle.tree_path.specs.inner.Root.{tree_pairs}
use Rattle.tree_edit.specs.Outside.{outside}
use Rattle.tree_edit.specs.inner.Rise.{IsRemoval}
use Rattle.tree_edit.specs.inner.Run.{IsAtPair}
use Rattle.tree_edit.proofs.GainLaws.{spot_there}
use Rattle.tree_edit.proofs.PopLaws.{key_bytes}
use Rattle.tree_edit.proofs.RemovedLaws.{root_first}
use Rattle.node_table.proofs.KeyLaws.{key_number-be_bytes}
use Rattle.spec_map.specs.Map.{lookup}
use Rattle.tree_edit.specs.inner.Whole.{IsWhole}
use Rattle.tree_edit.proofs.CallLaws.{moves_alike, nothing_seen}
use Rattle.tree_edit.proofs.TidyLaws.{moves_trans}
use Rattle.tree_edit.specs.Calls.{Asking, HasNoneAfter}
use Rattle.tree_edit.proofs.HandedLaws.{calls_more}
use Rattle.tree_edit.proofs.RunLaws.{found_here, one_less, ordered_here, run_empty, run_ends, short_here, whole_after, whole_here}
use Rattle.tree_edit.proofs.SpotLaws.{stands_alone}
use Rattle.tree_links.specs.SeenTable.{name_of}
use Rattle.tree_links.specs.Seeks.{seen_end}
use Rattle.tree_edit.proofs.tree.Tree.keep_run.Goals as goal

pub current-requires : goal.current-requires
current-requires g c = spot_there _ _ _ _ c.seek_along-spot.ensures.ends c.seek_along-spot.ensures.pair

pub keep_beside-stays-requires-clause-at : goal.keep_beside-stays-requires-clause-at
keep_beside-stays-requires-clause-at g c =
    let x = c.seek_along-spot.ensures in
    let key = c.to_be_bytes-bytes.result in
    let bytes : AreBytes key = subst (λ k. AreBytes k) (sym c.to_be_bytes-bytes.ensures) (key_bytes c.args.key) in
    let at : IsAtPair c.self.inside.nodes.table (name_of c.self.inside.root) c.self.inside.supply.forms c.self.inside.count key (map name_of c.seek_along-spot.new.trail) c.seek_along-spot.result =
    record { whole = c.self.invariant; bytes = bytes; full = omega (arith, ap (λ k. length k) c.to_be_bytes-bytes.ensures); ends = x.ends; pair = x.pair; on_trail = x.trail; payload = _; there = c.in-Some.ensures.some } in
    subst (λ r. IsAtPair c.self.inside.nodes.table r c.self.inside.supply.forms c.self.inside.count key (map name_of c.seek_along-spot.new.trail) c.seek_along-spot.result) (sym (root_first _ _ _ _ _ x.trail)) at

pub keep_beside-stays-requires-clause-from : goal.keep_beside-stays-requires-clause-from
keep_beside-stays-requires-clause-from g c =
    let is : from_be_bytes w64 c.to_be_bytes-bytes.result ≡ c.args.key = ap (λ k. from_be_bytes w64 k) c.to_be_bytes-bytes.ensures ∙ from_be_bytes-to_be_bytes_8 c.args.key (omega arith) in
    subst (λ n. c.args.start ≤ n) (sym is) c.requires.from

pub keep_beside-stays-requires-clause-first : goal.keep_beside-stays-requires-clause-first
keep_beside-stays-requires-clause-first g c =
    let is : from_be_bytes w64 c.to_be_bytes-bytes.result ≡ c.args.key = ap (λ k. from_be_bytes w64 k) c.to_be_bytes-bytes.ensures ∙ from_be_bytes-to_be_bytes_8 c.args.key (omega arith) in
    subst (λ r. HasNoneAfter (tree_pairs c.self.inside.nodes.table r) c.args.start (from_be_bytes w64 c.to_be_bytes-bytes.result)) (sym (root_first _ _ _ _ _ c.seek_along-spot.ensures.trail))
    (subst (λ n. HasNoneAfter (tree_pairs c.self.inside.nodes.table (name_of c.self.inside.root)) c.args.start n) (sym is) (rw (← c.self.view_is) at c.requires.first))

pub unreachable-requires : goal.unreachable-requires
unreachable-requires g c =
    let bytes : AreBytes c.to_be_bytes-bytes.result = subst (λ k. AreBytes k) (sym c.to_be_bytes-bytes.ensures) (key_bytes c.args.key) in
    let is : from_be_bytes w64 c.to_be_bytes-bytes.result ≡ c.args.key = ap (λ k. from_be_bytes w64 k) c.to_be_bytes-bytes.ensures ∙ from_be_bytes-to_be_bytes_8 c.args.key (omega arith) in
    let none = nothing_seen g.A.Allocator.charge _ _ _ _ c.self.invariant _ c.self.view_is c.to_be_bytes-bytes.result bytes (omega (arith, ap (λ k. length k) c.to_be_bytes-bytes.ensures))
    (seen_end c.to_be_bytes-bytes.result c.seek_along-spot.result) c.seek_along-spot.ensures.ends c.in_default.ensures.none in
    let absent : lookup c.args.self.now.pairs c.args.key ≡ None = subst (λ k. lookup c.args.self.now.pairs k ≡ None) is none in
    let clash = rw absent at c.requires.there in cc

pub finish-requires : goal.finish-requires
finish-requires g c = c.keep_beside-stays.ensures.at

pub invariant_of-self : goal.invariant_of-self
invariant_of-self g c =
    subst (λ r. IsWhole c.finish.new.nodes.table r c.finish.new.supply.forms c.finish.new.count) (root_first _ _ _ _ _ c.seek_along-spot.ensures.trail) c.finish.ensures.whole

pub returns-clause-asks : goal.returns-clause-asks
returns-clause-asks g c = λ f first before.
    let root = root_first _ _ _ _ _ c.seek_along-spot.ensures.trail in
    let e = c.keep_beside-stays.ensures in
    let pairs = c.finish.ensures.pairs in
    rw (c.release_slots.ensures, c.from_be_bytes.ensures)
    (subst (λ r. Asking g.R.Asker.step f first c.keep_beside-stays.new.f (tree_pairs c.finish.new.nodes.table r) (from_be_bytes w64 c.keep_beside-stays.result.1 + 1)) root
    (subst (λ m. Asking g.R.Asker.step f first c.keep_beside-stays.new.f m (from_be_bytes w64 c.keep_beside-stays.result.1 + 1)) (sym pairs)
    (e.asks f first (subst (λ r. Asking g.R.Asker.step f first c.args.f.now (tree_pairs c.self.inside.nodes.table r) c.args.start) (sym root) (rw (← c.self.view_is) at before)))))

pub returns-clause-forward : goal.returns-clause-forward
returns-clause-forward g c =
    let is : from_be_bytes w64 c.to_be_bytes-bytes.result ≡ c.args.key = ap (λ k. from_be_bytes w64 k) c.to_be_bytes-bytes.ensures ∙ from_be_bytes-to_be_bytes_8 c.args.key (omega arith) in
    omega (arith, is, c.keep_beside-stays.ensures.forward, c.from_be_bytes.ensures)

pub returns-clause-charge : goal.returns-clause-charge
returns-clause-charge g c =
    let root = root_first _ _ _ _ _ c.seek_along-spot.ensures.trail in
    let whole = subst (λ r. IsWhole c.finish.new.nodes.table r c.finish.new.supply.forms c.finish.new.count) root c.finish.ensures.whole in
    rw (c.release_slots.ensures, ← c.self.view_is)
    (moves_alike g.A.Allocator.charge _ _ _ _ c.self.invariant.by_form whole.by_form (moves_trans _ _ _ _ _ _ c.keep_beside-stays.ensures.alike c.finish.ensures.alike))
