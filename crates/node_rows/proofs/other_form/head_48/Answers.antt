use Rattle.std.proofs.Common.{rules, ◌≡◌, ◌<◌, ◌∷◌, ◌++◌, [], List, ℕ, length, take, ap, sym, ◌∙◌, refl, subst, arith, append-nil, append_assoc, length-set}
use Rattle.spec_map.specs.Map.{Rises}
use Rattle.spec_map.proofs.RangeLaws.{between-all}
use Rattle.node_base.specs.Rest.{rest}
use Rattle.node_base.specs.inner.Sorted.{pairs}
use Rattle.node_forms.proofs.SortedLaws.{length-pairs}
use Rattle.node_rows.proofs.GrowLaws.{bytes_of, take_set, pairs_bytes}
use Rattle.node_rows.proofs.other_form.head_48.Goals as goal

pub bytes-init : goal.bytes-init
bytes-init g c =
    let es = pairs c.args.old.now.keys c.args.row.now.items in
    let all = c.get_children-children.ensures.children ∙ between-all 0 256 0 256 es c.get_children-children.ensures.ascending (omega arith) (omega arith) in
    let none : c.new-head.result.base.count ≡ 0 = search rules in (
      ap (λ t. bytes_of t) (sym all) ∙ sym (rw none refl),
      omega (arith, none, ap length all),
      (search rules),
      (search rules),
      (search rules),
    )

pub bytes-preserved : goal.bytes-preserved
bytes-preserved g c =
    let i = c.bytes.invariant in
    let s = c.in-Some.ensures.some in
    let count = c.bytes.head.base.count in
    let long = ap length s.1 in
    let most = length-pairs c.args.old.now.keys c.args.row.now.items (omega (arith, c.requires.0.within, c.requires.0.long)) in
    let less : count < length c.bytes.head.keys = omega (arith, i.1, long, most, i.2, c.requires.0.within) in
    let keys : take c.add_byte.new.self.base.count c.add_byte.new.self.keys ≡ take count c.bytes.head.keys ++ c.in-Some.byte ∷ [] = rw (c.add_byte.ensures.keys, c.add_byte.ensures.base) (take_set c.bytes.head.keys count c.in-Some.byte less) in (
      i.0 ∙ ap (λ t. take count c.bytes.head.keys ++ bytes_of t) s.1 ∙ sym (append_assoc (take count c.bytes.head.keys) (c.in-Some.byte ∷ []) (bytes_of (rest c.next_byte.new.children))) ∙ ap (λ t. t ++ bytes_of (rest c.next_byte.new.children)) (sym keys),
      omega (arith, i.1, long, ap (λ b. b.count) c.add_byte.ensures.base),
      ap length c.add_byte.ensures.keys ∙ length-set c.bytes.head.keys count c.in-Some.byte ∙ i.2,
      ap (λ b. b.prefix) c.add_byte.ensures.base ∙ i.3,
      ap (λ b. b.form) c.add_byte.ensures.base ∙ i.4,
    )

pub returns-clause-node : goal.returns-clause-node
returns-clause-node g c =
    let i = c.bytes.invariant in
    let most = length-pairs c.args.old.now.keys c.args.row.now.items (omega (arith, c.requires.0.within, c.requires.0.long)) in
    let done = c.in_default.ensures.none in
    let n : c.bytes.head.base.count ≡ length c.args.row.now.items = omega (arith, i.1, ap length done, most) in
    let is : bytes_of (pairs c.args.old.now.keys c.args.row.now.items) ≡ take (length c.args.row.now.items) c.bytes.head.keys =
    i.0 ∙ ap (λ t. take c.bytes.head.base.count c.bytes.head.keys ++ bytes_of t) done ∙ append-nil (take c.bytes.head.base.count c.bytes.head.keys) ∙ ap (λ k. take k c.bytes.head.keys) n in
    let same = pairs_bytes c.args.old.now.keys c.bytes.head.keys c.args.row.now.items (omega (arith, c.requires.0.within, c.requires.0.long)) (omega (arith, c.requires.0.within, i.2)) is in (
      record {
        ascending = subst (λ (es : List (ℕ × g.row.C.Denot)). Rises 0 256 es) (sym same) c.requires.0.ascending;
        long = i.2;
        within = omega (arith, c.requires.0.within);
        counted = n;
      },
      i.4,
    )

pub returns-clause-children : goal.returns-clause-children
returns-clause-children g c =
    let i = c.bytes.invariant in
    let most = length-pairs c.args.old.now.keys c.args.row.now.items (omega (arith, c.requires.0.within, c.requires.0.long)) in
    let done = c.in_default.ensures.none in
    let n : c.bytes.head.base.count ≡ length c.args.row.now.items = omega (arith, i.1, ap length done, most) in
    let is : bytes_of (pairs c.args.old.now.keys c.args.row.now.items) ≡ take (length c.args.row.now.items) c.bytes.head.keys =
    i.0 ∙ ap (λ t. take c.bytes.head.base.count c.bytes.head.keys ++ bytes_of t) done ∙ append-nil (take c.bytes.head.base.count c.bytes.head.keys) ∙ ap (λ k. take k c.bytes.head.keys) n in
    pairs_bytes c.args.old.now.keys c.bytes.head.keys c.args.row.now.items (omega (arith, c.requires.0.within, c.requires.0.long)) (omega (arith, c.requires.0.within, i.2)) is
