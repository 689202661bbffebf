use Rattle.std.proofs.Common.{rules, ◌≡◌, ◌+◌, ◌∷◌, ◌++◌, [], List, ℕ, length, drop, get_or, ap, sym, ◌∙◌, arith, append-nil, length-append}
use Rattle.spec_map.specs.Map.{put}
use Rattle.node_base.specs.inner.Sorted.{pairs}
use Rattle.node_forms.proofs.SortedLaws.{pairs-none}
use Rattle.node_rows.proofs.GrowLaws.{Next, next_before}
use Rattle.node_rows.proofs.other_form.larger_256.Given.{Over}
use Rattle.node_rows.proofs.other_form.larger_256.Goals as goal
use Rattle.node_rows.proofs.other_form.larger_256.Goals.{In-Some}

pub children-init : goal.children-init
children-init g c = (
  (
    [],
    sym (append-nil c.args.row.now.items),
    c.in_ok-node.ensures.empty ∙ sym (pairs-none (drop (length c.args.row.now.items) c.args.old.now.keys)),
  ),
  c.in_ok-node.ensures.prefix ∙ c.prefix-prefix.ensures.bytes ∙ c.base_of.ensures.prefix,
)

-- the child that was popped comes before those that were put
module _ (g : Over) (c : In-Some g) where
  next : Next c.args.old.now.keys c.args.row.now.items c.pop.new.self.items c.in-Some.child c.children.invariant.0.0
  next = next_before c.args.old.now.keys c.args.row.now.items c.children.row.items c.pop.new.self.items c.in-Some.child c.children.invariant.0.0 (omega (arith, c.requires.0.within, c.requires.0.long)) c.requires.0.ascending c.children.invariant.0.1 c.in-Some.ensures.items

pub insert-requires-clause-absent : goal.insert-requires-clause-absent
insert-requires-clause-absent g c =
    let n = next g (goal.at.insert-requires-clause-absent g c).In-Some in
    let at : c.len.result ≡ length c.pop.new.self.items = search rules in
    let more : length c.children.row.items ≡ length c.pop.new.self.items + 1 = ap length c.in-Some.ensures.items ∙ length-append c.pop.new.self.items (c.in-Some.child ∷ []) in
    rw (at, c.children.invariant.0.2, more) n.absent

pub children-preserved : goal.children-preserved
children-preserved g c =
    let n = next g (goal.at.children-preserved g c).In-Some in
    let at : c.len.result ≡ length c.pop.new.self.items = search rules in
    let more : length c.children.row.items ≡ length c.pop.new.self.items + 1 = ap length c.in-Some.ensures.items ∙ length-append c.pop.new.self.items (c.in-Some.child ∷ []) in (
      (
        c.in-Some.child ∷ c.children.invariant.0.0,
        n.whole,
        c.insert.ensures.children ∙ ap (λ b. put c.children.node.children b c.in-Some.child) (ap (λ k. get_or c.args.old.now.keys k 0) at) ∙ ap (λ (es : List (ℕ × g.row.C.Denot)). put es (get_or c.args.old.now.keys (length c.pop.new.self.items) 0) c.in-Some.child) (c.children.invariant.0.2 ∙ ap (λ k. pairs (drop k c.args.old.now.keys) c.children.invariant.0.0) more) ∙ n.put_is,
      ),
      c.insert.ensures.prefix ∙ c.children.invariant.1,
    )

pub returns-clause-children : goal.returns-clause-children
returns-clause-children g c =
    let none : c.children.row.items ≡ [] = c.in_default.ensures.items ∙ append-nil c.pop.new.self.items ∙ (search rules) in
    let all : c.args.row.now.items ≡ c.children.invariant.0.0 = c.children.invariant.0.1 ∙ ap (λ t. t ++ c.children.invariant.0.0) none in
    c.children.invariant.0.2 ∙ ap (λ xs. pairs (drop (length xs) c.args.old.now.keys) c.children.invariant.0.0) none ∙ ap (λ t. pairs c.args.old.now.keys t) (sym all)
