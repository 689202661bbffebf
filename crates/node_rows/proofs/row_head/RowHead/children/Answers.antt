use Rattle.std.proofs.Common.{rules, arith, ℕ, ◌≡◌, ◌+◌, ◌-◌, ◌⊎◌, inl, inr, length, ◌∙◌, take, drop, ap, List, nat_lt}
use Rattle.std.specs.List.{count_by}
use Rattle.node_base.specs.inner.Sorted.{below, pairs, IsSorted}
use Rattle.node_forms.proofs.SortedLaws.{part_between, part_none}
use Rattle.node_forms.proofs.SearchLaws.{rank-at, end-at}
use Rattle.node_rows.proofs.row_head.RowHead.children.Goals as goal
use Rattle.node_rows.proofs.row_head.RowHead.children.Goals.{then-end-eq255, else-end-eq255}

-- the place of the byte after the last
end_place : {C : Type 0} {most : ℕ} {ks : List ℕ} {cs : List C} {count : ℕ} → IsSorted most ks cs count → (b : ℕ) {n j : ℕ} → n ≡ length cs
    → ((b ≡ 256) × (j ≡ n)) ⊎ (j ≡ count_by (λ x. nat_lt x b) (take n ks)) → j ≡ below (take n ks) b
end_place r b n (inl whole) = end-at r n b whole.0 whole.1
end_place r b n (inr ranked) = rank-at r n b ranked

pub returns-then-low-high-clause-children : goal.returns-then-low-high-clause-children
returns-then-low-high-clause-children g c =
    let n : c.len-count.result ≡ length c.args.row.now.items = search rules in
    let low = rank-at c.requires.0 n c.args.start c.rank_48-low.ensures in
    let high : c.if-end-eq255.high ≡ below (take c.len-count.result c.args.self.now.keys) (c.args.end + 1) =
    end_place c.requires.0 (c.args.end + 1) n (elim c.if-end-eq255.branch [ then-end-eq255 w ↦ inl (omega (arith, w.if-end-eq255.true), w.high-is) | else-end-eq255 w ↦ inr (w.high-is ∙ w.rank_48-high.ensures) ])
    in
    ap (λ (x : List g.row.C.Denot). pairs (take (c.if-end-eq255.high - c.rank_48-low.result) (drop c.rank_48-low.result c.args.self.now.keys)) (take (c.if-end-eq255.high - c.rank_48-low.result) (drop c.rank_48-low.result x))) c.deref.ensures.value
    ∙ (part_between c.requires.0 c.args.start (c.args.end + 1) n low high)

pub returns-clause-children : goal.returns-clause-children
returns-clause-children g c =
    let n : c.len-count.result ≡ length c.args.row.now.items = search rules in
    let low = rank-at c.requires.0 n c.args.start c.rank_48-low.ensures in
    let high : c.if-end-eq255.high ≡ below (take c.len-count.result c.args.self.now.keys) (c.args.end + 1) =
    end_place c.requires.0 (c.args.end + 1) n (elim c.if-end-eq255.branch [ then-end-eq255 w ↦ inl (omega (arith, w.if-end-eq255.true), w.high-is) | else-end-eq255 w ↦ inr (w.high-is ∙ w.rank_48-high.ensures) ])
    in
    (part_none c.requires.0 c.args.start (c.args.end + 1) n low high c.if-low-high.false)
