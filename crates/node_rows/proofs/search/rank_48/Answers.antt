use Rattle.std.proofs.Common.{◌-◌, nat_lt, drop, arith}
use Rattle.node_rows.proofs.RankLaws.{rank-few, rank-two, rank-three}
use Rattle.node_rows.proofs.search.rank_48.Goals as goal

pub returns-then-count-le32 : goal.returns-then-count-le32
returns-then-count-le32 c =
    let two = rank-two (λ x. nat_lt x c.args.byte) c.args.keys.now c.args.count (omega (arith, c.if-count-le16.false)) in
    omega (arith, c.rank_from-low.ensures, c.rank_from-then-count-le32.ensures, two)

pub overflow_add-result-2 : goal.overflow_add-result-2
overflow_add-result-2 c =
    let keys = c.args.keys.now in
    let low = rank-few (λ x. nat_lt x c.args.byte) keys 16 keys in
    let middle = rank-few (λ x. nat_lt x c.args.byte) keys 16 (drop 16 keys) in
    omega (arith, low, middle, c.rank_from-low.ensures, c.rank_from-2.ensures)

pub overflow_add-result-3 : goal.overflow_add-result-3
overflow_add-result-3 c =
    let keys = c.args.keys.now in
    let low = rank-few (λ x. nat_lt x c.args.byte) keys 16 keys in
    let middle = rank-few (λ x. nat_lt x c.args.byte) keys 16 (drop 16 keys) in
    let high = rank-few (λ x. nat_lt x c.args.byte) keys (c.args.count - 32) (drop 32 keys) in
    omega (arith, low, middle, high, c.requires, c.rank_from-low.ensures, c.rank_from-2.ensures, c.rank_from-3.ensures)

pub returns : goal.returns
returns c =
    let three = rank-three (λ x. nat_lt x c.args.byte) c.args.keys.now c.args.count (omega (arith, c.if-count-le32.false)) in
    omega (arith, c.rank_from-low.ensures, c.rank_from-2.ensures, c.rank_from-3.ensures, three)
