-- The text of the statistics, put together from what each write writes.
use Rattle.std.proofs.Common.{◌≡◌, ℕ, suc, ◌+◌, ◌*◌, List, [], ◌∷◌, ◌++◌, length, ap, sym, ◌∙◌, append_assoc, append-nil, arith, take, get_or, ◌<◌, ◌≤◌}
use Rattle.std.proofs.lemmas.List.{take_more, length-take-le, take_all}
use Rattle.std.specs.Prelude.{codes}
use Rattle.std.specs.Fmt.{styled_decimal, format_spec}
use Rattle.node_base.specs.declared.base_node.NodeType.{NodeType}
use Rattle.node_stats.specs.declared.levels.LevelStats.{LevelStats}
use Rattle.node_stats.specs.declared.NodeStats.{NodeStats}
use Rattle.node_stats.specs.Fractions.{hundredths, with_two_decimals, right_aligned}
use Rattle.node_stats.specs.LevelCounts.{node_count, entry_count}
use Rattle.node_stats.specs.StatsText.{form_text, form_name, form_capacity, level_lines_from, level_line, four_lines, stats_text, shown_levels, all_nodes, all_entries, all_bytes, load, full_load}
use Rattle.node_stats.proofs.NumberTextLaws.{spaces_eight}

pub form_text_is : (form : NodeType) (level : LevelStats) (name : List ℕ) (nodes room entries h : ℕ)
    → name ≡ form_name form → nodes ≡ node_count form level → room ≡ form_capacity form → entries ≡ entry_count form level
    → h ≡ hundredths entries (room * nodes)
    → name ++ (codes ": " ++ (styled_decimal (format_spec 32 0 0 8 18446744073709551615) nodes ++ (codes ", " ++ right_aligned 8 (with_two_decimals h))))
    ≡ form_text form level
unfolding form_text
form_text_is form level name nodes room entries h a b c d e = rw (e, a, b, c, d, spaces_eight)

-- one more line
level_lines-append : (k : ℕ) (xs ys : List LevelStats)
    → level_lines_from k (xs ++ ys) ≡ level_lines_from k xs ++ level_lines_from (k + length xs) ys
level_lines-append k [] ys = let e : k ≡ k + 0 = omega arith in ap (λ (m : ℕ). level_lines_from m ys) e
level_lines-append k (x ∷ xs) ys =
    let e : k + 1 + length xs ≡ k + suc (length xs) = omega arith in
    let rest : level_lines_from (k + 1) (xs ++ ys) ≡ level_lines_from (k + 1) xs ++ level_lines_from (k + suc (length xs)) ys
    = level_lines-append (k + 1) xs ys ∙ ap (λ (m : ℕ). level_lines_from (k + 1) xs ++ level_lines_from m ys) e in
    ap (λ t. level_line k x ++ t) rest ∙ sym (append_assoc (level_line k x) (level_lines_from (k + 1) xs) (level_lines_from (k + suc (length xs)) ys))

-- the lines of one more level
pub level_lines_take_more : (xs : List LevelStats) (k : ℕ) (d : LevelStats) → k < length xs
    → level_lines_from 0 (take (k + 1) xs) ≡ level_lines_from 0 (take k xs) ++ level_line k (get_or xs k d)
level_lines_take_more xs k d inside =
    let short : length (take k xs) ≡ k = length-take-le k xs (omega arith) in
    let at_k : 0 + length (take k xs) ≡ k = omega arith in
    rw (take_more xs k d inside, level_lines-append, at_k, append-nil)

-- the level lines and the last four
pub stats_text_is : (stats : NodeStats) (levels : List LevelStats) (k nodes entries full all bytes pairs : ℕ)
    → levels ≡ shown_levels stats.levels → length levels ≤ k
    → nodes ≡ all_nodes levels → entries ≡ all_entries levels → full ≡ load levels → all ≡ full_load levels
    → bytes ≡ all_bytes levels → pairs ≡ stats.kv_pairs
    → level_lines_from 0 (take k levels) ++ four_lines nodes entries full all bytes pairs ≡ stats_text stats
stats_text_is stats levels k nodes entries full all bytes pairs are done n e f r b p =
    rw (take_all k levels done, n, e, f, r, b, p, are)
