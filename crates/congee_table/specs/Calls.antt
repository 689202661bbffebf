-- The legal runs of a table's calls.
use Rattle.std.specs.Prelude.{◌≡◌, List, [], ◌∷◌, None, take}
use Rattle.spec_map.specs.Map.{lookup, put, without}
use Rattle.congee_table.specs.Rows.{Rows, row_at, IsInGroup, regrouped, group_rows}
use Rattle.congee_table.specs.declared.calls.TableCall.{TableCall}
use Rattle.congee_table.specs.declared.calls.TableCall.TheVariants.{Put, Get, Delete, Regroup, Group}
use Rattle.congee_table.specs.declared.calls.TableReply.{TableReply}
use Rattle.congee_table.specs.declared.calls.TableReply.TheVariants.{Found, Regrouped, Listed, Failed}
use Rattle.congee_table.specs.declared.table.TableError.{TableError}
use Rattle.congee_table.specs.declared.table.TableError.TheVariants.{Oom, Absent}

-- Which calls may find no memory. A run lists a group in a list of its own, which takes memory;
-- the call itself doesn't.
abbrev pub MayRefuseCall : Rows → TableCall → Type 0
MayRefuseCall t (Put row) = ¬ IsInGroup t row.id row.group
MayRefuseCall t (Get id) = ⊥
MayRefuseCall t (Delete id) = ⊥
MayRefuseCall t (Regroup id group) = ¬ (lookup t id ≡ None) × ¬ IsInGroup t id group
MayRefuseCall t (Group group from limit) = Unit {0}

-- which calls miss the row that they are about
abbrev pub Misses : Rows → TableCall → Type 0
Misses t (Put row) = ⊥
Misses t (Get id) = ⊥
Misses t (Delete id) = ⊥
Misses t (Regroup id group) = lookup t id ≡ None
Misses t (Group group from limit) = ⊥

-- the rows allow this error of the call
abbrev pub MayFail : Rows → TableCall → TableError → Type 0
MayFail t call Oom = MayRefuseCall t call
MayFail t call Absent = Misses t call

-- the rows allow this reply to the call
abbrev pub MayReply : Rows → TableCall → TableReply → Type 0
MayReply t (Put row) (Found before) = before ≡ row_at t row.id
MayReply t (Get id) (Found row) = row ≡ row_at t id
MayReply t (Delete id) (Found before) = before ≡ row_at t id
MayReply t (Regroup id group) (Regrouped old) = IsInGroup t id old
MayReply t (Group group from limit) (Listed rows) =
    rows.items ≡ take limit (group_rows t group from)
MayReply t call (Failed error) = MayFail t call error
MayReply t call reply = ⊥

-- the rows after a call that succeeded
abbrev pub rows_after : Rows → TableCall → Rows
rows_after t (Put row) = put t row.id (row.group, row.value)
rows_after t (Get id) = t
rows_after t (Delete id) = without t id
rows_after t (Regroup id group) = regrouped t id group
rows_after t (Group group from limit) = t

-- the rows after a call with this reply: a call that failed changes nothing
abbrev pub after_reply : Rows → TableCall → TableReply → Rows
after_reply t call (Found row) = rows_after t call
after_reply t call (Regrouped old) = rows_after t call
after_reply t call (Listed rows) = rows_after t call
after_reply t call (Failed error) = t

-- A LEGAL RUN: from the rows t on, each reply is one that the rows allow in its turn, and they
-- end as n.
abbrev pub IsRun : Rows → List TableCall → List TableReply → Rows → Type 0
IsRun t [] [] n = n ≡ t
IsRun t (call ∷ calls) (reply ∷ replies) n =
    MayReply t call reply × IsRun (after_reply t call reply) calls replies n
IsRun t [] (reply ∷ replies) n = ⊥
IsRun t (call ∷ calls) [] n = ⊥
