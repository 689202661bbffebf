-- What contracts see of a lock of shards.
use Rattle.std.specs.Prelude.{ℕ, refl}
use Rattle.std.specs.Coded.{Coded, coded_ℕ, coded×, code_by}
use Rattle.atomic_table.specs.Seated.{TableId, table_id_coded}

-- its table, with a slot for each shard, and the limit of each shard
pub record LockView : Type 0 where
  pub table : TableId
  pub limit : ℕ

abbrev pub lock_view_coded : Coded LockView
lock_view_coded =
    code_by
    (TableId × ℕ)
    (coded× table_id_coded coded_ℕ)
    (λ l. (l.table, l.limit))
    (λ p. record { table = p.0; limit = p.1 })
    (λ _. refl)
