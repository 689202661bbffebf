-- How many shards a map has.
use Rattle.std.specs.Prelude.{ℕ}
use Rattle.share_sharded.specs.declared.typed_congee.Shards.{Shards}
use Rattle.share_sharded.specs.declared.typed_congee.Shards.TheVariants.{One, SixtyFour}

abbrev pub count_of : Shards → ℕ
count_of One = 1
count_of SixtyFour = 64
