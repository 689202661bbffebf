use Rattle.std.proofs.Common.{◌+◌, ◌-◌, ◌^◌, ap, sym, refl, arith}
use Rattle.spec_map.specs.Near.{first_of, last_of}
use Rattle.spec_map.proofs.RangeLaws.{between-all, between-crossed}
use Rattle.spec_map.proofs.near_laws.each_is_a_floor_or_ceiling.Goals as goal

pub returns-clause-first : goal.returns-clause-first
returns-clause-first g c m h = ap (λ es. first_of es) (sym (between-all 0 (2 ^ 64) 0 (2 ^ 64) m h (omega arith) (omega arith)))

pub returns-clause-last : goal.returns-clause-last
returns-clause-last g c m h = ap (λ es. last_of es) (sym (between-all 0 (2 ^ 64) 0 (2 ^ 64 - 1 + 1) m h (omega arith) (omega arith)))

pub returns-clause-above : goal.returns-clause-above
returns-clause-above g c m k = refl

pub returns-clause-below : goal.returns-clause-below
returns-clause-below g c m k = refl

pub returns-clause-nothing_below : goal.returns-clause-nothing_below
returns-clause-nothing_below g c m = ap (λ es. last_of es) (between-crossed 0 0 m (omega arith))
