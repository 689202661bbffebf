-- THE ENTRY WITH WHICH A READER BEGINS: a range of no pairs. Any map allows it, and it changes nothing.
use Rattle.std.specs.Prelude.{ℕ, [], None}
use Rattle.spec_map.specs.Call.{range, ranged, replied}
use Rattle.share_rule.specs.History.{Entry, entry}

abbrev pub began : ℕ → Entry ℕ
began caller = entry caller record { call = range 0 0 0; asked = None; answer = replied (ranged []) }
