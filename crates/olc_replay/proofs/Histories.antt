-- From how an event changes the content to its decided history.
use Rattle.std.proofs.Common.{ℕ, Option, Some, sym, subst}
use Rattle.spec_map.specs.Map.{Pairs}
use Rattle.spec_olc.specs.Deciding.{ContentAfter}
use Rattle.spec_olc.specs.Runs.{IsHistory, same_number, decided_as, decided_by}
use Rattle.spec_olc.specs.State.{CallState}
use Rattle.spec_olc.specs.declared.types.Op.{Op}
use Rattle.spec_olc.specs.declared.types.Outcome.{Outcome}
use Rattle.spec_olc.specs.declared.types.Outcome.TheVariants.{Decided}

-- an event changes the content as its decision changes the map
pub carried : (m n : Pairs ℕ) (id : ℕ) (call : CallState ℕ) (out : Outcome ℕ) → ContentAfter same_number m n call out → IsHistory m (decided_by id (Some call) out) n
carried m n id call (Decided reply) h =
    subst (λ (o : Option (Op ℕ)). IsHistory m (decided_as id o call.asking reply) n) (sym h.op_is) ((h.asked, h.replied), h.after)
carried m n id call out h = h
