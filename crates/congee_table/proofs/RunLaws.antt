-- A run with one call more.
use Rattle.std.proofs.Common.{ℕ, ◌+◌, ◌<◌, List, [], ◌∷◌, ◌++◌, length, get_or, take, subst}
use Rattle.std.proofs.lemmas.List.{take_more}
use Rattle.congee_table.specs.Rows.{Rows}
use Rattle.congee_table.specs.declared.calls.TableCall.{TableCall}
use Rattle.congee_table.specs.declared.calls.TableReply.{TableReply}
use Rattle.congee_table.specs.Calls.{IsRun, after_reply}

IsRun-append : (t k n : Rows) (calls calls' : List TableCall) (replies replies' : List TableReply) → IsRun t calls replies k → IsRun k calls' replies' n
    → IsRun t (calls ++ calls') (replies ++ replies') n
IsRun-append t k n [] calls' [] replies' h then = subst (λ (l : Rows). IsRun l calls' replies' n) h then
IsRun-append t k n [] calls' (reply ∷ replies) replies' h then = absurd h
IsRun-append t k n (call ∷ calls) calls' [] replies' h then = absurd h
IsRun-append t k n (call ∷ calls) calls' (reply ∷ replies) replies' h then =
    (h.0, IsRun-append (after_reply t call reply) k n calls calls' replies replies' h.1 then)

-- the call at this place
pub run_more : (t k n : Rows) (calls : List TableCall) (i : ℕ) (d : TableCall) (replies : List TableReply) (reply : TableReply) → i < length calls
    → IsRun t (take i calls) replies k → IsRun k (get_or calls i d ∷ []) (reply ∷ []) n → IsRun t (take (i + 1) calls) (replies ++ reply ∷ []) n
run_more t k n calls i d replies reply inside run step =
    rw (take_more calls i d inside) (IsRun-append t k n (take i calls) (get_or calls i d ∷ []) replies (reply ∷ []) run step)
