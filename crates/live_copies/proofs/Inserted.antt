-- Insertions of the pairs of a map, keys ascending, into an empty one: they lead to the same map.
use Rattle.std.proofs.Common.{◌≡◌, ℕ, ◌+◌, ◌≤◌, nat_eq, List, [], ◌∷◌, ◌++◌, Result, Ok, Err, IfOk, OnErr, inr, sym, ap, subst, ◌∙◌, append-nil, arith}
use Rattle.std.proofs.lemmas.List.{append_assoc}
use Rattle.spec_map.specs.Map.{Pairs, Rises, put}
use Rattle.spec_map.proofs.JoinLaws.{Rises-append, put-append_right}
use Rattle.share_rule.specs.History.{Entry, IsHistory}
use Rattle.congee_tree.specs.Bulk.{put_all}
use Rattle.live_nodes.specs.Known.{Known}
use Rattle.live_scans.specs.Scans.{HasWaited, Waits}
use Rattle.live_scans.proofs.Pages.{waited_more}
use Rattle.live_copies.specs.Copies.{HasCopied}
use Rattle.live_updates.proofs.Rising.{history_ascends}

-- insertions of pairs by their numbers
abbrev all_in : Pairs ℕ → Pairs ℕ → Pairs ℕ
all_in m es = put_all (λ (key : ℕ). key) (λ (value : ℕ). value) m es

put_last : (low : ℕ) (m : Pairs ℕ) (k v : ℕ) → Rises 0 low m → low ≤ k → put m k v ≡ m ++ (k, v) ∷ []
put_last low m k v h far = ap (λ (x : Pairs ℕ). put x k v) (sym (append-nil m)) ∙ put-append_right 0 low m [] k v h far

put_behind : (low high : ℕ) (m es : Pairs ℕ) → Rises 0 low m → Rises low high es → all_in m es ≡ m ++ es
put_behind low high m [] h rest = sym (append-nil m)
put_behind low high m (e ∷ es) h rest =
    let far = rest.0 in
    let last = put_last low m e.0 e.1 h far in
    let more : Rises 0 (e.0 + 1) (m ++ e ∷ []) = Rises-append 0 low (e.0 + 1) m (e ∷ []) (omega arith) (omega (arith, far)) h (far, omega arith, tt) in
    ap (λ (x : Pairs ℕ). all_in x es) last ∙ put_behind (e.0 + 1) high (m ++ e ∷ []) es more rest.2 ∙ append_assoc m (e ∷ []) es

pub put_into_none : (history : List (Entry ℕ)) (es : Pairs ℕ) → IsHistory nat_eq history es → all_in [] es ≡ es
put_into_none history es legal =
    let ascends = history_ascends history es legal in put_behind 0 ascends.0 [] es tt ascends.1

-- what is copied, and then inserted into an empty map
pub if_moved : {T E : Type 0} (r : Result T E) (pairs : T → Pairs ℕ) (k n : Known) (ps qs : Pairs ℕ) → Waits k (λ m. HasCopied m ps n) → qs ≡ ps → IfOk r (λ owned. pairs owned ≡ all_in [] qs) → IfOk r (λ owned. Waits k (λ m. HasCopied m (pairs owned) n))
if_moved (Ok owned) pairs k n ps qs copied same is =
    let all = is ∙ ap (λ (z : Pairs ℕ). all_in [] z) same ∙ put_into_none n.seen ps copied.2.whole in subst (λ (z : Pairs ℕ). Waits k (λ m. HasCopied m z n)) (sym all) copied
if_moved (Err e) pairs k n ps qs copied same is = tt

-- and of what a guard knows where there was no memory for the owner
pub if_not_moved : {T E : Type 0} (r : Result T E) (k n : Known) (ps : Pairs ℕ) → Waits k (λ m. HasCopied m ps n) → OnErr r (HasWaited k n)
if_not_moved (Ok owned) k n ps copied = tt
if_not_moved (Err e) k n ps copied = waited_more k copied.0 n copied.1 (inr copied.2.seen)
