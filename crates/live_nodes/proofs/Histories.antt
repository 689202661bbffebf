-- Histories that go on.
use Rattle.std.proofs.Common.{◌≡◌, ◌≢◌, ℕ, Bool, cond, nat_eq, List, [], ◌∷◌, ◌++◌, Option, refl, sym, ap, ◌∙◌, subst, eq-eqb, ne_eqb, append-nil, append_assoc}
use Rattle.spec_map.specs.Map.{Pairs, lookup, put}
use Rattle.spec_map.specs.Call.{old_value}
use Rattle.spec_map.specs.Legal.{IsLegal, after_operation}
use Rattle.spec_map.specs.Refusal.{never}
use Rattle.share_rule.specs.History.{Entry, entries_of, operations_of, IsHistory}
use Rattle.share_rule.specs.inner.Rule.{HasSeen}
use Rattle.share_rule.proofs.Keeps.{entries-append}
use Rattle.live_nodes.specs.Seats.{Each}
use Rattle.live_nodes.specs.Views.{Ask, got, inserted}
use Rattle.live_nodes.specs.Begun.{began}

abbrev History : Type 0
History = List (Entry ℕ)

legal-append : (m k n : Pairs ℕ) (xs ys : History) → IsLegal nat_eq never m (operations_of xs) k → IsLegal nat_eq never k (operations_of ys) n → IsLegal nat_eq never m (operations_of (xs ++ ys)) n
legal-append m k n [] ys first then = subst (λ (l : Pairs ℕ). IsLegal nat_eq never l (operations_of ys) n) first then
legal-append m k n (x ∷ xs) ys first then = (first.0, legal-append (after_operation nat_eq m x.operation) k n xs ys first.1 then)

pub get_legal : (history : History) (m : Pairs ℕ) (q : Ask) (found : Option ℕ) → IsHistory nat_eq history m → lookup m q.key ≡ found → IsHistory nat_eq (history ++ got q found ∷ []) m
get_legal history m q found run is = legal-append [] m m history (got q found ∷ []) run ((refl, ap old_value (sym is)), refl)

pub put_legal : (history : History) (m : Pairs ℕ) (q : Ask) (found : Option ℕ) → IsHistory nat_eq history m → lookup m q.key ≡ found → IsHistory nat_eq (history ++ inserted q found ∷ []) (put m q.key q.value)
put_legal history m q found run is = legal-append [] m (put m q.key q.value) history (inserted q found ∷ []) run ((refl, ap old_value (sym is)), refl)

pub began_legal : (history : History) (m : Pairs ℕ) (caller : ℕ) → IsHistory nat_eq history m → IsHistory nat_eq (history ++ began caller ∷ []) m
began_legal history m caller run = legal-append [] m m history (began caller ∷ []) run ((refl, refl), refl)

-- of one entry, who has it
pub its_own : (e : Entry ℕ) → entries_of e.caller (e ∷ []) ≡ e ∷ []
its_own e = ap (λ (b : Bool). cond b (e ∷ []) []) (eq-eqb e.caller e.caller refl)

-- of entries of one caller, what another one has
no_others : (c id : ℕ) (es : History) → c ≢ id → Each (λ (e : Entry ℕ). e.caller ≡ id) es → entries_of c es ≡ []
no_others c id [] ne by = refl
no_others c id (e ∷ es) ne by = ap (λ (b : Bool). cond b (e ∷ entries_of c es) (entries_of c es)) (ne_eqb c e.caller (λ same. ne (same ∙ by.0))) ∙ no_others c id es ne by.1

pub others_alike : (c id : ℕ) (history es : History) → c ≢ id → Each (λ (e : Entry ℕ). e.caller ≡ id) es → entries_of c (history ++ es) ≡ entries_of c history
others_alike c id history es ne by = entries-append c history es ∙ (ap (λ (l : History). entries_of c history ++ l) (no_others c id es ne by) ∙ append-nil (entries_of c history))

-- who has seen the whole, and who saw less
pub sees_all : (c : ℕ) (history : History) → HasSeen history c history
sees_all c history = record { begins = ([], sym (append-nil history)); own = refl }

pub sees_less : (c id : ℕ) (history s es : History) → c ≢ id → Each (λ (e : Entry ℕ). e.caller ≡ id) es → HasSeen history c s → HasSeen (history ++ es) c s
sees_less c id history s es ne by h = record {
  begins = (h.begins.0 ++ es, ap (λ (l : History). l ++ es) h.begins.1 ∙ append_assoc s h.begins.0 es);
  own = others_alike c id history es ne by ∙ h.own;
}
