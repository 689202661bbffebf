-- Look-ups in vain, one after another, and what comes after calls that changed nothing.
use Rattle.std.proofs.Common.{◌≡◌, ℕ, List, [], ◌∷◌, ◌++◌, Option, Some, Result, Ok, Err, IfOk, refl, sym, ap, ◌∙◌, subst, rules, None, IfSome}
use mathlib.Core.List.{IsPrefix}
use Rattle.live_nodes.specs.Known.{Known, MadeCall}
use Rattle.live_nodes.specs.Views.{ask, got, inserted}
use Rattle.live_updates.specs.Entries.{swapped}
use Rattle.word_slots.specs.declared.log.LogEntry.{LogEntry}
use Rattle.word_slots.specs.declared.log.LogEntry.TheVariants.{Issued}
use Rattle.word_slots.specs.Tickets.{HasIssued, IsNew, Loan}
use Rattle.word_slots.proofs.Logs.{get_prefix, prefix_self, prefix_trans}
use Rattle.live_payloads.specs.Payloads.{PayloadsKnown, FoundRetired, LookedInVain, KnowsMore, FindsPayload, GetsPayload, InsertsPayload, ExchangesPayload}

pub vain_once : (key t : ℕ) (k n : Known) → MadeCall k (got (ask k.caller key 0 0) (Some t)) n → LookedInVain key k n
vain_once key t k n made = (t ∷ [], (k, refl, made))

found_more : (key : ℕ) (ts us : List ℕ) (k m n : Known) → FoundRetired key ts k m → FoundRetired key us m n → FoundRetired key (us ++ ts) k n
found_more key ts [] k m n a b = subst (λ (x : Known). FoundRetired key ts k x) (sym b) a
found_more key ts (u ∷ us) k m n a b = (b.0, found_more key ts us k m b.0 a b.1, b.2)

pub vain_on : (key : ℕ) (k m n : Known) → LookedInVain key k m → LookedInVain key m n → LookedInVain key k n
vain_on key k m n a b = (b.0 ++ a.0, found_more key a.0 b.0 k m n a.1 b.1)

module _ {V : Type 0} where
  -- what was issued in a beginning of a log was issued in it
  pub issued_on : (xs ys : List (LogEntry V)) (ticket : ℕ) (value : V) → IsPrefix xs ys → HasIssued xs ticket value → HasIssued ys ticket value
  issued_on xs ys ticket value p h = (h.0, get_prefix xs ys p h.0 (Issued ticket value) h.1)

  -- what is new to a log is new to each beginning of it
  pub new_on : (xs ys : List (LogEntry V)) (ticket : Option ℕ) → IsPrefix xs ys → IfSome ticket (IsNew ys) → IfSome ticket (IsNew xs)
  new_on xs ys None p new = tt
  new_on xs ys (Some t) p new = λ v h. new v (issued_on xs ys t v p h)

  pub knows_none : (k : PayloadsKnown V) → KnowsMore k k
  knows_none k = (refl, refl, prefix_self k.log)

  pub knows_on : (k m n : PayloadsKnown V) → KnowsMore k m → KnowsMore m n → KnowsMore k n
  knows_on k m n a b = (b.0 ∙ a.0, b.1 ∙ a.1, prefix_trans k.log m.log n.log a.2 b.2)

  -- the payload that was lent, and the one that was taken out under its ticket, are one
  pub taken_is : {E : Type 0} (r : Result V E) (value : Option V) (log log' : List (LogEntry V)) (ticket : ℕ) → ((x : V) × (value ≡ Some x) × HasIssued log ticket x) → IsPrefix log log' → IfOk r (λ x. HasIssued log' ticket x) → ((t : ℕ) (v w : V) → HasIssued log' t v → HasIssued log' t w → v ≡ w) → IfOk r (λ x. value ≡ Some x)
  taken_is (Ok x) value log log' ticket h p taken once = h.1 ∙ ap (λ y. Some y) (once ticket h.0 x (issued_on log log' ticket h.0 p h.2) taken)
  taken_is (Err e) value log log' ticket h p taken once = search rules

  pub gets_on : (key : ℕ) (k m n : PayloadsKnown V) (found : Option (Loan V)) → LookedInVain key k.tickets m.tickets → GetsPayload key m found n → GetsPayload key k found n
  gets_on key k m n found vain g = (g.0, vain_on key k.tickets m.tickets g.0 vain g.1, g.2)

  pub exchanges_on : (key old : ℕ) (new : Option V) (answer : Option ℕ → Result (Option ℕ) (Option ℕ)) (k m n : PayloadsKnown V) → m.tickets ≡ k.tickets → IsPrefix k.log m.log → ExchangesPayload key old new answer m n → ExchangesPayload key old new answer k n
  exchanges_on key old new answer k m n same p e = (
    e.0,
    new_on k.log m.log e.0 p e.1,
    e.2,
    subst (λ (z : Known). MadeCall z (swapped z.caller key old e.0 (answer e.0)) n.tickets) same e.3,
  )

  pub inserts_on : (key : ℕ) (payload : V) (k m n : PayloadsKnown V) (before : Option (Loan V)) → m.tickets ≡ k.tickets → IsPrefix k.log m.log → InsertsPayload key payload m before n → InsertsPayload key payload k before n
  inserts_on key payload k m n before same p i = (
    i.0,
    (λ v h. i.1 v (issued_on k.log m.log i.0 v p h)),
    i.2,
    subst (λ (z : Known). FindsPayload (inserted (ask z.caller key i.0 1)) z n before) same i.3,
  )
