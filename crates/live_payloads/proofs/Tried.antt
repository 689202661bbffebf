-- Tries, one after another.
use Rattle.std.proofs.Common.{◌≡◌, ◌⊎◌, ℕ, zero, suc, Bool, List, [], ◌∷◌, Option, Some, None, Result, Ok, Err, IfOk, OnOk, IfErr, IfSome, IfNone, IsSomeAnd, refl, sym, ap, ◌∙◌, subst, inl, inr, unwrap_or}
use mathlib.Core.List.{IsPrefix}
use Rattle.live_nodes.specs.Known.{Known, MadeCall}
use Rattle.live_nodes.specs.Views.{ask, got}
use Rattle.live_growth.specs.declared.map.Refusal.{Refusal}
use Rattle.live_growth.specs.declared.map.Refusal.TheVariants as refusals
use Rattle.live_updates.specs.Refusals.{FoundNone, Refused}
use Rattle.live_updates.specs.Closures.{Reaches, EndsWithCall}
use Rattle.live_updates.specs.ClosureEntries.{inserted_with}
use Rattle.live_updates.proofs.Reached.{last_on}
use Rattle.word_slots.specs.declared.log.LogEntry.{LogEntry}
use Rattle.word_slots.specs.Tickets.{HasIssued, IsNew, Loan}
use Rattle.live_payloads.specs.Payloads.{PayloadsKnown, FoundRetired, IsPayloadOf, IsLoanOf, GetsPayload, ExchangesPayload}
use Rattle.live_payloads.specs.Tries.{HaveTried, Tried, ChangedNone, MissedNeighbour, FindsAtLast, AddsPayload, ReplacesPayload, FindsNeighbour}
use Rattle.live_payloads.specs.Computes.{StoresComputed}
use Rattle.live_payloads.proofs.Looked.{issued_on, new_on}

-- a clause, by what it is about
pub on_ok_is : {A E P : Type 0} (r : Result A E) (x : A) → r ≡ Ok x → OnOk r P → P
on_ok_is {A} {E} {P} r x is h = subst (λ (z : Result A E). OnOk z P) is h

pub if_err_is : {A E : Type 0} (P : E → Type 0) (r : Result A E) (x : E) → r ≡ Err x → IfErr r P → P x
if_err_is {A} {E} P r x is h = subst (λ (z : Result A E). IfErr z P) is h

pub some_and : {A : Type 0} (P : A → Type 0) (o : Option A) (x : A) → o ≡ Some x → P x → IsSomeAnd o P
some_and {A} P o x is h = subst (λ (z : Option A). IsSomeAnd z P) (sym is) h

pub and_some : {A : Type 0} (P : A → Type 0) (o : Option A) → IsSomeAnd o P → (x : A) × (o ≡ Some x) × P x
and_some P (Some x) h = (x, refl, h)
and_some P None h = elim h [ ]

pub some_on : {A : Type 0} (P Q : A → Type 0) (o : Option A) → ((x : A) → P x → Q x) → IfSome o P → IfSome o Q
some_on P Q None then h = tt
some_on P Q (Some x) then h = then x h

pub done_on : {A E P Q : Type 0} (r : Result A E) → (P → Q) → OnOk r P → OnOk r Q
done_on (Ok x) then h = then h
done_on (Err e) then h = tt

pub ok_on : {A E P Q : Type 0} (r : Result A E) → (P → Q) → IfOk r (λ _. P) → IfOk r (λ _. Q)
ok_on (Ok x) then h = then h
ok_on (Err e) then h = tt

pub err_on : {A E : Type 0} (P Q : E → Type 0) (r : Result A E) → ((e : E) → P e → Q e) → IfErr r P → IfErr r Q
err_on P Q (Ok x) then h = tt
err_on P Q (Err e) then h = then e h

pub none_on : {A P Q : Type 0} (o : Option A) → (P → Q) → IfNone o P → IfNone o Q
none_on None then h = then h
none_on (Some x) then h = tt

module _ (Did : Known → Known → Type 0) where
  pub tried_none : (k n : Known) → n ≡ k → Tried Did k n
  tried_none k n same = (0, same)

  pub tried_more : (k m n : Known) → Tried Did k m → Did m n → Tried Did k n
  tried_more k m n t did = (suc t.0, (m, t.1, did))

  tried_after : (count : ℕ) (k m n : Known) → Tried Did k m → HaveTried Did count m n → Tried Did k n
  tried_after zero k m n t same = subst (λ (z : Known). Tried Did k z) (sym same) t
  tried_after (suc count) k m n t s = tried_more k s.0 n (tried_after count k m s.0 t s.1) s.2

  pub tried_on : (k m n : Known) → Tried Did k m → Tried Did m n → Tried Did k n
  tried_on k m n t s = tried_after s.0 k m n t s.1

-- look-ups in vain changed nothing
pub vain_changed : (key : ℕ) (ts : List ℕ) (k n : Known) → FoundRetired key ts k n → Tried (ChangedNone key) k n
vain_changed key [] k n same = (0, same)
vain_changed key (t ∷ ts) k n f = tried_more (ChangedNone key) k f.0 n (vain_changed key ts k f.0 f.1) (inl (Some t, f.2))

-- a get_or_insert that changed nothing, since the key was present, or which was busy
pub found_other : (key ticket t : ℕ) (k m n p : Known) (found : Option ℕ) → found ≡ Some t → m ≡ k → p ≡ n → MadeCall m (inserted_with m.caller key found (unwrap_or found ticket)) n → Tried (ChangedNone key) k p
found_other key ticket t k m n p found is same later made =
    let call : MadeCall m (inserted_with m.caller key (Some t) t) n = subst (λ (z : Option ℕ). MadeCall m (inserted_with m.caller key z (unwrap_or z ticket)) n) is made in
    subst (λ (z : Known). Tried (ChangedNone key) k z) (sym later) (1, (m, same, inr (inr (t, call))))

pub was_busy : (key : ℕ) (k m n p : Known) (why : Refusal) → why ≡ refusals.Busy → m ≡ k → p ≡ n → Refused m key why n → Tried (ChangedNone key) k p
was_busy key k m n p why is same later r =
    let stays : n ≡ m = subst (λ (z : Refusal). Refused m key z n) is r in
    (0, later ∙ (stays ∙ same))

-- a refused call at the key, whichever way it was refused
pub refused_tried : (key : ℕ) (k n : Known) (why : Refusal) → (why ≡ refusals.Busy → Tried (ChangedNone key) k n) → (why ≡ refusals.OutOfMemory → (n ≡ k) ⊎ FoundNone k key n) → Tried (ChangedNone key) k n
refused_tried key k n refusals.Busy busy memory = busy refl
refused_tried key k n refusals.OutOfMemory busy memory = elim (memory refl) [
  | inl same ↦ tried_none (ChangedNone key) k n same
  | inr none ↦ tried_more (ChangedNone key) k k n (tried_none (ChangedNone key) k k refl) (inl (None, none))
]

module _ {V : Type 0} where
  -- a payload that was lent under a ticket is the one that it was issued for
  pub lent_is : (log log' : List (LogEntry V)) (ticket : ℕ) (value : Option V) (payload : V) → log' ≡ log → IsPayloadOf log (Some ticket) value → HasIssued log ticket payload → ((t : ℕ) (v w : V) → HasIssued log' t v → HasIssued log' t w → v ≡ w) → value ≡ Some payload
  lent_is log log' ticket value payload same is issued once =
      let move = λ (x : V) (h : HasIssued log ticket x). subst (λ (l : List (LogEntry V)). HasIssued l ticket x) (sym same) h in
      is.1 ∙ ap (λ (x : V). Some x) (once ticket is.0 payload (move is.0 is.2) (move payload issued))

  pub gets_at_last : (key : ℕ) (k n : PayloadsKnown V) (found : Option (Loan V)) → GetsPayload key k found n → FindsAtLast key k found n
  gets_at_last key k n found g = (g.0, vain_changed key g.1.0 k.tickets g.0 g.1.1, g.2)

  pub gets_changed : (key : ℕ) (k n : PayloadsKnown V) (found : Option (Loan V)) → GetsPayload key k found n → Tried (ChangedNone key) k.tickets n.tickets
  gets_changed key k n found g = tried_more (ChangedNone key) k.tickets g.0 n.tickets (vain_changed key g.1.0 k.tickets g.0 g.1.1) (inl (g.2.0, g.2.1))

  pub finds_on : (key : ℕ) (k m n : PayloadsKnown V) (found : Option (Loan V)) → Tried (ChangedNone key) k.tickets m.tickets → FindsAtLast key m found n → FindsAtLast key k found n
  finds_on key k m n found t f = (f.0, tried_on (ChangedNone key) k.tickets m.tickets f.0 t f.1, f.2)

  -- a key that was looked up and absent, and then memory was missing
  none_then : (key : ℕ) (last : Known) (n m : PayloadsKnown V) (ticket : Option ℕ) → MadeCall last (got (ask last.caller key 0 0) ticket) m.tickets → IsLoanOf m.log ticket None → MadeCall last (got (ask last.caller key 0 0) None) m.tickets
  none_then key last n m None made is = made
  none_then key last n m (Some t) made is = absurd (let e : None ≡ Some is.0 = is.1 in cc)

  pub refused_then : (key : ℕ) (k m n : PayloadsKnown V) → GetsPayload key k None m → (n.tickets ≡ m.tickets) ⊎ FoundNone m.tickets key n.tickets → FindsAtLast key k None n
  refused_then key k m n g (inl same) =
      let made = none_then key g.0 n m g.2.0 g.2.1 g.2.2 in
      (g.0, vain_changed key g.1.0 k.tickets g.0 g.1.1, (None, subst (λ (z : Known). MadeCall g.0 (got (ask g.0.caller key 0 0) None) z) (sym same) made, refl))
  refused_then key k m n g (inr none) = (m.tickets, gets_changed key k m None g, (None, none, refl))

  pub adds_now : (key ticket : ℕ) (payload : V) (k n : PayloadsKnown V) (m : Known) (found : Option ℕ) → found ≡ None → m ≡ k.tickets → IsNew k.log ticket → HasIssued n.log ticket payload → MadeCall m (inserted_with m.caller key found (unwrap_or found ticket)) n.tickets → AddsPayload key ticket payload k n
  adds_now key ticket payload k n m found is same first issued made =
      (m, (0, same), first, issued, subst (λ (z : Option ℕ). MadeCall m (inserted_with m.caller key z (unwrap_or z ticket)) n.tickets) is made)

  pub adds_on : (key ticket : ℕ) (payload : V) (k m n : PayloadsKnown V) → Tried (ChangedNone key) k.tickets m.tickets → IsPrefix k.log m.log → AddsPayload key ticket payload m n → AddsPayload key ticket payload k n
  adds_on key ticket payload k m n t p a = (
    a.0,
    tried_on (ChangedNone key) k.tickets m.tickets a.0 t a.1,
    (λ v h. a.2 v (issued_on k.log m.log ticket v p h)),
    a.3,
    a.4,
  )

  -- an exchange of what was looked up
  pub replaces_now : (key ticket : ℕ) (old : V) (new : Option V) (k m n : PayloadsKnown V) → Tried (ChangedNone key) k.tickets m.tickets → IsPrefix k.log m.log → IsPrefix m.log n.log → HasIssued m.log ticket old → ExchangesPayload key ticket new (λ t. Ok t) m n → ReplacesPayload key ticket old new k n
  replaces_now key ticket old new k m n t q p issued e = (m.tickets, t, e.0, new_on k.log m.log e.0 q e.1, issued_on m.log n.log ticket old p issued, e.2, e.3)

  pub lost_now : (key ticket : ℕ) (new : Option V) (found : Option ℕ) (k m n : PayloadsKnown V) → Tried (ChangedNone key) k.tickets m.tickets → ExchangesPayload key ticket new (λ t. Err found) m n → Tried (ChangedNone key) k.tickets n.tickets
  lost_now key ticket new found k m n t e = tried_more (ChangedNone key) k.tickets m.tickets n.tickets t (inr (inl (ticket, e.0, found, e.3)))

  -- by what a refused exchange states of what came back
  pub lost_if : (key ticket : ℕ) (new : Option V) (back : Option V) (answer : Result (Unit {0}) (Option V)) → answer ≡ Err back → (k m n : PayloadsKnown V) → Tried (ChangedNone key) k.tickets m.tickets
      → IfErr answer (λ it. (it ≡ new) × ((found : Option ℕ) × ExchangesPayload key ticket new (λ t. Err found) m n)) → Tried (ChangedNone key) k.tickets n.tickets
  lost_if key ticket new back answer is k m n t lost =
      let e = if_err_is (λ (it : Option V). (it ≡ new) × ((found : Option ℕ) × ExchangesPayload key ticket new (λ t. Err found) m n)) answer back is lost in
      lost_now key ticket new e.1.0 k m n t e.1.1

  pub replaces_on : (key ticket : ℕ) (old : V) (new : Option V) (k m n : PayloadsKnown V) → Tried (ChangedNone key) k.tickets m.tickets → IsPrefix k.log m.log → ReplacesPayload key ticket old new m n → ReplacesPayload key ticket old new k n
  replaces_on key ticket old new k m n t p r = (r.0, tried_on (ChangedNone key) k.tickets m.tickets r.0 t r.1, r.2, new_on k.log m.log r.2 p r.3, r.4, r.5, r.6)

  pub neighbour_on : {K : Type 0} (of_number : ℕ → K) (up : Bool) (key : ℕ) (k m n : PayloadsKnown V) (found : Option (K × Loan V)) → Tried (MissedNeighbour up key) k.tickets m.tickets → FindsNeighbour of_number up key m found n → FindsNeighbour of_number up key k found n
  neighbour_on of_number up key k m n found t f = (f.0, tried_on (MissedNeighbour up key) k.tickets m.tickets f.0 t f.1, f.2, f.3, f.4)

  pub computes_on : {F : Type 0} (step : F → V → Option V → F → Type 0) (f g h : F) (key : ℕ) (k m n : PayloadsKnown V) (done : Option (Loan V)) → Reaches step f g → Tried (ChangedNone key) k.tickets m.tickets → IsPrefix k.log m.log
      → IfSome done (λ lent. (old : V) × (new : Option V) × (lent.value ≡ Some old) × EndsWithCall step g old new h × ReplacesPayload key lent.ticket old new m n)
      → IfSome done (λ lent. (old : V) × (new : Option V) × (lent.value ≡ Some old) × EndsWithCall step f old new h × ReplacesPayload key lent.ticket old new k n)
  computes_on step f g h key k m n None reached t p done = tt
  computes_on step f g h key k m n (Some lent) reached t p done = (done.0, done.1, done.2, last_on step f g h done.0 done.1 reached done.3, replaces_on key lent.ticket done.0 done.1 k m n t p done.4)

  -- what was stored is what the closure returned last
  pub stores_some : {F : Type 0} (step : F → Option V → V → F → Type 0) (f h : F) (key : ℕ) (lent : Loan V) (m n : PayloadsKnown V)
      → IsSomeAnd lent.value (λ old. (new : V) × EndsWithCall step f (Some old) new h × ReplacesPayload key lent.ticket old (Some new) m n) → StoresComputed step f h key (Some lent) m n
  stores_some step f h key lent m n made =
      let at = and_some (λ (old : V). (new : V) × EndsWithCall step f (Some old) new h × ReplacesPayload key lent.ticket old (Some new) m n) lent.value made in
      (at.0, at.2.0, at.1, at.2.1, at.2.2)

  pub stores_on : {F : Type 0} (step : F → Option V → V → F → Type 0) (f g h : F) (key : ℕ) (before : Option (Loan V)) (k m n : PayloadsKnown V) → Reaches step f g → Tried (ChangedNone key) k.tickets m.tickets → IsPrefix k.log m.log
      → StoresComputed step g h key before m n → StoresComputed step f h key before k n
  stores_on step f g h key None k m n reached t p s = (s.0, s.1, last_on step f g h None s.1 reached s.2, adds_on key s.0 s.1 k m n t p s.3)
  stores_on step f g h key (Some lent) k m n reached t p s = (s.0, s.1, s.2, last_on step f g h (Some s.0) s.1 reached s.3, replaces_on key lent.ticket s.0 (Some s.1) k m n t p s.4)
