-- A call that ends by what was found, or by an update.
use Rattle.std.proofs.Common.{◌≡◌, ◌≢◌, ℕ, Bool, List, Option, Some, None, IsSome, Ok, Err, if◌then◌else◌, rules, subst, eq-eqb, ne_eqb}
use Rattle.share_rule.specs.History.{Entry}
use Rattle.word_book.specs.Book.{Book}
use Rattle.live_nodes.specs.Seats.{SeatView}
use Rattle.live_nodes.specs.Views.{View}
use Rattle.live_nodes.specs.Tree.{Answers}
use Rattle.live_updates.specs.Entries.{swapped}
use Rattle.live_updates.specs.declared.leaf.Missed.{Missed}
use Rattle.live_reads.specs.declared.descend.End.{End}
use Rattle.live_updates.specs.declared.lookup.Site.{Site}
use Rattle.live_updates.specs.declared.lookup.Site.TheVariants as sites
use Rattle.live_updates.specs.inner.Lookups.{Lookup, EndsBy, Sought, Swap, swap_of, failure, exchange_fails}
use Rattle.live_updates.specs.inner.Updates.{Update, Updated}

abbrev Seen : Type 0
Seen = SeatView View

pub no_more : (q : Lookup) (b : Book) (o : Option Site) (v w : Seen) → o ≡ None → Sought q b o v w → w.client.seen ≡ v.client.seen
no_more q b o v w e s = subst (λ (z : Option Site). Sought q b z v w) e s

pub at_none : (q : Lookup) (b : Book) (o : Option Site) (v w : Seen) → o ≡ Some sites.Absent → Sought q b o v w → EndsBy q.caller (q.entry None) v w
at_none q b o v w e s = subst (λ (z : Option Site). Sought q b z v w) e s

pub at_some : (q : Lookup) (b : Book) (o : Option Site) (leaf : End) (x : ℕ) (v w : Seen) → o ≡ Some (sites.At leaf x) → Sought q b o v w → EndsBy q.caller (q.entry (Some x)) v w
at_some q b o leaf x v w e s = (subst (λ (z : Option Site). Sought q b z v w) e s).0

pub missed_same : (u : Update) (o : Option Missed) (v w : Seen) → IsSome o → Updated u o v w → w.client.seen ≡ v.client.seen
missed_same u None v w some_missed d = absurd (search rules)
missed_same u (Some missed) v w some_missed d = d

pub updated_by : (u : Update) (o : Option Missed) (v w : Seen) → o ≡ None → Updated u o v w → Answers u.caller u.entry v.client.seen w.client.seen
updated_by u o v w e d = subst (λ (z : Option Missed). Updated u z v w) e d

-- the same, by another name of the caller, and seen from before
pub answers_from : (c d : ℕ) (e : ℕ → Entry ℕ) (s t u : List (Entry ℕ)) → c ≡ d → s ≡ t → Answers c (e c) s u → Answers d (e d) t u
answers_from c d e s t u by same a = subst (λ (z : ℕ × List (Entry ℕ)). Answers z.0 (e z.0) z.1 u) (λ i. (by i, same i)) a

-- AN EXCHANGE
module _ (x : Swap) (c k old : ℕ) (new : Option ℕ) (is : x ≡ swap_of c k old new) (v w : Seen) where
  pub fails_absent : EndsBy x.caller (exchange_fails x None) v w → Answers c (swapped c k old new (Err None)) v.client.seen w.client.seen
  fails_absent e = subst (λ (z : Swap). EndsBy z.caller (exchange_fails z None) v w) is e

  at_value : (value : ℕ) → EndsBy x.caller (exchange_fails x (Some value)) v w → EndsBy c (exchange_fails (swap_of c k old new) (Some value)) v w
  at_value value e = subst (λ (z : Swap). EndsBy z.caller (exchange_fails z (Some value)) v w) is e

  pub fails_other : (value : ℕ) → value ≢ old → EndsBy x.caller (exchange_fails x (Some value)) v w → Answers c (swapped c k old new (Err (Some value))) v.client.seen w.client.seen
  fails_other value ne e = subst (λ (b : Bool). EndsBy c (failure (swapped c k old new) (if b then Ok new else Err (Some value))) v w) (ne_eqb value old ne) (at_value value e)

  pub goes_on : (value : ℕ) → value ≡ old → EndsBy x.caller (exchange_fails x (Some value)) v w → w.client.seen ≡ v.client.seen
  goes_on value same e = subst (λ (b : Bool). EndsBy c (failure (swapped c k old new) (if b then Ok new else Err (Some value))) v w) (eq-eqb value old same) (at_value value e)

  pub swaps : (s : List (Entry ℕ)) → Answers x.caller (swapped x.caller x.key x.old x.new (Ok x.new)) s w.client.seen → Answers c (swapped c k old new (Ok new)) s w.client.seen
  swaps s a = subst (λ (z : Swap). Answers z.caller (swapped z.caller z.key z.old z.new (Ok z.new)) s w.client.seen) is a
