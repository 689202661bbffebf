-- What each event owes: a Finish no cleanup, a reply a Read, a lock and a Write a change, a new node its form.
use Rattle.std.proofs.Common.{◌≡◌, ◌≢◌, ℕ, Bool, true, false, IsTrue, Option, Some, None, IsSome, inl, inr, refl, sym, subst, ◌∙◌}
use Rattle.node_base.specs.declared.base_node.NodeType.TheVariants.{N4}
use Rattle.spec_node.specs.Key.{Begins}
use Rattle.spec_node.specs.TableNode.{TableNode, Child}
use Rattle.spec_node.specs.declared.child.Child.TheVariants.{Payload, Node as below}
use Rattle.spec_olc.proofs.Settling.{by_ok}
use Rattle.spec_olc.proofs.Steps.{none_some, some_is}
use Rattle.spec_olc.specs.Calls.{IsPoint, Outline, bytes_of}
use Rattle.spec_olc.specs.Content.{IsStoredAt}
use Rattle.spec_olc.specs.Due.{IsDue, IsLeft, may_follow}
use Rattle.spec_olc.specs.Kinds.{AnswerOutcome, CheckOutcome, Checks, DoesAs, Finishes, Makes, ReadOutcome, Upgrades, WriteOutcome, Writes, refusal}
use Rattle.spec_olc.specs.Local.{MayChange, MayLock, SharesNone, seen_child, seen_payload}
use Rattle.spec_olc.specs.Reading.{EndsAt, Gives, HasAll, Remembered}
use Rattle.spec_olc.specs.State.{CallState, Cleaning, State}
use Rattle.spec_olc.specs.Writing.{HeldNode, IsChanged, copy_form, entry_below}
use Rattle.spec_olc.specs.declared.types.Env.{Env}
use Rattle.spec_olc.specs.declared.types.Kind.TheVariants as kind
use Rattle.spec_olc.specs.declared.types.Kind.{Kind}
use Rattle.spec_olc.specs.declared.types.Op.{Op}
use Rattle.spec_olc.specs.declared.types.Op.TheVariants.{Get, CompareExchange, Range}
use Rattle.spec_olc.specs.declared.types.Outcome.TheVariants.{Ask, Decided, Done, Going, Pair, Refused}
use Rattle.spec_olc.specs.declared.types.Outcome.{Outcome}
use Rattle.spec_olc.specs.declared.types.Progress.{Progress}
use Rattle.spec_olc.specs.declared.types.Progress.TheVariants as progress
use Rattle.spec_olc.specs.declared.types.Reply.{Reply}
use Rattle.spec_olc.specs.declared.types.Report.{Report}

false_true : false ≡ true → ⊥
false_true e = cc

not_true : (b : Bool) → (b ≡ true → ⊥) → b ≡ false
not_true true f = absurd (f refl)
not_true false f = refl

none_left : (c : Option Cleaning) → IsSome c → c ≡ None → ⊥
none_left None some none = cc
none_left (Some c) some none = none_some c (sym none)

no_range : (o : Outline) (reach given : ℕ) → IsPoint o → HasAll o reach given → ⊥
no_range (Range a b n) reach given point all = point
no_range o reach given point all = all

-- AN OUTCOME that isn't this one
module _ {M : Type 0} where
  -- it tells that the call has read
  abbrev pub Speaks : Outcome M → Type 0
  Speaks (Decided reply) = Unit {0}
  Speaks (Ask question) = Unit {0}
  Speaks _ = ⊥

  going_speaks : (out : Outcome M) → out ≡ Going → Speaks out → ⊥
  going_speaks out e s = subst (λ (o : Outcome M). Speaks o) e s

  done_speaks : (out : Outcome M) → out ≡ Done → Speaks out → ⊥
  done_speaks out e s = subst (λ (o : Outcome M). Speaks o) e s

  refusal_speaks : (p : Progress) (out : Outcome M) → out ≡ refusal p → Speaks out → ⊥
  refusal_speaks progress.Open out e s = subst (λ (o : Outcome M). Speaks o) e s
  refusal_speaks progress.Decided out e s = subst (λ (o : Outcome M). Speaks o) e s
  refusal_speaks progress.Refused out e s = subst (λ (o : Outcome M). Speaks o) e s

-- A CLEANUP THAT FOLLOWS a Write
module _ {M : Type 0} where
  pub left_first : (was : Option Cleaning) (child : Option (Child M)) (a : TableNode M) (left : Option Cleaning) → IsLeft was child a left → was ≡ None → child ≡ None → IsDue a → (c : Cleaning) × (left ≡ Some c) × IsTrue c.again
  left_first was child a None h first none due = absurd (h (subst (λ (x : Option Cleaning). IsTrue (may_follow x)) (sym first) refl) none due)
  left_first was child a (Some c) h first none due = (c, refl, h.4.1 first)

  pub left_last : (was : Option Cleaning) (b : Cleaning) (child : Option (Child M)) (a : TableNode M) (left : Option Cleaning) → IsLeft was child a left → was ≡ Some b → IsTrue b.again → child ≡ None → IsDue a → (c : Cleaning) × (left ≡ Some c) × (c.again ≡ false)
  left_last was b child a None h is again none due = absurd (h (subst (λ (x : Option Cleaning). IsTrue (may_follow x)) (sym is) again) none due)
  left_last was b child a (Some c) h is again none due = (c, refl, not_true c.again (λ t. none_some b (sym (h.4.0 t) ∙ is)))

  pub left_none : (was : Option Cleaning) (b : Cleaning) (child : Option (Child M)) (a : TableNode M) (left : Option Cleaning) → IsLeft was child a left → was ≡ Some b → b.again ≡ false → left ≡ None
  left_none was b child a None h is last = refl
  left_none was b child a (Some c) h is last = absurd (false_true (sym last ∙ subst (λ (x : Option Cleaning). IsTrue (may_follow x)) is h.0))

module _ {M : Type 0} (Granted : Type 0) (same : M → M → Bool) (old new : State M) (id : ℕ) (call : CallState M) (env : Env M) (report : Report) (out : Outcome M) where
  -- A FINISH
  pub cleans_first : IsPoint call.outline → IsSome call.cleaning → Finishes Granted same old new id call env report out → ⊥
  cleans_first point cleans f = elim f.may [ inl over ↦ none_left call.cleaning cleans over.1 | inr all ↦ no_range call.outline call.reach call.given point all ]

  -- A REPLY, AND A QUESTION
  found_read : (a : Remembered old call) (planned : CallState M) (o : Outcome M) → CheckOutcome Granted same old call a planned o → Speaks o → IsSome call.seen
  found_read a planned (Ask question) h s = h.0.read
  found_read a planned (Decided reply) h s = h.0.read
  found_read a planned o h s = absurd s

  saw_read : (node : TableNode M) (whole : Bool) (o : Outcome M) → ReadOutcome Granted same old new id call env report out node whole o → Speaks o → ⊥
  saw_read node true Going d s = s
  saw_read node true Refused d s = s
  saw_read node false Going d s = s
  saw_read node whole o d s = d

  heard_read : (asked : Option M) (o : Outcome M) → AnswerOutcome Granted same old new id call env report out asked o → Speaks o → ⊥
  heard_read asked Going d s = s
  heard_read asked Refused d s = s
  heard_read asked o d s = d

  wrote_read : (o : Outcome M) → WriteOutcome Granted same call o → Speaks o → IsSome call.seen
  wrote_read (Decided reply) d s = d.read
  wrote_read Going d s = absurd s
  wrote_read o d s = absurd d

  pub read_first : (k : Kind) → DoesAs Granted same old new id call env report out k → Speaks out → IsSome call.seen
  read_first kind.Start d s = absurd d
  read_first kind.Take d s = absurd (going_speaks out d.1.reports.1 s)
  read_first kind.Check d s = by_ok report.ok (λ good. found_read d.1.knows d.1.planned out (d.1.passes good) s) (λ bad. absurd (going_speaks out (d.1.fails bad).0 s))
  read_first kind.Read d s = absurd (saw_read d.1.knows.node.node d.1.whole out d.1.sees s)
  read_first kind.Upgrade d s = absurd (going_speaks out d.1.reports.1 s)
  read_first kind.Make (t, may, inl d) s = absurd (going_speaks out d.reports.1 s)
  read_first kind.Make (t, may, inr d) s = absurd (refusal_speaks call.progress out d.reports.1 s)
  read_first kind.Write d s = wrote_read out d.1.reports s
  read_first kind.Obsolete d s = absurd (going_speaks out d.reports.1 s)
  read_first kind.Unlock d s = absurd (going_speaks out d.reports.1 s)
  read_first kind.Answer d s = absurd (heard_read d.1.asked out d.1.hears s)
  read_first kind.Finish d s = absurd (done_speaks out d.reports.1 s)
  read_first kind.Reclaim d s = absurd d

  pub way_ends : (c : Checks Granted same old new id call env report out) → IsTrue report.ok → (reply : Reply M) → out ≡ Decided reply → (slot : ℕ) → seen_child call.seen ≡ Some (below slot)
      → (b : Remembered old call) × (b.slot ≡ slot) × (Begins b.node.node.prefix (bytes_of call.cursor) → ⊥)
  way_ends c ok reply e slot there =
      let f : CheckOutcome Granted same old call c.knows c.planned (Decided reply) = subst (λ (o : Outcome M). CheckOutcome Granted same old call c.knows c.planned o) e (c.passes ok) in
      subst (λ (x : Option (Child M)). EndsAt old call (λ (b : TableNode M). Begins b.prefix (bytes_of call.cursor) → ⊥) x) there f.3

  -- A LOCK
  may_change : (op : Op M) → call.op ≡ Some op → call.cleaning ≡ None → (SharesNone call.outline call.cleaning → ⊥) → MayLock Granted same call → MayChange Granted same op (seen_payload call.seen)
  may_change op is none sees may = elim may [
    | inl cleans ↦ absurd (none_left call.cleaning cleans none)
    | inr writes ↦ subst (λ (o : Op M). MayChange Granted same o (seen_payload call.seen)) (some_is writes.1.op op (sym writes.1.op_is ∙ is)) (writes.2 (λ shares. absurd (sees shares)))
  ]

  pub get_locks_none : (key : ℕ) → call.op ≡ Some (Get key) → call.cleaning ≡ None → (SharesNone call.outline call.cleaning → ⊥) → Upgrades Granted same old new id call env report out → ⊥
  get_locks_none key is none sees u = may_change (Get key) is none sees u.may

  pub exchange_locks_none : (key : ℕ) (expected current : M) (value : Option M) → call.op ≡ Some (CompareExchange key expected value) → call.cleaning ≡ None → (SharesNone call.outline call.cleaning → ⊥)
      → seen_payload call.seen ≡ Some current → same current expected ≡ false → Upgrades Granted same old new id call env report out → ⊥
  exchange_locks_none key expected current value is none sees seen other u =
      let may : IsTrue (same current expected) = subst (λ (x : Option M). MayChange Granted same (CompareExchange key expected value) x) seen (may_change (CompareExchange key expected value) is none sees u.may) in
      false_true (sym other ∙ may)

  -- A WRITE
  pub changes_some : (w : Writes Granted same old new id call env report out) → entry_below call w.held.node ≡ None → w.child ≡ None → ⊥
  changes_some w was is = subst (λ (x : Option (Child M)). IsChanged same None x) is (subst (λ (x : Option (Child M)). IsChanged same x w.child) was w.changes)

  pub changes_value : (u v : M) (w : Writes Granted same old new id call env report out) → entry_below call w.held.node ≡ Some (Payload u) → w.child ≡ Some (Payload v) → same v u ≡ false
  changes_value u v w was is = subst (λ (x : Option (Child M)). IsChanged same (Some (Payload u)) x) is (subst (λ (x : Option (Child M)). IsChanged same x w.child) was w.changes)

  -- A NEW NODE
  pub copies : (cleaning : Option Cleaning) → call.cleaning ≡ cleaning → (m : Makes Granted same old new id call env report out) → m.made.form ≢ N4
      → (h : HeldNode old call) × (h.node.node.prefix ≡ m.made.prefix) × (m.made.form ≡ copy_form cleaning h.node.node.form)
  copies cleaning is m other = elim m.allowed.form_is [
    | inl first ↦ absurd (other first.0)
    | inr copy ↦ (copy.from, copy.prefix_is, subst (λ (c : Option Cleaning). m.made.form ≡ copy_form c copy.from.node.node.form) is copy.form_is)
  ]

  -- A PAIR OF A RANGE
  pub gave_seen : (key : ℕ) (value : M) (c : Checks Granted same old new id call env report out) → IsTrue report.ok → out ≡ Pair key value
      → (seen_payload call.seen ≡ Some value) × ((s : IsStoredAt old key value) × (s.slot ≡ c.knows.slot))
  gave_seen key value c ok e =
      let g : Gives old call c.knows c.planned key value = subst (λ (o : Outcome M). CheckOutcome Granted same old call c.knows c.planned o) e (c.passes ok) in
      (g.saw, (g.at_key, g.at_node))
