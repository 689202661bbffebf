-- WHAT A CALL DOES if its key is present: it is decided, has to write, or asks its closure.
use Rattle.std.proofs.Common.{◌≡◌, ℕ, Bool, true, false, IsTrue, length, Option, Some, None, IsSome, Err, inl, inr, refl, sym, subst, ap, ◌∙◌, arith}
use Rattle.spec_node.specs.TableNode.{Child}
use Rattle.spec_node.specs.declared.child.Child.TheVariants.{Payload, Node as below_at}
use Rattle.spec_olc.specs.Calls.{Outline, IsPoint, key_of, outline_of}
use Rattle.spec_olc.specs.Content.{IsCurrent}
use Rattle.spec_olc.specs.Kinds.{report_of}
use Rattle.spec_olc.specs.Local.{SharesNone, payload_in, seen_payload}
use Rattle.spec_olc.specs.Meaning.{in_some, op_of}
use Rattle.spec_olc.specs.Reading.{KeyEnds}
use Rattle.spec_olc.specs.State.{State}
use Rattle.spec_olc.specs.declared.types.Asking.{Asking}
use Rattle.spec_olc.specs.declared.types.Asking.TheVariants.{Fresh}
use Rattle.spec_olc.specs.declared.types.Env.{Env}
use Rattle.spec_olc.specs.declared.types.Kind.TheVariants as kind
use Rattle.spec_olc.specs.declared.types.Op.{Op}
use Rattle.spec_olc.specs.declared.types.Op.TheVariants.{Get, Insert, Remove, CompareExchange, Range}
use Rattle.spec_olc.specs.declared.types.Outcome.TheVariants.{Ask, Going, Decided}
use Rattle.spec_olc.specs.declared.types.Progress.TheVariants as progress
use Rattle.spec_olc.specs.declared.types.Reply.{Reply}
use Rattle.spec_olc.specs.declared.types.Reply.TheVariants.{Old, Exchanged}
use Rattle.olc_state.specs.declared.stage.Stage.TheVariants.{Answer, Check, Tail, Finish}
use Rattle.olc_state.specs.declared.stage.Task.{Task}
use Rattle.olc_state.specs.declared.tail.Case.TheVariants as case
use Rattle.olc_state.specs.declared.tail.Large.TheVariants.{Detach}
use Rattle.olc_state.specs.declared.tail.NodePair.{NodePair}
use Rattle.olc_state.specs.declared.tail.Small.TheVariants.{Entry}
use Rattle.olc_state.specs.declared.tail.Tail.TheVariants.{Upgrade, UpgradeAbove}
use Rattle.olc_state.specs.inner.Effects.{HasClosure, IsChange, IsLeft, reply_with}
use Rattle.olc_state.specs.inner.Facts.{Facts}
use Rattle.olc_state.specs.inner.Shown.{flight}
use Rattle.olc_state.specs.inner.Tables.{IsPlaced, OnPath}
use Rattle.olc_state.specs.inner.TailFacts.{IsLarge, IsPresent, IsSmall, WritesAtKey, found, path_to}
use Rattle.olc_state.specs.inner.Tasks.{IsFreshly, MaySee, closed, key_bytes}
use Rattle.olc_state.specs.inner.Turns.{IsRead, ShowsNodes}
use Rattle.olc_state.specs.inner.World.{PlacedNode, NodeMap}
use Rattle.olc_state.proofs.Options.{none_some}
use Rattle.olc_state.proofs.Records.{at}
use Rattle.olc_descend.proofs.Checks.{asking, asking_waits, asks_at, asks_present, closure_shares, ends_changed, ends_left, has_read, keeps_old, keeps_question, keeps_spare, present_now, present_there, sees_found, way_ends_here}
use Rattle.olc_descend.proofs.Spots.{here_known}
use Rattle.olc_decide.specs.declared.presence.Judged.{Judged}
use Rattle.olc_decide.specs.declared.presence.Judged.TheVariants.{Other, Same, Stores, Removes}
use Rattle.olc_decide.specs.inner.Judged.{IsExchange, IsGet, IsInsert, IsJudged, IsRemove, handed, removing}
use Rattle.olc_decide.specs.inner.Met.{IsPresentAt}
use Rattle.olc_decide.proofs.Absent.{all_here, goes_large, goes_small, writes_by}

pub value_same : {M : Type 0} (v w : M) → Some v ≡ Some w → v ≡ w
value_same v w e = cc

pub payload_same : {M : Type 0} (v w : M) → (let c : Child M = Payload v in Some c ≡ Some (Payload w)) → v ≡ w
payload_same v w e = cc

payload_node : {M : Type 0} (v : M) (slot : ℕ) → (let c : Child M = Payload v in Some c ≡ Some (below_at slot)) → ⊥
payload_node v slot e = cc

-- these calls see payloads
get_shares : (o : Outline) → IsGet o → SharesNone o None → ⊥
get_shares (Get k) h shares = shares
get_shares o h shares = h

exchange_shares : (o : Outline) → IsExchange o → SharesNone o None → ⊥
exchange_shares (CompareExchange k old new) h shares = shares
exchange_shares o h shares = h

-- all of them are point calls
point_by : (Q : Outline → Type 0) → ((a b n : ℕ) → Q (Range a b n) → ⊥) → (o : Outline) → Q o → IsPoint o
point_by Q unlike (Range a b n) h = unlike a b n h
point_by Q unlike o h = tt

module _ {P M : Type 0} (meaning : P → M) where
  -- the payload of an Insert
  pub handed_meant : (op : Option (Op P)) → in_some meaning (handed op) ≡ handed (in_some (op_of meaning) op)
  handed_meant (Some (Range a b n)) = refl
  handed_meant op = refl

module _ {M : Type 0} where
  -- the reply to a CompareExchange that succeeds doesn't contain the previous value
  pub exchange_reply : (o : Outline) → IsExchange o → (before after returns : Option M) → reply_with o before returns ≡ reply_with o after returns
  exchange_reply (CompareExchange k old new) h before after returns = refl
  exchange_reply o h before after returns = absurd h

-- WHAT THESE CALLS DO if the key is present
module _ {M : Type 0} (same : M → M → Bool) where
  got_by : (op : Op M) → IsGet (outline_of op) → (v : M) → IsLeft same op (Some v) (Old (Some v))
  got_by (Get k) h v = refl
  got_by op h v = absurd h

  removed_by : (op : Op M) (asking : Asking M) → asking ≡ Fresh → IsRemove (outline_of op) → (v : M) → IsChange same op asking (Some v) None
  removed_by (Remove k) asking fresh h v = (fresh, refl)
  removed_by op asking fresh h v = absurd h

  inserted_by : (op : Op M) (asking : Asking M) → asking ≡ Fresh → IsInsert (outline_of op) → (v : M) → (j : Judged) → (j ≡ Same → ⊥) → IsJudged same (Some op) (Some (Payload v)) j → (x : M) × IsChange same op asking (Some v) (Some x) × (same x v ≡ false)
  inserted_by (Insert k x) asking fresh h v Stores not told = (x, (fresh, refl), told)
  inserted_by (Insert k x) asking fresh h v Same not told = absurd (not refl)
  inserted_by (Insert k x) asking fresh h v Other not told = absurd told
  inserted_by (Insert k x) asking fresh h v Removes not told = absurd told
  inserted_by op asking fresh h v j not told = absurd h

  -- an Insert whose payload is the current value already
  kept_by : (op : Op M) (asking : Asking M) → asking ≡ Fresh → IsInsert (outline_of op) → (v : M) → IsJudged same (Some op) (Some (Payload v)) Same → IsChange same op asking (Some v) (Some v) × (handed (Some op) ≡ Some v)
  kept_by (Insert k x) asking fresh h v j = ((fresh, ap Some (sym j)), ap Some j)
  kept_by op asking fresh h v j = absurd h

  -- what a CompareExchange does after its comparison: it fails, or makes a change
  abbrev IsExchanging : Op M → Asking M → M → Judged → Type 0
  IsExchanging op asking v Other = IsLeft same op (Some v) (Exchanged (Err (Some v)))
  IsExchanging op asking v Same = IsChange same op asking (Some v) (Some v)
  IsExchanging op asking v Stores = (x : M) × IsChange same op asking (Some v) (Some x) × (same x v ≡ false)
  IsExchanging op asking v Removes = IsChange same op asking (Some v) None

  exchanged_to : (k : ℕ) (old : M) (new : Option M) (asking : Asking M) → asking ≡ Fresh → (v : M) (j : Judged) → IsJudged same (Some (CompareExchange k old new)) (Some (Payload v)) j → IsExchanging (CompareExchange k old new) asking v j
  exchanged_to k old new asking fresh v Other h = (h, refl)
  exchanged_to k old new asking fresh v Same h = (fresh, h.0, sym h.1)
  exchanged_to k old new asking fresh v Stores h = (h.1.0, (fresh, h.0, sym h.1.1), h.1.2)
  exchanged_to k old new asking fresh v Removes h = (fresh, h.0, sym h.1)

  exchanged_by : (op : Op M) (asking : Asking M) → asking ≡ Fresh → IsExchange (outline_of op) → (v : M) (j : Judged) → IsJudged same (Some op) (Some (Payload v)) j → IsExchanging op asking v j
  exchanged_by (CompareExchange k old new) asking fresh is v j h = exchanged_to k old new asking fresh v j h
  exchanged_by op asking fresh is v j h = absurd is

-- AT THE LEAF, whose word is the remembered one
module _ {M : Type 0} (Granted : Type 0) (same : M → M → Bool) (t : NodeMap M) (root pin : ℕ) (task : Task M) (env : Env M) (placed : IsPlaced t root) (pair : NodePair) (a : PlacedNode M)
    (here : t pair.here.slot ≡ Some a) (word : a.word ≡ pair.here.word) (facts : Facts Granted same t root pin (at (Check (path_to pair)) task)) (only : Bool) (present : IsPresentAt a (key_bytes task) only) where
  fresh_here : IsFreshly task
  fresh_here = facts.at.0

  abbrev current : M
  current = present.0.0

  there_here : found a (key_bytes task) ≡ Some (Payload current)
  there_here = present.0.1

  module _ (point : IsPoint task.outline) where
    read_here : IsSome task.last
    read_here = has_read Granted same t root pin task env placed (path_to pair) a here word facts point

    ends_here : (s : State M) → ShowsNodes t root s → KeyEnds s (flight pin (at (Check (path_to pair)) task))
    ends_here s shows = way_ends_here Granted same t root pin task env placed (path_to pair) a here word facts point (λ slot there. payload_node current slot (sym there_here ∙ there)) s

    seen_here : MaySee Granted same task → seen_payload task.last ≡ Some current
    seen_here sees = sees_found Granted same t root pin task env placed (path_to pair) a here word facts point sees ∙ ap payload_in there_here

    spare_here : MaySee Granted same task → task.spare ≡ Some current
    spare_here sees = keeps_spare Granted same t root pin task env placed (path_to pair) a here word facts point sees ∙ ap payload_in there_here

    writes_here : (value : Option M) → IsChange same fresh_here.opened.op task.asking (Some current) value → (w : WritesAtKey Granted same task (payload_in (found a (key_bytes task)))) × (w.value ≡ value)
    writes_here value change =
        writes_by same Granted task (payload_in (found a (key_bytes task))) value fresh_here.opened
        (subst (λ (z : Option (Child M)). IsChange same fresh_here.opened.op task.asking (payload_in z) value) (sym there_here) change)
        (λ sees. sees_found Granted same t root pin task env placed (path_to pair) a here word facts point sees) read_here

    -- it replaces the current payload, or removes it
    goes_entry : (w : WritesAtKey Granted same task (payload_in (found a (key_bytes task)))) → ((new : M) → w.value ≡ Some new → same new current ≡ false)
        → IsRead Granted same t root pin (at (Check (path_to pair)) task) env (at (Tail (Upgrade (path_to pair) Entry)) task) (report_of kind.Check (Some pair.here.slot) 0 true) Going
    goes_entry w other =
        let is : IsSmall Entry a (key_bytes task) = (present.1, λ none. absurd (none_some (Payload current) (sym none ∙ there_here))) in
        goes_small Granted same t root pin task env placed (path_to pair) a here word facts Entry (record {
          writes = w;
          is = is;
          differs = λ old new there stored. subst (λ (z : M). same new z ≡ false) (payload_same current old (sym there_here ∙ there)) (other new (sym w.stores ∙ stored));
        })

    -- the only one of its leaf goes with the leaf
    goes_detach : (w : WritesAtKey Granted same task (payload_in (found a (key_bytes task)))) → w.value ≡ None → length a.node.children ≡ 1
        → IsRead Granted same t root pin (at (Check (path_to pair)) task) env (at (Tail (UpgradeAbove pair Detach)) task) (report_of kind.Check (Some pair.here.slot) 0 true) Going
    goes_detach w none alone =
        let on : OnPath t root pin (key_bytes task) (path_to pair) = facts.at.1 in
        let is : IsLarge Detach a (key_bytes task) = (on.way a here, present.1, present.0, alone) in
        goes_large Granted same t root pin task env placed pair a here word facts Detach (record { writes = w; is = is; may = none })

    goes_removing : (one : Bool) → (IsTrue one → length a.node.children ≡ 1) → (w : WritesAtKey Granted same task (payload_in (found a (key_bytes task)))) → w.value ≡ None
        → IsRead Granted same t root pin (at (Check (path_to pair)) task) env (at (Tail (removing pair one)) task) (report_of kind.Check (Some pair.here.slot) 0 true) Going
    goes_removing true alone w none = goes_detach w none (alone refl)
    goes_removing false alone w none = goes_entry w (λ new e. absurd (none_some new (sym none ∙ e)))

    removes : IsChange same fresh_here.opened.op task.asking (Some current) None
        → IsRead Granted same t root pin (at (Check (path_to pair)) task) env (at (Tail (removing pair only)) task) (report_of kind.Check (Some pair.here.slot) 0 true) Going
    removes change = let w = writes_here None change in goes_removing only present.2.0 w.0 w.1

    ends_as_left : (reply : Reply M) → IsLeft same fresh_here.opened.op (Some current) reply
        → IsRead Granted same t root pin (at (Check (path_to pair)) task) env (at Finish (closed progress.Decided task)) (report_of kind.Check (Some pair.here.slot) 0 true) (Decided reply)
    ends_as_left reply left =
        ends_left Granted same t root pin task env placed (path_to pair) a here word (Check (path_to pair)) refl refl tt facts.small (here_known (path_to pair)) (inl refl) (λ p. omega arith) read_here ends_here (Some current) seen_here
        (present_there Granted same t root pin task env placed (path_to pair) a here word facts point current there_here) fresh_here reply left

    ends_as_changed : IsChange same fresh_here.opened.op task.asking (Some current) (Some current)
        → IsRead Granted same t root pin (at (Check (path_to pair)) task) env (at Finish (closed progress.Decided task)) (report_of kind.Check (Some pair.here.slot) 0 true) (Decided (reply_with task.outline (Some current) task.returns))
    ends_as_changed change =
        ends_changed Granted same t root pin task env placed (path_to pair) a here word (Check (path_to pair)) refl refl tt facts.small (here_known (path_to pair)) (inl refl) (λ p. omega arith) read_here ends_here (Some current) seen_here
        (present_there Granted same t root pin task env placed (path_to pair) a here word facts point current there_here) fresh_here.opened change

  -- a Get
  pub gets_present : IsGet task.outline
      → IsRead Granted same t root pin (at (Check (path_to pair)) task) env (at Finish (closed progress.Decided task)) (report_of kind.Check (Some pair.here.slot) 0 true) (Decided (Old task.spare))
  gets_present get =
      let point = point_by IsGet (λ a b n h. h) task.outline get in
      subst (λ (z : Option M). IsRead Granted same t root pin (at (Check (path_to pair)) task) env (at Finish (closed progress.Decided task)) (report_of kind.Check (Some pair.here.slot) 0 true) (Decided (Old z)))
      (sym (spare_here point (λ shares. absurd (get_shares task.outline get shares))))
      (ends_as_left point (Old (Some current)) (got_by same fresh_here.opened.op (subst (λ (o : Outline). IsGet o) (sym fresh_here.opened.outline) get) current))

  -- a Remove
  pub removes_present : IsRemove task.outline
      → IsRead Granted same t root pin (at (Check (path_to pair)) task) env (at (Tail (removing pair only)) task) (report_of kind.Check (Some pair.here.slot) 0 true) Going
  removes_present remove =
      removes (point_by IsRemove (λ a b n h. h) task.outline remove) (removed_by same fresh_here.opened.op task.asking fresh_here.fresh (subst (λ (o : Outline). IsRemove o) (sym fresh_here.opened.outline) remove) current)

  -- a call with a closure
  pub asks_with : HasClosure task.outline
      → IsRead Granted same t root pin (at (Check (path_to pair)) task) env (at (Answer (case.Present pair only)) (asking task task.spare)) (report_of kind.Check (Some pair.here.slot) 0 true) (Ask task.question)
  asks_with closure =
      let point = point_by HasClosure (λ a b n h. h) task.outline closure in
      let sees : MaySee Granted same task = λ shares. absurd (closure_shares task.outline closure shares) in
      let seen = seen_here point sees in
      let spare : task.spare ≡ seen_payload task.last = keeps_old Granted same t root pin task env placed (path_to pair) a here word facts point closure in
      let question : task.question ≡ seen_payload task.last = keeps_question Granted same t root pin task env placed (path_to pair) a here word facts point closure in
      let on : OnPath t root pin (key_bytes task) (path_to pair) = facts.at.1 in
      subst (λ (z : Option M). IsRead Granted same t root pin (at (Check (path_to pair)) task) env (at (Answer (case.Present pair only)) (asking task task.spare)) (report_of kind.Check (Some pair.here.slot) 0 true) (Ask z)) (spare ∙ sym question)
      (asks_at Granted same t root pin task env placed (path_to pair) a here word (Check (path_to pair)) (case.Present pair only) task.spare refl refl tt fresh_here (here_known (path_to pair)) (inl refl) (λ z w h. h)
      (rw spare (asks_present task.outline (seen_payload task.last) current closure seen))
      (record {
        small = facts.small;
        at = (
          asking_waits Granted same task task.spare fresh_here (read_here point) closure spare,
          on,
          all_here t pair.here a here (IsPresent Granted same only (asking task task.spare)) (record { full = present.1; value = current; at_key = there_here; seen = seen; alone = present.2.0 }),
          subst (λ (z : Option M). IsSome z) (sym seen) refl,
        );
      })
      (λ z h. inr (inl h)) (λ served. omega arith)
      (λ s shows. subst (λ (v : Option M). IsCurrent s (key_of task.outline) v) (sym (spare ∙ seen)) (present_now Granted same t root pin task env placed (path_to pair) a here word facts point current there_here s shows)) (read_here point) (ends_here point))

  -- an Insert
  module _ (insert : IsInsert task.outline) where
    pub insert_stores : (child : Option (Child M)) → found a (key_bytes task) ≡ child → (j : Judged) → (j ≡ Same → ⊥) → IsJudged same task.op child j → IsRead Granted same t root pin (at (Check (path_to pair)) task) env (at (Tail (Upgrade (path_to pair) Entry)) task) (report_of kind.Check (Some pair.here.slot) 0 true) Going
    insert_stores child is j not judged =
        let point = point_by IsInsert (λ a b n h. h) task.outline insert in
        let told : IsJudged same (Some fresh_here.opened.op) (Some (Payload current)) j =
        subst (λ (z : Option (Op M)). IsJudged same z (Some (Payload current)) j) fresh_here.opened.op_is (subst (λ (z : Option (Child M)). IsJudged same task.op z j) (sym is ∙ there_here) judged) in
        let change = inserted_by same fresh_here.opened.op task.asking fresh_here.fresh (subst (λ (o : Outline). IsInsert o) (sym fresh_here.opened.outline) insert) current j not told in
        let w = writes_here point (Some change.0) change.1 in
        goes_entry point w.0 (λ new e. subst (λ (z : M). same z current ≡ false) (value_same change.0 new (sym w.1 ∙ e)) change.2)

    pub insert_same : (child : Option (Child M)) → found a (key_bytes task) ≡ child → IsJudged same task.op child Same
        → IsRead Granted same t root pin (at (Check (path_to pair)) task) env (at Finish (closed progress.Decided task)) (report_of kind.Check (Some pair.here.slot) 0 true) (Decided (reply_with task.outline (handed task.op) task.returns))
    insert_same child is judged =
        let point = point_by IsInsert (λ a b n h. h) task.outline insert in
        let told : IsJudged same (Some fresh_here.opened.op) (Some (Payload current)) Same =
        subst (λ (z : Option (Op M)). IsJudged same z (Some (Payload current)) Same) fresh_here.opened.op_is (subst (λ (z : Option (Child M)). IsJudged same task.op z Same) (sym is ∙ there_here) judged) in
        let kept = kept_by same fresh_here.opened.op task.asking fresh_here.fresh (subst (λ (o : Outline). IsInsert o) (sym fresh_here.opened.outline) insert) current told in
        subst (λ (z : Option M). IsRead Granted same t root pin (at (Check (path_to pair)) task) env (at Finish (closed progress.Decided task)) (report_of kind.Check (Some pair.here.slot) 0 true) (Decided (reply_with task.outline z task.returns)))
        (sym (ap (λ (z : Option (Op M)). handed z) fresh_here.opened.op_is ∙ kept.1)) (ends_as_changed point kept.0)

  -- a CompareExchange
  module _ (exchange : IsExchange task.outline) (child : Option (Child M)) (is : found a (key_bytes task) ≡ child) where
    exchange_says : (j : Judged) → IsJudged same task.op child j → IsExchanging same fresh_here.opened.op task.asking current j
    exchange_says j judged =
        exchanged_by same fresh_here.opened.op task.asking fresh_here.fresh (subst (λ (o : Outline). IsExchange o) (sym fresh_here.opened.outline) exchange) current j
        (subst (λ (z : Option (Op M)). IsJudged same z (Some (Payload current)) j) fresh_here.opened.op_is (subst (λ (z : Option (Child M)). IsJudged same task.op z j) (sym is ∙ there_here) judged))

    pub exchange_other : IsJudged same task.op child Other
        → IsRead Granted same t root pin (at (Check (path_to pair)) task) env (at Finish (closed progress.Decided task)) (report_of kind.Check (Some pair.here.slot) 0 true) (Decided (Exchanged (Err task.spare)))
    exchange_other judged =
        let point = point_by IsExchange (λ a b n h. h) task.outline exchange in
        subst (λ (z : Option M). IsRead Granted same t root pin (at (Check (path_to pair)) task) env (at Finish (closed progress.Decided task)) (report_of kind.Check (Some pair.here.slot) 0 true) (Decided (Exchanged (Err z))))
        (sym (spare_here point (λ shares. absurd (exchange_shares task.outline exchange shares))))
        (ends_as_left point (Exchanged (Err (Some current))) (exchange_says Other judged))

    pub exchange_same : IsJudged same task.op child Same
        → IsRead Granted same t root pin (at (Check (path_to pair)) task) env (at Finish (closed progress.Decided task)) (report_of kind.Check (Some pair.here.slot) 0 true) (Decided (reply_with task.outline None task.returns))
    exchange_same judged =
        let point = point_by IsExchange (λ a b n h. h) task.outline exchange in
        subst (λ (z : Reply M). IsRead Granted same t root pin (at (Check (path_to pair)) task) env (at Finish (closed progress.Decided task)) (report_of kind.Check (Some pair.here.slot) 0 true) (Decided z))
        (exchange_reply task.outline exchange (Some current) None task.returns) (ends_as_changed point (exchange_says Same judged))

    pub exchange_stores : IsJudged same task.op child Stores
        → IsRead Granted same t root pin (at (Check (path_to pair)) task) env (at (Tail (Upgrade (path_to pair) Entry)) task) (report_of kind.Check (Some pair.here.slot) 0 true) Going
    exchange_stores judged =
        let point = point_by IsExchange (λ a b n h. h) task.outline exchange in
        let change = exchange_says Stores judged in
        let w = writes_here point (Some change.0) change.1 in
        goes_entry point w.0 (λ new e. subst (λ (z : M). same z current ≡ false) (value_same change.0 new (sym w.1 ∙ e)) change.2)

    pub exchange_removes : IsJudged same task.op child Removes
        → IsRead Granted same t root pin (at (Check (path_to pair)) task) env (at (Tail (removing pair only)) task) (report_of kind.Check (Some pair.here.slot) 0 true) Going
    exchange_removes judged = removes (point_by IsExchange (λ a b n h. h) task.outline exchange) (exchange_says Removes judged)
