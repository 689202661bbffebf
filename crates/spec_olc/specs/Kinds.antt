-- THE KINDS OF EVENTS: how each changes the state of the machine, and what it reports.
use Rattle.std.specs.Prelude.{◌≡◌, ◌≢◌, ℕ, ◌+◌, Bool, true, false, IsTrue, ◌↔◌, List, [], ◌∷◌, length, Option, Some, None, IsSome, if◌then◌else◌, ◌⊎◌, ◌<◌, ◌≤◌}
use Rattle.node_table.specs.Charge.{Charge, add_charge}
use Rattle.node_base.specs.Form.{Fits, stated_size}
use Rattle.spec_map.specs.Map.{lookup, put, without}
use Rattle.spec_node.specs.TableNode.{TableNode, Child, MayHave}
use Rattle.spec_node.specs.declared.child.Child.TheVariants.{Payload, Node as node_at}
use Rattle.spec_olc.specs.Calls.{IsPoint, Outline, key_of, outline_of, stored}
use Rattle.spec_olc.specs.Content.{IsCurrent}
use Rattle.spec_olc.specs.Due.{IsDue, IsLeft}
use Rattle.spec_olc.specs.Lists.{off, without_all}
use Rattle.spec_olc.specs.Local.{SharesNone, SeesPayloads, IsLocal, LeavesAll, MayLock, IsQuestion}
use Rattle.spec_olc.specs.Retirement.{stamp_at, count_after}
use Rattle.spec_olc.specs.Lock.{IsFree, MayUpgrade}
use Rattle.spec_olc.specs.Reading.{child_for, IsReading, Remembered, KeyEnds, HasAll, Gives, LooksOn}
use Rattle.spec_olc.specs.State.{State, VersionedNode, CallState, Cleaning, retired, unlinked, retire, with_node, with_call, back, settled, stopped}
use Rattle.spec_olc.specs.WellFormed.{sizes_of}
use Rattle.spec_olc.specs.Writing.{IsOwn, HeldNode, IsNewNode, IsChanged, changed, entry_below, TakesOut, written}
use Rattle.spec_olc.specs.declared.types.Asking.TheVariants.{Fresh, Wants, Given}
use Rattle.spec_olc.specs.declared.types.Env.{Env}
use Rattle.spec_olc.specs.declared.types.Kind.TheVariants as kind
use Rattle.spec_olc.specs.declared.types.Kind.{Kind}
use Rattle.spec_olc.specs.declared.types.Op.{Op}
use Rattle.spec_olc.specs.declared.types.Op.TheVariants.{ComputeIfPresent}
use Rattle.spec_olc.specs.declared.types.Outcome.TheVariants.{Going, Ask, Pair, Decided, Refused, Done}
use Rattle.spec_olc.specs.declared.types.Outcome.{Outcome}
use Rattle.spec_olc.specs.declared.types.Progress.TheVariants as progress
use Rattle.spec_olc.specs.declared.types.Progress.{Progress}
use Rattle.spec_olc.specs.declared.types.Report.{Report}
use Rattle.spec_olc.specs.declared.types.Seen.{Seen}

abbrev pub report_of : Kind → Option ℕ → ℕ → Bool → Report
report_of kind slot word ok = record { kind = kind; slot = slot; word = word; ok = ok }

-- the call shares the answer of its closure
abbrev pub SharesAnswer : Outline → Type 0
SharesAnswer (ComputeIfPresent k) = Unit {0}
SharesAnswer _ = ⊥

module _ {M : Type 0} where
  -- the state with a node's word increased, with a new node, and with a node retired
  abbrev pub with_word : State M → ℕ → VersionedNode M → ℕ → State M
  with_word s slot a more = with_node s slot (record a { word = a.word + more })

  abbrev pub with_made : State M → ℕ → TableNode M → State M
  with_made s slot a =
      record (with_node s slot (unlinked a)) { charge = add_charge s.charge (stated_size a.form) }

  abbrev pub with_retired : State M → ℕ → VersionedNode M → State M
  with_retired s slot a =
      record (with_node s slot (retire (stamp_at s.count) a)) { count = count_after s.count }

  -- the call has no reply yet, or cleans up
  abbrev pub IsAtWork : CallState M → Type 0
  IsAtWork call =
      (call.progress ≡ progress.Open) ⊎ ((call.progress ≡ progress.Decided) × IsSome call.cleaning)

  -- a point call that has something to store, or cleans up: no other call needs a node
  abbrev pub MayMake : CallState M → Type 0
  MayMake call = IsPoint call.outline
      × (IsSome (stored call.op call.asking) ⊎ IsSome call.cleaning)

  -- A FAILED TAKE OR CHECK: a call goes back to the root; one that cleans up stops that
  abbrev pub failed : Progress → CallState M → CallState M
  failed progress.Open call = back call
  failed _ call = stopped (back call)

  -- after a failed Upgrade: a call without a reply stays as it is while it holds a node
  abbrev pub not_locked : Progress → List ℕ → CallState M → CallState M
  not_locked progress.Open [] call = back call
  not_locked progress.Open (slot ∷ held) call = call
  not_locked _ held call = stopped (back call)

  -- after an Unlock, with these nodes still held: a call without a reply goes back to the root, and
  -- so does one before it cleans up; a cleanup that still holds another node stops
  abbrev pub unlocked : Progress → Option Cleaning → List ℕ → CallState M → CallState M
  unlocked progress.Open cleaning held call = back call
  unlocked _ None held call = call
  unlocked _ (Some c) [] call = back call
  unlocked _ (Some c) (slot ∷ held) call = stopped call

  -- A REFUSAL: a call without a reply only ends; one that cleans up stops that
  abbrev pub refusal : Progress → Outcome M
  refusal progress.Open = Refused
  refusal _ = Going

  abbrev pub refused : Progress → CallState M → CallState M
  refused progress.Open call = settled progress.Refused call
  refused _ call = stopped call

  -- only these nodes are left, and the sizes of the others are uncharged
  pub record FreesNodes (old : State M) (nodes : List (ℕ × VersionedNode M))
      (charge : Option Charge) : Type 0 where
    pub size : ℕ
    pub sizes : sizes_of old.nodes ≡ sizes_of nodes + size
    pub charged : old.charge ≡ add_charge charge size

  -- a point call has its reply or was refused, and cleans up no more; a range has all its pairs
  abbrev pub MayEnd : CallState M → Type 0
  MayEnd call = ((call.progress ≢ progress.Open) × (call.cleaning ≡ None))
      ⊎ HasAll call.outline call.reach call.given

-- If `Granted` holds, no share of a payload is refused; `same` is the test that compares values.
module _ {M : Type 0} (Granted : Type 0) (same : M → M → Bool) where
  -- the outcome of a Check of a node that passes, and the call after it
  abbrev pub CheckOutcome : (s : State M) (call : CallState M) → Remembered s call → CallState M
      → Outcome M → Type 0
  CheckOutcome s call a next Going = LooksOn call.outline s call a next
  CheckOutcome s call a next (Ask old) = IsQuestion call old
      × IsCurrent s (key_of call.outline) old
      × (next ≡ record call { asking = Wants old }) × KeyEnds s call
  CheckOutcome s call a next (Pair key value) = Gives s call a next key value
  CheckOutcome s call a next (Decided reply) = (local : IsLocal Granted same call reply)
      × LeavesAll Granted same call local.op × (next ≡ settled progress.Decided call)
      × KeyEnds s call
  CheckOutcome s call a next _ = ⊥

  -- the outcome of a Write: the reply, unless the call has it already
  abbrev pub WriteOutcome : CallState M → Outcome M → Type 0
  WriteOutcome call Going = call.progress ≡ progress.Decided
  WriteOutcome call (Decided reply) = IsLocal Granted same call reply
  WriteOutcome call _ = ⊥

  -- an event of call `id`
  module _ (old new : State M) (id : ℕ) (call : CallState M) (env : Env M) (report : Report)
      (out : Outcome M) where
    -- The new state is `base` with the call as planned, which may have forgotten some of its words.
    pub record NextIs (base : State M) (planned : CallState M) : Type 0 where
      pub next : CallState M
      pub is : next ≡ record planned { remembered = next.remembered }
      pub remembered : (slot word : ℕ) → lookup next.remembered slot ≡ Some word
          → lookup planned.remembered slot ≡ Some word
      pub after : new ≡ with_call base id next

    -- the event has this report and this outcome
    abbrev pub HasReport : Report → Outcome M → Type 0
    HasReport reported said = (report ≡ reported) × (out ≡ said)

    -- a share of a payload was refused: the call only ends
    pub record IsUnshared : Type 0 where
      pub granted : Granted → ⊥
      pub undecided : call.progress ≡ progress.Open
      pub becomes : NextIs old (settled progress.Refused call)

    -- TAKE: reports the node's word, and is ok exactly if that is free; the call then remembers it.
    -- At the root it has seen and asked nothing. A call that remembers no word takes the root.
    pub record Takes : Type 0 where
      pub slot : ℕ
      pub node : VersionedNode M
      pub here : lookup old.nodes slot ≡ Some node
      pub anew : slot ≡ old.root → call ≡ back call
      pub first : call.remembered ≡ [] → slot ≡ old.root
      pub reports : HasReport (report_of kind.Take (Some slot) node.word report.ok) Going
      pub ok : IsTrue report.ok ↔ IsFree node.word
      pub becomes : NextIs old (if report.ok
          then record call { remembered = put call.remembered slot node.word }
          else failed call.progress call)
      pub remembers : IsTrue report.ok → lookup becomes.next.remembered slot ≡ Some node.word

    -- CHECK of a node that the call remembers: ok exactly if its word is the remembered one
    pub record Checks : Type 0 where
      pub knows : Remembered old call
      pub planned : CallState M
      pub is : report ≡ report_of kind.Check (Some knows.slot) 0 report.ok
      pub ok : IsTrue report.ok ↔ (knows.node.word ≡ knows.word)
      pub passes : IsTrue report.ok → CheckOutcome old call knows planned out
      pub fails : report.ok ≡ false → (out ≡ Going) × (planned ≡ failed call.progress call)
      pub becomes : NextIs old planned

    -- the outcome of a Read: the call has seen a child, or a share of the payload there was refused
    abbrev pub ReadOutcome : TableNode M → Bool → Outcome M → Type 0
    ReadOutcome node true Going = (s : Seen M)
        × IsReading (SeesPayloads Granted same call) call node s
        × NextIs old (record call { seen = Some s })
    ReadOutcome node true Refused = (v : M)
        × (child_for call.outline call.cursor node ≡ Some (Payload v))
        × (SharesNone call.outline call.cleaning → ⊥)
        × IsUnshared
    ReadOutcome node false Going = NextIs old (record call { seen = Some env.torn })
    ReadOutcome node whole _ = ⊥

    -- READ: what the node contains, or what the event supplies if its word isn't the remembered one
    pub record Reads : Type 0 where
      pub knows : Remembered old call
      pub whole : Bool
      pub is : report ≡ report_of kind.Read (Some knows.slot) 0 true
      pub whole_is : IsTrue whole ↔ (knows.node.word ≡ knows.word)
      pub sees : ReadOutcome knows.node.node whole out

    -- UPGRADE, of a point call that writes or cleans up: ok exactly if the word is the remembered
    -- one, may be upgraded, and the event lets it. Then it adds 2 to the word: the node is locked.
    pub record Upgrades : Type 0 where
      pub point : IsPoint call.outline
      pub may : MayLock Granted same call
      pub knows : Remembered old call
      pub reports : HasReport (report_of kind.Upgrade (Some knows.slot) 0 report.ok) Going
      pub ok : IsTrue report.ok ↔ (MayUpgrade knows.node.word knows.word × (env.fail ≡ false))
      pub locks : IsTrue report.ok → NextIs (with_word old knows.slot knows.node 2)
          (record call { held = knows.slot ∷ call.held })
      pub fails : report.ok ≡ false → NextIs old (not_locked call.progress call.held call)

    -- MAKE that is granted: a first or second private node in a free slot, its size charged
    pub record Makes : Type 0 where
      pub slot : ℕ
      pub made : TableNode M
      pub free : lookup old.nodes slot ≡ None
      pub reports : HasReport (report_of kind.Make (Some slot) 0 true) Going
      pub holds : call.held ≢ []
      pub few : length call.made ≤ 1
      pub allowed : IsNewNode old call made
      pub becomes : NextIs (with_made old slot made) (record call { made = slot ∷ call.made })

    -- MAKE that is refused: the call's private nodes are freed, and their sizes uncharged
    pub record MakesNone : Type 0 where
      pub charge : Option Charge
      pub reports : HasReport (report_of kind.Make None 0 true) (refusal call.progress)
      pub holds : call.held ≢ []
      pub frees : FreesNodes old (without_all old.nodes call.made) charge
      pub becomes : NextIs
          (record old { nodes = without_all old.nodes call.made; charge = charge })
          (refused call.progress (record call { made = [] }))

    -- WRITE: changes an entry of a held node, under the key's byte, if it has room. In a cleanup
    -- that is the due node. It publishes what the call has made, and empties what it takes out.
    pub record Writes : Type 0 where
      pub held : HeldNode old call
      pub child : Option (Child M)
      pub gone : Option (ℕ × VersionedNode M)
      pub entries : ℕ
      pub is : report ≡ report_of kind.Write (Some held.slot) 0 true
      pub own : IsOwn call child
      pub changes : IsChanged same (entry_below call held.node) child
      pub cleans : (c : Cleaning) → call.cleaning ≡ Some c → (due : HeldNode old call)
          × (entry_below call held.node ≡ Some (node_at due.slot))
          × (length due.node.node.prefix ≡ c.depth) × IsDue due.node.node
      pub shape : (c : Child M) → child ≡ Some c → MayHave held.node.node.prefix c
      pub fits : Fits held.node.node.form (length (changed call held.node child).node.children)
      pub takes_out : TakesOut old call (entry_below call held.node) child gone
      pub left : Option Cleaning
      pub leaves : IsLeft call.cleaning child (changed call held.node child).node left
      pub reports : WriteOutcome call out
      pub becomes : NextIs (record (written old call held child gone) { entries = entries })
          (settled progress.Decided (record call { made = []; cleaning = left }))

    -- OBSOLETE: adds 1 to a held node's word, and retires it, stamped with the count of retirements
    pub record Retires : Type 0 where
      pub held : HeldNode old call
      pub reports : HasReport (report_of kind.Obsolete (Some held.slot) 0 true) Going
      pub becomes : NextIs (with_retired old held.slot held.node)
          (record call { held = off held.slot call.held })

    -- UNLOCK: adds 2 to the word of a held node. If a cleanup holds another, the node wasn't due
    pub record Unlocks : Type 0 where
      pub held : HeldNode old call
      pub finds : (c : Cleaning) → call.cleaning ≡ Some c → off held.slot call.held ≢ []
          → (length held.node.node.prefix ≡ c.depth) × (IsDue held.node.node → ⊥)
      pub reports : HasReport (report_of kind.Unlock (Some held.slot) 0 true) Going
      pub becomes : NextIs (with_word old held.slot held.node 2)
          (unlocked call.progress call.cleaning (off held.slot call.held)
          (record call { held = off held.slot call.held }))

    -- the outcome of an Answer: the closure's answer is taken, or a share of it was refused
    abbrev pub AnswerOutcome : Option M → Outcome M → Type 0
    AnswerOutcome asked Going = NextIs old (record call { asking = Given asked env.answer })
    AnswerOutcome asked Refused = SharesAnswer call.outline × IsSome env.answer × IsUnshared
    AnswerOutcome asked _ = ⊥

    -- ANSWER: takes the closure's answer from the event
    pub record Answers : Type 0 where
      pub asked : Option M
      pub wanted : call.asking ≡ Wants asked
      pub is : report ≡ report_of kind.Answer None 0 true
      pub hears : AnswerOutcome asked out

    -- FINISH: the call, which holds no node and has no private one, is no longer in flight
    pub record Finishes : Type 0 where
      pub reports : HasReport (report_of kind.Finish None 0 true) Done
      pub may : MayEnd call
      pub held : call.held ≡ []
      pub made : call.made ≡ []
      pub after : new ≡ record old { calls = without old.calls id }

    abbrev pub DoesAs : Kind → Type 0
    DoesAs kind.Take = IsAtWork call × Takes
    DoesAs kind.Check = IsAtWork call × Checks
    DoesAs kind.Read = IsAtWork call × Reads
    DoesAs kind.Upgrade = IsAtWork call × Upgrades
    DoesAs kind.Make = IsAtWork call × MayMake call × (Makes ⊎ MakesNone)
    DoesAs kind.Write = IsAtWork call × Writes
    DoesAs kind.Obsolete = Retires
    DoesAs kind.Unlock = Unlocks
    DoesAs kind.Answer = IsAtWork call × Answers
    DoesAs kind.Finish = Finishes
    DoesAs _ = ⊥

  -- A STEP of call `id`, which is in flight
  pub record IsStep (old new : State M) (id : ℕ) (env : Env M) (report : Report)
      (out : Outcome M) : Type 0 where
    pub call : CallState M
    pub in_flight : lookup old.calls id ≡ Some call
    pub event : DoesAs old new id call env report out report.kind

module _ {M : Type 0} where
  -- a call that begins, pinned at the count of retirements
  abbrev pub begun : Op M → ℕ → CallState M
  begun op count = record {
    outline = outline_of op;
    op = Some op;
    pin = count;
    cursor = key_of op;
    reach = key_of op;
    given = 0;
    cleaning = None;
    remembered = [];
    seen = None;
    asking = Fresh;
    progress = progress.Open;
    held = [];
    made = [];
  }

  -- START: call `id`, which wasn't in flight, begins
  pub record IsStart (old new : State M) (id : ℕ) (op : Op M) (report : Report) : Type 0 where
    pub is : report ≡ report_of kind.Start None 0 true
    pub free : lookup old.calls id ≡ None
    pub after : new ≡ with_call old id (begun op old.count)

  -- A slot may be reclaimed if its node has a stamp, and each call in flight has started since.
  pub record MayReclaim (s : State M) (slot : ℕ) : Type 0 where
    pub node : VersionedNode M
    pub stamp : ℕ
    pub here : lookup s.nodes slot ≡ Some node
    pub is_retired : node.lifetime ≡ retired (Some stamp)
    pub started : (id : ℕ) (call : CallState M) → lookup s.calls id ≡ Some call
        → stamp < call.pin

  -- RECLAIM: the slot is freed, and the size of its node uncharged
  pub record IsReclaim (old new : State M) (slot : ℕ) (report : Report) : Type 0 where
    pub charge : Option Charge
    pub may : MayReclaim old slot
    pub is : report ≡ report_of kind.Reclaim (Some slot) 0 true
    pub frees : FreesNodes old (without old.nodes slot) charge
    pub after : new ≡ record old { nodes = without old.nodes slot; charge = charge }
