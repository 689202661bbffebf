-- The stage of a call after an event that writes no node.
use Rattle.std.proofs.Common.{◌≡◌, ◌≢◌, ◌⊎◌, ℕ, ◌+◌, ◌-◌, ◌*◌, ◌/◌, ◌%◌, ◌<◌, ◌≤◌, Bool, IsTrue, List, [], length, Option, Some, None, inl, inr, sym, subst, ap, ◌∙◌, arith}
use Rattle.spec_olc.specs.Lock.{IsFree, IsLocked, IsObsolete}
use Rattle.spec_map.specs.Map.{lookup, put}
use Rattle.olc_state.specs.declared.stage.Path.{Path}
use Rattle.olc_state.specs.declared.stage.Record.{Record}
use Rattle.olc_state.specs.declared.stage.Stage.{Stage}
use Rattle.olc_state.specs.declared.stage.Stage.TheVariants.{TakeBelow}
use Rattle.spec_olc.specs.Calls.{IsPoint}
use Rattle.spec_olc.specs.Kinds.{report_of}
use Rattle.spec_olc.specs.Lists.{is_in}
use Rattle.spec_olc.specs.State.{CallState, Cleaning}
use Rattle.spec_olc.specs.declared.types.Env.{Env}
use Rattle.spec_olc.specs.declared.types.Kind.{Kind}
use Rattle.spec_olc.specs.declared.types.Outcome.{Outcome}
use Rattle.olc_state.specs.inner.Facts.{named_at}
use Rattle.olc_state.specs.inner.Tables.{byte_at, IsLinked, IsBelow, IsIn, IsPlaced, LedTo, NeedsHolder, OnPath}
use Rattle.olc_state.specs.inner.Shown.{cleaning_at, cursor_at, given_at, held_at, made_at, reach_at, spots_of}
use Rattle.olc_state.proofs.Records.{IsPlain, plain_cleaning, plain_cursor, plain_given, plain_reach}
use Rattle.olc_state.specs.inner.Turns.{depth_in, work_of, IsCourse, AllCurrent, IsUndisturbed, MayFollow, StartsOver}
use Rattle.olc_state.specs.inner.World.{PlacedNode, NodeMap, is_linked}
use Rattle.olc_state.proofs.Options.{none_some, some_same}
use Rattle.olc_state.proofs.Ways.{known_linked, longer-begins}
use Rattle.olc_state.proofs.Unlike.{linked_retired, false_true}
use Rattle.olc_descend.proofs.Events.{Within}
use Rattle.olc_descend.proofs.Spots.{here_known, put_known}

neither : (word : ℕ) → (IsLocked word → ⊥) → (IsObsolete word → ⊥) → IsFree word
neither word locked obsolete =
    let l : word / 2 % 2 ≢ 1 = locked in
    let o : word % 2 ≢ 1 = obsolete in omega arith

-- a call with this cursor, reach and count, this cleanup, these locked nodes and these private nodes
pub holding_as : {M : Type 0} (call : CallState M) (cursor reach given : ℕ) (cleaning : Option Cleaning) (held made : List ℕ) → call.cursor ≡ cursor → call.reach ≡ reach → call.given ≡ given → call.cleaning ≡ cleaning → call.held ≡ held → call.made ≡ made
    → call ≡ record call { cursor = cursor; reach = reach; given = given; cleaning = cleaning; held = held; made = made }
holding_as call cursor reach given cleaning held made c r g l h m =
    ap (λ (x : ℕ). record call { cursor = x }) c
    ∙ (ap (λ (x : ℕ). record call { cursor = cursor; reach = x }) r
    ∙ (ap (λ (x : ℕ). record call { cursor = cursor; reach = reach; given = x }) g
    ∙ (ap (λ (x : Option Cleaning). record call { cursor = cursor; reach = reach; given = given; cleaning = x }) l
    ∙ (ap (λ (x : List ℕ). record call { cursor = cursor; reach = reach; given = given; cleaning = cleaning; held = x }) h
    ∙ ap (λ (x : List ℕ). record call { cursor = cursor; reach = reach; given = given; cleaning = cleaning; held = held; made = x }) m))))

-- the same of one at a stage of a point call that doesn't clean up
pub plain_as : {M : Type 0} (stage : Stage) (key : ℕ) (call : CallState M) (held made : List ℕ) → IsPlain stage → call.cursor ≡ cursor_at stage key → (call.reach ≡ cursor_at stage key) ⊎ (call.reach ≡ reach_at stage key) → call.given ≡ given_at stage → call.cleaning ≡ cleaning_at stage → call.held ≡ held → call.made ≡ made
    → call ≡ record call { cursor = key; reach = key; given = 0; cleaning = None; held = held; made = made }
plain_as stage key call held made plain c r g l h m =
    holding_as call key key 0 None held made (c ∙ plain_cursor stage plain key)
    (elim r [ inl e ↦ e ∙ plain_cursor stage plain key | inr e ↦ e ∙ plain_reach stage plain key ]) (g ∙ plain_given stage plain) (l ∙ plain_cleaning stage plain) h m

-- no node is locked or private
abbrev pub NoneHeld : {M : Type 0} → NodeMap M → Type 0
NoneHeld t = (s : ℕ) → NeedsHolder t s → ⊥

-- if a call that holds no node runs alone, no node is locked or private
pub none_held : {M : Type 0} {k : Kind} (t : NodeMap M) (stage : Stage) (env : Env M) → held_at stage ≡ [] → made_at stage ≡ [] → IsUndisturbed t stage env k → NoneHeld t
none_held t stage env held made calm s needs =
    elim (calm.alone s needs) [
      | inl h ↦ false_true (subst (λ (z : List ℕ). IsTrue (is_in s z)) held h)
      | inr h ↦ false_true (subst (λ (z : List ℕ). IsTrue (is_in s z)) made h)
    ]

module _ {M : Type 0} (t : NodeMap M) where
  -- words stay current if fewer are remembered
  pub still_current : (before after : Stage) → Within (spots_of after) (spots_of before) → AllCurrent t before → AllCurrent t after
  still_current before after within current slot word h = current slot word (within slot word h)

  -- the word that was taken is current, as are those before it
  pub taken_current : (before after : Stage) (slot : ℕ) (a : PlacedNode M) → t slot ≡ Some a → spots_of after ≡ put (spots_of before) slot a.word → AllCurrent t before → AllCurrent t after
  taken_current before after slot a here is current other w h b there =
      elim (put_known (spots_of before) slot a.word other w (subst (λ (z : List (ℕ × ℕ)). lookup z other ≡ Some w) is h)) [
        | inl e ↦
            let same : a ≡ b = some_same a b (sym here ∙ subst (λ (z : ℕ). t z ≡ Some b) (sym e.0) there) in
            ap (λ (z : PlacedNode M). z.word) (sym same) ∙ e.1
        | inr old ↦ current other w old b there
      ]

  -- the course of an event at a slot, after which the call names no slot and remembers no word
  pub forgets : {root : ℕ} {call next : Record M} {env : Env M} {k : Kind} {slot word : ℕ} {ok : Bool} {out : Outcome M} → (slot ≡ root) ⊎ IsIn slot (named_at call.stage)
      → ((z : ℕ) → IsIn z (named_at next.stage) → ⊥) → ((z : ℕ) → MayFollow t next.stage next.task.last z → ⊥) → spots_of next.stage ≡ [] → next.task.outline ≡ call.task.outline
      → (IsPoint call.task.outline → (StartsOver t t call next × (AllCurrent t call.stage → IsUndisturbed t call.stage env k → ⊥)) ⊎ (work_of t next < work_of t call))
      → IsCourse t t root call env next (report_of k (Some slot) word ok) out
  forgets {root = root} {call = call} {slot = slot} known names reads remembered outline falls = record {
    touches = λ z e make. subst (λ (x : ℕ). (x ≡ root) ⊎ IsIn x (named_at call.stage)) (some_same slot z e) known;
    names = λ z h. absurd (names z h);
    reads = λ z h. absurd (reads z h);
    outline = outline;
    keeps = λ current z w h. absurd (none_some w (subst (λ (x : List (ℕ × ℕ)). lookup x z ≡ Some w) remembered h));
    falls = falls;
  }

  module _ (root : ℕ) (placed : IsPlaced t root) where
    -- if no node is locked or private, a linked node is free
    linked_free : (slot : ℕ) (a : PlacedNode M) → NoneHeld t → IsLinked t slot a → IsFree a.word
    linked_free slot a none linked =
        let obsolete : IsObsolete a.word → ⊥ = λ o. let r = (placed.obsolete slot a linked.here).0 o in linked_retired r.0 (sym linked.lifetime ∙ r.1) in
        neither a.word (λ l. none slot (record { node = a; here = linked.here; why = inr (l, obsolete) })) obsolete

    pub root_free : (a : PlacedNode M) → NoneHeld t → t root ≡ Some a → IsFree a.word
    root_free a none at =
        let top : placed.top ≡ a = some_same placed.top a (sym placed.top_linked.here ∙ at) in
        linked_free root a none (record { here = at; lifetime = subst (λ (z : PlacedNode M). z.lifetime ≡ is_linked) top placed.top_linked.lifetime })

    module _ (pin : ℕ) (k : List ℕ) (path : Path) (on : OnPath t root pin k path) (slot : ℕ) (led : LedTo t path.here k slot) where
      -- the child of a node whose word is current is linked
      below_is : (a : PlacedNode M) → t path.here.slot ≡ Some a → a.word ≡ path.here.word → IsBelow t a (byte_at a k) slot
      below_is a at word = placed.below path.here.slot a (known_linked t root k placed pin path.here a on.here at word) (byte_at a k) slot (led a at word)

      pub below_free : (b : PlacedNode M) → AllCurrent t (TakeBelow path slot) → NoneHeld t → t slot ≡ Some b → IsFree b.word
      below_free b current none at =
          let word : on.here.node.word ≡ path.here.word = current path.here.slot path.here.word (here_known path) on.here.node on.here.here in
          let below = below_is on.here.node on.here.here word in
          let same : below.node ≡ b = some_same below.node b (sym below.linked.here ∙ at) in
          linked_free slot b none (subst (λ (z : PlacedNode M). IsLinked t slot z) same below.linked)

      -- a child isn't its own parent
      pub below_other : (a : PlacedNode M) → t path.here.slot ≡ Some a → a.word ≡ path.here.word → slot ≢ path.here.slot
      below_other a at word e =
          let below = below_is a at word in
          let same : below.node ≡ a = some_same below.node a (sym below.linked.here ∙ subst (λ (z : ℕ). t z ≡ Some a) (sym e) at) in
          let longer : length a.node.prefix < length below.node.node.prefix = longer-begins a.node.prefix below.node.node.prefix (byte_at a k) below.begins in
          let is : length below.node.node.prefix ≡ length a.node.prefix = ap (λ (z : PlacedNode M). length z.node.prefix) same in omega arith

      -- and isn't the root
      pub below_not_root : (a : PlacedNode M) → t path.here.slot ≡ Some a → a.word ≡ path.here.word → slot ≢ root
      below_not_root a at word e =
          let below = below_is a at word in
          let same : below.node ≡ placed.top = some_same below.node placed.top (sym below.linked.here ∙ subst (λ (z : ℕ). t z ≡ Some placed.top) (sym e) placed.top_linked.here) in
          let longer : length a.node.prefix < length below.node.node.prefix = longer-begins a.node.prefix below.node.node.prefix (byte_at a k) below.begins in
          let is : length below.node.node.prefix ≡ length placed.top.node.prefix = ap (λ (z : PlacedNode M). length z.node.prefix) same in
          let none : length placed.top.node.prefix ≡ 0 = ap length placed.top_prefix in omega arith

      -- a step down makes the prefix longer
      pub descends : (a : PlacedNode M) → t path.here.slot ≡ Some a → a.word ≡ path.here.word → 4 * (7 - depth_in (t slot)) + 10 < 4 * (7 - depth_in (t path.here.slot)) + 7
      descends a at word =
          let below = below_is a at word in
          let up : depth_in (t path.here.slot) ≡ length a.node.prefix = ap depth_in at in
          let down : depth_in (t slot) ≡ length below.node.node.prefix = ap depth_in below.linked.here in
          let longer : length a.node.prefix < length below.node.node.prefix = longer-begins a.node.prefix below.node.node.prefix (byte_at a k) below.begins in
          let short : length below.node.node.prefix ≤ 7 = placed.short slot below.node below.linked in
          omega arith
