-- What the callers' histories are.
use Rattle.std.proofs.Common.{◌≡◌, ℕ, List, [], ◌∷◌, ◌++◌, Option, Some, None, refl, sym, ap, subst, ◌∙◌}
use Rattle.spec_map.specs.Call.{get, insert, old_value}
use Rattle.spec_map.specs.Map.{Pairs, between}
use Rattle.congee.specs.Meaning.{in_some}
use Rattle.congee.specs.Runs.{same_number}
use Rattle.congee.specs.Operations.{returned}
use Rattle.congee.specs.Keys.{AllLeave, OwnsKeys, finds, inserts}
use Rattle.congee.specs.History.{Entry, entries_of, IsHistory, StartsWith}
use Rattle.congee.specs.Known.{Known, MadeCall, SeenMore, own_entries}
use Rattle.example_guards.specs.Callers.{HandedOver, IsNoted, KeepsOwn}

-- a number is read back as itself
pub in_some_same : (x : Option ℕ) → in_some (λ n. n) x ≡ x
in_some_same None = refl
in_some_same (Some n) = refl

joined : {X : Type 0} (a rest more : List X) (e g : X) → (((a ++ e ∷ []) ++ rest) ++ more) ++ g ∷ [] ≡ a ++ (e ∷ ((rest ++ more) ++ g ∷ []))
joined [] rest more e g = refl
joined (x ∷ a) rest more e g = ap (λ l. x ∷ l) (joined a rest more e g)

opened : {X : Type 0} (a rest : List X) (e : X) → (a ++ e ∷ []) ++ rest ≡ a ++ (e ∷ rest)
opened [] rest e = refl
opened (x ∷ a) rest e = ap (λ l. x ∷ l) (opened a rest e)

longer : {X : Type 0} (a rest more : List X) (e : X) → (a ++ (e ∷ rest)) ++ more ≡ (a ++ e ∷ []) ++ (rest ++ more)
longer [] rest more e = refl
longer (x ∷ a) rest more e = ap (λ l. x ∷ l) (longer a rest more e)

appended : {X : Type 0} (a : List X) (e g : X) → (a ++ e ∷ []) ++ g ∷ [] ≡ a ++ (e ∷ (g ∷ []))
appended [] e g = refl
appended (x ∷ a) e g = ap (λ l. x ∷ l) (appended a e g)

-- the law of a `get` that finds what was inserted
abbrev pub FindsIt : Type 0
FindsIt = (first middle : List (Entry ℕ)) (a b key : ℕ) (value : ℕ) (before found : Option ℕ) (m : Pairs ℕ)
    → IsHistory same_number (first ++ (inserts a key value before ∷ (middle ++ finds b key found ∷ []))) m → AllLeave key middle → found ≡ Some value

module _ (key value : ℕ) where
  -- an insertion that was noted
  pub noted : (k0 k1 k2 : Known ℕ) (before : Option ℕ) → MadeCall same_number k0 (returned (insert key value) (old_value before)) k1 → SeenMore same_number k1 k2 → IsNoted k0.caller key value k2.seen
  noted k0 k1 k2 before put more = record {
    first = k0.seen ++ put.between;
    rest = more.seen.0;
    before = before;
    is = more.seen.1 ∙ (ap (λ (l : List (Entry ℕ)). l ++ more.seen.0) put.seen ∙ opened (k0.seen ++ put.between) more.seen.0 (inserts k0.caller key value before));
  }

module _ (key value : ℕ) (law : FindsIt) where
  -- an insertion, a meeting, and the other's look-up
  pub handed : (k0 k1 k2 t0 t1 t2 : Known ℕ) (before found : Option ℕ) → MadeCall same_number k0 (returned (insert key value) (old_value before)) k1 → SeenMore same_number k1 k2 → SeenMore same_number t0 t1
      → k2.seen ≡ t1.seen → MadeCall same_number t1 (returned (get key) (old_value found)) t2 → HandedOver k0.caller t0.caller key value found t2.seen
  handed k0 k1 k2 t0 t1 t2 before found put more other one got =
      let first = k0.seen ++ put.between in
      let rest = more.seen.0 in
      let seen : t1.seen ≡ (first ++ inserts k0.caller key value before ∷ []) ++ rest = sym one ∙ (more.seen.1 ∙ ap (λ (l : List (Entry ℕ)). l ++ rest) put.seen) in
      let is : t2.seen ≡ first ++ (inserts k0.caller key value before ∷ ((rest ++ got.between) ++ finds t0.caller key found ∷ [])) =
      got.seen
      ∙ (ap (λ (l : List (Entry ℕ)). (l ++ got.between) ++ finds t1.caller key found ∷ []) seen
      ∙ (ap (λ c. (((first ++ inserts k0.caller key value before ∷ []) ++ rest) ++ got.between) ++ finds c key found ∷ []) other.caller
      ∙ joined first rest got.between (inserts k0.caller key value before) (finds t0.caller key found)))
      in record {
        first = first;
        between = rest ++ got.between;
        before = before;
        is = is;
        finds_it = λ leave. law first (rest ++ got.between) k0.caller t0.caller key value before found got.legal.0 (subst (λ (l : List (Entry ℕ)). IsHistory same_number l got.legal.0) is got.legal.1) leave;
      }

  -- the look-up of a guard that has learnt it
  pub learned : (giver : ℕ) (seen : List (Entry ℕ)) (t0 t1 t2 : Known ℕ) (found : Option ℕ) → IsNoted giver key value seen → StartsWith t1.seen seen → SeenMore same_number t0 t1
      → MadeCall same_number t1 (returned (get key) (old_value found)) t2 → HandedOver giver t0.caller key value found t2.seen
  learned giver seen t0 t1 t2 found n starts other got =
      let e = inserts giver key value n.before in
      let rest = n.rest ++ starts.0 in
      let learnt : t1.seen ≡ (n.first ++ e ∷ []) ++ rest = starts.1 ∙ (ap (λ (l : List (Entry ℕ)). l ++ starts.0) n.is ∙ longer n.first n.rest starts.0 e) in
      let is : t2.seen ≡ n.first ++ (e ∷ ((rest ++ got.between) ++ finds t0.caller key found ∷ [])) =
      got.seen
      ∙ (ap (λ (l : List (Entry ℕ)). (l ++ got.between) ++ finds t1.caller key found ∷ []) learnt
      ∙ (ap (λ c. (((n.first ++ e ∷ []) ++ rest) ++ got.between) ++ finds c key found ∷ []) other.caller
      ∙ joined n.first rest got.between e (finds t0.caller key found)))
      in record {
        first = n.first;
        between = rest ++ got.between;
        before = n.before;
        is = is;
        finds_it = λ leave. law n.first (rest ++ got.between) giver t0.caller key value n.before found got.legal.0 (subst (λ (l : List (Entry ℕ)). IsHistory same_number l got.legal.0) is got.legal.1) leave;
      }

  -- an owner's insertion and look-up
  pub kept : ((owner low high : ℕ) (entries : List (Entry ℕ)) (m : Pairs ℕ) → IsHistory same_number entries m → OwnsKeys owner low high entries → IsHistory same_number (entries_of owner entries) (between m low high))
      → (k0 k1 k2 : Known ℕ) (before found : Option ℕ) → MadeCall same_number k0 (returned (insert key value) (old_value before)) k1 → MadeCall same_number k1 (returned (get key) (old_value found)) k2 → KeepsOwn k0 key value found k2
  kept owner_law k0 k1 k2 before found put got =
      let caller : k2.caller ≡ k0.caller = got.caller ∙ put.caller in
      let last : own_entries k2 ≡ (own_entries k0 ++ inserts k0.caller key value before ∷ []) ++ finds k0.caller key found ∷ [] =
      got.own ∙ (ap (λ c. own_entries k1 ++ finds c key found ∷ []) put.caller ∙ ap (λ (l : List (Entry ℕ)). l ++ finds k0.caller key found ∷ []) put.own)
      in
      let own : (low high : ℕ) → OwnsKeys k0.caller low high k2.seen → IsHistory same_number (own_entries k2) (between got.legal.0 low high) =
      λ low high owns. subst (λ c. IsHistory same_number (entries_of c k2.seen) (between got.legal.0 low high)) (sym caller) (owner_law k0.caller low high k2.seen got.legal.0 got.legal.1 owns)
      in record {
        own = λ low high owns. (got.legal.0, own low high owns);
        before = before;
        last = last;
        finds_it = λ low high owns.
            law (own_entries k0) [] k0.caller k0.caller key value before found (between got.legal.0 low high)
            (subst (λ (l : List (Entry ℕ)). IsHistory same_number l (between got.legal.0 low high)) (last ∙ appended (own_entries k0) (inserts k0.caller key value before) (finds k0.caller key found)) (own low high owns)) tt;
      }
