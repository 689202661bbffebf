-- Look-ups in vain, one after another.
use Rattle.std.proofs.Common.{◌∙◌, ℕ, List, [], ◌∷◌, ◌++◌, Option, Some, refl, sym, subst}
use Rattle.word_hazards.specs.Views.{View}
use Rattle.live_nodes.specs.Known.{Known, MadeCall}
use Rattle.live_nodes.specs.Views.{ask, got}
use Rattle.live_owners.specs.declared.handle.Lent.{Lent}
use Rattle.live_owners.specs.Owners.{OwnersKnown, KnowsMore, RetiresNone, FoundRetired, LookedInVain, FindsOwner, GetsOwner}
use Rattle.live_owners.proofs.Steps.{more_on}

pub vain_once : (key t : ℕ) (k n : Known) → MadeCall k (got (ask k.caller key 0 0) (Some t)) n → LookedInVain key k n
vain_once key t k n made = (t ∷ [], (k, refl, made))

found_more : (key : ℕ) (ts us : List ℕ) (k m n : Known) → FoundRetired key ts k m → FoundRetired key us m n → FoundRetired key (us ++ ts) k n
found_more key ts [] k m n a b = subst (λ (x : Known). FoundRetired key ts k x) (sym b) a
found_more key ts (u ∷ us) k m n a b = (b.0, found_more key ts us k m b.0 a b.1, b.2)

pub vain_on : (key : ℕ) (k m n : Known) → LookedInVain key k m → LookedInVain key m n → LookedInVain key k n
vain_on key k m n a b = (b.0 ++ a.0, found_more key a.0 b.0 k m n a.1 b.1)

pub gets_on : (key : ℕ) (k m n : OwnersKnown) (found : Option Lent) → LookedInVain key k.tickets m.tickets → FindsOwner key m.tickets found n → GetsOwner key k found n
gets_on key k m n found vain finds = (m.tickets, vain, finds)

pub knows_on : (k m n : OwnersKnown) → KnowsMore k m → KnowsMore m n → KnowsMore k n
knows_on k m n a b = (b.0 ∙ a.0, b.1 ∙ a.1, more_on k.owners m.owners n.owners a.2 b.2)

pub keeps_on : (u v w : View) → RetiresNone u v → RetiresNone v w → RetiresNone u w
keeps_on u v w a b = (b.0 ∙ a.0, b.1 ∙ a.1)
