-- THE ROOT WORD is read: which node is the root, and what is seen then.
use Rattle.std.specs.Prelude.{◌≡◌, ℕ, ◌<◌, List, [], ◌∷◌}
use Rattle.share_rule.specs.History.{Entry}
use Rattle.live_nodes.specs.Seats.{Place, Read}
use Rattle.live_nodes.specs.Acts as acts
use Rattle.live_nodes.specs.Levels.{name_of, Spot, place_at}
use Rattle.live_nodes.specs.Views.{View, view_of}
use Rattle.live_nodes.specs.Tree.{IsMap}

abbrev pub History : Type 0
History = List (Entry ℕ)

module _ (sees : History → History → Type 0) where
  pub record IsRoot (v : View) (x : ℕ) (ps : List Place) (w : View) : Type 0 where
    pub spot : Spot
    pub place : ps ≡ place_at spot ∷ []
    pub is : w ≡ view_of w.seen (spot ∷ v.met) v.own
    pub seen : sees v.seen w.seen
    pub named : x ≡ name_of spot.shape
    pub height : spot.shape.height ≡ 8
    pub top : spot.shape.top ≡ 0

  abbrev pub LearnsRoot : View → ℕ → ℕ → List (ℕ × ℕ) → List Place → View → Type 0
  LearnsRoot v k word saw ps w = (x : ℕ) → saw ≡ (0, x) ∷ []
      → (0 < x → IsRoot v x ps w) × (x ≡ 0 → (ps ≡ []) × (w ≡ v))

  -- A seat may learn it, whatever the root word has.
  abbrev pub MayLearnRoot : ℕ → View → Type 0
  MayLearnRoot id v = (word x : ℕ) (reads : List Read) → acts.Learns IsMap id v 0 word ((0, x) ∷ []) reads (LearnsRoot v 0 word ((0, x) ∷ []))
