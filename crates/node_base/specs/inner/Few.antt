-- The children of a node with four at most.
use Rattle.std.specs.Prelude.{List, [], ◌∷◌}
use Rattle.node_base.specs.declared.few.Few.{Few}
use Rattle.node_base.specs.declared.few.Few.TheVariants.{Zero, One, Two, Three, Four}

abbrev pub listed : {C : Type 0} → Few C → List C
listed Zero = []
listed (One a) = a ∷ []
listed (Two a b) = a ∷ b ∷ []
listed (Three a b c) = a ∷ b ∷ c ∷ []
listed (Four a b c d) = a ∷ b ∷ c ∷ d ∷ []
