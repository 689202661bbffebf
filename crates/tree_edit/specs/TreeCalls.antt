-- What a call of a tree returns, and what it does to the tree. A key is given as its number.
use Rattle.std.specs.Prelude.{◌≡◌, ℕ, ◌+◌, ◌<◌, ◌≤◌, List, [], length, Option, None, IsSome, Result, IfOk, OnOk, OnErr}
use Rattle.std.specs.Fn.{Mut, CalledAt}
use Rattle.std.specs.Int.{to_be_bytes, w64}
use Rattle.std.specs.Option.{ForSome}
use Rattle.spec_map.specs.Map.{lookup, put, without, with_answer}
use Rattle.spec_map.specs.Refusal.{NeedsNode}
use Rattle.node_table.specs.Charge.{Charge, add_charge}
use Rattle.node_table.specs.Shape.{Reshapes}
use Rattle.node_table.specs.Table.{NodeInfo}
use Rattle.tree_path.specs.Charge.{charge_of}
use Rattle.tree_path.specs.Path.{on_path}
use Rattle.tree_edit.specs.Closure.{CalledAtOption}
use Rattle.tree_edit.specs.Outside.{outside}
use Rattle.tree_edit.specs.Reduce.{AreFilled, Reduces, Recomputes}
use Rattle.tree_edit.specs.Tree.{TreeView, root_alone, ChargesForNodes, StoresSame}
use denote.Ref.{Bor}

-- A NEW TREE, whose budget was this one before the root was charged to it
pub record IsNew {P A : Type 0} (charge : A → Option Charge) (budget : A) (new : TreeView P A) : Type 0 where
  pub pairs : new.pairs ≡ []
  pub nodes : new.nodes ≡ root_alone
  pub charged : charge new.budget ≡ add_charge (charge budget) (charge_of new.nodes)

-- THE CHARGE for a tree, in bytes: no node but the root is empty, and in an empty tree there is no other
pub record IsChargeOf {P A : Type 0} (tree : TreeView P A) (bytes : ℕ) : Type 0 where
  pub sizes : bytes ≡ charge_of tree.nodes
  pub filled : AreFilled tree.nodes
  pub bare : tree.pairs ≡ [] → bytes ≡ 2104

-- a call at this key of this tree, whose budget has such a charge; `before` is the key's previous payload in each
module _ {P A : Type 0} (charge : A → Option Charge) (old : TreeView P A) (key : ℕ) where
  -- A REMOVAL, which never fails
  pub record Removes (result : Option P) (new : TreeView P A) : Type 0 where
    pub before : result ≡ lookup old.pairs key
    pub pairs : new.pairs ≡ without old.pairs key
    pub shape : Reduces result old.nodes (to_be_bytes w64 key) new.nodes
    pub charged : ChargesForNodes charge old new

  -- AN INSERTION, which is refused only for a key that needs a node, and changes nothing then
  pub record Inserts {E : Type 0} (payload : P) (result : Result (Option P) E) (new : TreeView P A) : Type 0 where
    pub before : IfOk result (λ before. before ≡ lookup old.pairs key)
    pub ok : OnOk result (new.pairs ≡ put old.pairs key payload)
    pub shape : IfOk result (λ before. Reshapes before old.nodes (to_be_bytes w64 key) new.nodes)
    pub err : OnErr result (StoresSame old new)
    pub refused : OnErr result (NeedsNode old.pairs key)
    pub charged : ChargesForNodes charge old new

  -- A COMPUTATION THAT MAY INSERT: a closure, f before the call and f' after it, is called once, at the current payload
  -- or `None`, and what it returns is inserted. In a refusal it isn't called.
  pub record ComputesOrInserts {E F : Type 0} (call : Mut F (Option (Bor P) × Unit {0}) P) (f : F) (result : Result (Option P) E) (f' : F) (new : TreeView P A) : Type 0 where
    pub before : IfOk result (λ before. before ≡ lookup old.pairs key)
    pub ok : OnOk result ((answer : P)
        × CalledAtOption call f (lookup old.pairs key) answer f'
        × (new.pairs ≡ put old.pairs key answer))
    pub shape : IfOk result (λ before. Reshapes before old.nodes (to_be_bytes w64 key) new.nodes)
    pub err : OnErr result (StoresSame old new)
    pub not_called : OnErr result (f' ≡ f)
    pub refused : OnErr result (NeedsNode old.pairs key)
    pub charged : ChargesForNodes charge old new

  -- A COMPUTATION AT A PRESENT KEY: the closure is called once, at the current payload, and the payload that it returns
  -- is stored; `None` removes the pair. Where the key is absent it isn't called.
  pub record ComputesIfPresent {F : Type 0} (call : Mut F (Bor P × Unit {0}) (Option P)) (f : F) (result : Option P) (f' : F) (new : TreeView P A) : Type 0 where
    pub before : result ≡ lookup old.pairs key
    pub absent : lookup old.pairs key ≡ None → (new ≡ old) × (f' ≡ f)
    pub present : ForSome (lookup old.pairs key) (λ current. (answer : Option P)
        × CalledAt call f current answer f'
        × (new.pairs ≡ with_answer old.pairs key answer)
        × Recomputes answer old.nodes (to_be_bytes w64 key) new.nodes)
    pub charged : ChargesForNodes charge old new

-- the reads of a call: the nodes on the key's path, each once, which are eight at most
pub record ReadsPath (nodes : List NodeInfo) (key : List ℕ) (old new : ℕ) : Type 0 where
  pub reads : new ≡ old + on_path nodes key
  pub few : on_path nodes key ≤ 8

-- A REMOVAL OF PAIRS between a start and an end: the one at this key is among them, if it is there
pub record RemovesRun {P A : Type 0} (charge : A → Option Charge) (old : TreeView P A) (start key end : ℕ) (new : TreeView P A) : Type 0 where
  pub others : outside new.pairs start end ≡ outside old.pairs start end
  pub fewer : IsSome (lookup old.pairs key) → length new.pairs < length old.pairs
  pub charged : ChargesForNodes charge old new
