pub use Rattle.congee_tree.specs.Stats
pub use Rattle.tree_edit.specs.Tree
pub use Rattle.tree_edit.specs.TreeCalls
