use Rattle.std.proofs.Common.{refl}
use Rattle.tree_links.proofs.SeekLaws.{no_rest}
use Rattle.tree_links.proofs.descent.compare_pair.Goals as goal

pub first_difference-requires-clause-differ : goal.first_difference-requires-clause-differ
first_difference-requires-clause-differ c = no_rest c.args.key.now c.args.rest.now c.told-key c.told-rest (c.if-is_rest.ensures.other refl)
