use Rattle.olc_state.proofs.Walked.{root_top, added_content}
use Rattle.olc_state.proofs.content.content.Goals as goal

pub push_pairs-requires : goal.push_pairs-requires
push_pairs-requires g c = root_top g.P.HasMeaning.meaning c.args.store.now.nodes.slots c.args.store.now.pins.slots c.args.store.now.root c.requires.placed

pub returns : goal.returns
returns g c =
    added_content g.P.HasMeaning.meaning c.args.store.now.nodes.slots c.args.store.now.pins.slots c.args.store.now.root c.requires.placed c.new-pairs.result.items c.push_pairs.new.pairs.items c.new-pairs.ensures.items c.in_ok-push_pairs.ensures
