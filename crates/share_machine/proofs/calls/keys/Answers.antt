use Rattle.share_machine.proofs.calls.keys.Goals as goal

pub returns : goal.returns
returns g c = let listed = c.in_ok-keys.ensures in (listed.0, listed.1.map, listed.1, listed.2)
