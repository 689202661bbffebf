use Rattle.node_base.specs.Form.{form_place}
use Rattle.live_layout.proofs.form.form_in.Goals as goal

pub returns : goal.returns
returns c = λ form prefix h. c.form_at.ensures form (c.form_of.ensures (form_place form) prefix h)
