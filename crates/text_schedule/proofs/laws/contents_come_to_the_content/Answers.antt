use Rattle.std.proofs.Common.{[]}
use Rattle.text_schedule.proofs.AtEnd.{ends_at}
use Rattle.text_schedule.proofs.laws.contents_come_to_the_content.Goals as goal

pub returns : goal.returns
returns c events lines decided content r = ends_at events lines decided _ [] content r.linearizable
