use Rattle.grasp_doubts.proofs.Replies.{reply_there}
use Rattle.grasp_doubts.proofs.calling.reply_of.Goals as goal

pub unreachable-requires : goal.unreachable-requires
unreachable-requires c = reply_there c.args.told c.requires (λ r. c.in_default.not-Reply r)
