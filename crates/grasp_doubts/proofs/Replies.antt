-- Replies that are reported.
use Rattle.std.proofs.Common.{rules, ◌≡◌, refl}
use Rattle.grasp_types.specs.declared.reply.Reply.{Reply}
use Rattle.grasp_model_network.specs.declared.report.Report.{Report}
use Rattle.grasp_model_network.specs.declared.report.Report.TheVariants as report
use Rattle.grasp_doubts.specs.Nodes.{IsReply}

pub same_reply : (x y : Reply) → report.Reply x ≡ report.Reply y → x ≡ y
same_reply x y f = search rules

-- what is no other report is a reply
pub reply_there : (told : Report) → IsReply told → ((r : Reply) → told ≡ report.Reply r → ⊥) → ⊥
reply_there (report.Reply r) is none = none r refl
reply_there (report.Agent call r) is none = is
reply_there report.Nothing is none = is
reply_there (report.Reading n) is none = is
reply_there (report.Want r) is none = is
reply_there (report.Return r) is none = is
reply_there (report.Sent n) is none = is
