use Rattle.std.proofs.Common.{rules, ◌≡◌}
use Rattle.grasp_discovery.specs.Discoveries.{find_answer}
use Rattle.grasp_discovery.specs.Topic.{topic_of}
use Rattle.grasp_discovery.proofs.Searches.{fresh}
use Rattle.grasp_discovery.proofs.discovery.Discovery.find.Goals as goal

pub returns-clause-fresh : goal.returns-clause-fresh
returns-clause-fresh c =
    let is : c.find_reply-answer.result ≡ find_answer c.args.self.now c.args.asa (topic_of c.args.name.now c.args.kind) = search rules in
    rw c.end_search.ensures.after (fresh c.args.self.now c.args.asa (topic_of c.args.name.now c.args.kind) c.find_reply-answer.result is)
