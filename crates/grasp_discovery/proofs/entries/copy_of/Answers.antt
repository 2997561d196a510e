use Rattle.std.proofs.Common.{Some, None, sym, ◌∙◌}
use Rattle.grasp_discovery.proofs.Cache.{under_found}
use Rattle.grasp_discovery.proofs.entries.copy_of.Goals as goal

pub returns-in-Some : goal.returns-in-Some
returns-in-Some c = rw (under_found c.args.topic.now c.args.entries.now.entries (Some c.in-Some.cached.now) c.in-Some.ensures.value) c.copy.ensures

pub returns-in-None : goal.returns-in-None
returns-in-None c = c.new.ensures ∙ sym (under_found c.args.topic.now c.args.entries.now.entries None c.in-None.ensures.value)
