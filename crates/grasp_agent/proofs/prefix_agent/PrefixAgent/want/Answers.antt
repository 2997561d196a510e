use Rattle.std.proofs.Common.{rules, refl}
use Rattle.grasp_agent.specs.Replies.{new_want}
use Rattle.grasp_agent.specs.Stored.{state_of}
use Rattle.grasp_agent.proofs.Keeping.{kept_new}
use Rattle.grasp_agent.proofs.prefix_agent.PrefixAgent.want.Goals as goal

pub invariant_of-self : goal.invariant_of-self
invariant_of-self c = record {
  kept = kept_new (state_of c.self.inside) (new_want c.args.length c.args.longest c.args.peer) (search rules) refl
      (c.requires.least, c.requires.ordered, c.requires.most) c.self.invariant.kept;
  giving = c.self.invariant.giving;
  cursor = c.self.invariant.cursor;
}

pub returns-clause-kept : goal.returns-clause-kept
returns-clause-kept c =
    kept_new (state_of c.self.inside) (new_want c.args.length c.args.longest c.args.peer) (search rules) refl
    (c.requires.least, c.requires.ordered, c.requires.most) c.self.invariant.kept
