use Rattle.std.proofs.Common.{rules}
use Rattle.grasp_agent.specs.Stored.{state_of}
use Rattle.grasp_agent.proofs.Returning.{kept_returning}
use Rattle.grasp_agent.proofs.prefix_agent.PrefixAgent.hand_back.Goals as goal

pub invariant_of-self-2 : goal.invariant_of-self-2
invariant_of-self-2 c = record {
  kept = kept_returning (state_of c.self.inside) c.args.prefix c.args.peer c.take_at.new.self (search rules) c.address-address.ensures.valid (search rules)
      (search rules) c.self.invariant.kept;
  giving = c.self.invariant.giving;
  cursor = c.self.invariant.cursor;
}

pub returns-clause-kept : goal.returns-clause-kept
returns-clause-kept c =
    kept_returning (state_of c.self.inside) c.args.prefix c.args.peer c.take_at.new.self (search rules) c.address-address.ensures.valid (search rules)
    (search rules) c.self.invariant.kept
