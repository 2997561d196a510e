use Rattle.grasp_agent.proofs.giver.+take_upward.Given as goal

abbrev pub decreases-take_upward : goal.decreases-take_upward
decreases-take_upward l = l.tries
