use Rattle.grasp_simulator.proofs.seat.Seat.agent_step.Goals as goal

pub returns-clause-steps : goal.returns-clause-steps
returns-clause-steps c = c.in_ok-reply.ensures.steps
