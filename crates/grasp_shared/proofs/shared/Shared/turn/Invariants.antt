use Rattle.grasp_shared.specs.Calls.{answered}
use Rattle.grasp_shared.proofs.shared.Shared.turn.Given as goal

-- the call that was just made
abbrev pub ghosts-finish : goal.ghosts-finish
ghosts-finish a = record { call = answered a.now a.asked.now.value a.reply.now }
