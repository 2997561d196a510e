use Rattle.std.proofs.Common.{rules, ◌≡◌, false}
use Rattle.grasp_simulator.proofs.SendGoes.{behind_sends}
use Rattle.grasp_simulator.proofs.world.World.send_behind.Goals as goal

pub returns-in_ok-_sent-clause-sends : goal.returns-in_ok-_sent-clause-sends
returns-in_ok-_sent-clause-sends c =
    let off : c.args.hold ≡ false = search rules in
    behind_sends c.args.self.now c.send.new.self c.args.node c.in_ok-_sent._sent c.args.hold off c.in_ok-_sent.ensures.sends
