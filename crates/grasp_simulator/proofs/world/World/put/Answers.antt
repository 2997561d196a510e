use Rattle.std.proofs.Common.{◌≡◌, ◌∙◌, sym, ap, subst, arith, tests, ℕ, ◌+◌, ◌<◌, false, length, min, nat_le}
use Rattle.std.proofs.lemmas.Result.{on_ok_weaker}
use Rattle.grasp_types.specs.declared.address.Locator.{Locator}
use Rattle.grasp_model_network.specs.World.{end_of}
use Rattle.grasp_simulator.specs.Marking.{is_marked}
use Rattle.grasp_types.specs.declared.traffic.Output.TheVariants as output
use Rattle.grasp_simulator.proofs.Puts.{puts_datagram, puts_dial, puts_send, puts_close}
use Rattle.grasp_simulator.specs.Sends.{Puts}
use Rattle.grasp_simulator.specs.StreamsStand.{most_streams}
use Rattle.grasp_simulator.specs.WorldStands.{most_count}
use Rattle.grasp_simulator.specs.declared.world.World.{World}
use Rattle.grasp_simulator.proofs.world.World.put.Goals as goal

pub returns-in-Datagram-clause-puts : goal.returns-in-Datagram-clause-puts
returns-in-Datagram-clause-puts c =
    on_ok_weaker c.post.result (λ posts. puts_datagram c.args.self.now c.post.new.self c.args.node c.args.life c.in-Datagram.link c.in-Datagram.to c.in-Datagram.bytes c.args.output.now c.in-Datagram.is posts) c.post.ensures.posts

has_room : (count : ℕ) → nat_le most_streams count ≡ false → count < most_streams
has_room count few = grind (arith, tests)

pub dial-requires : goal.dial-requires
dial-requires c = has_room (length c.args.self.now.streams.list.items) (sym c.is_full.ensures ∙ c.if-is_full.false)

pub returns-in_ok-copy-in-Dial-clause-puts : goal.returns-in_ok-copy-in-Dial-clause-puts
returns-in_ok-copy-in-Dial-clause-puts c =
    let self = c.args.self.now in
    let to = c.in_ok-copy-in-Dial.field-0 in
    let end = end_of c.args.life c.in-Dial.stream in
    let copied : to ≡ c.in-Dial.to = c.in_ok-copy-in-Dial.ensures in
    on_ok_weaker c.dial.result
    (λ stands. puts_dial self c.dial.new.self c.args.node c.args.life c.in-Dial.stream to c.is_marked-closed.result c.args.output.now (c.in-Dial.is ∙ ap (λ (t : Locator). output.Dial c.in-Dial.stream t) (sym copied))
    (c.is_marked-closed.ensures ∙ (ap (λ marks. is_marked marks self.plan.nodes end c.in-Dial.to) c.slice-marks.ensures ∙ ap (is_marked self.marks self.plan.nodes end) (sym copied)))
    stands)
    c.dial.ensures.stands

pub returns-in_ok-send-in-Send-clause-puts : goal.returns-in_ok-send-in-Send-clause-puts
returns-in_ok-send-in-Send-clause-puts c =
    let self = c.args.self.now in
    let sent : ℕ = min (self.sent + c.len.result) most_count in
    subst (λ (x : World). Puts self x c.args.node c.args.life c.args.output.now) (sym c.add.ensures)
    (puts_send self c.send.new.self c.args.node c.args.life c.in-Send.stream sent c.in-Send.bytes c.args.output.now c.in-Send.is (ap (λ (n : ℕ). min (self.sent + n) most_count) c.len.ensures)
    (λ begins ts dials m are sent_all s. c.in_ok-send-in-Send.ensures.stands begins ts dials m (c.bytes.ensures ∙ are) sent_all s))

pub returns-in-Close-clause-puts : goal.returns-in-Close-clause-puts
returns-in-Close-clause-puts c = puts_close c.args.self.now c.close.new.self c.args.node c.args.life c.in-Close.stream c.args.output.now c.in-Close.is c.close.ensures.stands
