use Rattle.std.proofs.Common.{◌+◌, [], ◌∷◌, ◌++◌, option_map, arith}
use Rattle.grasp_cbor.specs.DataItem.{unsigned}
use Rattle.grasp_types.specs.Address.{address_item}
use Rattle.grasp_types.specs.Message.{answer_items}
use Rattle.grasp_types.specs.Objective.{optional, objective_item}
use Rattle.grasp_wire.specs.declared.writing.put.Full.{Full}
use Rattle.grasp_wire.proofs.Putting.{array_put}
use Rattle.grasp_wire.proofs.writing.message.put_response.Goals as goal

pub returns-clause-puts : goal.returns-clause-puts
returns-clause-puts g c =
    array_put Full g.P.Put.Keeps g.P.Put.Counts (g.P.Put.place c.args.out.now) (g.P.Put.place c.put_timed_start.new.out) (g.P.Put.place c.put_response_end.new.out)
    (unsigned 2 ∷ unsigned c.args.session ∷ address_item c.args.initiator.now ∷ unsigned c.args.ttl ∷ []) (answer_items c.args.answer.now ++ optional (option_map objective_item c.args.objective.now)) (4 + c.count_of_response-count.result)
    c.put_response_end.result (omega (arith, c.count_of_response-count.ensures.value)) c.in_ok-put_timed_start.ensures.puts c.put_response_end.ensures.puts
