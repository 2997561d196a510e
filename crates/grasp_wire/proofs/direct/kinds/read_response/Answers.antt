use Rattle.std.proofs.Common.{◌∷◌, ◌++◌, option_map, arith, length-append}
use Rattle.grasp_cbor.specs.DataItem.{unsigned}
use Rattle.grasp_types.specs.Address.{address_item}
use Rattle.grasp_types.specs.Message.{answer_items}
use Rattle.grasp_types.specs.Objective.{optional, objective_item}
use Rattle.grasp_wire.proofs.Straight.{kind_ends, both_lead}
use Rattle.grasp_wire.proofs.direct.kinds.read_response.Goals as goal

pub returns-clause-ends : goal.returns-clause-ends
returns-clause-ends c =
    let answer = answer_items c.in_ok-answer.answer in
    let objective = optional (option_map objective_item c.in_ok-objective.objective) in
    kind_ends 2 (unsigned c.in_ok-session.session ∷ address_item c.in_ok-initiator.initiator ∷ unsigned c.in_ok-ttl.ttl ∷ (answer ++ objective)) c.args.count c.args.bytes.now c.in_ok-objective.rest.now
    (omega (arith, length-append answer objective, c.in_ok-objective.ensures.counts, c.parts_of_answer-before.ensures))
    (c.in_ok-session.rest.now, c.in_ok-session.ensures.leads, (c.in_ok-initiator.rest.now, c.in_ok-initiator.ensures.leads, (c.in_ok-ttl.rest.now, c.in_ok-ttl.ensures.leads, both_lead answer objective c.in_ok-ttl.rest.now c.in_ok-answer.rest.now c.in_ok-objective.rest.now c.in_ok-answer.ensures.leads c.in_ok-objective.ensures.leads)))
