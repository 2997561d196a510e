use Rattle.std.proofs.Common.{rules, ◌≡◌, ◌+◌, ◌-◌, ◌≤◌, length, take, arith}
use Rattle.grasp_types.specs.Message.{item_of}
use Rattle.grasp_wire.proofs.Straight.{rest_within}
use Rattle.grasp_quick.proofs.Fronts.{line_shown}
use Rattle.grasp_quick.proofs.line.front_line.Goals as goal

pub returns : goal.returns
returns c =
    let h = c.in_ok-rest.ensures in
    let there = take c.min-most.result c.args.bytes.now in
    let rest = c.in_ok-rest.rest.now in
    let few : c.min-most.result ≤ c.args.limit = search rules in
    let counts : (length there - length rest) + length rest ≡ length there = omega (arith, rest_within (item_of h.message) there rest h.leads) in
    line_shown c.args.bytes.now rest c.clear.new.self c.quick_line.new.line c.put.new.self c.min-most.result c.args.limit (length there - length rest) few h c.clear.ensures c.in_ok-put.ensures counts
