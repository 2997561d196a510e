use Rattle.std.proofs.Common.{rules, arith, ◌≡◌, ◌≤◌, true, None, Some}
use Rattle.grasp_text.specs.Words.{is_over}
use Rattle.grasp_script.specs.Grammar.{node_of}
use Rattle.grasp_script.proofs.Openings.{if_none, no_root_node, no_root_prefix, root_is, root_good}
use Rattle.grasp_script.proofs.opening.told_root.Goals as goal

pub returns-in_err-node-clause-none : goal.returns-in_err-node-clause-none
returns-in_err-node-clause-none c =
    let few : c.args.nodes ≤ 255 = omega arith in
    let none : node_of c.args.nodes c.in_ok-take.field-0.now ≡ None = search rules in
    if_none c.from_residual-in_err-node.result (no_root_node c.args.nodes few c.args.words.now c.take.new.self c.in_ok-take.field-0.now c.in_ok-take.ensures.some none)

pub returns-in_err-prefix-clause-none : goal.returns-in_err-prefix-clause-none
returns-in_err-prefix-clause-none c =
    let few : c.args.nodes ≤ 255 = omega arith in
    if_none c.from_residual-in_err-prefix.result (no_root_prefix c.args.nodes few c.args.words.now c.take.new.self c.take-2.new.self c.in_ok-take.field-0.now c.in_ok-take-2.field-0.now c.in_ok-take.ensures.some c.in_ok-take-2.ensures.some c.in_err-prefix.ensures.none)

pub returns-clause-found : goal.returns-clause-found
returns-clause-found c =
    let few : c.args.nodes ≤ 255 = omega arith in
    let node : node_of c.args.nodes c.in_ok-take.field-0.now ≡ Some c.in_ok-node.node = search rules in
    let over : is_over c.take-2.new.self ≡ true = search rules in
    root_is c.args.nodes few c.args.words.now c.take.new.self c.take-2.new.self c.in_ok-take.field-0.now c.in_ok-take-2.field-0.now c.in_ok-node.node c.address.result c.length.result c.in_ok-prefix.prefix c.in_ok-take.ensures.some node c.in_ok-take-2.ensures.some c.in_ok-prefix.ensures.found over c.address.ensures.value c.length.ensures.value

pub returns-clause-good : goal.returns-clause-good
returns-clause-good c =
    let few : c.args.nodes ≤ 255 = omega arith in
    let node : node_of c.args.nodes c.in_ok-take.field-0.now ≡ Some c.in_ok-node.node = search rules in
    root_good c.args.nodes few c.in_ok-take.field-0.now c.in_ok-node.node c.address.result c.length.result c.in_ok-prefix.prefix node c.in_ok-prefix.ensures.valid c.address.ensures.value c.length.ensures.value
