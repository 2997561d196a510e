use Rattle.std.proofs.Common.{rules, arith, ◌≡◌, ◌≤◌, ◌<◌, true, false, length, List, ℕ, None, Some, sym, subst}
use Rattle.grasp_model_network.specs.Setting.{is_on}
use Rattle.grasp_script.specs.Grammar.{node_of}
use Rattle.grasp_script.proofs.Members.{MembersRead, members_more, no_node, too_many, twice}
use Rattle.grasp_script.proofs.opening.told_members.Goals as goal

pub returns-in-None-clause-none : goal.returns-in-None-clause-none
returns-in-None-clause-none c =
    let few : c.args.nodes ≤ 255 = omega arith in
    let none : node_of c.args.nodes c.in-Some.word.now ≡ None = search rules in
    λ m good e. no_node c.args.nodes few c.args.words.now c.loop-word.words c.loop-word.members c.loop-word.invariant m good e c.in-Some.word.now c.take.new.self c.in-Some.ensures.some none

pub returns-then-len-ge-MOST_MEMBERS-clause-none : goal.returns-then-len-ge-MOST_MEMBERS-clause-none
returns-then-len-ge-MOST_MEMBERS-clause-none c =
    let few : c.args.nodes ≤ 255 = omega arith in
    let many : 17 ≤ length c.loop-word.members = omega arith in
    λ m good e. too_many c.args.nodes few c.args.words.now c.loop-word.words c.loop-word.members c.loop-word.invariant m good e c.in-Some.word.now c.take.new.self c.in-Some.ensures.some many

pub returns-then-is_member-clause-none : goal.returns-then-is_member-clause-none
returns-then-is_member-clause-none c =
    let few : c.args.nodes ≤ 255 = omega arith in
    let node : node_of c.args.nodes c.in-Some.word.now ≡ Some c.in-Some-node.node = search rules in
    let on : is_on c.in-Some-node.node c.loop-word.members ≡ true = search rules in
    λ m good e. twice c.args.nodes few c.args.words.now c.loop-word.words c.loop-word.members c.loop-word.invariant m good e c.in-Some.word.now c.take.new.self c.in-Some-node.node c.in-Some.ensures.some node on

pub loop-word-preserved : goal.loop-word-preserved
loop-word-preserved c =
    let few : c.args.nodes ≤ 255 = omega arith in
    let node : node_of c.args.nodes c.in-Some.word.now ≡ Some c.in-Some-node.node = search rules in
    let less : length c.loop-word.members < 17 = omega arith in
    let off : is_on c.in-Some-node.node c.loop-word.members ≡ false = search rules in
    subst (λ (ms : List ℕ). MembersRead c.args.nodes c.args.words.now c.take.new.self ms) (sym c.in_ok-push.ensures.ok) (members_more c.args.nodes few c.args.words.now c.loop-word.words c.take.new.self c.loop-word.members c.in-Some.word.now c.in-Some-node.node c.loop-word.invariant c.in-Some.ensures.some node less off)
