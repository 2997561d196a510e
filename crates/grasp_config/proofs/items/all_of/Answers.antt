use Rattle.std.proofs.Common.{rules, ◌≡◌, get_or, Some, None, sym}
use Rattle.toml.specs.View.{view}
use Rattle.grasp_config.proofs.Collected.{read_none, read_next, read_bad, read_all}
use Rattle.grasp_config.proofs.items.all_of.Goals as goal

pub loop-i-init : goal.loop-i-init
loop-i-init g c = read_none g.T.Element.read c.args.values.now c.new-list.result c.new-list.ensures

pub returns-in_default : goal.returns-in_default
returns-in_default g c =
    let none : g.T.Element.read (view (get_or c.args.values.now c.loop-i.i c.index-values-i.result)) ≡ None = search rules in
    sym (read_bad g.T.Element.read c.args.values.now c.loop-i.i c.loop-i.list c.index-values-i.result (search rules) c.loop-i.invariant none)

pub loop-i-preserved : goal.loop-i-preserved
loop-i-preserved g c =
    let one : g.T.Element.read (view (get_or c.args.values.now c.loop-i.i c.index-values-i.result)) ≡ Some c.in-Some.next = search rules in
    read_next g.T.Element.read c.args.values.now c.loop-i.i c.loop-i.list c.push.new.self c.index-values-i.result c.in-Some.next (search rules) c.loop-i.invariant one c.in_ok-push.ensures.ok

pub returns : goal.returns
returns g c = sym (read_all g.T.Element.read c.args.values.now c.loop-i.i c.loop-i.list (search rules) c.loop-i.invariant)
