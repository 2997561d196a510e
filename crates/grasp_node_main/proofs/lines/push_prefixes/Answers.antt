use Rattle.std.proofs.Common.{sym, string_bytes}
use Rattle.grasp_node_main.specs.Lines.{list_of}
use Rattle.grasp_node_main.proofs.Lining.{prefix_pushed}
use Rattle.grasp_node_main.proofs.lines.push_prefixes.Goals as goal

pub loop-place-preserved : goal.loop-place-preserved
loop-place-preserved c =
    prefix_pushed (list_of c.args.list c.args.pool.now) c.loop-place.place c.in-Some.prefix (string_bytes c.args.out.now) (string_bytes c.loop-place.out) (string_bytes c.push_prefix.new.out)
    (sym c.in-Some.ensures) c.loop-place.invariant c.in_ok-push_prefix-in-Some.ensures.text
