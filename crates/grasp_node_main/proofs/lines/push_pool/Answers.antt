use Rattle.std.proofs.Common.{string_bytes}
use Rattle.grasp_node_main.proofs.Lining.{lists_pushed}
use Rattle.grasp_node_main.proofs.lines.push_pool.Goals as goal

pub returns : goal.returns
returns c = lists_pushed c.args.pool.now (string_bytes c.args.out.now) (string_bytes c.push_list.new.out) (string_bytes c.push_list-2.new.out) (string_bytes c.push_list-3.new.out) c.in_ok-push_list.ensures c.in_ok-push_list-2.ensures c.in_ok-push_list-3.ensures
