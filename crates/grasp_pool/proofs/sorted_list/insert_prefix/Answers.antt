use Rattle.std.proofs.Common.{rules, ◌≡◌, ◌≤◌, ◌∙◌, length, insert}
use Rattle.grasp_pool.proofs.Equal.{insert_is}
use Rattle.grasp_pool.proofs.sorted_list.insert_prefix.Goals as goal

pub returns-clause-is : goal.returns-clause-is
returns-clause-is c =
    let e : c.insert.new.self.items ≡ insert c.args.list.now.items c.place_of-i.result c.args.prefix = search rules
    in let within : c.place_of-i.result ≤ length c.args.list.now.items = search rules
    in e ∙ insert_is c.args.list.now.items c.place_of-i.result c.args.prefix within (search rules) (search rules) c.requires.is_new
