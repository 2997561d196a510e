use Rattle.std.proofs.Common.{rules, ◌≡◌, ◌++◌, string_bytes}
use Rattle.grasp_text.proofs.Pushed.{line_appended_later}
use Rattle.grasp_text.proofs.writing.push_line.Goals as goal

pub returns-clause-text : goal.returns-clause-text
returns-clause-text c =
    let middle : string_bytes c.push_str.new.self ≡ string_bytes c.args.out.now ++ c.name_of.result.now = search rules in
    line_appended_later c.push_behind_name.result c.args.message.now (string_bytes c.args.out.now) (string_bytes c.push_str.new.self) (string_bytes c.push_behind_name.new.out) c.name_of.result.now middle c.name_of.ensures c.push_behind_name.ensures.text
