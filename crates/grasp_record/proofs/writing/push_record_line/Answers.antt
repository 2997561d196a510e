use Rattle.std.proofs.Common.{rules, ◌≡◌, ◌∷◌, ◌++◌, string_bytes}
use Rattle.std.specs.Prelude.{codes, decimal}
use Rattle.grasp_record.specs.Answers.{told_words}
use Rattle.grasp_record.specs.Inputs.{input_words}
use Rattle.grasp_record.proofs.Pushed.{record_appended}
use Rattle.grasp_record.proofs.writing.push_record_line.Goals as goal

pub returns-clause-text : goal.returns-clause-text
returns-clause-text c =
    let x = c.args.line.now in
    let middle : string_bytes c.push_str.new.self ≡ string_bytes c.args.out.now ++ decimal x.node = search rules in
    record_appended c.push_behind_node.result (decimal x.node) (decimal x.now ∷ (input_words x.input ++ codes "=" ∷ told_words x.answer)) (string_bytes c.args.out.now) (string_bytes c.push_str.new.self) (string_bytes c.push_behind_node.new.out) middle c.push_behind_node.ensures.text
