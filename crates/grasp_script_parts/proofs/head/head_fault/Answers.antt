use Rattle.std.proofs.Common.{rules, ◌≡◌, ◌-◌, false, sym, ◌∙◌, take}
use Rattle.grasp_script.specs.Scripts.{text_lines}
use Rattle.grasp_script_parts.specs.Starting.{has_start}
use Rattle.grasp_script_parts.proofs.Starting.{bad_head}
use Rattle.grasp_script_parts.proofs.head.head_fault.Goals as goal

pub returns : goal.returns
returns c =
    let no : c.starts_before.result ≡ false = search rules in
    let none : has_start (take (c.args.line - 1) (text_lines c.args.text.now)) ≡ false = sym c.starts_before.ensures ∙ no in
    bad_head c.args.text.now c.args.line none c.requires.place
