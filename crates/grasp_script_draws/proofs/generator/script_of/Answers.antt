use Rattle.std.proofs.Common.{◌≡◌, ℕ, ◌++◌, refl, ap, ◌∙◌, arith}
use Rattle.grasp_script_draws.specs.Drawing.{drawn_of}
use Rattle.grasp_script_draws.specs.Generator.{header_lines, lines_text, rounds, number_behind, script_lines, script_of}
use Rattle.grasp_script_draws.proofs.RoundsWritten.{none_written, round_written, numbers_drawn, all_written}
use Rattle.grasp_script_draws.proofs.generator.script_of.Goals as goal

pub loop-i-init : goal.loop-i-init
unfolding number_behind
loop-i-init c = record { text = none_written _ _ header_lines c.args.number c.new-out.ensures.bytes c.in_ok-push_header.ensures; number = refl }

pub loop-i-preserved : goal.loop-i-preserved
loop-i-preserved c = record {
  text = round_written c.loop-i.i c.args.number c.loop-i.numbers.last _ _ header_lines (drawn_of c.round-draws.result) c.loop-i.invariant.text c.loop-i.invariant.number c.round-draws.ensures.drawn c.in_ok-push_round.ensures;
  number = numbers_drawn c.loop-i.i c.args.number c.loop-i.numbers.last _ c.loop-i.invariant.number c.round-draws.ensures.next;
}

pub returns : goal.returns
unfolding script_of script_lines
returns c =
    let last : c.loop-i.i ≡ 800 = omega arith in
    all_written c.of.result _ _ c.of.ensures (c.as_bytes.ensures.value ∙ c.loop-i.invariant.text ∙ ap (λ (k : ℕ). lines_text (header_lines ++ rounds k c.args.number)) last)
