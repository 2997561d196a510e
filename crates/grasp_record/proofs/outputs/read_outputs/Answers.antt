use Rattle.std.proofs.Common.{rules, List, ℕ, sym, ap, ◌∙◌}
use Rattle.grasp_types.specs.declared.traffic.Output.{Output}
use Rattle.grasp_record.specs.Answers.{output_words, IsOutput}
use Rattle.grasp_record.specs.Grammar.{each_at, output_at, as_outputs, outputs_at}
use Rattle.grasp_record.proofs.OutputLaws.{outputs_exact, output_long}
use Rattle.grasp_text.specs.Reading.{Parsed}
use Rattle.grasp_record.proofs.Each.{goes_on, each_shorter, each_over, each_next}
use Rattle.grasp_record.proofs.outputs.read_outputs.Goals as goal

pub returns-in_err-next : goal.returns-in_err-next
returns-in_err-next c =
    let t = each_next IsOutput output_words output_at outputs_exact output_long as_outputs c.loop-alloc.outputs c.loop-alloc.words (outputs_at c.args.words.now) (search rules) c.loop-alloc.invariant in
    rw t (search rules)

pub loop-alloc-smaller : goal.loop-alloc-smaller
loop-alloc-smaller c = each_shorter IsOutput output_words output_at outputs_exact output_long c.loop-alloc.words c.in_ok-next.next c.read_output-in-loop-alloc.new.words c.in_ok-next.ensures

pub loop-alloc-preserved : goal.loop-alloc-preserved
loop-alloc-preserved c =
    let before : List Output = c.loop-alloc.outputs in
    let left : List (List ℕ) = c.read_output-in-loop-alloc.new.words in
    let t = each_next IsOutput output_words output_at outputs_exact output_long as_outputs before c.loop-alloc.words (outputs_at c.args.words.now) (search rules) c.loop-alloc.invariant in
    ap (λ (x : List Output). as_outputs (each_at output_at x left)) c.in_ok-push-2.ensures.ok
    ∙ sym (t ∙ ap (λ (r : Parsed Output). as_outputs (goes_on (each_at output_at) before r)) c.in_ok-next.ensures)

pub returns : goal.returns
returns c = each_over IsOutput output_words output_at outputs_exact output_long as_outputs c.loop-alloc.outputs c.loop-alloc.words (outputs_at c.args.words.now) (search rules) c.loop-alloc.invariant
