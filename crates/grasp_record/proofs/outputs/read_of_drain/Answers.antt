use Rattle.std.proofs.Common.{sym, subst, ◌∙◌}
use Rattle.grasp_text.specs.Reading.{Parsed, Reads}
use Rattle.grasp_record.specs.declared.line.RecordAnswer.{RecordAnswer}
use Rattle.grasp_record.proofs.OutputLaws.{not_next}
use Rattle.grasp_record.proofs.outputs.read_of_drain.Goals as goal

pub returns-else-is_next : goal.returns-else-is_next
returns-else-is_next c = subst (λ (p : Parsed RecordAnswer). Reads (λ a. a) c.read_outputs.result c.read_outputs.new.words p) (not_next c.args.words.now (sym c.is_next.ensures ∙ c.if-is_next.false)) c.read_outputs.ensures
