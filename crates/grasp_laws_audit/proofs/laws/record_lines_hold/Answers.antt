use Rattle.grasp_laws_audit.proofs.Recorded.{record_lines_hold}
use Rattle.grasp_laws_audit.proofs.laws.record_lines_hold.Goals as goal

pub returns : goal.returns
returns c = record_lines_hold (record {
  lines = c.each_record_has_one_line.ensures;
  messages = c.one_message_for_bytes.ensures;
  present = c.steps_are_present.ensures;
  ready = c.streams_are_ready.ensures;
  safe = c.each_network_is_safe.ensures;
})
