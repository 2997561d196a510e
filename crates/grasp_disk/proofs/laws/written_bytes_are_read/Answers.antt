use Rattle.grasp_disk.proofs.Bytes.{overlaid_read, overlaid_differ}
use Rattle.grasp_disk.proofs.laws.written_bytes_are_read.Goals as goal

pub returns : goal.returns
returns c = λ s at new ok fits. (overlaid_read s.bytes at new fits, overlaid_differ s.bytes at new fits)
