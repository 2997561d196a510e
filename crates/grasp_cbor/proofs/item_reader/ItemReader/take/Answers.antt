use Rattle.std.proofs.Common.{sym, subst}
use Rattle.grasp_cbor.specs.Ending.{IsTooLong}
use Rattle.grasp_cbor.specs.ItemReader.{bytes_with, fault_of}
use Rattle.grasp_cbor.proofs.Kept.{IsCutShort, cut_short}
use Rattle.grasp_cbor.proofs.item_reader.ItemReader.take.Goals as goal

pub returns-in-Err-TooLong-clause-exact : goal.returns-in-Err-TooLong-clause-exact
returns-in-Err-TooLong-clause-exact g c =
    λ s h. let k : IsCutShort c.args.self.now.fault c.args.self.now.walk c.take.new.self s c.args.byte = cut_short c.args.self.now.fault c.args.self.now.walk c.take.new.self s c.args.byte c.in_default.is h (λ t. rw c.in-Err-TooLong.field-0-is at (c.in-Err-TooLong.ensures.exact s t)) in
    k.long

pub returns-in-Err-TooLong-clause-then : goal.returns-in-Err-TooLong-clause-then
returns-in-Err-TooLong-clause-then g c =
    λ s h. let k : IsCutShort c.args.self.now.fault c.args.self.now.walk c.take.new.self s c.args.byte = cut_short c.args.self.now.fault c.args.self.now.walk c.take.new.self s c.args.byte c.in_default.is h (λ t. rw c.in-Err-TooLong.field-0-is at (c.in-Err-TooLong.ensures.exact s t)) in
    (subst (λ n. IsTooLong (bytes_with (fault_of c.args.self.now) s c.args.byte) n) (sym c.in-Err-TooLong.ensures.limit) k.long, k.count)
