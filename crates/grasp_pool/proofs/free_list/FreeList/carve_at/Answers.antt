use Rattle.std.proofs.Common.{◌∙◌, sym}
use Rattle.grasp_pool.proofs.Splitting.{CanSplit}
use Rattle.grasp_pool.proofs.TakingAt.{found_around, can_split}
use Rattle.grasp_pool.proofs.free_list.FreeList.carve_at.Goals as goal

pub take_out-requires : goal.take_out-requires
take_out-requires c = (found_around c.args.self.now c.args.prefix c.in-Some.whole c.requires.tidy c.address-address.ensures.valid (sym c.around.ensures ∙ c.in-Some.is)).has

can : (c : goal.After-split_to-arg-1) → CanSplit c.take_out.new.self c.in-Some.whole c.args.prefix
can c = can_split c.args.self.now c.take_out.new.self c.args.prefix c.in-Some.whole c.requires.tidy c.requires.room c.address-address.ensures.valid
    (found_around c.args.self.now c.args.prefix c.in-Some.whole c.requires.tidy c.address-address.ensures.valid (sym c.around.ensures ∙ c.in-Some.is)) c.take_out.ensures

pub split_to-requires-clause-tidy : goal.split_to-requires-clause-tidy
split_to-requires-clause-tidy c = (can c).tidy

pub split_to-requires-clause-room : goal.split_to-requires-clause-room
split_to-requires-clause-room c = (can c).room

pub split_to-requires-clause-apart : goal.split_to-requires-clause-apart
split_to-requires-clause-apart c = (can c).apart
