use Rattle.std.proofs.Common.{◌∙◌, List, sym, subst}
use Rattle.grasp_types.specs.Prefix.{AddressBlock as Prefix}
use Rattle.grasp_pool.specs.Parts.{ArePairwiseApart, IsAnswer}
use Rattle.grasp_pool.proofs.TakingAt.{meeting_is}
use Rattle.grasp_pool.proofs.free_list.FreeList.meeting.Goals as goal

pub first_overlap-requires-clause-apart : goal.first_overlap-requires-clause-apart
first_overlap-requires-clause-apart c = subst ArePairwiseApart (sym (c.deref.ensures.value ∙ c.self.view_is)) c.requires.clean.apart

pub returns : goal.returns
returns c = meeting_is c.args.self.now c.args.prefix c.requires.rising c.first_overlap.result
    (subst (λ (xs : List Prefix). IsAnswer xs c.args.prefix c.first_overlap.result) (c.deref.ensures.value ∙ c.self.view_is) c.first_overlap.ensures)
