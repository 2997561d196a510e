use Rattle.std.proofs.Common.{length}
use Rattle.grasp_script.proofs.Members.{MembersRead}
use Rattle.grasp_script.proofs.opening.told_members.Given as goal

abbrev pub invariant-loop-word : goal.invariant-loop-word
invariant-loop-word l = MembersRead l.nodes l.fn.words l.words l.members

abbrev pub decreases-loop-word : goal.decreases-loop-word
decreases-loop-word l = length l.words
