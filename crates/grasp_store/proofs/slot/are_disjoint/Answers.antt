use Rattle.std.proofs.Common.{refl, subst, sym}
use Rattle.grasp_types.specs.Prefix.{AddressBlock as Prefix}
use Rattle.grasp_pool.proofs.Meeting.{false_misses}
use Rattle.grasp_store.specs.Reading.{EntriesApart}
use Rattle.grasp_store.proofs.Entries.{disjoint_one_more}
use Rattle.grasp_store.proofs.slot.are_disjoint.Goals as goal

pub returns-then-is_met : goal.returns-then-is_met
returns-then-is_met c = (
  λ e. absurd (false_misses _ refl e),
  λ d. absurd (false_misses c.is_met.result (c.is_met.ensures.1 (subst (λ (p : Prefix). EntriesApart c.args.bytes.now p c.loop-i.i) (sym c.in-Some.ensures.some) (d.apart c.loop-i.i c.loop-i-test.true)))
      c.if-is_met.true),
)

pub loop-i-preserved : goal.loop-i-preserved
loop-i-preserved c =
    disjoint_one_more c.args.bytes.now c.loop-i.i c.in-Some.prefix c.in-Some.ensures.some c.in-Some.ensures.valid (c.is_met.ensures.0 c.if-is_met.false) c.loop-i.invariant
