use Rattle.std.proofs.Common.{◌≡◌, sym, ap, subst, length, arith, List}
use Rattle.grasp_pool.proofs.Meeting.{false_misses}
use Rattle.grasp_types.specs.Prefix.{AddressBlock as Prefix}
use Rattle.grasp_simulator.specs.Images.{AreToBeHad, HasAllLeft}
use Rattle.grasp_simulator.proofs.ImageParts.{never}
use Rattle.grasp_simulator.proofs.images.may_reopen.Goals as goal

pub returns-then-not-are_apart : goal.returns-then-not-are_apart
returns-then-not-are_apart c = never (λ m. false_misses c.are_apart.result c.if-not-are_apart.true (c.are_apart.ensures.1 m.disjoint))

pub returns-then-not-are_had : goal.returns-then-not-are_had
returns-then-not-are_had c =
    never (λ m. false_misses c.are_had.result c.if-not-are_had.true (c.are_had.ensures.1 (subst (AreToBeHad c.args.agent.now) (sym c.slice-free.ensures) m.free)))

pub returns : goal.returns
returns c = (
  λ t. record {
    few = let free : length c.slice-free.result.now ≡ length c.args.image.now.free = ap (λ (ps : List Prefix). length ps) c.slice-free.ensures in
        let doubtful : length c.slice-doubtful.result.now ≡ length c.args.image.now.doubtful = ap (λ (ps : List Prefix). length ps) c.slice-doubtful.ensures in
        omega arith;
    disjoint = c.are_apart.ensures.0 c.if-not-are_apart.false;
    free = subst (AreToBeHad c.args.agent.now) c.slice-free.ensures (c.are_had.ensures.0 c.if-not-are_had.false);
    doubtful = subst (HasAllLeft c.args.agent.now) c.slice-doubtful.ensures (c.has_all_left.ensures.0 t);
  },
  λ m. c.has_all_left.ensures.1 (subst (HasAllLeft c.args.agent.now) (sym c.slice-doubtful.ensures) m.doubtful),
)
