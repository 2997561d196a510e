use Rattle.std.proofs.Common.{rules, arith, ◌≡◌, ◌+◌, ◌∙◌, subst, ℕ, List}
use Rattle.grasp_pool.specs.declared.roots.RootPrefix.{RootPrefix}
use Rattle.grasp_kept.specs.Disks.{AreOpenedTo}
use Rattle.grasp_kept.specs.Opening.{KeepsOpened}
use Rattle.grasp_kept.proofs.Openings.{can_open_empty, disks_open, keepers_more, roots_given, taken_empty}
use Rattle.grasp_kept.proofs.kept_world.open_disks.Goals as goal

pub loop-before-init : goal.loop-before-init
loop-before-init c = disks_open c.args.plan.now c.new-keepers.result.items c.args.disks c.into_vec-disks.result.items (search rules) c.requires.disks c.into_vec-disks.ensures

pub unreachable-requires : goal.unreachable-requires
unreachable-requires c = omega (arith, c.in_default.ensures.cases.0, c.loop-before.invariant.2, c.loop-before-test.true, c.loop-before.disks.ok.0)

pub open_disk-requires-clause-can : goal.open_disk-requires-clause-can
open_disk-requires-clause-can c = can_open_empty c.in-Some.disk (taken_empty c.loop-before.disks.items c.pop.new.self.items c.in-Some.disk c.loop-before.invariant.1 c.in-Some.ensures.items)

pub open_disk-requires-clause-roots : goal.open_disk-requires-clause-roots
open_disk-requires-clause-roots c = roots_given c.args.plan.now (c.loop-before.before + 1) c.deref.result.now c.requires.good (c.deref.ensures.value ∙ c.in_ok-roots.ensures)

pub loop-before-preserved : goal.loop-before-preserved
loop-before-preserved c =
    keepers_more c.args.plan.now c.loop-before.before c.loop-before.keepers.items c.push.new.self.items c.in_ok-open_disk.field-0 c.loop-before.disks.items c.pop.new.self.items c.in-Some.disk
    c.loop-before.invariant c.in-Some.ensures.items c.in_ok-push.ensures.items
    (subst (λ (r : List RootPrefix). KeepsOpened r c.in-Some.disk c.in_ok-open_disk.field-0) (c.deref.ensures.value ∙ c.in_ok-roots.ensures) c.in_ok-open_disk.ensures)

pub returns : goal.returns
returns c =
    let all : c.loop-before.before ≡ c.args.plan.now.nodes = omega arith in
    subst (λ (n : ℕ). AreOpenedTo c.args.plan.now n c.loop-before.keepers.items) all c.loop-before.invariant.0
