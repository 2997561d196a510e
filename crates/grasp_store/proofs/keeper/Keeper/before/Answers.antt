use Rattle.std.proofs.Common.{◌≡◌, ◌≤◌, ◌<◌, ◌+◌, ◌∙◌, Some, Contains, ap, length, refl, subst, sym, true}
use Rattle.std.specs.Prelude.{IsErrOf, OnOk}
use Rattle.grasp_pool.specs.Canonical.{IsRising}
use Rattle.grasp_pool.specs.Functions.{can_gain}
use Rattle.grasp_pool.specs.Spans.{IsValid}
use Rattle.grasp_pool.specs.declared.image.PoolImage.{PoolImage}
use Rattle.grasp_agent.specs.States.{accepted_by}
use Rattle.grasp_store.specs.Images.{IsGoodImage, image_of, with_doubt}
use Rattle.grasp_store.specs.Keeping.{KeeperState}
use Rattle.grasp_store.specs.declared.fault.KeepFault.TheVariants as keep_fault
use Rattle.grasp_store.proofs.Images.{doubt_good, doubt_new, doubt_room, listed_joined}
use Rattle.grasp_store.proofs.Keepers.{FailsBefore, SavesBefore, accepted_gains, failed_before, keeper_of, nothing_before, saved_before, saved_parts}
use Rattle.grasp_store.proofs.keeper.Keeper.before.Goals as goal

pub returns-in_default-clause-done : goal.returns-in_default-clause-done
returns-in_default-clause-done g c = nothing_before g.D.Disk.stands g.D.Disk.faults c.args.self.now c.args.self.now c.args.agent.now refl (sym c.accepting.ensures ∙ c.in_default.is)

pub add_doubt-requires-clause-rising : goal.add_doubt-requires-clause-rising
add_doubt-requires-clause-rising g c =
    let same : c.copy_pool.new.self ≡ image_of c.args.agent.now.pool = c.copy_pool.ensures ∙ ap image_of c.pool.ensures.pool
    in subst (λ (i : PoolImage). IsRising i.doubtful) (sym same) (listed_joined c.args.agent.now.pool c.pool.ensures.kept.pool).rising

pub add_doubt-requires-clause-room : goal.add_doubt-requires-clause-room
add_doubt-requires-clause-room g c =
    let same : c.copy_pool.new.self ≡ image_of c.args.agent.now.pool = c.copy_pool.ensures ∙ ap image_of c.pool.ensures.pool
    in let gains : IsValid c.in-Some.prefix × (can_gain c.args.agent.now.pool c.in-Some.prefix ≡ true)
    = accepted_gains c.args.agent.now c.pool.ensures.kept c.in-Some.prefix (sym c.accepting.ensures ∙ c.in-Some.is)
    in subst (λ (i : PoolImage). length i.doubtful < 4096) (sym same) (doubt_room c.args.agent.now.pool c.pool.ensures.kept.pool c.in-Some.prefix gains.0 gains.1)

pub add_doubt-requires-clause-is_new : goal.add_doubt-requires-clause-is_new
add_doubt-requires-clause-is_new g c = λ q has.
    let same : c.copy_pool.new.self ≡ image_of c.args.agent.now.pool = c.copy_pool.ensures ∙ ap image_of c.pool.ensures.pool
    in let gains : IsValid c.in-Some.prefix × (can_gain c.args.agent.now.pool c.in-Some.prefix ≡ true)
    = accepted_gains c.args.agent.now c.pool.ensures.kept c.in-Some.prefix (sym c.accepting.ensures ∙ c.in-Some.is)
    in doubt_new c.args.agent.now.pool c.pool.ensures.kept.pool c.in-Some.prefix gains.0 gains.1 q (subst (λ (i : PoolImage). Contains i.doubtful q) same has)

pub save-saved-requires-clause-few : goal.save-saved-requires-clause-few
save-saved-requires-clause-few g c =
    let gains : IsValid c.in-Some.prefix × (can_gain c.args.agent.now.pool c.in-Some.prefix ≡ true)
    = accepted_gains c.args.agent.now c.pool.ensures.kept c.in-Some.prefix (sym c.accepting.ensures ∙ c.in-Some.is)
    in let is : c.add_doubt.new.self ≡ with_doubt c.in-Some.prefix (image_of c.args.agent.now.pool)
    = c.add_doubt.ensures ∙ ap (with_doubt c.in-Some.prefix) (c.copy_pool.ensures ∙ ap image_of c.pool.ensures.pool)
    in subst (λ (i : PoolImage). length i.free + length i.doubtful ≤ 4096) (sym is) (doubt_good c.args.agent.now.pool c.pool.ensures.kept.pool c.in-Some.prefix gains.0 gains.1).few

pub returns-clause-done : goal.returns-clause-done
returns-clause-done g c =
    let accepts : accepted_by c.args.agent.now.act ≡ Some c.in-Some.prefix = sym c.accepting.ensures ∙ c.in-Some.is
    in let gains : IsValid c.in-Some.prefix × (can_gain c.args.agent.now.pool c.in-Some.prefix ≡ true) = accepted_gains c.args.agent.now c.pool.ensures.kept c.in-Some.prefix accepts
    in let good : IsGoodImage (with_doubt c.in-Some.prefix (image_of c.args.agent.now.pool)) = doubt_good c.args.agent.now.pool c.pool.ensures.kept.pool c.in-Some.prefix gains.0 gains.1
    in let is : c.add_doubt.new.self ≡ with_doubt c.in-Some.prefix (image_of c.args.agent.now.pool)
    = c.add_doubt.ensures ∙ ap (with_doubt c.in-Some.prefix) (c.copy_pool.ensures ∙ ap image_of c.pool.ensures.pool)
    in let old = keeper_of c.self.inside.disk c.self.inside.position c.self.inside.image c.self.inside.faulty
    in let new = keeper_of c.save-saved.new.disk c.save-saved.new.position c.save-saved.new.image c.is_err-self-inside.result
    in subst (λ (k : KeeperState g.row.D.Denot). OnOk c.save-saved.result (SavesBefore g.D.Disk.stands g.D.Disk.faults k new c.args.agent.now (accepted_by c.args.agent.now.act))) c.self.view_is
    (saved_before g.D.Disk.stands g.D.Disk.faults old new c.args.agent.now c.in-Some.prefix c.add_doubt.new.self accepts is good c.save-saved.result c.save-saved.ensures.answers c.save-saved.ensures.done
    (saved_parts c.self.inside.disk c.save-saved.new.disk c.self.inside.position c.save-saved.new.position c.self.inside.image c.save-saved.new.image c.add_doubt.new.self c.self.inside.faulty
    c.is_err-self-inside.result c.save-saved.result c.save-saved.ensures.position c.save-saved.ensures.image c.is_err-self-inside.ensures.value))

pub returns-clause-failed : goal.returns-clause-failed
returns-clause-failed g c =
    let accepts : accepted_by c.args.agent.now.act ≡ Some c.in-Some.prefix = sym c.accepting.ensures ∙ c.in-Some.is
    in let gains : IsValid c.in-Some.prefix × (can_gain c.args.agent.now.pool c.in-Some.prefix ≡ true) = accepted_gains c.args.agent.now c.pool.ensures.kept c.in-Some.prefix accepts
    in let good : IsGoodImage (with_doubt c.in-Some.prefix (image_of c.args.agent.now.pool)) = doubt_good c.args.agent.now.pool c.pool.ensures.kept.pool c.in-Some.prefix gains.0 gains.1
    in let is : c.add_doubt.new.self ≡ with_doubt c.in-Some.prefix (image_of c.args.agent.now.pool)
    = c.add_doubt.ensures ∙ ap (with_doubt c.in-Some.prefix) (c.copy_pool.ensures ∙ ap image_of c.pool.ensures.pool)
    in let old = keeper_of c.self.inside.disk c.self.inside.position c.self.inside.image c.self.inside.faulty
    in let new = keeper_of c.save-saved.new.disk c.save-saved.new.position c.save-saved.new.image c.is_err-self-inside.result
    in subst
    (λ (k : KeeperState g.row.D.Denot). IsErrOf c.save-saved.result keep_fault.DiskFault → FailsBefore g.D.Disk.stands g.D.Disk.faults k new c.args.agent.now (accepted_by c.args.agent.now.act)) c.self.view_is
    (failed_before g.D.Disk.stands g.D.Disk.faults old new c.args.agent.now c.in-Some.prefix c.add_doubt.new.self accepts is good c.save-saved.result c.save-saved.ensures.answers c.save-saved.ensures.failed)
