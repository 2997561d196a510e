use Rattle.std.proofs.Common.{◌≡◌, ◌≤◌, ◌+◌, ◌∙◌, ap, length, subst, sym}
use Rattle.std.specs.Prelude.{IsErrOf, OnOk}
use Rattle.grasp_pool.specs.declared.image.PoolImage.{PoolImage}
use Rattle.grasp_store.specs.Images.{IsGoodImage, image_of}
use Rattle.grasp_store.specs.Keeping.{KeeperState}
use Rattle.grasp_store.specs.declared.fault.KeepFault.TheVariants as keep_fault
use Rattle.grasp_store.proofs.Images.{image_good}
use Rattle.grasp_store.proofs.Keepers.{FailsAlways, SavesAlways, fails_by, keeper_of, saved_parts, saves_by}
use Rattle.grasp_store.proofs.keeper.Keeper.save.Goals as goal

pub save-saved-requires-clause-few : goal.save-saved-requires-clause-few
save-saved-requires-clause-few g c =
    let same : c.copy_pool.new.self ≡ image_of c.args.agent.now.pool = c.copy_pool.ensures ∙ ap image_of c.pool.ensures.pool
    in subst (λ (i : PoolImage). length i.free + length i.doubtful ≤ 4096) (sym same) (image_good c.args.agent.now.pool c.pool.ensures.kept.pool).few

pub returns-clause-done : goal.returns-clause-done
returns-clause-done g c =
    let same : c.copy_pool.new.self ≡ image_of c.args.agent.now.pool = c.copy_pool.ensures ∙ ap image_of c.pool.ensures.pool
    in let good : IsGoodImage c.copy_pool.new.self = subst IsGoodImage (sym same) (image_good c.args.agent.now.pool c.pool.ensures.kept.pool)
    in let old = keeper_of c.self.inside.disk c.self.inside.position c.self.inside.image c.self.inside.faulty
    in let new = keeper_of c.save-saved.new.disk c.save-saved.new.position c.save-saved.new.image c.is_err-self-inside.result
    in subst (λ (k : KeeperState g.row.D.Denot). OnOk c.save-saved.result (SavesAlways g.D.Disk.stands g.D.Disk.faults k new (image_of c.args.agent.now.pool))) c.self.view_is
    (subst (λ (i : PoolImage). OnOk c.save-saved.result (SavesAlways g.D.Disk.stands g.D.Disk.faults old new i)) same
    (saves_by g.D.Disk.stands g.D.Disk.faults old new c.copy_pool.new.self good c.save-saved.result c.save-saved.ensures.answers c.save-saved.ensures.done
    (saved_parts c.self.inside.disk c.save-saved.new.disk c.self.inside.position c.save-saved.new.position c.self.inside.image c.save-saved.new.image c.copy_pool.new.self c.self.inside.faulty
    c.is_err-self-inside.result c.save-saved.result c.save-saved.ensures.position c.save-saved.ensures.image c.is_err-self-inside.ensures.value)))

pub returns-clause-failed : goal.returns-clause-failed
returns-clause-failed g c =
    let same : c.copy_pool.new.self ≡ image_of c.args.agent.now.pool = c.copy_pool.ensures ∙ ap image_of c.pool.ensures.pool
    in let good : IsGoodImage c.copy_pool.new.self = subst IsGoodImage (sym same) (image_good c.args.agent.now.pool c.pool.ensures.kept.pool)
    in let old = keeper_of c.self.inside.disk c.self.inside.position c.self.inside.image c.self.inside.faulty
    in let new = keeper_of c.save-saved.new.disk c.save-saved.new.position c.save-saved.new.image c.is_err-self-inside.result
    in subst (λ (k : KeeperState g.row.D.Denot). IsErrOf c.save-saved.result keep_fault.DiskFault → FailsAlways g.D.Disk.stands g.D.Disk.faults k new (image_of c.args.agent.now.pool)) c.self.view_is
    (subst (λ (i : PoolImage). IsErrOf c.save-saved.result keep_fault.DiskFault → FailsAlways g.D.Disk.stands g.D.Disk.faults old new i) same
    (fails_by g.D.Disk.stands g.D.Disk.faults old new c.copy_pool.new.self good c.save-saved.result c.save-saved.ensures.answers c.save-saved.ensures.failed))
