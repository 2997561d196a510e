use Rattle.std.proofs.Common.{◌≡◌, ◌∙◌, Bool, List, true, false, ap, subst, sym}
use Rattle.std.specs.Prelude.{MatchResult, not}
use Rattle.std.proofs.lemmas.Result.{on_ok_weaker}
use Rattle.grasp_disk.specs.Calls.{DiskCall, bytes_of}
use Rattle.grasp_store.specs.Images.{image_of, is_same_image}
use Rattle.grasp_store.specs.Keeping.{GoesOn, IsKeepFault, KeeperState, Keeps, Saves, saves_behind}
use Rattle.grasp_store.specs.Saving.{FailsIn, IsOldOrNew}
use Rattle.grasp_store.proofs.Keepers.{calls_behind, goes_same, keeper_of, nothing_behind}
use Rattle.grasp_store.proofs.keeper.Keeper.after.Goals as goal

pub returns-then-is_same-clause-done : goal.returns-then-is_same-clause-done
returns-then-is_same-clause-done g c =
    let pool = image_of c.args.agent.now.pool
    in let same : c.copy_pool.new.self ≡ image_of c.args.agent.now.pool = c.copy_pool.ensures ∙ ap image_of c.pool.ensures.pool
    in let test : is_same_image c.args.self.now.image (image_of c.args.agent.now.pool) ≡ true
    = ap (λ (k : KeeperState g.row.D.Denot). is_same_image k.image pool) (sym c.self.view_is) ∙ ap (is_same_image c.self.inside.image) (sym same) ∙ sym c.is_same.ensures ∙ c.if-is_same.true
    in nothing_behind g.D.Disk.stands g.D.Disk.faults c.args.self.now (keeper_of c.self.inside.disk c.self.inside.position c.self.inside.image c.self.inside.faulty) c.args.agent.now c.self.view_is test

pub returns-then-is_same-clause-answers : goal.returns-then-is_same-clause-answers
returns-then-is_same-clause-answers g c =
    let pool = image_of c.args.agent.now.pool
    in let same : c.copy_pool.new.self ≡ image_of c.args.agent.now.pool = c.copy_pool.ensures ∙ ap image_of c.pool.ensures.pool
    in let test : is_same_image c.args.self.now.image (image_of c.args.agent.now.pool) ≡ true
    = ap (λ (k : KeeperState g.row.D.Denot). is_same_image k.image pool) (sym c.self.view_is) ∙ ap (is_same_image c.self.inside.image) (sym same) ∙ sym c.is_same.ensures ∙ c.if-is_same.true
    in goes_same c.args.self.now c.args.agent.now c.in_ok-going.ensures test

-- the image isn't current
differs : (g : Rattle.grasp_store.proofs.keeper.Keeper.after.Given.Over) (c : goal.After-save g) → is_same_image c.args.self.now.image (image_of c.args.agent.now.pool) ≡ false
differs g c =
    let same : c.copy_pool.new.self ≡ image_of c.args.agent.now.pool = c.copy_pool.ensures ∙ ap image_of c.pool.ensures.pool
    in ap (λ (k : KeeperState g.row.D.Denot). is_same_image k.image (image_of c.args.agent.now.pool)) (sym c.self.view_is) ∙ ap (is_same_image c.self.inside.image) (sym same) ∙ sym c.is_same.ensures ∙ c.if-is_same.false

pub returns-clause-done : goal.returns-clause-done
returns-clause-done g c =
    on_ok_weaker c.save.result
    (λ saves roots log keeps.
    subst (λ (calls : List DiskCall). Saves g.D.Disk.stands roots c.save.new.self log calls (image_of c.args.agent.now.pool))
    (sym (calls_behind g.D.Disk.stands g.D.Disk.faults c.args.self.now c.save.new.self c.args.agent.now (differs g c) roots log keeps))
    (saves roots log (subst (λ (k : KeeperState g.row.D.Denot). Keeps g.D.Disk.stands roots k log) (sym c.self.view_is) keeps)))
    c.save.ensures.done

pub returns-clause-failed : goal.returns-clause-failed
returns-clause-failed g c = λ failed roots log keeps.
    subst (λ (calls : List DiskCall). FailsIn (g.D.Disk.stands c.save.new.self.disk) log calls (IsOldOrNew (bytes_of log) (image_of c.args.agent.now.pool)))
    (sym (calls_behind g.D.Disk.stands g.D.Disk.faults c.args.self.now c.save.new.self c.args.agent.now (differs g c) roots log keeps))
    (c.save.ensures.failed failed roots log (subst (λ (k : KeeperState g.row.D.Denot). Keeps g.D.Disk.stands roots k log) (sym c.self.view_is) keeps))

pub returns-clause-answers : goal.returns-clause-answers
returns-clause-answers g c =
    let old = keeper_of c.self.inside.disk c.self.inside.position c.self.inside.image c.self.inside.faulty
    in subst
    (λ (k : KeeperState g.row.D.Denot). MatchResult c.save.result (λ _. GoesOn k (saves_behind c.args.self.now.image c.args.agent.now))
    (λ fault. IsKeepFault g.D.Disk.faults k c.save.new.self (saves_behind c.args.self.now.image c.args.agent.now) fault)) c.self.view_is
    (subst (λ (b : Bool). MatchResult c.save.result (λ _. GoesOn old b) (λ fault. IsKeepFault g.D.Disk.faults old c.save.new.self b fault)) (sym (ap not (differs g c))) c.save.ensures.answers)
