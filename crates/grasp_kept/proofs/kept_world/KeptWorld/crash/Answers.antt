use Rattle.std.proofs.Common.{◌∙◌, refl, ap, List}
use Rattle.std.specs.List.{insert}
use Rattle.grasp_kept.specs.Keepers.{DiskKeeper}
use Rattle.grasp_kept.specs.Stands.{CanCrash}
use Rattle.grasp_kept.proofs.Worlds.{call_halts, got, has_keeper, removed_begins, removed_ends, removed_fails, roots_open}
use Rattle.grasp_kept.proofs.kept_world.KeptWorld.crash.Goals as goal

pub call_until-requires : goal.call_until-requires
call_until-requires c =
    has_keeper c.args.self.now c.args.node c.requires c.index_mut.result.now
    (got c.args.self.now c.args.node c.requires c.from-at.result c.from-at.ensures c.index_mut.result.now c.index_mut.ensures.value)

pub returns-in-Err-clause-crashes : goal.returns-in-Err-clause-crashes
returns-in-Err-clause-crashes c =
    call_halts c.args.self.now c.args.self.now c.call_until.new.world c.args.node c.args.calls c.args.left c.index_mut.result.now c.call_until.new.keeper
    (got c.args.self.now c.args.node c.requires c.from-at.result c.from-at.ensures c.index_mut.result.now c.index_mut.ensures.value) c.in-Err.stop c.in-Err.ensures

pub begin_anew-requires-clause-can : goal.begin_anew-requires-clause-can
begin_anew-requires-clause-can c =
    removed_begins c.args.self.now c.args.node c.args.calls c.args.left c.requires c.from-at.result c.from-at.ensures c.index_mut.result.now c.index_mut.ensures.value c.call_until.new.world
    c.call_until.new.keeper tt c.in-Ok-call_until.ensures c.remove-keeper.result c.remove-keeper.ensures.value c.deref.result.now (c.deref.ensures.value ∙ c.in-Ok.ensures)

pub begin_anew-requires-clause-roots : goal.begin_anew-requires-clause-roots
begin_anew-requires-clause-roots c =
    let can : CanCrash c.args.self.now c.args.node = c.requires in
    roots_open c.args.self.now can.setting can.state can.most can.fits.goes can.fits.below c.args.node can.fits.member c.deref.result.now (c.deref.ensures.value ∙ c.in-Ok.ensures)

pub returns-in-Ok-insert-clause-crashes : goal.returns-in-Ok-insert-clause-crashes
returns-in-Ok-insert-clause-crashes c =
    removed_ends c.args.self.now c.args.node c.args.calls c.args.left c.requires c.from-at.result c.from-at.ensures c.index_mut.result.now c.index_mut.ensures.value c.call_until.new.world
    c.call_until.new.keeper tt c.in-Ok-call_until.ensures c.remove-keeper.result c.remove-keeper.ensures.value c.deref.result.now (c.deref.ensures.value ∙ c.in-Ok.ensures)
    (record c.args.self.now { world = c.begin_anew.new.world; keepers = c.insert.new.self }) c.in-Ok-begin_anew.keeper c.in-Ok-begin_anew.image refl
    (c.in-Ok-insert.ensures.items ∙ ap (λ (l : List DiskKeeper). insert l c.from-at.result c.in-Ok-begin_anew.keeper) c.remove-keeper.ensures.items) c.in-Ok-begin_anew.ensures

pub returns-clause-crashes : goal.returns-clause-crashes
returns-clause-crashes c =
    removed_fails c.args.self.now c.args.node c.args.calls c.args.left c.requires c.from-at.result c.from-at.ensures c.index_mut.result.now c.index_mut.ensures.value c.call_until.new.world
    c.call_until.new.keeper tt c.in-Ok-call_until.ensures c.remove-keeper.result c.remove-keeper.ensures.value c.deref.result.now (c.deref.ensures.value ∙ c.in-Ok.ensures)
    c.begin_anew.new.world c.args.self.now c.in-Err-begin_anew.stop c.in-Err-begin_anew.ensures
