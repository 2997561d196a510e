use Rattle.std.proofs.Common.{refl, sym, ap, subst, ℕ, slice_set}
use Rattle.std.specs.Vec.{with_item}
use Rattle.grasp_model_network.specs.declared.event.Event.{Event}
use Rattle.grasp_model_network.specs.declared.event.Event.TheVariants as event
use Rattle.grasp_kept.specs.Stands.{CanCrash, Happens}
use Rattle.grasp_kept.specs.declared.kept_world.KeptWorld.{KeptWorld}
use Rattle.grasp_kept.proofs.Worlds.{call_happens, can_tell, got, has_keeper, named, quiet_disks, quiet_happens, return_happens, want_happens}
use Rattle.grasp_kept.proofs.kept_world.KeptWorld.happen.Goals as goal

pub call-requires : goal.call-requires
call-requires c =
    let self : KeptWorld = c.args.self.now in
    let node : ℕ = c.in-Agent.node in
    let here : CanCrash self node = named self c.args.event (event.Agent node c.in-Agent.hold) c.in-Agent.is c.requires node (λ s w fit. fit) in
    has_keeper self node here c.index_mut.result.now (got self node here c.from.result c.from.ensures c.index_mut.result.now c.index_mut.ensures.value)

pub returns-in-Agent-clause-happens : goal.returns-in-Agent-clause-happens
returns-in-Agent-clause-happens c =
    let self : KeptWorld = c.args.self.now in
    let node : ℕ = c.in-Agent.node in
    let here : CanCrash self node = named self c.args.event (event.Agent node c.in-Agent.hold) c.in-Agent.is c.requires node (λ s w fit. fit) in
    let new : KeptWorld = record self { world = c.call.new.world; keepers = with_item self.keepers c.from.result c.call.new.keeper } in
    subst (λ (e : Event). Happens self new e c.call.result) (sym c.in-Agent.is)
    (call_happens self new refl node c.index_mut.result.now c.call.new.keeper (got self node here c.from.result c.from.ensures c.index_mut.result.now c.index_mut.ensures.value)
    (ap (λ (n : ℕ). slice_set self.keepers.items n c.call.new.keeper) c.from.ensures) c.in-Agent.hold c.call.result c.call.ensures)

pub tell-requires : goal.tell-requires
tell-requires c =
    let self : KeptWorld = c.args.self.now in
    let node : ℕ = c.in-Want.node in
    let e : Event = event.Want node c.in-Want.length c.in-Want.longest c.in-Want.peer in
    let here : CanCrash self node = named self c.args.event e c.in-Want.is c.requires node (λ s w fit. fit.0) in
    can_tell self c.args.event e c.in-Want.is c.requires node (λ s w fit. fit.0) c.index_mut-in-Want.result.now
    (got self node here c.from-in-Want.result c.from-in-Want.ensures c.index_mut-in-Want.result.now c.index_mut-in-Want.ensures.value)

pub returns-in-Want-clause-happens : goal.returns-in-Want-clause-happens
returns-in-Want-clause-happens c =
    let self : KeptWorld = c.args.self.now in
    let node : ℕ = c.in-Want.node in
    let e : Event = event.Want node c.in-Want.length c.in-Want.longest c.in-Want.peer in
    let here : CanCrash self node = named self c.args.event e c.in-Want.is c.requires node (λ s w fit. fit.0) in
    let new : KeptWorld = record self { world = c.tell.new.world; keepers = with_item self.keepers c.from-in-Want.result c.tell.new.keeper } in
    subst (λ (f : Event). Happens self new f c.tell.result) (sym c.in-Want.is)
    (want_happens self new refl node c.index_mut-in-Want.result.now c.tell.new.keeper
    (got self node here c.from-in-Want.result c.from-in-Want.ensures c.index_mut-in-Want.result.now c.index_mut-in-Want.ensures.value)
    (ap (λ (n : ℕ). slice_set self.keepers.items n c.tell.new.keeper) c.from-in-Want.ensures) c.in-Want.length c.in-Want.longest c.in-Want.peer c.tell.result c.tell.ensures)

pub tell-requires-in-Return : goal.tell-requires-in-Return
tell-requires-in-Return c =
    let self : KeptWorld = c.args.self.now in
    let node : ℕ = c.in-Return.node in
    let e : Event = event.Return node c.in-Return.prefix c.in-Return.peer in
    let here : CanCrash self node = named self c.args.event e c.in-Return.is c.requires node (λ s w fit. fit.0) in
    can_tell self c.args.event e c.in-Return.is c.requires node (λ s w fit. fit.0) c.index_mut-in-Return.result.now
    (got self node here c.from-in-Return.result c.from-in-Return.ensures c.index_mut-in-Return.result.now c.index_mut-in-Return.ensures.value)

pub returns-in-Return-clause-happens : goal.returns-in-Return-clause-happens
returns-in-Return-clause-happens c =
    let self : KeptWorld = c.args.self.now in
    let node : ℕ = c.in-Return.node in
    let e : Event = event.Return node c.in-Return.prefix c.in-Return.peer in
    let here : CanCrash self node = named self c.args.event e c.in-Return.is c.requires node (λ s w fit. fit.0) in
    let new : KeptWorld = record self { world = c.tell-in-Return.new.world; keepers = with_item self.keepers c.from-in-Return.result c.tell-in-Return.new.keeper } in
    subst (λ (f : Event). Happens self new f c.tell-in-Return.result) (sym c.in-Return.is)
    (return_happens self new refl node c.index_mut-in-Return.result.now c.tell-in-Return.new.keeper
    (got self node here c.from-in-Return.result c.from-in-Return.ensures c.index_mut-in-Return.result.now c.index_mut-in-Return.ensures.value)
    (ap (λ (n : ℕ). slice_set self.keepers.items n c.tell-in-Return.new.keeper) c.from-in-Return.ensures) c.in-Return.prefix c.in-Return.peer c.tell-in-Return.result c.tell-in-Return.ensures)

pub returns-in_default-clause-happens : goal.returns-in_default-clause-happens
returns-in_default-clause-happens c =
    let self : KeptWorld = c.args.self.now in
    quiet_happens self (record self { world = c.step.new.self }) c.args.event
    (quiet_disks c.args.event (λ node hold. c.in_default.not-Agent node hold) (λ node length longest peer. c.in_default.not-Want node length longest peer) (λ node prefix peer. c.in_default.not-Return node prefix peer))
    refl refl c.step.result c.step.ensures
