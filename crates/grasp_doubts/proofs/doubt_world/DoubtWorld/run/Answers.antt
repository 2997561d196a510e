use Rattle.std.proofs.Common.{refl, sym, ap, subst, Ok, Err, ℕ, slice_set}
use Rattle.std.specs.Vec.{with_item}
use Rattle.grasp_model_doubts.specs.declared.event.DoubtEvent.{DoubtEvent}
use Rattle.grasp_model_doubts.specs.declared.report.DoubtReport.TheVariants as report
use Rattle.grasp_doubts.specs.Stands.{DoubtRuns}
use Rattle.grasp_doubts.specs.declared.doubt_world.DoubtWorld.{DoubtWorld}
use Rattle.grasp_doubts.proofs.Steps.{plain_can, plain_halts, plain_runs}
use Rattle.grasp_doubts.proofs.Worlds.{HasMember, ask_member, ask_runs, doubter_member, doubter_runs, doubter_stops, got, has_doubter}
use Rattle.grasp_doubts.proofs.doubt_world.DoubtWorld.run.Goals as goal

pub happen-requires : goal.happen-requires
happen-requires c = plain_can c.args.self.now c.in-Plain.event c.args.event c.in-Plain.is c.requires

pub returns-in-Ok-clause-runs : goal.returns-in-Ok-clause-runs
returns-in-Ok-clause-runs c = plain_runs c.args.self.now c.happen.new.self c.in-Plain.event c.args.event c.in-Plain.is c.in-Ok.report c.in-Ok.ensures.happens

pub returns-in-Err-clause-runs : goal.returns-in-Err-clause-runs
returns-in-Err-clause-runs c = plain_halts c.args.self.now c.happen.new.self c.in-Plain.event c.args.event c.in-Plain.is c.in-Err.stop c.in-Err.ensures.happens

pub call_doubter-requires : goal.call_doubter-requires
call_doubter-requires c =
    let self : DoubtWorld = c.args.self.now in
    let node : ℕ = c.in-Doubter.node in
    let here : HasMember self node = doubter_member self c.args.event node c.in-Doubter.is c.requires in
    has_doubter self node here c.index_mut.result.now (got self node here c.from.result c.from.ensures c.index_mut.result.now c.index_mut.ensures.value)

pub returns-in-Ok-call_doubter-clause-runs : goal.returns-in-Ok-call_doubter-clause-runs
returns-in-Ok-call_doubter-clause-runs c =
    let self : DoubtWorld = c.args.self.now in
    let node : ℕ = c.in-Doubter.node in
    let here : HasMember self node = doubter_member self c.args.event node c.in-Doubter.is c.requires in
    let new : DoubtWorld = record self { world = c.call_doubter.new.world; doubters = with_item self.doubters c.from.result c.call_doubter.new.doubter } in
    subst (λ (e : DoubtEvent). DoubtRuns self new e (Ok (report.Plain c.in-Ok-call_doubter.report))) (sym c.in-Doubter.is)
    (doubter_runs self new node c.index_mut.result.now c.call_doubter.new.doubter (got self node here c.from.result c.from.ensures c.index_mut.result.now c.index_mut.ensures.value)
    (ap (λ (n : ℕ). slice_set self.doubters.items n c.call_doubter.new.doubter) c.from.ensures) c.in-Ok-call_doubter.report c.in-Ok-call_doubter.ensures)

pub returns-in-Err-call_doubter-clause-runs : goal.returns-in-Err-call_doubter-clause-runs
returns-in-Err-call_doubter-clause-runs c =
    let self : DoubtWorld = c.args.self.now in
    let node : ℕ = c.in-Doubter.node in
    let here : HasMember self node = doubter_member self c.args.event node c.in-Doubter.is c.requires in
    let new : DoubtWorld = record self { world = c.call_doubter.new.world; doubters = with_item self.doubters c.from.result c.call_doubter.new.doubter } in
    subst (λ (e : DoubtEvent). DoubtRuns self new e (Err c.in-Err-call_doubter.stop)) (sym c.in-Doubter.is)
    (doubter_stops self new node c.index_mut.result.now c.call_doubter.new.doubter (got self node here c.from.result c.from.ensures c.index_mut.result.now c.index_mut.ensures.value)
    (ap (λ (n : ℕ). slice_set self.doubters.items n c.call_doubter.new.doubter) c.from.ensures) c.in-Err-call_doubter.stop c.in-Err-call_doubter.ensures)

pub ask-requires : goal.ask-requires
ask-requires c =
    let self : DoubtWorld = c.args.self.now in
    let node : ℕ = c.in-Ask.node in
    let here : HasMember self node = ask_member self c.args.event node c.in-Ask.prefix c.in-Ask.peer c.in-Ask.is c.requires in
    has_doubter self node here c.index_mut-in-Ask.result.now (got self node here c.from-in-Ask.result c.from-in-Ask.ensures c.index_mut-in-Ask.result.now c.index_mut-in-Ask.ensures.value)

pub returns-in-Ask-clause-runs : goal.returns-in-Ask-clause-runs
returns-in-Ask-clause-runs c =
    let self : DoubtWorld = c.args.self.now in
    let node : ℕ = c.in-Ask.node in
    let here : HasMember self node = ask_member self c.args.event node c.in-Ask.prefix c.in-Ask.peer c.in-Ask.is c.requires in
    let new : DoubtWorld = record self { doubters = with_item self.doubters c.from-in-Ask.result c.ask.new.doubter } in
    subst (λ (e : DoubtEvent). DoubtRuns self new e (Ok (report.Ask c.ask.result))) (sym c.in-Ask.is)
    (ask_runs self new node c.index_mut-in-Ask.result.now c.ask.new.doubter
    (got self node here c.from-in-Ask.result c.from-in-Ask.ensures c.index_mut-in-Ask.result.now c.index_mut-in-Ask.ensures.value)
    (ap (λ (n : ℕ). slice_set self.doubters.items n c.ask.new.doubter) c.from-in-Ask.ensures) refl c.in-Ask.prefix c.in-Ask.peer c.ask.result c.ask.ensures)
