use Rattle.std.proofs.Common.{rules, refl, subst}
use Rattle.grasp_pool.proofs.Meeting.{false_misses}
use Rattle.grasp_pool.specs.Holdings.{Holding}
use Rattle.std.proofs.Common.{slice_get, ◌∙◌, ap}
use Rattle.grasp_simulator.specs.Images.{IsAmong}
use Rattle.grasp_simulator.proofs.ImageParts.{never, left_more, left_all, among_left}
use Rattle.grasp_simulator.proofs.images.has_all_left.Goals as goal

pub loop-i-preserved : goal.loop-i-preserved
loop-i-preserved c =
    left_more c.args.agent.now c.args.prefixes.now c.loop-i.i c.loop-i.invariant
    (subst (IsAmong c.args.agent.now c.args.prefixes.now) (c.reserved.ensures.at ∙ ap (λ (h : Holding). slice_get h.reserved c.loop-i.i) c.pool-pool.ensures.pool) (c.is_among.ensures.0 c.if-not-is_among.false))
    (subst (IsAmong c.args.agent.now c.args.prefixes.now) (c.doubtful.ensures.at ∙ ap (λ (h : Holding). slice_get h.doubtful c.loop-i.i) c.pool-pool.ensures.pool) (c.is_among-in-loop-i.ensures.0 c.if-not-is_among-2.false))

pub returns-then-not-is_among : goal.returns-then-not-is_among
returns-then-not-is_among c =
    never (λ all. false_misses c.is_among.result c.if-not-is_among.true (c.is_among.ensures.1 (among_left c.args.agent.now c.args.prefixes.now c.reserved.result all)))

pub returns-then-not-is_among-2 : goal.returns-then-not-is_among-2
returns-then-not-is_among-2 c =
    never (λ all. false_misses c.is_among-in-loop-i.result c.if-not-is_among-2.true (c.is_among-in-loop-i.ensures.1 (among_left c.args.agent.now c.args.prefixes.now c.doubtful.result all)))

pub returns : goal.returns
returns c = (λ t. left_all c.args.agent.now c.args.prefixes.now c.loop-i.i c.pool-pool.ensures.kept (search rules) c.loop-i.invariant, λ all. refl)
