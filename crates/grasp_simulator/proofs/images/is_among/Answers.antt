use Rattle.std.proofs.Common.{refl, sym, subst, ◌∙◌}
use Rattle.std.proofs.lemmas.Bool.{true≢false}
use Rattle.grasp_simulator.specs.Images.{IsAmong}
use Rattle.grasp_simulator.proofs.images.is_among.Goals as goal

pub returns-then-not-is_left : goal.returns-then-not-is_left
returns-then-not-is_left c = (
  λ t. subst (IsAmong c.args.agent.now c.args.prefixes.now) (sym c.in-Some.is) (λ is. absurd (true≢false (sym is ∙ (sym c.is_left.ensures ∙ c.if-not-is_left.true)))),
  λ m. refl,
)

pub returns : goal.returns
returns c = (
  λ t. subst (IsAmong c.args.agent.now c.args.prefixes.now) (sym c.in-Some.is) (λ is. c.has.ensures.0 t),
  λ m. c.has.ensures.1 (subst (IsAmong c.args.agent.now c.args.prefixes.now) c.in-Some.is m (sym c.is_left.ensures ∙ c.if-not-is_left.false)),
)
