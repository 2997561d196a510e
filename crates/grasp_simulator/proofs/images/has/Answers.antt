use Rattle.std.proofs.Common.{rules, refl, sym, ◌∙◌}
use Rattle.std.proofs.lemmas.Bool.{true≢false}
use Rattle.grasp_laws_network.proofs.Offers.{prefix_itself, same_prefix}
use Rattle.grasp_simulator.proofs.ImageParts.{never, none_more, none_has, has_at}
use Rattle.grasp_simulator.proofs.images.has.Goals as goal

pub loop-other-preserved : goal.loop-other-preserved
loop-other-preserved c =
    none_more c.args.prefixes.now c.args.prefix c.other-item.result c.loop-other.other-index c.loop-other-test.true c.other-item.is c.loop-other.invariant
    (λ same. true≢false (sym (prefix_itself c.other-item.result c.args.prefix same) ∙ (sym c.eq.ensures ∙ c.if-eq.false)))

pub returns-then-eq : goal.returns-then-eq
returns-then-eq c = (
  λ t. has_at c.args.prefixes.now c.args.prefix c.other-item.result c.loop-other.other-index c.loop-other-test.true c.other-item.is (same_prefix c.other-item.result c.args.prefix (sym c.eq.ensures ∙ c.if-eq.true)),
  λ h. refl,
)

pub returns : goal.returns
returns c = never (none_has c.args.prefixes.now c.args.prefix c.loop-other.other-index (search rules) c.loop-other.invariant)
