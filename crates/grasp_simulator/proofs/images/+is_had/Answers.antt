use Rattle.std.proofs.Common.{rules, refl, ◌≡◌, ◌+◌, ◌-◌, ◌<◌, ap, sym, subst, arith}
use Rattle.grasp_pool.proofs.Meeting.{false_misses}
use Rattle.grasp_types.specs.Prefix.{AddressBlock as Prefix}
use Rattle.grasp_simulator.specs.Images.{IsToBeHad}
use Rattle.grasp_simulator.proofs.ImageParts.{never, is_short, lower_had, upper_had, both_had}
use Rattle.grasp_simulator.proofs.images.+is_had.Goals as goal

pub halves_of-halves-requires-clause-short : goal.halves_of-halves-requires-clause-short
halves_of-halves-requires-clause-short t c = is_short c.args.prefix c.length.result c.is_wholly_had.ensures.valid c.length.ensures.value c.if-length.false

pub is_had-requires : goal.is_had-requires
is_had-requires t c =
    let short : c.args.prefix.length < 128 = is_short c.args.prefix c.length.result c.is_wholly_had.ensures.valid c.length.ensures.value c.if-length.false in
    let longer : c.halves_of-halves.result.lower.length ≡ c.args.prefix.length + 1 = ap (λ (p : Prefix). p.length) c.halves_of-halves.ensures.lower in
    let less : 128 - c.halves_of-halves.result.lower.length < 128 - c.args.prefix.length = omega arith in
    (search rules, tt)

pub is_had-requires-2 : goal.is_had-requires-2
is_had-requires-2 t c =
    let short : c.args.prefix.length < 128 = is_short c.args.prefix c.length.result c.is_wholly_had.ensures.valid c.length.ensures.value c.if-length.false in
    let longer : c.halves_of-halves.result.upper.length ≡ c.args.prefix.length + 1 = ap (λ (p : Prefix). p.length) c.halves_of-halves.ensures.upper in
    let less : 128 - c.halves_of-halves.result.upper.length < 128 - c.args.prefix.length = omega arith in
    (search rules, tt)

pub returns-then-is_wholly_had : goal.returns-then-is_wholly_had
returns-then-is_wholly_had t c = (λ e. c.is_wholly_had.ensures.had c.if-is_wholly_had.true, λ h. refl)

pub returns-then-length : goal.returns-then-length
returns-then-length t c = never (λ h. false_misses c.is_wholly_had.result c.if-is_wholly_had.false (c.is_wholly_had.ensures.one (search rules) h))

pub returns-then-not-is_had : goal.returns-then-not-is_had
returns-then-not-is_had t c =
    never
    (λ h.
    false_misses c.is_had.result c.if-not-is_had.true
    (c.is_had.ensures.1
    (subst (IsToBeHad c.args.agent.now) (sym c.halves_of-halves.ensures.lower)
    (lower_had c.args.agent.now c.args.prefix (is_short c.args.prefix c.length.result c.is_wholly_had.ensures.valid c.length.ensures.value c.if-length.false) h))))

pub returns : goal.returns
returns t c = (
  λ e.
      both_had c.args.agent.now c.args.prefix (is_short c.args.prefix c.length.result c.is_wholly_had.ensures.valid c.length.ensures.value c.if-length.false)
      (subst (IsToBeHad c.args.agent.now) c.halves_of-halves.ensures.lower (c.is_had.ensures.0 c.if-not-is_had.false)) (subst (IsToBeHad c.args.agent.now) c.halves_of-halves.ensures.upper (c.is_had-2.ensures.0 e)),
  λ h.
      c.is_had-2.ensures.1
      (subst (IsToBeHad c.args.agent.now) (sym c.halves_of-halves.ensures.upper)
      (upper_had c.args.agent.now c.args.prefix (is_short c.args.prefix c.length.result c.is_wholly_had.ensures.valid c.length.ensures.value c.if-length.false) h)),
)
