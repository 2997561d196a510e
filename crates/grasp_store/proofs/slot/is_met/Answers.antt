use Rattle.std.proofs.Common.{rules, arith, refl, ◌≤◌}
use Rattle.grasp_pool.proofs.Meeting.{false_misses}
use Rattle.grasp_store.proofs.Entries.{apart_more, met_at, valid_first}
use Rattle.grasp_store.proofs.slot.is_met.Goals as goal

pub unreachable-requires : goal.unreachable-requires
unreachable-requires c = c.in_default.ensures.none (valid_first c.args.bytes.now c.args.count c.loop-i.i c.requires.valid c.loop-i-test.true)

pub returns-then-overlaps : goal.returns-then-overlaps
returns-then-overlaps c = (
  λ e. absurd (false_misses _ e refl),
  λ apart. absurd (met_at c.args.bytes.now c.args.prefix c.in-Some.earlier c.loop-i.i c.args.count c.in-Some.ensures.some c.loop-i-test.true (c.overlaps.ensures.0 c.if-overlaps.true) apart),
)

pub loop-i-preserved : goal.loop-i-preserved
loop-i-preserved c =
    apart_more c.args.bytes.now c.args.prefix c.in-Some.earlier c.loop-i.i c.in-Some.ensures.some (λ m. false_misses c.overlaps.result c.if-overlaps.false (c.overlaps.ensures.1 m)) c.loop-i.invariant

pub returns : goal.returns
returns c =
    let past : c.args.count ≤ c.loop-i.i = search rules
    in (λ e k lt. c.loop-i.invariant k (omega (arith, past, lt)), λ apart. refl)
