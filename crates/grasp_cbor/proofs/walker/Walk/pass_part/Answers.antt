use Rattle.std.proofs.Common.{◌≡◌, ◌≤◌, length, take, refl, subst, arith}
use Rattle.std.proofs.lemmas.List.{length-take-le, take-take}
use Rattle.grasp_cbor.specs.Bytes.{AllBytes}
use Rattle.grasp_cbor.specs.Passing.{Passed}
use Rattle.grasp_cbor.proofs.HeadBytes.{AllBytes-from, AllBytes-take}
use Rattle.grasp_cbor.proofs.Passing.{took_passed}
use Rattle.grasp_cbor.proofs.walker.Walk.pass_part.Goals as goal

pub returns-clause-took : goal.returns-clause-took
returns-clause-took c = λ s t.
    let n = c.pass_front-passed.result in
    let there = c.lesser-there.result in
    let new = c.pass_front-passed.new.self in
    let bytes : AllBytes c.args.bytes.now = AllBytes-from c.args.bytes.now (λ i. omega (arith, c.type_inv.bytes i)) in
    let inside : there ≤ length c.args.bytes.now = omega (arith, c.lesser-there.ensures.first, c.lesser-there.ensures.second) in
    let within : n ≤ there = omega (arith, c.pass_front-passed.ensures.within, length-take-le there c.args.bytes.now inside) in
    let len : length (take n c.args.bytes.now) ≡ n = length-take-le n c.args.bytes.now (omega arith) in
    let passed : Passed c.args.self.now new (take n c.args.bytes.now) = subst (λ x. Passed c.args.self.now new x) (take-take n there c.args.bytes.now within) c.pass_front-passed.ensures.passed in
    let taken = c.pass_front-passed.ensures.kept.0 in
    let limit = c.pass_front-passed.ensures.kept.1 in
    let below = t.below in
    took_passed c.args.self.now new _ s (take n c.args.bytes.now) t (AllBytes-take n c.args.bytes.now bytes) passed refl (omega arith)
    (omega (arith, c.lesser-there.ensures.first, c.lesser-there.ensures.second, c.saturating_sub.ensures, c.saturating_sub-room.ensures))
