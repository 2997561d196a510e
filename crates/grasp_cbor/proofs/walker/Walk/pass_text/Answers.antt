use Rattle.std.proofs.Common.{◌≡◌, ◌≤◌, length, take, get_or, ap, ◌∙◌, arith}
use Rattle.std.proofs.lemmas.List.{length-take-le, get_or-take}
use Rattle.grasp_cbor.specs.Step.{goes}
use Rattle.grasp_cbor.specs.Walking.{open_levels}
use Rattle.grasp_cbor.specs.Passing.{run}
use Rattle.grasp_cbor.proofs.Passing.{run_ascii}
use Rattle.grasp_cbor.proofs.walker.Walk.pass_text.Goals as goal

pub returns-clause-passed : goal.returns-clause-passed
returns-clause-passed c =
    let old = c.args.self.now in
    let n = c.ascii_front-passed.result in
    let most = c.lesser-most.result in
    let e : most ≤ length c.args.bytes.now = omega (arith, c.lesser-most.ensures.first, c.lesser-most.ensures.second) in
    let within : n ≤ most = omega (arith, c.ascii_front-passed.ensures.within, length-take-le most c.args.bytes.now e) in
    ap (λ t. run (goes (open_levels old) old.string t) (take n c.args.bytes.now)) c.requires
    ∙ run_ascii n c.args.bytes.now (open_levels old) old.string c.args.owed c.args.left (omega (arith, c.if-owed-gt0.false)) (omega (arith, c.if-passed-eq0.false)) (omega arith)
    (λ k l. let same : get_or (take most c.args.bytes.now) k 0 ≡ get_or c.args.bytes.now k 0 = get_or-take most c.args.bytes.now k 0 (omega arith) in omega (arith, same, c.ascii_front-passed.ensures.ascii k l))
    (omega (arith, c.lesser-most.ensures.first, c.lesser-most.ensures.second, c.saturating_sub.ensures))
