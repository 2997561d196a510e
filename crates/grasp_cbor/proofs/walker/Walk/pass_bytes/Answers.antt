use Rattle.std.proofs.Common.{◌≡◌, ◌-◌, ◌≤◌, length, take, ap, ◌∙◌, arith}
use Rattle.std.proofs.lemmas.List.{length-take-le}
use Rattle.grasp_cbor.specs.Step.{goes}
use Rattle.grasp_cbor.specs.Walking.{open_levels}
use Rattle.grasp_cbor.specs.Passing.{run}
use Rattle.grasp_cbor.specs.declared.walker.Stage.TheVariants.{InBytes}
use Rattle.grasp_cbor.proofs.Passing.{run_bytes}
use Rattle.grasp_cbor.proofs.walker.Walk.pass_bytes.Goals as goal

pub returns-clause-passed : goal.returns-clause-passed
returns-clause-passed c =
    let old = c.args.self.now in
    let n = c.lesser-passed.result in
    let bytes = take n c.args.bytes.now in
    let within : n ≤ length c.args.bytes.now = omega (arith, c.lesser-passed.ensures.first, c.lesser-passed.ensures.second) in
    let len : length bytes ≡ n = length-take-le n c.args.bytes.now within in
    ap (λ t. run (goes (open_levels old) old.string t) bytes) c.requires
    ∙ run_bytes bytes (open_levels old) old.string c.args.left (omega (arith, len, c.lesser-passed.ensures.first, c.lesser-passed.ensures.second, c.saturating_sub.ensures))
    ∙ ap (λ k. goes (open_levels old) old.string (InBytes (c.args.left - k))) len
