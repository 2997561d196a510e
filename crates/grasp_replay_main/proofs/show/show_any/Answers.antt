use Rattle.std.proofs.Common.{◌≤◌, length, take, refl, arith}
use Rattle.grasp_wire.specs.Stream.{IsRest, waiting}
use Rattle.grasp_wire.specs.Wire.{IsWireForm}
use Rattle.grasp_replay_main.proofs.Showing.{takes_line, begins_line, takes_none, takes_fault, fault_inside, has_begun, has_bytes, errs_begun}
use Rattle.grasp_replay_main.proofs.show.show_any.Goals as goal

pub returns-in_err-write_line-in-Ok-Some-clause-step : goal.returns-in_err-write_line-in-Ok-Some-clause-step
returns-in_err-write_line-in-Ok-Some-clause-step g c = λ front start same h.
    let found : IsWireForm c.in-Ok-Some.message (take c.in-Ok-Some.used c.args.rest.now) c.args.limit × (c.in-Ok-Some.used ≤ length c.args.rest.now) = rw c.in-Ok-Some.field-0-is at c.in-Ok-Some.ensures in
    errs_begun c.args.limit front c.args.rest.now start _ _ c.from_residual.result c.from_residual.ensures.0
    (begins_line c.args.limit front c.args.rest.now start _ _ _ _ c.in-Ok-Some.message c.in-Ok-Some.used h found.0 refl c.write_line.ensures.front)

pub returns-in_ok-write_line-in-Ok-Some-clause-step : goal.returns-in_ok-write_line-in-Ok-Some-clause-step
returns-in_ok-write_line-in-Ok-Some-clause-step g c = λ front start same h.
    let found : IsWireForm c.in-Ok-Some.message (take c.in-Ok-Some.used c.args.rest.now) c.args.limit × (c.in-Ok-Some.used ≤ length c.args.rest.now) = rw c.in-Ok-Some.field-0-is at c.in-Ok-Some.ensures in
    takes_line c.args.limit front c.args.rest.now start _ _ _ _ _ c.in-Ok-Some.message c.in-Ok-Some.used h found.0 refl c.in_ok-write_line-in-Ok-Some.ensures.passed

pub returns-in_ok-write_line-in-Ok-Some-clause-inside : goal.returns-in_ok-write_line-in-Ok-Some-clause-inside
returns-in_ok-write_line-in-Ok-Some-clause-inside g c =
    let found : IsWireForm c.in-Ok-Some.message (take c.in-Ok-Some.used c.args.rest.now) c.args.limit × (c.in-Ok-Some.used ≤ length c.args.rest.now) = rw c.in-Ok-Some.field-0-is at c.in-Ok-Some.ensures in
    has_bytes c.in-Ok-Some.message c.args.rest.now c.args.limit c.in-Ok-Some.used found.0 found.1

pub returns-in-Ok-None-clause-step : goal.returns-in-Ok-None-clause-step
returns-in-Ok-None-clause-step g c = λ front start same h.
    let waits : IsRest c.args.rest.now c.args.limit waiting = rw c.in-Ok-None.field-0-is at c.in-Ok-None.ensures in
    takes_none c.args.limit front c.args.rest.now start _ _ c.args.before _ h waits same c.requires.some refl

pub returns-in-Some-clause-step : goal.returns-in-Some-clause-step
returns-in-Some-clause-step g c = λ front start same h. takes_fault c.args.limit front c.args.rest.now start _ _ c.args.before c.in-Err.fault c.in-Some.finding h c.in-Err.ensures same c.in-Some.ensures

pub returns-in-None-clause-step : goal.returns-in-None-clause-step
returns-in-None-clause-step g c = λ front start same h. has_begun c.args.limit front c.args.rest.now start _ _ h

pub finding_behind-requires : goal.finding_behind-requires
finding_behind-requires g c = let inside = fault_inside c.args.rest.now c.args.limit c.in-Err.fault c.in-Err.ensures in omega (arith, c.requires.before, inside)
