use Rattle.std.proofs.Common.{◌<◌, ◌^◌, length, rules, Err, sym, subst, arith}
use Rattle.grasp_cbor.specs.ItemReader.{EndsWith, reader_limit}
use Rattle.grasp_wire.specs.declared.fault.OneFault.TheVariants.{Cut}
use Rattle.grasp_wire.specs.One.{AnswersOne}
use Rattle.grasp_wire.proofs.OneFaults.{fault_alone}
use Rattle.grasp_wire.proofs.ReadingOn.{nothing_waits}
use Rattle.grasp_wire.proofs.Sure.{place_below}
use Rattle.grasp_wire.proofs.one.first_item.Goals as goal

pub read_rest-requires-clause-opened : goal.read_rest-requires-clause-opened
read_rest-requires-clause-opened g c = let l = c.new-reader.ensures.limit in let k = c.requires in
    ∣ record { reading = c.new-reader.ensures.fresh; no_fault = c.new-reader.ensures.fault; are_bytes = tt; waits = nothing_waits _ (omega arith) } ∣₁

pub returns-in-Err : goal.returns-in-Err
returns-in-Err g c =
    subst (λ x. AnswersOne c.args.bytes.now c.args.limit (Err (Cut x))) (sym c.cut_fault.ensures)
    (fault_alone c.args.bytes.now c.args.limit c.in-Err.fault (subst (λ n. EndsWith c.args.bytes.now n c.in-Err.fault) c.new-reader.ensures.limit c.in-Err.ensures.answers.ends))

pub cut_fault-requires : goal.cut_fault-requires
cut_fault-requires g c =
    let inside = c.in-Err.ensures.answers.inside in
    let few : length c.args.bytes.now < 2 ^ 64 = search rules in
    omega (arith, place_below (reader_limit c.new-reader.result) c.in-Err.fault)
