use Rattle.std.proofs.Common.{◌-◌, ◌^◌, ◌<◌, rules, Ok, Err, Some, None, drop, length, arith}
use Rattle.std.proofs.lemmas.List.{length-take, length-take-le, length-drop}
use Rattle.grasp_cbor.specs.Bytes.{AllBytes}
use Rattle.grasp_cbor.specs.ItemReader.{reader_limit}
use Rattle.grasp_cbor.proofs.HeadBytes.{AllBytes-from}
use Rattle.grasp_wire.proofs.Sure.{at_false, known_whole, known_open, rest_read, rest_whole, rest_waits, rest_faulted, rest_steps, rest_then}
use Rattle.grasp_wire.proofs.read_on.read_rest.Goals as goal

pub returns-then-whole : goal.returns-then-whole
returns-then-whole g c =
    let bytes : AllBytes c.args.rest.now = AllBytes-from c.args.rest.now (λ i. omega (arith, c.type_inv.rest i)) in
    record {
      answers = known_whole c.args.reader.now c.args.whole c.args.rest.now c.args.read c.if-whole.true c.requires.within bytes c.requires.opened;
      then = known_open c.args.reader.now c.args.whole _ c.if-whole.true c.requires.opened;
      limit = search rules;
      steps = omega arith;
    }

pub overflow_add-result : goal.overflow_add-result
overflow_add-result g c =
    let bytes : AllBytes c.args.rest.now = AllBytes-from c.args.rest.now (λ i. omega (arith, c.type_inv.rest i)) in
    let o = at_false c.args.reader.now c.args.whole _ c.if-whole.false c.requires.opened in
    let h = rest_read c.args.reader.now c.args.rest.now c.args.read (Ok (Some c.in-Ok-Some.used)) bytes o (λ b p. rw c.in-Ok-Some.field-0-is at (c.in-Ok-Some.ensures.answers b p)) in
    let l = h.0 in
    let m = c.requires.within in
    let f : length c.args.rest.now < 2 ^ 64 = search rules in
    omega (arith, length-take (length c.args.rest.now - c.args.read) (drop c.args.read c.args.rest.now), length-drop c.args.read c.args.rest.now)

pub returns-in-Ok-Some : goal.returns-in-Ok-Some
returns-in-Ok-Some g c =
    let bytes : AllBytes c.args.rest.now = AllBytes-from c.args.rest.now (λ i. omega (arith, c.type_inv.rest i)) in
    let o = at_false c.args.reader.now c.args.whole _ c.if-whole.false c.requires.opened in
    let h = rest_read c.args.reader.now c.args.rest.now c.args.read (Ok (Some c.in-Ok-Some.used)) bytes o (λ b p. rw c.in-Ok-Some.field-0-is at (c.in-Ok-Some.ensures.answers b p)) in
    let s = rest_steps c.args.reader.now c.args.rest.now c.args.read c.args.steps.now c.read_on.new.steps (Ok (Some c.in-Ok-Some.used)) c.requires.within o (λ b p. rw c.in-Ok-Some.field-0-is at (c.in-Ok-Some.ensures.steps b p)) in
    record {
      answers = rest_whole (reader_limit c.args.reader.now) c.args.rest.now c.args.read c.in-Ok-Some.used c.requires.within h;
      then = rest_then c.args.reader.now c.read_on.new.reader c.args.rest.now c.args.read (Ok (Some c.in-Ok-Some.used)) o (λ b p. rw c.in-Ok-Some.field-0-is at (c.in-Ok-Some.ensures.then b p));
      limit = c.read_on.ensures.limit;
      steps = omega (arith, s);
    }

pub returns-in-Ok-None : goal.returns-in-Ok-None
returns-in-Ok-None g c =
    let bytes : AllBytes c.args.rest.now = AllBytes-from c.args.rest.now (λ i. omega (arith, c.type_inv.rest i)) in
    let o = at_false c.args.reader.now c.args.whole _ c.if-whole.false c.requires.opened in
    let within = c.requires.within in
    let h = rest_read c.args.reader.now c.args.rest.now c.args.read (Ok None) bytes o (λ b p. rw c.in-Ok-None.field-0-is at (c.in-Ok-None.ensures.answers b p)) in
    let s = rest_steps c.args.reader.now c.args.rest.now c.args.read c.args.steps.now c.read_on.new.steps (Ok None) within o (λ b p. rw c.in-Ok-None.field-0-is at (c.in-Ok-None.ensures.steps b p)) in
    record {
      answers = rest_waits (reader_limit c.args.reader.now) c.args.rest.now c.args.read h;
      then = rest_then c.args.reader.now c.read_on.new.reader c.args.rest.now c.args.read (Ok None) o (λ b p. rw c.in-Ok-None.field-0-is at (c.in-Ok-None.ensures.then b p));
      limit = c.read_on.ensures.limit;
      steps = omega (arith, s, length-take (length c.args.rest.now - c.args.read) (drop c.args.read c.args.rest.now), length-drop c.args.read c.args.rest.now);
    }

pub returns-in-Err : goal.returns-in-Err
returns-in-Err g c =
    let bytes : AllBytes c.args.rest.now = AllBytes-from c.args.rest.now (λ i. omega (arith, c.type_inv.rest i)) in
    let o = at_false c.args.reader.now c.args.whole _ c.if-whole.false c.requires.opened in
    let within = c.requires.within in
    let h = rest_read c.args.reader.now c.args.rest.now c.args.read (Err c.in-Err.fault) bytes o (λ b p. c.in-Err.ensures.answers b p) in
    let s = rest_steps c.args.reader.now c.args.rest.now c.args.read c.args.steps.now c.read_on.new.steps (Err c.in-Err.fault) within o (λ b p. c.in-Err.ensures.steps b p) in
    let later = h.later in
    record {
      answers = rest_faulted (reader_limit c.args.reader.now) c.args.rest.now c.args.read c.in-Err.fault h;
      then = ∣ tt ∣₁;
      limit = c.read_on.ensures.limit;
      steps = omega (arith, s, length-take-le c.args.read c.args.rest.now within);
    }
