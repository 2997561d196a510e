use Rattle.std.proofs.Common.{◌≡◌, ◌+◌, ◌-◌, ◌<◌, ◌++◌, ◌∷◌, [], ℕ, List, take, drop, get_or, length, Ok, Err, subst, ◌∙◌, arith}
use Rattle.std.proofs.lemmas.List.{take_all, length-take-le, length-drop}
use Rattle.grasp_cbor.specs.Bytes.{AllBytes}
use Rattle.grasp_cbor.specs.Ending.{IsPartial}
use Rattle.grasp_cbor.specs.ItemReader.{Reading, EndsWith, AnswersTaken, bytes_with, fault_of, reader_limit}
use Rattle.grasp_cbor.specs.declared.walker.Taken.TheVariants.{More, Whole}
use Rattle.grasp_cbor.proofs.HeadBytes.{AllBytes-append, AllBytes-from}
use Rattle.grasp_wire.specs.ReadOn.{IsOpen, MeetsFault, taken_at}
use Rattle.grasp_wire.proofs.ReadingOn.{exact_open, open_passed, open_more, ended, faulted, open_again}
use Rattle.grasp_wire.proofs.read_on.read_on.Goals as goal

pub returns-then-i-more : goal.returns-then-i-more
returns-then-i-more g c =
    let bytes : AllBytes c.args.more.now = AllBytes-from c.args.more.now (λ i. omega (arith, c.type_inv.more i)) in
    let limit = c.pass-passed.ensures.limit ∙ c.loop-i.invariant.limit in
    let at : ℕ = c.loop-i.i + c.pass-passed.result in
    let all : take at c.args.more.now ≡ c.args.more.now = take_all at c.args.more.now (omega arith) in
    let behind : (s : List ℕ) → IsOpen c.args.reader.now s → IsOpen c.pass-passed.new.self (s ++ c.args.more.now) = λ s o.
    let h = c.loop-i.invariant.opened s o in
    subst (λ x. IsOpen c.pass-passed.new.self (s ++ x)) all
    (open_passed c.loop-i.reader c.pass-passed.new.self s c.args.more.now c.loop-i.i c.pass-passed.result bytes h c.pass-passed.ensures.limit c.pass-passed.ensures.fault (c.pass-passed.ensures.then _ h.reading) (c.pass-passed.ensures.waits _ h.reading h.no_fault)) in
    record {
      answers = λ s o. let h = behind s o in subst (λ n. IsPartial (s ++ c.args.more.now) n) limit h.waits;
      then = behind;
      limit = limit;
      steps = λ s o. omega (arith, c.pass-passed.ensures.counted, c.loop-i.invariant.steps);
    }

pub loop-i-preserved : goal.loop-i-preserved
loop-i-preserved g c =
    let bytes : AllBytes c.args.more.now = AllBytes-from c.args.more.now (λ i. omega (arith, c.type_inv.more i)) in
    let at : ℕ = c.loop-i.i + c.pass-passed.result in
    let inside : at < length c.args.more.now = omega (arith, c.pass-passed.ensures.within, c.if-i-more.false, length-take-le (length c.args.more.now - c.loop-i.i) (drop c.loop-i.i c.args.more.now), length-drop c.loop-i.i c.args.more.now) in
    record {
      within = omega arith;
      limit = c.take.ensures.limit ∙ c.pass-passed.ensures.limit ∙ c.loop-i.invariant.limit;
      opened = λ s o.
          let f = c.loop-i.invariant.opened s o in
          let h = open_passed c.loop-i.reader c.pass-passed.new.self s c.args.more.now c.loop-i.i c.pass-passed.result bytes f c.pass-passed.ensures.limit c.pass-passed.ensures.fault (c.pass-passed.ensures.then _ f.reading) (c.pass-passed.ensures.waits _ f.reading f.no_fault) in
          let t = bytes_with (fault_of c.pass-passed.new.self) (s ++ take at c.args.more.now) (get_or c.args.more.now at 0) in
          let answer : AnswersTaken t (reader_limit c.pass-passed.new.self) (Ok More) = rw c.in-Ok-More.field-0-is at (c.in-Ok-More.ensures.exact _ h.reading) in
          let read : Reading c.take.new.self t = rw c.in-Ok-More.field-0-is at (c.in-Ok-More.ensures.then _ h.reading) in
          open_more c.pass-passed.new.self c.take.new.self s c.args.more.now at inside (omega (arith, c.type_inv.more at)) h c.take.ensures.limit c.in-Ok-More.ensures.fault answer read;
      steps = omega (arith, c.take.ensures.counted, c.pass-passed.ensures.counted, c.loop-i.invariant.steps);
    }

pub returns-in-Ok-Whole : goal.returns-in-Ok-Whole
returns-in-Ok-Whole g c =
    let bytes : AllBytes c.args.more.now = AllBytes-from c.args.more.now (λ i. omega (arith, c.type_inv.more i)) in
    let limit = c.pass-passed.ensures.limit ∙ c.loop-i.invariant.limit in
    let at : ℕ = c.loop-i.i + c.pass-passed.result in
    let inside : at < length c.args.more.now = omega (arith, c.pass-passed.ensures.within, c.if-i-more.false, length-take-le (length c.args.more.now - c.loop-i.i) (drop c.loop-i.i c.args.more.now), length-drop c.loop-i.i c.args.more.now) in
    let byte : ℕ = get_or c.args.more.now at 0 in
    let behind : (s : List ℕ) → IsOpen c.args.reader.now s → IsOpen c.pass-passed.new.self (s ++ take at c.args.more.now) = λ s o.
    let h = c.loop-i.invariant.opened s o in
    open_passed c.loop-i.reader c.pass-passed.new.self s c.args.more.now c.loop-i.i c.pass-passed.result bytes h c.pass-passed.ensures.limit c.pass-passed.ensures.fault (c.pass-passed.ensures.then _ h.reading) (c.pass-passed.ensures.waits _ h.reading h.no_fault) in
    record {
      answers = λ s o.
          let h = behind s o in
          let front = s ++ take at c.args.more.now in
          let answer : AnswersTaken (bytes_with (fault_of c.pass-passed.new.self) front byte) (reader_limit c.pass-passed.new.self) (Ok Whole) = rw c.in-Ok-Whole.field-0-is at (c.in-Ok-Whole.ensures.exact _ h.reading) in
          ended (reader_limit c.args.reader.now) s c.args.more.now at inside
          (subst (λ n. AnswersTaken (front ++ byte ∷ []) n (Ok Whole)) limit (exact_open c.pass-passed.new.self front byte (reader_limit c.pass-passed.new.self) (Ok Whole) h.no_fault answer));
      then = λ s o.
          let h = behind s o in
          let read : Reading c.take.new.self [] = rw c.in-Ok-Whole.field-0-is at (c.in-Ok-Whole.ensures.then _ h.reading) in
          open_again c.pass-passed.new.self c.take.new.self (s ++ take at c.args.more.now) h c.take.ensures.limit c.in-Ok-Whole.ensures.fault read;
      limit = c.take.ensures.limit ∙ limit;
      steps = λ s o. omega (arith, c.take.ensures.counted, c.pass-passed.ensures.counted, c.loop-i.invariant.steps);
    }

pub returns-in-Err : goal.returns-in-Err
returns-in-Err g c =
    let bytes : AllBytes c.args.more.now = AllBytes-from c.args.more.now (λ i. omega (arith, c.type_inv.more i)) in
    let same = c.pass-passed.ensures.limit ∙ c.loop-i.invariant.limit in
    let limit = reader_limit c.args.reader.now in
    let at : ℕ = c.loop-i.i + c.pass-passed.result in
    let inside : at < length c.args.more.now = omega (arith, c.pass-passed.ensures.within, c.if-i-more.false, length-take-le (length c.args.more.now - c.loop-i.i) (drop c.loop-i.i c.args.more.now), length-drop c.loop-i.i c.args.more.now) in
    let meets : (s : List ℕ) → IsOpen c.args.reader.now s → MeetsFault s (s ++ c.args.more.now) limit c.in-Err.fault × (taken_at limit c.in-Err.fault ≡ length s + (at + 1)) =
    λ s o.
    let f = c.loop-i.invariant.opened s o in
    let h = open_passed c.loop-i.reader c.pass-passed.new.self s c.args.more.now c.loop-i.i c.pass-passed.result bytes f c.pass-passed.ensures.limit c.pass-passed.ensures.fault (c.pass-passed.ensures.then _ f.reading) (c.pass-passed.ensures.waits _ f.reading f.no_fault) in
    let front = s ++ take at c.args.more.now in
    let byte = get_or c.args.more.now at 0 in
    let small : byte < 256 = omega (arith, c.type_inv.more at) in
    let answer : EndsWith (front ++ byte ∷ []) (reader_limit c.pass-passed.new.self) c.in-Err.fault = exact_open c.pass-passed.new.self front byte (reader_limit c.pass-passed.new.self) (Err c.in-Err.fault) h.no_fault (c.in-Err.ensures.exact _ h.reading) in
    faulted limit s c.args.more.now at c.in-Err.fault inside (AllBytes-append front (byte ∷ []) h.are_bytes (small, tt))
    (subst (λ n. IsPartial front n) same h.waits) (subst (λ n. EndsWith (front ++ byte ∷ []) n c.in-Err.fault) same answer) in
    record {
      answers = λ s o. (meets s o).0;
      then = λ s o. tt;
      limit = c.take.ensures.limit ∙ same;
      steps = λ s o. omega (arith, c.take.ensures.counted, c.pass-passed.ensures.counted, c.loop-i.invariant.steps, (meets s o).1);
    }

pub returns : goal.returns
returns g c =
    let all : take c.loop-i.i c.args.more.now ≡ c.args.more.now = take_all c.loop-i.i c.args.more.now (omega arith) in
    record {
      answers = λ bytes o.
          let h = subst (λ x. IsOpen c.loop-i.reader (bytes ++ x)) all (c.loop-i.invariant.opened bytes o) in
          subst (λ n. IsPartial (bytes ++ c.args.more.now) n) c.loop-i.invariant.limit h.waits;
      then = λ bytes o. subst (λ x. IsOpen c.loop-i.reader (bytes ++ x)) all (c.loop-i.invariant.opened bytes o);
      limit = c.loop-i.invariant.limit;
      steps = λ bytes o. omega (arith, c.loop-i.invariant.steps);
    }
