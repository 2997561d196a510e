use Rattle.std.proofs.Common.{◌∙◌, ap, sym, arith}
use Rattle.std.specs.Prelude.{take}
use Rattle.grasp_io.specs.MemoryClock.{highest}
use Rattle.grasp_io.proofs.Readings.{highest_next, highest_past, readings_more}
use Rattle.grasp_io.proofs.memory_clock.MemClockClock.now.Goals as goal

-- after the last reading
pub invariant_of-self : goal.invariant_of-self
invariant_of-self g c =
    let s = c.args.self.now in
    let past = highest_past s.readings.now s.next s.count s.latest (c.in_default.ensures.lookup.3) s.place s.highest_so_far in
    record {
      place = omega (arith, c.in_default.ensures.lookup, s.place, c.tick.ensures);
      highest_so_far = past ∙ ap (λ n. highest (take n s.readings.now)) (sym c.tick.ensures);
    }

pub returns-in_default-clause-told : goal.returns-in_default-clause-told
returns-in_default-clause-told g c =
    let s = c.args.self.now in
    let past = highest_past s.readings.now s.next s.count s.latest (c.in_default.ensures.lookup.3) s.place s.highest_so_far in
    readings_more s.readings.now s.count c.tick.new.self s.latest c.tick.ensures (past ∙ ap (λ n. highest (take n s.readings.now)) (sym c.tick.ensures))

-- another reading
pub invariant_of-self-2 : goal.invariant_of-self-2
invariant_of-self-2 g c =
    let s = c.args.self.now in
    let r = c.in-Some.reading.now in
    let found = c.in-Some.ensures.lookup in
    let next = highest_next s.readings.now s.next s.count r s.latest found.3.0 found.1 s.place s.highest_so_far in
    record {
      place = omega (arith, found, s.place, c.tick.ensures);
      highest_so_far = c.max-self.ensures ∙ next ∙ ap (λ n. highest (take n s.readings.now)) (sym c.tick.ensures);
    }

pub returns-clause-told : goal.returns-clause-told
returns-clause-told g c =
    let s = c.args.self.now in
    let r = c.in-Some.reading.now in
    let found = c.in-Some.ensures.lookup in
    let next = highest_next s.readings.now s.next s.count r s.latest found.3.0 found.1 s.place s.highest_so_far in
    readings_more s.readings.now s.count c.tick.new.self c.max-self.result c.tick.ensures (c.max-self.ensures ∙ next ∙ ap (λ n. highest (take n s.readings.now)) (sym c.tick.ensures))
