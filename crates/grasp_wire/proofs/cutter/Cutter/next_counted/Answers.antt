use Rattle.std.proofs.Common.{◌≡◌, ◌+◌, ◌-◌, Some, Ok, Err, length, refl, sym, ap, subst, ◌∙◌, arith}
use Rattle.grasp_cbor.specs.DataItem.{DataItem}
use Rattle.grasp_cbor.specs.Ending.{IsWhole, IsPartial}
use Rattle.grasp_types.specs.Message.{item_of}
use Rattle.grasp_wire.specs.Cutter.{AnswersNext, Takes}
use Rattle.grasp_wire.specs.Stands.{rest_of, cut_limit, before_of, fed_count, taken_count}
use Rattle.grasp_wire.proofs.Nexts.{next_waits, next_faulted, next_given, next_failed, stands_faulted, stands_given, stands_same, stands_failed, stands_again, whole_moved, fewer_wait, found_lasts, takes_still, takes_given, takes_failed, takes_all, takes_faulted}
use Rattle.grasp_wire.proofs.Rests.{form_whole}
use Rattle.grasp_wire.proofs.cutter.Cutter.next_counted.Goals as goal

pub returns-in-Some-direct-clause-answers : goal.returns-in-Some-direct-clause-answers
returns-in-Some-direct-clause-answers g c = λ past s. next_given c.args.self.now past c.in-Some-direct.message c.in-Some-direct.used s c.in_default.is c.in-Some-direct.ensures.form

pub returns-in-Some-direct-clause-then : goal.returns-in-Some-direct-clause-then
returns-in-Some-direct-clause-then g c = λ past s.
    stands_given c.args.self.now c.take_direct.new.self past c.in-Some-direct.message c.in-Some-direct.used s c.in_default.is c.in-Some-direct.ensures.form c.take_direct.ensures.rest c.take_direct.ensures.count c.take_direct.ensures.limit c.take_direct.ensures.fault

pub returns-in-Some-direct-clause-less : goal.returns-in-Some-direct-clause-less
returns-in-Some-direct-clause-less g c =
    let m = c.args.self.now in
    let whole = form_whole c.in-Some-direct.message c.in-Some-direct.used (rest_of m) (cut_limit m) c.in-Some-direct.ensures.inside c.in-Some-direct.ensures.form in
    fewer_wait m m c.take_direct.new.self c.in-Some-direct.used refl (item_of c.in-Some-direct.message, whole) c.take_direct.ensures.rest

pub returns-in-Some-direct-clause-taken : goal.returns-in-Some-direct-clause-taken
returns-in-Some-direct-clause-taken g c = λ past s.
    let m = c.args.self.now in
    let whole = form_whole c.in-Some-direct.message c.in-Some-direct.used (rest_of m) (cut_limit m) c.in-Some-direct.ensures.inside c.in-Some-direct.ensures.form in
    takes_given m past c.in-Some-direct.message c.in-Some-direct.used (taken_count m) (taken_count c.take_direct.new.self) s c.in_default.is (item_of c.in-Some-direct.message, whole) c.take_direct.ensures.taken

pub returns-in-Some-clause-then : goal.returns-in-Some-clause-then
returns-in-Some-clause-then g c = λ past s. stands_again c.args.self.now past c.in-Some.fault s c.in-Some.is

pub returns-in-Ok-clause-answers : goal.returns-in-Ok-clause-answers
returns-in-Ok-clause-answers g c = λ past s.
    let d = c.find.new.self in
    let e = stands_same c.args.self.now d past s c.in_default.is c.in-Ok-Some.ensures.same c.in-Ok-Some.ensures.fault in
    subst (λ n. AnswersNext n past past.fault (Ok (Some c.in-Ok.message))) c.find.ensures.limit (next_given d past c.in-Ok.message c.in-Ok-Some.used e c.in-Ok-Some.ensures.fault c.in-Ok.ensures.answers)

pub returns-in-Ok-clause-then : goal.returns-in-Ok-clause-then
returns-in-Ok-clause-then g c = λ past s.
    let d = c.find.new.self in
    let e = stands_same c.args.self.now d past s c.in_default.is c.in-Ok-Some.ensures.same c.in-Ok-Some.ensures.fault in
    stands_given d c.take_message.new.self past c.in-Ok.message c.in-Ok-Some.used e c.in-Ok-Some.ensures.fault c.in-Ok.ensures.answers c.in-Ok.ensures.rest c.take_message.ensures.count c.take_message.ensures.limit c.in-Ok.ensures.fault

pub returns-in-Err-take_message-clause-answers : goal.returns-in-Err-take_message-clause-answers
returns-in-Err-take_message-clause-answers g c = λ past s.
    let d = c.find.new.self in
    let e = stands_same c.args.self.now d past s c.in_default.is c.in-Ok-Some.ensures.same c.in-Ok-Some.ensures.fault in
    let w : (item : DataItem) × IsWhole (rest_of c.args.self.now) (cut_limit c.args.self.now) item c.in-Ok-Some.used = rw c.in-Ok-Some.field-0-is at c.in-Ok-Some.ensures.answers in
    subst (λ n. AnswersNext n past past.fault (Err c.in-Err-take_message.fault)) c.find.ensures.limit
    (next_failed d past c.in-Ok-Some.used c.in-Err-take_message.fault e c.in-Ok-Some.ensures.fault (whole_moved c.args.self.now d c.in-Ok-Some.used c.in-Ok-Some.ensures.same w) c.in-Err-take_message.ensures.answers)

pub returns-in-Err-take_message-clause-then : goal.returns-in-Err-take_message-clause-then
returns-in-Err-take_message-clause-then g c = λ past s.
    let d = c.find.new.self in
    let e = stands_same c.args.self.now d past s c.in_default.is c.in-Ok-Some.ensures.same c.in-Ok-Some.ensures.fault in
    stands_failed d c.take_message.new.self past c.in-Ok-Some.used c.in-Err-take_message.fault e c.in-Ok-Some.ensures.fault c.in-Err-take_message.ensures.answers
    (λ m. c.in-Err-take_message.ensures.err (ap Err m)) c.take_message.ensures.count c.take_message.ensures.limit c.in-Err-take_message.ensures.fault

pub returns-in-Ok-None-clause-answers : goal.returns-in-Ok-None-clause-answers
returns-in-Ok-None-clause-answers g c = λ past s.
    let w : IsPartial (rest_of c.args.self.now) (cut_limit c.args.self.now) = rw c.in-Ok-None.field-0-is at c.in-Ok-None.ensures.answers in
    next_waits c.args.self.now past s c.in_default.is w

pub returns-in-Ok-None-clause-then : goal.returns-in-Ok-None-clause-then
returns-in-Ok-None-clause-then g c = λ past s. stands_same c.args.self.now c.find.new.self past s c.in_default.is c.in-Ok-None.ensures.same c.in-Ok-None.ensures.fault

pub returns-in-Err-clause-answers : goal.returns-in-Err-clause-answers
returns-in-Err-clause-answers g c = λ past s. next_faulted c.args.self.now past c.in-Err.fault s c.in_default.is (found_lasts (rest_of c.args.self.now) (cut_limit c.args.self.now) (before_of c.args.self.now) c.in-Err.fault c.in-Err.ensures.answers)

pub returns-in-Err-clause-then : goal.returns-in-Err-clause-then
returns-in-Err-clause-then g c = λ past s.
    stands_faulted c.args.self.now c.find.new.self past c.in-Err.fault s c.in_default.is (found_lasts (rest_of c.args.self.now) (cut_limit c.args.self.now) (before_of c.args.self.now) c.in-Err.fault c.in-Err.ensures.answers) c.find.ensures.count c.find.ensures.limit c.in-Err.ensures.fault

pub returns-in-Ok-clause-less : goal.returns-in-Ok-clause-less
returns-in-Ok-clause-less g c =
    let w : (item : DataItem) × IsWhole (rest_of c.args.self.now) (cut_limit c.args.self.now) item c.in-Ok-Some.used = rw c.in-Ok-Some.field-0-is at c.in-Ok-Some.ensures.answers in
    fewer_wait c.args.self.now c.find.new.self c.take_message.new.self c.in-Ok-Some.used c.in-Ok-Some.ensures.same.rest w c.in-Ok.ensures.rest

pub returns-in-Ok-None-clause-short : goal.returns-in-Ok-None-clause-short
returns-in-Ok-None-clause-short g c = λ e.
    let w : IsPartial (rest_of c.args.self.now) (cut_limit c.args.self.now) = rw c.in-Ok-None.field-0-is at c.in-Ok-None.ensures.answers in
    let short = w.short in
    omega (arith, ap length c.in-Ok-None.ensures.same.rest, c.find.ensures.limit)

pub returns-in-Some-clause-taken : goal.returns-in-Some-clause-taken
returns-in-Some-clause-taken g c = λ past s. takes_still c.args.self.now past c.in-Some.fault _ (cut_limit c.args.self.now) (taken_count c.args.self.now) s c.in-Some.is

pub returns-in-Ok-clause-taken : goal.returns-in-Ok-clause-taken
returns-in-Ok-clause-taken g c = λ past s.
    let m = c.args.self.now in
    let w : (item : DataItem) × IsWhole (rest_of m) (cut_limit m) item c.in-Ok-Some.used = rw c.in-Ok-Some.field-0-is at c.in-Ok-Some.ensures.answers in
    let t : taken_count c.find.new.self ≡ before_of m + c.in-Ok-Some.used = rw c.in-Ok-Some.field-0-is at c.in-Ok-Some.ensures.taken in
    takes_given m past c.in-Ok.message c.in-Ok-Some.used (taken_count m) (taken_count c.take_message.new.self) s c.in_default.is w (c.take_message.ensures.taken ∙ t)

pub returns-in-Err-take_message-clause-taken : goal.returns-in-Err-take_message-clause-taken
returns-in-Err-take_message-clause-taken g c = λ past s.
    let m = c.args.self.now in
    let d = c.find.new.self in
    let w : (item : DataItem) × IsWhole (rest_of m) (cut_limit m) item c.in-Ok-Some.used = rw c.in-Ok-Some.field-0-is at c.in-Ok-Some.ensures.answers in
    let t : taken_count d ≡ before_of m + c.in-Ok-Some.used = rw c.in-Ok-Some.field-0-is at c.in-Ok-Some.ensures.taken in
    let e = stands_same m d past s c.in_default.is c.in-Ok-Some.ensures.same c.in-Ok-Some.ensures.fault in
    let b : before_of m ≡ before_of d = ap (λ x. fed_count m - length x) (sym c.in-Ok-Some.ensures.same.rest) ∙ ap (λ n. n - length (rest_of d)) (sym c.find.ensures.count) in
    subst (λ n. Takes n past past.fault (Err c.in-Err-take_message.fault) (taken_count m) (taken_count c.take_message.new.self)) c.find.ensures.limit
    (takes_failed d past c.in-Ok-Some.used (taken_count m) (taken_count c.take_message.new.self) c.in-Err-take_message.fault e c.in-Ok-Some.ensures.fault (whole_moved m d c.in-Ok-Some.used c.in-Ok-Some.ensures.same w) c.in-Err-take_message.ensures.answers
    (c.take_message.ensures.taken ∙ t ∙ ap (λ n. n + c.in-Ok-Some.used) b))

pub returns-in-Ok-None-clause-taken : goal.returns-in-Ok-None-clause-taken
returns-in-Ok-None-clause-taken g c = λ past s.
    let m = c.args.self.now in
    let t : taken_count c.find.new.self ≡ fed_count m = rw c.in-Ok-None.field-0-is at c.in-Ok-None.ensures.taken in
    takes_all m past (taken_count m) (taken_count c.find.new.self) s c.in_default.is t

pub returns-in-Err-clause-taken : goal.returns-in-Err-clause-taken
returns-in-Err-clause-taken g c = λ past s.
    takes_faulted c.args.self.now past (taken_count c.args.self.now) (taken_count c.find.new.self) c.in-Err.fault s c.in_default.is c.in-Err.ensures.answers c.in-Err.ensures.taken
