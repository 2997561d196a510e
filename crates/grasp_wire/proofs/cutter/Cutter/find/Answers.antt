use Rattle.std.proofs.Common.{◌≡◌, ◌+◌, ◌-◌, [], true, false, length, take, drop, Some, None, Ok, Err, sym, subst, ap, ◌∙◌, arith}
use Rattle.grasp_cbor.specs.ItemReader.{reader_limit}
use Rattle.grasp_wire.specs.ReadOn.{IsOpen, IsAt, IsReadTo, AnswersRest, MeetsFault, cut_of}
use Rattle.grasp_wire.specs.Stands.{AnswersFound, rest_of, cut_limit, before_of}
use Rattle.grasp_wire.proofs.Sure.{opened, limited, read_to, at_whole, place_below}
use Rattle.grasp_wire.proofs.Finding.{kept_rest, kept_taken, found_rest, fault_tells}
use Rattle.grasp_wire.proofs.cutter.Cutter.find.Goals as goal

pub read_rest-requires-clause-opened : goal.read_rest-requires-clause-opened
read_rest-requires-clause-opened g c =
    let m = c.args.self.now in
    subst (λ x. ∥ IsAt m.whole m.reader (take (m.seen - m.start) x) ∥₁) (sym (kept_rest c.deref.result.now m.held.items m.start c.deref.ensures.value))
    (opened m.fault m.whole m.reader m.limit (take (m.seen - m.start) (drop m.start m.held.items)) c.requires m.read)

pub invariant_of-self-clause-read : goal.invariant_of-self-clause-read
invariant_of-self-clause-read g c =
    let m = c.args.self.now in
    let limit : reader_limit m.reader ≡ m.limit = limited m.fault m.whole m.reader m.limit (take (m.seen - m.start) (drop m.start m.held.items)) c.requires m.read in
    let h : AnswersRest (m.seen - m.start) (rest_of m) m.limit (Ok (Some c.in-Ok-Some.used)) =
    found_rest c.deref.result.now m.held.items m.start (m.seen - m.start) (reader_limit m.reader) m.limit (Ok (Some c.in-Ok-Some.used)) c.deref.ensures.value limit (rw c.in-Ok-Some.field-0-is at c.in-Ok-Some.ensures.answers) in
    let then : ∥ IsOpen c.read_rest.new.reader [] ∥₁ = rw c.in-Ok-Some.field-0-is at c.in-Ok-Some.ensures.then in
    let same = c.read_rest.ensures.limit ∙ limit in
    let q : (m.start + c.in-Ok-Some.used) - m.start ≡ c.in-Ok-Some.used = omega arith in
    subst (λ n. ∥ IsReadTo m.fault true c.read_rest.new.reader m.limit (take n (rest_of m)) ∥₁) (sym q)
    (read_to m.fault true c.read_rest.new.reader m.limit (take c.in-Ok-Some.used (rest_of m)) c.requires (at_whole c.read_rest.new.reader m.limit (rest_of m) c.in-Ok-Some.used h.1.0 same h.1.1 then) same)

pub invariant_of-self-in-Ok-None-clause-read : goal.invariant_of-self-in-Ok-None-clause-read
invariant_of-self-in-Ok-None-clause-read g c =
    let m = c.args.self.now in
    let limit : reader_limit m.reader ≡ m.limit = limited m.fault m.whole m.reader m.limit (take (m.seen - m.start) (drop m.start m.held.items)) c.requires m.read in
    let then : ∥ IsOpen c.read_rest.new.reader (take (length c.deref.result.now - m.start) (drop m.start c.deref.result.now)) ∥₁ = rw c.in-Ok-None.field-0-is at c.in-Ok-None.ensures.then in
    subst (λ s. ∥ IsReadTo m.fault false c.read_rest.new.reader m.limit s ∥₁) (kept_taken c.deref.result.now m.held.items m.start c.len-self.result c.deref.ensures.value (c.deref.ensures.len ∙ sym c.len-self.ensures))
    (read_to m.fault false c.read_rest.new.reader m.limit (take (length c.deref.result.now - m.start) (drop m.start c.deref.result.now)) c.requires then (c.read_rest.ensures.limit ∙ limit))

pub cut_fault-cut-requires : goal.cut_fault-cut-requires
cut_fault-cut-requires g c =
    let m = c.args.self.now in
    let limit : reader_limit m.reader ≡ m.limit = limited m.fault m.whole m.reader m.limit (take (m.seen - m.start) (drop m.start m.held.items)) c.requires m.read in
    let h : MeetsFault (take (m.seen - m.start) (rest_of m)) (rest_of m) m.limit c.in-Err.fault =
    found_rest c.deref.result.now m.held.items m.start (m.seen - m.start) (reader_limit m.reader) m.limit (Err c.in-Err.fault) c.deref.ensures.value limit c.in-Err.ensures.answers in
    let inside = h.inside in
    omega (arith, c.before-before.ensures.fits, place_below m.limit c.in-Err.fault)

pub returns-in-Ok-Some-clause-answers : goal.returns-in-Ok-Some-clause-answers
returns-in-Ok-Some-clause-answers g c =
    let m = c.args.self.now in
    let limit : reader_limit m.reader ≡ m.limit = limited m.fault m.whole m.reader m.limit (take (m.seen - m.start) (drop m.start m.held.items)) c.requires m.read in
    let h : AnswersRest (m.seen - m.start) (rest_of m) m.limit (Ok (Some c.in-Ok-Some.used)) =
    found_rest c.deref.result.now m.held.items m.start (m.seen - m.start) (reader_limit m.reader) m.limit (Ok (Some c.in-Ok-Some.used)) c.deref.ensures.value limit (rw c.in-Ok-Some.field-0-is at c.in-Ok-Some.ensures.answers) in
    h.1

pub returns-in-Ok-None-clause-answers : goal.returns-in-Ok-None-clause-answers
returns-in-Ok-None-clause-answers g c =
    let m = c.args.self.now in
    let limit : reader_limit m.reader ≡ m.limit = limited m.fault m.whole m.reader m.limit (take (m.seen - m.start) (drop m.start m.held.items)) c.requires m.read in
    found_rest c.deref.result.now m.held.items m.start (m.seen - m.start) (reader_limit m.reader) m.limit (Ok None) c.deref.ensures.value limit (rw c.in-Ok-None.field-0-is at c.in-Ok-None.ensures.answers)

pub returns-in-Err-clause-answers : goal.returns-in-Err-clause-answers
returns-in-Err-clause-answers g c =
    let m = c.args.self.now in
    let limit : reader_limit m.reader ≡ m.limit = limited m.fault m.whole m.reader m.limit (take (m.seen - m.start) (drop m.start m.held.items)) c.requires m.read in
    let h : MeetsFault (take (m.seen - m.start) (rest_of m)) (rest_of m) m.limit c.in-Err.fault =
    found_rest c.deref.result.now m.held.items m.start (m.seen - m.start) (reader_limit m.reader) m.limit (Err c.in-Err.fault) c.deref.ensures.value limit c.in-Err.ensures.answers in
    let e : cut_of (before_of m) c.in-Err.fault ≡ c.cut_fault-cut.result = ap (λ n. cut_of n c.in-Err.fault) (sym c.before-before.ensures.is) ∙ sym c.cut_fault-cut.ensures in
    subst (λ x. AnswersFound (rest_of m) (cut_limit m) (before_of m) (Err x)) e (fault_tells (rest_of m) (cut_limit m) (before_of m) c.in-Err.fault h.ends)
