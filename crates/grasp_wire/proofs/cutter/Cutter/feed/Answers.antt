use Rattle.std.proofs.Common.{◌∙◌, refl, arith}
use Rattle.grasp_cbor.proofs.HeadBytes.{AllBytes-from}
use Rattle.grasp_wire.proofs.Stays.{stands_counted, stands_fed, both_ok, some_in, none_in}
use Rattle.grasp_wire.proofs.cutter.Cutter.feed.Goals as goal

pub returns-then-is_some-clause-ok : goal.returns-then-is_some-clause-ok
returns-then-is_some-clause-ok c = λ past s.
    let f = some_in c.args.self.now.fault c.is_some.result c.is_some.ensures c.if-is_some.true in
    stands_counted c.args.self.now _ past c.args.piece.now f.0 s f.1 (AllBytes-from c.args.piece.now (λ i. omega (arith, c.type_inv.piece i))) refl refl refl

pub returns-clause-ok : goal.returns-clause-ok
returns-clause-ok c = λ past s.
    let none = none_in c.args.self.now.fault c.is_some.result c.is_some.ensures c.if-is_some.false in
    both_ok c.append.result c.append.ensures.ok c.append.ensures.count (λ rest count.
    stands_fed c.args.self.now c.compact.new.self c.append.new.self past c.args.piece.now s none (AllBytes-from c.args.piece.now (λ i. omega (arith, c.type_inv.piece i))) c.compact.ensures.same
    rest count c.append.ensures.limit (c.append.ensures.fault ∙ c.compact.ensures.fault ∙ none))

pub append-requires-clause-open : goal.append-requires-clause-open
append-requires-clause-open c = c.compact.ensures.fault ∙ none_in c.args.self.now.fault c.is_some.result c.is_some.ensures c.if-is_some.false
