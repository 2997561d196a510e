use Rattle.std.proofs.Common.{◌≡◌, ◌<◌, ◌≤◌, ◌-◌, ◌∙◌, subst, ℕ, List, true, length, drop, arith}
use Rattle.std.specs.Prelude.{is_none, slice_index_or}
use Rattle.grasp_cbor.proofs.Facts.Options.{on_err}
use Rattle.grasp_core.proofs.StreamNumbers.{held_numbers, all_numbers, no_cutter, some_held}
use Rattle.grasp_core.proofs.streams.Streams.closing_numbers.Goals as goal

pub returns-clause-are : goal.returns-clause-are
returns-clause-are c s h =
    let none_left : c.loop-left.left ≡ 0 = omega arith in
    subst (λ (k : ℕ). c.loop-left.numbers.items ≡ held_numbers (drop k c.args.self.now.held.items)) none_left c.loop-left.invariant.numbers_are ∙ all_numbers c.args.self.now s h

pub returns-in_err-put_number-clause-wanted : goal.returns-in_err-put_number-clause-wanted
returns-in_err-put_number-clause-wanted c =
    let place = c.loop-left.left - 1 in
    let within : place < length c.args.self.now.held.items = omega arith in
    let at : c.index-stream.result.now ≡ slice_index_or c.args.self.now.held.items place c.index-stream.result.now = c.index-stream.ensures in
    let none : is_none c.index-stream.result.now.cutter ≡ true = no_cutter c.index-stream.result.now.cutter c.is_none.result c.is_none.ensures c.if-is_none.true in
    let some : 1 ≤ length (held_numbers c.args.self.now.held.items) = some_held c.args.self.now.held.items place c.index-stream.result.now within at none in
    on_err c.from_residual.result (λ s h. subst (λ (l : List ℕ). 1 ≤ length l) (all_numbers c.args.self.now s h) some)
