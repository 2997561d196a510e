use Rattle.std.proofs.Common.{◌+◌, ◌-◌, false, take, drop, subst, arith}
use Rattle.std.proofs.lemmas.List.{length-take-le}
use Rattle.grasp_cbor.specs.Encodes.{Encodes}
use Rattle.grasp_types.specs.Message.{item_of, IsMessage}
use Rattle.grasp_wire.specs.ReadOn.{IsReadTo}
use Rattle.grasp_wire.specs.Stands.{rest_of}
use Rattle.grasp_wire.proofs.Finding.{none_taken, kept_front}
use Rattle.grasp_wire.proofs.Sure.{read_past}
use Rattle.grasp_wire.proofs.cutter.Cutter.take_message.Goals as goal

pub invariant_of-self-clause-read : goal.invariant_of-self-clause-read
invariant_of-self-clause-read c =
    let m = c.args.self.now in
    subst (λ s. ∥ IsReadTo m.fault false m.reader m.limit s ∥₁) (none_taken (m.start + c.args.used) (drop (m.start + c.args.used) m.held.items))
    (read_past m.fault m.whole m.reader m.limit (take (m.seen - m.start) (drop m.start m.held.items)) c.requires.open c.requires.whole m.read)

pub returns-in-Ok-Some-clause-answers : goal.returns-in-Ok-Some-clause-answers
returns-in-Ok-Some-clause-answers c =
    let m = c.args.self.now in
    let w = c.requires.item.1 in
    let found : IsMessage c.in-Ok-Some.message × Encodes (item_of c.in-Ok-Some.message) (take ((m.start + c.args.used) - m.start) (drop m.start c.deref.result.now)) = rw c.in-Ok-Some.field-0-is at c.in-Ok-Some.ensures.found in
    record {
      is_message = found.0;
      encodes = subst (λ s. Encodes (item_of c.in-Ok-Some.message) s) (kept_front c.deref.result.now m.held.items m.start c.args.used c.deref.ensures.value) found.1;
      fits = let l = w.within in let k = w.inside in omega (arith, length-take-le c.args.used (rest_of m) k);
    }
