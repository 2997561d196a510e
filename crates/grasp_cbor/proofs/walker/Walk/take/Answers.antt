use Rattle.std.proofs.Common.{◌≡◌, None, refl, arith}
use Rattle.std.proofs.lemmas.List.{length_push}
use Rattle.grasp_cbor.specs.declared.walker.Stage.TheVariants.{Beginning}
use Rattle.grasp_cbor.specs.Step.{goes, whole, step}
use Rattle.grasp_cbor.specs.Walking.{open_levels}
use Rattle.grasp_cbor.proofs.Taking.{more, is_open, took_more, took_fresh, is_whole, is_fault}
use Rattle.grasp_cbor.proofs.walker.Walk.take.Goals as goal

pub returns-then-self-clause-exact : goal.returns-then-self-clause-exact
returns-then-self-clause-exact c =
    λ s t. let k = c.advance.ensures.kept in
    let taken = k.0 in
    let limit = k.1 in
    let q = t.taken in
    let same = c.if-self.true in
    let e : step (open_levels c.args.self.now) c.args.self.now.string c.args.self.now.stage c.args.byte ≡ goes (open_levels c.advance.new.self) c.advance.new.self.string c.advance.new.self.stage = rw c.in-Ok-More.field-0-is at c.in-Ok-More.ensures.made in
    (is_open c.advance.new.self _ (more c.args.self.now c.advance.new.self s c.args.byte t (omega arith) e), omega arith, omega arith)

pub returns-in-Err-clause-exact : goal.returns-in-Err-clause-exact
returns-in-Err-clause-exact c =
    λ s t. let taken = c.advance.ensures.kept.0 in
    let q = t.taken in
    (is_fault c.args.self.now s c.args.byte c.in-Err.name _ t (omega arith) c.in-Err.ensures.made refl, omega arith, omega arith)

pub returns-in-Ok-Whole-clause-exact : goal.returns-in-Ok-Whole-clause-exact
returns-in-Ok-Whole-clause-exact c =
    λ s t. let k : (step (open_levels c.args.self.now) c.args.self.now.string c.args.self.now.stage c.args.byte ≡ whole) × (c.advance.new.self.depth ≡ 0) × (c.advance.new.self.string ≡ None) × (c.advance.new.self.stage ≡ Beginning) = rw c.in-Ok-Whole.field-0-is at c.in-Ok-Whole.ensures.made in
    let below = t.below in
    let limit = c.advance.ensures.kept.1 in
    (is_whole c.args.self.now s c.args.byte t (omega arith) k.0, took_fresh _ k.1 k.2 k.3 refl (omega arith))

pub returns-else-self-clause-exact : goal.returns-else-self-clause-exact
returns-else-self-clause-exact c =
    λ s t. let e : step (open_levels c.args.self.now) c.args.self.now.string c.args.self.now.stage c.args.byte ≡ goes (open_levels c.advance.new.self) c.advance.new.self.string c.advance.new.self.stage = rw c.in-Ok-More.field-0-is at c.in-Ok-More.ensures.made in
    let h = more c.args.self.now c.advance.new.self s c.args.byte t (omega arith) e in
    let below = t.below in
    let taken = c.advance.ensures.kept.0 in
    let limit = c.advance.ensures.kept.1 in
    let other = c.if-self.false in
    let q = t.taken in
    (is_open c.advance.new.self _ h, took_more c.advance.new.self _ h (omega (arith, length_push s c.args.byte)) (omega arith))
