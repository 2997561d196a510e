use Rattle.std.proofs.Common.{◌≡◌, ◌∙◌, ℕ, List, ap, drop, length, subst, sym}
use Rattle.std.specs.Prelude.{IfOk}
use Rattle.grasp_pool.specs.declared.image.PoolImage.{PoolImage}
use Rattle.grasp_store.specs.Images.{IsGoodImage}
use Rattle.grasp_store.specs.Opening.{IsFrom}
use Rattle.grasp_store.specs.Slots.{saved_in, slot_size}
use Rattle.grasp_store.proofs.Taking.{good_there, image_there, size_at}
use Rattle.grasp_store.proofs.opening.take.Goals as goal

pub from_slot-requires-clause-size : goal.from_slot-requires-clause-size
from_slot-requires-clause-size c =
    subst (λ (l : List ℕ). length l ≡ slot_size) (sym c.slot_at.ensures) (size_at c.in-Some.place c.args.first.now c.args.second.now c.requires.first c.requires.second)

pub from_slot-requires-clause-good : goal.from_slot-requires-clause-good
from_slot-requires-clause-good c =
    subst (λ (l : List ℕ). IsGoodImage (saved_in (drop 1 l)).image) (sym c.slot_at.ensures)
    (good_there c.args.roots.now c.args.first.now c.args.second.now c.args.current c.requires.open c.requires.sound c.in-Some.place c.in-Some.is)

pub returns-in-Some-clause-from : goal.returns-in-Some-clause-from
returns-in-Some-clause-from c =
    subst (λ (i : PoolImage). IfOk c.from_slot.result (λ r. IsFrom i r.0.image r.1))
    (ap (λ (l : List ℕ). (saved_in (drop 1 l)).image) c.slot_at.ensures
    ∙ image_there c.args.roots.now c.args.first.now c.args.second.now c.args.current c.requires.open c.requires.sound c.in-Some.place c.in-Some.is)
    c.from_slot.ensures.from
