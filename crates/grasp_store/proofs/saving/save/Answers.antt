use Rattle.std.proofs.Common.{◌≤◌, ◌+◌, ◌∙◌, List, ℕ, length, subst, sym}
use Rattle.grasp_store.specs.Slots.{body_size}
use Rattle.grasp_store.proofs.Saves.{body_short}
use Rattle.grasp_store.proofs.saving.save.Goals as goal

pub store-requires : goal.store-requires
store-requires g c =
    subst (λ (l : List ℕ). length l ≤ body_size) (sym (c.deref.ensures.value ∙ c.write.ensures.is)) (body_short (c.args.position.now.number + 1) c.args.next.now c.requires.few)
