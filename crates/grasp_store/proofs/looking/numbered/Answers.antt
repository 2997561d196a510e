use Rattle.std.proofs.Common.{rules, ◌≡◌, ◌≢◌, ◌∙◌, ap, refl, subst, sym, false, true, List, ℕ, slice_index_or}
use Rattle.std.proofs.lemmas.List.{take_rest}
use Rattle.grasp_pool.proofs.Meeting.{false_misses}
use Rattle.grasp_store.specs.Images.{IsGoodImage}
use Rattle.grasp_store.specs.Slots.{number_at, saved_in}
use Rattle.grasp_store.proofs.TwoSlots.{open_numbered, open_spoilt, shut_numbered}
use Rattle.grasp_store.proofs.looking.numbered.Goals as goal

pub returns-then-slot-ne1-clause-good : goal.returns-then-slot-ne1-clause-good
returns-then-slot-ne1-clause-good c =
    let shut : slice_index_or c.args.slot.now 0 0 ≢ 1 = search rules
    in shut_numbered c.args.slot.now shut

pub returns-then-not-is_good-clause-bad : goal.returns-then-not-is_good-clause-bad
returns-then-not-is_good-clause-bad c =
    let is : slice_index_or c.args.slot.now 0 0 ≡ 1 = search rules
    in let bad : c.is_good.result ≡ false = search rules
    in (
      open_spoilt c.args.slot.now is
          (λ good. false_misses c.is_good.result bad (c.is_good.ensures.1 (subst (λ (l : List ℕ). IsGoodImage (saved_in l).image) (sym (take_rest c.args.slot.now 1)) good))),
      refl,
    )

pub returns-clause-good : goal.returns-clause-good
returns-clause-good c =
    let is : slice_index_or c.args.slot.now 0 0 ≡ 1 = search rules
    in let good : c.is_good.result ≡ true = search rules
    in open_numbered c.args.slot.now c.number.result is (subst (λ (l : List ℕ). IsGoodImage (saved_in l).image) (take_rest c.args.slot.now 1) (c.is_good.ensures.0 good))
    (c.number.ensures ∙ ap number_at (take_rest c.args.slot.now 1))
