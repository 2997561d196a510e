use Rattle.std.proofs.Common.{rules, ℕ, ◌≡◌, ◌+◌, ◌-◌, subst}
use Rattle.grasp_pool.specs.Parts.{BeginBelow, BeginFrom}
use Rattle.grasp_pool.proofs.Meeting.{answer_after, answer_before, none_before, none_below}
use Rattle.grasp_pool.proofs.overlapping.first_overlap.Goals as goal

pub returns-then-i-eq0 : goal.returns-then-i-eq0
returns-then-i-eq0 c =
    let xs = c.args.list.now
    in let p = c.args.prefix
    in answer_after xs p 0 c.requires.rising c.requires.apart
    (subst (λ (i : ℕ). BeginBelow xs i p.address) c.if-i-eq0.true (subst (λ (a : ℕ). BeginBelow xs c.place_of-i.result a) c.address.ensures.value c.place_of-i.ensures.below))
    (subst (λ (i : ℕ). BeginFrom xs i p.address) c.if-i-eq0.true (subst (λ (a : ℕ). BeginFrom xs c.place_of-i.result a) c.address.ensures.value c.place_of-i.ensures.above))
    c.overlap_at.result (none_below xs p) c.overlap_at.ensures

pub returns-in-Some : goal.returns-in-Some
returns-in-Some c =
    let xs = c.args.list.now
    in let p = c.args.prefix
    in let i = c.place_of-i.result
    in let one : (i - 1) + 1 ≡ i = search rules
    in answer_before xs p i c.requires.rising c.requires.apart
    (subst (λ (a : ℕ). BeginBelow xs i a) c.address.ensures.value c.place_of-i.ensures.below)
    (subst (λ (a : ℕ). BeginFrom xs i a) c.address.ensures.value c.place_of-i.ensures.above)
    (i - 1) c.in-Some.before one c.place_of-i.ensures.within c.in-Some.ensures

pub returns-in-None : goal.returns-in-None
returns-in-None c =
    let xs = c.args.list.now
    in let p = c.args.prefix
    in let i = c.place_of-i.result
    in let one : (i - 1) + 1 ≡ i = search rules
    in let below : BeginBelow xs i p.address = subst (λ (a : ℕ). BeginBelow xs i a) c.address.ensures.value c.place_of-i.ensures.below
    in let above : BeginFrom xs i p.address = subst (λ (a : ℕ). BeginFrom xs i a) c.address.ensures.value c.place_of-i.ensures.above
    in answer_after xs p i c.requires.rising c.requires.apart below above c.overlap_at-in-None.result
    (none_before xs p i c.requires.rising c.requires.apart below above (i - 1) one c.place_of-i.ensures.within c.in-None.ensures)
    c.overlap_at-in-None.ensures
