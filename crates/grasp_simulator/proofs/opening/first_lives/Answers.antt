use Rattle.std.proofs.Common.{rules, ◌≡◌, ◌+◌, ◌++◌, ◌∷◌, [], ℕ, List, suc, sym, ap, ◌∙◌, arith}
use Rattle.grasp_model_network.specs.Setting.{numbers_from}
use Rattle.grasp_simulator.proofs.SeatLists.{numbers_more}
use Rattle.grasp_simulator.proofs.opening.first_lives.Goals as goal

pub loop-before-init : goal.loop-before-init
unfolding numbers_from
loop-before-init c = search rules

as_suc : (n : ℕ) → n + 1 ≡ suc n
as_suc n = omega arith

pub loop-before-preserved : goal.loop-before-preserved
loop-before-preserved c =
    let same : c.loop-before.before + 1 ≡ 1 + c.loop-before.before = omega arith in
    c.in_ok-push.ensures.ok
    ∙ (ap (λ (l : List ℕ). l ++ (c.loop-before.before + 1) ∷ []) c.loop-before.invariant
    ∙ (ap (λ (n : ℕ). numbers_from 1 c.loop-before.before ++ n ∷ []) same ∙ (sym (numbers_more 1 c.loop-before.before) ∙ ap (λ (n : ℕ). numbers_from 1 n) (sym (as_suc c.loop-before.before)))))
