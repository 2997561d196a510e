use Rattle.std.proofs.Common.{rules, ◌++◌, ◌∷◌, [], List, ℕ, Some, Ok, sym, ap, ◌∙◌}
use Rattle.grasp_types.specs.declared.address.Locator.{Locator}
use Rattle.grasp_types.specs.declared.objective.Objective.{Objective}
use Rattle.grasp_text.specs.Grammar.{answers_at, locators_at}
use Rattle.grasp_text.specs.Reading.{Parsed, ◌>>=◌}
use Rattle.grasp_text.proofs.ListLaws.{answers_over, answers_objective, answers_locator}
use Rattle.grasp_text.proofs.PartLaws.{locator_shorter}
use Rattle.grasp_text.proofs.lists.read_answers.Goals as goal

pub returns-in_err-objective : goal.returns-in_err-objective
returns-in_err-objective c =
    let t = answers_objective c.loop-alloc.locators c.loop-alloc.words (answers_at c.args.words.now) (search rules) c.loop-alloc.invariant in
    rw t (search rules)

pub returns-then-is_next : goal.returns-then-is_next
returns-then-is_next c =
    let before : List Locator = c.loop-alloc.locators in
    let t = answers_objective before c.loop-alloc.words (answers_at c.args.words.now) (search rules) c.loop-alloc.invariant in
    t ∙ ap (λ (r : Parsed Objective). r >>= λ objective. Ok ((before, Some objective.0), objective.1)) c.in_ok-objective.ensures

pub returns-in_err-next : goal.returns-in_err-next
returns-in_err-next c =
    let t = answers_locator c.loop-alloc.locators c.loop-alloc.words (answers_at c.args.words.now) (search rules) (search rules) c.loop-alloc.invariant in
    rw t (search rules)

pub loop-alloc-smaller : goal.loop-alloc-smaller
loop-alloc-smaller c = locator_shorter c.loop-alloc.words c.in_ok-next.next c.read_locator-in-loop-alloc.new.words c.in_ok-next.ensures

pub loop-alloc-preserved : goal.loop-alloc-preserved
loop-alloc-preserved c =
    let before : List Locator = c.loop-alloc.locators in
    let left : List (List ℕ) = c.read_locator-in-loop-alloc.new.words in
    let t = answers_locator before c.loop-alloc.words (answers_at c.args.words.now) (search rules) (search rules) c.loop-alloc.invariant in
    ap (λ (x : List Locator). locators_at x left) c.in_ok-push.ensures.ok
    ∙ sym (t ∙ ap (λ (r : Parsed Locator). r >>= λ next. locators_at (before ++ next.0 ∷ []) next.1) c.in_ok-next.ensures)

pub returns : goal.returns
returns c = answers_over c.loop-alloc.locators c.loop-alloc.words (answers_at c.args.words.now) (search rules) c.loop-alloc.invariant
