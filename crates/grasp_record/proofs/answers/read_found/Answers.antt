use Rattle.std.proofs.Common.{rules, List, ℕ, sym, ap, ◌∙◌}
use Rattle.grasp_types.specs.Address.{IsLocator}
use Rattle.grasp_types.specs.declared.address.Locator.{Locator}
use Rattle.grasp_text.specs.Grammar.{locator_at}
use Rattle.grasp_text.specs.Line.{locator_words}
use Rattle.grasp_record.specs.Grammar.{each_at, as_found, found_at}
use Rattle.grasp_record.proofs.AnswerLaws.{locators_exact, locator_long}
use Rattle.grasp_text.specs.Reading.{Parsed}
use Rattle.grasp_record.proofs.Each.{goes_on, each_shorter, each_over, each_next}
use Rattle.grasp_record.proofs.answers.read_found.Goals as goal

pub returns-in_err-next : goal.returns-in_err-next
returns-in_err-next c =
    let t = each_next IsLocator locator_words locator_at locators_exact locator_long as_found c.loop-alloc.locators c.loop-alloc.words (found_at c.args.words.now) (search rules) c.loop-alloc.invariant in
    rw t (search rules)

pub loop-alloc-smaller : goal.loop-alloc-smaller
loop-alloc-smaller c = each_shorter IsLocator locator_words locator_at locators_exact locator_long c.loop-alloc.words c.in_ok-next.next c.read_locator-in-loop-alloc.new.words c.in_ok-next.ensures

pub loop-alloc-preserved : goal.loop-alloc-preserved
loop-alloc-preserved c =
    let before : List Locator = c.loop-alloc.locators in
    let left : List (List ℕ) = c.read_locator-in-loop-alloc.new.words in
    let t = each_next IsLocator locator_words locator_at locators_exact locator_long as_found before c.loop-alloc.words (found_at c.args.words.now) (search rules) c.loop-alloc.invariant in
    ap (λ (x : List Locator). as_found (each_at locator_at x left)) c.in_ok-push.ensures.ok
    ∙ sym (t ∙ ap (λ (r : Parsed Locator). as_found (goes_on (each_at locator_at) before r)) c.in_ok-next.ensures)

pub returns : goal.returns
returns c = each_over IsLocator locator_words locator_at locators_exact locator_long as_found c.loop-alloc.locators c.loop-alloc.words (found_at c.args.words.now) (search rules) c.loop-alloc.invariant
