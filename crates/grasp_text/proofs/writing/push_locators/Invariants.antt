use Rattle.std.proofs.Common.{◌≡◌, ◌++◌, take, string_bytes}
use Rattle.std.specs.List.{AllByRecursion}
use Rattle.grasp_types.specs.Address.{IsLocator}
use Rattle.grasp_text.specs.Line.{all_locator_words}
use Rattle.grasp_text.specs.Words.{spaced}
use Rattle.grasp_text.proofs.writing.push_locators.Given as goal

abbrev pub invariant-loop-locator : goal.invariant-loop-locator
invariant-loop-locator l = record {
  text : string_bytes l.out ≡ string_bytes l.fn.out ++ spaced (all_locator_words (take l.locator-index l.locators));
  ranges : AllByRecursion IsLocator (take l.locator-index l.locators);
}
