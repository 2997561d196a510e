-- What an agent without a search is answered.
use Rattle.std.proofs.Common.{◌≡◌, ℕ, Bool, true, false, cond, List, Option, None, Some, refl, sym, ap, ◌∙◌}
use Rattle.std.specs.Prelude.{find}
use Rattle.grasp_cbor.proofs.Facts.Lists.{missed}
use Rattle.grasp_types.specs.declared.address.Locator.{Locator}
use Rattle.grasp_discovery.specs.declared.answers.Find.{Find}
use Rattle.grasp_discovery.specs.declared.answers.Find.TheVariants.{NotYet, Nothing, Fresh}
use Rattle.grasp_discovery.specs.declared.search.Search.{Search}
use Rattle.grasp_discovery.specs.declared.topic.Topic.{Topic}
use Rattle.grasp_discovery.specs.Discoveries.{Discoveries, is_search_of, is_searching, cached_under, locators_of, find_reply, find_answer, after_find}

stands : (over : Bool) → cond over Nothing NotYet ≡ Fresh → ⊥
stands true e = cc
stands false e = cc

without : (ls : Option (List Locator)) (one : Option Search) → find_reply ls one ≡ Fresh → one ≡ None
without (Some ls) one e = absurd (cc)
without None (Some one) e = absurd (stands one.over e)
without None None e = refl

-- an agent that is answered that nothing is known or searched for has no search
pub fresh : (all : Discoveries) (asa : ℕ) (topic : Topic) (answer : Find) → answer ≡ find_answer all asa topic → answer ≡ Fresh → is_searching (after_find all asa topic answer) asa topic ≡ false
fresh all asa topic answer is e =
    ap (λ a. is_searching (after_find all asa topic a) asa topic) e
    ∙ missed (is_search_of asa topic) all.searches (without (locators_of (cached_under topic all.entries)) (find (is_search_of asa topic) all.searches) (sym is ∙ e))
