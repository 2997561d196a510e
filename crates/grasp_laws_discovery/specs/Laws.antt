-- What is so of answers, responses and cached locators in every network that turns lead to.
use Rattle.std.specs.Prelude.{◌≡◌, ℕ, List, Some, All}
use Rattle.grasp_discovery.specs.Topic.{topic_of}
use Rattle.grasp_discovery.specs.declared.topic.Topic.{Topic}
use Rattle.grasp_model_network.specs.Events.{Occurs, visit_of}
use Rattle.grasp_model_network.specs.GoodSetting.{IsGoodSetting}
use Rattle.grasp_model_network.specs.Notes.{SearchesDiffer}
use Rattle.grasp_model_network.specs.Runs.{Happening, IsRun, IsReached, first_world, worlds_from}
use Rattle.grasp_model_network.specs.Setting.{Setting}
use Rattle.grasp_model_network.specs.Visits.{Visit, Choice}
use Rattle.grasp_model_network.specs.World.{WorldState}
use Rattle.grasp_model_network.specs.declared.event.Event.{Event}
use Rattle.grasp_laws_floods.specs.Sought.{DiscoveriesAreSought}
use Rattle.grasp_types.specs.declared.address.Address.{Address}
use Rattle.grasp_types.specs.declared.address.Locator.{Locator}
use Rattle.grasp_types.specs.declared.call.Call.TheVariants as call
use Rattle.grasp_types.specs.declared.reply.ApiAnswer.TheVariants as answer
use Rattle.grasp_types.specs.declared.reply.Reply.TheVariants as reply
use Rattle.grasp_types.specs.declared.session.Kind.{Kind}
use Rattle.grasp_types.specs.declared.traffic.Input.TheVariants as input
use Rattle.grasp_laws_discovery.specs.Locators.{AnswersAreReal, WasAnswered, WasLookedFor, ResponsesAreReal, IsTheSearch, CachesAreReal}

-- P holds of each network that turns lead to, and of each network of a run
pub record OfEachWorld (P : Setting → WorldState → Type 0) : Type 0 where
  pub reached : (s : Setting) (w : WorldState) → IsReached s w → P s w
  pub worlds : (s : Setting) (hs : List Happening) → IsGoodSetting s → IsRun s (first_world s) hs → All (P s) (worlds_from s (first_world s) hs)

-- P holds of the network, where no two searches were begun under one session number at one address
abbrev pub WhereSearchesDiffer : (Setting → WorldState → Type 0) → Setting → WorldState → Type 0
WhereSearchesDiffer P s w = SearchesDiffer w → P s w

-- each answer that is noted was made to a discovery that was sent
abbrev pub EachAnswerIsReal : Type 0
EachAnswerIsReal = OfEachWorld AnswersAreReal

-- each response tells locators that were answered for what its session number and its initiator look for
abbrev pub EachResponseIsReal : Type 0
EachResponseIsReal = OfEachWorld (WhereSearchesDiffer ResponsesAreReal)

-- what a session number and an initiator look for is what the search of that number and initiator looks for
abbrev pub LookedForIsSearched : Type 0
LookedForIsSearched = (s : Setting) (w : WorldState) → IsReached s w → SearchesDiffer w → (k : DiscoveriesAreSought w) → (session : ℕ) (initiator : Address) (topic : Topic)
    → WasLookedFor w session initiator topic → IsTheSearch w k session initiator topic

-- each locator that a node has cached was answered by its node
abbrev pub EachCachedIsReal : Type 0
EachCachedIsReal = OfEachWorld (WhereSearchesDiffer CachesAreReal)

-- each locator that an agent is told to have found was answered by its node, before the event at which it is told
abbrev pub EachFoundIsReal : Type 0
EachFoundIsReal = (s : Setting) (w : WorldState) (e : Event) (c : Choice) (v : Visit) → IsReached s w → SearchesDiffer w → Occurs s w e c → visit_of s w e ≡ Some v
    → (asa : ℕ) (name : List ℕ) (kind : Kind) (loops timeout : ℕ) (locators : List Locator) → v.input ≡ input.Api asa (call.Discover name kind loops timeout)
    → c.reply ≡ reply.Api (answer.Found locators) → All (WasAnswered s w (topic_of name kind)) locators
