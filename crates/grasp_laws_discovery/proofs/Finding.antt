-- The laws: what is so of responses, of caches and of what agents find.
use Rattle.std.proofs.Common.{◌≡◌, sym, subst, ℕ, Bool, true, false, cond, List, [], ◌∷◌, Option, None, Some, All}
use Rattle.std.specs.Prelude.{find}
use Rattle.std.proofs.lemmas.List.Elements.{All-cons, All-nil}
use Rattle.grasp_laws_node.proofs.Remembered.{Begun, begun}
use Rattle.grasp_model_node.specs.Begin.{begin}
use Rattle.grasp_model_node.specs.FloodCalls.{found_as}
use Rattle.grasp_model_node.specs.Node.{NodeState}
use Rattle.grasp_model_node.specs.Step.{Calls, Acts}
use Rattle.grasp_discovery.specs.Discoveries.{cached_under, locators_of, find_reply, is_search_of}
use Rattle.grasp_discovery.specs.Topic.{topic_of}
use Rattle.grasp_discovery.specs.declared.answers.Find.TheVariants as finds
use Rattle.grasp_discovery.specs.declared.search.Search.{Search}
use Rattle.grasp_discovery.specs.declared.topic.Topic.{Topic}
use Rattle.grasp_types.specs.declared.address.Locator.{Locator}
use Rattle.grasp_types.specs.declared.call.Call.TheVariants as call
use Rattle.grasp_types.specs.declared.reply.ApiAnswer.TheVariants as answer
use Rattle.grasp_types.specs.declared.reply.Reply.{Reply}
use Rattle.grasp_types.specs.declared.reply.Reply.TheVariants as reply
use Rattle.grasp_types.specs.declared.session.Kind.{Kind}
use Rattle.grasp_types.specs.declared.traffic.Input.{Input}
use Rattle.grasp_laws_network.proofs.Going.{reached_more}
use Rattle.grasp_laws_network.proofs.Here.{visits_are_here}
use Rattle.grasp_model_network.proofs.Facts.{first_reached}
use Rattle.grasp_model_network.specs.Events.{after_event}
use Rattle.grasp_model_network.specs.Runs.{Happening, IsRun, IsReached, first_world, worlds_from}
use Rattle.grasp_model_network.specs.Setting.{Setting}
use Rattle.grasp_model_network.specs.Visits.{Visit, MayCome, VisitStep}
use Rattle.grasp_model_network.specs.World.{WorldState}
use Rattle.grasp_laws_delivery.specs.Pieces.{WhatWasSaidIsGiven}
use Rattle.grasp_laws_floods.specs.Laws.{DiscoveriesAreReal}
use Rattle.grasp_laws_floods.specs.Sought.{SearchIsTold}
use Rattle.grasp_laws_delivery.specs.Divided.{DatagramsAreMessages}
use Rattle.grasp_laws_discovery.proofs.Answering.{noted_real}
use Rattle.grasp_laws_discovery.proofs.Caching.{AreEntries, AreTold, expiry_entries, found_real}
use Rattle.grasp_laws_discovery.proofs.Networks.{WorldReal, worlds_real}
use Rattle.grasp_laws_discovery.proofs.Telling.{sent_real}
use Rattle.grasp_laws_discovery.specs.Laws.{OfEachWorld, WhereSearchesDiffer, EachAnswerIsReal, EachResponseIsReal, EachCachedIsReal, EachFoundIsReal}
use Rattle.grasp_laws_discovery.specs.Locators.{AnswersAreReal, WasAnswered, ResponsesAreReal, CachesAreReal}

-- ---- each world of a run

-- P holds of each network of a run from this network on, where it holds of each network that turns lead to
each_world : (P : Setting → WorldState → Type 0) (s : Setting) → ((w : WorldState) → IsReached s w → P s w) → (hs : List Happening) (w : WorldState) → IsRun s w hs → IsReached s w
    → All (P s) (worlds_from s w hs)
unfolding IsRun worlds_from
each_world P s each [] w run r = All-cons (P s) w [] (each w r) (All-nil (P s))
each_world P s each (h ∷ hs) w run r =
    All-cons (P s) w (worlds_from s (after_event s w h.event h.choice) hs) (each w r)
    (each_world P s each hs (after_event s w h.event h.choice) run.1 (reached_more s w h.event h.choice r run.0))

of_each_world : (P : Setting → WorldState → Type 0) → ((s : Setting) (w : WorldState) → IsReached s w → P s w) → OfEachWorld P
of_each_world P each = record {
  reached = each;
  worlds = λ s hs good run. each_world P s (each s) hs (first_world s) run (first_reached s good);
}

-- ---- the laws

module _ (given : WhatWasSaidIsGiven) (real : DiscoveriesAreReal) (told : SearchIsTold) (messages : DatagramsAreMessages) where
  pub responses_are_real : EachResponseIsReal
  responses_are_real = of_each_world (WhereSearchesDiffer ResponsesAreReal) (λ s w r differ. from s w (worlds_real given real told messages s w r differ)) where
    from : (s : Setting) (w : WorldState) → WorldReal s w → ResponsesAreReal s w
    from s w k = record {
      said = λ place t found. (k.streams place t found).said;
      sent = λ place t found. sent_real s w t (k.streams place t found);
      queued = λ node seat here. (k.nodes node seat here).queue;
    }

  pub cached_are_real : EachCachedIsReal
  cached_are_real = of_each_world (WhereSearchesDiffer CachesAreReal) (λ s w r differ. from s w (worlds_real given real told messages s w r differ)) where
    from : (s : Setting) (w : WorldState) → WorldReal s w → CachesAreReal s w
    from s w k = record { cached = λ node seat here. (k.nodes node seat here).cached }

pub answers_are_real : DiscoveriesAreReal → DatagramsAreMessages → EachAnswerIsReal
answers_are_real real messages = of_each_world AnswersAreReal (λ s w r. record { answers = noted_real real messages s w r })

-- ---- what is found

found_same : (xs ys : List Locator) → answer.Found xs ≡ answer.Found ys → xs ≡ ys
found_same xs ys e = cc

search_not_found : (search : Option Search) (locators : List Locator) → answer.Found locators ≡ found_as (find_reply None search) → ⊥
search_not_found None locators e = absurd (cc)
search_not_found (Some search) locators e = by_test search.over e where
  by_test : (b : Bool) → answer.Found locators ≡ found_as (cond b finds.Nothing finds.NotYet) → ⊥
  by_test true f = absurd (cc)
  by_test false f = absurd (cc)

found_are : (s : Setting) (w : WorldState) (topic : Topic) (o : Option (List Locator)) (search : Option Search) (locators : List Locator) → answer.Found locators ≡ found_as (find_reply o search)
    → AreTold s w topic o → All (WasAnswered s w topic) locators
found_are s w topic None search locators e are = absurd (search_not_found search locators e)
found_are s w topic (Some others) search locators e are = subst (All (WasAnswered s w topic)) (sym (found_same locators others e)) are

begun_entries : (s : Setting) (w : WorldState) (n : NodeState) (now : ℕ) → AreEntries s w n.discoveries → AreEntries s w (begin n now).discoveries
begun_entries s w n now k = from (begun n now) where
  from : Begun n (begin n now) now → AreEntries s w (begin n now).discoveries
  from b = subst (AreEntries s w) (sym b.discoveries) (expiry_entries s w n.discoveries _ k)

called_found : (s : Setting) (w : WorldState) (n after : NodeState) (asa : ℕ) (name : List ℕ) (kind : Kind) (loops timeout : ℕ) (locators : List Locator)
    → Calls n asa (call.Discover name kind loops timeout) (reply.Api (answer.Found locators)) after → AreEntries s w n.discoveries → All (WasAnswered s w (topic_of name kind)) locators
called_found s w n after asa name kind loops timeout locators c k =
    found_are s w (topic_of name kind) (locators_of (cached_under (topic_of name kind) n.discoveries.entries)) (find (is_search_of asa (topic_of name kind)) n.discoveries.searches) locators c.0.2
    (found_real s w n.discoveries (topic_of name kind) k)

pub found_are_real : EachCachedIsReal → EachFoundIsReal
found_are_real cached s w e c v r differ occurs is asa name kind loops timeout locators same said = from (subst (λ (o : Option Visit). MayCome o c) is occurs.comes) where
  entries : AreEntries s w v.seat.core.discoveries
  entries = (cached.reached s w r differ).cached v.node v.seat (visits_are_here s w e v is).stands

  from : VisitStep v c → All (WasAnswered s w (topic_of name kind)) locators
  from step =
      called_found s w (begin v.seat.core v.now) c.after asa name kind loops timeout locators
      (subst (λ (x : Reply). Calls (begin v.seat.core v.now) asa (call.Discover name kind loops timeout) x c.after) said
      (subst (λ (i : Input). Acts (begin v.seat.core v.now) i c.coming c.reply c.after) same step.steps.acts)) (begun_entries s w v.seat.core v.now entries)
