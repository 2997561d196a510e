-- What each answer of a call on agents and objectives means, in plain facts (RFC 8991, section 2.3.3).
use Rattle.std.specs.Prelude.{◌≡◌, ◌≢◌, ◌<◌, ◌+◌, ◌==◌, ◌++◌, ℕ, true, false, not, List, [], ◌∷◌, length, Option, None, Some, Ok, map, filter}
use Rattle.std.specs.List.{list_any}
use Rattle.grasp_asa.specs.Answers.{marked, offering, listener_of, value_offered}
use Rattle.grasp_asa.specs.Registrations.{is_registered, is_agent_name, is_taken, is_both_or_neither, is_dry_alone, is_numbered, is_owned_by, is_of}
use Rattle.grasp_cbor.specs.DataItem.{DataItem}
use Rattle.grasp_discovery.specs.Discoveries.{without_asa}
use Rattle.grasp_session.specs.Says.{IsAt}
use Rattle.grasp_session.specs.Sessions.{Sessions, SessionState}
use Rattle.grasp_session.specs.Transcript.{session_of}
use Rattle.grasp_types.specs.declared.message.Message.{Message}
use Rattle.grasp_types.specs.declared.message.Message.TheVariants.{End}
use Rattle.grasp_types.specs.declared.message.Verdict.TheVariants.{Decline}
use Rattle.grasp_types.specs.declared.call.Call.TheVariants.{ListenSynchronize, StopListenSynchronize}
use Rattle.grasp_types.specs.declared.reply.ApiAnswer.{ApiAnswer}
use Rattle.grasp_types.specs.declared.reply.ApiAnswer.TheVariants as answer
use Rattle.grasp_model_node.specs.Declines.{unlistened}
use Rattle.grasp_laws_node.specs.Means.{Negotiates, IsUntaken}
use Rattle.grasp_laws_node.specs.MeansRequests.{Synchronizes}
use Rattle.grasp_model_node.specs.Node.{NodeState}
use Rattle.grasp_model_node.specs.Queue.{Queued, send}
use Rattle.grasp_model_node.specs.RegistryCalls.{MayRegisterAsa, after_registering_asa, MayRegisterObjective, after_registering_objective, MayDeregisterObjective, after_deregistering_objective, MayDeregisterAsa, after_deregistering_asa, MayStopListening, after_stopping}
use Rattle.grasp_model_node.specs.BoundedNodes.{IsBoundedNode}
use Rattle.grasp_model_node.specs.Step.{MayCall, after_call}
use Rattle.grasp_model_node.specs.Streams.{past_of, record_of}
use Rattle.grasp_model_node.specs.Tests.{owned_flags}

-- ---- agents and objectives come

-- the agent comes last, with the next number; nothing else has changed
pub record RegisterAsaFacts (n : NodeState) (name : List ℕ) (a : ApiAnswer) (after : NodeState) : Type 0 where
  pub few : length n.registrations.agents < 32
  pub numbers_left : n.registrations.made == 4294967295 ≡ false
  pub free : is_agent_name n.registrations name ≡ false
  pub told : a ≡ answer.Asa (n.registrations.made + 1)
  pub leads : after ≡ record n {
    registrations = record n.registrations {
      agents = n.registrations.agents ++ record { number = n.registrations.made + 1; name = name } ∷ [];
      made = n.registrations.made + 1;
    };
  }

abbrev pub RegisterAsaMeans : Type 0
RegisterAsaMeans = (n : NodeState) (name : List ℕ) (a : ApiAnswer) → MayRegisterAsa n name (Ok a) → RegisterAsaFacts n name a (after_registering_asa n name (Ok a))

-- the objective comes last, neither listened for nor offered; nothing else has changed
pub record RegisterObjectiveFacts (n : NodeState) (asa : ℕ) (name : List ℕ) (flags : ℕ) (a : ApiAnswer) (after : NodeState) : Type 0 where
  pub done : a ≡ answer.Done
  pub registered : is_registered n.registrations asa ≡ true
  pub one_use : is_both_or_neither flags ≡ false
  pub few : length n.registrations.objectives < 64
  pub free : is_taken n.registrations name ≡ false
  pub dry : is_dry_alone flags ≡ false
  pub leads : after ≡ record n {
    registrations = record n.registrations {
      objectives = n.registrations.objectives ++ record { owner = asa; name = name; flags = flags; listening = false; offered = None } ∷ [];
    };
  }

abbrev pub RegisterObjectiveMeans : Type 0
RegisterObjectiveMeans = (n : NodeState) (asa : ℕ) (name : List ℕ) (flags : ℕ) (a : ApiAnswer) → MayRegisterObjective n asa name flags (Ok a)
    → RegisterObjectiveFacts n asa name flags a (after_registering_objective n asa name flags (Ok a))

-- ---- listen_synchronize and its end

-- the agent's objective is offered with this value, or with none; nothing else has changed
pub record OfferFacts (n : NodeState) (asa : ℕ) (name : List ℕ) (value : Option DataItem) (a : ApiAnswer) (after : NodeState) : Type 0 where
  pub done : a ≡ answer.Done
  pub synchronizes : Synchronizes n asa name
  pub leads : after ≡ record n { registrations = record n.registrations { objectives = map (offering name value) n.registrations.objectives } }
  pub offered : value_offered after.registrations name ≡ value

abbrev pub OfferMeans : Type 0
OfferMeans = (n : NodeState) (asa : ℕ) (name : List ℕ) (value : DataItem) (a : ApiAnswer) → MayCall n asa (ListenSynchronize name value) (Ok a)
    → OfferFacts n asa name (Some value) a (after_call n asa (ListenSynchronize name value) (Ok a))

abbrev pub StopOfferMeans : Type 0
StopOfferMeans = (n : NodeState) (asa : ℕ) (name : List ℕ) (a : ApiAnswer) → MayCall n asa (StopListenSynchronize name) (Ok a)
    → OfferFacts n asa name None a (after_call n asa (StopListenSynchronize name) (Ok a))

-- ---- agents and objectives leave

-- sessions, streams and the queue apart, all is as it was
pub record KeepsRest (n after : NodeState) : Type 0 where
  pub plan : after.plan ≡ n.plan
  pub reading : after.reading ≡ n.reading
  pub registrations : after.registrations ≡ n.registrations
  pub discoveries : after.discoveries ≡ n.discoveries
  pub floods : after.floods ≡ n.floods
  pub drawn : after.drawn ≡ n.drawn

-- No untaken session of the objective is left; every other session is where and as it was, and none comes
pub record OnlyUntakenLeave (name : List ℕ) (before after : Sessions) : Type 0 where
  pub none_left : (place : ℕ) (x : SessionState) → IsAt after place x → IsUntaken name x → ⊥
  pub others_stay : (place : ℕ) (x : SessionState) → IsAt before place x → (IsUntaken name x → ⊥) → IsAt after place x
  pub none_comes : (place : ℕ) (x : SessionState) → IsAt after place x → IsAt before place x

-- what was queued ends an untaken session of the objective, on its stream, for the reason "unlistened"
pub record EndsUntaken (name : List ℕ) (z : Sessions) (stream : ℕ) (m : Message) : Type 0 where
  pub place : ℕ
  pub session : SessionState
  pub at : IsAt z place session
  pub untaken : IsUntaken name session
  pub stream_is : stream ≡ session.stream
  pub message_is : m ≡ End (session_of session.view) (Decline (Some unlistened))

abbrev pub IsDecline : List ℕ → Sessions → Queued → Type 0
IsDecline name z (send stream m) = EndsUntaken name z stream m
IsDecline name z _ = ⊥

abbrev pub AreDeclines : List ℕ → Sessions → List Queued → Type 0
AreDeclines name z [] = Unit {0}
AreDeclines name z (q ∷ qs) = IsDecline name z q × AreDeclines name z qs

-- nothing is queued but declines of the objective's untaken sessions, behind all others; the streams of these begin closing,
-- and each other stream is as it was
pub record Declines (name : List ℕ) (n after : NodeState) : Type 0 where
  pub more : List Queued
  pub queued : after.queue ≡ n.queue ++ more
  pub each : AreDeclines name n.sessions more
  pub closes : (place : ℕ) (x : SessionState) → IsAt n.sessions place x → IsUntaken name x → past_of after.streams x.stream ≡ None
  pub records : (stream : ℕ) → ((place : ℕ) (x : SessionState) → IsAt n.sessions place x → IsUntaken name x → stream ≢ x.stream)
      → record_of after.streams stream ≡ record_of n.streams stream

-- the objective isn't listened for any more
pub record StopFacts (n : NodeState) (asa : ℕ) (name : List ℕ) (a : ApiAnswer) (after : NodeState) : Type 0 where
  pub done : a ≡ answer.Done
  pub negotiates : Negotiates n asa name
  pub rest : KeepsRest (record n { registrations = record n.registrations { objectives = map (marked name false) n.registrations.objectives } }) after
  pub unlistened : listener_of after.registrations name ≡ None
  pub sessions : OnlyUntakenLeave name n.sessions after.sessions
  pub declines : Declines name n after

abbrev pub StopMeans : Type 0
StopMeans = (n : NodeState) (asa : ℕ) (name : List ℕ) (a : ApiAnswer) → IsBoundedNode n → MayStopListening n asa name (Ok a) → StopFacts n asa name a (after_stopping n asa name (Ok a))

-- the agent's objective is gone
pub record DeregisterObjectiveFacts (n : NodeState) (asa : ℕ) (name : List ℕ) (a : ApiAnswer) (after : NodeState) : Type 0 where
  pub done : a ≡ answer.Done
  pub registered : is_registered n.registrations asa ≡ true
  pub flags : ℕ
  pub own : owned_flags n asa name ≡ Some flags
  pub rest : KeepsRest (record n { registrations = record n.registrations { objectives = filter (λ o. not (is_of asa name o)) n.registrations.objectives } }) after
  pub gone : owned_flags after asa name ≡ None
  pub sessions : OnlyUntakenLeave name n.sessions after.sessions
  pub declines : Declines name n after

abbrev pub DeregisterObjectiveMeans : Type 0
DeregisterObjectiveMeans = (n : NodeState) (asa : ℕ) (name : List ℕ) (a : ApiAnswer) → IsBoundedNode n → MayDeregisterObjective n asa name (Ok a)
    → DeregisterObjectiveFacts n asa name a (after_deregistering_objective n asa name (Ok a))

-- no such agent, and no objective, search or live session of it is left
pub record DeregisterAsaFacts (n : NodeState) (asa : ℕ) (a : ApiAnswer) (after : NodeState) : Type 0 where
  pub done : a ≡ answer.Done
  pub registered : is_registered n.registrations asa ≡ true
  pub rest : KeepsRest
      (record n {
        registrations = record n.registrations {
          agents = filter (λ x. not (is_numbered asa x)) n.registrations.agents;
          objectives = filter (λ o. not (is_owned_by asa o)) n.registrations.objectives;
        };
        discoveries = without_asa n.discoveries asa;
      })
      after
  pub unregistered : is_registered after.registrations asa ≡ false
  pub no_objective : list_any (is_owned_by asa) after.registrations.objectives ≡ false
  pub no_search : list_any (λ search. search.asa == asa) after.discoveries.searches ≡ false
  pub no_session : (place : ℕ) (x : SessionState) → IsAt after.sessions place x → x.owner ≢ asa

abbrev pub DeregisterAsaMeans : Type 0
DeregisterAsaMeans = (n : NodeState) (asa : ℕ) (a : ApiAnswer) → IsBoundedNode n → MayDeregisterAsa n asa (Ok a) → DeregisterAsaFacts n asa a (after_deregistering_asa n asa (Ok a))
