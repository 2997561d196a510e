-- Which requests a node declines where nobody listens for them any more, and in which order. The reason and the order are this project's own.
use Rattle.std.specs.Prelude.{◌≡◌, ◌<◌, ◌-◌, ◌==◌, ◌↔◌, ◌++◌, ℕ, List, [], ◌∷◌, length, map, filter, take, AllPairs, Contains, Some, codes}
use Rattle.grasp_laws_node.specs.Consistent.{IsConsistent}
use Rattle.grasp_laws_node.specs.Means.{IsUntaken}
use Rattle.grasp_model_node.specs.Begin.{begin}
use Rattle.grasp_model_node.specs.BoundedNodes.{IsBoundedNode}
use Rattle.grasp_model_node.specs.Node.{NodeState}
use Rattle.grasp_model_node.specs.Queue.{Queued, send}
use Rattle.grasp_model_node.specs.Step.{Coming, NodeStep}
use Rattle.grasp_session.specs.Says.{IsAt}
use Rattle.grasp_session.specs.Sessions.{SessionState, Sessions}
use Rattle.grasp_session.specs.Transcript.{session_of}
use Rattle.grasp_types.specs.declared.call.Call.TheVariants.{DeregisterAsa, DeregisterObjective, StopListenNegotiate}
use Rattle.grasp_types.specs.declared.message.Message.TheVariants.{End}
use Rattle.grasp_types.specs.declared.message.Verdict.TheVariants.{Decline}
use Rattle.grasp_types.specs.declared.reply.ApiAnswer.{ApiAnswer}
use Rattle.grasp_types.specs.declared.reply.Reply.TheVariants as reply
use Rattle.grasp_types.specs.declared.traffic.Input.TheVariants as input

-- all live sessions of the objective that no agent has taken, by rising number
pub record AreUntaken (name : List ℕ) (z : Sessions) (sessions : List SessionState) : Type 0 where
  pub rising : AllPairs (λ x y. x.number < y.number) sessions
  pub each : (x : SessionState) → Contains sessions x ↔ ((place : ℕ) × IsAt z place x × IsUntaken name x)

-- those of these objectives, one objective after the other
abbrev pub AreOfEach : List (List ℕ) → Sessions → List SessionState → Type 0
AreOfEach [] z sessions = sessions ≡ []
AreOfEach (name ∷ names) z sessions = (first rest : List SessionState) × AreUntaken name z first × AreOfEach names z rest × (sessions ≡ first ++ rest)

-- the decline of a session's request, on its stream
abbrev pub decline_sent : SessionState → Queued
decline_sent x = send x.stream (End (session_of x.view) (Decline (Some (codes "unlistened"))))

-- The untaken sessions of these objectives are declined in turn. The declines are queued behind all others, as many as there is room for,
-- and nothing else is queued
pub record DeclinesInTurn (names : List (List ℕ)) (n after : NodeState) : Type 0 where
  pub sessions : List SessionState
  pub are : AreOfEach names n.sessions sessions
  pub queue : after.queue ≡ n.queue ++ take (256 - length n.queue) (map decline_sent sessions)

-- the names of this agent's objectives, in the order of their registration
abbrev pub owned_names : NodeState → ℕ → List (List ℕ)
owned_names n asa = map (λ o. o.name) (filter (λ o. o.owner == asa) n.registrations.objectives)

-- each answered call by which objectives aren't listened for any more, at each node to which steps lead, once the step has begun
abbrev pub DeclinesAreInTurn : Type 0
DeclinesAreInTurn = (n after : NodeState) (now asa : ℕ) (x : Coming) (a : ApiAnswer) → IsBoundedNode n → IsConsistent n →
    ((name : List ℕ) → NodeStep n now (input.Api asa (StopListenNegotiate name)) x (reply.Api a) after → DeclinesInTurn (name ∷ []) (begin n now) after)
    × ((name : List ℕ) → NodeStep n now (input.Api asa (DeregisterObjective name)) x (reply.Api a) after → DeclinesInTurn (name ∷ []) (begin n now) after)
    × (NodeStep n now (input.Api asa DeregisterAsa) x (reply.Api a) after → DeclinesInTurn (owned_names (begin n now) asa) (begin n now) after)
