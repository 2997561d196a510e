-- The session numbers that a node draws: no two of its requests and searches have one.
use Rattle.std.specs.Prelude.{◌≡◌, ◌≢◌, ◌<◌, ◌^◌, false, ℕ, Bool, List, ◌++◌, ◌∷◌, [], map, AllPairs, Option, None, Some, if◌then◌else◌}
use Rattle.grasp_session.specs.Messages.{Near, is_side}
use Rattle.grasp_session.specs.Sessions.{SessionState}
use Rattle.grasp_session.specs.Transcript.{session_of}
use Rattle.grasp_types.specs.declared.reply.Reply.{Reply}
use Rattle.grasp_types.specs.declared.traffic.Input.{Input}
use Rattle.grasp_model_node.specs.Draws.{is_used, next_session}
use Rattle.grasp_model_node.specs.Node.{NodeState, first_node}
use Rattle.grasp_model_node.specs.BoundedNodes.{IsBoundedNode}
use Rattle.grasp_model_node.specs.Step.{Coming, NodeStep}
use Rattle.grasp_model_node.specs.declared.plan.NodePlan.{NodePlan}

-- the session numbers of the live sessions that this node requested
abbrev pub requested_numbers : List (Option SessionState) → List ℕ
requested_numbers [] = []
requested_numbers (None ∷ places) = requested_numbers places
requested_numbers (Some x ∷ places) = number_of (is_side Near x.view.role) (session_of x.view) (requested_numbers places) where
  number_of : Bool → ℕ → List ℕ → List ℕ
  number_of b number rest = if b then number ∷ rest else rest

-- those of its sessions, and those of its searches
abbrev pub numbers_in_use : NodeState → List ℕ
numbers_in_use n = requested_numbers n.sessions.places ++ map (λ search. search.session) n.discoveries.searches

-- all differ
abbrev pub HaveOwnNumbers : NodeState → Type 0
HaveOwnNumbers n = AllPairs (λ a b. a ≢ b) (numbers_in_use n)

-- what is drawn next is a number of 32 bits that none has
abbrev pub DrawnIsUnused : Type 0
DrawnIsUnused = (n : NodeState) → IsBoundedNode n → (is_used n (next_session n) ≡ false) × (next_session n < 2 ^ 32)

abbrev pub NumbersAreOwn : Type 0
NumbersAreOwn = ((plan : NodePlan) → HaveOwnNumbers (first_node plan))
    × ((n after : NodeState) (now : ℕ) (i : Input) (x : Coming) (r : Reply) → IsBoundedNode n → HaveOwnNumbers n → NodeStep n now i x r after → HaveOwnNumbers after)
