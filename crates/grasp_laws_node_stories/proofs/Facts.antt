-- Facts of streams that several crates use.
use Rattle.std.proofs.Common.{ℕ, ◌≡◌, None, ◌⊎◌, true, inl, inr, sym, ap, ◌∙◌}
use Rattle.std.proofs.lemmas.Bool.{false≢true}
use Rattle.grasp_session.specs.Sessions.{state_reply}
use Rattle.grasp_model_node.specs.Hear.{goes_on}
use Rattle.grasp_model_node.specs.Node.{NodeState}
use Rattle.grasp_laws_node_stories.specs.StreamMoves.{view_on}

-- a stream with no session has no view
pub no_voice : (stream : ℕ) (n : NodeState) → state_reply n.sessions stream ≡ None → (view_on n stream ≡ None) ⊎ (goes_on (state_reply n.sessions stream) ≡ true) → view_on n stream ≡ None
no_voice stream n e (inl f) = f
no_voice stream n e (inr f) = absurd (false≢true (sym (ap goes_on e) ∙ f))
