-- The beginning of a step leaves an open stream its session, where it had one.
use Rattle.std.proofs.Common.{◌≡◌, ℕ, Bool, true, false, not, ◌⊎◌, inl, inr, Option, None, Some, refl, sym, ap, ◌∙◌, subst, slice_index_or}
use Rattle.std.proofs.lemmas.Bool.{false≢true}
use Rattle.grasp_laws_node.proofs.Beginning.{sessions_time_out}
use Rattle.grasp_laws_node.proofs.Bounded.Nodes.{begin_kept}
use Rattle.grasp_model_node.specs.Begin.{begin}
use Rattle.grasp_laws_node.specs.Beginnings.{IsDue, timed_out}
use Rattle.grasp_model_node.specs.Hear.{goes_on}
use Rattle.grasp_model_node.specs.Node.{NodeState}
use Rattle.grasp_model_node.specs.BoundedNodes.{IsBoundedNode}
use Rattle.grasp_model_node.specs.Streams.{past_of}
use Rattle.grasp_laws_session.proofs.Runs.{calls_in_order}
use Rattle.grasp_session.proofs.Tables.{state_slot}
use Rattle.grasp_session.specs.Says.{IsAt}
use Rattle.grasp_session.specs.Sessions.{SessionState, Sessions, state_reply}
use Rattle.grasp_session.specs.Transcript.{is_going}
use Rattle.grasp_wire.specs.Cutter.{Past}
use Rattle.grasp_laws_node_stories.specs.StreamMoves.{view_on}
use Rattle.grasp_laws_node_stories.proofs.Beginning.{begins}
use Rattle.grasp_laws_node_stories.proofs.Delivering.{HasVoice, none_some}
use Rattle.grasp_laws_node_stories.proofs.Hearing.{live_of, state_is, live_goes}
use Rattle.grasp_laws_node_stories.proofs.Telling.{quiet_none}

-- a live session on the stream goes on
pub record Voice (z : Sessions) (stream : ℕ) : Type 0 where
  pub place : ℕ
  pub state : SessionState
  pub at : IsAt z place state
  pub lies : state.stream ≡ stream
  pub going : is_going state.view ≡ true

not_twice : (b : Bool) → not (not b) ≡ true → b ≡ true
not_twice true e = refl
not_twice false e = absurd (false≢true e)

pub voice_of : (z : Sessions) (stream : ℕ) → goes_on (state_reply z stream) ≡ true → Voice z stream
voice_of z stream e = by_state (state_reply z stream) refl where
  by_state : (s : Option (ℕ × Bool)) → state_reply z stream ≡ s → Voice z stream
  by_state None f = absurd (false≢true (sym (ap goes_on f) ∙ e))
  by_state (Some state) f =
      let l = live_of z stream state f in record {
        place = l.handle.place;
        state = l.state;
        at = state_slot z l.handle l.state l.at;
        lies = l.lies;
        going = not_twice (is_going l.state.view) (sym (ap goes_on (state_is z stream l.handle l.state l.on l.at)) ∙ e);
      }

begun_voice : (stream : ℕ) (n : NodeState) (now : ℕ) (past : Past) → IsBoundedNode n → past_of (begin n now).streams stream ≡ Some past → Voice n.sessions stream → goes_on (state_reply (begin n now).sessions stream) ≡ true
begun_voice stream n now past k e v = by_case ((sessions_time_out n now k).each v.place v.state v.at) where
  by_case : IsAt (begin n now).sessions v.place v.state
      ⊎ (IsDue (begin n now).reading v.state × (slice_index_or (begin n now).sessions.places v.place None ≡ timed_out (begin n now).reading v.state) × (past_of (begin n now).streams v.state.stream ≡ None))
      → goes_on (state_reply (begin n now).sessions stream) ≡ true
  by_case (inl at) = live_goes (begin n now).sessions stream v.place v.state (calls_in_order (begin n now).sessions (begin_kept n now k).sessions) at v.lies v.going
  by_case (inr due) = absurd (none_some (past_of (begin n now).streams stream) past (subst (λ (q : ℕ). past_of (begin n now).streams q ≡ None) v.lies due.2) e)

pub voices_begin : (stream : ℕ) (n : NodeState) (now : ℕ) → IsBoundedNode n → HasVoice stream n → HasVoice stream (begin n now)
voices_begin stream n now k v past e = by_case (v past ((begins stream n now k).opens_none past e)) where
  by_case : (view_on n stream ≡ None) ⊎ (goes_on (state_reply n.sessions stream) ≡ true) → (view_on (begin n now) stream ≡ None) ⊎ (goes_on (state_reply (begin n now).sessions stream) ≡ true)
  by_case (inl f) = inl (quiet_none stream n (begin n now) (begins stream n now k) f)
  by_case (inr g) = inr (begun_voice stream n now past k e (voice_of n.sessions stream g))
