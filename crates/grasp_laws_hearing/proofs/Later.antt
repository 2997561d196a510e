-- What a message does that comes on a stream whose session is live.
use Rattle.std.proofs.Common.{◌≡◌, ℕ, Bool, true, false, cond, not, None, Some, refl, sym, ap, ◌∙◌, subst}
use Rattle.grasp_session.specs.Runs.{AreInOrder}
use Rattle.grasp_session.specs.Sessions.{SessionState, with_transcript, changed, after_receive, after_mark, state_reply}
use Rattle.grasp_session.specs.Transcript.{Mark, Faulty, is_going, session_of, receive, with_kept, with_mark}
use Rattle.grasp_session.specs.declared.answer.Received.{Received}
use Rattle.grasp_session.specs.declared.answer.Received.TheVariants.{Kept, Ignored, Bad}
use Rattle.grasp_types.specs.declared.message.Message.{Message}
use Rattle.grasp_types.specs.declared.message.Message.TheVariants.{Invalid}
use Rattle.grasp_laws_node.proofs.Consistent.Table.{order}
use Rattle.grasp_laws_receiving.proofs.Receiving.{messages_are_received}
use Rattle.grasp_laws_receiving.specs.Receiving.{Receives}
use Rattle.grasp_model_node.specs.BoundedNodes.{IsBoundedNode}
use Rattle.grasp_model_node.specs.Hear.{goes_on, refused_by, after_refusal, kept, hear_later_by, hear_by, hear, shuts}
use Rattle.grasp_model_node.specs.Moves.{with_sessions, answer}
use Rattle.grasp_model_node.specs.Node.{NodeState}
use Rattle.grasp_laws_hearing.proofs.Answering.{answers, Answers}
use Rattle.grasp_laws_hearing.proofs.Found.{FoundOn, found_on, state_on, received_on, is_now, open_after, kept_on, marked_on}
use Rattle.grasp_laws_hearing.specs.Later.{IsOn, IsNow, IsMarked, Keeps, EndsBadly, HearsLater}

-- the session of a stream, where it is found
pub on_it : (n : NodeState) (stream place : ℕ) (x : SessionState) → IsBoundedNode n → IsOn n stream place x → FoundOn n.sessions stream place x
on_it n stream place x k is = found_on n.sessions (order n.sessions k.sessions) stream place x is.at is.on

-- ---- kept

keeps : (n : NodeState) (stream place : ℕ) (x : SessionState) (m : Message) → IsBoundedNode n → IsOn n stream place x → Keeps n place x m (kept n stream m)
unfolding with_sessions
keeps n stream place x m k is = record { sessions = subst (IsNow n.sessions place y) (sym changes) (is_now n.sessions (record { place = place; number = f.number }) y); rest = refl; stays_open = ap (λ z. goes_on (state_reply z stream)) changes ∙ open_after n.sessions (record { place = place; number = f.number }) stream x y o f.at is.at is.on refl } where
  o : AreInOrder n.sessions
  o = order n.sessions k.sessions

  f : FoundOn n.sessions stream place x
  f = on_it n stream place x k is

  y : SessionState
  y = with_transcript x (with_kept x.view n.reading m)

  changes : after_receive n.sessions n.reading stream m Kept ≡ changed n.sessions (record { place = place; number = f.number }) y
  changes = kept_on n.sessions n.reading stream place x m f

-- ---- bad

-- the session of a mark
pub marks : (n : NodeState) (stream place : ℕ) (x : SessionState) (mark : Mark) → IsBoundedNode n → IsOn n stream place x → is_going x.view ≡ true → IsMarked n place x mark (after_mark n.sessions stream mark)
marks n stream place x mark k is going =
    let f = on_it n stream place x k is in
    subst (IsNow n.sessions place (with_transcript x (with_mark x.view mark)))
    (sym (marked_on n.sessions stream place x mark f ∙ ap (λ b. cond b (changed n.sessions (record { place = place; number = f.number }) (with_transcript x (with_mark x.view mark))) n.sessions) going))
    (is_now n.sessions (record { place = place; number = f.number }) (with_transcript x (with_mark x.view mark)))

pub ends_badly : (n : NodeState) (stream place : ℕ) (x : SessionState) → IsBoundedNode n → IsOn n stream place x → is_going x.view ≡ true → EndsBadly n stream place x (shuts (after_refusal n stream))
unfolding with_sessions
ends_badly n stream place x k is going =
    subst (λ s. EndsBadly n stream place x (shuts (refused_by n stream s))) (sym (state_on n.sessions stream place x (on_it n stream place x k is)))
    (by (not (is_going x.view)) (ap not going)) where
      a : Answers n stream (Invalid (session_of x.view) None) (answer n stream (Invalid (session_of x.view) None))
      a = answers n stream (Invalid (session_of x.view) None)

      by : (b : Bool) → b ≡ false → EndsBadly n stream place x (shuts (refused_by n stream (Some (session_of x.view, b))))
      by true e = absurd (cc)
      by false e = record {
        sessions = marks n stream place x Faulty k is going;
        told = a.answer;
        rest = ap (λ (l : NodeState). record l { sessions = after_mark n.sessions stream Faulty }) a.rest;
        shut = refl;
      }

-- ---- any message

heard_by : (n : NodeState) (stream place : ℕ) (x : SessionState) (m : Message) (r : Received) → FoundOn n.sessions stream place x → receive x.view m ≡ r → hear n stream m ≡ hear_later_by n stream m r
unfolding hear
heard_by n stream place x m r f e =
    ap (hear_by n stream m) (state_on n.sessions stream place x f)
    ∙ ap (hear_later_by n stream m) (received_on n.sessions stream place x m f ∙ e)

ignores : (n : NodeState) (stream place : ℕ) (x : SessionState) (m : Message) → FoundOn n.sessions stream place x → hear_later_by n stream m Ignored ≡ record { node = n; is_open = is_going x.view }
ignores n stream place x m f = ap (λ s. record { node = n; is_open = goes_on s }) (state_on n.sessions stream place x f) ∙ ap (λ b. record { node = n; is_open = b }) (twice (is_going x.view)) where
  twice : (b : Bool) → not (not b) ≡ b
  twice true = refl
  twice false = refl

pub hears_later : (n : NodeState) (stream place : ℕ) (x : SessionState) (m : Message) → IsBoundedNode n → IsOn n stream place x → HearsLater n stream place x m (hear n stream m)
hears_later n stream place x m k is = record {
  kept = λ h. subst (Keeps n place x m) (sym (by Kept h)) (keeps n stream place x m k is);
  ignored = λ h. by Ignored h ∙ ignores n stream place x m f;
  bad = λ h. subst (EndsBadly n stream place x) (sym (by Bad h)) (ends_badly n stream place x k is h.0);
} where
  f : FoundOn n.sessions stream place x
  f = on_it n stream place x k is

  by : (r : Received) → Receives x.view m r → hear n stream m ≡ hear_later_by n stream m r
  by r h = heard_by n stream place x m r f ((messages_are_received x.view m r).1 h)
