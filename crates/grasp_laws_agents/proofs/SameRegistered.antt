-- Which calls leave what is registered at a node as it is.
use Rattle.std.proofs.Common.{◌≡◌, refl, ◌∙◌, ℕ, zero, suc, Bool, true, false, cond, List, [], ◌∷◌, Option, None, Some, Ok}
use Rattle.grasp_discovery.specs.declared.answers.Find.{Find}
use Rattle.grasp_discovery.specs.declared.answers.Find.TheVariants as find
use Rattle.grasp_model_node.specs.Declines.{Declining, after_declines, after_decline, declined, removed, may_decline}
use Rattle.grasp_model_node.specs.FloodCalls.{looked}
use Rattle.grasp_model_node.specs.Moves.{with_sessions, with_discoveries, with_draw, begin_closing, queue_up}
use Rattle.grasp_model_node.specs.Node.{NodeState}
use Rattle.grasp_model_node.specs.RegistryCalls.{close_stream, without_session, without_sessions}
use Rattle.grasp_model_node.specs.SessionCalls.{after_polling, with_adopted}
use Rattle.grasp_session.specs.Sessions.{owner_reply, stream_reply, after_remove}
use Rattle.grasp_types.specs.declared.reply.ApiAnswer.{ApiAnswer}
use Rattle.grasp_types.specs.declared.reply.ApiAnswer.TheVariants as answer
use Rattle.grasp_types.specs.declared.session.Handle.{Handle}
use Rattle.grasp_types.specs.declared.session.Kind.{Kind}

-- ---- declines

decline_registered : (n : NodeState) (d : Declining) → (after_decline n d).registrations ≡ n.registrations
unfolding begin_closing with_sessions queue_up
decline_registered n d = by_test (may_decline n d.handle) where
  by_test : (b : Bool) → (cond b (declined n d) (removed n d.handle)).registrations ≡ n.registrations
  by_test true = refl
  by_test false = refl

pub declines_registered : (n : NodeState) (ds : List Declining) → (after_declines n ds).registrations ≡ n.registrations
unfolding after_declines
declines_registered n [] = refl
declines_registered n (d ∷ ds) = declines_registered (after_decline n d) ds ∙ decline_registered n d

-- ---- sessions that leave

close_registered : (n : NodeState) (o : Option ℕ) → (close_stream n o).registrations ≡ n.registrations
unfolding begin_closing
close_registered n None = refl
close_registered n (Some stream) = refl

sessions_registered : (n : NodeState) (h : Handle) → (with_sessions n (after_remove n.sessions h)).registrations ≡ n.registrations
unfolding with_sessions
sessions_registered n h = refl

without_registered : (n : NodeState) (o : Option Handle) → (without_session n o).registrations ≡ n.registrations
without_registered n None = refl
without_registered n (Some h) = close_registered (with_sessions n (after_remove n.sessions h)) (stream_reply n.sessions h) ∙ sessions_registered n h

pub withouts_registered : (count : ℕ) (n : NodeState) (asa : ℕ) → (without_sessions count n asa).registrations ≡ n.registrations
unfolding without_sessions
withouts_registered zero n asa = refl
withouts_registered (suc count) n asa =
    without_registered (without_sessions count n asa) (owner_reply (without_sessions count n asa).sessions asa) ∙ withouts_registered count n asa

-- ---- others

pub looked_registered : (n : NodeState) (asa : ℕ) (name : List ℕ) (kind : Kind) (loops timeout : ℕ) (f : Find) → (looked n asa name kind loops timeout f).registrations ≡ n.registrations
unfolding with_discoveries with_draw queue_up
looked_registered n asa name kind loops timeout find.Fresh = refl
looked_registered n asa name kind loops timeout _ = refl

pub polling_registered : (n : NodeState) (h : Handle) (a : ApiAnswer) → (after_polling n h (Ok a)).registrations ≡ n.registrations
unfolding with_sessions
polling_registered n h (answer.Polled p) = refl
polling_registered n h a = refl

pub adopted_registered : (n : NodeState) (asa : ℕ) (o : Option Handle) → (with_adopted n asa o).registrations ≡ n.registrations
unfolding with_sessions
adopted_registered n asa None = refl
adopted_registered n asa (Some h) = refl
