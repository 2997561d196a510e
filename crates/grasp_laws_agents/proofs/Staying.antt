-- What isn't a call of agent 1 leaves its live sessions, and in these it says nothing then.
use Rattle.std.proofs.Common.{sym, ◌∙◌}
use Rattle.grasp_laws_node.proofs.Meaning.Acts.{number_at}
use Rattle.grasp_session.proofs.Facts.{at_handle}
use Rattle.grasp_session.proofs.Tables.{state_slot}
use Rattle.grasp_session.specs.Messages.{Side}
use Rattle.grasp_session.specs.Sessions.{Sessions}
use Rattle.grasp_types.specs.declared.session.Handle.{Handle}
use Rattle.grasp_laws_agents.proofs.EachSeat.{reached_seats}
use Rattle.grasp_laws_agents.proofs.GoingOn.{heard_alike}
use Rattle.grasp_laws_agents.proofs.Hearing.{begins}
use Rattle.grasp_laws_agents.proofs.Owning.{others_same}
use Rattle.grasp_laws_agents.proofs.Serving.{IsServed, serving_kept}
use Rattle.grasp_laws_agents.specs.GoingOn.{OwnGoOn}
use Rattle.grasp_laws_agents.specs.Laws.{OwnSessionsStay, OwnSessionsGoOn}
use Rattle.grasp_laws_agents.specs.Staying.{IsOwn, OwnStay}

module _ (z w : Sessions) (g : OwnGoOn z w) (h : Handle) (side : Side) where
  stays : IsOwn z h side → IsOwn w h side
  stays i =
      let y = g.stay h.place i.session (state_slot z h i.session i.at) i.owner in
      record {
        session = y.0;
        at = at_handle w h y.0 y.1 (y.2.number ∙ number_at z h i.session i.at);
        owner = y.2.owner ∙ i.owner;
        role = (heard_alike i.session.view y.0.view y.2.view).role ∙ i.role;
      }

  was : IsOwn w h side → IsOwn z h side
  was i =
      let x = g.were h.place i.session (state_slot w h i.session i.at) i.owner in
      record {
        session = x.0;
        at = at_handle z h x.0 x.1 (sym x.2.number ∙ number_at w h i.session i.at);
        owner = sym x.2.owner ∙ i.owner;
        role = sym (heard_alike x.0.view i.session.view x.2.view).role ∙ i.role;
      }

pub own_stay : (z w : Sessions) → OwnGoOn z w → OwnStay z w
own_stay z w g h side = (stays z w g h side, was z w g h side)

pub own_sessions_go_on : OwnSessionsGoOn
own_sessions_go_on = record {
  steps = λ s w r node seat here now i x reply after o step. (others_same seat.core after seat.agent now i x reply (reached_seats IsServed serving_kept s w r node seat here) o step).goes_on;
  begins = λ n now. (begins n now).goes_on;
}

pub own_sessions_stay : OwnSessionsStay
own_sessions_stay s w r node seat here now i x reply after o step =
    own_stay seat.core.sessions after.sessions (own_sessions_go_on.steps s w r node seat here now i x reply after o step)
