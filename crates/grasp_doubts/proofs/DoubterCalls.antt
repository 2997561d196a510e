-- Calls of a node's doubter, and what it settles.
use Rattle.std.proofs.Common.{◌≡◌, refl, sym, ◌∙◌, ap, subst, arith, ℕ, false, Option, None, Some, Result, Ok, Err}
use Rattle.grasp_agent.specs.States.{AgentState}
use Rattle.grasp_doubter.specs.Calls as doubter
use Rattle.grasp_doubter.specs.Replies.{Taken, after_take}
use Rattle.grasp_doubter.specs.States.{DoubterState}
use Rattle.grasp_types.specs.Prefix.{AddressBlock as Prefix}
use Rattle.grasp_types.specs.declared.call.Call.{Call}
use Rattle.grasp_types.specs.declared.reply.Reply.{Reply}
use Rattle.grasp_laws_doubts.specs.Laws.{SettlingsAreOfDead}
use Rattle.grasp_model_network.specs.Events.{IsFit}
use Rattle.grasp_model_network.specs.Setting.{Setting}
use Rattle.grasp_model_network.specs.Visits.{Choice}
use Rattle.grasp_model_network.specs.World.{Seat, WorldState}
use Rattle.grasp_model_network.specs.declared.event.Event.{Event}
use Rattle.grasp_model_network.specs.declared.event.Event.TheVariants as event
use Rattle.grasp_model_network.specs.declared.report.Report.{Report}
use Rattle.grasp_model_network.specs.declared.report.Report.TheVariants as report
use Rattle.grasp_model_network.specs.declared.report.WorldStop.{WorldStop}
use Rattle.grasp_model_network.specs.declared.report.WorldStop.TheVariants as stop
use Rattle.grasp_model_doubts.specs.Steps.{after_doubter_call, doubter_event, settled_where, taken_at, taken_beside}
use Rattle.grasp_model_doubts.specs.World.{DoubtState, present_seat}
use Rattle.grasp_model_script_doubts.proofs.OneEvent.{call_reported}
use Rattle.grasp_simulator.specs.Contract.{Reported}
use Rattle.grasp_simulator.specs.WorldStands.{HasNode, LendsAgent, WorldStands}
use Rattle.grasp_simulator.specs.WorldSteps.{IsAsked, Stepped}
use Rattle.grasp_simulator.specs.declared.world.World.{World}
use Rattle.grasp_simulator.proofs.Starving.{call_starves}
use Rattle.grasp_doubts.specs.Nodes.{CallsFit, CanSettleWhere, DoubterCalled, HasDoubter, IsReply, MakesCall, MaySettle, NodeGoes, SettlesWhere, network_at}
use Rattle.grasp_doubts.proofs.Lending.{has_node, is_asked, is_lent, meets, there}
use Rattle.grasp_doubts.proofs.Replies.{same_reply}

-- what a reply comes to, by its parts
abbrev pub taken_with : DoubterState → Option Prefix → Taken
taken_with d p = record { after = d; settled = p }

module _ (fits : CallsFit) (before : World) (old : DoubterState) (node : ℕ) where
  call_fits : (s : Setting) (x : DoubtState) → NodeGoes before old s x node → IsFit s x.world (doubter_event old node)
  call_fits s x g = (g.member, (λ same. absurd (omega (arith, same))), fits s x g.doubted node g.member old g.here)

  module _ (made : Call) (is : made ≡ doubter.next_call old) where
    event_is : event.Api node 2 made false ≡ doubter_event old node
    event_is = ap (λ (c : Call). event.Api node 2 c false) is

    pub call_asked : HasDoubter before old node → IsAsked before (event.Api node 2 made false)
    call_asked has =
        subst (λ (e : Event). IsAsked before e) (sym event_is) (is_asked before has.setting has.state.world (doubter_event old node) has.goes.stands (call_fits has.setting has.state has.goes))

    module _ (mid : World) where
      as_doubter : (r : Result Report WorldStop) → Stepped before mid (event.Api node 2 made false) r → Stepped before mid (doubter_event old node) r
      as_doubter r steps = subst (λ (e : Event). Stepped before mid e r) event_is steps

      pub call_stops : (after : World) (new : DoubterState) (why : WorldStop) → Stepped before mid (event.Api node 2 made false) (Err why) → MakesCall before after old new node (Err why)
      call_stops after new why steps s x g = (as_doubter (Err why) steps (network_at s x.world) (meets before s x.world (doubter_event old node) g.stands (call_fits s x g))).may_stop

      module _ (told : Report) (steps : Stepped before mid (event.Api node 2 made false) (Ok told)) where
        module _ (s : Setting) (x : DoubtState) (g : NodeGoes before old s x node) where
          call_step : Reported (WorldStands mid) s x.world (doubter_event old node) told
          call_step = as_doubter (Ok told) steps (network_at s x.world) (meets before s x.world (doubter_event old node) g.stands (call_fits s x g))

          abbrev c : Choice
          c = call_step.choice

          abbrev w : WorldState
          w = after_doubter_call s x.world node old c

          first : (seat : Seat) × (present_seat x.world node ≡ Some seat)
          first = there before s x.world node g.stands g.member

          then : (seat : Seat) × (present_seat w node ≡ Some seat)
          then = there mid s w node call_step.stands g.member

          told_is : told ≡ report.Reply c.reply
          told_is = call_step.report_is ∙ call_reported s x.world node first.0 first.1 2 (doubter.next_call old) false c

          module _ (reply : Reply) (reads : told ≡ report.Reply reply) (agent : AgentState) (lends : LendsAgent mid node agent) (new : DoubterState) (settled : Option Prefix)
              (takes : taken_with new settled ≡ after_take old agent reply) where
            reply_is : reply ≡ c.reply
            reply_is = same_reply reply c.reply (sym reads ∙ told_is)

            taken_is : taken_with new settled ≡ taken_at s x.world node old c
            taken_is =
                takes
                ∙ ap (λ (a : AgentState). after_take old a reply) (is_lent mid s w node call_step.stands g.member then.0 then.1 agent lends)
                ∙ ap (λ (r : Reply). after_take old then.0.agent r) reply_is
                ∙ sym (ap (λ (o : Option Seat). taken_beside o old c) then.1)

            settled_is : settled ≡ (taken_at s x.world node old c).settled
            settled_is = ap (λ (t : Taken). t.settled) taken_is

            module _ (dead : SettlingsAreOfDead) where
              may_settle : (p : Prefix) → settled ≡ Some p → MaySettle mid s w node p
              may_settle p some = record { stands = call_step.stands; dead = dead s x g.doubted node old c g.here call_step.occurs p (sym settled_is ∙ some) }

              stands_then : (after : World) (o : Option Prefix) → settled ≡ o → SettlesWhere mid after node o → WorldStands after (network_at s (settled_where w node o))
              stands_then after None is same = subst (λ (z : World). WorldStands z (network_at s w)) (sym same) call_step.stands
              stands_then after (Some p) is settles = settles s w (may_settle p is)

              called : (after : World) (call : Call) → call ≡ doubter.next_call old → SettlesWhere mid after node settled → DoubterCalled after old new s x node (report.Agent call reply)
              called after call next settles = record {
                choice = c;
                occurs = call_step.occurs;
                report_is = ap (λ (k : Call). report.Agent k reply) next ∙ ap (λ (r : Reply). report.Agent (doubter.next_call old) r) reply_is;
                stands = subst (λ (o : Option Prefix). WorldStands after (network_at s (settled_where w node o))) settled_is (stands_then after settled refl settles);
                taken = ap (λ (t : Taken). t.after) taken_is;
              }

        pub is_reply : HasDoubter before old node → IsReply told
        is_reply has = subst (λ (r : Report). IsReply r) (sym (told_is has.setting has.state has.goes)) tt

        pub call_node : HasDoubter before old node → HasNode mid node
        call_node has = has_node mid has.setting (after_doubter_call has.setting has.state.world node old (call_step has.setting has.state has.goes).choice) node (call_step has.setting has.state has.goes).stands has.goes.member

        module _ (reply : Reply) (reads : told ≡ report.Reply reply) (agent : AgentState) (lends : LendsAgent mid node agent) (new : DoubterState) (dead : SettlingsAreOfDead) where
          settles_at : HasDoubter before old node → (settled o : Option Prefix) → taken_with new settled ≡ after_take old agent reply → settled ≡ o → CanSettleWhere mid node o
          settles_at has settled None takes is = tt
          settles_at has settled (Some p) takes is = record {
            setting = has.setting;
            network = after_doubter_call has.setting has.state.world node old (call_step has.setting has.state has.goes).choice;
            may = may_settle has.setting has.state has.goes reply reads agent lends new settled takes dead p is;
          }

          pub can_settle : HasDoubter before old node → (settled : Option Prefix) → taken_with new settled ≡ after_take old agent reply → CanSettleWhere mid node settled
          can_settle has settled takes = settles_at has settled settled takes refl

          pub makes_call : (settled : Option Prefix) → taken_with new settled ≡ after_take old agent reply → (after : World) (call : Call) → call ≡ doubter.next_call old
              → SettlesWhere mid after node settled → MakesCall before after old new node (Ok (report.Agent call reply))
          makes_call settled takes after call next settles s x g = called s x g reply reads agent lends new settled takes dead after call next settles

  -- the call that is next takes memory
  pub call_starved : (after : World) (new : DoubterState) → MakesCall before after old new node (Err stop.OutOfMemory)
  call_starved after new s x g = call_starves before node 2 (doubter.next_call old) false s x.world (record { goes = g.stands.stands.goes; fit = call_fits s x g })
