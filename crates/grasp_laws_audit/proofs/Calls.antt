-- The record lines of calls.
use Rattle.std.proofs.Common.{◌≡◌, refl, sym, ap, ◌∙◌, subst, ℕ, Bool, true, false, cond, length, Option, None, Some}
use Rattle.std.proofs.lemmas.Option.{none-some, same_Some}
use Rattle.grasp_agent.specs.Calls.{next_call}
use Rattle.grasp_laws_delivery.proofs.Came.Inputs.{IsVisit, at_visit}
use Rattle.grasp_laws_delivery.proofs.Holding.{held_occurs}
use Rattle.grasp_laws_network.specs.Lives.{LivesStand}
use Rattle.grasp_model_node.specs.Begin.{begin}
use Rattle.grasp_model_node.specs.Node.{NodeState}
use Rattle.grasp_model_node.specs.Opening.{opened_reply}
use Rattle.grasp_model_node.specs.Step.{Acts, Coming}
use Rattle.grasp_types.specs.declared.call.Call.{Call}
use Rattle.grasp_types.specs.declared.reply.Reply.{Reply}
use Rattle.grasp_types.specs.declared.reply.Reply.TheVariants as reply
use Rattle.grasp_types.specs.declared.traffic.Input.{Input}
use Rattle.grasp_types.specs.declared.traffic.Input.TheVariants as input
use Rattle.grasp_model_network.specs.EventSteps.{agent_input, agent_seat, agent_visit}
use Rattle.grasp_model_network.specs.Events.{Occurs, visit_of}
use Rattle.grasp_model_network.specs.Plans.{IsNode}
use Rattle.grasp_model_network.specs.Reports.{report_by, report_of}
use Rattle.grasp_model_network.specs.Setting.{Setting}
use Rattle.grasp_model_network.specs.Visits.{Choice, Visit, VisitStep}
use Rattle.grasp_model_network.specs.World.{Seat, WorldState, member_of, present_life, seat_at}
use Rattle.grasp_model_network.specs.declared.event.Event.{Event}
use Rattle.grasp_model_network.specs.declared.event.Event.TheVariants as event
use Rattle.grasp_script.specs.Reports.{report_words}
use Rattle.grasp_model_script.specs.LineRuns.{placed_call}
use Rattle.grasp_record.specs.declared.line.RecordInput.TheVariants as took
use Rattle.grasp_model_audit.specs.Naming.{IsNextCall, IsOfAgent, event_named, named_by}
use Rattle.grasp_model_audit.specs.Recording.{took_by}
use Rattle.grasp_laws_audit.proofs.Present.{IsPresent}
use Rattle.grasp_laws_audit.proofs.ReadBack.{call_same, placed_again}
use Rattle.grasp_laws_audit.proofs.Steps.{IsPlain, Steps, step_of, undrained_after}
use Rattle.grasp_laws_audit.specs.ReadBack.{call_read, input_read}

-- ---- replies

-- the input isn't a drain
abbrev pub IsNoDrain : Input → Type 0
IsNoDrain (input.Drain max) = ⊥
IsNoDrain _ = Unit {0}

opened_plain : (a b : Bool) → IsPlain (cond a reply.Taken (cond b reply.Turned reply.Taken))
opened_plain true b = tt
opened_plain false true = tt
opened_plain false false = tt

acts_plain : (n after : NodeState) (i : Input) (x : Coming) (r : Reply) → IsNoDrain i → Acts n i x r after → IsPlain r
acts_plain n after (input.Drain most) x r drainless h = absurd drainless
acts_plain n after (input.Api asa call) x (reply.Outputs outputs) drainless h = absurd h
acts_plain n after (input.Datagram link from bytes) x (reply.Outputs outputs) drainless h = absurd h
acts_plain n after (input.Opened stream from) x (reply.Outputs outputs) drainless h = subst IsPlain (sym h.0) (opened_is n stream)
  where
    opened_is : (m : NodeState) (k : ℕ) → IsPlain (opened_reply m k)
    opened_is m k = opened_plain _ _
acts_plain n after (input.Bytes stream bytes) x (reply.Outputs outputs) drainless h = absurd h
acts_plain n after (input.Closed stream) x (reply.Outputs outputs) drainless h = subst IsPlain (sym h.0) tt
acts_plain n after i x _ drainless h = tt

-- a step that is drainless drain gives drainless outputs
pub plain_by : (v : Visit) (c : Choice) (i : Input) → v.input ≡ i → IsNoDrain i → VisitStep v c → IsPlain c.reply
plain_by v c i is drainless step = acts_plain (begin v.seat.core v.now) c.after i c.coming c.reply drainless (subst (λ (j : Input). Acts (begin v.seat.core v.now) j c.coming c.reply c.after) is step.steps.acts)

-- ---- calls of the other agents

-- the member of a life that an event names
pub own_node : (s : Setting) (w : WorldState) (v : Visit) (node : ℕ) → LivesStand s w → IsNode (length s.members) node → v.node ≡ present_life w node → member_of w v.node ≡ node
own_node s w v node stand fit is = ap (λ k. member_of w k) is ∙ stand.own node fit

module _ (s : Setting) (w : WorldState) (stand : LivesStand s w) (v : Visit) (c : Choice) (p : IsPresent s w v) where
  pub call_steps : (nodes node asa : ℕ) (it : Call) (hold : Bool) → let call = placed_call w (present_life w node) it in visit_of s w (event.Api node asa call hold) ≡ Some v → Occurs s w (event.Api node asa call hold) c
      → Steps nodes s w (event.Api node asa call hold) (event.Api node asa call true) v c
  unfolding event_named report_of
  call_steps nodes node asa it hold is o = record {
    visits = is;
    occurs = o;
    is_step = tt;
    unclocked = tt;
    plain = plain_by v c (input.Api asa call) came.input_is tt (step_of s w e v c is o);
    present = p;
    in_place = record {
      occurs = held_occurs s w e c v o is;
      after = undrained_after s w (event.Api node asa call true) v c is refl;
      answer = ap (λ (x : Option Visit). report_words (report_by w (event.Api node asa call true) c x)) is;
    };
    named = λ now. ap (λ (i : Input). named_by s w (member_of w v.node) (input_read (took_by e i))) came.input_is ∙ named;
    of_agent = subst (λ (i : Input). IsOfAgent w (member_of w v.node) (input_read (took_by e i))) (sym came.input_is) tt;
  }
    where
      call : Call
      call = placed_call w (present_life w node) it

      e : Event
      e = event.Api node asa call hold

      came : IsVisit v (present_life w node) (input.Api asa call)
      came = at_visit w (present_life w node) (input.Api asa call) v is

      own : member_of w v.node ≡ node
      own = own_node s w v node stand o.fit.0 came.node_is

      named : named_by s w (member_of w v.node) (took.Api asa (call_read call)) ≡ Some (event.Api node asa call true)
      named =
          (λ i. Some (event.Api (own i) asa (placed_call w (present_life w (own i)) (call_read call)) true))
          ∙ ap (λ (x : Call). Some (event.Api node asa x true)) (placed_again w (present_life w node) it)

  -- ---- calls of the node's own agent

  agent_came : (life : ℕ) (o : Option Seat) → agent_seat life o ≡ Some v → IsVisit v life (agent_input v.seat.agent)
  agent_came life None is = absurd (none-some v is)
  agent_came life (Some seat) is =
      let same = same_Some (record { node = life; seat = seat; now = seat.core.reading; input = agent_input seat.agent }) v is in
      record {
        node_is = ap (λ (x : Visit). x.node) (sym same);
        input_is = ap (λ (x : Visit). x.input) (sym same) ∙ ap (λ (x : Visit). agent_input x.seat.agent) same;
      }

  pub agent_steps : (nodes node : ℕ) (hold : Bool) → visit_of s w (event.Agent node hold) ≡ Some v → Occurs s w (event.Agent node hold) c → Steps nodes s w (event.Agent node hold) (event.Agent node true) v c
  unfolding agent_visit event_named report_of
  agent_steps nodes node hold is o = record {
    visits = is;
    occurs = o;
    is_step = tt;
    unclocked = tt;
    plain = plain_by v c (agent_input v.seat.agent) came.input_is tt (step_of s w e v c is o);
    present = p;
    in_place = record {
      occurs = held_occurs s w e c v o is;
      after = undrained_after s w (event.Agent node true) v c is refl;
      answer = ap (λ (x : Option Visit). report_words (report_by w (event.Agent node true) c x)) is;
    };
    named = λ now. ap (λ (i : Input). named_by s w (member_of w v.node) (input_read (took_by e i))) came.input_is ∙ ap (λ (k : ℕ). Some (event.Agent k true)) own;
    of_agent = subst (λ (i : Input). IsOfAgent w (member_of w v.node) (input_read (took_by e i))) (sym came.input_is)
        (subst (IsNextCall (call_read (next_call v.seat.agent))) (sym here) (sym (call_same (next_call v.seat.agent))));
  }
    where
      e : Event
      e = event.Agent node hold

      came : IsVisit v (present_life w node) (agent_input v.seat.agent)
      came = agent_came (present_life w node) (seat_at w (present_life w node)) is

      own : member_of w v.node ≡ node
      own = own_node s w v node stand o.fit came.node_is

      here : seat_at w (present_life w (member_of w v.node)) ≡ Some v.seat
      here = ap (λ k. seat_at w k) p.life ∙ p.here.stands
