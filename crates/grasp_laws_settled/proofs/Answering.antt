-- Each prefix that was settled was answered for: every part of an event keeps this.
use Rattle.std.proofs.Common.{◌≡◌, ◌⊎◌, inl, inr, sym, ap, ◌∙◌, subst, ℕ, Bool, ◌≤◌, List, Contains, Some}
use Rattle.grasp_agent.specs.Replies.{after_reply}
use Rattle.grasp_doubter.specs.Calls as doubter
use Rattle.grasp_doubter.specs.States.{DoubterState}
use Rattle.grasp_types.specs.Prefix.{AddressBlock as Prefix}
use Rattle.grasp_types.specs.declared.traffic.Input.TheVariants as input
use Rattle.grasp_model_doubts.specs.Answered.{WasAnswered}
use Rattle.grasp_model_doubts.specs.Runs.{IsToldOpeners}
use Rattle.grasp_model_doubts.specs.Steps.{doubter_event}
use Rattle.grasp_model_network.specs.EventSteps.{after_agent, after_agent_call, agent_input}
use Rattle.grasp_model_network.specs.Events.{Occurs, after_visit, visit_of}
use Rattle.grasp_model_network.specs.Runs.{IsReached}
use Rattle.grasp_model_network.specs.Sending as network
use Rattle.grasp_model_network.specs.Sending.{seat_with}
use Rattle.grasp_model_network.specs.Setting.{Setting, numbered}
use Rattle.grasp_model_network.specs.Settling.{IsDead, after_settle}
use Rattle.grasp_model_network.specs.Visits.{Choice}
use Rattle.grasp_model_network.specs.World.{Offered, Seat, WorldState, present_life, seat_at}
use Rattle.grasp_model_network.specs.declared.event.Event.{Event}
use Rattle.grasp_model_network.specs.declared.event.Event.TheVariants as event
use Rattle.grasp_model_node.specs.Step.{NodeStep}
use Rattle.grasp_laws_network.proofs.Going.{settled_reached}
use Rattle.grasp_laws_network.proofs.Here.{numbered_within}
use Rattle.grasp_laws_network.proofs.Settled.{Settling, settling_is}
use Rattle.grasp_laws_network.specs.Telling.{Tells}
use Rattle.grasp_laws_node.proofs.PlansStay.{step_plan}
use Rattle.grasp_laws_prefixes.proofs.AgentSteps.{AgentStep}
use Rattle.grasp_laws_prefixes.proofs.OwnSteps.{own_step}
use Rattle.grasp_laws_prefixes.proofs.Places.{same_stay}
use Rattle.grasp_laws_prefixes.proofs.QuietSteps.{others_go_on}
use Rattle.grasp_laws_prefixes.proofs.Returned.{Takes, told_by}
use Rattle.grasp_laws_prefixes.proofs.Standing.{AllStay, WorldGoesOn}
use Rattle.grasp_laws_doubts.proofs.Answered.{answered_on}
use Rattle.grasp_laws_doubts.proofs.Both.{agent_put, call_put}
use Rattle.grasp_laws_doubts.proofs.Cores.{SameCores, cores_plans, put_plans, settled_cores, told_cores}
use Rattle.grasp_laws_doubts.proofs.Doubted.{DoubtersStand, doubter_member, member_present, parts_keep}
use Rattle.grasp_laws_doubts.proofs.Opening.{PlansLast, quiet_plans}
use Rattle.grasp_laws_doubts.proofs.Parts.{DoubtPartsKeep, agent_visit_of, doubter_visit_of}
use Rattle.grasp_laws_doubts.proofs.Quiet.{IsQuiet, drain_quiet, step_quiet}
use Rattle.grasp_laws_doubts.proofs.Reached.{WasAnsweredFor}
use Rattle.grasp_laws_doubts.specs.Grounds.{Grounds}

-- each offer that was settled was answered for
abbrev pub AllAnswered : WorldState → Type 0
AllAnswered w = (o : Offered) → Contains w.settled o → WasAnswered w o

-- the doubters stand, and it is so
pub record AnswersStand (s : Setting) (w : WorldState) (ds : List DoubterState) : Type 0 where
  pub stand : DoubtersStand s w ds
  pub all : AllAnswered w

-- a prefix that is settled is dead, and was answered for
pub record SettlesWell (w : WorldState) (node : ℕ) (p : Prefix) : Type 0 where
  pub dead : IsDead w node p
  pub answered : WasAnsweredFor w node p

-- the streams and the plans of the nodes are those that were there, and nothing was settled
pub record Lasts (w y : WorldState) : Type 0 where
  pub streams : AllStay w.streams y.streams
  pub plans : PlansLast w y
  pub settled : y.settled ≡ w.settled

quiet_lasts : (w y : WorldState) → IsQuiet w y → Lasts w y
quiet_lasts w y quiet = record { streams = quiet.goes.streams; plans = quiet_plans w y quiet; settled = quiet.goes.settled }

module _ (l : Grounds) (s : Setting) (told_so : IsToldOpeners s) where
  -- ---- what was settled before

  answered_last : (w y : WorldState) → IsReached s w → IsReached s y → Lasts w y → AllAnswered w → AllAnswered y
  answered_last w y r q k all o has = answered_on l s w y r q k.streams k.plans o (all o (subst (λ (os : List Offered). Contains os o) k.settled has))

  told_settled : (w x : WorldState) → WorldGoesOn w x ⊎ Takes w x → x.settled ≡ w.settled
  told_settled w x (inl g) = g.settled
  told_settled w x (inr t) = t.settled

  told_lasts : (w x : WorldState) (e : Event) → IsReached s w → Tells s w e x → Lasts w x
  told_lasts w x e r t =
      let cores : SameCores w x = told_cores s w x e t in
      record { streams = same_stay w.streams x.streams cores.streams; plans = cores_plans w x cores; settled = told_settled w x (told_by l.prefixes s w r e x t) }

  -- ---- a call

  module _ (w : WorldState) (ds : List DoubterState) (node : ℕ) (seat : Seat) (d : DoubterState) (c : Choice) (r : IsReached s w) (k : DoubtersStand s w ds) (at : seat_at w (present_life w node) ≡ Some seat)
      (is : numbered ds node ≡ Some d) where
    least : 1 ≤ node
    least = (numbered_within ds node d is).least

    present : present_life w node ≡ node
    present = member_present l s told_so w ds k node (doubter_member l s told_so w ds k node d is)

    here : seat_at w node ≡ Some seat
    here = ap (λ m. seat_at w m) (sym present) ∙ at

    agent_lasts : (hold : Bool) → Occurs s w (event.Agent node hold) c → visit_of s w (event.Agent node hold) ≡ Some (agent_visit_of w node seat)
        → NodeStep seat.core seat.core.reading (agent_input seat.agent) c.coming c.reply c.after → Lasts w (after_agent w (agent_visit_of w node seat) c)
    agent_lasts hold o visit_is step =
        let y : WorldState = after_agent w (agent_visit_of w node seat) c in
        let a : AgentStep w y = (own_step l.prefixes s w node hold c (agent_visit_of w node seat) r o visit_is).0 in
        record {
          streams = a.streams;
          plans =
              put_plans w y node seat (seat_with c.after (after_reply seat.agent c.reply)) least here (agent_put w node seat c present)
              (step_plan seat.core c.after seat.core.reading (agent_input seat.agent) c.coming c.reply step);
          settled = a.settled;
        }

    call_lasts : Occurs s w (doubter_event d node) c → visit_of s w (doubter_event d node) ≡ Some (doubter_visit_of w node seat d)
        → NodeStep seat.core seat.core.reading (input.Api 2 (doubter.next_call d)) c.coming c.reply c.after → Lasts w (after_agent_call w (doubter_visit_of w node seat d) 2 (doubter.next_call d) c)
    call_lasts o visit_is step =
        let y : WorldState = after_agent_call w (doubter_visit_of w node seat d) 2 (doubter.next_call d) c in
        let goes : WorldGoesOn w y = others_go_on l.prefixes s w (doubter_event d node) c (doubter_visit_of w node seat d) r o visit_is tt in
        record {
          streams = goes.streams;
          plans =
              put_plans w y node seat (seat_with c.after seat.agent) least here (call_put w node seat d c present)
              (step_plan seat.core c.after seat.core.reading (input.Api 2 (doubter.next_call d)) c.coming c.reply step);
          settled = goes.settled;
        }

  -- ---- a settling

  settle_answered : (w : WorldState) (node : ℕ) (p : Prefix) → IsReached s w → SettlesWell w node p → AllAnswered w → AllAnswered (after_settle w node p)
  settle_answered w node p r well all o has = answered_on l s w y r (settled_reached s w node p r well.dead) (same_stay w.streams y.streams t.streams) (cores_plans w y (settled_cores w node p well.dead)) o (by_case (t.was_settled o has)) where
    y : WorldState
    y = after_settle w node p

    t : Settling w node p (after_settle w node p)
    t = settling_is w node p well.dead

    by_case : Contains w.settled o ⊎ (t.offer ≡ o) → WasAnswered w o
    by_case (inl had) = all o had
    by_case (inr new) = subst (λ x. WasAnswered w x) new (well.answered t.offer t.is.listed t.is.member t.is.prefix)

  -- ---- every part of an event

  pub answers_keep : DoubtPartsKeep s SettlesWell (AnswersStand s)
  answers_keep =
      let keep : DoubtPartsKeep s IsDead (DoubtersStand s) = parts_keep l s told_so in
      record {
        steps = λ w ds e c v r k o plain is others q. record {
          stand = keep.steps w ds e c v r k.stand o plain is others q;
          all = answered_last w (after_visit s w e v c) r q (quiet_lasts w (after_visit s w e v c) (step_quiet l s w r k.stand.serve e c v o plain is others)) k.all;
        };
        agents = λ w ds node hold c seat d r k o visit_is at is step q. record {
          stand = keep.agents w ds node hold c seat d r k.stand o visit_is at is step q;
          all = answered_last w (after_agent w (agent_visit_of w node seat) c) r q (agent_lasts w ds node seat d c r k.stand at is hold o visit_is step) k.all;
        };
        calls = λ w ds node c seat d r k o visit_is at is step q. record {
          stand = keep.calls w ds node c seat d r k.stand o visit_is at is step q;
          all = answered_last w (after_agent_call w (doubter_visit_of w node seat d) 2 (doubter.next_call d) c) r q (call_lasts w ds node seat d c r k.stand at is o visit_is step) k.all;
        };
        told = λ w x ds e r q t k. record { stand = keep.told w x ds e r q t k.stand; all = answered_last w x r q (told_lasts w x e r t) k.all };
        drains = λ w ds node max r q k least. record {
          stand = keep.drains w ds node max r q k.stand least;
          all = answered_last w (network.drained s w node max) r q (quiet_lasts w (network.drained s w node max) (drain_quiet l s w r k.stand.serve node max least)) k.all;
        };
        settles = λ w ds node p d f reply seat r well is at settled f_is k. record {
          stand = keep.settles w ds node p d f reply seat r well.dead is at settled f_is k.stand;
          all = settle_answered w node p r well k.all;
        };
        asks = λ w ds node p peer d seat r k is at. record { stand = keep.asks w ds node p peer d seat r k.stand is at; all = k.all };
      }
