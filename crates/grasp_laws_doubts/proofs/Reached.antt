-- Each network that a run of a network of doubters comes to is one that turns lead to, and so the doubters stand with it.
use Rattle.std.proofs.Common.{◌≡◌, inl, inr, refl, sym, ap, ◌∙◌, subst, ℕ, Bool, true, false, List, [], ◌∷◌, length, Contains, Option, None, Some}
use Rattle.std.proofs.lemmas.Option.{none-some, same_Some}
use Rattle.grasp_agent.specs.States.{AgentState}
use Rattle.grasp_doubter.specs.Calls as doubter
use Rattle.grasp_doubter.specs.Replies.{Taken, after_take}
use Rattle.grasp_doubter.specs.States.{DoubterState}
use Rattle.grasp_types.specs.Prefix.{AddressBlock as Prefix}
use Rattle.grasp_types.specs.declared.traffic.Input.TheVariants as input
use Rattle.grasp_model_network.specs.EventSteps.{after_agent_call}
use Rattle.grasp_model_network.specs.Events.{Occurs, after_event, drained_behind, visit_of}
use Rattle.grasp_model_network.specs.GoodSetting.{IsGoodSetting}
use Rattle.grasp_model_network.specs.Notes.{noted}
use Rattle.grasp_model_network.specs.Runs.{IsReached}
use Rattle.grasp_model_network.specs.Sending as network
use Rattle.grasp_model_network.specs.Sending.{event_drain, seat_with, stepped}
use Rattle.grasp_model_network.specs.Setting.{Setting, numbered}
use Rattle.grasp_model_network.specs.Settling.{IsDead, after_settle}
use Rattle.grasp_model_network.specs.Visits.{Choice, Visit, visit_seat}
use Rattle.grasp_model_network.specs.World.{Offered, Seat, WorldState, member_of, present_life, seat_at}
use Rattle.grasp_model_doubts.specs.Answered.{WasAnswered}
use Rattle.grasp_model_doubts.specs.Events.{CallOccurs, DoubtOccurs, doubt_event}
use Rattle.grasp_model_doubts.specs.Runs.{AreDoubtTurns, DoubtTurn, IsDoubted, IsToldOpeners, doubted}
use Rattle.grasp_model_doubts.specs.Steps.{after_asking, after_doubter, after_doubter_call, after_plain, doubter_called, doubter_event, settled_where, taken_at, taken_beside}
use Rattle.grasp_model_doubts.specs.Openings.{first_doubts}
use Rattle.grasp_model_doubts.specs.World.{DoubtState}
use Rattle.grasp_model_doubts.specs.declared.event.DoubtEvent.{DoubtEvent}
use Rattle.grasp_model_doubts.specs.declared.event.DoubtEvent.TheVariants as doubt
use Rattle.grasp_laws_delivery.proofs.Holding.{held_reached}
use Rattle.grasp_laws_network.proofs.Going.{reached_more, settled_reached}
use Rattle.grasp_laws_network.proofs.Lives.{same_present}
use Rattle.grasp_laws_network.proofs.SameLives.{event_lives}
use Rattle.grasp_laws_network.proofs.Staying.{put_here}
use Rattle.grasp_laws_doubts.proofs.Doubted.{DoubtersStand, call_answered, call_dead, doubter_member, parts_keep}
use Rattle.grasp_laws_doubts.proofs.Parts.{DoubtPartsKeep, SettlesSo, after_is, behind_agent, doubt_kept, doubter_visit_of, member_seat, step_of}
use Rattle.grasp_laws_doubts.specs.Grounds.{Grounds}
use Rattle.grasp_laws_doubts.specs.Laws.{DoubtedAreReached, SettlingsAreOfDead}

-- each listed offer of the prefix by the member was answered for
abbrev pub WasAnsweredFor : WorldState → ℕ → Prefix → Type 0
WasAnsweredFor w node p = (o : Offered) → Contains w.offers o → member_of w o.node ≡ node → o.prefix ≡ p → WasAnswered w o

module _ (l : Grounds) (s : Setting) (told_so : IsToldOpeners s) where
  -- ---- the call of a doubter

  module _ (w : WorldState) (ds : List DoubterState) (node : ℕ) (c : Choice) (d : DoubterState) (r : IsReached s w) (all : DoubtersStand s w ds) (is : numbered ds node ≡ Some d) (o : Occurs s w (doubter_event d node) c) where
    member : (seat : Seat) × (seat_at w (present_life w node) ≡ Some seat)
    member = member_seat s w node r (doubter_member l s told_so w ds all node d is)

    abbrev seat : Seat
    seat = member.0

    abbrev v : Visit
    v = doubter_visit_of w node seat d

    visit_is : visit_of s w (doubter_event d node) ≡ Some v
    visit_is = ap (λ x. visit_seat (present_life w node) (input.Api 2 (doubter.next_call d)) x) member.1

    abbrev y : WorldState
    y = after_agent_call w v 2 (doubter.next_call d) c

    reached : IsReached s y
    reached = held_reached s w (doubter_event d node) c v r o visit_is

    after : after_doubter_call s w node d c ≡ network.drained s y (present_life w node) event_drain
    after = after_is s w (doubter_event d node) c v visit_is

    there : seat_at y (present_life w node) ≡ Some (seat_with c.after seat.agent)
    unfolding after_agent_call noted stepped
    there = put_here w.seats (present_life w node) seat (seat_with c.after seat.agent) member.1

    taken : taken_at s w node d c ≡ after_take d seat.agent c.reply
    taken = from (behind_agent true s y (present_life w node) (seat_with c.after seat.agent) there) where
      from : (z : Seat) × (seat_at (drained_behind true s y (present_life w node)) (present_life w node) ≡ Some z) × (z.agent ≡ seat.agent) → taken_at s w node d c ≡ after_take d seat.agent c.reply
      from z =
          let present = same_present w (after_doubter_call s w node d c) node (event_lives s w (doubter_event d node) c) in
          let now = ap (λ n. seat_at (after_doubter_call s w node d c) n) present ∙ (ap (λ x. seat_at x (present_life w node)) after ∙ z.1) in
          ap (λ x. taken_beside x d c) now ∙ ap (λ (a : AgentState). after_take d a c.reply) z.2

    pub call_settles_dead : (p : Prefix) → (taken_at s w node d c).settled ≡ Some p → IsDead (after_doubter_call s w node d c) node p
    call_settles_dead p e =
        subst (λ x. IsDead x node p) (sym after)
        (call_dead l s told_so w ds node c seat d r all o visit_is member.1 is (step_of s w (doubter_event d node) c v o visit_is) reached p (sym (ap (λ (t : Taken). t.settled) taken) ∙ e)
        (subst (IsReached s) after (reached_more s w (doubter_event d node) c r o)))

    pub call_settles_answered : (p : Prefix) → (taken_at s w node d c).settled ≡ Some p → WasAnsweredFor (after_doubter_call s w node d c) node p
    call_settles_answered p e =
        subst (λ x. WasAnsweredFor x node p) (sym after)
        (call_answered l s told_so w ds node c seat d r all o visit_is member.1 is (step_of s w (doubter_event d node) c v o visit_is) reached p (sym (ap (λ (t : Taken). t.settled) taken) ∙ e)
        (subst (IsReached s) after (reached_more s w (doubter_event d node) c r o)))

  -- ---- each event

  dead_where : (x : DoubtState) (e : DoubtEvent) (c : Choice) → IsReached s x.world → DoubtersStand s x.world x.doubters → DoubtOccurs s x e c → SettlesSo s IsDead (DoubtersStand s) (parts_keep l s told_so) x e c
  dead_where x (doubt.Plain e) c r all o = tt
  dead_where x (doubt.Doubter node) c r all o = λ d p is e. call_settles_dead x.world x.doubters node c d r all is (subst (λ z. CallOccurs s x.world node c z) is o) p e
  dead_where x (doubt.Ask node p peer) c r all o = tt

  pub event_reached : (x : DoubtState) (e : DoubtEvent) (c : Choice) → IsReached s x.world → DoubtersStand s x.world x.doubters → DoubtOccurs s x e c → IsReached s (doubt_event s x e c).world
  unfolding after_plain after_doubter after_asking
  event_reached x (doubt.Plain e) c r all o = reached_more s x.world e c r o.0
  event_reached x (doubt.Doubter node) c r all o = by_doubter (numbered x.doubters node) refl o where
    by_doubter : (f : Option DoubterState) → numbered x.doubters node ≡ f → CallOccurs s x.world node c f → IsReached s (doubter_called s x node c f).world
    by_doubter None is o = r
    by_doubter (Some d) is o = by_settled (taken_at s x.world node d c).settled refl where
      by_settled : (p : Option Prefix) → (taken_at s x.world node d c).settled ≡ p → IsReached s (settled_where (after_doubter_call s x.world node d c) node p)
      by_settled None e = reached_more s x.world (doubter_event d node) c r o
      by_settled (Some p) e =
          settled_reached s (after_doubter_call s x.world node d c) node p (reached_more s x.world (doubter_event d node) c r o) (call_settles_dead x.world x.doubters node c d r all is o p e)
  event_reached x (doubt.Ask node p peer) c r all o = r

  pub event_stands : (x : DoubtState) (e : DoubtEvent) (c : Choice) → IsReached s x.world → DoubtersStand s x.world x.doubters → DoubtOccurs s x e c
      → DoubtersStand s (doubt_event s x e c).world (doubt_event s x e c).doubters
  event_stands x e c r all o = doubt_kept s IsDead (DoubtersStand s) (parts_keep l s told_so) x e c r all.count o (dead_where x e c r all o) all

  -- ---- runs

  pub run_stands : (x : DoubtState) (ts : List DoubtTurn) → IsReached s x.world → DoubtersStand s x.world x.doubters → AreDoubtTurns s x ts
      → IsReached s (doubted s x ts).world × DoubtersStand s (doubted s x ts).world (doubted s x ts).doubters
  unfolding AreDoubtTurns doubted
  run_stands x [] r all run = (r, all)
  run_stands x (t ∷ ts) r all run =
      run_stands (doubt_event s x t.event t.choice) ts (event_reached x t.event t.choice r all run.0) (event_stands x t.event t.choice r all run.0) run.1

-- how the first network stands
abbrev pub FirstStands : Type 0
FirstStands = (s : Setting) → IsGoodSetting s → IsReached s (first_doubts s).world × DoubtersStand s (first_doubts s).world (first_doubts s).doubters

pub doubted_stands : Grounds → FirstStands → (s : Setting) (x : DoubtState) → IsDoubted s x → IsReached s x.world × DoubtersStand s x.world x.doubters
doubted_stands l first s x k =
    let f = first s k.good in
    subst (λ (z : DoubtState). IsReached s z.world × DoubtersStand s z.world z.doubters) (sym k.last) (run_stands l s k.told (first_doubts s) k.turns f.0 f.1 k.run)

pub doubted_are_reached : Grounds → FirstStands → DoubtedAreReached
doubted_are_reached l first s x k = (doubted_stands l first s x k).0

pub settlings_are_of_dead : Grounds → FirstStands → SettlingsAreOfDead
settlings_are_of_dead l first s x k node d c is o p e =
    let f = doubted_stands l first s x k in call_settles_dead l s k.told x.world x.doubters node c d f.0 f.1 is o p e
