-- An event of a network of doubters comes out in one way.
use Rattle.std.proofs.Common.{◌≡◌, refl, sym, ap, ◌∙◌, ℕ, Bool, false, List, length, Option, None, Some}
use Rattle.grasp_agent.specs.Calls.{next_call}
use Rattle.grasp_doubter.specs.Calls as doubter
use Rattle.grasp_doubter.specs.Replies.{Taken, after_take}
use Rattle.grasp_doubter.specs.Seeing.{after_saw}
use Rattle.grasp_doubter.specs.States.{DoubterState}
use Rattle.grasp_types.specs.declared.call.Call.{Call}
use Rattle.grasp_types.specs.declared.reply.Reply.{Reply}
use Rattle.grasp_types.specs.declared.reply.Reply.TheVariants as reply
use Rattle.grasp_types.specs.declared.traffic.Input.TheVariants as input
use Rattle.grasp_laws_network.specs.Keeping.{IsSameOutcome}
use Rattle.grasp_laws_network.proofs.Lists.{numbered_there}
use Rattle.grasp_laws_network.proofs.LivesKept.{lives_are_kept}
use Rattle.grasp_laws_reports.proofs.LongerRuns.{stops_agree}
use Rattle.grasp_laws_reports.proofs.SameRuns.{runs_agree}
use Rattle.grasp_model_network.specs.EventSteps.{agent_seat, agent_visit}
use Rattle.grasp_model_network.specs.Events.{Occurs, after_event}
use Rattle.grasp_model_network.specs.Plans.{IsNode}
use Rattle.grasp_model_network.specs.Reports.{report_by, report_of}
use Rattle.grasp_model_network.specs.Runs.{IsReached}
use Rattle.grasp_model_network.specs.Setting.{Setting, numbered}
use Rattle.grasp_model_network.specs.Visits.{Choice, visit_seat}
use Rattle.grasp_model_network.specs.World.{Seat, WorldState, present_life, seat_at}
use Rattle.grasp_model_network.specs.declared.event.Event.{Event}
use Rattle.grasp_model_network.specs.declared.event.Event.TheVariants as event
use Rattle.grasp_model_network.specs.declared.report.Report.{Report}
use Rattle.grasp_model_network.specs.declared.report.Report.TheVariants as plain
use Rattle.grasp_model_network.specs.declared.report.WorldStop.TheVariants as stop
use Rattle.grasp_model_doubts.specs.Events.{CallMayStop, CallOccurs, DoubtMayStop, DoubtOccurs, call_report, doubt_event, doubt_report}
use Rattle.grasp_model_doubts.specs.Steps.{after_doubter, after_doubter_call, after_plain, doubter_called, doubter_event, doubters_after, having_seen, seeing, settled_where, taken_at, taken_beside}
use Rattle.grasp_model_doubts.specs.World.{DoubtState, present_seat, with_doubter}
use Rattle.grasp_model_doubts.specs.declared.event.DoubtEvent.{DoubtEvent}
use Rattle.grasp_model_doubts.specs.declared.event.DoubtEvent.TheVariants as doubt
use Rattle.grasp_model_doubts.specs.declared.report.DoubtReport.TheVariants as report

-- ---- replies, which are reported

reply_in : Report → Reply
reply_in (plain.Reply r) = r
reply_in (plain.Agent call r) = r
reply_in _ = reply.Taken

module _ (s : Setting) (w : WorldState) (node : ℕ) (seat : Seat) (here : seat_at w (present_life w node) ≡ Some seat) where
  pub call_reported : (asa : ℕ) (call : Call) (hold : Bool) (c : Choice) → report_of s w (event.Api node asa call hold) c ≡ plain.Reply c.reply
  unfolding report_of
  call_reported asa call hold c = ap (λ (o : Option Seat). report_by w (event.Api node asa call hold) c (visit_seat (present_life w node) (input.Api asa call) o)) here

  call_replies : (asa : ℕ) (call : Call) (hold : Bool) (c d : Choice) → report_of s w (event.Api node asa call hold) c ≡ report_of s w (event.Api node asa call hold) d → c.reply ≡ d.reply
  unfolding reply_in
  call_replies asa call hold c d same = ap reply_in (sym (call_reported asa call hold c) ∙ same ∙ call_reported asa call hold d)

  pub agent_reported : (hold : Bool) (c : Choice) → report_of s w (event.Agent node hold) c ≡ plain.Agent (next_call seat.agent) c.reply
  unfolding report_of agent_visit
  agent_reported hold c = ap (λ (o : Option Seat). report_by w (event.Agent node hold) c (agent_seat (present_life w node) o)) here

  agent_replies : (hold : Bool) (c d : Choice) → report_of s w (event.Agent node hold) c ≡ report_of s w (event.Agent node hold) d → c.reply ≡ d.reply
  unfolding reply_in
  agent_replies hold c d same = ap reply_in (sym (agent_reported hold c) ∙ same ∙ agent_reported hold d)

-- ---- one event

module _ (s : Setting) (x : DoubtState) (r : IsReached s x.world) where
  -- a member is there in its present life
  member_there : (node : ℕ) → IsNode (length s.members) node → (seat : Seat) × (present_seat x.world node ≡ Some seat)
  member_there node member = numbered_there x.world.seats (present_life x.world node) ((lives_are_kept s x.world r).present node member)

  outcomes : (e : Event) (c d : Choice) → Occurs s x.world e c → Occurs s x.world e d → IsSameOutcome s x.world e c d
  outcomes e c d a b = runs_agree.events s x.world e c d r a b

  -- ---- what the doubter of an agent's node sees

  seeing_same : (k : DoubterState) (before after : Option Seat) (c d : Choice) → c.reply ≡ d.reply → seeing k before after c ≡ seeing k before after d
  seeing_same k None after c d same = refl
  seeing_same k (Some seat) None c d same = refl
  seeing_same k (Some seat) (Some then) c d same = ap (λ (y : Reply). after_saw k then.agent.pool (next_call seat.agent) y) same

  seen_same : (node : ℕ) (w : WorldState) (q : Option DoubterState) (c d : Choice) → c.reply ≡ d.reply → having_seen x node c w q ≡ having_seen x node d w q
  seen_same node w None c d same = refl
  seen_same node w (Some k) c d same = ap (λ (j : DoubterState). with_doubter x.doubters node j) (seeing_same k (present_seat x.world node) (present_seat w node) c d same)

  agent_same : (node : ℕ) (hold : Bool) (w : WorldState) (c d : Choice) → IsNode (length s.members) node → IsSameOutcome s x.world (event.Agent node hold) c d
      → doubters_after x (event.Agent node hold) c w ≡ doubters_after x (event.Agent node hold) d w
  agent_same node hold w c d member out =
      let m = member_there node member in
      seen_same node w (numbered x.doubters node) c d (agent_replies s x.world node m.0 m.1 hold c d out.report)

  doubters_same : (e : Event) (w : WorldState) (c d : Choice) → Occurs s x.world e c → IsSameOutcome s x.world e c d → doubters_after x e c w ≡ doubters_after x e d w
  doubters_same (event.Agent node hold) w c d a out = agent_same node hold w c d a.fit out
  doubters_same _ w c d a out = refl

  plain_same : (e : Event) (c d : Choice) → Occurs s x.world e c → Occurs s x.world e d → after_plain s x e c ≡ after_plain s x e d
  unfolding after_plain
  plain_same e c d a b =
      let out : IsSameOutcome s x.world e c d = outcomes e c d a b in
      ap (λ (w : WorldState). record { world = w; doubters = doubters_after x e c w }) out.after
      ∙ ap (λ (ks : List DoubterState). record { world = after_event s x.world e d; doubters = ks }) (doubters_same e (after_event s x.world e d) c d a out)

  -- ---- a doubter's call

  taken_by : (k : DoubterState) (o : Option Seat) (c d : Choice) → c.reply ≡ d.reply → taken_beside o k c ≡ taken_beside o k d
  taken_by k None c d same = refl
  taken_by k (Some seat) c d same = ap (λ (y : Reply). after_take k seat.agent y) same

  replies_same : (node : ℕ) (k : DoubterState) (c d : Choice) → Occurs s x.world (doubter_event k node) c → Occurs s x.world (doubter_event k node) d → c.reply ≡ d.reply
  replies_same node k c d a b =
      let m = member_there node a.fit.0 in
      call_replies s x.world node m.0 m.1 2 (doubter.next_call k) false c d (outcomes (doubter_event k node) c d a b).report

  taken_same : (node : ℕ) (k : DoubterState) (c d : Choice) → Occurs s x.world (doubter_event k node) c → Occurs s x.world (doubter_event k node) d → taken_at s x.world node k c ≡ taken_at s x.world node k d
  taken_same node k c d a b =
      ap (λ (w : WorldState). taken_beside (present_seat w node) k c) (outcomes (doubter_event k node) c d a b).after
      ∙ taken_by k (present_seat (after_doubter_call s x.world node k d) node) c d (replies_same node k c d a b)

  -- the state once the doubter has made its call, by the network after that and what the reply made
  abbrev state_by : ℕ → WorldState → Taken → DoubtState
  state_by node w t = record { world = settled_where w node t.settled; doubters = with_doubter x.doubters node t.after }

  called_same : (node : ℕ) (q : Option DoubterState) (c d : Choice) → CallOccurs s x.world node c q → CallOccurs s x.world node d q → doubter_called s x node c q ≡ doubter_called s x node d q
  called_same node None c d a b = absurd a
  called_same node (Some k) c d a b =
      ap (λ (w : WorldState). state_by node w (taken_at s x.world node k c)) (outcomes (doubter_event k node) c d a b).after
      ∙ ap (λ (t : Taken). state_by node (after_doubter_call s x.world node k d) t) (taken_same node k c d a b)

  call_told : (node : ℕ) (q : Option DoubterState) (c d : Choice) → CallOccurs s x.world node c q → CallOccurs s x.world node d q → call_report c q ≡ call_report d q
  call_told node None c d a b = absurd a
  call_told node (Some k) c d a b = ap (λ (y : Reply). report.Plain (plain.Agent (doubter.next_call k) y)) (replies_same node k c d a b)

  call_fits : (node : ℕ) (q : Option DoubterState) (c : Choice) → CallOccurs s x.world node c q → CallMayStop s x.world node stop.TooMuch q → ⊥
  call_fits node None c a o = o
  call_fits node (Some k) c a o = stops_agree s x.world (doubter_event k node) c r a o

  -- ---- the whole

  pub events_agree : (e : DoubtEvent) (c d : Choice) → DoubtOccurs s x e c → DoubtOccurs s x e d → doubt_event s x e c ≡ doubt_event s x e d
  unfolding after_doubter
  events_agree (doubt.Plain e) c d a b = plain_same e c d a.0 b.0
  events_agree (doubt.Doubter node) c d a b = called_same node (numbered x.doubters node) c d a b
  events_agree (doubt.Ask node prefix peer) c d a b = refl

  pub reports_agree : (e : DoubtEvent) (c d : Choice) → DoubtOccurs s x e c → DoubtOccurs s x e d → doubt_report s x e c ≡ doubt_report s x e d
  reports_agree (doubt.Plain e) c d a b = ap report.Plain (outcomes e c d a.0 b.0).report
  reports_agree (doubt.Doubter node) c d a b = call_told node (numbered x.doubters node) c d a b
  reports_agree (doubt.Ask node prefix peer) c d a b = refl

  -- an event that comes out doesn't send too much
  pub event_fits : (e : DoubtEvent) (c : Choice) → DoubtOccurs s x e c → DoubtMayStop s x e stop.TooMuch → ⊥
  event_fits (doubt.Plain e) c a o = stops_agree s x.world e c r a.0 o
  event_fits (doubt.Doubter node) c a o = call_fits node (numbered x.doubters node) c a o
  event_fits (doubt.Ask node prefix peer) c a o = o
