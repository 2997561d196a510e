-- What happens in a network of doubters: which events may be asked for, what comes of each, and what is reported of it.
use Rattle.std.specs.Prelude.{◌≢◌, ℕ, List, [], ◌∷◌, ◌++◌, Option, None, Some, length}
use Rattle.grasp_doubter.specs.Calls as doubter
use Rattle.grasp_doubter.specs.States.{DoubterState}
use Rattle.grasp_types.specs.Prefix.{AddressBlock as Prefix}
use Rattle.grasp_model_network.specs.Events.{IsFit, MayStop, Occurs}
use Rattle.grasp_model_network.specs.Plans.{IsNode}
use Rattle.grasp_model_network.specs.Reports.{report_of}
use Rattle.grasp_model_network.specs.Setting.{Setting, numbered}
use Rattle.grasp_model_network.specs.Turns.{TakenTurn}
use Rattle.grasp_model_network.specs.Visits.{Choice, no_choice}
use Rattle.grasp_model_network.specs.World.{WorldState}
use Rattle.grasp_model_network.specs.declared.event.Event.{Event}
use Rattle.grasp_model_network.specs.declared.event.Event.TheVariants as event
use Rattle.grasp_model_network.specs.declared.report.Report.TheVariants as plain_report
use Rattle.grasp_model_network.specs.declared.report.WorldStop.{WorldStop}
use Rattle.grasp_model_network.specs.declared.turn.Turn.TheVariants as turn
use Rattle.grasp_model_doubts.specs.Steps.{after_asking, after_doubter, after_doubter_call, after_plain, asking_reply, doubter_event, taken_at}
use Rattle.grasp_model_doubts.specs.World.{DoubtState}
use Rattle.grasp_model_doubts.specs.declared.event.DoubtEvent.{DoubtEvent}
use Rattle.grasp_model_doubts.specs.declared.event.DoubtEvent.TheVariants as doubt
use Rattle.grasp_model_doubts.specs.declared.report.DoubtReport.{DoubtReport}
use Rattle.grasp_model_doubts.specs.declared.report.DoubtReport.TheVariants as report

-- ---- which events may be asked for, and how they may come out

-- no call is made as agent 2, which is the node's doubter. That none is made as agent 1 is asked of each event
abbrev pub IsPlain : Event → Type 0
IsPlain (event.Api node asa call hold) = asa ≢ 2
IsPlain _ = Unit {0}

-- the event may be asked for: one that fits the network and is no doubter's call, the call of a doubter that is there, or a question of
-- one, at a peer that is there
abbrev pub IsDoubtFit : Setting → DoubtState → DoubtEvent → Type 0
IsDoubtFit s x (doubt.Plain e) = IsFit s x.world e × IsPlain e
IsDoubtFit s x (doubt.Doubter node) = IsNode (length s.members) node
IsDoubtFit s x (doubt.Ask node p peer) = IsNode (length s.members) node × IsNode (length s.peers) peer

-- the call of a doubter may come out so
abbrev pub CallOccurs : Setting → WorldState → ℕ → Choice → Option DoubterState → Type 0
CallOccurs s w node c None = ⊥
CallOccurs s w node c (Some d) = Occurs s w (doubter_event d node) c

-- the event may come out so. Nothing is asked of a prefix that is settled: that it may be is a law
abbrev pub DoubtOccurs : Setting → DoubtState → DoubtEvent → Choice → Type 0
DoubtOccurs s x (doubt.Plain e) c = Occurs s x.world e c × IsPlain e
DoubtOccurs s x (doubt.Doubter node) c = CallOccurs s x.world node c (numbered x.doubters node)
DoubtOccurs s x (doubt.Ask node p peer) c = IsNode (length s.members) node × IsNode (length s.peers) peer

-- ---- what comes of it

-- the network and the doubters after it
abbrev pub doubt_event : Setting → DoubtState → DoubtEvent → Choice → DoubtState
doubt_event s x (doubt.Plain e) c = after_plain s x e c
doubt_event s x (doubt.Doubter node) c = after_doubter s x node c
doubt_event s x (doubt.Ask node p peer) c = after_asking s x node p peer

abbrev pub CallMayStop : Setting → WorldState → ℕ → WorldStop → Option DoubterState → Type 0
CallMayStop s w node why None = ⊥
CallMayStop s w node why (Some d) = MayStop s w (doubter_event d node) why

-- why the event may stop the network; a question stops nothing
abbrev pub DoubtMayStop : Setting → DoubtState → DoubtEvent → WorldStop → Type 0
DoubtMayStop s x (doubt.Plain e) why = MayStop s x.world e why
DoubtMayStop s x (doubt.Doubter node) why = CallMayStop s x.world node why (numbered x.doubters node)
DoubtMayStop s x (doubt.Ask node p peer) why = ⊥

-- ---- what is reported of it

abbrev pub call_report : Choice → Option DoubterState → DoubtReport
call_report c None = report.Plain plain_report.Nothing
call_report c (Some d) = report.Plain (plain_report.Agent (doubter.next_call d) c.reply)

-- what the event comes to; a doubter's call is reported as one of an agent of prefixes
abbrev pub doubt_report : Setting → DoubtState → DoubtEvent → Choice → DoubtReport
doubt_report s x (doubt.Plain e) c = report.Plain (report_of s x.world e c)
doubt_report s x (doubt.Doubter node) c = call_report c (numbered x.doubters node)
doubt_report s x (doubt.Ask node p peer) c = report.Ask (asking_reply x node p)

-- ---- the turns of the network that it comes to

abbrev pub settling_turns : ℕ → Option Prefix → List TakenTurn
settling_turns node None = []
settling_turns node (Some p) = record { turn = turn.Settle node p; choice = no_choice } ∷ []

abbrev pub call_turns : Setting → WorldState → ℕ → Choice → Option DoubterState → List TakenTurn
call_turns s w node c None = []
call_turns s w node c (Some d) = record { turn = turn.Event (doubter_event d node); choice = c } ∷ settling_turns node (taken_at s w node d c).settled

-- an event is a turn, a doubter's call is one too, and a settling is another one behind it; a question is none
abbrev pub turns_of_event : Setting → DoubtState → DoubtEvent → Choice → List TakenTurn
turns_of_event s x (doubt.Plain e) c = record { turn = turn.Event e; choice = c } ∷ []
turns_of_event s x (doubt.Doubter node) c = call_turns s x.world node c (numbered x.doubters node)
turns_of_event s x (doubt.Ask node p peer) c = []

abbrev pub networks_of_call : Setting → WorldState → ℕ → Choice → Option DoubterState → List WorldState
networks_of_call s w node c None = []
networks_of_call s w node c (Some d) = after_doubter_call s w node d c ∷ []

-- the network that an event passes on the way: that after a doubter's call, before a prefix is settled
abbrev pub networks_within : Setting → DoubtState → DoubtEvent → Choice → List WorldState
networks_within s x (doubt.Plain e) c = []
networks_within s x (doubt.Doubter node) c = networks_of_call s x.world node c (numbered x.doubters node)
networks_within s x (doubt.Ask node p peer) c = []
