-- The lines of reports. The layout is this project's own.
use Rattle.std.specs.Prelude.{ℕ, List, [], ◌∷◌, ◌++◌, Result, Ok, Err, codes, decimal}
use Rattle.grasp_agent.specs.declared.back.ReturnFault.{ReturnFault}
use Rattle.grasp_agent.specs.declared.back.ReturnFault.TheVariants as back
use Rattle.grasp_agent.specs.declared.want.WantFault.{WantFault}
use Rattle.grasp_agent.specs.declared.want.WantFault.TheVariants.{Busy, Full}
use Rattle.grasp_pool.specs.Holdings.{Holding}
use Rattle.grasp_model_network.specs.declared.report.Report.{Report}
use Rattle.grasp_model_network.specs.declared.report.Report.TheVariants as report
use Rattle.grasp_text.specs.Words.{spaced}
use Rattle.grasp_text.specs.Line.{prefix_word}
use Rattle.grasp_script.specs.Answers.{reply_words, prefix_words}
use Rattle.grasp_script.specs.Calls.{call_words}

-- whether an agent took a want
abbrev pub want_words : Result (Unit {0}) WantFault → List (List ℕ)
want_words (Ok u) = codes "ok" ∷ []
want_words (Err (Busy length longest)) = codes "busy" ∷ decimal length ∷ decimal longest ∷ []
want_words (Err Full) = codes "full" ∷ []

-- whether an agent took a return
abbrev pub return_words : Result (Unit {0}) ReturnFault → List (List ℕ)
return_words (Ok u) = codes "ok" ∷ []
return_words (Err (back.Busy prefix)) = codes "busy" ∷ prefix_word prefix ∷ []
return_words (Err back.NotFree) = codes "notfree" ∷ []
return_words (Err back.Full) = codes "full" ∷ []

-- what an event came to
abbrev pub report_words : Report → List (List ℕ)
report_words (report.Reply reply) = reply_words reply
report_words (report.Agent call reply) = reply_words reply
report_words report.Nothing = codes "nothing" ∷ []
report_words (report.Reading millis) = decimal millis ∷ []
report_words (report.Want taken) = want_words taken
report_words (report.Return taken) = return_words taken
report_words (report.Sent outputs) = codes "sent" ∷ decimal outputs ∷ []

-- the call that a node's agent made
abbrev pub made_words : Report → List (List ℕ)
made_words (report.Reply reply) = []
made_words (report.Agent call reply) = call_words call
made_words report.Nothing = []
made_words (report.Reading millis) = []
made_words (report.Want taken) = []
made_words (report.Return taken) = []
made_words (report.Sent outputs) = []

-- a report is the event's line, the call that the node's agent made, ` = ` and what the event came to
abbrev pub told_report : List ℕ → Report → List ℕ
told_report line report = line ++ spaced (made_words report ++ codes "=" ∷ report_words report)

-- a node's pool: the prefixes that it holds, those that are reserved and those in doubt, each by rising address
abbrev pub state_words : Holding → List (List ℕ)
state_words h = codes "held" ∷ (prefix_words h.free ++ codes "reserved" ∷ (prefix_words h.reserved ++ codes "doubt" ∷ prefix_words h.doubtful))

-- the report of a node's state
abbrev pub told_state : List ℕ → Holding → List ℕ
told_state line h = line ++ spaced (codes "=" ∷ state_words h)
