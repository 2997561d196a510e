-- A negotiation that ends in agreement, so that the laws speak of something.
use Rattle.std.specs.Prelude.{[], ◌∷◌, Option, Some, None}
use Rattle.grasp_types.specs.declared.objective.Objective.{Objective}
use Rattle.grasp_types.specs.declared.message.Verdict.TheVariants.{Accept}
use Rattle.grasp_types.specs.declared.session.Outcome.{Outcome}
use Rattle.grasp_cbor.specs.DataItem.{unsigned}
use Rattle.grasp_session.specs.Messages.{Near, Far}
use Rattle.grasp_session.specs.Transcript.{outcome_of, SayStep, SayWait, SayEnd}
use Rattle.grasp_session.specs.Talk.{Stage, Absent, Refused, Present, Talk, quiet, Requests, OpensFar, Says, Hears, run}

abbrev pub sample_request : Objective
sample_request = record { name = 80 ∷ []; flags = 3; loops = 6; value = Some ((unsigned 1)) }

-- near asks, far waits and offers, near offers back, far offers again and once more out of turn, near accepts
abbrev pub sample : Talk
sample = run quiet (Requests 0 60 7 sample_request ∷ OpensFar 5 60 ∷ Says Far 5 (SayWait 9) ∷ Says Far 6 (SayStep ((unsigned 2))) ∷ Hears Near 7 ∷ Hears Near 8
    ∷ Says Near 9 (SayStep ((unsigned 3))) ∷ Hears Far 10 ∷ Says Far 11 (SayStep ((unsigned 4))) ∷ Says Far 11 (SayStep ((unsigned 5))) ∷ Hears Near 12 ∷ Says Near 13 (SayEnd Accept) ∷ Hears Far 14 ∷ [])

abbrev pub outcome_at : Stage → Option Outcome
outcome_at Absent = None
outcome_at Refused = None
outcome_at (Present v) = outcome_of v
