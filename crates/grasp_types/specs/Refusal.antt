-- Why an agent's call was refused: the table of numbers and printed names.
use Rattle.std.specs.Prelude.{ℕ, List, codes}
use Rattle.grasp_types.specs.declared.refusal.ApiRefused.{ApiRefused}
use Rattle.grasp_types.specs.declared.refusal.ApiRefused.TheVariants.{NoAsa, AsasFull, DuplicateAsa, NotBoth, ObjectivesFull, ObjectiveTaken, NotYourObjective, NotNegotiable, NotSynchronizable, NotDry, BadLocator, NoSession, NotYourTurn, LoopsSpent, WaitsSpent, NoFlood, SessionsFull, StreamsFull, TooLong, OutboxFull, OutOfMemory}

-- the number of a refusal, which is also its rank: of the refusals that hold, the one of the least number is answered
abbrev pub refusal_number : ApiRefused → ℕ
refusal_number NoAsa = 1
refusal_number AsasFull = 2
refusal_number DuplicateAsa = 3
refusal_number NotBoth = 4
refusal_number ObjectivesFull = 5
refusal_number ObjectiveTaken = 6
refusal_number NotYourObjective = 7
refusal_number NotNegotiable = 8
refusal_number NotSynchronizable = 9
refusal_number NotDry = 10
refusal_number BadLocator = 11
refusal_number NoSession = 12
refusal_number NotYourTurn = 13
refusal_number LoopsSpent = 14
refusal_number WaitsSpent = 15
refusal_number NoFlood = 16
refusal_number SessionsFull = 17
refusal_number StreamsFull = 18
refusal_number TooLong = 19
refusal_number OutboxFull = 20
refusal_number OutOfMemory = 21

-- the name of a refusal, as reports print it
abbrev pub refusal_name : ApiRefused → List ℕ
refusal_name NoAsa = codes "NoAsa"
refusal_name AsasFull = codes "AsasFull"
refusal_name DuplicateAsa = codes "DuplicateAsa"
refusal_name NotBoth = codes "NotBoth"
refusal_name ObjectivesFull = codes "ObjectivesFull"
refusal_name ObjectiveTaken = codes "ObjectiveTaken"
refusal_name NotYourObjective = codes "NotYourObjective"
refusal_name NotNegotiable = codes "NotNegotiable"
refusal_name NotSynchronizable = codes "NotSynchronizable"
refusal_name NotDry = codes "NotDry"
refusal_name BadLocator = codes "BadLocator"
refusal_name NoSession = codes "NoSession"
refusal_name NotYourTurn = codes "NotYourTurn"
refusal_name LoopsSpent = codes "LoopsSpent"
refusal_name WaitsSpent = codes "WaitsSpent"
refusal_name NoFlood = codes "NoFlood"
refusal_name SessionsFull = codes "SessionsFull"
refusal_name StreamsFull = codes "StreamsFull"
refusal_name TooLong = codes "TooLong"
refusal_name OutboxFull = codes "OutboxFull"
refusal_name OutOfMemory = codes "OutOfMemory"
