-- Which refusal a call is answered: of those that hold, the one of the least number.
use Rattle.std.specs.Prelude.{◌≡◌, ◌⊎◌, ◌++◌, Bool, false, List, [], ◌∷◌, Result, Ok, Err, if◌then◌else◌}
use Rattle.grasp_types.specs.declared.refusal.ApiRefused.{ApiRefused}
use Rattle.grasp_types.specs.declared.refusal.ApiRefused.TheVariants.{NoAsa, AsasFull, DuplicateAsa, NotBoth, ObjectivesFull, ObjectiveTaken, NotYourObjective, NotNegotiable, NotSynchronizable, NotDry, BadLocator, NoSession, NotYourTurn, LoopsSpent, WaitsSpent, NoFlood, SessionsFull, StreamsFull, TooLong, OutboxFull, OutOfMemory}
use Rattle.grasp_types.specs.declared.reply.ApiAnswer.{ApiAnswer}

-- a refusal with its test
pub record Test : Type 0 where
  pub refusal : ApiRefused
  pub holds : Bool

-- the first refusal whose test holds
abbrev pub first_that : List Test → Result (Unit {0}) ApiRefused
first_that [] = Ok tt
first_that (t ∷ ts) = if t.holds then Err t.refusal else first_that ts

-- the tests 1 to 18, which need no message, in rising number
abbrev pub early_tests : (ApiRefused → Bool) → List Test
early_tests holds =
    record { refusal = NoAsa; holds = holds NoAsa }
    ∷ record { refusal = AsasFull; holds = holds AsasFull }
    ∷ record { refusal = DuplicateAsa; holds = holds DuplicateAsa }
    ∷ record { refusal = NotBoth; holds = holds NotBoth }
    ∷ record { refusal = ObjectivesFull; holds = holds ObjectivesFull }
    ∷ record { refusal = ObjectiveTaken; holds = holds ObjectiveTaken }
    ∷ record { refusal = NotYourObjective; holds = holds NotYourObjective }
    ∷ record { refusal = NotNegotiable; holds = holds NotNegotiable }
    ∷ record { refusal = NotSynchronizable; holds = holds NotSynchronizable }
    ∷ record { refusal = NotDry; holds = holds NotDry }
    ∷ record { refusal = BadLocator; holds = holds BadLocator }
    ∷ record { refusal = NoSession; holds = holds NoSession }
    ∷ record { refusal = NotYourTurn; holds = holds NotYourTurn }
    ∷ record { refusal = LoopsSpent; holds = holds LoopsSpent }
    ∷ record { refusal = WaitsSpent; holds = holds WaitsSpent }
    ∷ record { refusal = NoFlood; holds = holds NoFlood }
    ∷ record { refusal = SessionsFull; holds = holds SessionsFull }
    ∷ record { refusal = StreamsFull; holds = holds StreamsFull }
    ∷ []

-- the tests 19 and 20, of what the call is to send: the message is too long, and the queue has no room for its outputs
pub record Sending : Type 0 where
  pub too_long : Bool
  pub outbox_full : Bool

-- the call sends nothing
abbrev pub nothing_sent : Sending
nothing_sent = record { too_long = false; outbox_full = false }

abbrev pub late_tests : Sending → List Test
late_tests s = record { refusal = TooLong; holds = s.too_long } ∷ record { refusal = OutboxFull; holds = s.outbox_full } ∷ []

-- the one order of all refusals but that for want of memory, which comes last
abbrev pub all_tests : (ApiRefused → Bool) → Sending → List Test
all_tests holds s = early_tests holds ++ late_tests s

abbrev pub early : (ApiRefused → Bool) → Result (Unit {0}) ApiRefused
early holds = first_that (early_tests holds)

abbrev pub late : Sending → Result (Unit {0}) ApiRefused
late s = first_that (late_tests s)

-- Inside: without the value
abbrev pub as_unit : {A : Type 0} → Result A ApiRefused → Result (Unit {0}) ApiRefused
as_unit (Ok a) = Ok tt
as_unit (Err r) = Err r

-- What a call may answer: where no test holds, what it is to answer, or, where the call may want memory, that there was
-- none; else the refusal of the first test that does.
abbrev pub MayAnswer : (ApiRefused → Bool) → Sending → Type 0 → (ApiAnswer → Type 0) → Result ApiAnswer ApiRefused → Type 0
MayAnswer holds s Starves Answers (Ok a) = (early holds ≡ Ok tt) × (late s ≡ Ok tt) × Answers a
MayAnswer holds s Starves Answers (Err r) = (early holds ≡ Err r) ⊎ ((early holds ≡ Ok tt) × ((late s ≡ Err r) ⊎ ((late s ≡ Ok tt) × (r ≡ OutOfMemory) × Starves)))
