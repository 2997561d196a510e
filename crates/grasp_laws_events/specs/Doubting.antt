-- What a doubter asks and answers: which question it takes, which calls it makes, and when it says that a prefix was never accepted. Names, texts
-- and values are this project's own.
use Rattle.std.specs.Prelude.{◌≡◌, ◌↔◌, ◌<◌, ℕ, Bool, true, false, [], ◌∷◌, length, Result, Ok, Err, None, Some, Contains, codes}
use Rattle.std.specs.Int.{to_be_bytes, w128}
use Rattle.grasp_agent.specs.States.{AgentState}
use Rattle.grasp_cbor.specs.DataItem.{DataItem, unsigned, byte_string, array_of}
use Rattle.grasp_doubter.specs.Asking.{after_ask, ask_reply}
use Rattle.grasp_doubter.specs.Calls.{next_call}
use Rattle.grasp_doubter.specs.Questions.{question_in}
use Rattle.grasp_doubter.specs.Replies.{Taken, after_take}
use Rattle.grasp_doubter.specs.States.{DoubterState, duty_of, is_unasked}
use Rattle.grasp_doubter.specs.declared.asking.Ask.{Ask}
use Rattle.grasp_doubter.specs.declared.asking.AskFault.{AskFault}
use Rattle.grasp_doubter.specs.declared.asking.AskFault.TheVariants.{Busy, NotDoubtful, NotGiven}
use Rattle.grasp_doubter.specs.declared.duty.DoubtDuty.{DoubtDuty}
use Rattle.grasp_doubter.specs.declared.duty.DoubtDuty.TheVariants as duty
use Rattle.grasp_doubter.specs.declared.question.Question.{Question}
use Rattle.grasp_pool.specs.Holdings.{Holding}
use Rattle.grasp_types.specs.Address.{IsAddress, address_item}
use Rattle.grasp_types.specs.Prefix.{AddressBlock as Prefix, IsPrefix, Overlap}
use Rattle.grasp_types.specs.declared.address.Address.{Address}
use Rattle.grasp_types.specs.declared.address.Locator.{Locator}
use Rattle.grasp_types.specs.declared.call.Call.TheVariants as call
use Rattle.grasp_types.specs.declared.message.Verdict.TheVariants as verdict
use Rattle.grasp_types.specs.declared.objective.Objective.{Objective}
use Rattle.grasp_types.specs.declared.reply.ApiAnswer.TheVariants as answer
use Rattle.grasp_types.specs.declared.reply.Reply.{Reply}
use Rattle.grasp_types.specs.declared.reply.Reply.TheVariants as reply
use Rattle.grasp_types.specs.declared.session.By.TheVariants.{Theirs}
use Rattle.grasp_types.specs.declared.session.Handle.{Handle}
use Rattle.grasp_types.specs.declared.session.Outcome.{Outcome}
use Rattle.grasp_types.specs.declared.session.Outcome.TheVariants as outcome
use Rattle.grasp_types.specs.declared.session.Progress.TheVariants as progress

-- ---- which questions are taken

-- a step has offered the prefix to this address
abbrev pub StepOfferedTo : DoubterState → Prefix → Address → Type 0
StepOfferedTo d p a = Contains d.offered (record { prefix = p; address = a })

abbrev pub StepOffered : DoubterState → Prefix → Type 0
StepOffered d p = (a : Address) × StepOfferedTo d p a

-- when a question is answered so: there is no other one, the prefix is in doubt in this pool, and a step has offered it; or which of these fails
-- first
abbrev pub AskIsAnswered : DoubterState → Holding → Prefix → Result (Unit {0}) AskFault → Type 0
AskIsAnswered d h p (Ok done) = (d.ask ≡ None) × Contains h.doubtful p × StepOffered d p
AskIsAnswered d h p (Err (Busy q)) = (k : Ask) × (d.ask ≡ Some k) × (k.prefix ≡ q)
AskIsAnswered d h p (Err NotDoubtful) = (d.ask ≡ None) × (¬ Contains h.doubtful p)
AskIsAnswered d h p (Err NotGiven) = (d.ask ≡ None) × Contains h.doubtful p × (¬ StepOffered d p)

-- one that is taken is to be asked of a node to which the prefix was offered, and isn't requested yet
abbrev pub AskLeaves : DoubterState → DoubterState → Prefix → Locator → Result (Unit {0}) AskFault → Type 0
AskLeaves old new p peer (Ok done) =
    (a : Address) × StepOfferedTo old p a × (new ≡ record old { ask = Some (record { prefix = p; address = a; peer = peer; session = None }) })
AskLeaves old new p peer (Err fault) = new ≡ old

abbrev pub AsksAreAnswered : Type 0
AsksAreAnswered = (d : DoubterState) (h : Holding) (p : Prefix) → ((x : Result (Unit {0}) AskFault) → (ask_reply d h p ≡ x) ↔ AskIsAnswered d h p x)
    × ((peer : Locator) → AskLeaves d (after_ask d p peer (ask_reply d h p)) p peer (ask_reply d h p))

-- the value that asks the node of this address of this prefix: [its address, the prefix's length, the 16 bytes of the prefix's address]
abbrev pub asking_value : Address → Prefix → DataItem
asking_value a p = array_of (address_item a ∷ unsigned p.length ∷ byte_string (to_be_bytes w128 p.address) ∷ [])

-- ---- which are answered

-- it has no answer to give and no question to request, listens, and answers fewer than 64
pub record HearsQuestions (d : DoubterState) : Type 0 where
  pub idle : d.act ≡ None
  pub asked : is_unasked d.ask ≡ false
  pub listens : duty_of d ≡ duty.Listen
  pub room : length d.answering < 64

-- the question is for this node, all that it has accepted is known and overlaps the prefix nowhere, and its agent of prefixes wants nothing
pub record KnowsNever (d : DoubterState) (s : AgentState) (q : Question) : Type 0 where
  pub own : q.address ≡ d.address
  pub counted : d.lost ≡ false
  pub apart : (p : Prefix) → Contains d.accepted p → ¬ Overlap p q.prefix
  pub idle : s.want ≡ None

pub record QuestionsAreAnswered : Type 0 where
  -- a question that comes is accepted exactly where the node knows that it never accepted the prefix, and is declined otherwise
  pub decided : (d : DoubterState) (s : AgentState) (h : Handle) (from : Address) (o : Objective) (q : Question) → HearsQuestions d
      → question_in o.value ≡ Some q
      → (accepts : Bool) × ((after_take d s (reply.Api (answer.Incoming h from o))).after.act ≡ Some (record { handle = h; accepts = accepts }))
      × ((accepts ≡ true) ↔ KnowsNever d s q)
  -- a value that is no question is declined
  pub strange : (d : DoubterState) (s : AgentState) (h : Handle) (from : Address) (o : Objective) → HearsQuestions d → question_in o.value ≡ None
      → (after_take d s (reply.Api (answer.Incoming h from o))).after.act ≡ Some (record { handle = h; accepts = false })
  -- a question that was written is read
  pub read : (a : Address) (p : Prefix) → IsAddress a → IsPrefix p.address p.length
      → question_in (Some (asking_value a p)) ≡ Some (record { address = a; prefix = p })

-- ---- how its own question ends

-- it has no answer to give, this question has this session, and to ask how that stands is next
pub record AsksHow (d : DoubterState) (k : Ask) (h : Handle) : Type 0 where
  pub idle : d.act ≡ None
  pub asked : d.ask ≡ Some k
  pub session : k.session ≡ Some h
  pub duty : duty_of d ≡ duty.Ask h

-- the session ended by the acceptance of the node that was asked
abbrev pub IsAccepted : Outcome → Type 0
IsAccepted (outcome.Agreed Theirs o) = Unit {0}
IsAccepted _ = ⊥

-- a doubter, beside an agent of prefixes that stands so, is told that the session ended so
abbrev pub after_end : DoubterState → AgentState → Outcome → Taken
after_end d s e = after_take d s (reply.Api (answer.Polled (progress.Ended e)))

pub record QuestionsEnd : Type 0 where
  -- the prefix is settled where the question was accepted, and isn't where its session ended otherwise; and the question is over
  pub settles : (d : DoubterState) (s : AgentState) (k : Ask) (h : Handle) (e : Outcome) → AsksHow d k h → IsAccepted e
      → ((after_end d s e).settled ≡ Some k.prefix) × ((after_end d s e).after.ask ≡ None)
  pub leaves : (d : DoubterState) (s : AgentState) (k : Ask) (h : Handle) (e : Outcome) → AsksHow d k h → ¬ IsAccepted e
      → ((after_end d s e).settled ≡ None) × ((after_end d s e).after.ask ≡ None)
  -- and nothing else settles one
  pub only : (d : DoubterState) (s : AgentState) (r : Reply) (p : Prefix) → (after_take d s r).settled ≡ Some p
      → (k : Ask) × (d.ask ≡ Some k) × (k.prefix ≡ p) × ((e : Outcome) × (r ≡ reply.Api (answer.Polled (progress.Ended e))) × IsAccepted e)

-- ---- its calls

-- it has no answer to give and no question to request, and this duty is next
pub record IsNextDuty (d : DoubterState) (x : DoubtDuty) : Type 0 where
  pub idle : d.act ≡ None
  pub asked : is_unasked d.ask ≡ false
  pub duty : duty_of d ≡ x

pub record DoubtsAreCalled : Type 0 where
  -- its answer comes first: an acceptance says never, and a decline says that it isn't known
  pub never : (d : DoubterState) (h : Handle) → d.act ≡ Some (record { handle = h; accepts = true })
      → next_call d ≡ call.EndNegotiate h verdict.Accept
  pub unknown : (d : DoubterState) (h : Handle) → d.act ≡ Some (record { handle = h; accepts = false })
      → next_call d ≡ call.EndNegotiate h (verdict.Decline (Some (codes "unknown")))
  -- then its question: the address of the node that is asked and the prefix, with one loop and 60000 ms, which isn't dry
  pub asks : (d : DoubterState) (k : Ask) → d.act ≡ None → d.ask ≡ Some k → k.session ≡ None
      → next_call d
      ≡ call.RequestNegotiate (codes "PrefixDoubt") (asking_value k.address k.prefix) 1 60000 false k.peer
  -- and then its duties
  pub listens : (d : DoubterState) → IsNextDuty d duty.Listen → next_call d ≡ call.ListenNegotiate (codes "PrefixDoubt")
  pub polls : (d : DoubterState) (h : Handle) → IsNextDuty d (duty.Ask h) → next_call d ≡ call.Poll h
  pub polls_answered : (d : DoubterState) (place : ℕ) (h : Handle) → IsNextDuty d (duty.Answer place h) → next_call d ≡ call.Poll h
