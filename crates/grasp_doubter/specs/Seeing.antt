-- What a doubter keeps of the calls of the agent of prefixes at its node, each told once the agent has taken its reply.
use Rattle.std.specs.Prelude.{ℕ, nat_lt, not, ◌||◌, Bool, true, false, if◌then◌else◌, List, [], ◌∷◌, ◌++◌, length, filter, find, Option, Some, None}
use Rattle.std.specs.List.{list_any}
use Rattle.grasp_types.specs.Prefix.{AddressBlock as Prefix}
use Rattle.grasp_types.specs.declared.address.Address.{Address}
use Rattle.grasp_types.specs.declared.call.Call.{Call}
use Rattle.grasp_types.specs.declared.call.Call.TheVariants as call
use Rattle.grasp_types.specs.declared.reply.ApiAnswer.{ApiAnswer}
use Rattle.grasp_types.specs.declared.reply.ApiAnswer.TheVariants as answer
use Rattle.grasp_types.specs.declared.reply.Reply.{Reply}
use Rattle.grasp_types.specs.declared.session.By.TheVariants.{Mine, Theirs}
use Rattle.grasp_types.specs.declared.session.Handle.{Handle}
use Rattle.grasp_types.specs.declared.session.Outcome.{Outcome}
use Rattle.grasp_types.specs.declared.session.Outcome.TheVariants as outcome
use Rattle.grasp_types.specs.declared.session.Progress.{Progress}
use Rattle.grasp_types.specs.declared.session.Progress.TheVariants as progress
use Rattle.grasp_pool.specs.Holdings.{Holding}
use Rattle.grasp_agent.specs.Replies.{answer_in}
use Rattle.grasp_agent.specs.Values.{offered_in}
use Rattle.grasp_doubter.specs.States.{DoubterState, is_prefix, is_session}
use Rattle.grasp_doubter.specs.declared.seen.Opener.{Opener}
use Rattle.grasp_doubter.specs.declared.seen.Sent.{Sent}

-- ---- who opened a giving session

-- one more opener, of which there are at most 64
abbrev pub with_opener : List Opener → Handle → Address → List Opener
with_opener os h a = if nat_lt (length os) 64 then os ++ record { handle = h; address = a } ∷ [] else os

abbrev pub opener_address : Option Opener → Option Address
opener_address None = None
opener_address (Some o) = Some o.address

-- who opened this session
abbrev pub opener_of : List Opener → Handle → Option Address
opener_of os h = opener_address (find (λ o. is_session o.handle h) os)

-- the openers but that of this session
abbrev pub without_opener : List Opener → Handle → List Opener
without_opener os h = filter (λ o. not (is_session o.handle h)) os

-- ---- to whom a prefix was offered

-- the entries but that of this prefix
abbrev pub without_sent : List Sent → Prefix → List Sent
without_sent ss p = filter (λ s. not (is_prefix s.prefix p)) ss

-- an entry behind these, of which there are at most 4096
abbrev pub and_sent : List Sent → Prefix → Address → List Sent
and_sent ss p a = if nat_lt (length ss) 4096 then ss ++ record { prefix = p; address = a } ∷ [] else ss

-- the prefix was offered to this address: no earlier offer of it counts any more
abbrev pub with_sent : List Sent → Prefix → Option Address → List Sent
with_sent ss p None = without_sent ss p
with_sent ss p (Some a) = and_sent (without_sent ss p) p a

abbrev pub sent_address : Option Sent → Option Address
sent_address None = None
sent_address (Some s) = Some s.address

-- to whom this prefix was offered
abbrev pub sent_to : List Sent → Prefix → Option Address
sent_to ss p = sent_address (find (λ s. is_prefix s.prefix p) ss)

-- the pool has the prefix reserved or in doubt
abbrev pub is_set_aside : Holding → Prefix → Bool
is_set_aside h p = list_any (is_prefix p) h.reserved || list_any (is_prefix p) h.doubtful

-- an offer of a prefix that isn't set aside any more is forgotten
abbrev pub still_sent : Holding → List Sent → List Sent
still_sent h ss = filter (λ s. is_set_aside h s.prefix) ss

-- ---- what was accepted

-- one more prefix was accepted, of which 1024 are kept
abbrev pub with_accepted : DoubterState → Prefix → DoubterState
with_accepted d p = if nat_lt (length d.accepted) 1024 then record d { accepted = d.accepted ++ p ∷ [] } else record d { lost = true }

abbrev pub accepting : DoubterState → Option Prefix → DoubterState
accepting d None = d
accepting d (Some p) = with_accepted d p

-- a session ended so: what this node accepted in it is kept
abbrev pub after_outcome : DoubterState → Outcome → DoubterState
after_outcome d (outcome.Agreed Mine o) = accepting d (offered_in o.value)
after_outcome d (outcome.Agreed Theirs o) = d
after_outcome d _ = d

-- ---- a call and its reply

-- the session that is polled
abbrev pub polled : Call → Option Handle
polled (call.Poll h) = Some h
polled _ = None

-- a session that ended has no opener any more
abbrev pub after_ending : DoubterState → Option Handle → Outcome → DoubterState
after_ending d None e = after_outcome d e
after_ending d (Some h) e = after_outcome (record d { openers = without_opener d.openers h }) e

abbrev pub after_progress : DoubterState → Option Handle → Progress → DoubterState
after_progress d h (progress.Ended e) = after_ending d h e
after_progress d h _ = d

-- the prefix that a step offered
abbrev pub after_step : DoubterState → Handle → Option Prefix → DoubterState
after_step d h None = d
after_step d h (Some p) = record d { offered = with_sent d.offered p (opener_of d.openers h) }

-- a call was done: a step may have offered a prefix
abbrev pub after_done : DoubterState → Call → DoubterState
after_done d (call.NegotiateStep h v) = after_step d h (offered_in (Some v))
after_done d _ = d

abbrev pub after_answer : DoubterState → Call → ApiAnswer → DoubterState
after_answer d c (answer.Incoming h from o) = record d { openers = with_opener d.openers h from }
after_answer d c answer.Done = after_done d c
after_answer d c (answer.Polled p) = after_progress d (polled c) p
after_answer d c _ = d

abbrev pub after_answer_in : DoubterState → Call → Option ApiAnswer → DoubterState
after_answer_in d c None = d
after_answer_in d c (Some a) = after_answer d c a

-- what isn't set aside in this pool is forgotten
abbrev pub forgetting : Holding → DoubterState → DoubterState
forgetting h d = record d { offered = still_sent h d.offered }

-- after a call of the agent of prefixes, whose pool is this one now
unfoldable pub after_saw : DoubterState → Holding → Call → Reply → DoubterState
after_saw d h c r = forgetting h (after_answer_in d c (answer_in r))
