-- What a reply makes of an agent of PrefixManager, as moves: when each is made, and what it changes.
use Rattle.std.specs.Prelude.{◌≡◌, ◌⊎◌, ℕ, ◌+◌, ◌<◌, ◌≤◌, true, false, List, [], ◌∷◌, ◌++◌, length, slice_get, slice_set, Option, Some, None}
use Rattle.grasp_types.specs.Prefix.{AddressBlock as Prefix}
use Rattle.grasp_types.specs.declared.objective.Objective.{Objective}
use Rattle.grasp_types.specs.declared.refusal.ApiRefused.{ApiRefused}
use Rattle.grasp_types.specs.declared.reply.ApiAnswer.{ApiAnswer}
use Rattle.grasp_types.specs.declared.reply.ApiAnswer.TheVariants as answer
use Rattle.grasp_types.specs.declared.reply.Reply.{Reply}
use Rattle.grasp_types.specs.declared.reply.Reply.TheVariants as reply
use Rattle.grasp_types.specs.declared.session.By.{By}
use Rattle.grasp_types.specs.declared.session.By.TheVariants.{Mine, Theirs}
use Rattle.grasp_types.specs.declared.session.Handle.{Handle}
use Rattle.grasp_types.specs.declared.session.Outcome.{Outcome}
use Rattle.grasp_types.specs.declared.session.Outcome.TheVariants as outcome
use Rattle.grasp_types.specs.declared.session.Progress.TheVariants as progress
use Rattle.grasp_pool.specs.Holdings.{Holding, Reserves, GivesBack, Confirms, Doubts, Gains}
use Rattle.grasp_agent.specs.Deciding.{GiverDecides, RequesterDecides}
use Rattle.grasp_agent.specs.Kept.{IsKept}
use Rattle.grasp_agent.specs.Replies.{answer_in, is_again, incoming_in, started_in, progress_in, deciding, give_act, want_act, removed, after_reply, replied, agent_after}
use Rattle.grasp_agent.specs.States.{AgentState, is_open, is_asking, is_returning, duties, duty_of}
use Rattle.grasp_agent.specs.Values.{offered_in}
use Rattle.grasp_agent.specs.declared.act.Act.{Act}
use Rattle.grasp_agent.specs.declared.act.Act.TheVariants as act
use Rattle.grasp_agent.specs.declared.decision.GiverDecision.{GiverDecision}
use Rattle.grasp_agent.specs.declared.decision.GiverDecision.TheVariants as giver
use Rattle.grasp_agent.specs.declared.decision.RequesterDecision.{RequesterDecision}
use Rattle.grasp_agent.specs.declared.back.Return.{Return}
use Rattle.grasp_agent.specs.declared.duty.Duty.{Duty}
use Rattle.grasp_agent.specs.declared.duty.Duty.TheVariants as duty
use Rattle.grasp_agent.specs.declared.giving.Giving.{Giving}
use Rattle.grasp_agent.specs.declared.stage.Stage.{Stage}
use Rattle.grasp_agent.specs.declared.stage.Stage.TheVariants as stage
use Rattle.grasp_agent.specs.declared.want.Want.{Want}
use Rattle.grasp_agent.specs.declared.want.WantEnd.{WantEnd}
use Rattle.grasp_agent.specs.declared.want.WantEnd.TheVariants as end

pub data Move : Type 0 where
  -- a session that a peer began comes in
  comes_in : Handle → Move
  -- the want's request began this session, or was refused
  starts : Handle → Move
  is_refused : ApiRefused → Move
  -- the turn is the agent's in the want's session, on this offer of the peer; or that session ended
  considers : Handle → Objective → Move
  finishes : Handle → Outcome → Move
  -- the return's request began this session, or was refused; or that session ended
  hands : Handle → Move
  is_unsent : ApiRefused → Move
  hears : Handle → Outcome → Move
  -- the act is done, or was refused
  is_made : Act → Move
  is_dropped : Act → Move
  -- the turn is the agent's in the giving session at this place, on this offer of the peer; or that session ended
  gives : ℕ → Giving → Objective → Move
  leaves : ℕ → Giving → Outcome → Move

-- ---- when a move is made

-- the agent's opening calls are done, it has no act and no request to make, and this duty is next
pub record IsNext (s : AgentState) (d : Duty) : Type 0 where
  pub serves : is_open s.stage ≡ true
  pub idle : s.act ≡ None
  pub asked : is_asking s.want ≡ false
  pub sent : is_returning s.back ≡ false
  pub duty : duty_of s ≡ d

-- the agent's opening calls are done, it has no act, and its want is to be requested
pub record IsRequesting (s : AgentState) : Type 0 where
  pub serves : is_open s.stage ≡ true
  pub idle : s.act ≡ None
  pub asks : is_asking s.want ≡ true

-- the agent's opening calls are done, it has no act and no want to request, and its return is to be requested
pub record IsReturning (s : AgentState) : Type 0 where
  pub serves : is_open s.stage ≡ true
  pub idle : s.act ≡ None
  pub asked : is_asking s.want ≡ false
  pub returns : is_returning s.back ≡ true

-- the agent listens: for the first time, or as its duty
abbrev pub IsListening : AgentState → Type 0
IsListening s = (s.stage ≡ stage.Opening) ⊎ IsNext s duty.Listen

abbrev pub Happens : AgentState → Reply → Move → Type 0
Happens s r (comes_in h) = IsListening s × (incoming_in (answer_in r) ≡ Some h) × (length s.giving < 64)
Happens s r (starts h) = IsRequesting s × (started_in (answer_in r) ≡ Some h)
Happens s r (is_refused x) = IsRequesting s × (r ≡ reply.Refused x) × (is_again r ≡ false)
Happens s r (considers h o) = IsNext s (duty.Want h) × (progress_in (answer_in r) ≡ Some (progress.Turn o))
Happens s r (finishes h e) = IsNext s (duty.Want h) × (progress_in (answer_in r) ≡ Some (progress.Ended e))
Happens s r (hands h) = IsReturning s × (started_in (answer_in r) ≡ Some h)
Happens s r (is_unsent x) = IsReturning s × (r ≡ reply.Refused x) × (is_again r ≡ false)
Happens s r (hears h e) = IsNext s (duty.Return h) × (progress_in (answer_in r) ≡ Some (progress.Ended e))
Happens s r (is_made a) = (s.act ≡ Some a) × (r ≡ reply.Api answer.Done)
Happens s r (is_dropped a) = (s.act ≡ Some a) × ((x : ApiRefused) × (r ≡ reply.Refused x)) × (is_again r ≡ false)
Happens s r (gives place g o) = IsNext s (duty.Give place g.handle) × (slice_get s.giving place ≡ Some g) × (progress_in (answer_in r) ≡ Some (progress.Turn o))
Happens s r (leaves place g e) =
    IsNext s (duty.Give place g.handle) × (slice_get s.giving place ≡ Some g) × (progress_in (answer_in r) ≡ Some (progress.Ended e))

-- ---- what it changes

-- what stays
abbrev pub SamePool : AgentState → AgentState → Type 0
SamePool s t = t.pool ≡ s.pool

abbrev pub SameGiving : AgentState → AgentState → Type 0
SameGiving s t = t.giving ≡ s.giving

abbrev pub SameWant : AgentState → AgentState → Type 0
SameWant s t = (t.want ≡ s.want) × (t.last ≡ s.last)

abbrev pub SameBack : AgentState → AgentState → Type 0
SameBack s t = t.back ≡ s.back

abbrev pub SameAct : AgentState → AgentState → Type 0
SameAct s t = t.act ≡ s.act

-- what an act that is done makes of the pool: an acceptance gains its prefix
abbrev pub Does : Act → Holding → Holding → Type 0
Does (act.Offer place h p) old new = new ≡ old
Does (act.Counter h n) old new = new ≡ old
Does (act.Accept h p) old new = Gains old new p
Does (act.Decline h reason) old new = new ≡ old

-- what the refusal of an act changes: a prefix that would have been offered is free again, and its session offers nothing
abbrev pub Drops : Act → AgentState → AgentState → Type 0
Drops (act.Offer place h p) s t = GivesBack s.pool t.pool p × (t.giving ≡ slice_set s.giving place (record { handle = h; offer = None; first = false }))
Drops (act.Counter h n) s t = SamePool s t × SameGiving s t
Drops (act.Accept h p) s t = SamePool s t × SameGiving s t
Drops (act.Decline h reason) s t = SamePool s t × SameGiving s t

-- how a want ends with its session: with a prefix exactly where the agent accepted the offer of one, and empty where the peer
-- accepted the request itself
abbrev pub EndsAs : Outcome → WantEnd → Type 0
EndsAs e (end.Held p) = (o : Objective) × (e ≡ outcome.Agreed Mine o) × (offered_in o.value ≡ Some p)
EndsAs e end.Declined = (by : By) × (reason : Option (List ℕ)) × (e ≡ outcome.Declined by reason)
EndsAs e end.TimedOut = (deadline : ℕ) × (now : ℕ) × (e ≡ outcome.TimedOut deadline now)
EndsAs e end.Broken = e ≡ outcome.Broken
EndsAs e end.OutOfMemory = e ≡ outcome.OutOfMemory
EndsAs e end.Invalid =
    ((by : By) × (e ≡ outcome.Invalid by))
    ⊎ (((o : Objective) × (e ≡ outcome.Synchronized o)) ⊎ ((o : Objective) × (e ≡ outcome.Agreed Mine o) × (offered_in o.value ≡ None)))
EndsAs e end.Empty = (o : Objective) × (e ≡ outcome.Agreed Theirs o)
EndsAs e (end.Refused x) = ⊥

-- an offer that was made before is free again
abbrev pub TakesBack : Option Prefix → Holding → Holding → Type 0
TakesBack None old new = new ≡ old
TakesBack (Some p) old new = GivesBack old new p

-- what a giver's decision makes of the pool: an offered prefix is reserved
abbrev pub Gives : GiverDecision → Holding → Holding → Type 0
Gives (giver.Offer p) old new = Reserves old new p
Gives (giver.Accept p) old new = new ≡ old
Gives (giver.Decline reason) old new = new ≡ old

-- what becomes of an offer when its session ends: it is confirmed by the peer's acceptance, free again by the peer's decline, and
-- in doubt by all else
abbrev pub Settled : Outcome → Prefix → Holding → Holding → Type 0
Settled (outcome.Agreed Theirs o) p old new = Confirms old new p
Settled (outcome.Agreed Mine o) p old new = Doubts old new p
Settled (outcome.Declined Theirs reason) p old new = GivesBack old new p
Settled (outcome.Declined Mine reason) p old new = Doubts old new p
Settled (outcome.Synchronized o) p old new = Doubts old new p
Settled (outcome.TimedOut deadline now) p old new = Doubts old new p
Settled outcome.Broken p old new = Doubts old new p
Settled outcome.OutOfMemory p old new = Doubts old new p
Settled (outcome.Invalid by) p old new = Doubts old new p

abbrev pub SettlesOffer : Option Prefix → Outcome → Holding → Holding → Type 0
SettlesOffer None e old new = new ≡ old
SettlesOffer (Some p) e old new = Settled e p old new

-- a giver's turn: its last offer is free again, it decides on what is then free, and its decision is the act
pub record TakesTurn (s t : AgentState) (place : ℕ) (g : Giving) (o : Objective) : Type 0 where
  pub between : Holding
  pub decision : GiverDecision
  pub back : TakesBack g.offer s.pool between
  pub decides : GiverDecides between o.value o.loops g.first decision
  pub pool : Gives decision between t.pool
  pub giving : t.giving ≡ slice_set s.giving place (deciding g decision)
  pub act : t.act ≡ Some (give_act place g.handle decision)

-- the turn of one that requests: its decision is the act
pub record Considers (s t : AgentState) (h : Handle) (o : Objective) : Type 0 where
  pub want : Want
  pub decision : RequesterDecision
  pub wanted : s.want ≡ Some want
  pub decides : RequesterDecides s.pool want.length want.longest o.value o.loops decision
  pub act : t.act ≡ Some (want_act h decision)

-- what a move changes, but for the number, the stage and the cursor
abbrev pub Effect : AgentState → Move → AgentState → Type 0
Effect s (comes_in h) t = SamePool s t × SameWant s t × SameBack s t × SameAct s t × (t.giving ≡ s.giving ++ record { handle = h; offer = None; first = true } ∷ [])
Effect s (starts h) t =
    SamePool s t × SameGiving s t × SameBack s t × SameAct s t × (t.last ≡ s.last) × ((w : Want) × (s.want ≡ Some w) × (t.want ≡ Some (record w { session = Some h })))
Effect s (is_refused x) t = SamePool s t × SameGiving s t × SameBack s t × SameAct s t × (t.want ≡ None) × (t.last ≡ Some (end.Refused x))
Effect s (considers h o) t = SamePool s t × SameGiving s t × SameWant s t × SameBack s t × Considers s t h o
Effect s (finishes h e) t = SamePool s t × SameGiving s t × SameBack s t × SameAct s t × (t.want ≡ None) × ((x : WantEnd) × EndsAs e x × (t.last ≡ Some x))
Effect s (hands h) t =
    SamePool s t × SameGiving s t × SameWant s t × SameAct s t × ((r : Return) × (s.back ≡ Some r) × (t.back ≡ Some (record r { session = Some h })))
Effect s (is_unsent x) t = SameGiving s t × SameWant s t × SameAct s t × (t.back ≡ None) × ((r : Return) × (s.back ≡ Some r) × GivesBack s.pool t.pool r.prefix)
Effect s (hears h e) t = SameGiving s t × SameWant s t × SameAct s t × (t.back ≡ None) × ((r : Return) × (s.back ≡ Some r) × Settled e r.prefix s.pool t.pool)
Effect s (is_made a) t = SameGiving s t × SameWant s t × SameBack s t × (t.act ≡ None) × Does a s.pool t.pool
Effect s (is_dropped a) t = SameWant s t × SameBack s t × (t.act ≡ None) × Drops a s t
Effect s (gives place g o) t = SameWant s t × SameBack s t × TakesTurn s t place g o
Effect s (leaves place g e) t = SameWant s t × SameBack s t × SameAct s t × SettlesOffer g.offer e s.pool t.pool × (t.giving ≡ removed s.giving place)

-- ---- laws

-- each move that happens has its effect
abbrev pub MovesAreMade : Type 0
MovesAreMade = (s : AgentState) (r : Reply) (m : Move) → IsKept s → Happens s r m → Effect s m (after_reply s r)

-- nothing but the number, the stage and the cursor changes
pub record NothingMoves (s t : AgentState) : Type 0 where
  pub pool : SamePool s t
  pub giving : SameGiving s t
  pub want : SameWant s t
  pub back : SameBack s t
  pub act : SameAct s t

-- where no move happens, nothing but these changes
abbrev pub NothingElseMoves : Type 0
NothingElseMoves = (s : AgentState) (r : Reply) → ((m : Move) × Happens s r m) ⊎ NothingMoves s (after_reply s r)

-- the next duty, and after the last one the first
abbrev pub NextPlace : AgentState → AgentState → Type 0
NextPlace s t = ((t.cursor ≡ s.cursor + 1) × (t.cursor < duties t)) ⊎ ((t.cursor ≡ 0) × (duties t ≤ s.cursor + 1))

-- the agent has made the call of its next duty
abbrev pub HasDone : AgentState → Reply → Type 0
HasDone s r = IsNext s (duty_of s) × (is_again r ≡ false)

-- the cursor goes on with each duty that is done, and stays with every other call
abbrev pub CursorsTurn : Type 0
CursorsTurn = (s : AgentState) (r : Reply) → (HasDone s r → NextPlace s (after_reply s r)) × ((¬ HasDone s r) → (after_reply s r).cursor ≡ s.cursor)

-- how far the opening calls are after a reply: each is made until it is answered as its kind is, the third with any answer. An agent
-- that serves goes on serving under its number
abbrev pub OpeningGoes : AgentState → Reply → AgentState → Stage → Type 0
OpeningGoes s r t stage.Registering =
    ((n : ℕ) × (r ≡ reply.Api (answer.Asa n)) × (t ≡ record s { asa = n; stage = stage.Declaring })) ⊎ (((n : ℕ) → ¬ (r ≡ reply.Api (answer.Asa n))) × (t ≡ s))
OpeningGoes s r t stage.Declaring = ((r ≡ reply.Api answer.Done) × (t ≡ record s { stage = stage.Opening })) ⊎ ((¬ (r ≡ reply.Api answer.Done)) × (t ≡ s))
OpeningGoes s r t stage.Opening =
    ((a : ApiAnswer) × (r ≡ reply.Api a) × (t.stage ≡ stage.Serving) × (t.asa ≡ s.asa)) ⊎ (((a : ApiAnswer) → ¬ (r ≡ reply.Api a)) × (t ≡ s))
OpeningGoes s r t stage.Serving = (t.stage ≡ stage.Serving) × (t.asa ≡ s.asa)

abbrev pub OpeningsGoOn : Type 0
OpeningsGoOn = (s : AgentState) (r : Reply) → OpeningGoes s r (after_reply s r) s.stage

-- an agent of this pool and number whose opening calls are done, and nothing else
abbrev pub serving_agent : Holding → ℕ → AgentState
serving_agent h n = record { pool = h; asa = n; stage = stage.Serving; want = None; back = None; giving = []; act = None; cursor = 0; last = None }

-- after the three replies to its opening calls an agent serves
abbrev pub OpeningsEnd : Type 0
OpeningsEnd = (h : Holding) (n : ℕ)
    → agent_after h (replied (reply.Api (answer.Asa n)) ∷ replied (reply.Api answer.Done) ∷ replied (reply.Api answer.NotYet) ∷ []) ≡ serving_agent h n
