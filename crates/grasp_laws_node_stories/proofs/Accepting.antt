-- What makes a node queue no acceptance: all but an agent's call that accepts.
use Rattle.std.proofs.Common.{◌≡◌, ℕ, Bool, true, false, cond, List, [], ◌∷◌, ◌++◌, None, Option, Some, Ok, option_to_list, refl, sym, ap, ◌∙◌}
use Rattle.std.proofs.lemmas.List.{append-nil}
use Rattle.grasp_laws_node.proofs.Meaning.Acts.{end_means_lem, owned_at}
use Rattle.grasp_laws_node.proofs.Walk.Bytes.{each_anything}
use Rattle.grasp_laws_node.proofs.Walk.Calls.{IsSaidBy, turn_of_call, answered_moves}
use Rattle.grasp_laws_node.proofs.Walk.Moves.{Known, Turn, Move, drains, IsResponse, IsAnswer, IsUnlistened, next_dial, stays, unfolded, answers, responds, relays, replies, says, declines, asks, searches, tells_all, drains_out}
use Rattle.grasp_laws_node.proofs.Walk.Steps.{turn_of, Tells, acts_moves}
use Rattle.grasp_session.proofs.Means.{said_means}
use Rattle.grasp_session.specs.Messages.{is_acceptance}
use Rattle.grasp_session.specs.Sessions.{SessionState, session_at, say_reply, stream_of, stream_reply}
use Rattle.grasp_session.specs.Transcript.{Transcript, Saying, message_of, session_of}
use Rattle.grasp_types.specs.declared.address.Locator.{Locator}
use Rattle.grasp_types.specs.declared.call.Call.{Call}
use Rattle.grasp_types.specs.declared.call.Call.TheVariants as calls
use Rattle.grasp_types.specs.declared.message.Message.{Message}
use Rattle.grasp_types.specs.declared.message.Message.TheVariants.{Response, End, Synch, Invalid}
use Rattle.grasp_types.specs.declared.message.Verdict.TheVariants.{Accept, Decline}
use Rattle.grasp_types.specs.declared.objective.Objective.{Objective}
use Rattle.grasp_types.specs.declared.reply.ApiAnswer.{ApiAnswer}
use Rattle.grasp_types.specs.declared.reply.Reply.{Reply}
use Rattle.grasp_types.specs.declared.reply.Reply.TheVariants as reply
use Rattle.grasp_types.specs.declared.session.Handle.{Handle}
use Rattle.grasp_types.specs.declared.session.Kind.{Kind}
use Rattle.grasp_types.specs.declared.session.Kind.TheVariants.{Negotiation, Synchronization}
use Rattle.grasp_types.specs.declared.traffic.Input.{Input}
use Rattle.grasp_types.specs.declared.traffic.Input.TheVariants as input
use Rattle.grasp_model_node.specs.BoundedNodes.{IsBoundedNode}
use Rattle.grasp_model_node.specs.Draws.{next_session}
use Rattle.grasp_model_node.specs.FloodCalls.{discovery_message}
use Rattle.grasp_model_node.specs.Node.{NodeState}
use Rattle.grasp_model_node.specs.Queue.{Queued, datagram, dial, send, all_ways, along}
use Rattle.grasp_model_node.specs.SessionCalls.{stream_at, act_message, request_of}
use Rattle.grasp_model_node.specs.Step.{Coming, IsComing, MayCall, after_call, Acts}
use Rattle.grasp_model_node.specs.Streams.{next_stream}
use Rattle.grasp_model_node.specs.declared.way.Way.{Way}
use Rattle.grasp_laws_node_stories.specs.Acceptances.{accepted_on, accepts_on, was_done}

-- ---- what is queued

pub accepted_both : (p q : List Queued) → accepted_on (p ++ q) ≡ accepted_on p ++ accepted_on q
accepted_both [] q = refl
accepted_both (datagram link to m ∷ p) q = accepted_both p q
accepted_both (dial stream to ∷ p) q = accepted_both p q
accepted_both (send stream m ∷ p) q = by_test (is_acceptance m) (accepted_both p q) where
  by_test : (b : Bool) → accepted_on (p ++ q) ≡ accepted_on p ++ accepted_on q
      → cond b (stream ∷ accepted_on (p ++ q)) (accepted_on (p ++ q)) ≡ cond b (stream ∷ accepted_on p) (accepted_on p) ++ accepted_on q
  by_test true e = ap (λ l. stream ∷ l) e
  by_test false e = e

-- behind what was queued nothing accepts
pub none_behind : (q more : List Queued) → accepted_on more ≡ [] → accepted_on (q ++ more) ≡ accepted_on q
none_behind q more e = accepted_both q more ∙ (ap (λ l. accepted_on q ++ l) e ∙ append-nil (accepted_on q))

pub none_along : (m : Message) (ways : List Way) → accepted_on (along m ways) ≡ []
none_along m [] = refl
none_along m (way ∷ ways) = none_along m ways

none_sent : (stream : ℕ) (m : Message) → is_acceptance m ≡ false → accepted_on (send stream m ∷ []) ≡ []
none_sent stream m e = rw e refl

-- no acceptance is queued from one node to the other
abbrev pub SaysNone : NodeState → NodeState → Type 0
SaysNone n after = accepted_on after.queue ≡ accepted_on n.queue

-- ---- which messages don't accept

answer_silent : (m : Message) → IsAnswer m → is_acceptance m ≡ false
answer_silent (End session (Decline reason)) i = refl
answer_silent (Synch session o) i = refl
answer_silent (Invalid session detail) i = refl
answer_silent _ i = absurd i

unlistened_silent : (m : Message) → IsUnlistened m → is_acceptance m ≡ false
unlistened_silent (End session Accept) i = absurd (cc)
unlistened_silent (End session (Decline reason)) i = refl
unlistened_silent _ i = absurd i

response_silent : (m : Message) → IsResponse m → is_acceptance m ≡ false
response_silent (Response session initiator ttl told o) i = refl
response_silent _ i = absurd i

request_silent : (kind : Kind) (session : ℕ) (o : Objective) → is_acceptance (request_of kind session o) ≡ false
request_silent Negotiation session o = refl
request_silent Synchronization session o = refl

-- what an agent says doesn't accept
abbrev silent : Known
silent = record { message = λ m. Unit {0}; stream = λ s. Unit {0}; past = λ s p. Unit {0}; saying = λ s. (v : Transcript) → is_acceptance (message_of v s) ≡ false }

act_silent : (n : NodeState) (h : Handle) (saying : Saying) → ((v : Transcript) → is_acceptance (message_of v saying) ≡ false) → is_acceptance (act_message n h saying) ≡ false
act_silent n h saying f = by_state (session_at n.sessions h) refl where
  by_state : (o : Option SessionState) → session_at n.sessions h ≡ o → is_acceptance (say_reply n.sessions h saying) ≡ false
  by_state None e = rw e refl
  by_state (Some x) e = ap is_acceptance (said_means n.sessions n.reading h saying x e).message ∙ f x.view

-- ---- moves

-- the turn takes nothing from the queue
abbrev Adds : Turn → Type 0
Adds drains = ⊥
Adds _ = Unit {0}

sent : (n : NodeState) (stream : ℕ) (m : Message) → is_acceptance m ≡ false → accepted_on (n.queue ++ send stream m ∷ []) ≡ accepted_on n.queue
sent n stream m e = none_behind n.queue (send stream m ∷ []) (none_sent stream m e)

dialled : (n : NodeState) (to : Locator) (m : Message) → is_acceptance m ≡ false → accepted_on (n.queue ++ next_dial n to m) ≡ accepted_on n.queue
dialled n to m e = none_behind n.queue (next_dial n to m) (none_sent (next_stream n.streams) m e)

spread : (n : NodeState) (m : Message) (ways : List Way) → accepted_on (n.queue ++ along m ways) ≡ accepted_on n.queue
spread n m ways = none_behind n.queue (along m ways) (none_along m ways)

move_says : (base : NodeState) (turn : Turn) (n after : NodeState) → Move silent base n turn after → Adds turn → SaysNone n after
unfolding unfolded
move_says base turn n after (answers {stream = stream} m i so e) a = sent n stream m (answer_silent m i)
move_says base turn n after (responds to m i so e) a = dialled n to m (response_silent m i)
move_says base turn n after (replies to m i e) a = dialled n to m (response_silent m i)
move_says base turn n after (relays m ways e) a = spread n m ways
move_says base turn n after (says h saying may so e room fit) a = sent n (stream_at n h) (act_message n h saying) (act_silent n h saying may)
move_says base turn n after (declines d i so e room) a = sent n d.stream d.message (unlistened_silent d.message i)
move_says base turn n after (asks kind timeout o peer is so e free room fit) a = dialled n peer (request_of kind (next_session n) o) (request_silent kind (next_session n) o)
move_says base turn n after (searches name kind loops timeout is fresh free room fit) a = spread n (discovery_message n name kind loops) (all_ways n.plan.links)
move_says base turn n after (tells_all m room fit) a = spread n m (all_ways n.plan.links)
move_says base turn n after (drains_out max) a = absurd a
move_says base turn n after _ a = refl

-- ---- what comes from peers

abbrev pub IsPeers : Input → Type 0
IsPeers (input.Api asa call) = ⊥
IsPeers (input.Drain max) = ⊥
IsPeers _ = Unit {0}

adds_input : (i : Input) → IsPeers i → Adds (turn_of i)
adds_input (input.Api asa call) p = absurd p
adds_input (input.Drain max) p = absurd p
adds_input _ p = tt

tells : (n after : NodeState) (i : Input) (x : Coming) (r : Reply) → IsPeers i → Tells silent n i x r after
tells n after (input.Api asa call) x r p = absurd p
tells n after (input.Datagram link from bytes) x r p = tt
tells n after (input.Opened stream from) x r p = λ taken. tt
tells n after (input.Bytes stream bytes) x r p = λ past e adds. record { stream_so = tt; messages = each_anything x.added.messages; past_so = λ waits. tt }
tells n after (input.Closed stream) x r p = tt
tells n after (input.Drain max) x r p = absurd p

pub peers_say : (n after : NodeState) (i : Input) (x : Coming) (r : Reply) → IsPeers i → IsComing n i x → Acts n i x r after → SaysNone n after
peers_say n after i x r p c a =
    stays (λ m. accepted_on m.queue) (λ m next y. move_says n (turn_of i) m next y (adds_input i p)) (acts_moves silent n after i x r c (tells n after i x r p) a)

-- ---- what an agent calls

-- an acceptance that is done
accepts : (n : NodeState) (asa : ℕ) (h : Handle) (a : ApiAnswer) → IsBoundedNode n → MayCall n asa (calls.EndNegotiate h Accept) (Ok a)
    → accepted_on (after_call n asa (calls.EndNegotiate h Accept) (Ok a)).queue ≡ accepted_on n.queue ++ cond (was_done (reply.Api a)) (accepts_on n (calls.EndNegotiate h Accept)) []
accepts n asa h a k t =
    let m = end_means_lem n asa h Accept a k t in
    let x : SessionState = m.session in
    let lies : stream_reply n.sessions h ≡ Some x.stream = ap stream_of (owned_at n.sessions asa h x m.holds.owned).0 in
    let one : cond (was_done (reply.Api a)) (accepts_on n (calls.EndNegotiate h Accept)) [] ≡ x.stream ∷ [] =
    ap (λ b. cond (was_done (reply.Api b)) (option_to_list (stream_reply n.sessions h)) []) m.done ∙ ap option_to_list lies in
    ap (λ (s : NodeState). accepted_on s.queue) m.leads ∙ (accepted_both n.queue (send x.stream (End (session_of x.view) Accept) ∷ []) ∙ ap (λ l. accepted_on n.queue ++ l) (sym one))

-- the call isn't one that accepts
abbrev IsSilent : Call → Type 0
IsSilent (calls.EndNegotiate h Accept) = ⊥
IsSilent _ = Unit {0}

said_silently : (it : Call) → IsSilent it → (saying : Saying) → IsSaidBy it saying → (v : Transcript) → is_acceptance (message_of v saying) ≡ false
said_silently (calls.NegotiateStep h value) q saying is v = ap (λ s. is_acceptance (message_of v s)) is
said_silently (calls.NegotiateWait h millis) q saying is v = ap (λ s. is_acceptance (message_of v s)) is
said_silently (calls.EndNegotiate h Accept) q saying is v = absurd q
said_silently (calls.EndNegotiate h (Decline reason)) q saying is v = ap (λ s. is_acceptance (message_of v s)) is
said_silently (calls.SendInvalid h detail) q saying is v = ap (λ s. is_acceptance (message_of v s)) is
said_silently _ q saying is v = absurd is

adds_call : (asa : ℕ) (it : Call) → Adds (turn_of_call asa it)
adds_call asa (calls.Discover name kind loops timeout) = tt
adds_call asa (calls.Flood name value ttl loops) = tt
adds_call asa _ = tt

silent_call : (n : NodeState) (asa : ℕ) (it : Call) (a : ApiAnswer) → IsSilent it → MayCall n asa it (Ok a) → SaysNone n (after_call n asa it (Ok a))
silent_call n asa it a q t =
    stays (λ m. accepted_on m.queue) (λ m next y. move_says n (turn_of_call asa it) m next y (adds_call asa it))
    (answered_moves silent n asa it a (record { speak = record { going = λ p y at g. tt; untaken = λ p y at o. tt }; say = said_silently it q; dials = λ more. tt }) t)

-- a call that accepts on no stream, whether it is done or not
silently : (l m : List ℕ) (done : Bool) → l ≡ m → l ≡ m ++ cond done [] []
silently l m true e = e ∙ sym (append-nil m)
silently l m false e = e ∙ sym (append-nil m)

pub call_says : (n : NodeState) (asa : ℕ) (call : Call) (a : ApiAnswer) → IsBoundedNode n → MayCall n asa call (Ok a)
    → accepted_on (after_call n asa call (Ok a)).queue ≡ accepted_on n.queue ++ cond (was_done (reply.Api a)) (accepts_on n call) []
call_says n asa (calls.EndNegotiate h Accept) a k t = accepts n asa h a k t
call_says n asa it a k t = silently _ _ _ (silent_call n asa it a tt t)
