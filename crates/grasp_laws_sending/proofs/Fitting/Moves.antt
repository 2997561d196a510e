-- Each move of a node leaves its queue with nothing that doesn't fit.
use Rattle.std.proofs.Common.{◌≡◌, refl, sym, subst, ℕ, ◌≤◌, true, not, ◌&&◌, List, [], ◌∷◌, ◌++◌, length, Option, None, Some, All}
use Rattle.std.proofs.lemmas.Bool.{leb-true, and_parts}
use Rattle.std.proofs.lemmas.List.Elements.{All-nil, All-cons, All-append, All-drop}
use Rattle.grasp_laws_node.proofs.Walk.Moves.{Turn, Move, Moves, anything, IsUnlistened, CanSay, next_dial, kept, unfolded, answers, responds, relays, replies, says, declines, asks, searches, tells_all, drains_out}
use Rattle.grasp_laws_sending.proofs.Short.{decline_short, wait_short, noop_short}
use Rattle.grasp_laws_sending.specs.Fitting.{FitsIn}
use Rattle.grasp_model_node.specs.Draws.{next_session}
use Rattle.grasp_model_node.specs.FloodCalls.{discovery_message}
use Rattle.grasp_model_node.specs.Node.{NodeState}
use Rattle.grasp_model_node.specs.Queue.{Queued, datagram, dial, send, fits, has_room, all_ways, along, encoding}
use Rattle.grasp_model_node.specs.SessionCalls.{stream_at, act_message, request_of}
use Rattle.grasp_model_node.specs.Streams.{next_stream, is_dialled_out}
use Rattle.grasp_model_node.specs.Moves.{may_queue}
use Rattle.grasp_model_node.specs.declared.way.Way.{Way}
use Rattle.grasp_session.specs.Sessions.{SessionState, session_at}
use Rattle.grasp_session.specs.Transcript.{Saying, SayStep, SayWait, SayEnd, SayInvalid, session_of}
use Rattle.grasp_types.specs.declared.address.Locator.{Locator}
use Rattle.grasp_types.specs.declared.message.Message.{Message}
use Rattle.grasp_types.specs.declared.message.Message.TheVariants.{End}
use Rattle.grasp_types.specs.declared.session.Handle.{Handle}

pub record IsFit (limit : ℕ) (n : NodeState) : Type 0 where
  pub limit_is : n.plan.limit ≡ limit
  pub queue : All (FitsIn limit) n.queue

-- ---- what is queued

one_fits : (limit stream : ℕ) (m : Message) → length (encoding m) ≤ limit → All (FitsIn limit) (send stream m ∷ [])
one_fits limit stream m h = All-cons (FitsIn limit) (send stream m) [] h (All-nil (FitsIn limit))

both_fit : (limit stream : ℕ) (to : Locator) (m : Message) → length (encoding m) ≤ limit → All (FitsIn limit) (dial stream to ∷ send stream m ∷ [])
both_fit limit stream to m h = All-cons (FitsIn limit) (dial stream to) (send stream m ∷ []) tt (one_fits limit stream m h)

all_fit : (limit : ℕ) (m : Message) (ways : List Way) → length (encoding m) ≤ limit → All (FitsIn limit) (along m ways)
all_fit limit m [] h = All-nil (FitsIn limit)
all_fit limit m (way ∷ ways) h = All-cons (FitsIn limit) (datagram way.link way.to m) (along m ways) h (all_fit limit m ways h)

-- what was tested fits
within : (limit : ℕ) (n : NodeState) (m : Message) → n.plan.limit ≡ limit → fits n.plan.limit m ≡ true → length (encoding m) ≤ limit
within limit n m same e = subst (λ k. length (encoding m) ≤ k) same (leb-true (length (encoding m)) n.plan.limit e)

may_fit : (limit : ℕ) (n : NodeState) (m : Message) (count : ℕ) → n.plan.limit ≡ limit → may_queue n m count ≡ true → length (encoding m) ≤ limit
may_fit limit n m count same e = within limit n m same (and_parts (fits n.plan.limit m) (has_room n.queue count) e).0

dial_fits : (limit : ℕ) (n : NodeState) (m : Message) → n.plan.limit ≡ limit → may_queue n m 2 && not (is_dialled_out n.streams) ≡ true → length (encoding m) ≤ limit
dial_fits limit n m same e = may_fit limit n m 2 same (and_parts (may_queue n m 2) (not (is_dialled_out n.streams)) e).0

unlistened_fits : (limit : ℕ) → 2048 ≤ limit → (m : Message) → IsUnlistened m → length (encoding m) ≤ limit
unlistened_fits limit least (End session verdict) i = subst (λ v. length (encoding (End session v)) ≤ limit) (sym i) (decline_short session limit least)
unlistened_fits limit least _ i = absurd i

-- a wait always fits
wait_fits : (n : NodeState) (h : Handle) (millis limit : ℕ) → 2048 ≤ limit → length (encoding (act_message n h (SayWait millis))) ≤ limit
wait_fits n h millis limit least = by_state (session_at n.sessions h) refl where
  by_state : (o : Option SessionState) → session_at n.sessions h ≡ o → length (encoding (act_message n h (SayWait millis))) ≤ limit
  by_state None e = rw e (noop_short limit least)
  by_state (Some x) e = rw e (wait_short (session_of x.view) millis limit least)

said_fits : (limit : ℕ) → 2048 ≤ limit → (n : NodeState) (h : Handle) (saying : Saying) → n.plan.limit ≡ limit → CanSay n h saying → length (encoding (act_message n h saying)) ≤ limit
said_fits limit least n h (SayWait millis) same c = wait_fits n h millis limit least
said_fits limit least n h (SayStep value) same c = within limit n (act_message n h (SayStep value)) same c
said_fits limit least n h (SayEnd verdict) same c = within limit n (act_message n h (SayEnd verdict)) same c
said_fits limit least n h (SayInvalid detail) same c = within limit n (act_message n h (SayInvalid detail)) same c

-- ---- all moves

module _ (limit : ℕ) (least : 2048 ≤ limit) where
  queues : (n after : NodeState) (outputs : List Queued) → after.plan.limit ≡ limit → after.queue ≡ n.queue ++ outputs → All (FitsIn limit) outputs → IsFit limit n → IsFit limit after
  queues n after outputs same q h k = record { limit_is = same; queue = subst (All (FitsIn limit)) (sym q) (All-append (FitsIn limit) n.queue outputs k.queue h) }

  sends : (n after : NodeState) (stream : ℕ) (m : Message) → after.plan.limit ≡ limit → after.queue ≡ n.queue ++ send stream m ∷ [] → length (encoding m) ≤ limit → IsFit limit n → IsFit limit after
  sends n after stream m same q h k = queues n after (send stream m ∷ []) same q (one_fits limit stream m h) k

  dials : (n after : NodeState) (to : Locator) (m : Message) → after.plan.limit ≡ limit → after.queue ≡ n.queue ++ next_dial n to m → length (encoding m) ≤ limit → IsFit limit n → IsFit limit after
  dials n after to m same q h k = queues n after (next_dial n to m) same q (both_fit limit (next_stream n.streams) to m h) k

  spreads : (n after : NodeState) (m : Message) (ways : List Way) → after.plan.limit ≡ limit → after.queue ≡ n.queue ++ along m ways → length (encoding m) ≤ limit → IsFit limit n → IsFit limit after
  spreads n after m ways same q h k = queues n after (along m ways) same q (all_fit limit m ways h) k

  move_fit : (base : NodeState) (turn : Turn) (n after : NodeState) → Move anything base n turn after → IsFit limit n → IsFit limit after
  unfolding unfolded
  move_fit base turn n after (answers {stream = stream} m i so e) k = sends n _ stream m k.limit_is refl (may_fit limit n m 1 k.limit_is e) k
  move_fit base turn n after (responds to m i so e) k = dials n _ to m k.limit_is refl (dial_fits limit n m k.limit_is e) k
  move_fit base turn n after (replies to m i e) k = dials n _ to m k.limit_is refl (dial_fits limit n m k.limit_is e) k
  move_fit base turn n after (relays m ways e) k = spreads n _ m ways k.limit_is refl (may_fit limit n m (length ways) k.limit_is e) k
  move_fit base turn n after (says h saying may so e room fit) k = sends n _ (stream_at n h) (act_message n h saying) k.limit_is refl (said_fits limit least n h saying k.limit_is fit) k
  move_fit base turn n after (declines d i so e room) k = sends n _ d.stream d.message k.limit_is refl (unlistened_fits limit least d.message i) k
  move_fit base turn n after (asks kind timeout o peer is so e free room fit) k =
      let m = request_of kind (next_session n) o in dials n _ peer m k.limit_is refl (within limit n m k.limit_is fit) k
  move_fit base turn n after (searches name kind loops timeout is fresh free room fit) k =
      let m = discovery_message n name kind loops in spreads n _ m (all_ways n.plan.links) k.limit_is refl (within limit n m k.limit_is fit) k
  move_fit base turn n after (tells_all m room fit) k = spreads n _ m (all_ways n.plan.links) k.limit_is refl (within limit n m k.limit_is fit) k
  move_fit base turn n after (drains_out max) k = record { limit_is = k.limit_is; queue = All-drop (FitsIn limit) max n.queue k.queue }
  move_fit base turn n after _ k = record { limit_is = k.limit_is; queue = k.queue }

  pub moves_fit : (base : NodeState) (turn : Turn) (n after : NodeState) → Moves anything base turn n after → IsFit limit n → IsFit limit after
  moves_fit base turn n after ms k = kept (IsFit limit) (λ m next x h. move_fit base turn m next x h) ms k
