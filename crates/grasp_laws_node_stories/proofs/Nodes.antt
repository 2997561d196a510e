-- Each stream has its story in each step of a node.
use Rattle.std.proofs.Common.{◌≡◌, ◌≤◌, ℕ, zero, suc, Bool, true, false, cond, List, [], ◌∷◌, ◌++◌, length, drop, ◌⊎◌, inl, inr, Option, None, Some, refl, sym, ap, ◌∙◌, subst, arith}
use Rattle.std.proofs.Math.Seq.{drop-append_seam}
use Rattle.std.proofs.lemmas.Bool.{true≢false}
use Rattle.std.proofs.lemmas.List.{append-nil, length-drop}
use Rattle.grasp_cbor.proofs.Facts.Numbers.{itself as below}
use Rattle.grasp_laws_node.proofs.Bounded.Nodes.{begin_kept}
use Rattle.grasp_model_node.specs.Begin.{expire_on, expired, begin}
use Rattle.grasp_model_node.specs.Draining.{closes, after_drain}
use Rattle.grasp_model_node.specs.Moves.{with_reading, with_sessions, with_discoveries, with_floods, begin_closing, open_record}
use Rattle.grasp_model_node.specs.Node.{NodeState}
use Rattle.grasp_model_node.specs.Opening.{is_ignored, after_opened}
use Rattle.grasp_model_node.specs.Queue.{Queued}
use Rattle.grasp_model_node.specs.BoundedNodes.{IsGiven, IsBoundedNode}
use Rattle.grasp_model_node.specs.Step.{Coming, Calls, Acts}
use Rattle.grasp_model_node.specs.Streams.{past_of}
use Rattle.grasp_session.specs.Sessions.{expire_reply}
use Rattle.grasp_types.specs.declared.address.Address.{Address}
use Rattle.grasp_types.specs.declared.call.Call.{Call}
use Rattle.grasp_types.specs.declared.message.Message.{Message}
use Rattle.grasp_types.specs.declared.reply.Reply.{Reply}
use Rattle.grasp_types.specs.declared.reply.Reply.TheVariants as reply
use Rattle.grasp_types.specs.declared.traffic.Input.{Input}
use Rattle.grasp_types.specs.declared.traffic.Input.TheVariants as input
use Rattle.grasp_wire.specs.Cutter.{Past, no_past}
use Rattle.grasp_laws_node_stories.specs.Stories.{KeptOpen, NewlyOpen, Story, IsClear, StreamsHaveStories}
use Rattle.grasp_laws_node_stories.specs.StreamMoves.{view_on, said_in, sends_on}
use Rattle.grasp_laws_node_stories.proofs.Beginning.{begins, begins_dialled}
use Rattle.grasp_laws_node_stories.proofs.Calling.{calls_act}
use Rattle.grasp_laws_node_stories.proofs.Delivering as delivering
use Rattle.grasp_laws_node_stories.proofs.Delivering.{HasVoice, pieces_act, closed_elsewhere}
use Rattle.grasp_laws_node_stories.proofs.Parts.{Quietly, itself}
use Rattle.grasp_laws_node_stories.proofs.Records.{IsOpened, more_opens, fold_opens_none, open_number}
use Rattle.grasp_laws_node_stories.proofs.Requesting.{IsBorn, born_quietly}
use Rattle.grasp_laws_node_stories.proofs.Overhearing.{datagrams}
use Rattle.grasp_laws_node_stories.proofs.Responding.{acted_responded}
use Rattle.grasp_laws_node_stories.proofs.Starving.{starving_acts}
use Rattle.grasp_laws_node_stories.proofs.Telling.{Stays, Opens, Acted, IsElsewhere, nothing_came, acted_quietly, told}
use Rattle.grasp_laws_node_stories.proofs.Voices.{voices_begin}

-- ---- a stream that a peer opens

opens_here : (stream : ℕ) (n : NodeState) (on : ℕ) (from : Address) (x : Coming) → Acted stream (input.Opened on from) x n (open_record n on from)
unfolding open_record
opens_here stream n on from x = record {
  moves = [];
  part = record { may = tt; view = refl; more = []; queued = sym (append-nil n.queue); said = refl; no_fewer = below n.streams.dialled };
  unheard = [];
  heard = nothing_came (past_of n.streams stream) (input.Opened on from) x stream refl;
  no_fault = λ e. refl;
  new = λ g. refl;
  given = λ d. absurd (true≢false (sym d));
  opens = λ past e. by_case past (more_opens n.streams (record { number = on; from = Some from; past = Some no_past }) stream past e);
} where
  by_case : (past : Past) → IsOpened (past_of n.streams stream) (record { number = on; from = Some from; past = Some no_past }) stream past → Stays stream (input.Opened on from) x n [] past ⊎ Opens stream (input.Opened on from) n [] past
  by_case past (inl f) = inl (record { before = past; was_open = f; past_is = refl; all_heard = refl; none_last = refl })
  by_case past (inr f) = inr (record { how = inr f.1; was_closed = f.0; past_is = let same : Some no_past ≡ Some past = f.2 in cc; none_heard = refl; none_last = refl })

opened_elsewhere : (on : ℕ) (from : Address) (x : Coming) (stream : ℕ) → IsElsewhere (input.Opened on from) x stream
opened_elsewhere on from x stream = record { came = refl; past = λ before. refl }

opening_acts : (stream : ℕ) (n : NodeState) (on : ℕ) (from : Address) (x : Coming) (r : Reply) → Acted stream (input.Opened on from) x n (after_opened n on from r)
opening_acts stream n on from x r = by_reply r where
  still : Acted stream (input.Opened on from) x n n
  still = acted_quietly stream (input.Opened on from) x n n (opened_elsewhere on from x stream) (itself stream n)

  by_test : (b : Bool) → Acted stream (input.Opened on from) x n (cond b n (open_record n on from))
  by_test true = still
  by_test false = opens_here stream n on from x

  by_reply : (a : Reply) → Acted stream (input.Opened on from) x n (after_opened n on from a)
  by_reply reply.Taken = by_test (is_ignored n on)
  by_reply _ = still

-- ---- what an input does, but for a drain

call_acts : (stream : ℕ) (n after : NodeState) (asa : ℕ) (call : Call) (x : Coming) (r : Reply) → IsBoundedNode n → IsBorn stream n → Calls n asa call r after → Acted stream (input.Api asa call) x n after
call_acts stream n after asa call x (reply.Api answer) k b c = subst (Acted stream (input.Api asa call) x n) (sym c.1) (calls_act stream n asa call x answer k b c.0)
call_acts stream n after asa call x (reply.Refused refused) k b c =
    subst (Acted stream (input.Api asa call) x n) (sym c.1) (acted_quietly stream (input.Api asa call) x n n (record { came = refl; past = λ before. refl }) (itself stream n))
call_acts stream n after asa call x _ k b c = absurd c

datagram_elsewhere : (link from : ℕ) (bytes : List ℕ) (x : Coming) (stream : ℕ) → IsElsewhere (input.Datagram link from bytes) x stream
datagram_elsewhere link from bytes x stream = record { came = refl; past = λ before. refl }

-- an input that drains nothing
abbrev pub GivesNothing : Input → Type 0
GivesNothing (input.Drain max) = ⊥
GivesNothing _ = Unit {0}

pub acts : (stream : ℕ) (n after : NodeState) (i : Input) (x : Coming) (r : Reply) → GivesNothing i → IsBoundedNode n → IsBorn stream n → HasVoice stream n → Acts n i x r after → Acted stream i x n after
acts stream n after (input.Api asa call) x r g k b v a = call_acts stream n after asa call x r k b a
acts stream n after (input.Datagram link from bytes) x reply.Taken g k b v a =
    subst (Acted stream (input.Datagram link from bytes) x n) (sym a) (acted_responded stream (input.Datagram link from bytes) x n _ (datagram_elsewhere link from bytes x stream) (datagrams stream n link from x.carried b))
acts stream n after (input.Datagram link from bytes) x reply.OutOfMemory g k b v a =
    subst (Acted stream (input.Datagram link from bytes) x n) (sym a) (acted_quietly stream (input.Datagram link from bytes) x n n (datagram_elsewhere link from bytes x stream) (itself stream n))
acts stream n after (input.Datagram link from bytes) x r g k b v a = absurd a
acts stream n after (input.Opened on from) x r g k b v a = subst (Acted stream (input.Opened on from) x n) (sym a.1) (opening_acts stream n on from x r)
acts stream n after (input.Bytes on bytes) x reply.Taken g k b v a = subst (Acted stream (input.Bytes on bytes) x n) (sym a) (pieces_act stream on bytes x n k b v)
acts stream n after (input.Bytes on bytes) x reply.OutOfMemory g k b v a = starving_acts stream on bytes x n after k b v a
acts stream n after (input.Bytes on bytes) x r g k b v a = absurd a
acts stream n after (input.Closed on) x r g k b v a =
    subst (Acted stream (input.Closed on) x n) (sym a.1) (acted_quietly stream (input.Closed on) x n _ (closed_elsewhere on x stream) (delivering.closes stream n on k))
acts stream n after (input.Drain max) x r g k b v a = absurd g

-- ---- a drain

queued_on : (n : NodeState) (o : Option ℕ) → (expire_on n o).queue ≡ n.queue
unfolding with_sessions begin_closing
queued_on n None = refl
queued_on n (Some on) = refl

all_queued : (count : ℕ) (n : NodeState) → (expired count n).queue ≡ n.queue
unfolding expired
all_queued zero n = refl
all_queued (suc count) n = queued_on (expired count n) (expire_reply (expired count n).sessions (expired count n).reading) ∙ all_queued count n

begins_queued : (n : NodeState) (now : ℕ) → (begin n now).queue ≡ n.queue
unfolding begin with_discoveries with_floods with_reading
begins_queued n now = all_queued 64 (with_reading n now)

drop_all : (k : ℕ) (qs : List Queued) → length qs ≤ k → drop k qs ≡ []
drop_all zero [] h = refl
drop_all zero (q ∷ qs) h = absurd (omega (arith, h))
drop_all (suc k) [] h = refl
drop_all (suc k) (q ∷ qs) h = drop_all k qs (omega (arith, h))

pub dropped : (max : ℕ) (qs : List Queued) → drop (length qs) (drop max qs) ≡ []
dropped max qs = drop_all (length qs) (drop max qs) (let l = length-drop max qs in omega (arith, l))

-- a beginning says nothing
begins_silent : (stream : ℕ) (n : NodeState) (now : ℕ) → (q : Quietly stream n (begin n now)) → said_in (view_on n stream) q.moves ≡ []
begins_silent stream n now q =
    let none : q.part.more ≡ [] =
    sym (drop-append_seam n.queue q.part.more) ∙ (ap (λ l. drop (length n.queue) l) (sym q.part.queued ∙ begins_queued n now) ∙ drop_all (length n.queue) n.queue (below (length n.queue))) in
    sym q.part.said ∙ ap (sends_on stream) none

-- what was given and closed changes no transcript and opens nothing
pub drains : (n : NodeState) (now max : ℕ) (x : Coming) (stream : ℕ) → IsBoundedNode n → Story n now (input.Drain max) x (after_drain (begin n now) max) stream
unfolding after_drain
drains n now max x stream k = record {
  moves = q.moves;
  may = q.part.may;
  view = q.part.view;
  said = ap (sends_on stream) (ap (λ (l : List Queued). drop (length n.queue) (drop max l)) (begins_queued n now) ∙ dropped max n.queue) ∙ sym (begins_silent stream n now q);
  unheard = [];
  heard = nothing_came (past_of (begin n now).streams stream) (input.Drain max) x stream refl ∙ sym (ap (λ (l : List Message). l ++ []) q.heard);
  no_fault = λ e. q.no_fault;
  new = λ g. q.no_dial;
  given = λ d. absurd (true≢false (sym d ∙ q.no_dial));
  begun = q.opens_none;
  opens = λ past e. kept past (fold_opens_none (begin n now).streams (closes (begin n now) max) stream past (begin_kept n now k).apart e);
} where
  q : Quietly stream n (begin n now)
  q = begins stream n now k

  kept : (past : Past) → past_of (begin n now).streams stream ≡ Some past → KeptOpen n now (input.Drain max) x stream q.moves past ⊎ NewlyOpen n now (input.Drain max) stream q.moves past
  kept past e = inl (record { before = past; was_open = q.opens_none past e; begun_open = e; past_is = refl; all_heard = q.heard; none_last = q.no_last })

-- ---- a step

pub born : (stream : ℕ) (n : NodeState) → IsBoundedNode n → IsClear n stream → IsBorn stream n
born stream n k c = record { born = c.unborn; given = λ past e. open_number (IsGiven n.streams.dialled) n.streams stream past k.records_given e }

tells : (n after : NodeState) (now : ℕ) (i : Input) (x : Coming) (r : Reply) (stream : ℕ) → GivesNothing i → IsBoundedNode n → IsClear n stream → Acts (begin n now) i x r after → Story n now i x after stream
tells n after now i x r stream g k c a =
    let q = begins stream n now k in
    told n now i x after stream (begins_dialled n now) q
    (acts stream (begin n now) after i x r g (begin_kept n now k) (born_quietly stream n (begin n now) q (born stream n k c)) (voices_begin stream n now k c.opens) a)

drain_tells : (n after : NodeState) (now max : ℕ) (x : Coming) (r : Reply) (stream : ℕ) → IsBoundedNode n → Acts (begin n now) (input.Drain max) x r after → Story n now (input.Drain max) x after stream
drain_tells n after now max x (reply.Outputs outputs) stream k a = subst (λ m. Story n now (input.Drain max) x m stream) (sym a.1) (drains n now max x stream k)
drain_tells n after now max x reply.OutOfMemory stream k a =
    subst (λ m. Story n now (input.Drain max) x m stream) (sym a.1)
    (told n now (input.Drain max) x (begin n now) stream (begins_dialled n now) (begins stream n now k)
    (acted_quietly stream (input.Drain max) x (begin n now) (begin n now) (record { came = refl; past = λ before. refl }) (itself stream (begin n now))))
drain_tells n after now max x _ stream k a = absurd a

pub have_stories : StreamsHaveStories
have_stories n after now (input.Drain max) x r stream k c s = drain_tells n after now max x r stream k s.acts
have_stories n after now (input.Api asa call) x r stream k c s = tells n after now (input.Api asa call) x r stream tt k c s.acts
have_stories n after now (input.Datagram link from bytes) x r stream k c s = tells n after now (input.Datagram link from bytes) x r stream tt k c s.acts
have_stories n after now (input.Opened on from) x r stream k c s = tells n after now (input.Opened on from) x r stream tt k c s.acts
have_stories n after now (input.Bytes on bytes) x r stream k c s = tells n after now (input.Bytes on bytes) x r stream tt k c s.acts
have_stories n after now (input.Closed on) x r stream k c s = tells n after now (input.Closed on) x r stream tt k c s.acts
