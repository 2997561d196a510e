-- The messages of a piece, one after the other: the moves of the stream on which it comes.
use Rattle.std.proofs.Common.{◌≡◌, ◌≤◌, ℕ, Bool, true, false, cond, List, [], ◌∷◌, ◌++◌, inl, Option, None, Some, refl, sym, ap, ◌∙◌, subst, arith}
use Rattle.std.proofs.lemmas.Bool.{true≢false, false≢true}
use Rattle.std.proofs.lemmas.List.{append-nil, append_assoc}
use Rattle.grasp_cbor.proofs.Facts.Numbers.{itself}
use Rattle.grasp_discovery.specs.Discoveries.{asker_of}
use Rattle.grasp_session.specs.Sessions.{state_reply}
use Rattle.grasp_types.specs.Origin.{origin_of}
use Rattle.grasp_types.specs.declared.message.Message.{Message}
use Rattle.grasp_types.specs.declared.message.Message.TheVariants.{Noop, Discovery, Response, ReqNeg, ReqSyn, Negotiate, End, Wait, Synch, Flood, Invalid}
use Rattle.grasp_wire.specs.Stream.{RestKind, waiting}
use Rattle.grasp_model_node.specs.Bytes.{Added, hear_on, hear_all, hear_fault, hear_rest, heard}
use Rattle.grasp_model_node.specs.Hear.{Heard, stays, shuts, after_refusal, answered_with, hear_first, hear_by, hear}
use Rattle.grasp_model_node.specs.Moves.{begin_closing}
use Rattle.grasp_model_node.specs.Node.{NodeState}
use Rattle.grasp_laws_node_stories.specs.Stories.{is_bad_rest}
use Rattle.grasp_laws_node_stories.specs.StreamMoves.{view_on, Passes, after_moves, heard_in, is_dial, is_fault, is_last_move, some_move, MayMoves, MayPass}
use Rattle.grasp_laws_node_stories.proofs.Facts.{no_voice}
use Rattle.grasp_laws_node_stories.proofs.Forwarding.{forwards, forward_ready}
use Rattle.grasp_laws_node_stories.proofs.Hearing.{Ready, FedHeard, ready_shut, passes, answers, skips, requests, synchronizations, later, faults, silent_part}
use Rattle.grasp_laws_node_stories.proofs.Parts.{Part, both, heard_both, none_both}
use Rattle.grasp_laws_node_stories.proofs.Responding.{Responded}
use Rattle.grasp_laws_node_stories.proofs.Telling.{no_moves}

-- ---- a response

-- the stream that brought it makes one move alone
response_passes : (stream : ℕ) (n after : NodeState) (m : Message) → Ready stream true n → Ready stream false after → view_on n stream ≡ None → MayPass m [] → Responded stream n after → FedHeard stream false n (shuts after) (m ∷ [])
response_passes stream n after m r ready none may d = record {
  moves = Passes m [] ∷ [];
  part = subst (λ l. Part stream n after (l ++ Passes m [] ∷ [])) silent
      (both stream n after after d.moves (Passes m [] ∷ []) d.part (ap (some_move is_last_move) silent) (silent_part stream after (Passes m []) none_then (may, (λ e. refl), tt) refl refl));
  unheard = [];
  heard = refl;
  no_fault = λ e. refl;
  no_dial = refl;
  all_heard = λ e. refl;
  none_last = λ e. absurd (false≢true e);
  ready = ready;
} where
  silent : d.moves ≡ []
  silent = no_moves d.moves (subst (λ v. MayMoves v d.moves) none d.part.may) d.heard (d.new r.given)

  none_then : view_on after stream ≡ None
  none_then = d.part.view ∙ (ap (after_moves (view_on n stream)) silent ∙ none)

-- ---- a message

one_said : 1 ≤ 1
one_said = omega arith

none_said : 0 ≤ 1
none_said = omega arith

first : (stream : ℕ) (n : NodeState) (m : Message) → state_reply n.sessions stream ≡ None → Ready stream true n → view_on n stream ≡ None → FedHeard stream false n (hear_first n stream m) (m ∷ [])
first stream n m free r none = by_message m where
  by_message : (a : Message) → FedHeard stream false n (hear_first n stream a) (a ∷ [])
  by_message Noop = skips stream n r none
  by_message (ReqNeg session o) = requests stream n session o free r none
  by_message (ReqSyn session o) = synchronizations stream n session o r none
  by_message (Response session initiator ttl told o) =
      response_passes stream n _ (Response session initiator ttl told o) r
      (forward_ready stream n ttl (answered_with told) (Response session initiator ttl told o) (asker_of n.discoveries n.plan.address (origin_of session initiator)) (ready_shut stream n r)) none refl
      (forwards stream n ttl (answered_with told) (Response session initiator ttl told o) (asker_of n.discoveries n.plan.address (origin_of session initiator)) tt (record { born = inl r.given; given = λ past e. r.given }))
  by_message (Invalid session detail) = passes stream n (Invalid session detail) r none refl
  by_message (Discovery session initiator o) = answers stream n (Discovery session initiator o) (Invalid session None) r none none_said one_said
  by_message (Negotiate session o) = answers stream n (Negotiate session o) (Invalid session None) r none none_said one_said
  by_message (End session verdict) = answers stream n (End session verdict) (Invalid session None) r none none_said one_said
  by_message (Wait session millis) = answers stream n (Wait session millis) (Invalid session None) r none none_said one_said
  by_message (Synch session o) = answers stream n (Synch session o) (Invalid session None) r none none_said one_said
  by_message (Flood session initiator ttl parts) = answers stream n (Flood session initiator ttl parts) (Invalid session None) r none none_said one_said

message : (stream : ℕ) (n : NodeState) (m : Message) → Ready stream true n → FedHeard stream false n (hear n stream m) (m ∷ [])
unfolding hear
message stream n m r = by_state (state_reply n.sessions stream) refl where
  by_state : (s : Option (ℕ × Bool)) → state_reply n.sessions stream ≡ s → FedHeard stream false n (hear_by n stream m s) (m ∷ [])
  by_state None e = first stream n m e r (no_voice stream n e (r.voice refl))
  by_state (Some state) e = later stream n m state e r

-- ---- one after the other

heard_more : (done more a b c d : List Message) → done ≡ a ++ b → b ≡ [] → more ≡ c ++ d → done ++ more ≡ (a ++ c) ++ d
heard_more done more a b c d e f g = ap (λ (l : List Message). l ++ more) (e ∙ (ap (λ (l : List Message). a ++ l) f ∙ append-nil a)) ∙ (ap (λ (l : List Message). a ++ l) g ∙ sym (append_assoc a c d))

fed_then : (stream : ℕ) (bad : Bool) (n : NodeState) (x y : Heard) (done more : List Message) → FedHeard stream false n x done → x.is_open ≡ true → FedHeard stream bad x.node y more → FedHeard stream bad n y (done ++ more)
fed_then stream bad n x y done more f e g = record {
  moves = f.moves ++ g.moves;
  part = both stream n x.node y.node f.moves g.moves f.part (f.none_last e) g.part;
  unheard = g.unheard;
  heard = heard_more done more (heard_in f.moves) f.unheard (heard_in g.moves) g.unheard f.heard (f.all_heard e) g.heard ∙ ap (λ (l : List Message). l ++ g.unheard) (sym (heard_both f.moves g.moves));
  no_fault = λ b. none_both is_fault f.moves g.moves (f.no_fault refl) (g.no_fault b);
  no_dial = none_both is_dial f.moves g.moves f.no_dial g.no_dial;
  all_heard = g.all_heard;
  none_last = λ o. none_both is_last_move f.moves g.moves (f.none_last e) (g.none_last o);
  ready = g.ready;
}

-- what comes on a stream that isn't open any more isn't heard
fed_closed : (stream : ℕ) (bad : Bool) (n : NodeState) (x : Heard) (done more : List Message) → FedHeard stream false n x done → x.is_open ≡ false → FedHeard stream bad n x (done ++ more)
fed_closed stream bad n x done more f e = record {
  moves = f.moves;
  part = f.part;
  unheard = f.unheard ++ more;
  heard = ap (λ (l : List Message). l ++ more) f.heard ∙ append_assoc (heard_in f.moves) f.unheard more;
  no_fault = λ b. f.no_fault refl;
  no_dial = f.no_dial;
  all_heard = λ o. absurd (true≢false (sym o ∙ e));
  none_last = λ o. absurd (true≢false (sym o ∙ e));
  ready = f.ready;
}

open_ready : (stream : ℕ) (x : Heard) → x.is_open ≡ true → Ready stream x.is_open x.node → Ready stream true x.node
open_ready stream x e r = subst (λ b. Ready stream b x.node) e r

hears_on : (stream : ℕ) (n : NodeState) (x : Heard) (m : Message) (done : List Message) → FedHeard stream false n x done → FedHeard stream false n (hear_on stream x m) (done ++ m ∷ [])
hears_on stream n x m done f = by_test x.is_open refl where
  by_test : (b : Bool) → x.is_open ≡ b → FedHeard stream false n (cond b (hear x.node stream m) x) (done ++ m ∷ [])
  by_test true e = fed_then stream false n x (hear x.node stream m) done (m ∷ []) f e (message stream x.node m (open_ready stream x e f.ready))
  by_test false e = fed_closed stream false n x done (m ∷ []) f e

pub hears_all : (stream : ℕ) (n : NodeState) (ms : List Message) (x : Heard) (done : List Message) → FedHeard stream false n x done → FedHeard stream false n (hear_all stream ms x) (done ++ ms)
unfolding hear_all
hears_all stream n [] x done f = subst (FedHeard stream false n x) (sym (append-nil done)) f
hears_all stream n (m ∷ ms) x done f =
    subst (FedHeard stream false n (hear_all stream ms (hear_on stream x m))) (append_assoc done (m ∷ []) ms)
    (hears_all stream n ms (hear_on stream x m) (done ++ m ∷ []) (hears_on stream n x m done f))

any_fault : (stream : ℕ) (bad : Bool) (n : NodeState) (x : Heard) (ms : List Message) → FedHeard stream false n x ms → FedHeard stream bad n x ms
any_fault stream bad n x ms f = record {
  moves = f.moves;
  part = f.part;
  unheard = f.unheard;
  heard = f.heard;
  no_fault = λ b. f.no_fault refl;
  no_dial = f.no_dial;
  all_heard = f.all_heard;
  none_last = f.none_last;
  ready = f.ready;
}

hears_fault : (stream : ℕ) (n : NodeState) (x : Heard) (ms : List Message) → FedHeard stream false n x ms → FedHeard stream true n (hear_fault stream x) ms
hears_fault stream n x ms f = by_test x.is_open refl where
  by_test : (b : Bool) → x.is_open ≡ b → FedHeard stream true n (cond b (shuts (after_refusal x.node stream)) x) ms
  by_test true e =
      subst (FedHeard stream true n (shuts (after_refusal x.node stream))) (append-nil ms)
      (fed_then stream true n x (shuts (after_refusal x.node stream)) ms [] f e (faults stream x.node (open_ready stream x e f.ready)))
  by_test false e = any_fault stream true n x ms f

hears_rest : (stream : ℕ) (n : NodeState) (kind : RestKind) (x : Heard) (ms : List Message) → FedHeard stream false n x ms → FedHeard stream (is_bad_rest kind) n (hear_rest stream kind x) ms
hears_rest stream n waiting x ms f = f
hears_rest stream n _ x ms f = hears_fault stream n x ms f

pub none_yet : (stream : ℕ) (n : NodeState) → Ready stream true (begin_closing n stream) → FedHeard stream false n (stays (begin_closing n stream)) []
unfolding begin_closing
none_yet stream n r = record {
  moves = [];
  part = record { may = tt; view = refl; more = []; queued = sym (append-nil n.queue); said = refl; no_fewer = itself n.streams.dialled };
  unheard = [];
  heard = refl;
  no_fault = λ e. refl;
  no_dial = refl;
  all_heard = λ e. refl;
  none_last = λ e. refl;
  ready = record { reached = r.reached; given = r.given; shut = r.shut; voice = r.voice };
}

pub hears_piece : (stream : ℕ) (n : NodeState) (a : Added) → Ready stream true (begin_closing n stream) → FedHeard stream (is_bad_rest a.kind) n (heard (begin_closing n stream) stream a) a.messages
hears_piece stream n a r =
    hears_rest stream n a.kind (hear_all stream a.messages (stays (begin_closing n stream))) a.messages (hears_all stream n a.messages (stays (begin_closing n stream)) [] (none_yet stream n r))
