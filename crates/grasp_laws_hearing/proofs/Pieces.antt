-- What a piece of a stream does.
use Rattle.std.proofs.Common.{◌≡◌, ◌≢◌, ◌≤◌, ◌+◌, ℕ, nat_le, Bool, true, false, cond, not, List, [], ◌∷◌, ◌++◌, length, Option, None, Some, refl, sym, ap, ◌∙◌, subst, arith}
use Rattle.std.proofs.lemmas.Bool.{true≢false, leb-true}
use Rattle.std.proofs.lemmas.Bool.Decides.{not_from_Decides}
use Rattle.std.specs.Bool.{Decides}
use Rattle.std.proofs.lemmas.Option.{same_Some}
use Rattle.grasp_laws_node.proofs.Bounded.Bytes.{AreMessages, are_before, added_are, record_given, hear_all_kept, closing_heard}
use Rattle.grasp_laws_node.proofs.Bounded.Hear.{Hears}
use Rattle.grasp_laws_node.proofs.Bounded.Nodes.{begin_kept}
use Rattle.grasp_laws_node.proofs.Consistent.Table.{state_lies}
use Rattle.grasp_model_node.specs.Begin.{begin}
use Rattle.grasp_model_node.specs.BoundedNodes.{IsBoundedNode}
use Rattle.grasp_model_node.specs.Bytes.{Added, Adds, AddsOn, most_bytes, hear_all, hear_fault, hear_rest, heard, past_after, left_as, broken, bytes_on, after_bytes, StarvesAt}
use Rattle.grasp_model_node.specs.Hear.{Heard, stays, shuts, refused_by, after_refusal, hear}
use Rattle.grasp_model_node.specs.Moves.{with_sessions, begin_closing, keep_past}
use Rattle.grasp_model_node.specs.Node.{NodeState}
use Rattle.grasp_model_node.specs.Step.{Coming, TakesBytes}
use Rattle.grasp_model_node.specs.Streams.{past_of}
use Rattle.grasp_session.specs.Sessions.{after_mark, state_reply}
use Rattle.grasp_session.specs.Transcript.{Closed, Starved, Faulty}
use Rattle.grasp_types.specs.declared.message.Message.{Message}
use Rattle.grasp_types.specs.declared.message.Message.TheVariants.{Invalid}
use Rattle.grasp_types.specs.declared.reply.Reply.{Reply}
use Rattle.grasp_types.specs.declared.reply.Reply.TheVariants as reply
use Rattle.grasp_wire.specs.Cutter.{Past}
use Rattle.grasp_wire.specs.Stream.{RestKind, waiting, too_long, not_message, faulty}
use Rattle.grasp_model_node.specs.Moves as moves
use Rattle.grasp_laws_hearing.proofs.Answering.{no_more}
use Rattle.grasp_laws_hearing.proofs.Later.{ends_badly}
use Rattle.grasp_laws_hearing.proofs.Streams.{ends_outside}
use Rattle.grasp_laws_hearing.specs.Pieces.{HearsAll, NoneGoesOn, HearsFault, HearsRest, HearsPiece, TakesPiece, Starves, PieceDoes, PiecesAreHeard}
use Rattle.grasp_laws_hearing.specs.Streams.{EndsOutside}

-- ---- the messages one after the other

shut_hears_none : (stream : ℕ) (ms : List Message) (x : Heard) → x.is_open ≡ false → hear_all stream ms x ≡ x
unfolding hear_all
shut_hears_none stream [] x e = refl
shut_hears_none stream (m ∷ ms) x e = ap (hear_all stream ms) (ap (λ b. cond b (hear x.node stream m) x) e) ∙ shut_hears_none stream ms x e

hears_all : (stream : ℕ) (ms : List Message) (x : Heard) → HearsAll stream ms x (hear_all stream ms x)
unfolding hear_all
hears_all stream [] x = refl
hears_all stream (m ∷ ms) x = (
  λ e. subst (HearsAll stream ms (hear x.node stream m)) (sym (ap (λ b. hear_all stream ms (cond b (hear x.node stream m) x)) e)) (hears_all stream ms (hear x.node stream m)),
  λ e. ap (λ b. hear_all stream ms (cond b (hear x.node stream m) x)) e ∙ shut_hears_none stream ms x e,
)

-- ---- a fault behind them

nothing_ends : (n : NodeState) (stream : ℕ) → NoneGoesOn n stream → after_refusal n stream ≡ n
nothing_ends n stream none = by (state_reply n.sessions stream) refl where
  ended : (b : Bool) → not b ≡ false → b ≡ true
  ended true e = refl
  ended false e = absurd (true≢false e)

  over : (state : ℕ × Bool) → state_reply n.sessions stream ≡ Some state → state.1 ≡ true
  over state e = let l = state_lies n.sessions stream state e in sym l.ends ∙ ap not (none l.place l.session (record { at = l.at; on = l.on }))

  by : (o : Option (ℕ × Bool)) → state_reply n.sessions stream ≡ o → refused_by n stream o ≡ n
  by None e = refl
  by (Some state) e = ap (λ b. cond b n (with_sessions (moves.answer n stream (Invalid state.0 None)) (after_mark n.sessions stream Faulty))) (over state e)

hears_fault : (n : NodeState) (stream : ℕ) → IsBoundedNode n → HearsFault n stream (shuts (after_refusal n stream))
hears_fault n stream k = record { session = λ place x is going. ends_badly n stream place x k is going; none = λ none. ap shuts (nothing_ends n stream none) }

-- a rest that is faulty
fault_rest : (stream : ℕ) (kind : RestKind) (x : Heard) → IsBoundedNode x.node → kind ≢ waiting → HearsRest stream kind x (hear_fault stream x)
fault_rest stream kind x k bad = record { waits = λ e. absurd (bad e); shut = λ e. ap (λ b. cond b (shuts (after_refusal x.node stream)) x) e; fault = λ other e. subst (HearsFault x.node stream) (sym (ap (λ b. cond b (shuts (after_refusal x.node stream)) x) e)) (hears_fault x.node stream k) }

hears_rest : (stream : ℕ) (kind : RestKind) (x : Heard) → IsBoundedNode x.node → HearsRest stream kind x (hear_rest stream kind x)
hears_rest stream waiting x k = record { waits = λ e. refl; shut = λ e. refl; fault = λ bad e. absurd (bad refl) }
hears_rest stream too_long x k = fault_rest stream too_long x k (λ e. cc)
hears_rest stream not_message x k = fault_rest stream not_message x k (λ e. cc)
hears_rest stream (faulty name place) x k = fault_rest stream (faulty name place) x k (λ e. cc)

-- ---- a piece

-- what is heard of a piece is heard by nodes to which steps lead
heard_nodes : (n : NodeState) (stream : ℕ) (past : Past) (piece : List ℕ) (a : Added) (ms others : List Message) → IsBoundedNode n → past_of n.streams stream ≡ Some past → Adds n.plan.limit past piece a
    → a.messages ≡ ms ++ others → IsBoundedNode (hear_all stream ms (stays (begin_closing n stream))).node
heard_nodes n stream past piece a ms others k opened adds parts =
    let each : AreMessages ms = are_before ms others (subst AreMessages parts (added_are n.plan.limit past piece a adds)) in
    let all : Hears stream (hear_all stream ms (stays (begin_closing n stream))).node = hear_all_kept stream ms (stays (begin_closing n stream)) each (closing_heard stream n (k, record_given n stream past k opened)) in
    all.0

append_none : (ms : List Message) → ms ≡ ms ++ []
append_none [] = refl
append_none (m ∷ ms) = ap (λ l. m ∷ l) (append_none ms)

hears_piece : (n : NodeState) (stream : ℕ) (past : Past) (piece : List ℕ) (a : Added) → IsBoundedNode n → past_of n.streams stream ≡ Some past → Adds n.plan.limit past piece a
    → HearsPiece n stream past piece a (left_as stream (past_after past piece a) (heard (begin_closing n stream) stream a))
unfolding begin_closing keep_past
hears_piece n stream past piece a k opened adds = record {
  behind = hear_all stream a.messages (stays (begin_closing n stream));
  messages = hears_all stream a.messages (stays (begin_closing n stream));
  last = last;
  rest = hears_rest stream a.kind (hear_all stream a.messages (stays (begin_closing n stream))) (heard_nodes n stream past piece a a.messages [] k opened adds (append_none a.messages));
  stays_open = λ e. ap (λ b. cond b (keep_past last.node stream (past_after past piece a)) last.node) e;
  shut = λ e. ap (λ b. cond b (keep_past last.node stream (past_after past piece a)) last.node) e;
} where
  last : Heard
  last = heard (begin_closing n stream) stream a

takes : (n : NodeState) (stream : ℕ) (piece : List ℕ) (a : Added) → IsBoundedNode n → AddsOn n.plan.limit piece a (past_of n.streams stream) → TakesPiece n stream piece a (after_bytes n stream piece a)
unfolding after_bytes
takes n stream piece a k adds = by (past_of n.streams stream) refl adds where
  one : (past other : Past) → past_of n.streams stream ≡ Some past → past_of n.streams stream ≡ Some other → past ≡ other
  one past other e f = same_Some past other (sym e ∙ f)

  by_room : (past : Past) → past_of n.streams stream ≡ Some past → Adds n.plan.limit past piece a → (b : Bool) → Decides b (length past.fed + length piece ≤ 4294967295)
      → TakesPiece n stream piece a (cond b (left_as stream (past_after past piece a) (heard (begin_closing n stream) stream a)) (broken n stream))
  by_room past e d true room = record {
    not_open = λ f. let clash : None ≡ Some past = sym f ∙ e in absurd (cc);
    hears = λ other f small.
        subst (λ (p : Past). HearsPiece n stream p piece a (left_as stream (past_after past piece a) (heard (begin_closing n stream) stream a))) (one past other e f) (hears_piece n stream past piece a k e d);
    too_many = λ other f large. let small : length other.fed + length piece ≤ 4294967295 = subst (λ (p : Past). length p.fed + length piece ≤ 4294967295) (one past other e f) (room.0 refl) in absurd (omega (arith, small, large));
  }
  by_room past e d false room = record {
    not_open = λ f. let clash : None ≡ Some past = sym f ∙ e in absurd (cc);
    hears = λ other f small.
        absurd (not_from_Decides false room refl (subst (λ (p : Past). length p.fed + length piece ≤ 4294967295) (sym (one past other e f)) small));
    too_many = λ other f large. ends_outside n stream Closed k;
  }

  by : (o : Option Past) → past_of n.streams stream ≡ o → AddsOn n.plan.limit piece a o → TakesPiece n stream piece a (bytes_on n stream piece a o)
  by None e d = record {
    not_open = λ f. refl;
    hears = λ past f. let clash : None ≡ Some past = sym e ∙ f in absurd (cc);
    too_many = λ past f. let clash : None ≡ Some past = sym e ∙ f in absurd (cc);
  }
  by (Some past) e d = by_room past e d (nat_le (length past.fed + length piece) most_bytes) (no_more (length past.fed + length piece) 4294967295)

starves : (n after : NodeState) (stream : ℕ) (piece : List ℕ) (a : Added) → IsBoundedNode n → AddsOn n.plan.limit piece a (past_of n.streams stream) → StarvesAt n stream piece a after → Starves n stream piece a after
unfolding begin_closing
starves n after stream piece a k adds s = record {
  past = s.past;
  was_open = s.was_open;
  room = leb-true (length s.past.fed + length piece) most_bytes s.room;
  some = s.some;
  others = s.others;
  parts = s.parts;
  behind = behind;
  messages = hears_all stream s.some (stays (begin_closing n stream));
  still_open = s.still_open;
  ends = subst (EndsOutside behind.node stream Starved) (sym s.after_is) (ends_outside behind.node stream Starved (heard_nodes n stream s.past piece a s.some s.others k s.was_open (subst (AddsOn n.plan.limit piece a) s.was_open adds) s.parts));
} where
  behind : Heard
  behind = hear_all stream s.some (stays (begin_closing n stream))

does : (n after : NodeState) (stream : ℕ) (piece : List ℕ) (x : Coming) (r : Reply) → IsBoundedNode n → AddsOn n.plan.limit piece x.added (past_of n.streams stream) → TakesBytes n stream piece x r after
    → PieceDoes n stream piece x.added r after
does n after stream piece x reply.Taken k adds e = subst (TakesPiece n stream piece x.added) (sym e) (takes n stream piece x.added k adds)
does n after stream piece x reply.OutOfMemory k adds s = starves n after stream piece x.added k adds s
does n after stream piece x _ k adds e = e

pub pieces_are_heard : PiecesAreHeard
pieces_are_heard n after now stream piece x r k s = does (begin n now) after stream piece x r (begin_kept n now k) s.is_coming s.acts
