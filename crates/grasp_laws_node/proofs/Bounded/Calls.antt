-- Each call leaves what is so of a node.
use Rattle.std.proofs.Common.{◌≡◌, ℕ, zero, suc, ◌<◌, Bool, true, false, cond, not, ◌&&◌, ◌==◌, List, [], ◌∷◌, Option, Some, None, is_ok, Result, Ok, Err, bytes_eq, refl, sym, ap, ◌∙◌, subst, arith}
use Rattle.std.specs.List.{list_any, find}
use Rattle.std.proofs.lemmas.Bool.{false≢true, and_parts, eqb-true, ne_eqb, or_from}
use Rattle.grasp_laws_tables.proofs.LawKept.{registry_kept}
use Rattle.grasp_discovery.specs.Discoveries.{Discoveries, is_search_of, is_searching, find_reply, find_answer, locators_of, cached_under, search_from, with_search}
use Rattle.grasp_discovery.specs.Discoveries as discovery
use Rattle.grasp_discovery.specs.Topic.{topic_of}
use Rattle.grasp_discovery.specs.declared.answers.Find.TheVariants as find
use Rattle.grasp_discovery.specs.declared.search.Search.{Search}
use Rattle.grasp_discovery.specs.declared.topic.Topic.{Topic}
use Rattle.grasp_discovery.proofs.Soundness.{sound_begin}
use Rattle.grasp_discovery.proofs.Soundness as discoveries
use Rattle.grasp_session.specs.Transcript.{Saying, SayEnd, act_of, request_of}
use Rattle.grasp_session.specs.Runs.{Begins, Speaks, Removes}
use Rattle.grasp_session.specs.Sessions.{SessionState, Sessions, IsProper, owner_of, session_at, check_reply, after_say, stream_reply, after_remove, untaken_reply, owner_reply, state_reply}
use Rattle.grasp_session.specs.declared.answer.Act.TheVariants as act
use Rattle.grasp_session.specs.declared.answer.SessionRefused.{SessionRefused}
use Rattle.grasp_laws_session.proofs.Streams.{is_least}
use Rattle.grasp_types.specs.declared.address.Locator.{Locator}
use Rattle.grasp_types.specs.declared.message.Message.{Message}
use Rattle.grasp_types.specs.declared.objective.Objective.{Objective}
use Rattle.grasp_types.specs.declared.reply.ApiAnswer.TheVariants as answers
use Rattle.grasp_types.specs.declared.session.Handle.{Handle}
use Rattle.grasp_types.specs.declared.session.Kind.{Kind}
use Rattle.grasp_types.specs.declared.session.Progress.{Progress}
use Rattle.grasp_wire.specs.Cutter.{no_past}
use Rattle.grasp_model_node.specs.Declines.{Declining, unlistened, declined_for, may_decline, declined, removed, after_decline, after_declines}
use Rattle.grasp_model_node.specs.FloodCalls.{to_all, count_all, discovery_message, find_of, begun}
use Rattle.grasp_model_node.specs.Moves.{with_sessions, with_discoveries, with_draw, dial_record, queue_up}
use Rattle.grasp_model_node.specs.Node.{NodeState}
use Rattle.grasp_model_node.specs.Queue.{all_ways, has_room, send, dial}
use Rattle.grasp_model_node.specs.RegistryCalls.{without_searches, close_stream, without_session, without_sessions, with_mark}
use Rattle.grasp_model_node.specs.SessionCalls.{polled, begun_by, requested, request_of as message_of}
use Rattle.grasp_model_node.specs.Draws.{next_session}
use Rattle.grasp_model_node.specs.BoundedNodes.{IsBoundedNode, IsGiven}
use Rattle.grasp_model_node.specs.Streams.{is_dialled_out, next_stream}
use Rattle.grasp_laws_node.proofs.Bounded.Streams.{next_not_given, next_is_given}
use Rattle.grasp_laws_node.proofs.Bounded.Moves.{registrations_kept, discoveries_kept, draw_kept, call_kept, closing_kept, dial_kept, queue_kept, along_kept}
use Rattle.grasp_laws_node.proofs.Bounded.Tests.{unused_stream}

-- ---- declines

pub ok_is : (r : Result (Unit {0}) SessionRefused) → is_ok r ≡ true → r ≡ Ok tt
ok_is (Ok done) e = refl
ok_is (Err refused) e = absurd (false≢true e)

sessions_same : (n : NodeState) → IsBoundedNode n → IsBoundedNode (with_sessions n n.sessions)
unfolding with_sessions
sessions_same n k = k

pub remove_kept : (n : NodeState) (h : Handle) → IsBoundedNode n → IsBoundedNode (with_sessions n (after_remove n.sessions h))
remove_kept n h k = by_state (session_at n.sessions h) refl where
  by_state : (o : Option SessionState) → session_at n.sessions h ≡ o → IsBoundedNode (with_sessions n (after_remove n.sessions h))
  by_state None e = rw e (sessions_same n k)
  by_state (Some x) e = call_kept n (Removes h) k (rw e refl) tt

pub said_kept : (n : NodeState) (owner : ℕ) (h : Handle) (saying : Saying) (stream : ℕ) (m : Message) → IsBoundedNode n → check_reply n.sessions owner h (act_of saying) ≡ Ok tt → has_room n.queue 1 ≡ true
    → IsBoundedNode (queue_up (with_sessions n (after_say n.sessions n.reading h saying)) (send stream m ∷ []))
unfolding with_sessions
said_kept n owner h saying stream m k e room =
    queue_kept (with_sessions n (after_say n.sessions n.reading h saying)) (send stream m ∷ []) (call_kept n (Speaks n.reading owner h saying) k e tt) room

pub decline_kept : (n : NodeState) (d : Declining) → IsBoundedNode n → IsBoundedNode (after_decline n d)
decline_kept n d k = closing_kept (cond (may_decline n d.handle) (declined n d) (removed n d.handle)) d.stream (by_test (may_decline n d.handle) refl) where
  by_test : (b : Bool) → may_decline n d.handle ≡ b → IsBoundedNode (cond b (declined n d) (removed n d.handle))
  by_test true e =
      let p = and_parts (has_room n.queue 1) (is_ok (check_reply n.sessions 0 d.handle act.End)) e in
      said_kept n 0 d.handle (SayEnd (declined_for unlistened)) d.stream d.message k (ok_is (check_reply n.sessions 0 d.handle act.End) p.1) p.0
  by_test false e = remove_kept n d.handle k

pub declines_kept : (n : NodeState) (ds : List Declining) → IsBoundedNode n → IsBoundedNode (after_declines n ds)
unfolding after_declines
declines_kept n [] k = k
declines_kept n (d ∷ ds) k = declines_kept (after_decline n d) ds (decline_kept n d k)

-- ---- the registry

pub mark_kept : (n : NodeState) (asa : ℕ) (name : List ℕ) (on : Bool) → IsBoundedNode n → IsBoundedNode (with_mark n asa name on)
mark_kept n asa name on k = registrations_kept n _ k ((registry_kept.kept n.registrations k.registrations).listen asa name on)

close_stream_kept : (n : NodeState) (o : Option ℕ) → IsBoundedNode n → IsBoundedNode (close_stream n o)
close_stream_kept n None k = k
close_stream_kept n (Some stream) k = closing_kept n stream k

without_session_kept : (n : NodeState) (o : Option Handle) → IsBoundedNode n → IsBoundedNode (without_session n o)
without_session_kept n None k = k
without_session_kept n (Some h) k = close_stream_kept (with_sessions n (after_remove n.sessions h)) (stream_reply n.sessions h) (remove_kept n h k)

pub without_sessions_kept : (count : ℕ) (n : NodeState) (asa : ℕ) → IsBoundedNode n → IsBoundedNode (without_sessions count n asa)
unfolding without_sessions
without_sessions_kept zero n asa k = k
without_sessions_kept (suc count) n asa k =
    without_session_kept (without_sessions count n asa) (owner_reply (without_sessions count n asa).sessions asa) (without_sessions_kept count n asa k)

pub without_searches_kept : (n : NodeState) (asa : ℕ) → IsBoundedNode n → IsBoundedNode (without_searches n asa)
without_searches_kept n asa k = discoveries_kept n _ k (discoveries.sound_drop n.discoveries asa k.discoveries)

-- ---- sessions

pub polled_is : (r : Result Progress SessionRefused) (p : Progress) → answers.Polled p ≡ polled r → Ok p ≡ r
polled_is (Ok q) p e = cc
polled_is (Err refused) p e = absurd (cc)

pub untaken_owner : (z : Sessions) (name : List ℕ) (h : Handle) → untaken_reply z name ≡ Some h → owner_of (session_at z h) ≡ Some 0
untaken_owner z name h e =
    let l = is_least z (λ x. (x.owner == 0) && bytes_eq (request_of x.view).name name) h e in
    ap owner_of l.at ∙ ap (λ (x : ℕ). Some x) (eqb-true l.state.owner 0 (and_parts (l.state.owner == 0) (bytes_eq (request_of l.state.view).name name) l.passes).0)

pub next_unused : (n : NodeState) → IsBoundedNode n → state_reply n.sessions (next_stream n.streams) ≡ None
next_unused n k = unused_stream n.sessions (next_stream n.streams) (λ place x at e. next_not_given n.streams.dialled (subst (IsGiven n.streams.dialled) e (k.sessions_given place x at)))

pub proper : (n : NodeState) (asa : ℕ) (kind : Kind) (timeout : ℕ) (o : Objective) → 0 < asa → IsProper (begun_by n asa kind timeout o)
proper n asa kind timeout o above = record {
  synchronization = λ e. refl;
  taken = sym (ap not (ne_eqb asa 0 (λ e. omega (arith, e, above))));
  untaken = λ e. absurd (omega (arith, e, above));
}

pub requested_kept : (n : NodeState) (asa : ℕ) (kind : Kind) (timeout : ℕ) (o : Objective) (peer : Locator) → IsBoundedNode n → 0 < asa → is_dialled_out n.streams ≡ false → has_room n.queue 2 ≡ true
    → IsBoundedNode (requested n asa kind timeout o peer)
unfolding with_sessions with_draw dial_record
requested_kept n asa kind timeout o peer k above free room =
    let dialled : IsBoundedNode (with_draw (dial_record n (Some no_past))) = draw_kept (dial_record n (Some no_past)) (dial_kept n (Some no_past) k free) in
    queue_kept _ (dial (next_stream n.streams) peer ∷ send (next_stream n.streams) (message_of kind (next_session n) o) ∷ [])
    (call_kept (with_draw (dial_record n (Some no_past))) (Begins n.reading (begun_by n asa kind timeout o)) dialled (next_unused n k, proper n asa kind timeout o above) (next_is_given n.streams.dialled)) room

-- ---- searches and floods

to_all_kept : (n : NodeState) (m : Message) → IsBoundedNode n → has_room n.queue (count_all n) ≡ true → IsBoundedNode (to_all n m)
to_all_kept n m k room = along_kept n m (all_ways n.plan.links) k room

none_found : (p : Search → Bool) (l : List Search) → find p l ≡ None → list_any p l ≡ false
none_found p [] e = refl
none_found p (x ∷ l) e = by_test (p x) refl e (λ f. none_found p l f) where
  by_test : (b : Bool) → p x ≡ b → cond b (Some x) (find p l) ≡ None → (find p l ≡ None → list_any p l ≡ false) → list_any p (x ∷ l) ≡ false
  by_test true f g rest = absurd (cc)
  by_test false f g rest = or_from (p x) (list_any p l) f (rest g)

not_searching : (all : Discoveries) (asa : ℕ) (topic : Topic) → find_answer all asa topic ≡ find.Fresh → is_searching all asa topic ≡ false
not_searching all asa topic e = by_cache (locators_of (cached_under topic all.entries)) e where
  by_search : (o : Option Search) → find (is_search_of asa topic) all.searches ≡ o → find_reply None o ≡ find.Fresh → is_searching all asa topic ≡ false
  by_search None f g = none_found (is_search_of asa topic) all.searches f
  by_search (Some search) f g = absurd (by_over search.over g) where
    by_over : (b : Bool) → cond b find.Nothing find.NotYet ≡ find.Fresh → ⊥
    by_over true g = cc
    by_over false g = cc

  by_cache : (o : Option (List Locator)) → find_reply o (find (is_search_of asa topic) all.searches) ≡ find.Fresh → is_searching all asa topic ≡ false
  by_cache None g = by_search (find (is_search_of asa topic) all.searches) refl g
  by_cache (Some locators) g = absurd (cc)

pub begun_kept : (n : NodeState) (asa : ℕ) (name : List ℕ) (kind : Kind) (loops timeout : ℕ) → IsBoundedNode n → find_of n asa name kind ≡ find.Fresh → discovery.is_full n.discoveries ≡ false
    → has_room n.queue (count_all n) ≡ true → IsBoundedNode (begun n asa name kind loops timeout)
unfolding with_draw with_discoveries
begun_kept n asa name kind loops timeout k fresh free room =
    to_all_kept (with_draw (with_discoveries n (with_search n.discoveries (search_from n.reading asa (topic_of name kind) (next_session n) timeout)))) (discovery_message n name kind loops)
    (draw_kept _ (discoveries_kept n _ k (sound_begin n.discoveries (search_from n.reading asa (topic_of name kind) (next_session n) timeout) (not_searching n.discoveries asa (topic_of name kind) fresh) free k.discoveries))) room

pub flooding_kept : (n : NodeState) (m : Message) → IsBoundedNode n → has_room n.queue (count_all n) ≡ true → IsBoundedNode (to_all (with_draw n) m)
unfolding with_draw
flooding_kept n m k room = to_all_kept (with_draw n) m (draw_kept n k) room
