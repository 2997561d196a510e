-- What the answers of requests mean.
use Rattle.std.proofs.Common.{◌≡◌, ℕ, ◌+◌, ◌^◌, Bool, true, false, not, nat_le, List, length, Option, Some, None, Result, Ok, Err, refl, sym, ap, ◌∙◌, subst}
use Rattle.std.proofs.lemmas.Bool.{true≢false, false≢true, not-false, or_parts, leb-false}
use Rattle.grasp_asa.specs.Registrations.{is_registered}
use Rattle.grasp_session.specs.Says.{Starts, StartSays}
use Rattle.grasp_session.specs.Sessions.{Sessions, start_reply}
use Rattle.grasp_session.specs.Sessions as session
use Rattle.grasp_session.specs.declared.answer.SessionRefused.{SessionRefused}
use Rattle.grasp_session.specs.declared.answer.SessionRefused.TheVariants as refused
use Rattle.grasp_laws_session.proofs.Runs.{calls_in_order}
use Rattle.grasp_laws_session.proofs.Says.{starts_say}
use Rattle.grasp_types.specs.Address.{is_dialable}
use Rattle.grasp_types.specs.Objective.{has_synch, has_dry}
use Rattle.grasp_types.specs.declared.address.Locator.{Locator}
use Rattle.grasp_types.specs.declared.message.Message.{Message}
use Rattle.grasp_types.specs.declared.message.Message.TheVariants.{ReqNeg, ReqSyn}
use Rattle.grasp_types.specs.declared.objective.Objective.{Objective}
use Rattle.grasp_types.specs.declared.session.Handle.{Handle}
use Rattle.grasp_types.specs.declared.session.Kind.{Kind}
use Rattle.grasp_types.specs.declared.session.Kind.TheVariants.{Negotiation, Synchronization}
use Rattle.grasp_model_node.specs.Draws.{next_session}
use Rattle.grasp_laws_node.specs.MeansRequests.{Dials, having_asked, negotiable, synchronizable, Synchronizes, RequestMeans, SynchronizeMeans}
use Rattle.grasp_model_node.specs.Moves.{with_sessions, with_draw, dial_record, queue_up}
use Rattle.grasp_model_node.specs.Node.{NodeState}
use Rattle.grasp_model_node.specs.Refusals.{late}
use Rattle.grasp_model_node.specs.SessionCalls.{requested, request_of, started, negotiated, synchronized, flags_or}
use Rattle.grasp_model_node.specs.Streams.{is_full, is_dialled_out}
use Rattle.grasp_model_node.specs.Tests.{no_asa, owned_flags, lacks, not_synchronizable, not_dry, request_tests, synchronize_tests, sending}
use Rattle.grasp_laws_node.proofs.AllFailing.{all_fail}
use Rattle.grasp_laws_node.proofs.Meaning.Acts.{sends, negotiates}

pub record Began (z : Sessions) : Type 0 where
  pub handle : Handle
  pub reply : start_reply z ≡ Ok handle
  pub starts : Starts z handle

began : (z : Sessions) → length z.places ≡ 64 → session.is_full z ≡ false → Began z
began z long room = by_reply (start_reply z) refl (starts_say z long) where
  by_reply : (r : Result Handle SessionRefused) → start_reply z ≡ r → StartSays z r → Began z
  by_reply (Ok h) e s = record { handle = h; reply = e; starts = s }
  by_reply (Err refused.SessionsFull) e s = absurd (true≢false (sym s ∙ room))
  by_reply (Err _) e s = absurd s

dials : (n : NodeState) (peer : Locator) (m : Message) → not (is_dialable peer) ≡ false → is_dialled_out n.streams ≡ false → late (sending n m 2) ≡ Ok tt → Dials n peer m
dials n peer m e f g =
    let p = or_parts (is_full n.streams) (nat_le (2 ^ 62) n.streams.dialled) f in
    record {
      dialable = not-false (is_dialable peer) e;
      few_records = leb-false 64 (length n.streams.records) p.0;
      few_dialled = leb-false (2 ^ 62) n.streams.dialled p.1;
      fits = sends n m 2 g;
    }

asked_is : (n : NodeState) (asa : ℕ) (kind : Kind) (timeout : ℕ) (o : Objective) (peer : Locator) (h : Handle) → start_reply n.sessions ≡ Ok h → h.number ≡ n.sessions.made + 1
    → requested n asa kind timeout o peer ≡ having_asked n asa kind timeout o peer h (request_of kind (next_session n) o)
unfolding with_sessions with_draw dial_record queue_up
asked_is n asa kind timeout o peer h e f = rw (e, f) refl

pub synchronizes : (n : NodeState) (asa : ℕ) (name : List ℕ) → no_asa n asa ≡ false → not_synchronizable n asa name ≡ false → Synchronizes n asa name
synchronizes n asa name e f = by_flags (owned_flags n asa name) refl f where
  by_flags : (o : Option ℕ) → owned_flags n asa name ≡ o → lacks has_synch o ≡ false → Synchronizes n asa name
  by_flags None g i = absurd (true≢false i)
  by_flags (Some flags) g i = record { registered = not-false (is_registered n.registrations asa) e; flags = flags; own = g; has = not-false (has_synch flags) i }

dry_allowed : (n : NodeState) (asa : ℕ) (name : List ℕ) (dry : Bool) (flags : ℕ) → owned_flags n asa name ≡ Some flags → not_dry n asa name dry ≡ false → dry ≡ true → has_dry flags ≡ true
dry_allowed n asa name true flags e f g = not-false (has_dry flags) (ap (lacks has_dry) (sym e) ∙ f)
dry_allowed n asa name false flags e f g = absurd (false≢true g)

pub request_means_lem : RequestMeans
request_means_lem n asa name value loops timeout dry peer a k m =
    let t = all_fail (request_tests n asa name dry peer) m.0 in
    let g = negotiates n asa name t.asa t.negotiable in
    let b = began n.sessions (calls_in_order n.sessions k.sessions).long t.sessions in
    let o = negotiable name g.flags value loops dry in
    let same : negotiated n asa name value loops dry ≡ o = ap (λ (f : Option ℕ). negotiable name (flags_or f) value loops dry) g.own in
    record {
      negotiates = g;
      may_dry = dry_allowed n asa name dry g.flags g.own t.dry;
      handle = b.handle;
      starts = b.starts;
      told = m.2 ∙ ap started b.reply;
      dials = dials n peer (ReqNeg (next_session n) o) t.locator t.streams (subst (λ (x : Objective). late (sending n (ReqNeg (next_session n) x) 2) ≡ Ok tt) same m.1);
      leads = ap (λ (x : Objective). requested n asa Negotiation timeout x peer) same ∙ asked_is n asa Negotiation timeout o peer b.handle b.reply b.starts.number;
    }

pub synchronize_means_lem : SynchronizeMeans
synchronize_means_lem n asa name loops timeout peer a k m =
    let t = all_fail (synchronize_tests n asa name peer) m.0 in
    let g = synchronizes n asa name t.asa t.synchronizable in
    let b = began n.sessions (calls_in_order n.sessions k.sessions).long t.sessions in
    let o = synchronizable name g.flags loops in
    let same : synchronized n asa name loops ≡ o = ap (λ (f : Option ℕ). synchronizable name (flags_or f) loops) g.own in
    record {
      synchronizes = g;
      handle = b.handle;
      starts = b.starts;
      told = m.2 ∙ ap started b.reply;
      dials = dials n peer (ReqSyn (next_session n) o) t.locator t.streams (subst (λ (x : Objective). late (sending n (ReqSyn (next_session n) x) 2) ≡ Ok tt) same m.1);
      leads = ap (λ (x : Objective). requested n asa Synchronization timeout x peer) same ∙ asked_is n asa Synchronization timeout o peer b.handle b.reply b.starts.number;
    }
