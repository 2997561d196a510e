-- What a message does that comes on a stream without a session.
use Rattle.std.proofs.Common.{◌≡◌, ◌-◌, ◌^◌, ◌==◌, nat_le, ℕ, Bool, true, false, cond, not, ◌&&◌, ◌||◌, List, Option, None, Some, Result, Ok, Err, refl, sym, ap, ◌∙◌, subst}
use Rattle.std.specs.Bool.{Decides}
use Rattle.std.specs.Prelude.{slice_get, slice_set}
use Rattle.std.proofs.lemmas.Bool.{false≢true, not-true}
use Rattle.std.proofs.lemmas.Bool.Decides.{Decides-and, Decides-not, Decides-eqb, Decides-like, not_from_Decides}
use Rattle.std.proofs.lemmas.Option.{same_Some}
use Rattle.grasp_asa.specs.Answers.{listener_of, flags_registered, value_offered}
use Rattle.grasp_asa.specs.Registrations.{Registrations}
use Rattle.grasp_cbor.specs.DataItem.{DataItem}
use Rattle.grasp_discovery.specs.Discoveries.{asker_of}
use Rattle.grasp_discovery.specs.declared.answers.Answered.{Answered}
use Rattle.grasp_discovery.specs.declared.answers.Answered.TheVariants.{Mine, Relay, Stranger}
use Rattle.grasp_discovery.specs.declared.answers.Cause.{Cause}
use Rattle.grasp_discovery.specs.declared.topic.Topic.{Topic}
use Rattle.grasp_laws_node.proofs.Consistent.Table.{order}
use Rattle.grasp_laws_session.proofs.Says.{starts_say}
use Rattle.grasp_model_node.specs.BoundedNodes.{IsBoundedNode}
use Rattle.grasp_model_node.specs.Declines.{unlistened, busy}
use Rattle.grasp_model_node.specs.Hear.{shuts, may_ask, if_listener, is_listened, declines, listened, hear_request, synched, hear_synchronization, on_link, neighbour_at, dial_neighbour, sent_on, hear_first, hear_by, hear}
use Rattle.grasp_model_node.specs.Moves.{with_sessions, with_discoveries, answer}
use Rattle.grasp_model_node.specs.Node.{NodeState}
use Rattle.grasp_session.specs.Messages.{Far}
use Rattle.grasp_session.specs.Says.{Starts, StartSays}
use Rattle.grasp_session.specs.Sessions.{Sessions, is_full, live_count, start_reply}
use Rattle.grasp_session.specs.Transcript.{opening}
use Rattle.grasp_session.specs.declared.answer.SessionRefused.{SessionRefused}
use Rattle.grasp_session.specs.declared.answer.SessionRefused.TheVariants.{SessionsFull}
use Rattle.grasp_types.specs.Objective.{has_neg, has_synch, has_dry}
use Rattle.grasp_types.specs.Origin.{origin_of}
use Rattle.grasp_types.specs.declared.address.Address.{Address}
use Rattle.grasp_types.specs.declared.links.Neighbour.{Neighbour}
use Rattle.grasp_types.specs.declared.message.Answer.{Answer}
use Rattle.grasp_types.specs.declared.message.Answer.TheVariants.{Locators, Divert}
use Rattle.grasp_types.specs.declared.message.Message.{Message}
use Rattle.grasp_types.specs.declared.message.Message.TheVariants.{Noop, Discovery, Response, ReqNeg, ReqSyn, Negotiate, End, Wait, Synch, Flood, Invalid}
use Rattle.grasp_types.specs.declared.objective.Objective.{Objective}
use Rattle.grasp_types.specs.declared.session.Handle.{Handle}
use Rattle.grasp_types.specs.declared.session.Kind.TheVariants.{Negotiation}
use Rattle.grasp_laws_hearing.proofs.Answering.{below, neither, ends_with, dialled}
use Rattle.grasp_laws_hearing.proofs.Found.{none_on}
use Rattle.grasp_laws_hearing.specs.Answering.{EndsWith, IsDialled}
use Rattle.grasp_laws_hearing.specs.First.{HasNone, IsListenedFor, HasRoom, Begins, decline, HearsRequest, HearsSynchronization, IsNeighbour, SendsBack, SendsOnTo, having_cached, HearsResponse, HearsFirst}

-- ---- a request for negotiation

is_no : (b : Bool) → Decides (not b) (b ≡ false)
is_no b = (not-true b, λ e. ap not e)

-- where one thing holds, another does
implies : (a b : Bool) → Decides (not a || b) (a ≡ true → b ≡ true)
implies true b = (λ e f. e, λ h. h refl)
implies false b = (λ e f. absurd (false≢true f), λ h. refl)

-- what the flags ask, where these are registered
abbrev Asks : ℕ → ℕ → Type 0
Asks flags registered = (((has_neg registered ≡ true) × (has_neg flags ≡ true)) × (has_synch flags ≡ false)) × (has_dry flags ≡ true → has_dry registered ≡ true)

is_true : (b : Bool) → Decides b (b ≡ true)
is_true b = (λ e. e, λ e. e)

asks : (flags registered : ℕ) → Decides (may_ask flags (Some registered)) (Asks flags registered)
asks flags registered =
    Decides-and (has_neg registered && has_neg flags && not (has_synch flags)) (not (has_dry flags) || has_dry registered)
    (Decides-and (has_neg registered && has_neg flags) (not (has_synch flags)) (Decides-and (has_neg registered) (has_neg flags) (is_true (has_neg registered)) (is_true (has_neg flags))) (is_no (has_synch flags)))
    (implies (has_dry flags) (has_dry registered))

listened_for : (r : Registrations) (o : Objective) → Decides (is_listened r o) (IsListenedFor r o)
listened_for r o = by (listener_of r o.name) (flags_registered r o.name) refl refl where
  by : (l f : Option ℕ) → listener_of r o.name ≡ l → flags_registered r o.name ≡ f → Decides (if_listener l (may_ask o.flags f)) (IsListenedFor r o)
  by None f el ef = (λ e. absurd (false≢true e), λ h. let clash : None ≡ Some h.owner = sym el ∙ h.listens in absurd (cc))
  by (Some owner) None el ef = (λ e. absurd (false≢true e), λ h. let clash : None ≡ Some h.flags = sym ef ∙ h.registered in absurd (cc))
  by (Some owner) (Some flags) el ef =
      Decides-like (may_ask o.flags (Some flags))
      (λ a. record { owner = owner; listens = el; flags = flags; registered = ef; negotiates = a.0.0.0; asks = a.0.0.1; alone = a.0.1; dry = a.1 })
      (λ h. subst (Asks o.flags) (same_Some h.flags flags (sym h.registered ∙ ef)) (((h.negotiates, h.asks), h.alone), h.dry)) (asks o.flags flags)

pub room : (z : Sessions) → Decides (not (is_full z)) (HasRoom z)
room z =
    Decides-like (not (is_full z)) (λ p. record { live = p.0; numbers = p.1 }) (λ h. (h.live, h.numbers))
    (neither (nat_le 64 (live_count z)) (z.made == 2 ^ 64 - 1) (below 64 (live_count z)) (Decides-not (z.made == 2 ^ 64 - 1) (Decides-eqb z.made (2 ^ 64 - 1))))

full : (z : Sessions) → is_full z ≡ true → ¬ HasRoom z
full z e h = absurd (false≢true (ap not (sym e) ∙ (room z).1 h))

roomy : (z : Sessions) → is_full z ≡ false → HasRoom z
roomy z e = (room z).0 (ap not e)

-- a session that is started is the listener's
begins : (n : NodeState) (stream session : ℕ) (o : Objective) (h : Handle) → Starts n.sessions h → Begins n stream session o (listened n stream session o (Ok h))
unfolding with_sessions
begins n stream session o h s = record {
  handle = h;
  starts = s;
  leads =
      ap (λ (k : ℕ). record n {
        sessions = record {
          made = k;
          places = slice_set n.sessions.places h.place (Some (record { number = k; owner = 0; stream = stream; view = opening Negotiation Far 60000 n.reading session o }));
          gone = n.sessions.gone;
        };
      }) s.number;
  stays_open = refl;
}

hears_request : (n : NodeState) (stream session : ℕ) (o : Objective) → IsBoundedNode n → HearsRequest n stream session o (hear_request n stream session o)
hears_request n stream session o k = by (is_listened n.registrations o) (listened_for n.registrations o) where
  starts : (r : Result Handle SessionRefused) → StartSays n.sessions r → is_listened n.registrations o ≡ true → HearsRequest n stream session o (listened n stream session o r)
  starts (Ok h) s e = record {
    begins = λ l q. begins n stream session o h s;
    busy = λ l no. absurd (no (roomy n.sessions s.not_full));
    unlistened = λ no. absurd (no ((listened_for n.registrations o).0 e));
  }
  starts (Err SessionsFull) s e = record {
    begins = λ l q. absurd (full n.sessions s q);
    busy = λ l no. ends_with n stream (decline session busy);
    unlistened = λ no. absurd (no ((listened_for n.registrations o).0 e));
  }
  starts (Err refused) s e = absurd s

  by : (b : Bool) → Decides b (IsListenedFor n.registrations o)
      → HearsRequest n stream session o (cond b (listened n stream session o (start_reply n.sessions)) (declines n stream session unlistened))
  by true d = starts (start_reply n.sessions) (starts_say n.sessions (order n.sessions k.sessions).long) ((listened_for n.registrations o).1 (d.0 refl))
  by false d = record {
    begins = λ l q. absurd (not_from_Decides false d refl l);
    busy = λ l no. absurd (not_from_Decides false d refl l);
    unlistened = λ no. ends_with n stream (decline session unlistened);
  }

-- ---- a request for synchronization

hears_synchronization : (n : NodeState) (stream session : ℕ) (o : Objective) → HearsSynchronization n stream session o (hear_synchronization n stream session o)
hears_synchronization n stream session o = by (has_synch o.flags) refl (value_offered n.registrations o.name) refl where
  by : (b : Bool) → has_synch o.flags ≡ b → (v : Option DataItem) → value_offered n.registrations o.name ≡ v
      → HearsSynchronization n stream session o (cond b (synched n stream session o v) (declines n stream session unlistened))
  by true e (Some offered) f = record {
    answered = λ g value h.
        subst (λ (x : DataItem). EndsWith n stream (Synch session (record o { value = Some x })) (shuts (answer n stream (Synch session (record o { value = Some offered })))))
        (same_Some offered value (sym f ∙ h)) (ends_with n stream (Synch session (record o { value = Some offered })));
    unasked = λ g. absurd (false≢true (sym g ∙ e));
    unoffered = λ g. let clash : None ≡ Some offered = sym g ∙ f in absurd (cc);
  }
  by true e None f = record {
    answered = λ g value h. let clash : None ≡ Some value = sym f ∙ h in absurd (cc);
    unasked = λ g. absurd (false≢true (sym g ∙ e));
    unoffered = λ g. ends_with n stream (decline session unlistened);
  }
  by false e v f = record {
    answered = λ g value h. absurd (false≢true (sym e ∙ g));
    unasked = λ g. ends_with n stream (decline session unlistened);
    unoffered = λ g. ends_with n stream (decline session unlistened);
  }

-- ---- a response

-- the neighbour of two numbers
pub neighbour_is : (n : NodeState) (link to : ℕ) (neighbour : Neighbour) → (neighbour_at n link to ≡ Some neighbour → IsNeighbour n.plan link to neighbour) × (IsNeighbour n.plan link to neighbour → neighbour_at n link to ≡ Some neighbour)
neighbour_is n link to neighbour = (by (slice_get n.plan.links link) refl, λ is. ap (λ l. on_link l to) is.is_link ∙ is.is_one) where
  by : (l : Option (List Neighbour)) → slice_get n.plan.links link ≡ l → on_link l to ≡ Some neighbour → IsNeighbour n.plan link to neighbour
  by None e f = absurd (cc)
  by (Some neighbours) e f = record { neighbours = neighbours; is_link = e; is_one = f }

sends_back : (n : NodeState) (cause : Cause) (m : Message) → SendsBack n cause m (dial_neighbour n (neighbour_at n cause.link cause.from) m)
sends_back n cause m = by (neighbour_at n cause.link cause.from) refl where
  by : (o : Option Neighbour) → neighbour_at n cause.link cause.from ≡ o → SendsBack n cause m (dial_neighbour n o m)
  by None e = record { there = λ neighbour is. let clash : None ≡ Some neighbour = sym e ∙ (neighbour_is n cause.link cause.from neighbour).1 is in absurd (cc); not_there = λ no. refl }
  by (Some one) e = record {
    there = λ neighbour is.
        subst (λ (x : Neighbour). IsDialled n x.locator m (dial_neighbour n (Some one) m)) (same_Some one neighbour (sym e ∙ (neighbour_is n cause.link cause.from neighbour).1 is)) (dialled n one.locator m);
    not_there = λ no. absurd (no one ((neighbour_is n cause.link cause.from one).0 e));
  }

sends_on : (n : NodeState) (asker : Option (Answered × Topic)) (m : Message) → SendsOnTo n asker m (sent_on n m asker)
sends_on n None m = refl
sends_on n (Some (Mine, topic)) m = refl
sends_on n (Some (Stranger, topic)) m = refl
sends_on n (Some (Relay cause, topic)) m = sends_back n cause m

hears_response : (n : NodeState) (stream session : ℕ) (initiator : Address) (ttl : ℕ) (told : Answer) (o : Option Objective)
    → HearsResponse n session initiator ttl told (Response session initiator ttl told o) (hear_first n stream (Response session initiator ttl told o))
unfolding with_discoveries
hears_response n stream session initiator ttl (Locators locators) o = record {
  sends = sends_on (having_cached n session initiator ttl (Locators locators)) (asker_of n.discoveries n.plan.address (origin_of session initiator)) (Response session initiator ttl (Locators locators) o);
  shut = refl;
}
hears_response n stream session initiator ttl (Divert locators) o = record {
  sends = sends_on (having_cached n session initiator ttl (Divert locators)) (asker_of n.discoveries n.plan.address (origin_of session initiator)) (Response session initiator ttl (Divert locators) o);
  shut = refl;
}

-- ---- any message

as_first : (n : NodeState) (stream : ℕ) (m : Message) → IsBoundedNode n → HearsFirst n stream m (hear_first n stream m)
as_first n stream Noop k = refl
as_first n stream (ReqNeg session o) k = hears_request n stream session o k
as_first n stream (ReqSyn session o) k = hears_synchronization n stream session o
as_first n stream (Response session initiator ttl told o) k = hears_response n stream session initiator ttl told o
as_first n stream (Invalid session detail) k = refl
as_first n stream (Discovery session initiator o) k = ends_with n stream (Invalid session None)
as_first n stream (Negotiate session o) k = ends_with n stream (Invalid session None)
as_first n stream (End session verdict) k = ends_with n stream (Invalid session None)
as_first n stream (Wait session millis) k = ends_with n stream (Invalid session None)
as_first n stream (Synch session o) k = ends_with n stream (Invalid session None)
as_first n stream (Flood session initiator ttl parts) k = ends_with n stream (Invalid session None)

pub hears_first : (n : NodeState) (stream : ℕ) (m : Message) → IsBoundedNode n → HasNone n stream → HearsFirst n stream m (hear n stream m)
unfolding hear
hears_first n stream m k none =
    subst (λ s. HearsFirst n stream m (hear_by n stream m s)) (sym (none_on n.sessions stream (λ place x at on. none place x (record { at = at; on = on })))) (as_first n stream m k)
