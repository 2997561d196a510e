-- What a session makes of a message that comes.
use Rattle.std.proofs.Common.{◌≡◌, ◌≢◌, ◌<◌, inl, inr, ℕ, ◌==◌, nat_lt, Bool, true, false, cond, not, ◌&&◌, refl, sym, ap, ◌∙◌}
use Rattle.std.specs.Bool.{Decides}
use Rattle.std.specs.Str.{bytes_eq}
use Rattle.std.proofs.lemmas.Bool.{false≢true, not-true}
use Rattle.std.proofs.lemmas.Bool.Decides.{Decides-and, Decides-eqb, Decides-like, Decides-ltb, not_from_Decides}
use Rattle.std.proofs.lemmas.Slice.Eq.{bytes_eq-Decides}
use Rattle.grasp_types.specs.declared.message.Message.{Message}
use Rattle.grasp_types.specs.declared.message.Message.TheVariants.{Noop, Discovery, Response, ReqNeg, ReqSyn, Negotiate, End, Wait, Synch, Flood, Invalid}
use Rattle.grasp_types.specs.declared.message.Verdict.{Verdict}
use Rattle.grasp_types.specs.declared.message.Verdict.TheVariants.{Accept, Decline}
use Rattle.grasp_types.specs.declared.objective.Objective.{Objective}
use Rattle.grasp_types.specs.declared.session.Kind.{Kind}
use Rattle.grasp_types.specs.declared.session.Kind.TheVariants.{Negotiation, Synchronization}
use Rattle.grasp_session.specs.declared.answer.Received.{Received}
use Rattle.grasp_session.specs.declared.answer.Received.TheVariants.{Kept, Ignored, Bad}
use Rattle.grasp_session.specs.Transcript.{Transcript, session_of, request_of, last_offer, waits_of, is_mine, is_going, is_awaited, is_good_step, is_negotiation, may_end, receive_going}
use Rattle.grasp_laws_tables.proofs.SynchronizationLaws.{heard}
use Rattle.grasp_laws_receiving.specs.Receiving.{IsInTurn, IsStep, IsEnd, IsKept, Receives, MessagesAreReceived}

-- ---- tests

negotiates : (kind : Kind) → Decides (is_negotiation kind) (kind ≡ Negotiation)
negotiates Negotiation = (λ e. refl, λ e. refl)
negotiates Synchronization = (λ e. absurd (false≢true e), λ e. ap is_negotiation e)

is_no : (b : Bool) → Decides (not b) (b ≡ false)
is_no b = (not-true b, λ e. ap not e)

in_turn : (v : Transcript) (n : ℕ) → Decides (is_awaited v n) (IsInTurn v n)
in_turn v n =
    Decides-like (is_awaited v n) (λ p. record { number = p.0; turn = p.1 }) (λ t. (t.number, t.turn))
    (Decides-and (n == session_of v) (not (is_mine v)) (Decides-eqb n (session_of v)) (is_no (is_mine v)))

good_step : (v : Transcript) (o : Objective) → Decides (is_good_step v o) ((((o.name ≡ (request_of v).name) × (o.flags ≡ (request_of v).flags)) × (0 < o.loops)) × (o.loops < (last_offer v).loops))
good_step v o =
    Decides-and (bytes_eq o.name (request_of v).name && (o.flags == (request_of v).flags) && nat_lt 0 o.loops) (nat_lt o.loops (last_offer v).loops)
    (Decides-and (bytes_eq o.name (request_of v).name && (o.flags == (request_of v).flags)) (nat_lt 0 o.loops)
    (Decides-and (bytes_eq o.name (request_of v).name) (o.flags == (request_of v).flags) (bytes_eq-Decides o.name (request_of v).name) (Decides-eqb o.flags (request_of v).flags))
    (Decides-ltb 0 o.loops))
    (Decides-ltb o.loops (last_offer v).loops)

step : (v : Transcript) (n : ℕ) (o : Objective) → Decides (is_negotiation v.kind && (is_awaited v n && is_good_step v o)) (IsStep v n o)
step v n o =
    Decides-like (is_negotiation v.kind && (is_awaited v n && is_good_step v o))
    (λ p. record { kind = p.0; in_turn = p.1.0; name = p.1.1.0.0.0; flags = p.1.1.0.0.1; some = p.1.1.0.1; fewer = p.1.1.1 })
    (λ s. (s.kind, (s.in_turn, (((s.name, s.flags), s.some), s.fewer))))
    (Decides-and (is_negotiation v.kind) (is_awaited v n && is_good_step v o) (negotiates v.kind) (Decides-and (is_awaited v n) (is_good_step v o) (in_turn v n) (good_step v o)))

ends : (v : Transcript) (n : ℕ) (verdict : Verdict) → Decides (may_end v.kind verdict && is_awaited v n) (IsEnd v n verdict)
ends v n Accept = Decides-and (is_negotiation v.kind) (is_awaited v n) (negotiates v.kind) (in_turn v n)
ends v n (Decline reason) = in_turn v n

waits : (v : Transcript) (n : ℕ) → Decides (is_awaited v n && nat_lt (waits_of v) 4) (IsInTurn v n × (waits_of v < 4))
waits v n = Decides-and (is_awaited v n) (nat_lt (waits_of v) 4) (in_turn v n) (Decides-ltb (waits_of v) 4)

-- ---- a session that goes on

-- what a session that goes on makes of it, where this is what it keeps
abbrev ReceivesGoing : Type 0 → Message → Received → Type 0
ReceivesGoing Keeps m Kept = Keeps
ReceivesGoing Keeps m Ignored = m ≡ Noop
ReceivesGoing Keeps m Bad = (m ≢ Noop) × ¬ Keeps

-- ... and the other way round
abbrev Exactly : Type 0 → Message → Received → Type 0
Exactly Keeps m got = (r : Received) → (got ≡ r → ReceivesGoing Keeps m r) × (ReceivesGoing Keeps m r → got ≡ r)

by_test : {P : Type 0} (m : Message) (b : Bool) → m ≢ Noop → Decides b P → Exactly P m (cond b Kept Bad)
by_test m true other d Kept = (λ e. d.0 refl, λ p. refl)
by_test m true other d Ignored = (λ e. absurd (cc), λ e. absurd (other e))
by_test m true other d Bad = (λ e. absurd (cc), λ h. absurd (h.1 (d.0 refl)))
by_test m false other d Kept = (λ e. absurd (cc), λ p. absurd (false≢true (d.1 p)))
by_test m false other d Ignored = (λ e. absurd (cc), λ e. absurd (other e))
by_test m false other d Bad = (λ e. (other, not_from_Decides false d refl), λ h. refl)

never : (m : Message) → m ≢ Noop → Exactly ⊥ m Bad
never m other Kept = (λ e. absurd (cc), λ p. absurd p)
never m other Ignored = (λ e. absurd (cc), λ e. absurd (other e))
never m other Bad = (λ e. (other, λ p. p), λ h. refl)

synch : (v : Transcript) (n : ℕ) (o : Objective) → is_going v ≡ true
    → Decides (not (is_negotiation v.kind) && (is_awaited v n && bytes_eq o.name (request_of v).name)) (IsKept v (Synch n o))
synch v n o going = (λ e. (heard v n o).kept.0 (ap (λ b. cond b (cond test Kept Bad) Ignored) going ∙ ap (λ b. cond b Kept Bad) e), λ a. of_test test (sym (ap (λ b. cond b (cond test Kept Bad) Ignored) going) ∙ (heard v n o).kept.1 a)) where
  test : Bool
  test = not (is_negotiation v.kind) && (is_awaited v n && bytes_eq o.name (request_of v).name)

  of_test : (b : Bool) → cond b Kept Bad ≡ Kept → b ≡ true
  of_test true e = refl
  of_test false e = absurd (cc)

going : (v : Transcript) (m : Message) → is_going v ≡ true → Exactly (IsKept v m) m (receive_going v m)
going v (Negotiate n o) g = by_test (Negotiate n o) (is_negotiation v.kind && (is_awaited v n && is_good_step v o)) (λ e. cc) (step v n o)
going v (Wait n millis) g = by_test (Wait n millis) (is_awaited v n && nat_lt (waits_of v) 4) (λ e. cc) (waits v n)
going v (End n verdict) g = by_test (End n verdict) (may_end v.kind verdict && is_awaited v n) (λ e. cc) (ends v n verdict)
going v (Synch n o) g = by_test (Synch n o) (not (is_negotiation v.kind) && (is_awaited v n && bytes_eq o.name (request_of v).name)) (λ e. cc) (synch v n o g)
going v (Invalid n d) g = by_test (Invalid n d) true (λ e. cc) (λ e. tt, λ u. refl)
going v Noop g = noop where
  noop : Exactly ⊥ Noop Ignored
  noop Kept = (λ e. absurd (cc), λ p. absurd p)
  noop Ignored = (λ e. refl, λ e. refl)
  noop Bad = (λ e. absurd (cc), λ h. absurd (h.0 refl))
going v (Discovery session initiator o) g = never (Discovery session initiator o) (λ e. cc)
going v (Response session initiator ttl told o) g = never (Response session initiator ttl told o) (λ e. cc)
going v (ReqNeg session o) g = never (ReqNeg session o) (λ e. cc)
going v (ReqSyn session o) g = never (ReqSyn session o) (λ e. cc)
going v (Flood session initiator ttl parts) g = never (Flood session initiator ttl parts) (λ e. cc)

-- ---- any session

with_going : (v : Transcript) (m : Message) (r : Received) → is_going v ≡ true → ReceivesGoing (IsKept v m) m r → Receives v m r
with_going v m Kept g k = (g, k)
with_going v m Ignored g e = inr e
with_going v m Bad g h = (g, h.0, h.1)

of_going : (v : Transcript) (m : Message) (r : Received) → is_going v ≡ true → Receives v m r → ReceivesGoing (IsKept v m) m r
of_going v m Kept g h = h.1
of_going v m Ignored g (inl e) = absurd (false≢true (sym e ∙ g))
of_going v m Ignored g (inr e) = e
of_going v m Bad g h = (h.1, h.2)

over : (v : Transcript) (m : Message) (r : Received) → is_going v ≡ false → Receives v m r → Ignored ≡ r
over v m Kept f h = absurd (false≢true (sym f ∙ h.0))
over v m Ignored f h = refl
over v m Bad f h = absurd (false≢true (sym f ∙ h.0))

is_over : (v : Transcript) (m : Message) (r : Received) → is_going v ≡ false → Ignored ≡ r → Receives v m r
is_over v m Kept f e = absurd (cc)
is_over v m Ignored f e = inl f
is_over v m Bad f e = absurd (cc)

by_going : (v : Transcript) (m : Message) (r : Received) (b : Bool) → is_going v ≡ b → (cond b (receive_going v m) Ignored ≡ r → Receives v m r) × (Receives v m r → cond b (receive_going v m) Ignored ≡ r)
by_going v m r true g = (λ e. with_going v m r g ((going v m g r).0 e), λ h. (going v m g r).1 (of_going v m r g h))
by_going v m r false g = (λ e. is_over v m r g e, λ h. over v m r g h)

pub messages_are_received : MessagesAreReceived
messages_are_received v m r = by_going v m r (is_going v) refl
