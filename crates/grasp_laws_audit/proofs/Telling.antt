-- What a line names is what came in, and a fault stands where it is told.
use Rattle.std.proofs.Common.{◌≡◌, refl, sym, ap, ◌∙◌, subst, arith, ℕ, ◌==◌, ◌+◌, ◌/◌, true, List, [], ◌∷◌, ◌++◌, length, Option, None, Some, append_assoc}
use Rattle.std.specs.Prelude.{bytes_eq, get_or, position}
use Rattle.std.proofs.lemmas.Bool.{and_parts, eqb-true, false≢true}
use Rattle.std.proofs.lemmas.List.{length-append}
use Rattle.std.proofs.lemmas.List.Quantifiers.{position-Some}
use Rattle.std.proofs.lemmas.Option.{cond_some, none-some, same_Some, slice_get-get_or}
use Rattle.std.proofs.lemmas.Slice.Eq.{bytes_eq-Decides}
use Rattle.grasp_types.proofs.Same.{same_address_decides}
use Rattle.grasp_types.specs.Same.{same_address}
use Rattle.grasp_types.specs.declared.address.Address.{Address}
use Rattle.grasp_types.specs.declared.call.Call.{Call}
use Rattle.grasp_types.specs.declared.message.Message.TheVariants.{Noop}
use Rattle.grasp_types.specs.declared.traffic.Input.{Input}
use Rattle.grasp_types.specs.declared.traffic.Input.TheVariants as input
use Rattle.grasp_model_network.specs.Events.{visit_of}
use Rattle.grasp_model_network.specs.Setting.{Setting, counted_from_1}
use Rattle.grasp_model_network.specs.Visits.{Visit}
use Rattle.grasp_model_network.specs.World.{Seat, SentDatagram, WorldState, present_life, seat_at}
use Rattle.grasp_model_network.specs.declared.event.Event.{Event}
use Rattle.grasp_model_network.specs.declared.event.Event.TheVariants as event
use Rattle.grasp_record.specs.declared.line.RecordInput.{RecordInput}
use Rattle.grasp_record.specs.declared.line.RecordInput.TheVariants as took
use Rattle.grasp_model_audit.specs.Audits.{FailsAt}
use Rattle.grasp_model_audit.specs.Faults.{Cause}
use Rattle.grasp_model_audit.specs.Lines.{AuditedLine, texts_of}
use Rattle.grasp_model_audit.specs.Naming.{IsNextCall, IsOfAgent, bytes_event, closing_event, datagram_numbered, event_named, if_brought, is_brought, is_datagram, is_taken, named_by, side_with}
use Rattle.grasp_laws_audit.proofs.Datagrams.{number_of, same_parts}
use Rattle.grasp_laws_audit.specs.Telling.{Brings, CallsNext, Delivers, HeldLinesTell, IsAtPlace, Takes}

-- ---- what a step takes

opened_is : (stream : ℕ) (from : Address) (i : Input) → is_taken (took.Opened stream from) i ≡ true → i ≡ input.Opened stream from
opened_is stream from (input.Opened number address) h =
    let both = and_parts (number == stream) (same_address address from) h in
    let numbers : number ≡ stream = eqb-true number stream both.0 in
    let addresses : address ≡ from = (same_address_decides address from).0 both.1 in
    ap (λ (n : ℕ). input.Opened n address) numbers ∙ ap (input.Opened stream) addresses
opened_is stream from (input.Api asa call) h = absurd (false≢true h)
opened_is stream from (input.Datagram link at bytes) h = absurd (false≢true h)
opened_is stream from (input.Bytes number bytes) h = absurd (false≢true h)
opened_is stream from (input.Closed number) h = absurd (false≢true h)
opened_is stream from (input.Drain max) h = absurd (false≢true h)

bytes_is : (stream : ℕ) (bytes : List ℕ) (i : Input) → is_taken (took.Bytes stream bytes) i ≡ true → i ≡ input.Bytes stream bytes
bytes_is stream bytes (input.Bytes number next) h =
    let both = and_parts (number == stream) (bytes_eq next bytes) h in
    let numbers : number ≡ stream = eqb-true number stream both.0 in
    let same : next ≡ bytes = (bytes_eq-Decides next bytes).0 both.1 in
    ap (λ (n : ℕ). input.Bytes n next) numbers ∙ ap (input.Bytes stream) same
bytes_is stream bytes (input.Api asa call) h = absurd (false≢true h)
bytes_is stream bytes (input.Datagram link at came) h = absurd (false≢true h)
bytes_is stream bytes (input.Opened number from) h = absurd (false≢true h)
bytes_is stream bytes (input.Closed number) h = absurd (false≢true h)
bytes_is stream bytes (input.Drain max) h = absurd (false≢true h)

closed_is : (stream : ℕ) (i : Input) → is_taken (took.Closed stream) i ≡ true → i ≡ input.Closed stream
closed_is stream (input.Closed number) h = ap input.Closed (eqb-true number stream h)
closed_is stream (input.Api asa call) h = absurd (false≢true h)
closed_is stream (input.Datagram link at came) h = absurd (false≢true h)
closed_is stream (input.Opened number from) h = absurd (false≢true h)
closed_is stream (input.Bytes number bytes) h = absurd (false≢true h)
closed_is stream (input.Drain max) h = absurd (false≢true h)

-- ---- what is brought

record IsBroughtBy (s : Setting) (w : WorldState) (node : ℕ) (i : RecordInput) (e : Event) : Type 0 where
  visit : Visit
  visits : visit_of s w e ≡ Some visit
  life : visit.node ≡ present_life w node
  taken : is_taken i visit.input ≡ true

by_visit : (s : Setting) (w : WorldState) (node : ℕ) (i : RecordInput) (e : Event) (o : Option Visit) → visit_of s w e ≡ o → is_brought w node i o ≡ true → IsBroughtBy s w node i e
by_visit s w node i e None is h = absurd (false≢true h)
by_visit s w node i e (Some v) is h =
    let both = and_parts (v.node == present_life w node) (is_taken i v.input) h in
    record { visit = v; visits = is; life = eqb-true v.node (present_life w node) both.0; taken = both.1 }

brought_by : (s : Setting) (w : WorldState) (node : ℕ) (i : RecordInput) (o : Option Event) (e : Event) → if_brought s w node i o ≡ Some e → IsBroughtBy s w node i e
brought_by s w node i None e h = absurd (none-some e h)
brought_by s w node i (Some f) e h =
    let both = cond_some (is_brought w node i (visit_of s w f)) f e h in
    subst (IsBroughtBy s w node i) both.1 (by_visit s w node i f (visit_of s w f) refl both.0)

takes : (s : Setting) (w : WorldState) (node : ℕ) (i : RecordInput) (j : Input) (e : Event) → ((x : Input) → is_taken i x ≡ true → x ≡ j) → IsBroughtBy s w node i e → Takes s w node j e
takes s w node i j e is b = record { visit = b.visit; visits = b.visits; life = b.life; input_is = is b.visit.input b.taken }

-- ---- what is delivered

nothing_sent : SentDatagram
nothing_sent = record { route = record { receiver = 0; link = 0; from = 0 }; message = Noop }

delivers : (w : WorldState) (node link from : ℕ) (bytes : List ℕ) (o : Option ℕ) (e : Event) → position (is_datagram node link from bytes) w.datagrams ≡ o
    → datagram_numbered (counted_from_1 o) ≡ Some e → Delivers w node link from bytes e
delivers w node link from bytes None e at h = absurd (none-some e h)
delivers w node link from bytes (Some i) e at h =
    let found = position-Some (is_datagram node link from bytes) w.datagrams i nothing_sent at in
    let same = same_parts node link from bytes (get_or w.datagrams i nothing_sent) found.1 in
    record {
      index = i + 1;
      is = sym (same_Some (event.Datagram (i + 1) true) e h);
      datagram = get_or w.datagrams i nothing_sent;
      sent = number_of w.datagrams i ∙ slice_get-get_or w.datagrams i nothing_sent found.0;
      receiver = same.receiver;
      link_is = same.link_is;
      from_is = same.from_is;
      bytes_are = same.bytes_are;
    }

named_brings : (s : Setting) (w : WorldState) (node : ℕ) (i : RecordInput) (e : Event) → named_by s w node i ≡ Some e → Brings s w node i e
named_brings s w node (took.Api asa call) e h = sym (same_Some _ e h)
named_brings s w node (took.Agent call) e h = sym (same_Some _ e h)
named_brings s w node (took.Want wanted longest peer) e h = sym (same_Some _ e h)
named_brings s w node (took.Return prefix peer) e h = sym (same_Some _ e h)
named_brings s w node (took.Datagram link from bytes) e h = delivers w node link from bytes (position (is_datagram node link from bytes) w.datagrams) e refl h
named_brings s w node (took.Opened stream from) e h =
    takes s w node (took.Opened stream from) (input.Opened stream from) e (opened_is stream from)
    (brought_by s w node (took.Opened stream from) (Some (event.Arrive (stream / 2 + 1) true)) e h)
named_brings s w node (took.Bytes stream bytes) e h =
    takes s w node (took.Bytes stream bytes) (input.Bytes stream bytes) e (bytes_is stream bytes)
    (brought_by s w node (took.Bytes stream bytes) (bytes_event (length bytes) (side_with w node stream)) e h)
named_brings s w node (took.Closed stream) e h =
    takes s w node (took.Closed stream) (input.Closed stream) e (closed_is stream) (brought_by s w node (took.Closed stream) (closing_event (side_with w node stream)) e h)
named_brings s w node (took.Drain max) e h = sym (same_Some _ e h)

-- ---- the agent's call

next_is : (w : WorldState) (node : ℕ) (call : Call) (o : Option Seat) → seat_at w (present_life w node) ≡ o → IsNextCall call o → CallsNext w node call
next_is w node call None here h = absurd h
next_is w node call (Some seat) here h = record { seat = seat; here = here; words = h }

-- ---- where a fault is

as_many : (ys : List AuditedLine) → length (texts_of ys) ≡ length ys
as_many [] = refl
as_many (y ∷ ys) = let rest = as_many ys in omega (arith, rest)

stands_there : (text : List ℕ) (cause : Cause) (number : ℕ) (f : FailsAt text cause number) → IsAtPlace text f.line number
stands_there text cause number f = record {
  front = f.header ++ texts_of f.before;
  rest = f.rest;
  parts = f.parts ∙ sym (append_assoc f.header (texts_of f.before) (f.line ∷ f.rest));
  place = f.place ∙ ap (λ (n : ℕ). n + 1) (ap (λ (n : ℕ). length f.header + n) (sym (as_many f.before)) ∙ sym (length-append f.header (texts_of f.before)));
}

pub held_lines_tell : HeldLinesTell
unfolding event_named
held_lines_tell = record {
  named = λ s w x e h. named_brings s w x.node x.input e h;
  in_time = λ nodes s w line x hs h. h.asks.names.means.in_time;
  own = λ nodes s w line x hs h call is.
      next_is w x.node call (seat_at w (present_life w x.node)) refl (subst (IsOfAgent w x.node) is h.asks.of_agent);
  faults = stands_there;
}
