-- A datagram that was delivered is named again by its bytes.
use Rattle.std.proofs.Common.{◌≡◌, refl, sym, ap, ◌∙◌, subst, arith, tests, ℕ, zero, suc, ◌+◌, ◌-◌, ◌≤◌, ◌<◌, ◌^◌, ◌==◌, ◌&&◌, Bool, true, false, cond, List, [], ◌∷◌, ◌++◌, length, All, Option, None, Some, slice_get}
use Rattle.std.specs.List.{find}
use Rattle.std.specs.Prelude.{bytes_eq, get_or, nat_lt, position, sum_by}
use Rattle.std.proofs.lemmas.Bool.{and_from, and_parts, eq-eqb, eqb-true}
use Rattle.std.proofs.lemmas.List.Sums.{sum_by-cons}
use Rattle.std.proofs.lemmas.List.Quantifiers.{position-Some}
use Rattle.std.proofs.lemmas.Option.{none-some, same_Some, slice_get-get_or, slice_get_within, get_or_from_slice_get}
use Rattle.std.proofs.lemmas.Slice.Eq.{bytes_eq-Decides}
use Rattle.grasp_asa.proofs.Lists.{missed}
use Rattle.grasp_types.specs.Message.{IsMessage}
use Rattle.grasp_types.specs.declared.message.Message.{Message}
use Rattle.grasp_types.specs.declared.traffic.Input.{Input}
use Rattle.grasp_types.specs.declared.traffic.Input.TheVariants as input
use Rattle.grasp_wire.proofs.ShortestForm.{shortest_form}
use Rattle.grasp_wire.specs.Laws.{OneMessageForBytes}
use Rattle.grasp_wire.specs.Wire.{IsWireForm}
use Rattle.grasp_laws_delivery.proofs.Came.Inputs.{IsVisit, at_visit}
use Rattle.grasp_laws_delivery.proofs.Holding.{held_occurs}
use Rattle.grasp_laws_delivery.proofs.RangedNetworks.{all_sent_ranged}
use Rattle.grasp_laws_delivery.proofs.Received.{GoesToMember, all_go}
use Rattle.grasp_laws_network.proofs.Counted.{bytes_are_counted}
use Rattle.grasp_laws_network.proofs.GoodPlans.{not_zero}
use Rattle.grasp_laws_network.proofs.Growing.{what_was_sent_stays}
use Rattle.grasp_laws_network.specs.Lives.{LivesStand}
use Rattle.grasp_model_node.specs.Queue.{encoding}
use Rattle.grasp_model_network.specs.EventSteps.{after_delivery, answered_with, answers_in, datagram_at, datagram_visit}
use Rattle.grasp_model_network.specs.Events.{Occurs, after_event, after_visit, visit_of}
use Rattle.grasp_model_network.specs.Reports.{report_by, report_of}
use Rattle.grasp_model_network.specs.Runs.{IsReached}
use Rattle.grasp_model_network.specs.Sending.{stepped}
use Rattle.grasp_model_network.specs.Setting.{Setting, counted_from_1, numbered}
use Rattle.grasp_model_network.specs.Visits.{Choice, MayCome, Visit}
use Rattle.grasp_model_network.specs.World.{SentDatagram, WorldState, bytes_sent, datagram_bytes, is_too_much, member_of, most_bytes, present_life, stream_bytes}
use Rattle.grasp_model_network.specs.declared.event.Event.{Event}
use Rattle.grasp_model_network.specs.declared.event.Event.TheVariants as event
use Rattle.grasp_script.specs.Reports.{report_words}
use Rattle.grasp_record.specs.declared.line.RecordInput.TheVariants as took
use Rattle.grasp_model_audit.specs.Naming.{IsOfAgent, datagram_event, datagram_numbered, event_named, is_datagram, named_by}
use Rattle.grasp_model_audit.specs.Recording.{took_by}
use Rattle.grasp_laws_audit.proofs.Calls.{plain_by}
use Rattle.grasp_laws_audit.proofs.Present.{IsPresent}
use Rattle.grasp_laws_audit.proofs.Steps.{Steps, step_of, undrained_after}
use Rattle.grasp_laws_audit.specs.ReadBack.{input_read}

-- ---- lists

abbrev Sent : Type 0
Sent = List SentDatagram

-- the first that passes
record First (p : SentDatagram → Bool) (ds : Sent) : Type 0 where
  place : ℕ
  datagram : SentDatagram
  found : position p ds ≡ Some place
  stands : slice_get ds place ≡ Some datagram
  passes : p datagram ≡ true

within : (ds : Sent) (i : ℕ) (d : SentDatagram) → slice_get ds i ≡ Some d → i < length ds
within ds i d e = slice_get_within ds i d e

-- what passes is found
not_missed : (p : SentDatagram → Bool) (ds : Sent) (i : ℕ) (d : SentDatagram) → find p ds ≡ None → slice_get ds i ≡ Some d → p d ≡ true → ⊥
not_missed p [] i d none at passes = none-some d at
not_missed p (x ∷ xs) i d none at passes = by_first (p x) refl i at none (λ j here e. not_missed p xs j d e here passes) where
  by_first : (b : Bool) → p x ≡ b → (j : ℕ) → slice_get (x ∷ xs) j ≡ Some d → cond b (Some x) (find p xs) ≡ None → ((k : ℕ) → slice_get xs k ≡ Some d → find p xs ≡ None → ⊥) → ⊥
  by_first true first j here e rest = none-some x (sym e)
  by_first false first zero here e rest = let z : true ≡ false = sym passes ∙ (ap p (sym (same_Some x d here)) ∙ first) in absurd (cc)
  by_first false first (suc j) here e rest = rest j here e

first_of : (p : SentDatagram → Bool) (ds : Sent) (i : ℕ) (d : SentDatagram) → slice_get ds i ≡ Some d → p d ≡ true → First p ds
first_of p ds i d at passes = by_place (position p ds) refl where
  by_place : (o : Option ℕ) → position p ds ≡ o → First p ds
  by_place None none = absurd (not_missed p ds i d (missed p ds none) at passes)
  by_place (Some j) some =
      let h = position-Some p ds j d some in
      record { place = j; datagram = get_or ds j d; found = some; stands = slice_get-get_or ds j d h.0; passes = h.1 }

counted : (ds : Sent) (i : ℕ) (d : SentDatagram) → slice_get ds i ≡ Some d → datagram_bytes d ≤ sum_by datagram_bytes ds
counted [] i d e = absurd (none-some d e)
counted (x ∷ xs) zero d e =
    let c : sum_by datagram_bytes (x ∷ xs) ≡ datagram_bytes x + sum_by datagram_bytes xs = sum_by-cons datagram_bytes x xs in
    subst (λ (y : SentDatagram). datagram_bytes y ≤ sum_by datagram_bytes (x ∷ xs)) (same_Some x d e) (omega (arith, c))
counted (x ∷ xs) (suc i) d e =
    let c : sum_by datagram_bytes (x ∷ xs) ≡ datagram_bytes x + sum_by datagram_bytes xs = sum_by-cons datagram_bytes x xs in
    let h = counted xs i d e in
    omega (arith, c, h)

-- ---- messages

few_bytes : (n m total most big : ℕ) → n ≤ m → m ≤ total → nat_lt most total ≡ false → most < big → n < big
few_bytes n m total most big a b enough less = grind (arith, tests)

most_fit : most_bytes < 2 ^ 64
most_fit = omega arith

more_than : (a b c : ℕ) → a ≤ b → a ≤ b + c
more_than a b c h = omega (arith, h)

sent_counts : (w : WorldState) (n : ℕ) → n ≤ sum_by datagram_bytes w.datagrams → n ≤ bytes_sent w
unfolding bytes_sent
sent_counts w n h = more_than n (sum_by datagram_bytes w.datagrams) (sum_by stream_bytes w.streams) h

itself : (n : ℕ) → n ≤ n
itself n = omega arith

-- two messages of the same bytes are the same
one_message : OneMessageForBytes → (a b : Message) → IsMessage a → IsMessage b → length (encoding a) < 2 ^ 64 → encoding a ≡ encoding b → a ≡ b
one_message one a b x y few same =
    one a b (encoding a) (length (encoding a)) (shortest_form a (length (encoding a)) few x (itself (length (encoding a))))
    (subst (λ (bytes : List ℕ). IsWireForm b bytes (length (encoding a))) (sym same)
    (shortest_form b (length (encoding a)) few y (subst (λ (bytes : List ℕ). length bytes ≤ length (encoding a)) same (itself (length (encoding a))))))

-- ---- a datagram's line

one_less : (i : ℕ) → (i + 1) - 1 ≡ i
one_less i = omega arith

at_least_one : (i : ℕ) → 1 ≤ i + 1
at_least_one i = omega arith

pub number_of : (xs : Sent) (i : ℕ) → numbered xs (i + 1) ≡ slice_get xs i
number_of xs i = ap (λ (b : Bool). cond b None (slice_get xs ((i + 1) - 1))) (not_zero (i + 1) (at_least_one i)) ∙ ap (slice_get xs) (one_less i)

-- where it stands
at_place : (xs : Sent) (n : ℕ) (x : SentDatagram) → numbered xs n ≡ Some x → slice_get xs (n - 1) ≡ Some x
at_place xs n x e = by_zero (n == 0) refl where
  by_zero : (b : Bool) → (n == 0) ≡ b → slice_get xs (n - 1) ≡ Some x
  by_zero true is = absurd (none-some x (subst (λ z. cond z None (slice_get xs (n - 1)) ≡ Some x) is e))
  by_zero false is = subst (λ z. cond z None (slice_get xs (n - 1)) ≡ Some x) is e

-- the delivered datagram, and what it is
record Delivered (w : WorldState) (index : ℕ) (v : Visit) : Type 0 where
  datagram : SentDatagram
  found : numbered w.datagrams index ≡ Some datagram
  is : IsVisit v (present_life w datagram.route.receiver) (input.Datagram datagram.route.link datagram.route.from (encoding datagram.message))

delivered_is : (w : WorldState) (index : ℕ) (v : Visit) (o : Option SentDatagram) → numbered w.datagrams index ≡ o → datagram_at w o ≡ Some v → Delivered w index v
delivered_is w index v None found is = absurd (none-some v is)
delivered_is w index v (Some d) found is = record {
  datagram = d;
  found = found;
  is = at_visit w (present_life w d.route.receiver) (input.Datagram d.route.link d.route.from (encoding d.message)) v is;
}

-- the parts of the test
pub record Same (node link from : ℕ) (bytes : List ℕ) (d : SentDatagram) : Type 0 where
  pub receiver : d.route.receiver ≡ node
  pub link_is : d.route.link ≡ link
  pub from_is : d.route.from ≡ from
  pub bytes_are : encoding d.message ≡ bytes

pub same_parts : (node link from : ℕ) (bytes : List ℕ) (d : SentDatagram) → is_datagram node link from bytes d ≡ true → Same node link from bytes d
same_parts node link from bytes d e =
    let a = and_parts (d.route.receiver == node && d.route.link == link && d.route.from == from) (bytes_eq (encoding d.message) bytes) e in
    let b = and_parts (d.route.receiver == node && d.route.link == link) (d.route.from == from) a.0 in
    let c = and_parts (d.route.receiver == node) (d.route.link == link) b.0 in
    record {
      receiver = eqb-true d.route.receiver node c.0;
      link_is = eqb-true d.route.link link c.1;
      from_is = eqb-true d.route.from from b.1;
      bytes_are = (bytes_eq-Decides (encoding d.message) bytes).0 a.1;
    }

itself_passes : (d : SentDatagram) → is_datagram d.route.receiver d.route.link d.route.from (encoding d.message) d ≡ true
itself_passes d =
    let first = and_from (d.route.receiver == d.route.receiver) (d.route.link == d.route.link) (eq-eqb d.route.receiver d.route.receiver refl) (eq-eqb d.route.link d.route.link refl) in
    let more = and_from (d.route.receiver == d.route.receiver && d.route.link == d.route.link) (d.route.from == d.route.from) first (eq-eqb d.route.from d.route.from refl) in
    and_from (d.route.receiver == d.route.receiver && d.route.link == d.route.link && d.route.from == d.route.from) (bytes_eq (encoding d.message) (encoding d.message)) more ((bytes_eq-Decides (encoding d.message) (encoding d.message)).1 refl)

all_at : (P : SentDatagram → Type 0) (ds : Sent) → All P ds → (i : ℕ) (d : SentDatagram) → slice_get ds i ≡ Some d → P d
all_at P ds all i d at = subst P (get_or_from_slice_get ds i d d at) (all i d (within ds i d at))

module _ (one : OneMessageForBytes) (s : Setting) (w : WorldState) (r : IsReached s w) (stand : LivesStand s w) (v : Visit) (c : Choice) (p : IsPresent s w v) where
  pub datagram_steps : (nodes index : ℕ) (hold : Bool) → visit_of s w (event.Datagram index hold) ≡ Some v → Occurs s w (event.Datagram index hold) c
      → (n : ℕ) × Steps nodes s w (event.Datagram index hold) (event.Datagram n true) v c
  unfolding event_named report_of datagram_visit after_delivery answers_in
  datagram_steps nodes index hold is o = (
    first.place + 1,
    record {
      visits = is;
      occurs = o;
      is_step = tt;
      unclocked = tt;
      plain = plain_by v c (input.Datagram d.route.link d.route.from (encoding d.message)) delivered.is.input_is tt (step_of s w e v c is o);
      present = p;
      in_place = record {
        occurs = record {
          fit = tt;
          comes = subst (λ (y : Option Visit). MayCome y c) (is ∙ sym visits) o.comes;
          enough = subst (λ (y : WorldState). is_too_much y ≡ false) (undrained_after s w (event.Datagram index true) v c is refl ∙ sym after) (held_occurs s w e c v o is).enough;
        };
        after = after;
        answer = ap (λ (y : Option Visit). report_words (report_by w f c y)) visits;
      };
      named = λ now. ap (λ (i : Input). named_by s w node (input_read (took_by e i))) delivered.is.input_is ∙ named;
      of_agent = subst (λ (i : Input). IsOfAgent w node (input_read (took_by e i))) (sym delivered.is.input_is) tt;
    },
  )
    where
      e : Event
      e = event.Datagram index hold

      node : ℕ
      node = member_of w v.node

      delivered : Delivered w index v
      delivered = delivered_is w index v (numbered w.datagrams index) refl is

      d : SentDatagram
      d = delivered.datagram

      at : slice_get w.datagrams (index - 1) ≡ Some d
      at = at_place w.datagrams index d delivered.found

      first : First (is_datagram d.route.receiver d.route.link d.route.from (encoding d.message)) w.datagrams
      first = first_of (is_datagram d.route.receiver d.route.link d.route.from (encoding d.message)) w.datagrams (index - 1) d at (itself_passes d)

      parts : Same d.route.receiver d.route.link d.route.from (encoding d.message) first.datagram
      parts = same_parts d.route.receiver d.route.link d.route.from (encoding d.message) first.datagram first.passes

      few : length (encoding first.datagram.message) < 2 ^ 64
      few =
          let sum = counted w.datagrams first.place first.datagram first.stands in
          let all = bytes_are_counted.all s w r in
          let grows = (what_was_sent_stays s w e c).byte_count in
          few_bytes (length (encoding first.datagram.message)) w.byte_count (after_event s w e c).byte_count most_bytes (2 ^ 64)
          (subst (λ (n : ℕ). length (encoding first.datagram.message) ≤ n) (sym all) (sent_counts w (length (encoding first.datagram.message)) sum)) grows o.enough most_fit

      message_same : first.datagram.message ≡ d.message
      message_same =
          let ranged = all_at (λ x. IsMessage x.message) w.datagrams (all_sent_ranged s w r) in
          one_message one first.datagram.message d.message (ranged first.place first.datagram first.stands) (ranged (index - 1) d at) few parts.bytes_are

      same : first.datagram ≡ d
      same = (λ i. record { route = record { receiver = parts.receiver i; link = parts.link_is i; from = parts.from_is i }; message = message_same i })

      f : Event
      f = event.Datagram (first.place + 1) true

      found_same : numbered w.datagrams (first.place + 1) ≡ numbered w.datagrams index
      found_same = number_of w.datagrams first.place ∙ first.stands ∙ ap (λ (x : SentDatagram). Some x) same ∙ sym delivered.found

      visits : visit_of s w f ≡ Some v
      visits = ap (datagram_at w) found_same ∙ is

      after : after_event s w f c ≡ after_visit s w e v c
      after =
          undrained_after s w f v c visits refl
          ∙ ap (λ (x : Option SentDatagram). record (stepped w v c.after v.seat.agent) { answers = w.answers ++ answered_with (member_of w v.node) v c x }) found_same

      own : node ≡ d.route.receiver
      own = ap (λ k. member_of w k) delivered.is.node_is ∙ stand.own d.route.receiver (all_at (GoesToMember s) w.datagrams (all_go s w r) (index - 1) d at)

      named : named_by s w node (took.Datagram d.route.link d.route.from (encoding d.message)) ≡ Some f
      named =
          ap (λ (k : ℕ). datagram_event w k d.route.link d.route.from (encoding d.message)) own
          ∙ ap (λ (x : Option ℕ). datagram_numbered (counted_from_1 x)) first.found
