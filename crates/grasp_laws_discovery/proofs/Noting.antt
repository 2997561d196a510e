-- A datagram that is delivered: what it carries was sent, and the answer to it is noted where the node has queued its own.
use Rattle.std.proofs.Common.{◌≡◌, refl, sym, ap, ◌∙◌, subst, ℕ, ◌<◌, ◌^◌, ◌-◌, ◌==◌, ◌&&◌, ◌||◌, Bool, true, false, cond, List, [], ◌∷◌, ◌++◌, drop, length, slice_get, Option, None, Some}
use Rattle.std.specs.List.{list_any}
use Rattle.std.specs.Prelude.{Any}
use Rattle.std.proofs.lemmas.Bool.{and_parts}
use Rattle.std.proofs.lemmas.List.Quantifiers.{Any-push}
use Rattle.std.proofs.lemmas.Option.{none-some, get_or_from_slice_get, slice_get_within}
use Rattle.grasp_asa.specs.Answers.{flags_registered}
use Rattle.grasp_asa.specs.Registrations.{Registrations}
use Rattle.grasp_laws_node.proofs.Remembered.{Begun, begun}
use Rattle.grasp_model_node.specs.Begin.{begin}
use Rattle.grasp_model_node.specs.Datagrams.{Carries, serves}
use Rattle.grasp_model_node.specs.FloodCalls.{wanted_flags}
use Rattle.grasp_model_node.specs.Queue.{Queued, encoding}
use Rattle.grasp_model_node.specs.declared.plan.NodePlan.{NodePlan}
use Rattle.grasp_discovery.specs.Topic.{kind_of}
use Rattle.grasp_types.specs.Message.{IsMessage}
use Rattle.grasp_types.specs.Objective.{has_disc, has_neg, has_synch, has_kind}
use Rattle.grasp_types.specs.declared.address.Address.{Address}
use Rattle.grasp_types.specs.declared.message.Message.{Message}
use Rattle.grasp_types.specs.declared.message.Message.TheVariants.{Discovery}
use Rattle.grasp_types.specs.declared.objective.Objective.{Objective}
use Rattle.grasp_types.specs.declared.session.Kind.{Kind}
use Rattle.grasp_types.specs.declared.session.Kind.TheVariants.{Negotiation, Synchronization}
use Rattle.grasp_model_node.specs.Step.{IsComing}
use Rattle.grasp_types.specs.declared.traffic.Input.TheVariants as input
use Rattle.grasp_wire.proofs.Dividing.{one_message}
use Rattle.grasp_wire.proofs.ShortestForm.{shortest_form}
use Rattle.grasp_laws_network.proofs.Here.{visits_are_here}
use Rattle.grasp_model_network.proofs.Facts.{numbered_all}
use Rattle.grasp_model_network.specs.EventSteps.{datagram_visit, datagram_at, is_own_answer, answers_to, answered_with, answers_in, after_delivery}
use Rattle.grasp_model_network.specs.Events.{visit_of}
use Rattle.grasp_laws_network.specs.Keeping.{WorldGrows}
use Rattle.grasp_model_network.specs.Runs.{IsReached}
use Rattle.grasp_model_network.specs.Sending.{gained}
use Rattle.grasp_model_network.specs.Setting.{Setting, numbered}
use Rattle.grasp_model_network.specs.Visits.{Visit, Choice, VisitStep}
use Rattle.grasp_model_network.specs.World.{SentDatagram, DiscoveryAnswer, WorldState, present_life, member_of}
use Rattle.grasp_model_network.specs.declared.event.Event.TheVariants as event
use Rattle.grasp_laws_delivery.proofs.Given.{limit_is, few_limit}
use Rattle.grasp_laws_delivery.proofs.Came.Inputs.{at_visit}
use Rattle.grasp_laws_floods.proofs.Members.{HasMember}
use Rattle.grasp_laws_floods.specs.Sought.{Sought, IsMessageSought}
use Rattle.grasp_laws_delivery.specs.Divided.{IsSentMessage, DatagramsAreMessages}
use Rattle.grasp_laws_discovery.proofs.Discovering.{topic_in}
use Rattle.grasp_laws_discovery.proofs.Longer.{looked_longer}
use Rattle.grasp_laws_discovery.proofs.Real.{IsNoted, IsCarriedReal}
use Rattle.grasp_laws_discovery.specs.Locators.{IsAnswerWith, WasAnswered, LooksFor, WasLookedFor}

-- ---- flags that serve a discovery

both_flags : (disc neg synch asked_neg asked_synch : Bool) → (disc && ((neg && asked_neg) || (synch && asked_synch))) ≡ true → (disc ≡ true) × (((neg && asked_neg) || (synch && asked_synch)) ≡ true)
both_flags disc neg synch asked_neg asked_synch e = and_parts disc ((neg && asked_neg) || (synch && asked_synch)) e

first_flag : (neg synch : Bool) → ((neg && true) || (synch && false)) ≡ true → neg ≡ true
first_flag true synch e = refl
first_flag false true e = absurd (cc)
first_flag false false e = absurd (cc)

second_flag : (neg synch : Bool) → ((neg && false) || (synch && true)) ≡ true → synch ≡ true
second_flag true true e = refl
second_flag false true e = refl
second_flag true false e = absurd (cc)
second_flag false false e = absurd (cc)

-- a discovery of one use alone is served by flags of this use
served_by : (kind : Kind) (flags : ℕ) → serves (wanted_flags kind) (Some flags) ≡ true → (has_disc flags ≡ true) × (has_kind flags kind ≡ true)
served_by Negotiation flags e =
    let both = both_flags (has_disc flags) (has_neg flags) (has_synch flags) true false e in
    (both.0, first_flag (has_neg flags) (has_synch flags) both.1)
served_by Synchronization flags e =
    let both = both_flags (has_disc flags) (has_neg flags) (has_synch flags) false true e in
    (both.0, second_flag (has_neg flags) (has_synch flags) both.1)

-- ---- an answer that is noted

abbrev pub answer_of : WorldState → Visit → Objective → DiscoveryAnswer
answer_of w v o = record { node = member_of w v.node; objective = o; flags = flags_registered v.seat.core.registrations o.name }

pub answer_is : (s : Setting) (w : WorldState) (v : Visit) (o : Objective) → HasMember s w v.node v.seat.core → o.flags ≡ wanted_flags (kind_of o.flags) → serves o.flags (flags_registered v.seat.core.registrations o.name) ≡ true
    → IsAnswerWith s (topic_in o) v.seat.core.plan.locator (answer_of w v o)
answer_is s w v o m wanted serving = by_flags (flags_registered v.seat.core.registrations o.name) refl (subst (λ f. serves f (flags_registered v.seat.core.registrations o.name) ≡ true) wanted serving) where
  by_flags : (f : Option ℕ) → flags_registered v.seat.core.registrations o.name ≡ f → serves (wanted_flags (kind_of o.flags)) f ≡ true → IsAnswerWith s (topic_in o) v.seat.core.plan.locator (answer_of w v o)
  by_flags None is e = absurd (cc)
  by_flags (Some flags) is e =
      let by = served_by (kind_of o.flags) flags e in
      record {
        member = m.member;
        answered_by = m.found;
        locator_is = ap (λ p. p.locator) m.plan;
        topic_is = refl;
        flags = flags;
        registered = is;
        discoverable = by.0;
        served = by.1;
      }

pub noted_answers : (w : WorldState) (v : Visit) (c : Choice) (d : SentDatagram) (session : ℕ) (initiator : Address) (o : Objective) → d.message ≡ Discovery session initiator o
    → list_any is_own_answer (gained v.seat.core c.after) ≡ true → answered_with (member_of w v.node) v c (Some d) ≡ answer_of w v o ∷ []
noted_answers w v c d session initiator o is own = ap (λ b. cond b (answers_to (member_of w v.node) v d.message) []) own ∙ ap (answers_to (member_of w v.node) v) is

-- what the delivery notes
pub delivery_answers : (w : WorldState) (v : Visit) (index : ℕ) (c : Choice) → (after_delivery w v index c).answers ≡ w.answers ++ answered_with (member_of w v.node) v c (numbered w.datagrams index)
unfolding after_delivery answers_in
delivery_answers w v index c = refl

was_noted : (s : Setting) (w : WorldState) (v : Visit) (index : ℕ) (c : Choice) (d : SentDatagram) (session : ℕ) (initiator : Address) (o : Objective) → HasMember s w v.node v.seat.core
    → numbered w.datagrams index ≡ Some d → d.message ≡ Discovery session initiator o → o.flags ≡ wanted_flags (kind_of o.flags) → list_any is_own_answer (gained v.seat.core c.after) ≡ true
    → serves o.flags (flags_registered v.seat.core.registrations o.name) ≡ true → WasAnswered s (after_delivery w v index c) (topic_in o) v.seat.core.plan.locator
was_noted s w v index c d session initiator o m found is wanted own serving =
    subst (Any (IsAnswerWith s (topic_in o) v.seat.core.plan.locator))
    (sym (delivery_answers w v index c ∙ ap (λ more. w.answers ++ more) (ap (answered_with (member_of w v.node) v c) found ∙ noted_answers w v c d session initiator o is own)))
    (Any-push (IsAnswerWith s (topic_in o) v.seat.core.plan.locator) w.answers (answer_of w v o) (answer_is s w v o m wanted serving))

-- ---- what a datagram carries

-- the message that was sent, or none
abbrev pub IsCarriedAs : Message → Option Message → Type 0
IsCarriedAs d None = Unit {0}
IsCarriedAs d (Some m) = d ≡ m

carried_as : (limit : ℕ) (d : Message) (o : Option Message) → limit < 2 ^ 64 → IsMessage d → Carries limit (encoding d) o → IsCarriedAs d o
carried_as limit d None small is c = tt
carried_as limit d (Some m) small is c = one_message d m (encoding d) limit (shortest_form d limit small is c.fits) c

-- what has a number is one of them
pub numbered_any : {X : Type 0} (P : X → Type 0) (xs : List X) (n : ℕ) (x : X) → numbered xs n ≡ Some x → P x → Any P xs
numbered_any {X} P xs n x e p = by_zero (n == 0) e where
  by_zero : (b : Bool) → cond b None (slice_get xs (n - 1)) ≡ Some x → Any P xs
  by_zero true f = absurd (none-some x f)
  by_zero false f = (n - 1, x, slice_get_within xs (n - 1) x f, get_or_from_slice_get xs (n - 1) x x f, p)

-- the datagram that a delivery brings, of which the node reads the message that was sent
pub record Brings (w : WorldState) (index : ℕ) (v : Visit) (c : Choice) : Type 0 where
  pub sent : SentDatagram
  pub found : numbered w.datagrams index ≡ Some sent
  pub input_is : v.input ≡ input.Datagram sent.route.link sent.route.from (encoding sent.message)
  pub carried : IsCarriedAs sent.message c.coming.carried

pub brings_it : DatagramsAreMessages → (s : Setting) (w : WorldState) → IsReached s w → (index : ℕ) (hold : Bool) (v : Visit) (c : Choice) → visit_of s w (event.Datagram index hold) ≡ Some v → VisitStep v c
    → Brings w index v c
unfolding datagram_visit
brings_it messages s w r index hold v c is step = by_datagram (numbered w.datagrams index) refl is where
  limit : (begin v.seat.core v.now).plan.limit < 2 ^ 64
  limit =
      subst (λ n. n < 2 ^ 64) (sym (ap (λ p. p.limit) (begun v.seat.core v.now).plan ∙ limit_is s w r v.node v.seat (visits_are_here s w (event.Datagram index hold) v is).stands))
      (few_limit r.good.limit r.good.most_limit)

  with_datagram : (d : SentDatagram) → numbered w.datagrams index ≡ Some d → v.input ≡ input.Datagram d.route.link d.route.from (encoding d.message) → Brings w index v c
  with_datagram d found brings = record {
    sent = d;
    found = found;
    input_is = brings;
    carried = carried_as (begin v.seat.core v.now).plan.limit d.message c.coming.carried limit
        (numbered_all (λ (x : SentDatagram). IsSentMessage x.message) w.datagrams index d (messages s w r) found).is_message
        (subst (λ i. IsComing (begin v.seat.core v.now) i c.coming) brings step.steps.is_coming);
  }

  by_datagram : (o : Option SentDatagram) → numbered w.datagrams index ≡ o → datagram_at w o ≡ Some v → Brings w index v c
  by_datagram None found e = absurd (none-some v e)
  by_datagram (Some d) found e = with_datagram d found (at_visit w (present_life w d.route.receiver) (input.Datagram d.route.link d.route.from (encoding d.message)) v e).input_is

-- what is carried is real in the network after the delivery
module _ (s : Setting) (w : WorldState) (v : Visit) (c : Choice) (index : ℕ) (d : SentDatagram) (sought : List Sought) where
  abbrev delivered : WorldState
  delivered = after_delivery w v index c

  looked_for : (session : ℕ) (initiator : Address) (o : Objective) → numbered w.datagrams index ≡ Some d → d.message ≡ Discovery session initiator o → WasLookedFor w session initiator (topic_in o)
  looked_for session initiator o found same =
      numbered_any (λ (x : SentDatagram). LooksFor session initiator (topic_in o) x.message) w.datagrams index d found (subst (LooksFor session initiator (topic_in o)) (sym same) (refl, refl, refl))

  begun_noted : (session : ℕ) (initiator : Address) (o : Objective) → HasMember s w v.node v.seat.core → Begun v.seat.core (begin v.seat.core v.now) v.now → numbered w.datagrams index ≡ Some d
      → d.message ≡ Discovery session initiator o → IsMessageSought w sought d.message → IsNoted s delivered (begin v.seat.core v.now) o c.after
  begun_noted session initiator o m b found same is own serving =
      subst (λ (p : NodePlan). WasAnswered s delivered (topic_in o) p.locator) (sym b.plan)
      (was_noted s w v index c d session initiator o m found same (subst (IsMessageSought w sought) same is).flags
      (subst (λ (q : List Queued). list_any is_own_answer (drop (length q) c.after.queue) ≡ true) b.queue own)
      (subst (λ (r : Registrations). serves o.flags (flags_registered r o.name) ≡ true) b.registrations serving))

  pub carried_real : (m : Option Message) → HasMember s w v.node v.seat.core → WorldGrows w delivered → numbered w.datagrams index ≡ Some d → IsMessageSought w sought d.message → IsCarriedAs d.message m
      → IsCarriedReal s delivered (begin v.seat.core v.now) m c.after
  carried_real (Some (Discovery session initiator o)) m g found is same = (
    looked_longer w delivered g session initiator (topic_in o) (looked_for session initiator o found same),
    begun_noted session initiator o m (begun v.seat.core v.now) found same is,
  )
  carried_real _ m g found is same = tt
