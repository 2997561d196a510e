-- What was delivered is named again by what came in.
use Rattle.std.proofs.Common.{◌≡◌, refl, sym, ap, ◌∙◌, subst, arith, tests, ℕ, ◌+◌, ◌-◌, ◌*◌, ◌/◌, ◌≤◌, ◌==◌, Bool, true, false, if◌then◌else◌, List, length, Option, None, Some}
use Rattle.std.specs.Prelude.{bytes_eq, find}
use Rattle.std.proofs.lemmas.Bool.{and_from, eq-eqb}
use Rattle.std.proofs.lemmas.Option.{none-some, same_Some}
use Rattle.std.proofs.lemmas.Slice.Eq.{bytes_eq-Decides}
use Rattle.grasp_types.proofs.Same.{same_address_decides}
use Rattle.grasp_types.specs.Same.{same_address}
use Rattle.grasp_types.specs.declared.address.Address.{Address}
use Rattle.grasp_types.specs.declared.traffic.Input.{Input}
use Rattle.grasp_types.specs.declared.traffic.Input.TheVariants as input
use Rattle.grasp_session.specs.Messages.{other}
use Rattle.grasp_laws_delivery.proofs.Came.Inputs.{IsOpening, IsReaching, cut_is, opening_is, piece_is}
use Rattle.grasp_laws_delivery.proofs.FromReady.{every_at}
use Rattle.grasp_laws_delivery.proofs.Heard.Steps.{reached_is}
use Rattle.grasp_laws_delivery.proofs.Holding.{held_occurs}
use Rattle.grasp_laws_delivery.proofs.OnePlace.{numbered_place}
use Rattle.grasp_laws_delivery.specs.Ready.{HasGoodEnds, HasGoodNumber, StreamsAreReady}
use Rattle.grasp_model_network.specs.EventSteps.{after_piece, piece_at, piece_visit}
use Rattle.grasp_model_network.specs.Events.{Occurs, after_event, after_visit, visit_of}
use Rattle.grasp_model_network.specs.Reports.{report_by, report_of}
use Rattle.grasp_model_network.specs.Runs.{IsReached}
use Rattle.grasp_model_network.specs.Sending.{stepped}
use Rattle.grasp_model_network.specs.Setting.{Setting, script_setting}
use Rattle.grasp_model_network.specs.StreamChanges.{Reached, delivered, reached_side, side_named}
use Rattle.grasp_model_network.specs.Streams.{StreamState, has_end, next_bytes, stream_numbered}
use Rattle.grasp_model_network.specs.Visits.{Choice, MayCome, Visit, visit}
use Rattle.grasp_model_network.specs.World.{WorldState, end_of, is_too_much, member_of, present_life}
use Rattle.grasp_model_network.specs.declared.event.Event.{Event}
use Rattle.grasp_model_network.specs.declared.event.Event.TheVariants as event
use Rattle.grasp_model_network.specs.declared.plan.WorldPlan.{WorldPlan}
use Rattle.grasp_script.specs.Reports.{report_words}
use Rattle.grasp_record.specs.declared.line.RecordInput.{RecordInput}
use Rattle.grasp_record.specs.declared.line.RecordInput.TheVariants as took
use Rattle.grasp_model_audit.specs.Naming.{IsOfAgent, NamedSide, bytes_event, closing_event, event_named, if_brought, is_brought, is_taken, named_by, side_in, side_with}
use Rattle.grasp_model_audit.specs.Recording.{took_by}
use Rattle.grasp_laws_audit.proofs.Calls.{plain_by}
use Rattle.grasp_laws_audit.proofs.Present.{IsPresent}
use Rattle.grasp_laws_audit.proofs.Sides.{delivered_again, far_again, numbered_so, side_again, side_of, take_again}
use Rattle.grasp_laws_audit.proofs.Steps.{Steps, step_of, undrained_after}
use Rattle.grasp_laws_audit.specs.ReadBack.{input_read}

-- ---- what comes in is what came in

same_number : (n : ℕ) → (n == n) ≡ true
same_number n = eq-eqb n n refl

same_bytes : (bytes : List ℕ) → bytes_eq bytes bytes ≡ true
same_bytes bytes = (bytes_eq-Decides bytes bytes).1 refl

itself_address : (a : Address) → same_address a a ≡ true
itself_address a = (same_address_decides a a).1 refl

-- an event whose step is this one is brought, where the node is this and what comes in is taken
brought : (s : Setting) (w : WorldState) (node : ℕ) (i : RecordInput) (f : Event) (v : Visit) → visit_of s w f ≡ Some v → present_life w node ≡ v.node → is_taken i v.input ≡ true
    → if_brought s w node i (Some f) ≡ Some f
brought s w node i f v is own taken =
    ap (λ (o : Option Visit). if is_brought w node i o then Some f else None) is
    ∙ ap (λ (b : Bool). if b then Some f else None) (and_from (v.node == present_life w node) (is_taken i v.input) (eq-eqb v.node (present_life w node) (sym own)) taken)

-- ---- arrivals

half_again : (k : ℕ) → 1 ≤ k → (2 * k - 1) / 2 + 1 ≡ k
half_again k least = grind (arith, tests)

good_number : (dials k : ℕ) (o : Option ℕ) → HasGoodNumber dials o → o ≡ Some k → 1 ≤ k
good_number dials k None g e = absurd (none-some k e)
good_number dials k (Some n) g e = subst (λ m. 1 ≤ m) (same_Some n k e) g.0

module _ (ready : StreamsAreReady) (plan : WorldPlan) (w : WorldState) (r : IsReached (script_setting plan) w) (v : Visit) (c : Choice) (p : IsPresent (script_setting plan) w v) where
  abbrev s : Setting
  s = script_setting plan

  counted : (k : ℕ) (t : StreamState) → stream_numbered w.streams k ≡ Some t → 1 ≤ k
  counted k t found =
      let at = numbered_place k w.streams t found in
      let ends = every_at (λ x. HasGoodEnds s (length w.seats) w.dials x.near x.number x.far) w.streams (ready.ends s w r) at.place t at.stands in
      good_number w.dials k t.number ends.dialled (numbered_so k w.streams t found)

  pub arrival_steps : (nodes k : ℕ) (hold : Bool) → visit_of s w (event.Arrive k hold) ≡ Some v → Occurs s w (event.Arrive k hold) c → Steps nodes s w (event.Arrive k hold) (event.Arrive k true) v c
  unfolding event_named report_of script_setting
  arrival_steps nodes k hold is o = record {
    visits = is;
    occurs = o;
    is_step = tt;
    unclocked = tt;
    plain = plain_by v c came opening.is.input_is tt (step_of s w e v c is o);
    present = p;
    in_place = record {
      occurs = held_occurs s w e c v o is;
      after = undrained_after s w (event.Arrive k true) v c is refl;
      answer = ap (λ (x : Option Visit). report_words (report_by w (event.Arrive k true) c x)) is;
    };
    named = λ now. ap (λ (i : Input). named_by s w (member_of w v.node) (input_read (took_by e i))) opening.is.input_is ∙ named;
    of_agent = subst (λ (i : Input). IsOfAgent w (member_of w v.node) (input_read (took_by e i))) (sym opening.is.input_is) tt;
  }
    where
      e : Event
      e = event.Arrive k hold

      opening : IsOpening s w k v
      opening = opening_is s w k v is

      from : Address
      from = s.arrives_from k opening.near.core.plan.address

      came : Input
      came = input.Opened (s.arrives_as v.node k) from

      again : (2 * k - 1) / 2 + 1 ≡ k
      again = half_again k (counted k opening.talk opening.found)

      taken : is_taken (took.Opened (s.arrives_as v.node k) from) v.input ≡ true
      taken =
          ap (is_taken (took.Opened (s.arrives_as v.node k) from)) opening.is.input_is
          ∙ and_from (s.arrives_as v.node k == s.arrives_as v.node k) (same_address from from) (same_number (s.arrives_as v.node k)) (itself_address from)

      named : named_by s w (member_of w v.node) (took.Opened (s.arrives_as v.node k) from) ≡ Some (event.Arrive k true)
      named =
          ap (λ (n : ℕ). if_brought s w (member_of w v.node) (took.Opened (s.arrives_as v.node k) from) (Some (event.Arrive n true))) again
          ∙ brought s w (member_of w v.node) (took.Opened (s.arrives_as v.node k) from) (event.Arrive k true) v is p.life taken

-- ---- bytes and closings

module _ (ready : StreamsAreReady) (s : Setting) (w : WorldState) (r : IsReached s w) (v : Visit) (c : Choice) (p : IsPresent s w v) where
  -- the side is found by the number that the stream has at the node of the step
  side_named_again : (k : ℕ) (far : Bool) (x : Reached) → reached_side w k (side_named far) ≡ Some x → v.node ≡ x.at.node → side_with w (member_of w v.node) x.at.number ≡ Some (side_of k far)
  side_named_again k far x found is =
      ap (λ (n : ℕ). side_in (end_of n x.at.number) (find (has_end (end_of n x.at.number)) w.streams)) (p.life ∙ is)
      ∙ side_again ready s w r k (side_named far) x (reached_is w k (side_named far) x found)
      ∙ ap (λ (b : Bool). Some (side_of k b)) (far_again far)

  pub cut_steps : (nodes k : ℕ) (far hold : Bool) → visit_of s w (event.Cut k far hold) ≡ Some v → Occurs s w (event.Cut k far hold) c → Steps nodes s w (event.Cut k far hold) (event.Cut k far true) v c
  unfolding event_named report_of
  cut_steps nodes k far hold is o = record {
    visits = is;
    occurs = o;
    is_step = tt;
    unclocked = tt;
    plain = plain_by v c (input.Closed x.at.number) reaching.is.input_is tt (step_of s w e v c is o);
    present = p;
    in_place = record {
      occurs = held_occurs s w e c v o is;
      after = undrained_after s w f v c is refl;
      answer = ap (λ (y : Option Visit). report_words (report_by w f c y)) is;
    };
    named = λ now. ap (λ (i : Input). named_by s w node (input_read (took_by e i))) reaching.is.input_is ∙ named;
    of_agent = subst (λ (i : Input). IsOfAgent w node (input_read (took_by e i))) (sym reaching.is.input_is) tt;
  }
    where
      e : Event
      e = event.Cut k far hold

      f : Event
      f = event.Cut k far true

      node : ℕ
      node = member_of w v.node

      reaching : IsReaching w k (side_named far) v (λ x. input.Closed x.at.number)
      reaching = cut_is w k (side_named far) v is

      x : Reached
      x = reaching.reached

      named : named_by s w node (took.Closed x.at.number) ≡ Some f
      named =
          ap (λ (o : Option NamedSide). if_brought s w node (took.Closed x.at.number) (closing_event o)) (side_named_again k far x reaching.found reaching.is.node_is)
          ∙ brought s w node (took.Closed x.at.number) f v is p.life (ap (is_taken (took.Closed x.at.number)) reaching.is.input_is ∙ same_number x.at.number)

  -- ---- a piece: so many bytes as came are asked for

  piece_same : (k count : ℕ) (far : Bool) (x : Reached) → reached_side w k (side_named far) ≡ Some x
      → piece_visit w k (side_named far) (length (next_bytes x.talk (other (side_named far)) count)) ≡ piece_visit w k (side_named far) count
  unfolding piece_visit
  piece_same k count far x found =
      ap (piece_at w (side_named far) (length (next_bytes x.talk (other (side_named far)) count))) found
      ∙ ap (λ (bytes : List ℕ). visit w x.at.node (input.Bytes x.at.number bytes)) (take_again count _)
      ∙ sym (ap (piece_at w (side_named far) count) found)

  after_same : (k count : ℕ) (far : Bool) (x : Reached) → reached_side w k (side_named far) ≡ Some x
      → after_piece w v k (side_named far) (length (next_bytes x.talk (other (side_named far)) count)) c ≡ after_piece w v k (side_named far) count c
  unfolding after_piece
  after_same k count far x found =
      ap (λ (o : Option Reached). stepped (delivered w (length (next_bytes x.talk (other (side_named far)) count)) o) v c.after v.seat.agent) found
      ∙ ap (λ (ts : List StreamState). stepped (record w { streams = ts }) v c.after v.seat.agent) (delivered_again ready s w r k (side_named far) x (reached_is w k (side_named far) x found) count)
      ∙ sym (ap (λ (o : Option Reached). stepped (delivered w count o) v c.after v.seat.agent) found)

  pub piece_steps : (nodes k count : ℕ) (far hold : Bool) → visit_of s w (event.Bytes k far count hold) ≡ Some v → Occurs s w (event.Bytes k far count hold) c
      → (n : ℕ) × Steps nodes s w (event.Bytes k far count hold) (event.Bytes k far n true) v c
  unfolding event_named report_of
  piece_steps nodes k count far hold is o = (
    length bytes,
    record {
      visits = is;
      occurs = o;
      is_step = tt;
      unclocked = tt;
      plain = plain_by v c (input.Bytes x.at.number bytes) reaching.is.input_is tt (step_of s w e v c is o);
      present = p;
      in_place = record {
        occurs = record {
          fit = tt;
          comes = subst (λ (y : Option Visit). MayCome y c) (is ∙ sym visits) (o.comes);
          enough = subst (λ (y : WorldState). is_too_much y ≡ false) (undrained_after s w (event.Bytes k far count true) v c is refl ∙ sym after) (held_occurs s w e c v o is).enough;
        };
        after = after;
        answer = ap (λ (y : Option Visit). report_words (report_by w f c y)) visits;
      };
      named = λ now. ap (λ (i : Input). named_by s w node (input_read (took_by e i))) reaching.is.input_is ∙ named;
      of_agent = subst (λ (i : Input). IsOfAgent w node (input_read (took_by e i))) (sym reaching.is.input_is) tt;
    },
  )
    where
      e : Event
      e = event.Bytes k far count hold

      node : ℕ
      node = member_of w v.node

      reaching : IsReaching w k (side_named far) v (λ x. input.Bytes x.at.number (next_bytes x.talk (other (side_named far)) count))
      reaching = piece_is w k (side_named far) count v is

      x : Reached
      x = reaching.reached

      bytes : List ℕ
      bytes = next_bytes x.talk (other (side_named far)) count

      f : Event
      f = event.Bytes k far (length bytes) true

      visits : visit_of s w f ≡ Some v
      visits = piece_same k count far x reaching.found ∙ is

      after : after_event s w f c ≡ after_visit s w e v c
      after = undrained_after s w f v c visits refl ∙ after_same k count far x reaching.found

      named : named_by s w node (took.Bytes x.at.number bytes) ≡ Some f
      named =
          ap (λ (o : Option NamedSide). if_brought s w node (took.Bytes x.at.number bytes) (bytes_event (length bytes) o)) (side_named_again k far x reaching.found reaching.is.node_is)
          ∙ brought s w node (took.Bytes x.at.number bytes) f v visits p.life
          (ap (is_taken (took.Bytes x.at.number bytes)) reaching.is.input_is ∙ and_from (x.at.number == x.at.number) (bytes_eq bytes bytes) (same_number x.at.number) (same_bytes bytes))
