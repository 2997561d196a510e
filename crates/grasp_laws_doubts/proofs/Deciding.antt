-- Where a doubter may say that its node never accepted a prefix, the node accepts it never on the stream for which it is listed.
use Rattle.std.proofs.Common.{◌≡◌, ◌⊎◌, inl, inr, refl, sym, ap, ◌∙◌, subst, ℕ, ◌&&◌, Bool, true, false, cond, not, List, [], ◌∷◌, Contains, Option, None, Some, is_none, is_some, slice_get}
use Rattle.std.proofs.lemmas.Bool.{and_parts, cases_eq, eqb-true, true≢false}
use Rattle.std.proofs.lemmas.Option.{none-some, same_Some}
use Rattle.grasp_agent.specs.Calls.{objective_name}
use Rattle.grasp_agent.specs.States.{AgentState, want_session}
use Rattle.grasp_agent.specs.Values.{offered_in, returned_in}
use Rattle.grasp_cbor.specs.DataItem.{DataItem}
use Rattle.grasp_agent.specs.declared.want.Want.{Want}
use Rattle.grasp_doubter.specs.Replies.{is_address, may_say_never}
use Rattle.grasp_doubter.specs.States.{DoubterState}
use Rattle.grasp_doubter.specs.declared.question.Question.{Question}
use Rattle.grasp_pool.proofs.Addresses.{first_in as start_in}
use Rattle.grasp_pool.proofs.Gaining.{overlap_tells}
use Rattle.grasp_pool.specs.Functions.{any_overlaps, overlap_test}
use Rattle.grasp_session.proofs.Facts.{at_handle}
use Rattle.grasp_session.specs.Laws.{IsView}
use Rattle.grasp_session.specs.Messages.{Far, Near, Side, other}
use Rattle.grasp_session.specs.Runs.{WasMade}
use Rattle.grasp_session.specs.Says.{IsAt}
use Rattle.grasp_session.specs.Sessions.{SessionState}
use Rattle.grasp_session.specs.Transcript.{Transcript, outcome_of, request_of}
use Rattle.grasp_types.specs.Prefix.{AddressBlock as Prefix, Overlap}
use Rattle.grasp_types.specs.declared.address.Address.{Address}
use Rattle.grasp_types.specs.declared.address.Address.TheVariants.{V4, V6}
use Rattle.grasp_types.specs.declared.objective.Objective.{Objective}
use Rattle.grasp_types.specs.declared.session.By.TheVariants.{Mine}
use Rattle.grasp_types.specs.declared.session.Handle.{Handle}
use Rattle.grasp_types.specs.declared.session.Outcome.TheVariants as outcome
use Rattle.grasp_model_network.specs.Accepting.{is_accepted, is_return, offering_by, offering_side, taking_side}
use Rattle.grasp_model_network.specs.Runs.{IsReached}
use Rattle.grasp_model_network.specs.Setting.{Setting}
use Rattle.grasp_model_network.specs.Settling.{IsAsking}
use Rattle.grasp_model_network.specs.Streams.{StreamEnd, StreamState, end_at}
use Rattle.grasp_model_network.specs.World.{Offered, Seat, WorldState, end_of, seat_at}
use Rattle.grasp_laws_agents.specs.Giving.{offered_by}
use Rattle.grasp_laws_delivery.proofs.Worlds.{reached_in_order}
use Rattle.grasp_laws_negotiation.specs.Knowing.{Saw}
use Rattle.grasp_laws_negotiation.specs.Streams.{HasItsStream}
use Rattle.grasp_laws_network.specs.Views.{view_at, view_in}
use Rattle.grasp_laws_prefixes.proofs.Asking.{asking_owner, asking_role, near_far}
use Rattle.grasp_laws_prefixes.proofs.Listing.{either_in, none_in}
use Rattle.grasp_laws_prefixes.proofs.Places.{same_place}
use Rattle.grasp_laws_prefixes.proofs.OwnSessions.{IsSessionAt, IsViewOf, session_there, view_of}
use Rattle.grasp_laws_prefixes.proofs.Speech.{same_requested}
use Rattle.grasp_laws_prefixes.proofs.Standing.{StaysUnaccepted}
use Rattle.grasp_laws_prefixes.specs.Apart.{offer_on}
use Rattle.grasp_laws_questions.specs.Agreeing.{IsAsked}
use Rattle.grasp_laws_doubts.specs.Grounds.{Grounds}
use Rattle.grasp_laws_doubts.specs.Remembering.{Remembers, RemembersAll}
use Rattle.grasp_laws_doubts.specs.Sending.{IsOfferedTo}

-- ---- what the decision says

pub address_is : (a b : Address) → is_address a b ≡ true → a ≡ b
address_is (V4 m) (V4 n) e = ap V4 (eqb-true m n e)
address_is (V6 m) (V6 n) e = ap V6 (eqb-true m n e)
address_is (V4 m) (V6 n) e = absurd (true≢false (sym e))
address_is (V6 m) (V4 n) e = absurd (true≢false (sym e))

-- the node is that of the question, it has lost count of nothing, its agent wants nothing, and it has accepted nothing that overlaps
pub record SaysNever (d : DoubterState) (a : AgentState) (q : Question) : Type 0 where
  pub address : q.address ≡ d.address
  pub counted : d.lost ≡ false
  pub idle : a.want ≡ None
  pub none : any_overlaps d.accepted q.prefix ≡ false

want_none : (w : Option Want) → is_none w ≡ true → w ≡ None
want_none None e = refl
want_none (Some x) e = absurd (true≢false (sym e))

not_true : (b : Bool) → not b ≡ true → b ≡ false
not_true false e = refl
not_true true e = absurd (true≢false (sym e))

pub says_never : (d : DoubterState) (a : AgentState) (q : Question) → may_say_never d a q ≡ true → SaysNever d a q
says_never d a q e =
    let f = and_parts (is_address q.address d.address && not d.lost && is_none a.want) (not (any_overlaps d.accepted q.prefix)) e in
    let g = and_parts (is_address q.address d.address && not d.lost) (is_none a.want) f.0 in
    let h = and_parts (is_address q.address d.address) (not d.lost) g.0 in
    record { address = address_is q.address d.address h.0; counted = not_true d.lost h.1; idle = want_none a.want g.1; none = not_true (any_overlaps d.accepted q.prefix) f.1 }

-- a prefix overlaps itself
overlaps_itself : (p : Prefix) → overlap_test p p ≡ true
overlaps_itself p = by_case (overlap_tells p p) where
  by_case : ((overlap_test p p ≡ true) × Overlap p p) ⊎ ((overlap_test p p ≡ false) × (¬ Overlap p p)) → overlap_test p p ≡ true
  by_case (inl t) = t.0
  by_case (inr f) = absurd (f.1 (p.address, (start_in p, start_in p)))

has_overlap : (qs : List Prefix) (p : Prefix) → Contains qs p → any_overlaps qs p ≡ true
unfolding any_overlaps
has_overlap [] p c = absurd (none_in p c)
has_overlap (q ∷ qs) p c = by_test (overlap_test q p) refl (either_in q qs p c) (has_overlap qs p) where
  by_test : (b : Bool) → overlap_test q p ≡ b → (q ≡ p) ⊎ Contains qs p → (Contains qs p → any_overlaps qs p ≡ true) → cond b true (any_overlaps qs p) ≡ true
  by_test true e k rest = refl
  by_test false e (inl same) rest = absurd (true≢false (sym (ap (λ z. overlap_test z p) same ∙ overlaps_itself p) ∙ e))
  by_test false e (inr more) rest = rest more

-- ---- sides

offers_far : (t : StreamState) → taking_side t ≡ Near → offering_side t ≡ Far
offers_far t e = by_side (offering_side t) e where
  by_side : (side : Side) → other side ≡ Near → side ≡ Far
  by_side Far f = refl
  by_side Near f = absurd (near_far (sym f))

asks_prefix : (value : Option DataItem) → offering_by (is_return value) ≡ Far → returned_in value ≡ None
asks_prefix value e = by_return (returned_in value) e where
  by_return : (o : Option Prefix) → offering_by (is_some o) ≡ Far → o ≡ None
  by_return None f = refl
  by_return (Some p) f = absurd (near_far f)

module _ (l : Grounds) (s : Setting) (w : WorldState) (r : IsReached s w) (node : ℕ) (seat : Seat) (here : seat_at w node ≡ Some seat) (d : DoubterState) (remembers : RemembersAll seat.core.sessions d) (q : Question)
    (never : SaysNever d seat.agent q) (giver : ℕ) (gives : Seat) (there : seat_at w giver ≡ Some gives) (doubt : Contains gives.agent.pool.doubtful q.prefix) (a : Address)
    (o : IsOfferedTo w giver (record { prefix = q.prefix; address = a })) (near : o.talk.near.node ≡ node) where
  abbrev offer : Offered
  offer = offer_on giver q.prefix o.place

  asked : IsAsked o.talk
  asked = l.listed s w r offer o.place o.talk o.listed refl o.stands

  -- what its session on the stream asked for gives nothing back
  asks : (v : Transcript) → IsView Near o.talk.said v → returned_in (request_of v).value ≡ None
  asks v view = asks_prefix (request_of v).value (ap (λ (k : Objective). offering_by (is_return k.value)) (view.same_request ∙ same_requested o.talk.said) ∙ offers_far o.talk o.takes)

  named : (v : Transcript) → IsView Near o.talk.said v → (request_of v).name ≡ objective_name
  named v view = ap (λ (k : Objective). k.name) (view.same_request ∙ same_requested o.talk.said) ∙ asked.name

  -- no live session of the agent is one that it requested there
  none_live : (place : ℕ) (x : SessionState) → IsAt seat.core.sessions place x → x.owner ≡ 1 → IsView Near o.talk.said x.view → ⊥
  none_live place x at own view =
      let h : Handle = record { place = place; number = x.number } in
      let wants = l.wants s w r node seat here h x (record { at = at_handle seat.core.sessions h x at refl; owner = own; role = view.role }) (asks x.view view) in
      none-some h (sym (ap want_session never.idle) ∙ wants)

  -- a session that the node requested there is the agent's
  owner_is : (x : SessionState) → WasMade seat.core.sessions x → IsView Near o.talk.said x.view → x.owner ≡ 1
  owner_is x made view = by_case (cases_eq x.owner 1) (cases_eq x.owner 0) made where
    by_case : (x.owner ≡ 1) ⊎ (x.owner ≡ 1 → ⊥) → (x.owner ≡ 0) ⊎ (x.owner ≡ 0 → ⊥) → WasMade seat.core.sessions x → x.owner ≡ 1
    by_case (inl own) u m = own
    by_case (inr differs) (inl none) (inl live) =
        absurd (near_far (sym view.role ∙ ap (λ (v : Transcript). v.role) (((reached_in_order l.prefixes.ties s w r).sound node seat here).1.fresh live.0 x live.1 none).fresh))
    by_case (inr differs) (inl none) (inr gone) = absurd (near_far (sym view.role ∙ ((l.prefixes.gone_owned s w r node seat here x gone).untaken none).0))
    by_case (inr differs) (inr taken) (inl live) = absurd ((l.prefixes.owned s w r node seat here live.0 x live.1).foreign taken differs (named x.view view))
    by_case (inr differs) (inr taken) (inr gone) = absurd ((l.prefixes.gone_owned s w r node seat here x gone).foreign taken differs (named x.view view))

  -- it has accepted nothing there
  none_gone : (x : SessionState) (agreed : Objective) → Contains seat.core.sessions.gone x → x.owner ≡ 1 → outcome_of x.view ≡ Some (outcome.Agreed Mine agreed) → offered_in agreed.value ≡ Some q.prefix → ⊥
  none_gone x agreed gone own out offers = by_case (remembers x agreed q.prefix gone own out offers) where
    by_case : Remembers d q.prefix → ⊥
    by_case (inl c) = true≢false (sym (has_overlap d.accepted q.prefix c) ∙ never.none)
    by_case (inr lost) = true≢false (sym lost ∙ never.counted)

  not_accepted : is_accepted o.talk ≡ true → ⊥
  not_accepted e = from (view_of w o.talk Near saw.0 saw.1) where
    saw : (v : Transcript) × Saw w o.talk Near v
    saw = l.saw s w r o.place o.talk o.stands asked.negotiation asked.asked

    agreed : (k : Objective) × (outcome_of saw.0 ≡ Some (outcome.Agreed Mine k)) × (offered_by (offering_side o.talk) k.value ≡ Some q.prefix)
    agreed =
        l.agree s w r gives offer o.place (record { listed = o.listed; on = refl; here = there; doubt = inl doubt }) o.talk o.stands e saw.0 (subst (λ side. Saw w o.talk side saw.0) (sym o.takes) saw.1)

    view : IsView Near o.talk.said saw.0
    view = (l.prefixes.known s w r o.place o.talk o.stands asked.negotiation).views Near saw.0 saw.1

    offers : offered_in agreed.0.value ≡ Some q.prefix
    offers = ap (λ side. offered_by side agreed.0.value) (sym (offers_far o.talk o.takes)) ∙ agreed.2

    from : IsViewOf w o.talk Near saw.0 → ⊥
    from v = by_made made where
      k : IsSessionAt w v.at v.session
      k = session_there w v.at v.session v.found

      same : k.seat ≡ seat
      same = same_Some k.seat seat (sym k.here ∙ (ap (λ (e : StreamEnd). seat_at w e.node) (sym (same_Some o.talk.near v.at v.ends)) ∙ (ap (λ n. seat_at w n) near ∙ here)))

      made : WasMade seat.core.sessions v.session
      made = subst (λ (z : Seat). WasMade z.core.sessions v.session) same k.made

      seen : IsView Near o.talk.said v.session.view
      seen = subst (IsView Near o.talk.said) (sym v.view) view

      own : v.session.owner ≡ 1
      own = owner_is v.session made seen

      by_made : WasMade seat.core.sessions v.session → ⊥
      by_made (inl live) = none_live live.0 v.session live.1 own seen
      by_made (inr gone) = none_gone v.session agreed.0 gone own (ap outcome_of v.view ∙ agreed.1) offers

  unaccepted : is_accepted o.talk ≡ false
  unaccepted = by_test (is_accepted o.talk) refl where
    by_test : (b : Bool) → is_accepted o.talk ≡ b → b ≡ false
    by_test false e = refl
    by_test true e = absurd (not_accepted e)

  over : IsAsking w o.talk → ⊥
  over b = none_live b.place b.session (subst (λ (z : Seat). IsAt z.core.sessions b.place b.session) same b.at) (asking_owner l.prefixes s w r o.place o.talk o.stands asked.negotiation asked.name b) seen where
    same : b.seat ≡ seat
    same = same_Some b.seat seat (sym b.here ∙ (ap (λ n. seat_at w n) near ∙ here))

    k : HasItsStream w o.talk.near.node b.session
    k = l.prefixes.streams.each s w r o.talk.near.node b.seat b.here b.session (inl (b.place, b.at))

    side : k.side ≡ Near
    side = sym k.role ∙ asking_role l.prefixes s w r o.place o.talk o.stands asked.negotiation asked.name b

    near_is : o.talk.near ≡ end_of o.talk.near.node b.session.stream
    near_is = ap (end_of o.talk.near.node) (sym b.stream)

    ends : end_at k.talk k.side ≡ Some o.talk.near
    ends = k.ends ∙ ap (λ e. Some e) (sym near_is)

    talk : k.talk ≡ o.talk
    talk =
        same_Some k.talk o.talk
        (sym k.stands ∙ (ap (λ n. slice_get w.streams n) (same_place l.prefixes.ready s w r o.talk.near k.place o.place k.talk o.talk k.side Near k.stands ends o.stands refl) ∙ o.stands))

    seen : IsView Near o.talk.said b.session.view
    seen =
        (l.prefixes.known s w r o.place o.talk o.stands asked.negotiation).views Near b.session.view
        (ap (λ i. view_at w o.talk i) (sym side) ∙ (ap (λ (t : StreamState). view_at w t k.side) (sym talk) ∙ ap (λ e. view_in e) k.found))

  -- so it accepts it never there
  pub never_accepted : StaysUnaccepted w offer
  never_accepted = record {
    at = record { place = o.place; talk = o.talk; is = refl; stands = o.stands; negotiation = asked.negotiation; asked = asked.asked; name = asked.name };
    never = record { takes = o.takes; unaccepted = unaccepted; over = over };
  }
