-- The agent's act is done: its session has said a step or an end.
use Rattle.std.proofs.Common.{◌≡◌, ◌≢◌, ◌⊎◌, refl, sym, ap, ◌∙◌, subst, inl, inr, ℕ, ◌==◌, true, false, List, Option, None, Some, Contains, slice_get, slice_set}
use Rattle.std.proofs.lemmas.Bool.{eq-eqb, ne_eqb}
use Rattle.std.proofs.lemmas.Bool.Decides.{eqb_tells}
use Rattle.grasp_agent.proofs.KeepForms.{act_reserved}
use Rattle.grasp_agent.proofs.Reading.{prefix_again}
use Rattle.grasp_agent.specs.Kept.{ActStands, IsKept, MayAccept, accepts_in_want, accepts_in_giving, MayDecline, declines_in_want, declines_in_giving}
use Rattle.grasp_laws_agent.specs.Moves.{is_made, Effect}
use Rattle.grasp_agent.specs.States.{AgentState, want_session}
use Rattle.grasp_agent.specs.Values.{offered_in, returned_in, length_value, prefix_value}
use Rattle.grasp_agent.specs.declared.act.Act.{Act}
use Rattle.grasp_agent.specs.declared.act.Act.TheVariants as act
use Rattle.grasp_agent.specs.declared.back.Return.{Return}
use Rattle.grasp_agent.specs.declared.decision.Reason.{Reason}
use Rattle.grasp_agent.specs.declared.giving.Giving.{Giving}
use Rattle.grasp_laws_node.proofs.Meaning.Acts.{number_at}
use Rattle.grasp_model_node.specs.Node.{NodeState}
use Rattle.grasp_pool.specs.Holdings.{IsFree, Gains}
use Rattle.grasp_laws_session.proofs.Runs.{some_state}
use Rattle.grasp_session.proofs.Tables.{state_slot}
use Rattle.grasp_session.specs.Messages.{Side, Near, Far, other}
use Rattle.grasp_session.specs.Says.{IsAt}
use Rattle.grasp_session.specs.Sessions.{SessionState, session_at, with_transcript}
use Rattle.grasp_session.specs.Transcript.{Transcript, Saying, SayStep, SayEnd, having_said, is_going, is_mine, my_offer, peer_offer, request_of}
use Rattle.grasp_types.specs.Prefix.{AddressBlock as Prefix, span_of, IsPrefix}
use Rattle.grasp_types.specs.declared.message.Verdict.{Verdict}
use Rattle.grasp_types.specs.declared.message.Verdict.TheVariants as verdict
use Rattle.grasp_types.specs.declared.objective.Objective.{Objective}
use Rattle.grasp_types.specs.declared.session.Handle.{Handle}
use Rattle.grasp_laws_agents.proofs.Entries.{some_is}
use Rattle.grasp_laws_agents.proofs.Known.{step_made, step_offer, end_made, end_offer, end_answered, may_say_end}
use Rattle.grasp_laws_agents.proofs.Places.{one_there, one_handle, same_handle, set_here}
use Rattle.grasp_laws_agents.proofs.Sides.{length_plain, end_kind, near_step, far_step, none_offered, own_kind, kinds_new}
use Rattle.grasp_laws_agents.proofs.Standing.{same_apart, same_back, same_entry, same_has, same_offers, same_own, same_quiet, same_unsent, sides_apart, asked_apart, Moved, IsAsked, PlainEntry, plain, none_accepts, rests, own_was, plain_elsewhere, want_elsewhere, back_elsewhere, set_streams}
use Rattle.grasp_laws_agents.specs.Giving.{HasOffered, IsOpenOffer, is_offering, OfferStands, IsOwnSession, EntryStands, AcceptStands, WantStands, ReturnStands, KeepsKind, IsOffersSession, of_entry, offered_by, Gives}
use Rattle.grasp_laws_agents.specs.OfferLaws.{IsAcceptance, FreedBy, was_gone, AgentMoves}

same_or_not : (i j : ℕ) → (i ≡ j) ⊎ (i ≢ j)
same_or_not i j = by_test (eqb_tells i j) where
  by_test : (((i == j) ≡ true) × (i ≡ j)) ⊎ (((i == j) ≡ false) × (i ≢ j)) → (i ≡ j) ⊎ (i ≢ j)
  by_test (inl t) = inl t.1
  by_test (inr t) = inr t.1

-- what an end that was said leaves of the offers of before
offered_before : (v : Transcript) (now : ℕ) (d : Verdict) (p : Prefix) → HasOffered (having_said v now (SayEnd d)) p → HasOffered v p
offered_before v now d p o = record { made = sym (end_made v now d) ∙ o.made; offer = ap (λ (u : Objective). offered_by v.role u.value) (sym (end_offer v now d)) ∙ o.offer }

open_before : (v : Transcript) (now : ℕ) (d : Verdict) (p : Prefix) → IsOpenOffer (having_said v now (SayEnd d)) p → IsOpenOffer v p
open_before v now d p o = record { offered = offered_before v now d p o.offered; unanswered = sym (end_answered v now d) ∙ o.unanswered }

-- a listener's step that offers a prefix has offered it
step_offers : (v : Transcript) (now : ℕ) (p : Prefix) → v.role ≡ Far → IsPrefix p.address p.length → HasOffered (having_said v now (SayStep (prefix_value p))) p
step_offers v now p far is = record {
  made = step_made v now (prefix_value p);
  offer = subst (λ side. offered_by side (my_offer (having_said v now (SayStep (prefix_value p)))).value ≡ Some p) (sym far)
      (ap (λ (u : Objective). offered_in u.value) (step_offer v now (prefix_value p)) ∙ prefix_again p is);
}

-- the act is done, and the session x at h has said so much
module _ (n after : NodeState) (a b : AgentState) (h : Handle) (x : SessionState) (now : ℕ) (s : Saying) (k : Gives n a) (there : session_at n.sessions h ≡ Some x)
    (set : after.sessions.places ≡ slice_set n.sessions.places h.place (Some (with_transcript x (having_said x.view now s)))) (gone : after.sessions.gone ≡ n.sessions.gone)
    (giving : b.giving ≡ a.giving) (want : b.want ≡ a.want) (back : b.back ≡ a.back) (none : b.act ≡ None) where
  abbrev new : SessionState
  new = with_transcript x (having_said x.view now s)

  at : IsAt n.sessions h.place x
  at = state_slot n.sessions h x there

  said_at : session_at after.sessions h ≡ Some new
  said_at = set_here n.sessions after.sessions x new h set at (number_at n.sessions h x there)

  still_own : (side : Side) → IsOwnSession n.sessions h side x → IsOwnSession after.sessions h side new
  still_own side o = record { at = said_at; owner = o.owner; role = o.role }

  -- a session that lies there then is this one
  here : (l : Handle) (side : Side) (y : SessionState) → l.place ≡ h.place → Some new ≡ Some y → IsOwnSession after.sessions l side y → h ≡ l
  here l side y f g o =
      same_handle h l (sym f) (sym (number_at after.sessions h new said_at) ∙ (ap (λ (u : SessionState). u.number) (some_state new y g) ∙ number_at after.sessions l y o.at))

  said_streams : (l : Handle) (u y : SessionState) → session_at n.sessions l ≡ Some u → session_at after.sessions l ≡ Some y → y.stream ≡ u.stream
  said_streams =
      set_streams n.sessions after.sessions h.place (Some new) set
      (λ u y lies same. ap (λ (t : SessionState). t.stream) (sym (some_state new y same)) ∙ ap (λ (t : SessionState). t.stream) (one_there n.sessions h.place x u at lies))

  said_left : (y : SessionState) → Contains after.sessions.gone y → Contains n.sessions.gone y
  said_left y has = subst (λ (l : List SessionState). Contains l y) gone has

  said_quiet : b.pool ≡ a.pool → AgentMoves n after a b
  said_quiet pool = same_quiet n after a b said_streams pool giving back (λ y p pending has. said_left y has)

  -- ---- in the session of its want
  module _ (asked : IsAsked n.sessions h x) (asks : returned_in (request_of new.view).value ≡ None) (kind : KeepsKind x.view.role new.view) (offers : (place : ℕ) → is_offering a.act place ≡ false) where
    near_want : (l : Handle) → want_session b.want ≡ Some l → WantStands after.sessions b l
    near_want l f = by_place (k.want l (ap want_session (sym want) ∙ f)) (same_or_not l.place h.place) where
      by_place : WantStands n.sessions a l → ((l.place ≡ h.place) ⊎ (l.place ≢ h.place)) → WantStands after.sessions b l
      by_place w (inl e) =
          let same : h ≡ l = sym (one_handle n.sessions l h w.session x w.own.at there e).0 in
          subst (WantStands after.sessions b) same (record { session = new; own = still_own Near asked.own; accept = none_accepts b h Near new.view none; asks = asks })
      by_place w (inr e) = want_elsewhere n.sessions after.sessions h.place (Some new) set a b l w e none

    near_entry : (place : ℕ) (g : Giving) → slice_get b.giving place ≡ Some g → EntryStands after.sessions b place g
    near_entry place g f =
        let e = plain n.sessions a place g (offers place) (k.entries place g (same_entry a b giving place g f)) in
        rests after.sessions b place g none (plain_elsewhere n.sessions after.sessions h.place (Some new) set g e (sides_apart n.sessions h g.handle x e.session asked.own e.own))

    near_back : (r : Return) (l : Handle) → b.back ≡ Some r → r.session ≡ Some l → ReturnStands after.sessions l r.prefix
    near_back r l is f =
        let s = same_back n a b back k r l is f in
        back_elsewhere n.sessions after.sessions h.place (Some new) set l r.prefix s (asked_apart n a h l x r.prefix k asked s)

    near_live : (l : Handle) (side : Side) (y : SessionState) (p : Prefix) → IsOwnSession after.sessions l side y → IsOpenOffer y.view p → IsOffersSession b side l
    near_live l side y p has pending = by_case (own_was n.sessions after.sessions h.place (Some new) set l side y has) where
      by_case : ((l.place ≡ h.place) × (Some new ≡ Some y)) ⊎ ((l.place ≢ h.place) × IsOwnSession n.sessions l side y) → IsOffersSession b side l
      by_case (inl c) =
          let same : new ≡ y = some_state new y c.1 in
          absurd (none_offered new.view p asked.own.role kind asks (subst (λ (u : SessionState). IsOpenOffer u.view p) (sym same) pending).offered)
      by_case (inr c) = same_has a b giving back l side (k.live l side y p c.1 pending)

    pub near_gives : Gives after b
    near_gives = record {
      want = near_want;
      entries = near_entry;
      back = near_back;
      apart = same_apart n a b giving k;
      kinds = kinds_new n.sessions after.sessions h.place new set gone kind k.kinds;
      live = near_live;
    }

    pub near_said : b.pool ≡ a.pool → Moved n after a b
    near_said pool = record { gives = near_gives; moves = said_quiet pool }

  -- ---- in a session in which it gives
  module _ (place : ℕ) (g : Giving) (lies : slice_get a.giving place ≡ Some g) (same_g : g.handle ≡ h) (own : IsOwnSession n.sessions h Far x) (kind : KeepsKind x.view.role new.view) (offers : (i : ℕ) → i ≢ place → is_offering a.act i ≡ false)
      (stays : OfferStands false g.offer new.view) where
    -- the sessions that it requested lie elsewhere
    near_place : (l : Handle) (y : SessionState) → IsOwnSession n.sessions l Near y → l.place ≢ h.place
    near_place l y has same = sides_apart n.sessions l h y x has own (sym same)

    far_want : (l : Handle) → want_session b.want ≡ Some l → WantStands after.sessions b l
    far_want l f =
        let w = k.want l (ap want_session (sym want) ∙ f) in
        want_elsewhere n.sessions after.sessions h.place (Some new) set a b l w (near_place l w.session w.own) none

    far_entry : (i : ℕ) (f : Giving) → slice_get b.giving i ≡ Some f → EntryStands after.sessions b i f
    far_entry i f e = by_place (same_or_not i place) where
      by_place : (i ≡ place) ⊎ (i ≢ place) → EntryStands after.sessions b i f
      by_place (inl c) =
          let same : g ≡ f = some_is g f (sym (ap (slice_get a.giving) c ∙ lies) ∙ same_entry a b giving i f e) in
          subst (EntryStands after.sessions b i) same
          (rests after.sessions b i g none (record { session = new; own = subst (λ l. IsOwnSession after.sessions l Far new) (sym same_g) (still_own Far own); offer = stays }))
      by_place (inr c) =
          let s = plain n.sessions a i f (offers i c) (k.entries i f (same_entry a b giving i f e)) in
          let away : f.handle.place ≢ h.place
          = λ d. c (k.apart i place f g (same_entry a b giving i f e) lies ((one_handle n.sessions f.handle h s.session x s.own.at there d).0 ∙ sym same_g)) in
          rests after.sessions b i f none (plain_elsewhere n.sessions after.sessions h.place (Some new) set f s away)

    far_back : (r : Return) (l : Handle) → b.back ≡ Some r → r.session ≡ Some l → ReturnStands after.sessions l r.prefix
    far_back r l is f = let s = same_back n a b back k r l is f in back_elsewhere n.sessions after.sessions h.place (Some new) set l r.prefix s (near_place l s.session s.own)

    far_live : (l : Handle) (side : Side) (y : SessionState) (p : Prefix) → IsOwnSession after.sessions l side y → IsOpenOffer y.view p → IsOffersSession b side l
    far_live l side y p has pending = by_case (own_was n.sessions after.sessions h.place (Some new) set l side y has) where
      by_case : ((l.place ≡ h.place) × (Some new ≡ Some y)) ⊎ ((l.place ≢ h.place) × IsOwnSession n.sessions l side y) → IsOffersSession b side l
      by_case (inl c) =
          of_entry (sym has.role ∙ (ap (λ (u : SessionState). u.view.role) (sym (some_state new y c.1)) ∙ own.role)) place g
          (ap (λ (u : List Giving). slice_get u place) giving ∙ lies) (same_g ∙ here l side y c.0 c.1 has)
      by_case (inr c) = same_has a b giving back l side (k.live l side y p c.1 pending)

    pub far_gives : Gives after b
    far_gives = record {
      want = far_want;
      entries = far_entry;
      back = far_back;
      apart = same_apart n a b giving k;
      kinds = kinds_new n.sessions after.sessions h.place new set gone kind k.kinds;
      live = far_live;
    }

    pub far_said : b.pool ≡ a.pool → Moved n after a b
    far_said pool = record { gives = far_gives; moves = said_quiet pool }

-- ---- each act

-- the session has said this
pub record Says (n after : NodeState) (h : Handle) (x : SessionState) (now : ℕ) (s : Saying) : Type 0 where
  pub there : session_at n.sessions h ≡ Some x
  pub going : is_going x.view ≡ true
  pub mine : is_mine x.view ≡ true
  pub set : after.sessions.places ≡ slice_set n.sessions.places h.place (Some (with_transcript x (having_said x.view now s)))
  pub gone : after.sessions.gone ≡ n.sessions.gone

-- the session of the want
pub want_asked : (n : NodeState) (a : AgentState) (h : Handle) (x : SessionState) → Gives n a → want_session a.want ≡ Some h → session_at n.sessions h ≡ Some x → IsAsked n.sessions h x
want_asked n a h x k f there = let w = k.want h f in subst (IsAsked n.sessions h) (same_own n.sessions h Near w.session x w.own there) (record { own = w.own; asks = w.asks })

-- a session in which the agent gives
entry_own : (n : NodeState) (a : AgentState) (place : ℕ) (g : Giving) (h : Handle) (x : SessionState) → Gives n a → slice_get a.giving place ≡ Some g → g.handle ≡ h → session_at n.sessions h ≡ Some x
    → IsOwnSession n.sessions h Far x
entry_own n a place g h x k lies same there =
    let e = k.entries place g lies in
    let own : IsOwnSession n.sessions h Far e.session = subst (λ l. IsOwnSession n.sessions l Far e.session) same e.own in
    subst (IsOwnSession n.sessions h Far) (same_own n.sessions h Far e.session x own there) own

module _ (n after : NodeState) (a b : AgentState) (k : Gives n a) (kept : IsKept a) (x : SessionState) (now : ℕ) where
  pub made_offer : (place : ℕ) (h : Handle) (p : Prefix) → a.act ≡ Some (act.Offer place h p) → ActStands a (act.Offer place h p) → Says n after h x now (SayStep (prefix_value p)) → Effect a (is_made (act.Offer place h p)) b
      → Moved n after a b
  made_offer place h p is stands_so s e =
      far_said n after a b h x now (SayStep (prefix_value p)) k s.there s.set s.gone e.0 e.1.0 e.2 e.3 place g stands_so refl own (far_step x.view now (prefix_value p) own.role plain_request)
      (λ i c. ap (λ (o : Option Act). is_offering o i) is ∙ ne_eqb place i (λ d. c (sym d))) (step_offers x.view now p own.role (kept.pool.valid p (inl (act_reserved a place h p is kept)))) e.4 where
        g : Giving
        g = record { handle = h; offer = Some p; first = false }

        own : IsOwnSession n.sessions h Far x
        own = entry_own n a place g h x k stands_so refl s.there

        f : EntryStands n.sessions a place g
        f = k.entries place g stands_so

        -- it was decided where no prefix was to be taken back
        plain_request : returned_in (request_of x.view).value ≡ None
        plain_request = subst (λ (u : SessionState). returned_in (request_of u.view).value ≡ None) (same_own n.sessions h Far f.session x f.own s.there)
            (subst (λ c. OfferStands c (Some p) f.session.view) (ap (λ (o : Option Act). is_offering o place) is ∙ eq-eqb place place refl) f.offer).1

  pub made_counter : (h : Handle) (m : ℕ) → a.act ≡ Some (act.Counter h m) → ActStands a (act.Counter h m) → Says n after h x now (SayStep (length_value m)) → Effect a (is_made (act.Counter h m)) b → Moved n after a b
  made_counter h m is stands_so s e =
      let asked = want_asked n a h x k stands_so.0 s.there in
      near_said n after a b h x now (SayStep (length_value m)) k s.there s.set s.gone e.0 e.1.0 e.2 e.3 asked asked.asks
      (near_step x.view now (length_value m) asked.own.role (length_plain m)) (λ place. ap (λ (o : Option Act). is_offering o place) is) e.4

  -- ---- an end

  -- of a session in which the agent gives, where its entry offers nothing
  module _ (h : Handle) (d : Verdict) (c : Act) (is : a.act ≡ Some c) (none : (i : ℕ) → is_offering (Some c) i ≡ false) (place : ℕ) (g : Giving) (lies : slice_get a.giving place ≡ Some g) (same : g.handle ≡ h)
      (no_offer : g.offer ≡ None) (s : Says n after h x now (SayEnd d)) where
    own : IsOwnSession n.sessions h Far x
    own = entry_own n a place g h x k lies same s.there

    still_closed : OfferStands false g.offer (having_said x.view now (SayEnd d))
    still_closed = subst (λ o. OfferStands false o (having_said x.view now (SayEnd d))) (sym no_offer) closed where
      f : PlainEntry n.sessions g
      f = plain n.sessions a place g (ap (λ (o : Option Act). is_offering o place) is ∙ none place) (k.entries place g lies)

      same_session : f.session ≡ x
      same_session = some_state f.session x (sym (subst (λ l. session_at n.sessions l ≡ Some f.session) same f.own.at) ∙ s.there)

      before : (q : Prefix) → ¬ IsOpenOffer x.view q
      before = subst (λ (u : SessionState). (q : Prefix) → ¬ IsOpenOffer u.view q) same_session (subst (λ o. OfferStands false o f.session.view) no_offer f.offer)

      closed : (q : Prefix) → ¬ IsOpenOffer (having_said x.view now (SayEnd d)) q
      closed q o = before q (open_before x.view now d q o)

    entry_ended : b.giving ≡ a.giving → b.want ≡ a.want → b.back ≡ a.back → b.act ≡ None → Gives after b
    entry_ended giving want back idle =
        far_gives n after a b h x now (SayEnd d) k s.there s.set s.gone giving want back idle place g lies same own (end_kind x.view now d (own_kind n a h Far x k own))
        (λ i apart. ap (λ (o : Option Act). is_offering o i) is ∙ none i) still_closed

  -- of the session of the want
  module _ (h : Handle) (d : Verdict) (c : Act) (is : a.act ≡ Some c) (none : (i : ℕ) → is_offering (Some c) i ≡ false) (f : want_session a.want ≡ Some h) (s : Says n after h x now (SayEnd d)) where
    asked : IsAsked n.sessions h x
    asked = want_asked n a h x k f s.there

    want_ended : b.giving ≡ a.giving → b.want ≡ a.want → b.back ≡ a.back → b.act ≡ None → Gives after b
    want_ended giving want back idle =
        near_gives n after a b h x now (SayEnd d) k s.there s.set s.gone giving want back idle asked asked.asks (end_kind x.view now d (own_kind n a h Near x k asked.own))
        (λ place. ap (λ (o : Option Act). is_offering o place) is ∙ none place)

  pub made_decline : (h : Handle) (reason : Reason) (d : Verdict) → a.act ≡ Some (act.Decline h reason) → MayDecline (want_session a.want) a.giving h → Says n after h x now (SayEnd d) → Effect a (is_made (act.Decline h reason)) b → Moved n after a b
  made_decline h reason d is may s e = record { gives = by_session may; moves = said_quiet n after a b h x now (SayEnd d) k s.there s.set s.gone e.0 e.1.0 e.2 e.3 e.4 } where
    by_session : MayDecline (want_session a.want) a.giving h → Gives after b
    by_session (declines_in_want f) = want_ended h d (act.Decline h reason) is (λ i. refl) f s e.0 e.1.0 e.2 e.3
    by_session (declines_in_giving place g lies same no_offer) = entry_ended h d (act.Decline h reason) is (λ i. refl) place g lies same no_offer s e.0 e.1.0 e.2 e.3

  -- ---- an acceptance

  -- the session in which the agent accepts, at this side, with what the other end offered last
  record Accepts (h : Handle) (side : Side) (p : Prefix) : Type 0 where
    own : IsOwnSession n.sessions h side x
    offer : offered_by (other side) (peer_offer x.view).value ≡ Some p

  -- as what stands of the session that lies there
  accepts_at : (h : Handle) (side : Side) (p : Prefix) (y : SessionState) → a.act ≡ Some (act.Accept h p) → IsOwnSession n.sessions h side y → AcceptStands a.act h side y.view → session_at n.sessions h ≡ Some x → Accepts h side p
  accepts_at h side p y is own accept there =
      let same : y ≡ x = same_own n.sessions h side y x own there in
      record {
        own = subst (IsOwnSession n.sessions h side) same own;
        offer = subst (λ (u : SessionState). offered_by (other side) (peer_offer u.view).value ≡ Some p) same ((subst (λ (o : Option Act). AcceptStands o h side y.view) is accept) refl).1;
      }

  -- an acceptance gains its prefix
  pub made_acceptance : (h : Handle) (p : Prefix) → a.act ≡ Some (act.Accept h p) → MayAccept (want_session a.want) a.giving h → Says n after h x now (SayEnd verdict.Accept) → Effect a (is_made (act.Accept h p)) b → Moved n after a b
  made_acceptance h p is may s e = by_session may where
    gains : Gains a.pool b.pool p
    gains = e.4

    freed : (side : Side) → Accepts h side p → (address : ℕ) → IsFree b.pool address → IsFree a.pool address ⊎ FreedBy n after a address
    freed side u address q = by_free ((gains.free address).0 q) where
      acceptance : IsAcceptance n after a p
      acceptance = record {
        handle = h;
        side = side;
        session = x;
        now = now;
        act_is = is;
        own = u.own;
        may = may_say_end x.view s.going s.mine;
        offer = u.offer;
        said = (
          with_transcript x (having_said x.view now (SayEnd verdict.Accept)),
          (said_at n after a b h x now (SayEnd verdict.Accept) k s.there s.set s.gone e.0 e.1.0 e.2 e.3, refl, refl),
        );
      }

      by_free : IsFree a.pool address ⊎ span_of p address → IsFree a.pool address ⊎ FreedBy n after a address
      by_free (inl c) = inl c
      by_free (inr c) = inr (inr (inl (p, c, acceptance)))

    accepted : (side : Side) → Accepts h side p → Gives after b → Moved n after a b
    accepted side u gives = record {
      gives = gives;
      moves = record {
        streams = λ l u y lies owner after_at. said_streams n after a b h x now (SayEnd verdict.Accept) k s.there s.set s.gone e.0 e.1.0 e.2 e.3 l u y lies after_at;
        freed = freed side u;
        offered = same_offers a b e.0 e.2 n;
        unsent = same_unsent a b e.2;
        doubts = λ y q has owner pending. was_gone (subst (λ (l : List SessionState). Contains l y) s.gone has);
        keeps_doubts = λ q has. subst (λ (l : List Prefix). Contains l q) (sym gains.doubtful) has;
        reserved = λ q has. inl (subst (λ (l : List Prefix). Contains l q) gains.reserved has);
        doubtful = λ q has. inl (subst (λ (l : List Prefix). Contains l q) gains.doubtful has);
      };
    }

    by_session : MayAccept (want_session a.want) a.giving h → Moved n after a b
    by_session (accepts_in_want f) =
        let w = k.want h f in
        accepted Near (accepts_at h Near p w.session is w.own w.accept s.there) (want_ended h verdict.Accept (act.Accept h p) is (λ i. refl) f s e.0 e.1.0 e.2 e.3)
    by_session (accepts_in_giving place g lies same no_offer) =
        let f : EntryStands n.sessions a place g = k.entries place g lies in
        let own : IsOwnSession n.sessions h Far f.session = subst (λ l. IsOwnSession n.sessions l Far f.session) same f.own in
        let accept : AcceptStands a.act h Far f.session.view = subst (λ l. AcceptStands a.act l Far f.session.view) same f.accept in
        accepted Far (accepts_at h Far p f.session is own accept s.there) (entry_ended h verdict.Accept (act.Accept h p) is (λ i. refl) place g lies same no_offer s e.0 e.1.0 e.2 e.3)
