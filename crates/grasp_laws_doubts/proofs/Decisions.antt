-- Where a doubter has just decided to accept a question, its node accepts the prefix never on the stream for which whoever asks has it listed.
use Rattle.std.proofs.Common.{◌≡◌, ◌⊎◌, inl, inr, refl, sym, ap, ◌∙◌, subst, ℕ, true, false, List, Contains, Option, None, Some, IfSome, slice_get, slice_index_or}
use Rattle.std.proofs.lemmas.List.{get_or-set_same}
use Rattle.std.proofs.lemmas.Option.{none-some, same_Some}
use Rattle.grasp_agent.specs.Kept.{ActStands, IsKept}
use Rattle.grasp_agent.specs.States.{AgentState, offered_by}
use Rattle.grasp_agent.specs.declared.act.Act.{Act}
use Rattle.grasp_agent.specs.declared.act.Act.TheVariants as act
use Rattle.grasp_doubter.specs.Calls as doubter
use Rattle.grasp_doubter.specs.Questions.{doubt_name, question_in}
use Rattle.grasp_doubter.specs.Replies.{decides, may_say_never}
use Rattle.grasp_doubter.specs.States.{DoubterState}
use Rattle.grasp_doubter.specs.declared.asking.Ask.{Ask}
use Rattle.grasp_doubter.specs.declared.duty.DoubtAct.{DoubtAct}
use Rattle.grasp_doubter.specs.declared.question.Question.{Question}
use Rattle.grasp_doubter.specs.declared.seen.Sent.{Sent}
use Rattle.grasp_session.specs.Laws.{IsView}
use Rattle.grasp_session.specs.Messages.{Far}
use Rattle.grasp_session.specs.Runs.{WasMade}
use Rattle.grasp_session.specs.Says.{IsAt}
use Rattle.grasp_session.specs.Sessions.{SessionState, with_owner}
use Rattle.grasp_session.specs.Transcript.{request_of}
use Rattle.grasp_types.specs.Address.{IsAddress}
use Rattle.grasp_types.specs.Prefix.{AddressBlock as Prefix}
use Rattle.grasp_types.specs.declared.address.Address.{Address}
use Rattle.grasp_types.specs.declared.objective.Objective.{Objective}
use Rattle.grasp_types.specs.declared.reply.ApiAnswer.TheVariants as answer
use Rattle.grasp_types.specs.declared.reply.Reply.TheVariants as reply
use Rattle.grasp_types.specs.declared.session.Handle.{Handle}
use Rattle.grasp_model_node.specs.Begin.{begin}
use Rattle.grasp_model_node.specs.BoundedNodes.{IsBoundedNode}
use Rattle.grasp_model_node.specs.Node.{NodeState}
use Rattle.grasp_model_node.specs.Step.{Calls}
use Rattle.grasp_model_network.specs.Runs.{IsReached}
use Rattle.grasp_model_network.specs.Sending.{seat_with}
use Rattle.grasp_model_network.specs.Setting.{Setting, numbered}
use Rattle.grasp_model_network.specs.Streams.{StreamState}
use Rattle.grasp_model_network.specs.Visits.{Choice}
use Rattle.grasp_model_network.specs.World.{Offered, Seat, WorldState, end_of, seat_at}
use Rattle.grasp_model_doubts.specs.Answered.{question}
use Rattle.grasp_laws_agents.specs.Giving.{OffersIn}
use Rattle.grasp_laws_delivery.proofs.Worlds.{reached_in_order}
use Rattle.grasp_laws_node.specs.Means.{Takes}
use Rattle.grasp_laws_prefixes.proofs.Asked.{placed_one}
use Rattle.grasp_laws_prefixes.proofs.EntryOffers.{offers_reserved}
use Rattle.grasp_laws_prefixes.proofs.OneNode.{seat_there}
use Rattle.grasp_laws_prefixes.proofs.Standing.{AllStay, StaysUnaccepted, WorldGoesOn}
use Rattle.grasp_laws_prefixes.specs.Apart.{offer_on}
use Rattle.grasp_laws_session.proofs.Runs.{at_below}
use Rattle.grasp_laws_doubts.proofs.Answering.{decides_so}
use Rattle.grasp_laws_doubts.proofs.Asking.{AnswersNever, AskedFor, AskedStand, IsAskTalk}
use Rattle.grasp_laws_doubts.proofs.Calling.{IsCalled, incoming_takes}
use Rattle.grasp_laws_doubts.proofs.Deciding.{SaysNever, never_accepted, says_never}
use Rattle.grasp_laws_doubts.proofs.Offering.{offered_on, one_number}
use Rattle.grasp_laws_doubts.proofs.Opening.{PlansLast}
use Rattle.grasp_laws_doubts.proofs.Reading.{question_again}
use Rattle.grasp_laws_doubts.proofs.Spoken.{IsAnswering, answering_view}
use Rattle.grasp_laws_doubts.specs.Grounds.{Grounds}
use Rattle.grasp_laws_doubts.specs.Remembering.{RemembersAll}
use Rattle.grasp_laws_doubts.specs.Sending.{IsOfferedTo, SentStand}

-- the addresses of the nodes are addresses, and no two nodes have one
pub record PlansStand (w : WorldState) : Type 0 where
  pub ranges : (node : ℕ) (seat : Seat) → seat_at w node ≡ Some seat → IsAddress seat.core.plan.address
  pub apart : (n m : ℕ) (x z : Seat) → seat_at w n ≡ Some x → seat_at w m ≡ Some z → x.core.plan.address ≡ z.core.plan.address → n ≡ m

-- a prefix that is to be offered is reserved
pub pending_reserved : (a : AgentState) → IsKept a → (place : ℕ) (h : Handle) (p : Prefix) → a.act ≡ Some (act.Offer place h p) → Contains a.pool.reserved p
pending_reserved a kept place h p is =
    let at = subst (λ o. IfSome o (λ k. ActStands a k)) is kept.act in
    offers_reserved a Far h p kept (OffersIn.in_entry refl place (record { handle = h; offer = Some p; first = false }) at refl refl)

-- and so one in doubt isn't about to be offered
pub not_pending : (a : AgentState) (p : Prefix) → IsKept a → Contains a.pool.doubtful p → offered_by a.act ≡ Some p → ⊥
not_pending a p kept doubtful e = by_act a.act refl e where
  by_act : (o : Option Act) → a.act ≡ o → offered_by o ≡ Some p → ⊥
  by_act None is f = none-some p f
  by_act (Some (act.Offer place h x)) is f =
      kept.pool.once x (pending_reserved a kept place h x is) (subst (λ z. Contains a.pool.doubtful z) (sym (same_Some x p f)) doubtful)
  by_act (Some _) is f = none-some p f

module _ (l : Grounds) (s : Setting) (w y : WorldState) (ds : List DoubterState) (r : IsReached s w) (q : IsReached s y) (stay : AllStay w.streams y.streams) (plans : PlansLast w y) (goes : WorldGoesOn w y) (different : PlansStand y)
    (sent : SentStand w ds) (asked : AskedStand w ds)
    -- whose doubter has called
    (node : ℕ) (seat : Seat) (c : Choice) (here : seat_at y node ≡ Some (seat_with c.after seat.agent)) (d : DoubterState) (address : d.address ≡ c.after.plan.address) (remembers : RemembersAll c.after.sessions d)
    (call : IsCalled 2 doubt_name seat.core c.after (doubter.next_call d) c.reply)
    -- and what it was told
    (h : Handle) (from : Address) (o : Objective) (told : c.reply ≡ reply.Api (answer.Incoming h from o)) (so_it_is : decides d seat.agent (question_in o.value) ≡ true)
    -- whoever asks
    (giver : ℕ) (gives : Seat) (there : seat_at w giver ≡ Some gives) (g : DoubterState) (it : numbered ds giver ≡ Some g) (k : Ask) (ask : g.ask ≡ Some k)
    (at : ℕ) (u : StreamState) (now : slice_get y.streams at ≡ Some u) (talk : IsAskTalk k u) (b : IsAnswering y u) (same : b.node ≡ node) (number : b.session.number ≡ h.number) where
  abbrev new : Seat
  new = seat_with c.after seat.agent

  -- the session of the question
  takes : (objective : List ℕ) × Takes (begin seat.core call.now) 2 objective h from o c.after
  takes =
      incoming_takes l.prefixes.means 2 doubt_name (begin seat.core call.now) c.after call.sound_begun (doubter.next_call d) h from o call.serves
      (subst (λ x. Calls (begin seat.core call.now) 2 (doubter.next_call d) x c.after) told call.calls)

  t : Takes (begin seat.core call.now) 2 takes.0 h from o c.after
  t = takes.1

  abbrev taken : SessionState
  taken = with_owner t.session 2

  taken_at : IsAt c.after.sessions h.place taken
  taken_at =
      ap (λ (m : NodeState). slice_index_or m.sessions.places h.place None) t.leads
      ∙ get_or-set_same (begin seat.core call.now).sessions.places h.place (Some taken) None (at_below (begin seat.core call.now).sessions.places h.place t.session t.at)

  seat_is : b.seat ≡ new
  seat_is = same_Some b.seat new (sym b.here ∙ (ap (λ n. seat_at y n) same ∙ here))

  sound : IsBoundedNode c.after
  sound = ((reached_in_order l.prefixes.ties s y q).sound node new here).0

  session_is : taken ≡ b.session
  session_is = one_number c.after.sessions sound.sessions h.place taken b.session taken_at (subst (λ (z : Seat). WasMade z.core.sessions b.session) seat_is b.made) (t.number ∙ sym number)

  view : IsView Far u.said b.session.view
  view = answering_view l s y q at u now talk.negotiation b

  -- what was asked
  question_is : o ≡ question k.address k.prefix
  question_is = t.request ∙ (ap (λ (x : SessionState). request_of x.view) session_is ∙ (view.same_request ∙ talk.asks))

  abbrev asks : Question
  asks = record { address = k.address; prefix = k.prefix }

  for : AskedFor gives g k
  for = asked giver gives there g it k ask

  abbrev x : Sent
  x = record { prefix = k.prefix; address = k.address }

  keeps : IsKept gives.agent
  keeps = l.prefixes.kept s w r giver gives there

  offered : IsOfferedTo w giver x
  offered = (sent giver gives there g it x for.sent).offered (not_pending gives.agent k.prefix keeps for.doubtful)

  offered_now : IsOfferedTo y giver x
  offered_now = offered_on l s w y r (inl q) plans stay giver x offered (subst (λ os. Contains os (offer_on giver k.prefix offered.place)) (sym goes.offers) offered.listed)

  in_range : IsAddress k.address
  in_range = subst IsAddress offered_now.by.address (different.ranges offered_now.talk.near.node offered_now.by.dialler offered_now.by.dialled)

  read : question_in o.value ≡ Some asks
  read = ap (λ (z : Objective). question_in z.value) question_is ∙ question_again k.address k.prefix in_range (keeps.pool.valid k.prefix (inr for.doubtful))

  never : SaysNever d seat.agent asks
  never = by_decided (decides_so d seat.agent (question_in o.value) so_it_is) where
    by_decided : (z : Question) × (question_in o.value ≡ Some z) × (may_say_never d seat.agent z ≡ true) → SaysNever d seat.agent asks
    by_decided z = says_never d seat.agent asks (subst (λ (n : Question). may_say_never d seat.agent n ≡ true) (same_Some z.0 asks (sym z.1 ∙ read)) z.2)

  near : offered_now.talk.near.node ≡ node
  near =
      different.apart offered_now.talk.near.node node offered_now.by.dialler new offered_now.by.dialled here
      (offered_now.by.address ∙ (never.address ∙ address))

  giver_now : (z : Seat) × (seat_at y giver ≡ Some z)
  giver_now = seat_there w y goes.count giver gives there

  doubtful_now : Contains giver_now.0.agent.pool.doubtful k.prefix
  doubtful_now =
      let f = goes.seats giver giver_now.0 giver_now.1 in
      subst (λ z. Contains z.doubtful k.prefix) (sym (f.2.pool ∙ ap (λ (z : Seat). z.agent.pool) (same_Some f.0 gives (sym f.1 ∙ there)))) for.doubtful

  -- the one that dialled the stream of the offer is the node that is asked
  pub never_there : (place : ℕ) → Contains y.offers (offer_on giver k.prefix place) → AnswersNever y u (offer_on giver k.prefix place)
  never_there place listed = record {
    unaccepted = n;
    far = end_of b.node b.session.stream;
    opened = b.far;
    answerer = same ∙ (sym near ∙ ap (λ (t : StreamState). t.near.node) (sym talk_is));
  } where
    one : offer_on giver k.prefix offered_now.place ≡ offer_on giver k.prefix place
    one = (l.offers s y q).once (offer_on giver k.prefix offered_now.place) (offer_on giver k.prefix place) offered_now.listed listed refl refl

    n : StaysUnaccepted y (offer_on giver k.prefix place)
    n =
        subst (λ (z : Offered). StaysUnaccepted y z) one
        (never_accepted l s y q node new here d remembers asks never giver giver_now.0 giver_now.1 doubtful_now k.address offered_now near)

    talk_is : n.at.talk ≡ offered_now.talk
    talk_is = placed_one y.streams (offer_on giver k.prefix place) n.at offered_now.place offered_now.talk (ap (λ (z : Offered). z.talk) (sym one)) offered_now.stands
