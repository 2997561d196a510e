-- Who opened the sessions in which an agent of prefixes gives is as its node's doubter keeps it, whatever happens.
use Rattle.std.proofs.Common.{◌≡◌, ◌≢◌, ◌⊎◌, inl, inr, refl, sym, ap, ◌∙◌, subst, arith, ℕ, ◌%◌, ◌≤◌, ◌<◌, Bool, true, false, cond, nat_lt, List, [], ◌∷◌, ◌++◌, length, Contains, IsSome, Option, None, Some, All, slice_get, slice_index_or}
use Rattle.std.proofs.lemmas.Bool.{eqb-true, true≢false}
use Rattle.std.proofs.lemmas.List.{get_or-set_same}
use Rattle.std.proofs.lemmas.List.Elements.{All-get_or, Contains-append_cases}
use Rattle.std.proofs.lemmas.List.Quantifiers.{position-Some}
use Rattle.std.proofs.lemmas.Option.{get_or_from_slice_get, none-some, same_Some}
use Rattle.grasp_agent.specs.Calls.{next_call, objective_name}
use Rattle.grasp_agent.specs.Replies.{after_reply, answer_in}
use Rattle.grasp_agent.specs.Values.{offered_in}
use Rattle.grasp_pool.specs.Holdings.{Holding}
use Rattle.grasp_types.specs.Prefix.{AddressBlock as Prefix}
use Rattle.grasp_types.specs.declared.address.Address.{Address}
use Rattle.grasp_types.specs.declared.call.Call.{Call}
use Rattle.grasp_types.specs.declared.call.Call.TheVariants as call
use Rattle.grasp_types.specs.declared.objective.Objective.{Objective}
use Rattle.grasp_types.specs.declared.reply.ApiAnswer.{ApiAnswer}
use Rattle.grasp_types.specs.declared.reply.ApiAnswer.TheVariants as answer
use Rattle.grasp_types.specs.declared.reply.Reply.{Reply}
use Rattle.grasp_types.specs.declared.reply.Reply.TheVariants as reply
use Rattle.grasp_types.specs.declared.session.By.TheVariants.{Mine, Theirs}
use Rattle.grasp_types.specs.declared.session.Handle.{Handle}
use Rattle.grasp_types.specs.declared.session.Outcome.{Outcome}
use Rattle.grasp_types.specs.declared.session.Outcome.TheVariants as outcome
use Rattle.grasp_types.specs.declared.session.Progress.{Progress}
use Rattle.grasp_types.specs.declared.session.Progress.TheVariants as progress
use Rattle.grasp_doubter.specs.Seeing.{accepting, after_answer, after_answer_in, after_done, after_ending, after_outcome, after_progress, after_saw, after_step, polled, with_accepted, with_opener, without_opener}
use Rattle.grasp_doubter.specs.States.{DoubterState, is_session}
use Rattle.grasp_doubter.specs.declared.seen.Opener.{Opener}
use Rattle.grasp_session.specs.Messages.{Near, Far}
use Rattle.grasp_session.specs.Says.{IsAt}
use Rattle.grasp_session.specs.Sessions.{SessionState, Sessions, with_owner}
use Rattle.grasp_session.specs.Transcript.{is_going}
use Rattle.grasp_model_node.specs.BoundedNodes.{IsBoundedNode}
use Rattle.grasp_model_node.specs.Node.{NodeState}
use Rattle.grasp_model_node.specs.SessionCalls.{address_or}
use Rattle.grasp_model_node.specs.Streams.{StreamRecord, at_place, from_in, is_stream, opener_of, past_in, past_of, place_of, record_of}
use Rattle.grasp_model_node.specs.declared.plan.NodePlan.{NodePlan}
use Rattle.grasp_model_network.specs.GoodSetting.{IsGoodSetting}
use Rattle.grasp_model_network.specs.Runs.{IsReached}
use Rattle.grasp_model_network.specs.Setting.{Setting}
use Rattle.grasp_model_network.specs.Streams.{StreamEnd, StreamState, end_at}
use Rattle.grasp_model_network.specs.World.{Seat, WorldState, end_of, seat_at}
use Rattle.grasp_model_doubts.specs.Runs.{IsToldOpeners}
use Rattle.grasp_laws_agents.specs.GoingOn.{OwnGoOn}
use Rattle.grasp_laws_delivery.proofs.FromReady.{every_at}
use Rattle.grasp_laws_delivery.proofs.Worlds.{reached_in_order}
use Rattle.grasp_laws_delivery.specs.Ready.{HasGoodEnds, HasGoodFar, HasGoodNumber}
use Rattle.grasp_laws_negotiation.specs.Streams.{HasItsStream}
use Rattle.grasp_laws_network.proofs.Lists.{filtered}
use Rattle.grasp_laws_node.specs.Means.{Takes}
use Rattle.grasp_laws_openers.specs.Told.{IsOpener, RecordTold, ToldBy}
use Rattle.grasp_laws_owned.specs.Owned.{GoOnBy}
use Rattle.grasp_laws_prefixes.proofs.Listing.{either_in, none_in}
use Rattle.grasp_laws_prefixes.proofs.OneNode.{seat_there}
use Rattle.grasp_laws_prefixes.proofs.Places.{same_place}
use Rattle.grasp_laws_prefixes.proofs.Standing.{AllStay, Stays, WorldGoesOn}
use Rattle.grasp_laws_session.proofs.Runs.{at_below, calls_in_order}
use Rattle.grasp_laws_doubts.proofs.Changing.{IsLater, MadeStay, made_on}
use Rattle.grasp_laws_doubts.proofs.Quiet.{IsQuiet}
use Rattle.grasp_laws_doubts.specs.Grounds.{Grounds}
use Rattle.grasp_laws_doubts.specs.Opening.{IsDialledBy, IsOpenedBy, OpenersStand}

-- ---- what a doubter keeps

-- an opener that it keeps was kept, or is told just now
pub data WasOpener (d : DoubterState) (r : Reply) (o : Opener) : Type 0 where
  kept : Contains d.openers o → WasOpener d r o
  told : (objective : Objective) → r ≡ reply.Api (answer.Incoming o.handle o.address objective) → WasOpener d r o

only_one : {A : Type 0} (x y : A) → Contains (x ∷ []) y → x ≡ y
only_one x y c = by_case (either_in x [] y c) where
  by_case : (x ≡ y) ⊎ Contains [] y → x ≡ y
  by_case (inl e) = e
  by_case (inr none) = absurd (none_in y none)

one_more : (d : DoubterState) (h : Handle) (from : Address) (x : Objective) (r : Reply) (o : Opener) → r ≡ reply.Api (answer.Incoming h from x) → Contains (with_opener d.openers h from) o → WasOpener d r o
one_more d h from x r o e has = by_room (nat_lt (length d.openers) 64) has where
  new : Opener
  new = record { handle = h; address = from }

  by_case : Contains d.openers o ⊎ Contains (new ∷ []) o → WasOpener d r o
  by_case (inl c) = kept c
  by_case (inr c) = told x (subst (λ (y : Opener). r ≡ reply.Api (answer.Incoming y.handle y.address x)) (only_one new o c) e)

  by_room : (b : Bool) → Contains (cond b (d.openers ++ new ∷ []) d.openers) o → WasOpener d r o
  by_room true c = by_case (Contains-append_cases d.openers (new ∷ []) o c)
  by_room false c = kept c

-- a doubter that keeps no more openers
abbrev Fewer : DoubterState → DoubterState → Type 0
Fewer d f = (o : Opener) → Contains f.openers o → Contains d.openers o

accepting_fewer : (d : DoubterState) (p : Option Prefix) → Fewer d (accepting d p)
accepting_fewer d None o c = c
accepting_fewer d (Some p) o c = by_room (nat_lt (length d.accepted) 1024) c where
  by_room : (b : Bool) → Contains (cond b (record d { accepted = d.accepted ++ p ∷ [] }) (record d { lost = true })).openers o → Contains d.openers o
  by_room true c = c
  by_room false c = c

outcome_fewer : (d : DoubterState) (e : Outcome) → Fewer d (after_outcome d e)
outcome_fewer d (outcome.Agreed Mine x) o c = accepting_fewer d (offered_in x.value) o c
outcome_fewer d (outcome.Agreed Theirs x) o c = c
outcome_fewer d _ o c = c

ending_fewer : (d : DoubterState) (h : Option Handle) (e : Outcome) → Fewer d (after_ending d h e)
ending_fewer d None e o c = outcome_fewer d e o c
ending_fewer d (Some h) e o c = (filtered _ d.openers o (outcome_fewer (record d { openers = without_opener d.openers h }) e o c)).0

progress_fewer : (d : DoubterState) (h : Option Handle) (x : Progress) → Fewer d (after_progress d h x)
progress_fewer d h (progress.Ended e) o c = ending_fewer d h e o c
progress_fewer d h _ o c = c

step_fewer : (d : DoubterState) (h : Handle) (p : Option Prefix) → Fewer d (after_step d h p)
step_fewer d h None o c = c
step_fewer d h (Some p) o c = c

done_fewer : (d : DoubterState) (x : Call) → Fewer d (after_done d x)
done_fewer d (call.NegotiateStep h v) o c = step_fewer d h (offered_in (Some v)) o c
done_fewer d _ o c = c

answer_openers : (d : DoubterState) (x : Call) (a : ApiAnswer) (r : Reply) → r ≡ reply.Api a → (o : Opener) → Contains (after_answer d x a).openers o → WasOpener d r o
answer_openers d x (answer.Incoming h from y) r e o c = one_more d h from y r o e c
answer_openers d x answer.Done r e o c = kept (done_fewer d x o c)
answer_openers d x (answer.Polled y) r e o c = kept (progress_fewer d (polled x) y o c)
answer_openers d x _ r e o c = kept c

pub saw_openers : (d : DoubterState) (h : Holding) (x : Call) (r : Reply) (o : Opener) → Contains (after_saw d h x r).openers o → WasOpener d r o
unfolding after_saw
saw_openers d h x (reply.Api a) o c = answer_openers d x a (reply.Api a) refl o c
saw_openers d h x _ o c = kept c

-- ---- what goes on

-- each node has the plan that it had
abbrev pub PlansLast : WorldState → WorldState → Type 0
PlansLast w y = (node : ℕ) (seat : Seat) → seat_at w node ≡ Some seat → (new : Seat) × (seat_at y node ≡ Some new) × (new.core.plan ≡ seat.core.plan)

pub dialled_on : (w y : WorldState) → PlansLast w y → (t u : StreamState) (a : Address) → u.near ≡ t.near → IsDialledBy w t a → IsDialledBy y u a
dialled_on w y plans t u a near b =
    let f = plans t.near.node b.dialler b.dialled in
    record { dialler = f.0; dialled = ap (λ (e : StreamEnd). seat_at y e.node) near ∙ f.1; address = ap (λ (p : NodePlan). p.address) f.2 ∙ b.address }

pub near_stays : (us : List StreamState) (place : ℕ) (t : StreamState) → (u : Stays us place t) → u.after.near ≡ t.near
near_stays us place t u = same_Some u.after.near t.near (u.ends Near t.near refl)

pub opened_on : (w y : WorldState) → PlansLast w y → AllStay w.streams y.streams → (node : ℕ) (z m : Sessions) → MadeStay 1 z m → (o : Opener) → IsOpenedBy w node z o → IsOpenedBy y node m o
opened_on w y plans stay node z m made o b =
    let f = made b.session b.made b.owner in
    let u : Stays y.streams b.place b.talk = stay b.place b.talk b.stands in
    record {
      session = f.0;
      made = f.1;
      number = f.2.number ∙ b.number;
      owner = f.2.owner ∙ b.owner;
      place = b.place;
      talk = u.after;
      stands = u.stands;
      far = u.ends Far (end_of node b.session.stream) b.far ∙ ap (λ k. Some (end_of node k)) (sym f.2.stream);
      by = dialled_on w y plans b.talk u.after o.address (near_stays y.streams b.place b.talk u) b.by;
    }

-- the sessions of agent 1 go on as those of an agent that alone has its objective
pub own_by : (z w : Sessions) → OwnGoOn z w → GoOnBy 1 z w
own_by z w g = record { stay = g.stay; were = g.were; gone = g.gone; left = g.left }

pub quiet_plans : (w y : WorldState) → IsQuiet w y → PlansLast w y
quiet_plans w y q node seat here =
    let new = seat_there w y q.goes.count node seat here in
    let f = q.seats node new.0 new.1 in
    (new.0, new.1, f.2.node.plan ∙ ap (λ (z : Seat). z.core.plan) (same_Some f.0 seat (sym f.1 ∙ here)))

-- where no agent of prefixes did anything
pub going_openers : (w y : WorldState) (ds : List DoubterState) → WorldGoesOn w y → PlansLast w y → OpenersStand w ds → OpenersStand y ds
going_openers w y ds g plans all node new there d is o has =
    let f = g.seats node new there in
    opened_on w y plans g.streams node f.0.core.sessions new.core.sessions (made_on 1 f.0.core.sessions new.core.sessions (own_by f.0.core.sessions new.core.sessions f.2.sessions)) o
    (all node f.0 f.1 d is o has)

-- ---- a session that comes in

-- the record of a stream has its number
record_is : (stream : ℕ) (xs : List StreamRecord) (P : StreamRecord → Type 0) → All P xs → (x : StreamRecord) → at_place xs (place_of stream xs) ≡ Some x → P x × (x.number ≡ stream)
record_is stream xs P all x e = by_place (place_of stream xs) refl e where
  by_place : (o : Option ℕ) → place_of stream xs ≡ o → at_place xs o ≡ Some x → P x × (x.number ≡ stream)
  by_place None at f = absurd (none-some x f)
  by_place (Some i) at f =
      let p = position-Some (is_stream stream) xs i x at in
      let same : slice_index_or xs i x ≡ x = get_or_from_slice_get xs i x x f in (
        subst P same (All-get_or P xs i x p.0 all),
        eqb-true x.number stream (subst (λ (y : StreamRecord). is_stream stream y ≡ true) same p.1),
      )

-- a far end has an odd number
far_odd : (s : Setting) (nodes dials : ℕ) (t : StreamState) (node stream : ℕ) → IsGoodSetting s → HasGoodEnds s nodes dials t.near t.number t.far → t.far ≡ Some (end_of node stream) → stream % 2 ≡ 1
far_odd s nodes dials t node stream good ends far = by_number t.number ends.dialled (subst (HasGoodFar s nodes t.number) far ends.opened) where
  by_number : (o : Option ℕ) → HasGoodNumber dials o → HasGoodFar s nodes o (Some (end_of node stream)) → stream % 2 ≡ 1
  by_number None g f = absurd f
  by_number (Some k) g f = ap (λ n. n % 2) f.1 ∙ good.arrivals_odd node k g.0

-- a session that the agent of prefixes has taken just now, in the network after its call
module _ (l : Grounds) (s : Setting) (told : IsToldOpeners s) (y : WorldState) (q : IsReached s y) (node : ℕ) (new : Seat) (there : seat_at y node ≡ Some new) (n : NodeState) (objective : List ℕ)
    (h : Handle) (from : Address) (o : Objective) (t : Takes n 1 objective h from o new.core) (sound : IsBoundedNode n) where
  abbrev taken : SessionState
  taken = with_owner t.session 1

  at : IsAt new.core.sessions h.place taken
  at = ap (λ (m : NodeState). slice_index_or m.sessions.places h.place None) t.leads ∙ get_or-set_same n.sessions.places h.place (Some taken) None (at_below n.sessions.places h.place t.session t.at)

  streams_same : new.core.streams ≡ n.streams
  streams_same = ap (λ (m : NodeState). m.streams) t.leads

  free : (t.session.view.role ≡ Far) × (is_going t.session.view ≡ true)
  free = (calls_in_order n.sessions sound.sessions).untaken h.place t.session t.at t.untaken.owner

  stream : HasItsStream y node taken
  stream = l.prefixes.streams.each s y q node new there taken (inl (h.place, at))

  far : stream.talk.far ≡ Some (end_of node t.session.stream)
  far = ap (λ k. end_at stream.talk k) (sym free.0 ∙ stream.role) ∙ stream.ends

  odd : t.session.stream % 2 ≡ 1
  odd =
      far_odd s (length y.seats) y.dials stream.talk node t.session.stream q.good
      (every_at (λ (u : StreamState). HasGoodEnds s (length y.seats) y.dials u.near u.number u.far) y.streams (l.prefixes.ready.ends s y q) stream.place stream.talk stream.stands) far

  open_is : IsSome (past_of new.core.streams t.session.stream)
  open_is = ((reached_in_order l.prefixes.ties s y q).sound node new there).1.sessions_open h.place taken at free.1

  opened : (x : StreamRecord) → record_of new.core.streams t.session.stream ≡ Some x → IsDialledBy y stream.talk from
  opened x is = by_from x.from refl f.0 where
    f : RecordTold (λ number a. IsOpener s y (end_of node number) a) x × (x.number ≡ t.session.stream)
    f = record_is t.session.stream new.core.streams.records (RecordTold (λ number a. IsOpener s y (end_of node number) a)) (l.openers s y q node new there) x is

    by_opener : (a : Address) → x.from ≡ Some a → IsOpener s y (end_of node x.number) a → IsDialledBy y stream.talk from
    by_opener a e b =
        let same : b.talk ≡ stream.talk =
        same_Some b.talk stream.talk
        (sym b.stands
        ∙ (ap (λ k. slice_get y.streams k)
        (same_place l.prefixes.ready s y q (end_of node t.session.stream) b.place stream.place b.talk stream.talk Far Far b.stands (b.opened ∙ ap (λ k. Some (end_of node k)) f.1) stream.stands far)
        ∙ stream.stands)) in
        record {
          dialler = b.dialler;
          dialled = ap (λ (u : StreamState). seat_at y u.near.node) (sym same) ∙ b.dialled;
          address =
              sym (told b.number b.dialler.core.plan.address)
              ∙ (sym b.told ∙ sym (t.peer ∙ (ap (λ z. address_or (opener_of z t.session.stream)) (sym streams_same) ∙ (ap (λ k. address_or (from_in k)) is ∙ ap address_or e))));
        }

    by_from : (b : Option Address) → x.from ≡ b → ToldBy (λ number a. IsOpener s y (end_of node number) a) x.number b → IsDialledBy y stream.talk from
    by_from None e even = absurd (let zero : t.session.stream % 2 ≡ 0 = ap (λ k. k % 2) (sym f.1) ∙ even in let one = odd in omega (arith, zero, one))
    by_from (Some a) e b = by_opener a e b

  by : IsDialledBy y stream.talk from
  by = by_record (record_of new.core.streams t.session.stream) refl open_is where
    by_record : (b : Option StreamRecord) → record_of new.core.streams t.session.stream ≡ b → IsSome (past_in b) → IsDialledBy y stream.talk from
    by_record None e some = absurd (true≢false (sym some))
    by_record (Some x) e some = opened x e

  pub new_opener : IsOpenedBy y node new.core.sessions (record { handle = h; address = from })
  new_opener = record { session = taken; made = inl (h.place, at); number = t.number; owner = refl; place = stream.place; talk = stream.talk; stands = stream.stands; far = far; by = by }
