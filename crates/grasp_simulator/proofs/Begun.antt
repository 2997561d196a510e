-- What an agent has just begun to offer, as the code tells it by what the agent was to offer before and after a call.
use Rattle.std.proofs.Common.{◌≡◌, ◌⊎◌, ℕ, cond, inl, inr, refl, sym, ap, ◌∙◌, true, false, Option, Some, None, option_map}
use Rattle.std.proofs.lemmas.Bool.{true≢false}
use Rattle.std.proofs.lemmas.Option.{none-some}
use Rattle.grasp_agent.specs.Calls.{next_call, serving_call, opening_call, asking_call, returning_call, duty_call}
use Rattle.grasp_agent.specs.Kept.{IsKept}
use Rattle.grasp_agent.specs.Replies.{after_reply, give_act, want_act}
use Rattle.grasp_agent.specs.States.{AgentState, back_session, offered_by, unsent_of, is_asking, is_returning, duty_of}
use Rattle.grasp_agent.specs.declared.act.Act.{Act}
use Rattle.grasp_agent.specs.declared.act.Act.TheVariants as act
use Rattle.grasp_agent.specs.declared.back.Return.{Return}
use Rattle.grasp_agent.specs.declared.decision.GiverDecision.{GiverDecision}
use Rattle.grasp_agent.specs.declared.decision.GiverDecision.TheVariants as giver
use Rattle.grasp_agent.specs.declared.decision.RequesterDecision.{RequesterDecision}
use Rattle.grasp_agent.specs.declared.decision.RequesterDecision.TheVariants as requester
use Rattle.grasp_agent.specs.declared.want.Want.{Want}
use Rattle.grasp_agent.specs.declared.duty.Duty.{Duty}
use Rattle.grasp_agent.specs.declared.duty.Duty.TheVariants as duty
use Rattle.grasp_laws_agent.proofs.LawMoves.{moves_are_made}
use Rattle.grasp_laws_agent.proofs.LawStays.{nothing_else_moves}
use Rattle.grasp_laws_agent.specs.Moves.{Move, comes_in, starts, is_refused, considers, finishes, hands, is_unsent, hears, is_made, is_dropped, gives, leaves, Happens, Effect, IsNext, NothingMoves}
use Rattle.grasp_model_network.specs.Offers.{just_offered, just_handed}
use Rattle.grasp_types.specs.Prefix.{AddressBlock as Prefix}
use Rattle.grasp_types.specs.declared.call.Call.{Call}
use Rattle.grasp_types.specs.declared.reply.Reply.{Reply}
use Rattle.grasp_types.specs.declared.session.Handle.{Handle}
use Rattle.grasp_simulator.specs.Remembering.{offering_of, begun_in, begun_of, begun_with, handed_in, polled_in, started_by}

-- ---- the call of a duty

asking_duty : (w : Option Want) (back : Option Return) (d : Duty) → is_asking w ≡ false → is_returning back ≡ false → asking_call w back d ≡ duty_call d
asking_duty w back d asked sent = by_want w asked where
  by_back : (b : Option Return) → is_returning b ≡ false → returning_call b d ≡ duty_call d
  by_back None e = refl
  by_back (Some r) e = by_session r.session e where
    by_session : (o : Option Handle) → is_returning (Some (record r { session = o })) ≡ false → returning_call (Some (record r { session = o })) d ≡ duty_call d
    by_session None f = absurd (true≢false f)
    by_session (Some h) f = refl

  by_want : (o : Option Want) → is_asking o ≡ false → asking_call o back d ≡ duty_call d
  by_want None e = by_back back sent
  by_want (Some x) e = by_session x.session e where
    by_session : (o : Option Handle) → is_asking (Some (record x { session = o })) ≡ false → asking_call (Some (record x { session = o })) back d ≡ duty_call d
    by_session None f = absurd (true≢false f)
    by_session (Some h) f = by_back back sent

next_duty : (a : AgentState) (d : Duty) → IsNext a d → next_call a ≡ duty_call d
unfolding next_call
next_duty a d n =
    ap (λ b. cond b (serving_call a.act a.want a.back (duty_of a)) (opening_call a.stage)) n.serves
    ∙ (ap (λ (o : Option Act). serving_call o a.want a.back (duty_of a)) n.idle
    ∙ (asking_duty a.want a.back (duty_of a) n.asked n.sent ∙ ap duty_call n.duty))

-- ---- where nothing was decided to be offered

data NoneDecided (x y : Option Act) : Type 0 where
  offers_nothing : offered_by y ≡ None → NoneDecided x y
  is_same : y ≡ x → NoneDecided x y

just_by : (a b : AgentState) (x y : Option Act) → a.act ≡ x → b.act ≡ y → NoneDecided x y → just_offered (record a { act = x }) (record b { act = y }) ≡ just_handed (unsent_of a.back) (back_session b.back)
just_by a b None None e f n = refl
just_by a b None (Some (act.Offer place h p)) e f (offers_nothing none) = absurd (none-some p (sym none))
just_by a b None (Some (act.Offer place h p)) e f (is_same same) = absurd (none-some (act.Offer place h p) (sym same))
just_by a b None (Some _) e f n = refl
just_by a b (Some x) y e f n = refl

just_quiet : (a b : AgentState) → NoneDecided a.act b.act → just_offered a b ≡ just_handed (unsent_of a.back) (back_session b.back)
just_quiet a b n = just_by a b a.act b.act refl refl n

begun_quiet : (a b : AgentState) (c : Call) (r : Reply) → NoneDecided a.act b.act → begun_in (offering_of a) (offering_of b) c r ≡ handed_in (unsent_of a.back) (unsent_of b.back) r
begun_quiet a b c r n = by_acts (offered_by a.act) (offered_by b.act) (none_new n) where
  -- nothing is offered that wasn't
  none_new : NoneDecided a.act b.act → (offered_by b.act ≡ None) ⊎ (offered_by b.act ≡ offered_by a.act)
  none_new (offers_nothing none) = inl none
  none_new (is_same same) = inr (ap offered_by same)

  by_acts : (x y : Option Prefix) → (y ≡ None) ⊎ (y ≡ x)
      → begun_in (record { act = x; unsent = unsent_of a.back }) (record { act = y; unsent = unsent_of b.back }) c r ≡ handed_in (unsent_of a.back) (unsent_of b.back) r
  by_acts None None k = refl
  by_acts None (Some p) (inl none) = absurd (none-some p (sym none))
  by_acts None (Some p) (inr same) = absurd (none-some p (sym same))
  by_acts (Some p) None k = refl
  by_acts (Some p) (Some q) k = refl

-- ---- the return

-- how the return goes on: it stays, it is given up, or its session begins by the reply
data BackGoes (a b : AgentState) (r : Reply) : Type 0 where
  stays : b.back ≡ a.back → BackGoes a b r
  ends : b.back ≡ None → (unsent_of a.back ≡ None) ⊎ (started_by r ≡ None) → BackGoes a b r
  begins : (p : Prefix) (h : Handle) → unsent_of a.back ≡ Some p → unsent_of b.back ≡ None → back_session b.back ≡ Some h → started_by r ≡ Some h → BackGoes a b r

unsent_or_sent : (o : Option Return) → (unsent_of o ≡ None) ⊎ (back_session o ≡ None)
unsent_or_sent None = inl refl
unsent_or_sent (Some r) = by_session r.session where
  by_session : (o : Option Handle) → (unsent_of (Some (record r { session = o })) ≡ None) ⊎ (back_session (Some (record r { session = o })) ≡ None)
  by_session None = inr refl
  by_session (Some h) = inl refl

handed_none : (x : Option Prefix) (y : Option Handle) → (x ≡ None) ⊎ (y ≡ None) → just_handed x y ≡ None
handed_none None y k = refl
handed_none (Some p) None k = refl
handed_none (Some p) (Some h) (inl e) = absurd (none-some p (sym e))
handed_none (Some p) (Some h) (inr e) = absurd (none-some h (sym e))

same_handed : (x : Option Prefix) (r : Reply) → handed_in x x r ≡ None
same_handed None r = refl
same_handed (Some p) r = refl

ended_handed : (x : Option Prefix) (r : Reply) → (x ≡ None) ⊎ (started_by r ≡ None) → handed_in x None r ≡ None
ended_handed None r k = refl
ended_handed (Some p) r (inl e) = absurd (none-some p (sym e))
ended_handed (Some p) r (inr e) = ap (begun_with p) e

handed_is : (a b : AgentState) (r : Reply) → BackGoes a b r → handed_in (unsent_of a.back) (unsent_of b.back) r ≡ option_map begun_of (just_handed (unsent_of a.back) (back_session b.back))
handed_is a b r (stays same) =
    ap (λ (o : Option Return). handed_in (unsent_of a.back) (unsent_of o) r) same
    ∙ (same_handed (unsent_of a.back) r
    ∙ sym (ap (λ (o : Option Return). option_map begun_of (just_handed (unsent_of a.back) (back_session o))) same ∙ ap (option_map begun_of) (handed_none (unsent_of a.back) (back_session a.back) (unsent_or_sent a.back))))
handed_is a b r (ends none why) =
    ap (λ (o : Option Return). handed_in (unsent_of a.back) (unsent_of o) r) none
    ∙ (ended_handed (unsent_of a.back) r why
    ∙ sym (ap (λ (o : Option Return). option_map begun_of (just_handed (unsent_of a.back) (back_session o))) none ∙ ap (option_map begun_of) (handed_none (unsent_of a.back) None (inr refl))))
handed_is a b r (begins p h was now session started) =
    ap (λ (o : Option Prefix). handed_in o (unsent_of b.back) r) was
    ∙ (ap (λ (o : Option Prefix). handed_in (Some p) o r) now
    ∙ (ap (begun_with p) started
    ∙ sym (ap (λ (o : Option Prefix). option_map begun_of (just_handed o (back_session b.back))) was ∙ ap (λ (o : Option Handle). option_map begun_of (just_handed (Some p) o)) session)))

-- ---- all of it

abbrev IsTold : AgentState → AgentState → Reply → Type 0
IsTold a b r = begun_in (offering_of a) (offering_of b) (next_call a) r ≡ option_map begun_of (just_offered a b)

quietly : (a b : AgentState) (r : Reply) → NoneDecided a.act b.act → BackGoes a b r → IsTold a b r
quietly a b r n k = begun_quiet a b (next_call a) r n ∙ (handed_is a b r k ∙ ap (option_map begun_of) (sym (just_quiet a b n)))

unsent_none : (o : Option Return) → is_returning o ≡ false → unsent_of o ≡ None
unsent_none None e = refl
unsent_none (Some r) e = by_session r.session e where
  by_session : (o : Option Handle) → is_returning (Some (record r { session = o })) ≡ false → unsent_of (Some (record r { session = o })) ≡ None
  by_session None f = absurd (true≢false f)
  by_session (Some h) f = refl

unsent_some : (r : Return) → is_returning (Some r) ≡ true → unsent_of (Some r) ≡ Some r.prefix
unsent_some r e = by_session r.session e where
  by_session : (o : Option Handle) → is_returning (Some (record r { session = o })) ≡ true → unsent_of (Some (record r { session = o })) ≡ Some r.prefix
  by_session None f = refl
  by_session (Some h) f = absurd (true≢false (sym f))

wants_nothing : (h : Handle) (d : RequesterDecision) → offered_by (Some (want_act h d)) ≡ None
wants_nothing h (requester.Accept p) = refl
wants_nothing h (requester.Counter n) = refl
wants_nothing h (requester.Decline reason) = refl

decided : (a b : AgentState) (r : Reply) (place : ℕ) (h : Handle) (d : GiverDecision) → IsNext a (duty.Give place h) → b.act ≡ Some (give_act place h d) → b.back ≡ a.back → IsTold a b r
decided a b r place h (giver.Offer p) n is same = told ∙ ap (option_map begun_of) (sym just) where
  just : just_offered a b ≡ Some (record { prefix = p; handle = h })
  just = ap (λ x. just_offered (record a { act = x }) b) n.idle ∙ ap (λ x. just_offered (record a { act = None }) (record b { act = x })) is

  told : begun_in (offering_of a) (offering_of b) (next_call a) r ≡ Some (record { prefix = p; handle = h })
  told =
      ap (λ (o : Option Act). begun_in (record { act = offered_by o; unsent = unsent_of a.back }) (offering_of b) (next_call a) r) n.idle
      ∙ (ap (λ (o : Option Act). begun_in (record { act = None; unsent = unsent_of a.back }) (record { act = offered_by o; unsent = unsent_of b.back }) (next_call a) r) is
      ∙ ap (λ (c : Call). begun_with p (polled_in c)) (next_duty a (duty.Give place h) n))
decided a b r place h (giver.Accept p) n is same = quietly a b r (offers_nothing (ap offered_by is)) (stays same)
decided a b r place h (giver.Decline reason) n is same = quietly a b r (offers_nothing (ap offered_by is)) (stays same)

by_move : (a b : AgentState) (r : Reply) (m : Move) → Happens a r m → Effect a m b → IsTold a b r
by_move a b r (comes_in h) k e = quietly a b r (is_same e.3) (stays e.2)
by_move a b r (starts h) k e = quietly a b r (is_same e.3) (stays e.2)
by_move a b r (is_refused x) k e = quietly a b r (is_same e.3) (stays e.2)
by_move a b r (considers h o) k e = quietly a b r (offers_nothing (ap offered_by e.4.act ∙ wants_nothing h e.4.decision)) (stays e.3)
by_move a b r (finishes h x) k e = quietly a b r (is_same e.3) (stays e.2)
by_move a b r (hands h) k e =
    let was : Return = e.4.0 in
    let unsent : unsent_of a.back ≡ Some was.prefix = ap unsent_of e.4.1 ∙ unsent_some was (ap is_returning (sym e.4.1) ∙ k.0.returns) in
    quietly a b r (is_same e.3) (begins was.prefix h unsent (ap unsent_of e.4.2) (ap back_session e.4.2) k.1)
by_move a b r (is_unsent x) k e = quietly a b r (is_same e.2) (ends e.3 (inr (ap (λ (q : Reply). started_by q) k.1)))
by_move a b r (hears h x) k e = quietly a b r (is_same e.2) (ends e.3 (inl (unsent_none a.back k.0.sent)))
by_move a b r (is_made c) k e = quietly a b r (offers_nothing (ap offered_by e.3)) (stays e.2)
by_move a b r (is_dropped c) k e = quietly a b r (offers_nothing (ap offered_by e.2)) (stays e.1)
by_move a b r (gives place g o) k e = decided a b r place g.handle e.2.decision k.0 e.2.act e.1
by_move a b r (leaves place g x) k e = quietly a b r (is_same e.2) (stays e.1)

-- what the code tells is what was just offered
pub begun_is : (a : AgentState) (r : Reply) → IsKept a → IsTold a (after_reply a r) r
begun_is a r kept = by_case (nothing_else_moves a r) where
  by_case : ((m : Move) × Happens a r m) ⊎ NothingMoves a (after_reply a r) → IsTold a (after_reply a r) r
  by_case (inl h) = by_move a (after_reply a r) r h.0 h.1 (moves_are_made a r h.0 kept h.1)
  by_case (inr n) = quietly a (after_reply a r) r (is_same n.act) (stays n.back)
