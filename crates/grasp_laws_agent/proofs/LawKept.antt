-- What is true of every agent stays so, whatever happens.
use Rattle.std.proofs.Common.{◌≡◌, ℕ, ◌+◌, Bool, true, false, cond, nat_lt, All, List, [], ◌∷◌, slice_get, Option, Some, None, Ok, Err, IfSome, Contains, is_none, fold, refl, sym, ap, subst, arith}
use Rattle.std.proofs.lemmas.List.Elements.{All-nil, All-head, All-tail}
use Rattle.grasp_types.specs.Prefix.{AddressBlock as Prefix, IsPrefix}
use Rattle.grasp_types.specs.declared.address.Locator.{Locator}
use Rattle.grasp_types.specs.declared.reply.Reply.{Reply}
use Rattle.grasp_types.specs.declared.reply.Reply.TheVariants as reply
use Rattle.grasp_types.specs.declared.session.Handle.{Handle}
use Rattle.grasp_types.specs.declared.session.Progress.{Progress}
use Rattle.grasp_types.specs.declared.session.Progress.TheVariants as progress
use Rattle.grasp_pool.specs.Holdings.{Holding}
use Rattle.grasp_pool.specs.Functions.{around, after_take_at}
use Rattle.grasp_pool.specs.Pools.{IsPool, room_of}
use Rattle.grasp_agent.specs.Decisions.{requester_decision}
use Rattle.grasp_agent.specs.Kept.{returned as given_back, ActStands, IsFresh, IsInRange, IsKept}
use Rattle.grasp_agent.specs.Laws.{IsPossible, AgentsAreKept}
use Rattle.grasp_agent.specs.Replies.{AgentEvent, wanted, returned, replied, after_event, after_want, want_reply, new_want, after_return, return_reply, answer_in, asa_in, incoming_in, started_in, progress_in, after_registering, after_opening, after_act, after_starting, after_asking, after_sending, after_unsent, after_returning, after_want_progress, want_end, after_back_progress, after_give_progress, after_duty, after_serving, advanced, after_reply}
use Rattle.grasp_agent.specs.States.{AgentState, first_agent, is_open, want_session, want_length, duties, duty_of}
use Rattle.grasp_agent.specs.declared.act.Act.{Act}
use Rattle.grasp_agent.specs.declared.act.Act.TheVariants as act
use Rattle.grasp_agent.specs.declared.back.Return.{Return}
use Rattle.grasp_agent.specs.declared.back.ReturnFault.TheVariants as return
use Rattle.grasp_agent.specs.declared.duty.Duty.{Duty}
use Rattle.grasp_agent.specs.declared.duty.Duty.TheVariants as duty
use Rattle.grasp_agent.specs.declared.giving.Giving.{Giving}
use Rattle.grasp_agent.specs.declared.stage.Stage.{Stage}
use Rattle.grasp_agent.specs.declared.stage.Stage.TheVariants as stage
use Rattle.grasp_agent.specs.declared.want.Want.{Want}
use Rattle.grasp_agent.specs.declared.want.WantEnd.{WantEnd}
use Rattle.grasp_agent.specs.declared.want.WantEnd.TheVariants as end
use Rattle.grasp_agent.specs.declared.want.WantFault.TheVariants as fault
use Rattle.grasp_agent.proofs.KeepDecisions.{ask_asked}
use Rattle.grasp_laws_agent.proofs.LawNext.{its_duty}
use Rattle.grasp_agent.proofs.Keeping.{opened, new_kept, kept_incoming, kept_dropping, kept_doing, kept_asked, kept_giver_turn, kept_giver_end}
use Rattle.grasp_agent.proofs.Returning.{kept_returning, kept_handed, kept_unsent, kept_heard}

-- an agent that has made shut call
pub kept_first : (h : Holding) → IsPool h → h.reserved ≡ [] → IsKept (first_agent h)
kept_first h pool none = record {
  pool = pool;
  few = omega arith;
  reserved = λ p. (λ has. subst (λ ps. Contains ps p) none has, λ has. subst (λ ps. Contains ps p) (sym none) has);
  once = λ i j d lt within. absurd (omega arith);
  first = All-nil (λ g. IsFresh g);
  want = tt;
  idle = λ shut. (refl, refl, refl, refl);
  act = tt;
}

-- ---- what neither the pool nor the sessions see

pub kept_moved : (s : AgentState) (asa cursor : ℕ) (st : Stage) → (is_open st ≡ false → is_open s.stage ≡ false) → IsKept s
    → IsKept (record s { asa = asa; stage = st; cursor = cursor })
kept_moved s asa cursor st still k = record {
  pool = k.pool;
  few = k.few;
  reserved = k.reserved;
  once = k.once;
  first = k.first;
  want = k.want;
  idle = λ shut. k.idle (still shut);
  act = by s.act k.act;
}
  where
    same : (a : Act) → ActStands s a → ActStands (record s { asa = asa; stage = st; cursor = cursor }) a
    same (act.Offer place h p) stands = stands
    same _ stands = stands

    by : (o : Option Act) → IfSome o (λ a. ActStands s a) → IfSome o (λ a. ActStands (record s { asa = asa; stage = st; cursor = cursor }) a)
    by None stands = tt
    by (Some a) stands = same a stands

-- with nothing to be done a want may change
pub kept_want : (s : AgentState) (w : Option Want) (l : Option WantEnd) → s.act ≡ None → is_open s.stage ≡ true → IfSome w (λ x. IsInRange x) → IsKept s
    → IsKept (record s { want = w; last = l })
kept_want s w l idle serves range k = record {
  pool = k.pool;
  few = k.few;
  reserved = k.reserved;
  once = k.once;
  first = k.first;
  want = range;
  idle = opened s (record s { want = w; last = l }) serves;
  act = subst (λ o. IfSome o (λ a. ActStands (record s { want = w; last = l }) a)) (sym idle) tt;
}

choice_kept : (b : Bool) (x y : AgentState) → IsKept x → IsKept y → IsKept (cond b x y)
choice_kept true x y h k = h
choice_kept false x y h k = k

-- ---- the opening calls

registering_kept : (s : AgentState) (o : Option ℕ) → is_open s.stage ≡ false → IsKept s → IsKept (after_registering s o)
registering_kept s None shut k = k
registering_kept s (Some n) shut k = kept_moved s n s.cursor stage.Declaring (λ e. shut) k

opening_kept : (s : AgentState) (st : Stage) (r : Reply) → IsKept (record s { stage = st }) → IsKept (after_opening (record s { stage = st }) r)
opening_kept s stage.Registering r k = registering_kept (record s { stage = stage.Registering }) (asa_in (answer_in r)) refl k
opening_kept s stage.Declaring r k = choice_kept _ _ _ (kept_moved (record s { stage = stage.Declaring }) s.asa s.cursor stage.Opening (λ e. refl) k) k
opening_kept s stage.Opening r k =
    let t : AgentState = record s { stage = stage.Serving }
    in choice_kept _ _ _ (kept_incoming t (incoming_in (answer_in r)) refl (kept_moved (record s {
      stage =
          stage.Opening;
    }) s.asa s.cursor stage.Serving (λ e. refl) k)) k
opening_kept s stage.Serving r k = k

-- ---- acts and the request of a want

act_kept : (s : AgentState) (a : Act) (r : Reply) → s.act ≡ Some a → IsKept s → IsKept (after_act s a r)
act_kept s a (reply.Refused x) e k = kept_dropping s a e k
act_kept s a (reply.Api x) e k = choice_kept _ _ _ (kept_doing s a e k) k
act_kept s a _ e k = k

starting_kept : (s : AgentState) (w : Option Want) (o : Option Handle) → s.act ≡ None → is_open s.stage ≡ true → IfSome w (λ x. IsInRange x) → IsKept s
    → IsKept (after_starting s w o)
starting_kept s None o idle serves range k = k
starting_kept s (Some w) None idle serves range k = k
starting_kept s (Some w) (Some h) idle serves range k = kept_want s (Some (record w { session = Some h })) s.last idle serves range k

asking_kept : (s : AgentState) (r : Reply) → s.act ≡ None → is_open s.stage ≡ true → IsKept s → IsKept (after_asking s r)
asking_kept s (reply.Refused x) idle serves k = kept_want s None (Some (end.Refused x)) idle serves tt k
asking_kept s (reply.Api a) idle serves k = starting_kept s s.want (started_in (Some a)) idle serves k.want k
asking_kept s _ idle serves k = starting_kept s s.want None idle serves k.want k

-- ---- the request of a return

sending_kept : (s : AgentState) (b : Option Return) (o : Option Handle) → s.back ≡ b → s.act ≡ None → is_open s.stage ≡ true → IsKept s
    → IsKept (after_sending s b o)
sending_kept s None o is idle serves k = k
sending_kept s (Some b) None is idle serves k = k
sending_kept s (Some b) (Some h) is idle serves k = kept_handed s b h is idle serves k

unsent_kept : (s : AgentState) (b : Option Return) → s.back ≡ b → s.act ≡ None → IsKept s → IsKept (after_unsent s b)
unsent_kept s None is idle k = k
unsent_kept s (Some b) is idle k = kept_unsent s b.prefix (ap given_back is) k idle

returning_kept : (s : AgentState) (r : Reply) → s.act ≡ None → is_open s.stage ≡ true → IsKept s → IsKept (after_returning s r)
returning_kept s (reply.Refused x) idle serves k = unsent_kept s s.back refl idle k
returning_kept s (reply.Api a) idle serves k = sending_kept s s.back (started_in (Some a)) refl idle serves k
returning_kept s _ idle serves k = sending_kept s s.back None refl idle serves k

-- ---- duties

back_kept : (s : AgentState) (b : Option Return) (p : Option Progress) → s.back ≡ b → s.act ≡ None → IsKept s → IsKept (after_back_progress s b p)
back_kept s (Some b) (Some (progress.Ended e)) is idle k = kept_heard s b.prefix (ap given_back is) k e idle
back_kept s _ _ is idle k = k

want_kept : (s : AgentState) (w : Option Want) (h : Handle) (p : Option Progress) → w ≡ s.want → s.act ≡ None → is_open s.stage ≡ true
    → want_session s.want ≡ Some h
    → IsKept s → IsKept (after_want_progress s w h p)
want_kept s (Some w) h (Some (progress.Turn o)) is idle serves at k =
    kept_asked s h w.length (requester_decision s.pool w.length w.longest o.value o.loops) serves at
    (sym (ap want_length is)) (ask_asked s.pool w.length w.longest o.value o.loops) k
want_kept s (Some w) h (Some (progress.Ended e)) is idle serves at k = kept_want s None (Some (want_end e)) idle serves tt k
want_kept s _ h _ is idle serves at k = k

giving_kept : (s : AgentState) (place : ℕ) (o : Option Giving) (p : Option Progress) → slice_get s.giving place ≡ o → s.act ≡ None → is_open s.stage ≡ true
    → IsKept s
    → IsKept (after_give_progress s place o p)
giving_kept s place (Some g) (Some (progress.Turn o)) at idle serves k = kept_giver_turn s place g o at serves k
giving_kept s place (Some g) (Some (progress.Ended e)) at idle serves k = kept_giver_end s place g e idle at serves k
giving_kept s place _ _ at idle serves k = k

duty_kept : (s : AgentState) (r : Reply) (d : Duty) → duty_of s ≡ d → s.act ≡ None → is_open s.stage ≡ true → IsKept s → IsKept (after_duty s d r)
duty_kept s r duty.Listen e idle serves k = kept_incoming s (incoming_in (answer_in r)) serves k
duty_kept s r (duty.Want h) e idle serves k =
    want_kept s s.want h (progress_in (answer_in r)) refl idle serves (its_duty s (duty.Want h) e) k
duty_kept s r (duty.Return h) e idle serves k = back_kept s s.back (progress_in (answer_in r)) refl idle k
duty_kept s r (duty.Give place h) e idle serves k = giving_kept s place (slice_get s.giving place) (progress_in (answer_in r)) refl idle serves k

advanced_kept : (s : AgentState) → IsKept s → IsKept (advanced s)
advanced_kept s k = kept_moved s s.asa (cond (nat_lt (s.cursor + 1) (duties s)) (s.cursor + 1) 0) s.stage (λ e. e) k

-- ---- replies, wants and returns

serving_kept : (s : AgentState) (a : Option Act) (r : Reply) → s.act ≡ a → is_open s.stage ≡ true → IsKept s → IsKept (after_serving s a r)
serving_kept s (Some a) r e serves k = act_kept s a r e k
serving_kept s None r e serves k =
    choice_kept _ _ _ (asking_kept s r e serves k)
    (choice_kept _ _ _ (returning_kept s r e serves k) (advanced_kept (after_duty s (duty_of s) r) (duty_kept s r (duty_of s) refl e serves k)))

-- a reply keeps what is true of every agent
pub kept_reply : (s : AgentState) (r : Reply) → IsKept s → IsKept (after_reply s r)
unfolding after_reply
kept_reply s r k = choice_kept _ _ _ k (by (is_open s.stage) refl)
  where
    by : (b : Bool) → is_open s.stage ≡ b → IsKept (cond b (after_serving s s.act r) (after_opening s r))
    by true e = serving_kept s s.act r refl e k
    by false e = opening_kept s s.stage r k

kept_wanted : (s : AgentState) (w : Option Want) (n longest : ℕ) (peer : Locator) → IsInRange (new_want n longest peer) → IsKept (record s { want = w })
    → IsKept (after_want (record s { want = w }) n longest peer (want_reply (record s { want = w })))
kept_wanted s None n longest peer range k = by (nat_lt 0 (room_of s.pool))
  where
    by : (b : Bool) → IsKept (after_want (record s { want = None }) n longest peer (cond b (Ok tt) (Err fault.Full)))
    by true = new_kept s (new_want n longest peer) refl range k
    by false = k
kept_wanted s (Some w) n longest peer range k = k

kept_returned : (s : AgentState) (b : Option Return) (p : Prefix) (peer : Locator) → IsPrefix p.address p.length → IsKept (record s { back = b })
    → IsKept (after_return (record s { back = b }) p peer (return_reply (record s { back = b }) p))
kept_returned s None p peer valid k = by (around s.pool.free p) refl (nat_lt (room_of s.pool) 128) refl
  where
    by : (o : Option Prefix) → around s.pool.free p ≡ o → (b : Bool) → nat_lt (room_of s.pool) 128 ≡ b
        → IsKept (after_return (record s { back = None }) p peer (cond (is_none o) (Err return.NotFree) (cond b (Err return.Full) (Ok tt))))
    by None e b f = k
    by (Some w) e true f = k
    by (Some w) e false f = kept_returning (record s { back = None }) p peer (after_take_at s.pool p true) refl valid (rw (f, e) refl) refl k
kept_returned s (Some b) p peer valid k = k

pub kept_event : (s : AgentState) (e : AgentEvent) → IsPossible e → IsKept s → IsKept (after_event s e)
kept_event s (wanted n longest peer) range k = kept_wanted s s.want n longest peer range k
kept_event s (returned p peer) valid k = kept_returned s s.back p peer valid k
kept_event s (replied r) range k = kept_reply s r k

kept_events : (s : AgentState) (es : List AgentEvent) → All (λ e. IsPossible e) es → IsKept s → IsKept (fold after_event s es)
kept_events s [] all k = k
kept_events s (e ∷ es) all k =
    kept_events (after_event s e) es (All-tail (λ e. IsPossible e) e es all) (kept_event s e (All-head (λ e. IsPossible e) e es all) k)

-- whatever happens to an agent
pub agents_are_kept : AgentsAreKept
agents_are_kept h events pool none all = kept_events (first_agent h) events all (kept_first h pool none)
