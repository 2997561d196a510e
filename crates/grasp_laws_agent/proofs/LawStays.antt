-- Where no move happens to an agent nothing but its number, its stage and its cursor changes.
use Rattle.std.proofs.Common.{◌≡◌, ◌⊎◌, inl, inr, ℕ, ◌<◌, ◌≤◌, nat_lt, Bool, true, false, cond, [], ◌∷◌, ◌++◌, length, slice_get, Option, Some, None, refl, subst}
use Rattle.grasp_types.specs.declared.reply.ApiAnswer.TheVariants as answer
use Rattle.grasp_types.specs.declared.reply.Reply.{Reply}
use Rattle.grasp_types.specs.declared.reply.Reply.TheVariants as reply
use Rattle.grasp_types.specs.declared.session.Handle.{Handle}
use Rattle.grasp_types.specs.declared.session.Progress.{Progress}
use Rattle.grasp_types.specs.declared.session.Progress.TheVariants as progress
use Rattle.grasp_pool.proofs.Lists.{lt_tells}
use Rattle.grasp_laws_agent.specs.Moves.{Move, comes_in, starts, is_refused, considers, finishes, hands, is_unsent, hears, is_made, is_dropped, gives, leaves, IsNext, IsRequesting, IsReturning, Happens, NothingMoves, NothingElseMoves}
use Rattle.grasp_agent.specs.Replies.{answer_in, is_again, is_answered, is_done, asa_in, incoming_in, progress_in, after_incoming, after_registering, after_opening, after_act, after_starting, after_asking, after_sending, after_returning, after_want_progress, after_back_progress, after_give_progress, after_duty, after_serving, advanced, after_reply}
use Rattle.grasp_agent.specs.States.{AgentState, is_open, is_asking, is_returning, duty_of}
use Rattle.grasp_agent.specs.declared.act.Act.{Act}
use Rattle.grasp_agent.specs.declared.back.Return.{Return}
use Rattle.grasp_agent.specs.declared.duty.Duty.{Duty}
use Rattle.grasp_agent.specs.declared.duty.Duty.TheVariants as duty
use Rattle.grasp_agent.specs.declared.giving.Giving.{Giving}
use Rattle.grasp_agent.specs.declared.stage.Stage.{Stage}
use Rattle.grasp_agent.specs.declared.stage.Stage.TheVariants as stage
use Rattle.grasp_agent.specs.declared.want.Want.{Want}
use Rattle.grasp_laws_agent.proofs.Facts.{itself}
use Rattle.grasp_laws_agent.proofs.LawEffects.{duty_handle}

-- a move happens, or nothing does
abbrev Tells : AgentState → Reply → AgentState → Type 0
Tells s r t = ((m : Move) × Happens s r m) ⊎ NothingMoves s t

-- nothing changed but the number, the stage and the cursor
quiet : (s t : AgentState) → t.pool ≡ s.pool → t.giving ≡ s.giving → t.want ≡ s.want → t.last ≡ s.last → t.back ≡ s.back → t.act ≡ s.act → NothingMoves s t
quiet s t pool giving want last back act = record { pool = pool; giving = giving; want = (want, last); back = back; act = act }

-- a choice between two agents
choice_tells : (s : AgentState) (r : Reply) (b : Bool) (x y : AgentState) → Tells s r x → Tells s r y → Tells s r (cond b x y)
choice_tells s r true x y h k = h
choice_tells s r false x y h k = k

-- the cursor isn't seen
advanced_tells : (s t : AgentState) (r : Reply) → Tells s r t → Tells s r (advanced t)
advanced_tells s t r (inl h) = inl h
advanced_tells s t r (inr n) = inr (quiet s (advanced t) n.pool n.giving n.want.0 n.want.1 n.back n.act)

-- ---- a session comes in, or none

-- where x is the agent that may listen
incoming_tells : (s x : AgentState) (r : Reply) (o : Option Handle) → NothingMoves s x → length x.giving ≡ length s.giving
    → ((h : Handle) → o ≡ Some h → length s.giving < 64 → Happens s r (comes_in h)) → Tells s r (after_incoming x o)
incoming_tells s x r None n many comes = inr n
incoming_tells s x r (Some h) n many comes = by (nat_lt (length x.giving) 64) (lt_tells (length x.giving) 64)
  where
    by : (b : Bool) → ((b ≡ true) × (length x.giving < 64)) ⊎ ((b ≡ false) × (64 ≤ length x.giving))
        → Tells s r (cond b (record x { giving = x.giving ++ record { handle = h; offer = None; first = true } ∷ [] }) x)
    by true (inl t) = inl (comes_in h, comes h refl (subst (λ (k : ℕ). k < 64) many t.1))
    by true (inr t) = absurd (cc)
    by false t = inr n

-- ---- the opening calls

registering_tells : (s x : AgentState) (r : Reply) (o : Option ℕ) → NothingMoves s x → Tells s r (after_registering x o)
registering_tells s x r None n = inr n
registering_tells s x r (Some a) n = inr (quiet s _ n.pool n.giving n.want.0 n.want.1 n.back n.act)

opening_tells : (s : AgentState) (st : Stage) (r : Reply) → s.stage ≡ st → Tells s r (after_opening (record s { stage = st }) r)
opening_tells s stage.Registering r is =
    registering_tells s (record s { stage = stage.Registering }) r (asa_in (answer_in r)) (quiet s _ refl refl refl refl refl refl)
opening_tells s stage.Declaring r is =
    choice_tells s r (is_done (answer_in r)) _ _ (inr (quiet s _ refl refl refl refl refl refl)) (inr (quiet s _ refl refl refl refl refl refl))
opening_tells s stage.Opening r is =
    choice_tells s r (is_answered r) _ _
    (incoming_tells s (record s { stage = stage.Serving }) r (incoming_in (answer_in r))
    (quiet s _ refl refl refl refl refl refl) refl (λ h told few. (inl is, told, few)))
    (inr (quiet s _ refl refl refl refl refl refl))
opening_tells s stage.Serving r is = inr (quiet s _ refl refl refl refl refl refl)

-- ---- acts

act_tells : (s : AgentState) (a : Act) (r : Reply) → s.act ≡ Some a → is_again r ≡ false → Tells s r (after_act s a r)
act_tells s a (reply.Refused x) e again = inl (is_dropped a, (e, (x, refl), again))
act_tells s a (reply.Api answer.Done) e again = inl (is_made a, (e, refl))
act_tells s a _ e again = inr (itself s)

-- ---- the request of a want

not_started : (s : AgentState) (w : Option Want) → NothingMoves s (after_starting s w None)
not_started s None = itself s
not_started s (Some w) = itself s

asking_tells : (s : AgentState) (r : Reply) → IsRequesting s → is_again r ≡ false → Tells s r (after_asking s r)
asking_tells s (reply.Refused x) n again = inl (is_refused x, (n, refl, again))
asking_tells s (reply.Api (answer.Started h)) n again = inl (starts h, (n, refl))
asking_tells s _ n again = inr (not_started s s.want)

-- ---- the request of a return

not_sent : (s : AgentState) (b : Option Return) → NothingMoves s (after_sending s b None)
not_sent s None = itself s
not_sent s (Some b) = itself s

returning_tells : (s : AgentState) (r : Reply) → IsReturning s → is_again r ≡ false → Tells s r (after_returning s r)
returning_tells s (reply.Refused x) n again = inl (is_unsent x, (n, refl, again))
returning_tells s (reply.Api (answer.Started h)) n again = inl (hands h, (n, refl))
returning_tells s _ n again = inr (not_sent s s.back)

-- ---- duties

back_tells : (s : AgentState) (r : Reply) (b : Option Return) (h : Handle) (p : Option Progress) → IsNext s (duty.Return h) → progress_in (answer_in r) ≡ p
    → Tells s r (after_back_progress s b p)
back_tells s r (Some b) h (Some (progress.Ended e)) n told = inl (hears h e, (n, told))
back_tells s r _ h _ n told = inr (itself s)

want_tells : (s : AgentState) (r : Reply) (w : Option Want) (h : Handle) (p : Option Progress) → IsNext s (duty.Want h) → progress_in (answer_in r) ≡ p
    → Tells s r (after_want_progress s w h p)
want_tells s r (Some w) h (Some (progress.Turn o)) n told = inl (considers h o, (n, told))
want_tells s r (Some w) h (Some (progress.Ended e)) n told = inl (finishes h e, (n, told))
want_tells s r _ h _ n told = inr (itself s)

giving_tells : (s : AgentState) (r : Reply) (place : ℕ) (g : Giving) (p : Option Progress) → IsNext s (duty.Give place g.handle)
    → slice_get s.giving place ≡ Some g
    → progress_in (answer_in r) ≡ p → Tells s r (after_give_progress s place (Some g) p)
giving_tells s r place g None n at told = inr (itself s)
giving_tells s r place g (Some progress.NotYet) n at told = inr (itself s)
giving_tells s r place g (Some (progress.Turn o)) n at told = inl (gives place g o, (n, at, told))
giving_tells s r place g (Some (progress.Ended e)) n at told = inl (leaves place g e, (n, at, told))

duty_tells : (s : AgentState) (r : Reply) (d : Duty) → IsNext s d → Tells s r (after_duty s d r)
duty_tells s r duty.Listen n = incoming_tells s s r (incoming_in (answer_in r)) (itself s) refl (λ h told few. (inr n, told, few))
duty_tells s r (duty.Want h) n = want_tells s r s.want h (progress_in (answer_in r)) n refl
duty_tells s r (duty.Return h) n = back_tells s r s.back h (progress_in (answer_in r)) n refl
duty_tells s r (duty.Give place h) n = by (slice_get s.giving place) refl
  where
    by : (o : Option Giving) → slice_get s.giving place ≡ o → Tells s r (after_give_progress s place o (progress_in (answer_in r)))
    by None at = inr (itself s)
    by (Some g) at =
        let same = duty_handle s place h g n.duty at
        in giving_tells s r place g (progress_in (answer_in r)) (subst (λ x. IsNext s (duty.Give place x)) same n) at refl

-- ---- replies

serving_tells : (s : AgentState) (a : Option Act) (r : Reply) → s.act ≡ a → is_open s.stage ≡ true → is_again r ≡ false → Tells s r (after_serving s a r)
serving_tells s (Some a) r e serves again = act_tells s a r e again
serving_tells s None r e serves again = by (is_asking s.want) refl (is_returning s.back) refl
  where
    by : (b : Bool) → is_asking s.want ≡ b → (c : Bool) → is_returning s.back ≡ c
        → Tells s r (cond b (after_asking s r) (cond c (after_returning s r) (advanced (after_duty s (duty_of s) r))))
    by true asks c f = asking_tells s r (record { serves = serves; idle = e; asks = asks }) again
    by false asked true returns = returning_tells s r (record { serves = serves; idle = e; asked = asked; returns = returns }) again
    by false asked false sent =
        advanced_tells s (after_duty s (duty_of s) r) r
        (duty_tells s r (duty_of s) (record { serves = serves; idle = e; asked = asked; sent = sent; duty = refl }))

pub nothing_else_moves : NothingElseMoves
unfolding after_reply
nothing_else_moves s r = by (is_again r) refl (is_open s.stage) refl
  where
    by : (b : Bool) → is_again r ≡ b → (c : Bool) → is_open s.stage ≡ c → Tells s r (cond b s (cond c (after_serving s s.act r) (after_opening s r)))
    by true e c f = inr (itself s)
    by false e true f = serving_tells s s.act r refl f e
    by false e false f = opening_tells s s.stage r refl
