-- What is true of every agent stays so.
use Rattle.std.proofs.Common.{◌≡◌, ℕ, ◌+◌, ◌<◌, ◌≤◌, All, List, [], ◌∷◌, ◌++◌, length, slice_get, slice_set, drop, take, Bool, true, false, cond, nat_lt, Option, Some, None, refl, sym, ap, subst, ◌∙◌, arith, IfSome, length-append, length-set, length-take, length-drop, Contains, ltb-true}
use Rattle.std.proofs.lemmas.List.Elements.{All-append, All-set, All-take, All-drop, All-nil, All-cons}
use Rattle.std.proofs.lemmas.Option.{slice_get_within}
use Rattle.grasp_types.specs.Prefix.{AddressBlock as Prefix, IsPrefix}
use Rattle.grasp_types.specs.declared.objective.Objective.{Objective}
use Rattle.grasp_types.specs.declared.session.Handle.{Handle}
use Rattle.grasp_types.specs.declared.session.Outcome.{Outcome}
use Rattle.grasp_pool.specs.Holdings.{Holding}
use Rattle.grasp_pool.specs.Functions.{can_gain, after_back, after_gain, after_gaining}
use Rattle.grasp_pool.proofs.Gaining.{can_gain_tells}
use Rattle.grasp_pool.proofs.Meanings.{gain_keeps}
use Rattle.grasp_agent.specs.Decisions.{giver_decision, after_deciding}
use Rattle.grasp_agent.specs.Kept.{offer_and, offers, returned, offered, MayAccept, accepts_in_want, accepts_in_giving, MayDecline, declines_in_want, declines_in_giving, ActStands, IsFresh, IsInRange, IsIdle, IsKept}
use Rattle.grasp_agent.specs.Replies.{after_incoming, offering, without_offer, after_dropping, after_doing, want_act, giving_back, give_act, deciding, removed, after_giver_turn, after_giver_end}
use Rattle.grasp_agent.specs.States.{AgentState, is_open, want_session, want_length}
use Rattle.grasp_agent.specs.declared.act.Act.{Act}
use Rattle.grasp_agent.specs.declared.act.Act.TheVariants as act
use Rattle.grasp_agent.specs.declared.decision.GiverDecision.{GiverDecision}
use Rattle.grasp_agent.specs.declared.decision.GiverDecision.TheVariants as giver
use Rattle.grasp_agent.specs.declared.decision.RequesterDecision.{RequesterDecision}
use Rattle.grasp_agent.specs.declared.decision.RequesterDecision.TheVariants as requester
use Rattle.grasp_agent.specs.declared.giving.Giving.{Giving}
use Rattle.grasp_agent.specs.declared.want.Want.{Want}
use Rattle.grasp_agent.proofs.Offers.{before, behind, set_get, get_append, and_append, and_more, offers_at, offers_set, offers_removed, offer_there}
use Rattle.grasp_agent.proofs.OfferPools.{IsBacked, backed_back, backed_giving_back, backed_settling, backed_given}
use Rattle.grasp_agent.proofs.KeepDecisions.{AskedBy, GivenBy, give_given}

-- the pool and the offers of an agent
pub backed : (s : AgentState) → IsKept s → IsBacked s.pool (offered s)
backed s k = record { pool = k.pool; are = record { same = k.reserved; once = k.once } }

-- each giving session that has offered nothing yet has shut offer
abbrev AreFresh : List Giving → Type 0
AreFresh giving = All (λ g. IsFresh g) giving

-- before its opening calls are done an agent is idle
abbrev IsIdleAtFirst : AgentState → Type 0
IsIdleAtFirst s = is_open s.stage ≡ false → IsIdle s

-- what is true of every agent, from its pool with its offers
pub kept_of : (s : AgentState) → IsBacked s.pool (offered s) → length s.giving ≤ 64 → AreFresh s.giving → IfSome s.want (λ w. IsInRange w) → IsIdleAtFirst s
    → IfSome s.act (λ a. ActStands s a) → IsKept s
kept_of s b few first want idle stands =
    record { pool = b.pool; few = few; reserved = b.are.same; once = b.are.once; first = first; want = want; idle = idle; act = stands }

-- an agent whose opening calls are done
pub opened : (s t : AgentState) → is_open s.stage ≡ true → is_open s.stage ≡ false → IsIdle t
opened s t serves shut = absurd (cc)

-- an agent that has an act has done its opening calls
pub acted : (s t : AgentState) (a : Act) → s.act ≡ Some a → IsKept s → is_open s.stage ≡ false → IsIdle t
acted s t a e k shut = let none : s.act ≡ None = (k.idle shut).3 in absurd (cc)

-- ---- acts where an agent changes

module _ (a b : Option Handle) (xs ys : List Giving) (h : Handle) (session : a ≡ b) (gets : (place : ℕ) (g : Giving) → slice_get xs place ≡ Some g → slice_get ys place ≡ Some g) where
  accept_again : MayAccept a xs h → MayAccept b ys h
  accept_again (accepts_in_want e) = accepts_in_want (sym session ∙ e)
  accept_again (accepts_in_giving place g at same none) = accepts_in_giving place g (gets place g at) same none

  decline_again : MayDecline a xs h → MayDecline b ys h
  decline_again (declines_in_want e) = declines_in_want (sym session ∙ e)
  decline_again (declines_in_giving place g at same none) = declines_in_giving place g (gets place g at) same none

-- an act stands where all that can be gained still can, and the want's session and what stands at each place stay
pub stands_again : (s t : AgentState) → ((p : Prefix) → can_gain s.pool p ≡ true → can_gain t.pool p ≡ true) → want_session s.want ≡ want_session t.want
    → ((h : Handle) → want_session s.want ≡ Some h → want_length s.want ≡ want_length t.want)
    → ((place : ℕ) (g : Giving) → slice_get s.giving place ≡ Some g → slice_get t.giving place ≡ Some g) → (a : Act) → ActStands s a → ActStands t a
stands_again s t gains session bits gets (act.Offer place h p) k = gets place (record { handle = h; offer = Some p; first = false }) k
stands_again s t gains session bits gets (act.Counter h n) k = (sym session ∙ k.0, sym (bits h k.0) ∙ k.1)
stands_again s t gains session bits gets (act.Accept h p) k =
    (accept_again (want_session s.want) (want_session t.want) s.giving t.giving h session gets k.0, k.1, gains p k.2)
stands_again s t gains session bits gets (act.Decline h reason) k = decline_again (want_session s.want) (want_session t.want) s.giving t.giving h session gets k

-- without an act
pub no_act : (s : AgentState) → s.act ≡ None → IfSome s.act (λ a. ActStands s a)
no_act s none = subst (λ o. IfSome o (λ a. ActStands s a)) (sym none) tt

-- the act that isn't done stands
pub act_stands : (s : AgentState) (a : Act) → s.act ≡ Some a → IsKept s → ActStands s a
act_stands s a e k = subst (λ o. IfSome o (λ b. ActStands s b)) e k.act

-- what is offered before a place: by the return, and in the sessions before it
abbrev pub ahead : AgentState → ℕ → List Prefix
ahead s place = offer_and (returned s.back) (before s.giving place)

-- where some sessions offer what those before a place do, and more, so does the agent
ahead_of : (s : AgentState) (place : ℕ) (gs : List Giving) (ps : List Prefix) → offers gs ≡ before s.giving place ++ ps
    → offer_and (returned s.back) (offers gs) ≡ ahead s place ++ ps
ahead_of s place gs ps e = ap (offer_and (returned s.back)) e ∙ and_append (returned s.back) (before s.giving place) ps

-- the pool and the offers around a place
pub around : (s : AgentState) (place : ℕ) (g : Giving) → slice_get s.giving place ≡ Some g → IsKept s
    → IsBacked s.pool (ahead s place ++ offer_and g.offer (behind s.giving place))
around s place g at k = subst (IsBacked s.pool) (ahead_of s place s.giving (offer_and g.offer (behind s.giving place)) (offers_at s.giving place g at)) (backed s k)

-- the same once the offer of this place went back
pub between : (s : AgentState) (place : ℕ) (g : Giving) → slice_get s.giving place ≡ Some g → IsKept s
    → IsBacked (giving_back s.pool g.offer) (ahead s place ++ behind s.giving place)
between s place g at k = backed_giving_back s.pool (ahead s place) (behind s.giving place) g.offer (around s place g at k)

-- the offers around a place that was set
backed_set : (s : AgentState) (pool : Holding) (place : ℕ) (g v : Giving) → slice_get s.giving place ≡ Some g → IsBacked pool (ahead s place ++ offer_and v.offer (behind s.giving place))
    → IsBacked pool (offered (record s { giving = slice_set s.giving place v }))
backed_set s pool place g v at b =
    subst (IsBacked pool)
    (sym (ahead_of s place (slice_set s.giving place v) (offer_and v.offer (behind s.giving place)) (offers_set s.giving place g v at))) b

-- what a giving session offers is reserved
pub offer_reserved : (s : AgentState) (place : ℕ) (g : Giving) → slice_get s.giving place ≡ Some g → IsKept s → IfSome g.offer (λ p. Contains s.pool.reserved p)
offer_reserved s place g at k = choose g.offer refl
  where
    choose : (o : Option Prefix) → g.offer ≡ o → IfSome o (λ p. Contains s.pool.reserved p)
    choose None e = tt
    choose (Some p) e = (k.reserved p).1 (and_more (returned s.back) (offers s.giving) p (offer_there s.giving place g p at e))

-- ---- wants

-- where nothing is wanted, a new want leaves the act that isn't done
pub new_kept : (s : AgentState) (w : Want) → w.session ≡ None → IsInRange w → IsKept (record s { want = None }) → IsKept (record s { want = Some w })
new_kept s w none range k = record {
  pool = k.pool;
  few = k.few;
  reserved = k.reserved;
  once = k.once;
  first = k.first;
  want = range;
  idle = λ shut. ((k.idle shut).0, none, (k.idle shut).2, (k.idle shut).3);
  act = by s.act k.act;
}
  where
    by : (o : Option Act) → IfSome o (λ a. ActStands (record s { want = None }) a) → IfSome o (λ a. ActStands (record s { want = Some w }) a)
    by None stands = tt
    by (Some a) stands = stands_again (record s { want = None }) (record s { want = Some w }) (λ p e. e) (sym none) (λ h e. absurd (cc)) (λ place g at. at) a stands

pub kept_new : (s : AgentState) (w : Want) → s.want ≡ None → w.session ≡ None → IsInRange w → IsKept s → IsKept (record s { want = Some w })
kept_new s w nothing none range k = new_kept s w none range (subst (λ o. IsKept (record s { want = o })) nothing k)

-- ---- a session that a peer began

-- a session that offers nothing
abbrev begun : Handle → Giving
begun h = record { handle = h; offer = None; first = true }

-- a session that offers nothing adds nothing to the offers
begun_offers : (xs : List Giving) (h : Handle) → offers (xs ++ begun h ∷ []) ≡ offers xs
begun_offers [] h = refl
begun_offers (x ∷ xs) h = ap (offer_and x.offer) (begun_offers xs h)

-- one session
one_fresh : (g : Giving) → IsFresh g → AreFresh (g ∷ [])
one_fresh g fresh = All-cons (λ x. IsFresh x) g [] fresh (All-nil (λ x. IsFresh x))

-- where there is room for a session that began
pub kept_begun : (s : AgentState) (h : Handle) → length s.giving < 64 → is_open s.stage ≡ true → IsKept s
    → IsKept (record s { giving = s.giving ++ record { handle = h; offer = None; first = true } ∷ [] })
kept_begun s h room serves k =
    let t : AgentState = record s { giving = s.giving ++ begun h ∷ [] }
    in let n : length (s.giving ++ begun h ∷ []) ≡ length s.giving + 1 = length-append s.giving (begun h ∷ [])
    in let fresh : AreFresh (s.giving ++ begun h ∷ []) = All-append (λ g. IsFresh g) s.giving (begun h ∷ []) k.first (one_fresh (begun h) (λ e. refl))
    in kept_of t (subst (λ ps. IsBacked s.pool (offer_and (returned s.back) ps)) (sym (begun_offers s.giving h)) (backed s k)) (omega arith) fresh k.want (opened s t serves) (by s.act k.act)
  where
    by : (o : Option Act) → IfSome o (λ a. ActStands s a) → IfSome o (λ a. ActStands (record s { giving = s.giving ++ begun h ∷ [] }) a)
    by None stands = tt
    by (Some a) stands =
        stands_again s (record s {
          giving =
              s.giving ++ begun h ∷ [];
        }) (λ p e. e) refl (λ x e. refl) (λ place g at. get_append s.giving (begun h ∷ []) place g at) a stands

-- a session that a peer began
pub kept_incoming : (s : AgentState) (o : Option Handle) → is_open s.stage ≡ true → IsKept s → IsKept (after_incoming s o)
kept_incoming s None serves k = k
kept_incoming s (Some h) serves k = choose (nat_lt (length s.giving) 64) refl
  where
    choose : (b : Bool) → nat_lt (length s.giving) 64 ≡ b → IsKept (cond b (record s { giving = s.giving ++ begun h ∷ [] }) s)
    choose true e = kept_begun s h (ltb-true (length s.giving) 64 e) serves k
    choose false e = k

-- ---- acts

-- an act that has shut effect is done or dropped
pub kept_idle : (s : AgentState) → IsKept s → IsKept (record s { act = None })
kept_idle s k =
    kept_of (record s { act = None }) (backed s k) k.few k.first k.want (λ shut. ((k.idle shut).0, (k.idle shut).1, (k.idle shut).2, refl)) tt

-- the sessions without the offer of a place
pub without_is : (xs : List Giving) (place : ℕ) (g : Giving) → slice_get xs place ≡ Some g → without_offer xs place ≡ slice_set xs place (offering g None)
without_is xs place g e = rw (e, without_offer) refl

-- a session at a place is another one, that is fresh
set_fresh : (xs : List Giving) (place : ℕ) (v : Giving) → IsFresh v → AreFresh xs → AreFresh (slice_set xs place v)
set_fresh xs place v one all = All-set (λ g. IsFresh g) xs place v one all

-- an offer that wasn't made goes back
pub kept_dropped : (s : AgentState) (place : ℕ) (h : Handle) (p : Prefix) → s.act ≡ Some (act.Offer place h p) → IsKept s
    → IsKept (after_dropping s (act.Offer place h p))
kept_dropped s place h p e k =
    let g : Giving = record { handle = h; offer = Some p; first = false }
    in let t : AgentState = record s { act = None; pool = after_back s.pool p; giving = slice_set s.giving place (offering g None) }
    in let at : slice_get s.giving place ≡ Some g = act_stands s (act.Offer place h p) e k
    in let b = backed_back s.pool (ahead s place) (behind s.giving place) p (around s place g at k)
    in let same : without_offer s.giving place ≡ slice_set s.giving place (offering g None) = without_is s.giving place g at
    in let few : length (slice_set s.giving place (offering g None)) ≡ length s.giving = length-set s.giving place (offering g None)
    in let le : length s.giving ≤ 64 = k.few
    in subst (λ gs. IsKept (record s { act = None; pool = after_back s.pool p; giving = gs })) (sym same)
    (kept_of t (backed_set s (after_back s.pool p) place g (offering g None) at b) (omega arith)
    (set_fresh s.giving place (offering g None) (λ f. refl) k.first) k.want (acted s t (act.Offer place h p) e k) tt)

-- an act was refused
pub kept_dropping : (s : AgentState) (a : Act) → s.act ≡ Some a → IsKept s → IsKept (after_dropping s a)
kept_dropping s (act.Offer place h p) e k = kept_dropped s place h p e k
kept_dropping s _ e k = kept_idle s k

-- an acceptance is done
pub kept_gaining : (s : AgentState) (p : Prefix) → IsPrefix p.address p.length → IsKept s → IsKept (record s { act = None; pool = after_gaining s.pool p })
kept_gaining s p valid k = choose (can_gain s.pool p) refl
  where
    choose : (b : Bool) → can_gain s.pool p ≡ b → IsKept (record s { act = None; pool = cond b (after_gain s.pool p) s.pool })
    choose true e =
        let can = (can_gain_tells s.pool p).0 e
        in let rest = kept_idle s k
        in record {
          pool = gain_keeps s.pool p k.pool valid can.0 can.1;
          few = k.few;
          reserved = k.reserved;
          once = k.once;
          first = k.first;
          want = k.want;
          idle = rest.idle;
          act = tt;
        }
    choose false e = kept_idle s k

-- an act is done
pub kept_doing : (s : AgentState) (a : Act) → s.act ≡ Some a → IsKept s → IsKept (after_doing s a)
kept_doing s (act.Accept h p) e k = kept_gaining s p (act_stands s (act.Accept h p) e k).1 k
kept_doing s _ e k = kept_idle s k

-- ---- the turn of one that requests

-- the act of one that requests stands
want_stands : (s : AgentState) (h : Handle) (wanted : ℕ) (d : RequesterDecision) → want_session s.want ≡ Some h → want_length s.want ≡ Some wanted
    → AskedBy s.pool wanted d → ActStands s (want_act h d)
want_stands s h wanted (requester.Accept p) at bits asked = (accepts_in_want at, asked.0, asked.1)
want_stands s h wanted (requester.Counter n) at bits asked = (at, bits ∙ ap Some asked)
want_stands s h wanted (requester.Decline reason) at bits asked = declines_in_want at

-- one that requests has decided
pub kept_asked : (s : AgentState) (h : Handle) (wanted : ℕ) (d : RequesterDecision) → is_open s.stage ≡ true → want_session s.want ≡ Some h
    → want_length s.want ≡ Some wanted → AskedBy s.pool wanted d → IsKept s → IsKept (record s { act = Some (want_act h d) })
kept_asked s h wanted d serves at bits asked k =
    let t : AgentState = record s { act = Some (want_act h d) }
    in kept_of t (backed s k) k.few k.first k.want (opened s t serves) (want_stands t h wanted d at bits asked)

-- ---- giving sessions

-- the agent that has decided in its turn, where `pool` is what its last offer left
abbrev pub acting : AgentState → ℕ → Giving → Holding → GiverDecision → AgentState
acting s place g pool d = record s { pool = after_deciding pool d; giving = slice_set s.giving place (deciding g d); act = Some (give_act place g.handle d) }

-- a giver that has decided offers nothing
kept_silent : (s : AgentState) (place : ℕ) (g : Giving) (pool : Holding) (a : Act) → slice_get s.giving place ≡ Some g → is_open s.stage ≡ true → IsKept s
    → IsBacked pool (ahead s place ++ behind s.giving place)
    → ActStands (record s { pool = pool; giving = slice_set s.giving place (offering g None); act = Some a }) a
    → IsKept (record s { pool = pool; giving = slice_set s.giving place (offering g None); act = Some a })
kept_silent s place g pool a at serves k b stands =
    let v : Giving = offering g None
    in let t : AgentState = record s { pool = pool; giving = slice_set s.giving place v; act = Some a }
    in let few : length (slice_set s.giving place v) ≡ length s.giving = length-set s.giving place v
    in let le : length s.giving ≤ 64 = k.few
    in kept_of t (backed_set s pool place g v at b) (omega arith) (set_fresh s.giving place v (λ e. refl) k.first) k.want (opened s t serves) stands

-- a giver has decided
kept_acting : (s : AgentState) (place : ℕ) (g : Giving) (pool : Holding) (d : GiverDecision) → slice_get s.giving place ≡ Some g → is_open s.stage ≡ true
    → IsKept s → IsBacked pool (ahead s place ++ behind s.giving place) → GivenBy pool d → IsKept (acting s place g pool d)
kept_acting s place g pool (giver.Offer p) at serves k b given =
    let v : Giving = record { handle = g.handle; offer = Some p; first = false }
    in let t : AgentState = acting s place g pool (giver.Offer p)
    in let few : length (slice_set s.giving place v) ≡ length s.giving = length-set s.giving place v
    in let le : length s.giving ≤ 64 = k.few
    in kept_of t (backed_set s _ place g v at (backed_given pool (ahead s place) (behind s.giving place) p b given))
    (omega arith) (set_fresh s.giving place v (λ e. absurd (cc)) k.first) k.want (opened s t serves) (set_get s.giving place g v at)
kept_acting s place g pool (giver.Accept p) at serves k b given =
    kept_silent s place g pool (act.Accept g.handle p) at serves k b
    (accepts_in_giving place (offering g None) (set_get s.giving place g (offering g None) at) refl refl, given.0, given.1)
kept_acting s place g pool (giver.Decline reason) at serves k b given =
    kept_silent s place g pool (act.Decline g.handle reason) at serves k b
    (declines_in_giving place (offering g None) (set_get s.giving place g (offering g None) at) refl refl)

-- a giver's turn
pub kept_giver_turn : (s : AgentState) (place : ℕ) (g : Giving) (o : Objective) → slice_get s.giving place ≡ Some g → is_open s.stage ≡ true → IsKept s
    → IsKept (after_giver_turn s place g o)
kept_giver_turn s place g o at serves k =
    let h : Holding = giving_back s.pool g.offer
    in let b : IsBacked h (ahead s place ++ behind s.giving place) = between s place g at k
    in kept_acting s place g h (giver_decision h o.value o.loops g.first) at serves k b (give_given h o.value o.loops g.first b.pool)

-- a giving session ended
pub kept_giver_end : (s : AgentState) (place : ℕ) (g : Giving) (e : Outcome) → s.act ≡ None → slice_get s.giving place ≡ Some g → is_open s.stage ≡ true
    → IsKept s
    → IsKept (after_giver_end s place g e)
kept_giver_end s place g e none at serves k =
    let t : AgentState = after_giver_end s place g e
    in let b = backed_settling s.pool (ahead s place) (behind s.giving place) g.offer e (around s place g at k)
    in let within : place < length s.giving = slice_get_within s.giving place g at
    in let n : length (removed s.giving place) ≡ length (take place s.giving) + length (drop (place + 1) s.giving)
    = length-append (take place s.giving) (drop (place + 1) s.giving)
    in let le : length s.giving ≤ 64 = k.few
    in let fresh : AreFresh (removed s.giving place)
    = All-append (λ g. IsFresh g) (take place s.giving) (drop (place + 1) s.giving)
    (All-take (λ g. IsFresh g) place s.giving k.first) (All-drop (λ g. IsFresh g) (place + 1) s.giving k.first)
    in kept_of t (subst (IsBacked _) (sym (ahead_of s place (removed s.giving place) (behind s.giving place) (offers_removed s.giving place))) b)
    (omega (arith, length-take place s.giving, length-drop (place + 1) s.giving)) fresh k.want (opened s t serves) (no_act t none)
