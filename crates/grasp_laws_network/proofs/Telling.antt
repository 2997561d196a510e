-- An event without a step changes nothing, or one agent, which is told something.
use Rattle.std.proofs.Common.{◌≡◌, ◌⊎◌, inl, inr, refl, subst, ℕ, ◌≤◌, Option, Some, None}
use Rattle.std.proofs.lemmas.Option.{none-some, same_Some}
use Rattle.grasp_agent.specs.Laws.{IsPossible}
use Rattle.grasp_agent.specs.Replies.{AgentEvent, wanted, returned, after_event}
use Rattle.grasp_types.specs.Prefix.{AddressBlock as Prefix, IsPrefix}
use Rattle.grasp_types.specs.declared.address.Locator.{Locator}
use Rattle.grasp_model_network.specs.Events.{AreLengths, IsFit, after_none}
use Rattle.grasp_model_network.specs.Setting.{Setting, numbered}
use Rattle.grasp_model_network.specs.Telling.{Telling, want_told, return_told, telling_of, offers_told, after_telling, after_told}
use Rattle.grasp_model_network.specs.World.{Seat, WorldState, present_life, seat_at}
use Rattle.grasp_model_network.specs.declared.event.Event.{Event}
use Rattle.grasp_model_network.specs.declared.event.Event.TheVariants as event
use Rattle.grasp_laws_network.proofs.Here.{numbered_within}
use Rattle.grasp_laws_network.specs.Telling.{OneAgent, IsNoReply, Tells, NoneTells}

-- ---- one agent

abbrev one_telling : (w x : WorldState) (t : Telling) (seat : Seat) → seat_at w t.node ≡ Some seat → x ≡ after_telling w t (Some seat) → OneAgent w x
one_telling w x t seat here after = record {
  node = t.node;
  seat = seat;
  here = here;
  agent = after_event seat.agent t.what;
  offers = offers_told w.offers t.node seat.agent t.what;
  settled = w.settled;
  after = after;
}

-- the agent that is told something is the one that changes
abbrev pub one_agent : (s : Setting) (w : WorldState) (e : Event) (x : WorldState) → Tells s w e x → OneAgent w x
one_agent s w e x t = one_telling w x t.telling t.seat t.here t.after

-- the node is one that has a number
pub one_least : (w x : WorldState) (o : OneAgent w x) → 1 ≤ o.node
one_least w x o = (numbered_within w.seats o.node o.seat o.here).least

-- ---- what an event tells

-- what holds of the same network, and of that in which an agent took what it was told, holds after an event without a step
none_by : (s : Setting) (w : WorldState) (e : Event) (P : WorldState → Type 0) → P w
    → ((t : Telling) → telling_of s w e ≡ Some t → (seat : Seat) → seat_at w t.node ≡ Some seat → P (after_telling w t (Some seat))) → P (after_none s w e)
none_by s w e P same told = by_telling (telling_of s w e) refl where
  by_seat : (t : Telling) → telling_of s w e ≡ Some t → (o : Option Seat) → seat_at w t.node ≡ o → P (after_telling w t o)
  by_seat t is None here = same
  by_seat t is (Some seat) here = told t is seat here

  by_telling : (o : Option Telling) → telling_of s w e ≡ o → P (after_told w o)
  by_telling None is = same
  by_telling (Some t) is = by_seat t is (seat_at w t.node) refl

-- an event without a step may change one agent, whether or not it may be asked for
pub none_one : (s : Setting) (w : WorldState) (e : Event) (P : WorldState → Type 0) → P w → ((x : WorldState) → OneAgent w x → P x) → P (after_none s w e)
none_one s w e P same one = none_by s w e P same (λ t is seat here. one (after_telling w t (Some seat)) (one_telling w (after_telling w t (Some seat)) t seat here refl))

-- what may be told
abbrev MayTell : AgentEvent → Type 0
MayTell what = IsPossible what × IsNoReply what

want_may : (node length longest : ℕ) (peer : Option Locator) (t : Telling) → AreLengths length longest → want_told node length longest peer ≡ Some t → MayTell t.what
want_may node length longest None t are is = absurd (none-some t is)
want_may node length longest (Some peer) t are is =
    subst (λ (u : Telling). MayTell u.what) (same_Some (record { node = node; what = wanted length longest peer }) t is) ((are.least, are.rising, are.most), tt)

return_may : (node : ℕ) (p : Prefix) (peer : Option Locator) (t : Telling) → IsPrefix p.address p.length → return_told node p peer ≡ Some t → MayTell t.what
return_may node p None t good is = absurd (none-some t is)
return_may node p (Some peer) t good is = subst (λ (u : Telling). MayTell u.what) (same_Some (record { node = node; what = returned p peer }) t is) (good, tt)

may_tell : (s : Setting) (w : WorldState) (e : Event) (t : Telling) → IsFit s w e → telling_of s w e ≡ Some t → MayTell t.what
may_tell s w (event.Want node length longest peer) t fit is = want_may (present_life w node) length longest (numbered s.peers peer) t fit.2 is
may_tell s w (event.Return node prefix peer) t fit is = return_may (present_life w node) prefix (numbered s.peers peer) t fit.2 is
may_tell s w _ t fit is = absurd (none-some t is)

pub none_tells : NoneTells
none_tells s w e fit =
    none_by s w e (λ x. (x ≡ w) ⊎ Tells s w e x) (inl refl)
    (λ t is seat here. let may = may_tell s w e t fit is in inr (record { telling = t; is = is; seat = seat; here = here; possible = may.0; no_reply = may.1; after = refl }))
