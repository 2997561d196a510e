-- An address that is in hand stays so where a prefix in doubt is settled.
use Rattle.std.proofs.Common.{◌≡◌, refl, sym, ap, ◌∙◌, subst, ℕ, inl, inr, ◌⊎◌, List, Contains, Some}
use Rattle.std.proofs.lemmas.Bool.{cases_eq}
use Rattle.std.proofs.lemmas.Option.{same_Some}
use Rattle.grasp_agent.specs.Replies.{after_settling}
use Rattle.grasp_agent.specs.States.{unsent_of}
use Rattle.grasp_pool.specs.Holdings.{IsFree}
use Rattle.grasp_session.specs.Runs.{WasMade}
use Rattle.grasp_session.specs.Sessions.{SessionState}
use Rattle.grasp_session.specs.Messages.{Side}
use Rattle.grasp_types.specs.Prefix.{AddressBlock as Prefix, span_of}
use Rattle.grasp_laws_network.proofs.Settled.{IsSameOffer, Settling}
use Rattle.grasp_laws_network.specs.Authorities.{Holds, IsOpenTalk}
use Rattle.grasp_model_network.specs.Runs.{IsReached}
use Rattle.grasp_model_network.specs.Sending.{seat_with}
use Rattle.grasp_model_network.specs.Setting.{Setting}
use Rattle.grasp_model_network.specs.Streams.{StreamState}
use Rattle.grasp_model_network.specs.World.{Seat, Offered, WorldState, seat_at, present_life}
use Rattle.grasp_laws_prefixes.proofs.EntryOffers.{same_offers}
use Rattle.grasp_laws_prefixes.proofs.Keeping.{GivesIt, by_offer, in_doubt, IsGivenAt, IsGiven, IsUnsentAt, IsKeptIn, same_heard}
use Rattle.grasp_laws_prefixes.proofs.Safe.{stand}
use Rattle.grasp_laws_prefixes.proofs.SettleKeeps.{settles, life_own, all_stay, IsStill, still, another}
use Rattle.grasp_laws_prefixes.proofs.Standing.{PrefixesStand}
use Rattle.grasp_laws_prefixes.proofs.Talking.{giver_on}
use Rattle.grasp_laws_prefixes.specs.Apart.{offer_on}
use Rattle.grasp_laws_prefixes.specs.Grounds.{Grounds}

module _ (l : Grounds) (s : Setting) (w x : WorldState) (node : ℕ) (p : Prefix) (r : IsReached s w) (t : Settling w node p x) where
  abbrev life : ℕ
  life = present_life w node

  abbrev new : Seat
  new = seat_with t.seat.core (after_settling t.seat.agent p)

  known : PrefixesStand w
  known = stand l s w r

  -- what was held is held, and so is the prefix
  own_holds : (a : ℕ) → IsFree t.seat.agent.pool a ⊎ span_of p a → Holds x life a
  own_holds a free = record { seat = new; here = t.own; free = ((settles l s w x node p r t).free a).1 free }

  held_still : (n a : ℕ) → Holds w n a → IsKeptIn x a
  held_still n a h = by_node (cases_eq n (present_life w node)) where
    by_node : (n ≡ life) ⊎ (n ≡ life → ⊥) → IsKeptIn x a
    by_node (inl same) =
        inl (present_life w node, own_holds a (inl (subst (λ (z : Seat). IsFree z.agent.pool a) (same_Some h.seat t.seat (sym h.here ∙ (ap (λ m. seat_at w m) same ∙ t.here))) h.free)))
    by_node (inr apart) = inl (n, record { seat = h.seat; here = t.others n apart ∙ h.here; free = h.free })

  -- an offer that isn't the settled one stands where its session does
  given_by : (a n : ℕ) (seat z : Seat) (h : IsGivenAt w a n seat) → seat_at x n ≡ Some z → WasMade z.core.sessions h.session → GivesIt z h.side h.session h.prefix
      → Contains x.offers (offer_on n h.prefix h.place) → IsKeptIn x a
  given_by a n seat z h there made gives listed = inr (inl (record {
    node = n;
    seat = z;
    here = there;
    given = record {
      side = h.side;
      place = h.place;
      session = h.session;
      prefix = h.prefix;
      giver = giver_on w x (all_stay l s w x node p r t) n seat z h.side h.place h.session h.session (same_heard h.session) made h.giver;
      gives = gives;
      span = h.span;
      listed = listed;
      open_still = subst (λ (ts : List StreamState). IsOpenTalk ts h.place) (sym t.streams) h.open_still;
    };
  }))

  own_gives : (side : Side) (z : SessionState) (q : Prefix) (place : ℕ) → Contains w.offers (offer_on life q place) → ¬ IsSameOffer t.offer (offer_on life q place) → GivesIt t.seat side z q → GivesIt new side z q
  own_gives side z q place listed apart (by_offer k offers own) = by_offer k (same_offers (after_settling t.seat.agent p) t.seat.agent side k q refl refl offers) own
  own_gives side z q place listed apart (in_doubt doubtful gone offered) =
      in_doubt
      (((settles l s w x node p r t).doubtful q).1 (doubtful, another l s w x node p r t known (offer_on (present_life w node) q place) listed apart (life_own l s w x node p r t))) gone offered

  -- the addresses of the settled offer are held
  settled_held : (a n place : ℕ) (q : Prefix) → span_of q a → t.offer ≡ offer_on n q place → IsKeptIn x a
  settled_held a n place q span e =
      inl (present_life w node, own_holds a (inr (subst (λ u. span_of u a) (sym (ap (λ (o : Offered). o.prefix) e) ∙ t.is.prefix) span)))

  own_given : (a : ℕ) → IsGivenAt w a life t.seat → IsKeptIn x a
  own_given a h = by_case (still l s w x node p r t known (offer_on (present_life w node) h.prefix h.place) h.listed) where
    by_case : IsStill l s w x node p r t known (offer_on life h.prefix h.place) → IsKeptIn x a
    by_case (inl stays) = given_by a (present_life w node) t.seat new h t.own h.giver.made (own_gives h.side h.session h.prefix h.place h.listed stays.1 h.gives) stays.0
    by_case (inr e) = settled_held a (present_life w node) h.place h.prefix h.span e

  other_given : (a n : ℕ) (seat : Seat) → seat_at w n ≡ Some seat → (n ≡ life → ⊥) → IsGivenAt w a n seat → IsKeptIn x a
  other_given a n seat here apart h = by_case (still l s w x node p r t known (offer_on n h.prefix h.place) h.listed) where
    by_case : IsStill l s w x node p r t known (offer_on n h.prefix h.place) → IsKeptIn x a
    by_case (inl stays) = given_by a n seat seat h (t.others n apart ∙ here) h.giver.made h.gives stays.0
    by_case (inr e) = settled_held a n h.place h.prefix h.span e

  given_still : (a : ℕ) → IsGiven w a → IsKeptIn x a
  given_still a g = by_node (cases_eq g.node (present_life w node)) where
    by_node : (g.node ≡ life) ⊎ (g.node ≡ life → ⊥) → IsKeptIn x a
    by_node (inr apart) = other_given a g.node g.seat g.here apart g.given
    by_node (inl same) =
        own_given a
        (subst (λ z. IsGivenAt w a (present_life w node) z) (same_Some g.seat t.seat (sym g.here ∙ (ap (λ m. seat_at w m) same ∙ t.here))) (subst (λ m. IsGivenAt w a m g.seat) same g.given))

  unsent_still : (a : ℕ) → IsUnsentAt w a → IsKeptIn x a
  unsent_still a u = by_node (cases_eq u.node (present_life w node)) where
    by_node : (u.node ≡ life) ⊎ (u.node ≡ life → ⊥) → IsKeptIn x a
    by_node (inr apart) = inr (inr (record { node = u.node; seat = u.seat; here = t.others u.node apart ∙ u.here; prefix = u.prefix; unsent = u.unsent; span = u.span }))
    by_node (inl same) = inr (inr (record {
      node = present_life w node;
      seat = new;
      here = t.own;
      prefix = u.prefix;
      unsent = subst (λ (z : Seat). unsent_of z.agent.back ≡ Some u.prefix) (same_Some u.seat t.seat (sym u.here ∙ (ap (λ m. seat_at w m) same ∙ t.here))) u.unsent;
      span = u.span;
    }))

  pub settle_kept : (a : ℕ) → IsKeptIn w a → IsKeptIn x a
  settle_kept a (inl h) = held_still h.0 a h.1
  settle_kept a (inr (inl g)) = given_still a g
  settle_kept a (inr (inr u)) = unsent_still a u
