-- What is listed for which stream, in every network that turns lead to.
use Rattle.std.proofs.Common.{◌≡◌, inl, inr, ◌⊎◌, ℕ, List, Some, None}
use Rattle.grasp_session.specs.Messages.{Side}
use Rattle.grasp_session.specs.Sessions.{SessionState}
use Rattle.grasp_types.specs.Prefix.{AddressBlock as Prefix}
use Rattle.grasp_model_network.specs.Runs.{IsReached}
use Rattle.grasp_model_network.specs.Setting.{Setting}
use Rattle.grasp_model_network.specs.World.{Seat, Offered, WorldState, seat_at}
use Rattle.grasp_laws_agents.specs.Giving.{IsOpenOffer}
use Rattle.grasp_session.specs.Runs.{WasMade}
use Rattle.grasp_laws_prefixes.proofs.OpenOffers.{IsKnownOn, open_known}
use Rattle.grasp_laws_prefixes.proofs.Safe.{stand}
use Rattle.grasp_laws_prefixes.proofs.Standing.{IsOfferIn, IsPlaced, StaysUnaccepted}
use Rattle.grasp_laws_prefixes.proofs.Standing as prefixes
use Rattle.grasp_laws_prefixes.specs.Grounds.{Grounds}
use Rattle.grasp_laws_prefixes.specs.Known.{HasStream, IsOfferAmong, IsListedFor, WasSettledFor, IsNeverAccepted, OffersStand, OffersAreKnown}

has_stream : (w : WorldState) (o : Offered) → IsPlaced w.streams o ⊎ (o.talk ≡ None) → HasStream w o ⊎ (o.talk ≡ None)
has_stream w o (inl p) = inl (record { place = p.place; talk = p.talk; is = p.is; stands = p.stands })
has_stream w o (inr none) = inr none

pub among : (os : List Offered) (w : WorldState) (node : ℕ) (side : Side) (stream : ℕ) (p : Prefix) → IsOfferIn os w node side stream p → IsOfferAmong os w node side stream p
among os w node side stream p o = record { place = o.place; talk = o.at.talk; stands = o.at.stands; ends = o.at.end_is; listed = o.listed }

never_accepted : (w : WorldState) (o : Offered) → StaysUnaccepted w o → IsNeverAccepted w o
never_accepted w o n = record { place = n.at.place; talk = n.at.talk; is = n.at.is; stands = n.at.stands; never = n.never }

module _ (l : Grounds) (s : Setting) (w : WorldState) (r : IsReached s w) (k : prefixes.OffersAreKnown w) where
  known_for : (node : ℕ) (x : SessionState) (p : Prefix) → IsKnownOn w node x p → IsListedFor w node x.view.role x.stream p ⊎ WasSettledFor w node x.view.role x.stream p
  known_for node x p (inl o) = inl (among w.offers w node x.view.role x.stream p o)
  known_for node x p (inr o) = inr (among w.settled w node x.view.role x.stream p o)

  open_offers : (node : ℕ) (seat : Seat) → seat_at w node ≡ Some seat → (x : SessionState) (p : Prefix) → WasMade seat.core.sessions x → x.owner ≡ 1 → IsOpenOffer x.view p
      → IsListedFor w node x.view.role x.stream p ⊎ WasSettledFor w node x.view.role x.stream p
  open_offers node seat here x p made own is_open = known_for node x p (open_known l s w r node seat here x p own is_open k made)

  offers_stand : OffersStand w
  offers_stand = record {
    once = k.once;
    streams = λ o h. has_stream w o (k.placed o h);
    kept = k.kept;
    carried = k.carried;
    unsent = k.unsent;
    offered = λ node seat here present side h p o x own. among w.offers w node side x.stream p (k.offered node seat here present side h p o x own);
    open_offers = open_offers;
    settled = λ o h. never_accepted w o (k.settled o h);
  }

pub offers_are_known : Grounds → OffersAreKnown
offers_are_known l s w r = offers_stand l s w r (stand l s w r).known
