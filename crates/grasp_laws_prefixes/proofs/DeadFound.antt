-- What is listed for a stream on which it is never accepted may be settled where it is in doubt.
use Rattle.std.proofs.Common.{◌≡◌, refl, sym, ap, ◌∙◌, ◌⊎◌, inl, inr, ◌==◌, ◌&&◌, Bool, true, false, cond, List, [], ◌∷◌, find, Contains, Some}
use Rattle.std.proofs.lemmas.Bool.{true≢false, and_from, eq-eqb}
use Rattle.grasp_laws_network.proofs.Offers.{prefix_itself}
use Rattle.grasp_laws_network.proofs.Settled.{offer_is}
use Rattle.grasp_laws_network.specs.TurnsDo.{IsOfferBy}
use Rattle.grasp_model_network.specs.Offers.{is_same_prefix}
use Rattle.grasp_model_network.specs.Settling.{offer_by}
use Rattle.grasp_model_network.specs.World.{Offered, WorldState, member_of}
use Rattle.grasp_laws_prefixes.proofs.Listing.{none_in, either_in}
use Rattle.grasp_laws_prefixes.proofs.Safe.{stand}
use Rattle.grasp_laws_prefixes.proofs.Standing.{OffersAreKnown}
use Rattle.grasp_laws_prefixes.specs.Grounds.{Grounds}
use Rattle.grasp_laws_prefixes.specs.Settled.{DeadAreFound}

-- where something passes the test, something is found
found_there : {A : Type 0} (p : A → Bool) (xs : List A) (x : A) → Contains xs x → p x ≡ true → (y : A) × (find p xs ≡ Some y)
found_there p [] x h is = absurd (none_in x h)
found_there {A} p (y ∷ ys) x h is = by_test (p y) refl (λ more. found_there p ys x more is) where
  by_test : (b : Bool) → p y ≡ b → (Contains ys x → (z : A) × (find p ys ≡ Some z)) → (z : A) × (cond b (Some y) (find p ys) ≡ Some z)
  by_test true e again = (y, refl)
  by_test false e again = by_case (either_in y ys x h) where
    by_case : (y ≡ x) ⊎ Contains ys x → (z : A) × (find p ys ≡ Some z)
    by_case (inl same) = absurd (true≢false (sym is ∙ (ap p (sym same) ∙ e)))
    by_case (inr more) = again more

-- what is listed is found, since it is the only offer of its member and prefix
listed_found : (w : WorldState) → OffersAreKnown w → (o : Offered) → Contains w.offers o → offer_by w (member_of w o.node) o.prefix ≡ Some o
listed_found w k o listed = f.1 ∙ ap (λ u. Some u) (k.once f.0 o is.listed listed is.member is.prefix) where
  f : (u : Offered) × (offer_by w (member_of w o.node) o.prefix ≡ Some u)
  f =
      found_there (λ u. member_of w u.node == member_of w o.node && is_same_prefix o.prefix u.prefix) w.offers o listed
      (and_from (member_of w o.node == member_of w o.node) (is_same_prefix o.prefix o.prefix) (eq-eqb (member_of w o.node) (member_of w o.node) refl) (prefix_itself o.prefix o.prefix refl))

  is : IsOfferBy w (member_of w o.node) o.prefix f.0
  is = offer_is w (member_of w o.node) o.prefix f.0 f.1

pub dead_are_found : Grounds → DeadAreFound
dead_are_found l s w r o listed place talk on stands doubt never = record {
  seat = doubt.seat;
  here = doubt.here;
  doubtful = doubt.doubtful;
  offer = o;
  found = listed_found w (stand l s w r).known o listed;
  place = place;
  on = on;
  talk = talk;
  stands = stands;
  never = never;
}
