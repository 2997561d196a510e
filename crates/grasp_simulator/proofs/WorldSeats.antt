-- What a network lends of a node, and the places of handles.
use Rattle.std.proofs.Common.{◌≡◌, refl, sym, ap, ◌∙◌, subst, ℕ, ◌-◌, Bool, true, false, List, [], ◌∷◌, Some, map, slice_get, find}
use Rattle.std.proofs.lemmas.Option.{same_Some}
use Rattle.grasp_simulator.specs.PlacesStand.{given_place, place_found}
use Rattle.grasp_simulator.specs.Seats.{SeatStands}
use Rattle.grasp_model_network.specs.Setting.{Setting}
use Rattle.grasp_model_network.specs.World.{Seat, GivenHandle, WorldState, is_given, place_in, handle_place, present_life}
use Rattle.grasp_simulator.specs.WorldStands.{HasNode, IsSeat}
use Rattle.grasp_simulator.specs.declared.seat.Seat.{Seat as SeatCode}
use Rattle.grasp_simulator.specs.declared.world.World.{World}
use Rattle.grasp_simulator.proofs.Presence.{OwnSeat, own_at}

-- ---- nodes

-- the code's seat of the node's place stands for the node
pub own_lent : (code : World) (node : ℕ) (s : Setting) (w : WorldState) (seat : Seat) (own : SeatCode) → HasNode code node → Some own ≡ slice_get code.seats.items (node - 1) → IsSeat code node s w seat → OwnSeat w node own
own_lent code node s w seat own has got h = own_at code s w node (node - 1) own h.stands.stands.goes.keeps has.is_node.least refl (sym got)

pub seat_stands : (code : World) (node : ℕ) (s : Setting) (w : WorldState) (seat : Seat) (own : SeatCode) → HasNode code node → Some own ≡ slice_get code.seats.items (node - 1) → IsSeat code node s w seat → SeatStands own seat
seat_stands code node s w seat own has got h =
    let found : OwnSeat w node own = own_lent code node s w seat own has got h in
    subst (SeatStands own) (same_Some found.seat seat (sym found.here ∙ h.here)) found.stands

-- ---- places

place_is : (node number : ℕ) (gs : List GivenHandle) → place_found (map given_place gs) node number ≡ place_in (find (is_given node number) gs)
place_is node number [] = refl
place_is node number (g ∷ gs) = by_test (is_given node number g) refl (place_is node number gs) where
  by_test : (b : Bool) → is_given node number g ≡ b → place_found (map given_place gs) node number ≡ place_in (find (is_given node number) gs)
      → place_found (map given_place (g ∷ gs)) node number ≡ place_in (find (is_given node number) (g ∷ gs))
  by_test true e rest = rw e refl
  by_test false e rest = rw e rest

pub told_place : (code : World) (node number place : ℕ) (s : Setting) (w : WorldState) (seat : Seat) (own : SeatCode) → HasNode code node → Some own ≡ slice_get code.seats.items (node - 1)
    → place ≡ place_found code.places.given own.life number → IsSeat code node s w seat → place ≡ handle_place w (present_life w node) number
told_place code node number place s w seat own has got told h =
    let found : OwnSeat w node own = own_lent code node s w seat own has got h in
    told
    ∙ ap (λ given. place_found given own.life number) h.stands.stands.goes.keeps.places
    ∙ place_is own.life number w.handles
    ∙ ap (λ (k : ℕ). handle_place w k number) found.life
