-- How the code keeps the places of the handles that were given.
use Rattle.std.specs.Prelude.{◌≡◌, ℕ, ◌==◌, ◌&&◌, Bool, List, [], ◌∷◌, Option, None, Some, find, map}
use Rattle.grasp_types.specs.declared.reply.ApiAnswer.{ApiAnswer}
use Rattle.grasp_types.specs.declared.reply.ApiAnswer.TheVariants as answer
use Rattle.grasp_types.specs.declared.reply.Reply.{Reply}
use Rattle.grasp_types.specs.declared.reply.Reply.TheVariants as reply
use Rattle.grasp_types.specs.declared.session.Handle.{Handle}
use Rattle.grasp_model_network.specs.World.{GivenHandle}
use Rattle.grasp_simulator.specs.declared.places.GivenPlace.{GivenPlace}
use Rattle.grasp_simulator.specs.declared.places.Places.{Places}

abbrev pub given_place : GivenHandle → GivenPlace
given_place g = record { life = g.node; number = g.handle.number; place = g.handle.place }

-- the code keeps the handles in the order in which they were given
abbrev pub PlacesStand : Places → List GivenHandle → Type 0
PlacesStand code handles = code.given ≡ map given_place handles

-- Inside: the handle of this number was given in this life
abbrev pub is_place_of : ℕ → ℕ → GivenPlace → Bool
is_place_of life number g = g.life == life && g.number == number

-- Inside: the place that was given, or 0
abbrev pub place_or_0 : Option GivenPlace → ℕ
place_or_0 None = 0
place_or_0 (Some g) = g.place

-- Inside: the place of the first of them with this life and number, and 0 where there is none
abbrev pub place_found : List GivenPlace → ℕ → ℕ → ℕ
place_found given life number = place_or_0 (find (is_place_of life number) given)

-- ---- the handle that a reply gives

-- Inside: the handle that an answer gives
abbrev pub handle_of : ApiAnswer → Option Handle
handle_of (answer.Started h) = Some h
handle_of (answer.Incoming h from o) = Some h
handle_of _ = None

-- Inside: the handle that a reply gives
abbrev pub handle_in : Reply → Option Handle
handle_in (reply.Api a) = handle_of a
handle_in _ = None

-- Inside: the place of a handle that was given in a life
abbrev pub placed_at : ℕ → Option Handle → List GivenPlace
placed_at life None = []
placed_at life (Some h) = record { life = life; number = h.number; place = h.place } ∷ []

-- Inside: the places of the handles that a reply gives in a life of its node
abbrev pub places_in : ℕ → Reply → List GivenPlace
places_in life r = placed_at life (handle_in r)
