-- Where the datagrams of a node go.
use Rattle.std.specs.Prelude.{ℕ, ◌==◌, List, Option, None, Some, position, slice_get, unwrap_or}
use Rattle.grasp_model_network.specs.Setting.{Setting, line_of, link_of, others_on}

-- who receives a datagram, on which of its links, and from which of its neighbours there
pub record Route : Type 0 where
  pub receiver : ℕ
  pub link : ℕ
  pub from : ℕ

-- the place of a node among these, and 0 where it isn't one of them
abbrev pub place_among : ℕ → List ℕ → ℕ
place_among node others = unwrap_or (position (λ n. n == node) others) 0

abbrev pub route_to : ℕ → List (List ℕ) → ℕ → List ℕ → Option ℕ → Option Route
route_to sender lines place line None = None
route_to sender lines place line (Some receiver) =
    Some (record { receiver = receiver; link = link_of receiver lines place; from = place_among sender (others_on receiver line) })

abbrev pub route_along : ℕ → List (List ℕ) → ℕ → ℕ → Option (List ℕ) → Option Route
route_along sender lines to place None = None
route_along sender lines to place (Some line) = route_to sender lines place line (slice_get (others_on sender line) to)

abbrev pub route_on : ℕ → List (List ℕ) → ℕ → Option ℕ → Option Route
route_on sender lines to None = None
route_on sender lines to (Some place) = route_along sender lines to place (slice_get lines place)

-- the way from a node to its neighbour of this number on its link of this number: the other members on a link are its
-- neighbours there, in the link's order, and its links are those that it is on, in order
unfoldable pub route_of : Setting → ℕ → ℕ → ℕ → Option Route
route_of s sender link to = route_on sender s.lines to (line_of sender s.lines link)
