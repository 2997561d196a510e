-- Streams without what was said and sent on them: their ends and their numbers.
use Rattle.std.specs.Prelude.{◌≡◌, ◌⊎◌, ◌==◌, ℕ, Bool, cond, is_some, List, [], ◌∷◌, map, Option, None, Some}
use Rattle.grasp_session.specs.Messages.{Near, Far}
use Rattle.grasp_types.specs.declared.address.Locator.{Locator}
use Rattle.grasp_model_network.specs.Streams.{StreamEnd, StreamState, is_same_end, is_at_end, is_number}

-- the end that dials; whom it dials; the stream's number, once its dial is sent; and the end at which it was opened
pub record Head : Type 0 where
  pub near : StreamEnd
  pub to : Locator
  pub number : Option ℕ
  pub far : Option StreamEnd

abbrev pub head_of : StreamState → Head
head_of t = record { near = t.near; to = t.to; number = t.number; far = t.far }

abbrev pub heads : List StreamState → List Head
heads ts = map head_of ts

-- the stream has this end
abbrev pub has_head_end : StreamEnd → Head → Bool
has_head_end e h = is_some (cond (is_same_end e h.near) (Some Near) (cond (is_at_end e h.far) (Some Far) None))

abbrev pub has_number : ℕ → Head → Bool
has_number k h = is_number k h.number

-- one of these streams was opened at this end
abbrev pub HasFar : StreamEnd → List Head → Type 0
HasFar e [] = ⊥
HasFar e (h ∷ hs) = (h.far ≡ Some e) ⊎ HasFar e hs

-- the numbers that this node gave to the streams that it dialled, in order
abbrev pub nears_at : ℕ → List Head → List ℕ
nears_at node [] = []
nears_at node (h ∷ hs) = cond (h.near.node == node) (h.near.number ∷ nears_at node hs) (nears_at node hs)
