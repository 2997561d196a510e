-- How the wants of a node stand, as words. The layout is this project's own.
use Rattle.std.specs.Prelude.{ℕ, List, [], ◌∷◌, ◌++◌, codes, decimal}
use Rattle.grasp_types.specs.Refusal.{refusal_number}
use Rattle.grasp_text.specs.Line.{prefix_word, locator_words}
use Rattle.grasp_agent.specs.declared.want.WantEnd.{WantEnd}
use Rattle.grasp_agent.specs.declared.want.WantEnd.TheVariants as end
use Rattle.grasp_control.specs.declared.orders.Order.{Order}
use Rattle.grasp_control.specs.declared.orders.Standing.{Standing}
use Rattle.grasp_control.specs.declared.orders.Standing.TheVariants.{Asking, Waiting, Ended}

-- how a want ended
abbrev pub end_words : WantEnd → List (List ℕ)
end_words (end.Held prefix) = codes "held" ∷ prefix_word prefix ∷ []
end_words end.Declined = codes "declined" ∷ []
end_words end.TimedOut = codes "timedout" ∷ []
end_words end.Broken = codes "broken" ∷ []
end_words end.OutOfMemory = codes "outofmemory" ∷ []
end_words end.Invalid = codes "invalid" ∷ []
end_words end.Empty = codes "empty" ∷ []
end_words (end.Refused refusal) = codes "refused" ∷ decimal (refusal_number refusal) ∷ []

-- how a want stands
abbrev pub standing_words : Standing → List (List ℕ)
standing_words Asking = codes "asking" ∷ []
standing_words (Waiting millis) = codes "waiting" ∷ decimal millis ∷ []
standing_words (Ended e) = end_words e

-- a want: its number, its lengths, whom it asks, how often it asked, and how it stands
abbrev pub order_words : Order → List (List ℕ)
order_words o = codes "want" ∷ decimal o.number ∷ decimal o.length ∷ decimal o.longest ∷ (locator_words o.peer ++ decimal o.tries ∷ standing_words o.standing)

-- wants, one after another
abbrev pub all_order_words : List Order → List (List ℕ)
all_order_words [] = []
all_order_words (o ∷ orders) = order_words o ++ all_order_words orders
