-- Inside: a seat in the course of a turn.
use Rattle.std.specs.Prelude.{◌≡◌, [], ◌++◌, ◌∷◌}
use mathlib.Core.List.{IsPrefix}
use Rattle.grasp_core.specs.declared.node_core.NodeCore.{NodeCore}
use Rattle.grasp_shared.specs.Calls.{Answered, LedTo, GoesOn, entry}
use Rattle.grasp_shared.specs.History.{History}
use Rattle.grasp_shared.specs.Passes.{taking, served, HasJust}
use Rattle.grasp_shared.specs.Plays.{Sat}

-- a pass between two calls
abbrev pub IsIdle : Sat → Type 0
IsIdle m = (m.1 ≡ []) × (m.0.live ≡ 1) × (m.0.turn ≡ 0)

-- the seat is in its turn, and holds the core, which is at the end of all that it has seen
abbrev pub Began : Sat → Sat → Type 0
Began m n = (history : History) × (core : NodeCore) × IsPrefix m.0.seen history × LedTo m.0.opened history core × (n ≡ (taking m.0 history, (0, core) ∷ []))

-- the seat holds the core
abbrev pub Holds : Sat → Type 0
Holds m = (core : NodeCore) × (m.1 ≡ (0, core) ∷ [])

-- the core in hand went on by this call
abbrev pub WentOn : Sat → Sat → Answered → Type 0
WentOn m n c = (old : NodeCore) × (new : NodeCore) × (m.1 ≡ (0, old) ∷ []) × (n ≡ (m.0, (0, new) ∷ [])) × GoesOn old c new

-- the seat may end its turn with this call
abbrev pub MayEnd : Sat → Answered → Type 0
MayEnd m c = (core : NodeCore) × (m.1 ≡ (0, core) ∷ []) × (m.0.live ≡ 1) × (m.0.turn ≡ 1) × LedTo m.0.opened (m.0.seen ++ entry m.0.number c ∷ []) core

-- the seat's turn ended with this call
abbrev pub Ended : Sat → Sat → Answered → Type 0
Ended m n c = (n ≡ (served m.0 m.0.seen c, [])) × HasJust n.0
