-- Inside: what each atomic step tells: of the step, the seat before, the word found and the seat after.
use Rattle.std.specs.Prelude.{◌≡◌, ◌≢◌, ℕ, ◌*◌, ◌%◌, ◌∷◌, length}
use mathlib.Core.List.{IsPrefix}
use Rattle.atomic_table.specs.Table.{Me, Step, rest}
use Rattle.grasp_core.specs.declared.node_core.NodeCore.{NodeCore}
use Rattle.grasp_shared.specs.Calls.{Answered, Opened}
use Rattle.grasp_shared.specs.History.{History}
use Rattle.grasp_shared.specs.Passes.{taking, served, IsAlone, HasJust}
use Rattle.grasp_shared.specs.declared.view.View.{View}

-- a seat: what its pass knows, and the core while it has it in hand
abbrev pub Sat : Type 0
Sat = Me NodeCore View

abbrev pub Play : Type 1
Play = Step NodeCore → Sat → ℕ → Sat → Type 0

-- the root with no other pass finds the word at twice the calls that it has seen
abbrev pub Expected : View → ℕ → Type 0
Expected v r = IsAlone v → r ≡ (2 * length v.seen) % 18446744073709551616

-- a look at the turns
abbrev pub looked : Play
looked st m r n = (n ≡ m) × Expected m.0 r

-- the whole history was seen, and the core taken
abbrev pub Took : (Opened → History → NodeCore → Type 0) → Sat → Sat → Type 0
Took At m n = (history : History) × (core : NodeCore) × IsPrefix m.0.seen history × At m.0.opened history core × (n ≡ (taking m.0 history, (0, core) ∷ m.1))

-- a try for the turn: it is won exactly where the word is the expected one
abbrev pub won : (Opened → History → NodeCore → Type 0) → Play
won At st m r n = (r ≡ st.first → Took At m n) × (r ≢ st.first → n ≡ m) × Expected m.0 r

-- the end of a turn: the core is given back, and the call is the last of the history
abbrev pub ended : Answered → Play
ended c st m r n = (n ≡ (served m.0 m.0.seen c, rest m.1)) × HasJust n.0

-- after a join: both histories begin the one that the root sees, and of each pass it has just its calls
abbrev pub Meets : View → Type 0
Meets v = IsPrefix v.was v.seen × IsPrefix v.heard v.seen × HasJust v

abbrev pub met : Play
met st m r n = (n ≡ m) × Meets m.0
