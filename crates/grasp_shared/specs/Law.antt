-- Inside: the rule of the table: one history, whose length the word tells, and to whose end the core in the slot was led.
use Rattle.std.specs.Prelude.{◌≡◌, ◌≢◌, ℕ, ◌+◌, ◌*◌, ◌%◌, ◌<◌, ◌≤◌, ◌⊎◌, List, [], length, slice_index}
use mathlib.Core.List.{IsPrefix}
use mathlib.Core.Option.{some}
use lib.ListN.{get_elem?}
use Rattle.atomic_table.specs.Table.{State}
use Rattle.grasp_core.specs.declared.node_core.NodeCore.{NodeCore}
use Rattle.grasp_shared.specs.Calls.{Kept, Opened}
use Rattle.grasp_shared.specs.History.{History, own_calls}
use Rattle.grasp_shared.specs.Passes.{EachJoined}
use Rattle.grasp_shared.specs.Totals.{total}
use Rattle.grasp_shared.specs.declared.view.View.{View}

abbrev pub lives : View → ℕ
lives v = v.live

abbrev pub turns : View → ℕ
turns v = v.turn

-- a live pass: what it has seen begins the history, and the history has of its calls just those that it made
pub record Fits (opened : Opened) (made : ℕ) (history : History) (v : View) : Type 0 where
  pub newer : v.number < made
  pub opened_is : v.opened ≡ opened
  pub prefix : IsPrefix v.seen history
  pub own : own_calls v.number history ≡ v.mine
  pub whole : v.turn ≡ 1 → v.seen ≡ history
  pub owned : own_calls v.number v.seen ≡ v.mine
  pub was : IsPrefix v.was v.seen
  pub heard : IsPrefix v.heard v.seen

-- a live pass or a joined one has the number
abbrev pub HasNumber : List View → List Kept → ℕ → Type 0
HasNumber views joined n = ((i : ℕ) × (v : View) × (get_elem? views i ≡ some v) × (v.live ≡ 1) × (v.number ≡ n)) ⊎ ((i : ℕ) × (k : Kept) × (get_elem? joined i ≡ some k) × (k.number ≡ n))

-- a pass that was joined, and whose number no live pass has
pub record Gone (made : ℕ) (history : History) (views : List View) (k : Kept) : Type 0 where
  pub newer : k.number < made
  pub own : own_calls k.number history ≡ k.mine
  pub alone : (i : ℕ) (v : View) → get_elem? views i ≡ some v → v.live ≡ 1 → v.number ≢ k.number

-- the root: so many passes were made and are out, and these were joined
pub record IsRoot (makes outs : ℕ) (joins : List Kept) (v : View) : Type 0 where
  pub live : v.live ≡ 1
  pub number : v.number ≡ 0
  pub made : v.made ≡ makes
  pub out : v.out ≡ outs
  pub joined : v.joined ≡ joins

-- At: the calls that led from the first core to a core
pub record Ruled (At : Opened → History → NodeCore → Type 0) (opened : Opened) (s : State NodeCore View) : Type 0 where
  pub history : History
  pub turning : ℕ
  pub made : ℕ
  pub out : ℕ
  pub joined : List Kept
  -- one word and one slot
  pub wide : length s.words ≡ 1
  pub deep : length s.homes ≡ 1
  -- the word is twice the history's length, and one more while a pass is in its turn
  pub word : slice_index s.words 0 ≡ (2 * length history + turning) % 18446744073709551616
  pub root : (v : View) × (get_elem? s.views 0 ≡ some v) × IsRoot made out joined v × EachJoined joined v.seen
  -- the live passes are one more than those that are out
  pub counted : total lives s.views ≡ out + 1
  -- at most one pass is in its turn
  pub turned : total turns s.views ≡ turning
  pub one : turning ≤ 1
  pub each : (i : ℕ) (v : View) → get_elem? s.views i ≡ some v → v.live ≡ 1 → Fits opened made history v
  pub dead : (i : ℕ) (v : View) → get_elem? s.views i ≡ some v → (v.live ≡ 1) ⊎ ((v.live ≡ 0) × (v.turn ≡ 0))
  -- no two live passes have one number
  pub apart : (i j : ℕ) (v w : View) → get_elem? s.views i ≡ some v → get_elem? s.views j ≡ some w → v.live ≡ 1 → w.live ≡ 1 → v.number ≡ w.number → i ≡ j
  -- a live pass has seen the whole history
  pub whole : (i : ℕ) × (v : View) × (get_elem? s.views i ≡ some v) × (v.live ≡ 1) × (v.seen ≡ history)
  pub gone : (i : ℕ) (k : Kept) → get_elem? joined i ≡ some k → Gone made history s.views k
  pub known : (n : ℕ) → n < made → HasNumber s.views joined n
  pub unmade : (n : ℕ) → made ≤ n → own_calls n history ≡ []
  -- while no pass is in its turn, the core is in the slot, at the end of the history
  pub home : turning ≡ 0 → (core : NodeCore) × (get_elem? s.homes 0 ≡ some (some core)) × At opened history core
