-- What passes know, and how it changes.
use Rattle.std.specs.Prelude.{◌≡◌, ◌≢◌, ℕ, ◌+◌, ◌-◌, List, [], ◌∷◌, ◌++◌, length, nat_lt, if◌then◌else◌, None}
use mathlib.Core.List.{IsPrefix}
use mathlib.Core.Option.{some}
use lib.ListN.{get_elem?}
use Rattle.grasp_shared.specs.Calls.{Answered, Kept, Opened, IsLegalFrom, entry}
use Rattle.grasp_shared.specs.History.{History, own_calls}
use Rattle.grasp_shared.specs.declared.view.View.{View}

abbrev pub view : ℕ → ℕ → ℕ → Opened → History → History → ℕ → ℕ → List Kept → History → History → View
view number live turn opened seen mine made out joined was heard = record {
  number = number;
  live = live;
  turn = turn;
  opened = opened;
  seen = seen;
  mine = mine;
  made = made;
  out = out;
  joined = joined;
  was = was;
  heard = heard;
}

-- the root of a new registry
abbrev pub first : Opened → View
first opened = view 0 1 0 opened [] [] 1 0 [] [] []

-- Inside: what is left of a pass that was joined
abbrev pub spent : View
spent = view 0 0 0 None [] [] 0 0 [] [] []

-- the pass, with a new history, its calls in it, and its turn
abbrev pub fresh : View → History → History → ℕ → View
fresh v history mine turn = view v.number v.live turn v.opened history mine v.made v.out v.joined v.was v.heard

-- Inside: in its turn, when it has seen the whole history
abbrev pub taking : View → History → View
taking v history = fresh v history v.mine 1

-- after its call, which came behind this history
abbrev pub served : View → History → Answered → View
served v history c = fresh v (history ++ entry v.number c ∷ []) (v.mine ++ entry v.number c ∷ []) 0

-- the root after a split
abbrev pub left : View → View
left v = view v.number v.live v.turn v.opened v.seen v.mine (v.made + 1) (v.out + 1) v.joined v.was v.heard

-- the new pass: of a new number, it has seen what the root has seen, and has no calls
abbrev pub right : View → View
right v = view v.made 1 0 v.opened v.seen [] 0 0 [] [] []

abbrev pub longer : History → History → History
longer xs ys = if nat_lt (length xs) (length ys) then ys else xs

-- a pass's number and calls
abbrev pub kept : View → Kept
kept w = record { number = w.number; mine = w.mine }

-- the root after it took a pass back: it has seen the longer of the two histories, and keeps the pass's number and calls
abbrev pub both : View → View → View
both v w = view v.number v.live v.turn v.opened (longer v.seen w.seen) v.mine v.made (v.out - 1) (v.joined ++ kept w ∷ []) v.seen w.seen

-- of each joined pass the history has just its calls
abbrev pub EachJoined : List Kept → History → Type 0
EachJoined joined history = (i : ℕ) (k : Kept) → get_elem? joined i ≡ some k → own_calls k.number history ≡ k.mine

-- of the pass, and of those that it joined if it is the root, the history has just the calls that they made
abbrev pub HasJust : View → Type 0
HasJust v = (own_calls v.number v.seen ≡ v.mine) × (v.number ≡ 0 → EachJoined v.joined v.seen)

-- the history has calls of the root and of the passes that it joined, and no other
abbrev pub NoOther : View → Type 0
NoOther v = (n : ℕ) → n ≢ v.number → ((i : ℕ) (k : Kept) → get_elem? v.joined i ≡ some k → k.number ≢ n) → own_calls n v.seen ≡ []

-- The history after a call is legal, begins with all that the pass had seen, and ends with the call and its reply; the pass
-- has then seen this history. Of the pass's calls it has just those that the pass made, each once; and, where the pass is the
-- root, of each pass that was joined too.
abbrev pub Served : View → View → Answered → Type 0
Served v w c = (history : History) × IsPrefix v.seen history × (w ≡ served v history c) × IsLegalFrom v.opened w.seen × HasJust w

-- the root, with no other pass
pub record IsAlone (v : View) : Type 0 where
  pub live : v.live ≡ 1
  pub number : v.number ≡ 0
  pub out : v.out ≡ 0
  pub turn : v.turn ≡ 0
