-- Histories, call after call.
use Rattle.std.proofs.Common.{◌≡◌, ◌≤◌, refl, sym, ap, ◌∙◌, ℕ, List, [], ◌∷◌, ◌++◌, append_assoc}
use Rattle.std.proofs.lemmas.List.{append-nil}
use Rattle.grasp_node_main.specs.Turns.{Turn, turn_calls, all_turn_calls, last_reading, NeverFall}

-- ---- own calls

-- ---- turns

-- one more turn
pub turns_more : (ts : List Turn) (t : Turn) → all_turn_calls (ts ++ t ∷ []) ≡ all_turn_calls ts ++ turn_calls t
turns_more [] t = append-nil (turn_calls t)
turns_more (u ∷ ts) t = ap (λ x. turn_calls u ++ x) (turns_more ts t) ∙ sym (append_assoc (turn_calls u) (all_turn_calls ts) (turn_calls t))

pub last_more : (now : ℕ) (ts : List Turn) (t : Turn) → last_reading now (ts ++ t ∷ []) ≡ t.now
last_more now [] t = refl
last_more now (u ∷ ts) t = last_more u.now ts t

-- the readings still never fall with a later one
pub rising_more : (now : ℕ) (ts : List Turn) (t : Turn) → NeverFall now ts → last_reading now ts ≤ t.now → NeverFall now (ts ++ t ∷ [])
rising_more now [] t rising later = (later, tt)
rising_more now (u ∷ ts) t rising later = (rising.0, rising_more u.now ts t rising.1 later)
