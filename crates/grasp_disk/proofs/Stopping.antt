-- Which calls of a disk in memory succeed.
use Rattle.std.proofs.Common.{◌≡◌, ℕ, suc, ◌+◌, ◌-◌, ◌<◌, ◌≤◌, inl, inr, Bool, true, IsTrue, nat_lt, List, [], ◌∷◌, length, Option, None, Some, refl, sym, ap, ◌∙◌, subst, arith, lt-ltb, le-ltb}
use Rattle.std.proofs.lemmas.Bool.{cases_lt}
use Rattle.grasp_disk.specs.Calls.{DiskCall, DiskLog}
use Rattle.grasp_disk.specs.Memory.{MemDiskState, MemStands, AllSucceed, StopsAt, succeeded, goes, rest_of, can_go, one_less, stopping_after}

some_left : (stops made : ℕ) → nat_lt 0 (stops - made) ≡ nat_lt made stops
some_left stops made = elim (cases_lt made stops) [
  | inl before ↦ lt-ltb 0 (stops - made) (omega (arith, before)) ∙ sym (lt-ltb made stops before)
  | inr past ↦ le-ltb 0 (stops - made) (omega (arith, past)) ∙ sym (le-ltb made stops past)
]

-- the next call succeeds where one can yet
pub next_goes : (stops : Option ℕ) (made : ℕ) → can_go (rest_of stops made) ≡ goes stops made
next_goes None made = refl
next_goes (Some stops) made = some_left stops made

-- and after it one less can
pub next_rest : (stops : Option ℕ) (made : ℕ) → one_less (rest_of stops made) ≡ rest_of stops (suc made)
next_rest None made = refl
next_rest (Some stops) made = ap Some (less stops made)
  where
    less : (n k : ℕ) → (n - k) - 1 ≡ n - suc k
    less n k = omega arith

-- calls that all succeeded stop at no earlier number than theirs
pub all_go : (stops : ℕ) (calls : List DiskCall) → length calls ≤ stops → AllSucceed calls → StopsAt (Some stops) calls
all_go stops [] most all = tt
all_go stops (call ∷ earlier) most all = (is_true (succeeded call) all.0 ∙ sym (lt-ltb (length earlier) stops (omega (arith, most))), all_go stops earlier (omega (arith, most)) all.1)
  where
    is_true : (b : Bool) → IsTrue b → b ≡ true
    is_true b is = search Rattle.std.proofs.Common.rules

-- those of a disk that never stops all succeeded
pub never_stops : (calls : List DiskCall) → StopsAt None calls → AllSucceed calls
never_stops [] all = tt
never_stops (call ∷ earlier) all = (is_so (succeeded call) all.0, never_stops earlier all.1)
  where
    is_so : (b : Bool) → b ≡ true → IsTrue b
    is_so b is = search Rattle.std.proofs.Common.rules

-- told to stop, it stands for the log that stops so
pub stopped : (m : MemDiskState) (log : DiskLog) (calls : ℕ) → MemStands m log → AllSucceed log.calls → MemStands (record m { left = Some calls }) (stopping_after log calls)
stopped m log calls stands all = record {
  began = stands.began;
  size = stands.size;
  fit = stands.fit;
  bytes = stands.bytes;
  kept = stands.kept;
  torn = stands.torn;
  nothing = stands.nothing;
  stops = all_go (length log.calls + calls) log.calls (omega arith) all;
  left = ap Some (behind (length log.calls) calls);
}
  where
    behind : (made n : ℕ) → n ≡ (made + n) - made
    behind made n = omega arith
