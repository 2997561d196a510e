-- The walker's answers, from its steps.
use Rattle.std.proofs.Common.{◌≡◌, ℕ, ◌<◌, false, List, [], ◌∷◌, ◌++◌, length, take, get_or, Option, Some, None, refl, sym, ap, subst, ◌∙◌, arith}
use Rattle.std.proofs.lemmas.List.{length_push, take_at, get_or_at}
use Rattle.grasp_cbor.specs.declared.walker.FaultName.{FaultName}
use Rattle.grasp_cbor.specs.declared.heads.StringKind.{StringKind}
use Rattle.grasp_cbor.specs.declared.walker.Level.{Level}
use Rattle.grasp_cbor.specs.declared.walker.Stage.{Stage}
use Rattle.grasp_cbor.specs.declared.walker.Stage.TheVariants.{Beginning}
use Rattle.grasp_cbor.specs.declared.walker.Walk.{Walk}
use Rattle.grasp_cbor.specs.CanGoOn.{IsItem, CanGoOnWithin}
use Rattle.grasp_cbor.specs.Front.{Spot, Front, starts}
use Rattle.grasp_cbor.specs.Step.{Move, goes, whole, bad, step, levels_in, name_of}
use Rattle.grasp_cbor.specs.Stands.{StandsAt}
use Rattle.grasp_cbor.specs.Walking.{open_levels, Took}
use Rattle.grasp_cbor.specs.FaultAt.{FaultAt}
use Rattle.grasp_cbor.proofs.Cases.{made_fault}
use Rattle.grasp_cbor.proofs.Fronts.{front-open}
use Rattle.grasp_cbor.proofs.Moves.{After, moves}
use Rattle.grasp_cbor.proofs.Standings.{stands-front}

pub fresh : (levels : List Level) (d : ℕ) (string : Option StringKind) (stage : Stage) → d ≡ 0 → string ≡ None → stage ≡ Beginning → StandsAt (levels_in d levels) string stage [] (starts 0 false)
fresh levels d string stage e n q =
    subst (λ k. StandsAt (levels_in k levels) string stage [] (starts 0 false)) (sym e)
    (subst (λ z. StandsAt [] z stage [] (starts 0 false)) (sym n)
    (subst (λ x. StandsAt [] None x [] (starts 0 false)) (sym q) (record { depth = 16; outer = []; opened = []; cut = []; inside = (refl, refl); between = refl; at = (refl, refl); form = refl })))

pub took_fresh : (w : Walk) → w.depth ≡ 0 → w.string ≡ None → w.stage ≡ Beginning → w.taken ≡ 0 → 0 < w.limit → Took w []
took_fresh w e n q t l = record { spot = starts 0 false; at = fresh w.levels w.depth w.string w.stage e n q; taken = t; below = omega arith }

pub after_step : (w : Walk) (s : List ℕ) (byte : ℕ) (m : Move) → (t : Took w s) → byte < 256 → step (open_levels w) w.string w.stage byte ≡ m → After s t.spot byte m
after_step w s byte m t l e = subst (λ x. After s t.spot byte x) e (moves (open_levels w) w.string w.stage s t.spot byte t.at l)

-- some more
pub record HasMore (w : Walk) (s : List ℕ) : Type 0 where
  pub spot : Spot
  pub at : StandsAt (open_levels w) w.string w.stage s spot

pub more : (w new : Walk) (s : List ℕ) (byte : ℕ) → Took w s → byte < 256 → step (open_levels w) w.string w.stage byte ≡ goes (open_levels new) new.string new.stage → HasMore new (s ++ byte ∷ [])
more w new s byte t l e = let a = after_step w s byte (goes (open_levels new) new.string new.stage) t l e in record { spot = a.0; at = a.1 }

pub is_open : (w : Walk) (s : List ℕ) → HasMore w s → CanGoOnWithin 16 s
is_open w s h = front-open s h.spot (stands-front (open_levels w) w.string w.stage s h.spot h.at)

pub took_more : (w : Walk) (s : List ℕ) → HasMore w s → w.taken ≡ length s → w.taken < w.limit → Took w s
took_more w s h t l = record { spot = h.spot; at = h.at; taken = t; below = l }

pub is_whole : (w : Walk) (s : List ℕ) (byte : ℕ) → Took w s → byte < 256 → step (open_levels w) w.string w.stage byte ≡ whole → IsItem 16 (s ++ byte ∷ [])
is_whole w s byte t l e = after_step w s byte whole t l e

-- a byte at the end
at_end : (s : List ℕ) (byte : ℕ) → (take (length s) (s ++ byte ∷ []) ≡ s) × (get_or (s ++ byte ∷ []) (length s) 0 ≡ byte)
at_end s byte = (take_at s (byte ∷ []) (length s) refl, get_or_at s byte [] 0 (length s) refl)

pub fault_here : (s : List ℕ) (byte : ℕ) (name : FaultName) (spot : Spot) → Front s spot → name_of spot byte ≡ Some name → FaultAt (s ++ byte ∷ []) (length s) name
fault_here s byte name spot f n =
    let e = at_end s byte in
    made_fault (s ++ byte ∷ []) (length s) name spot (omega (arith, length_push s byte))
    (subst (λ x. CanGoOnWithin 16 x) (sym e.0) (front-open s spot f))
    (subst (λ x. Front x spot) (sym e.0) f)
    (ap (λ b. name_of spot b) e.1 ∙ n)

pub is_fault : (w : Walk) (s : List ℕ) (byte : ℕ) (name : FaultName) (at : ℕ) → Took w s → byte < 256 → step (open_levels w) w.string w.stage byte ≡ bad name → at ≡ w.taken → FaultAt (s ++ byte ∷ []) at name
is_fault w s byte name at t l e q =
    let f : Front s t.spot = stands-front (open_levels w) w.string w.stage s t.spot t.at in
    let n : name_of t.spot byte ≡ Some name = after_step w s byte (bad name) t l e in
    subst (λ k. FaultAt (s ++ byte ∷ []) k name) (sym (q ∙ t.taken)) (fault_here s byte name t.spot f n)
