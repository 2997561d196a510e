-- What waits on streams.
use Rattle.std.proofs.Common.{◌≡◌, ℕ, ◌+◌, List, [], ◌∷◌, map, Option, None, Some, refl, subst}
use Rattle.std.specs.List.{AllZip, fold, sum_by, sum}
use Rattle.grasp_wire.specs.Cutter.{Past}
use Rattle.grasp_wire.specs.Stands.{KeepsUp, rest_of}
use Rattle.grasp_wire.specs.declared.cutter.Cutter.{Cutter}
use Rattle.grasp_core.specs.Kept.{kept_by, kept_on}
use Rattle.grasp_model_node.specs.Waiting.{HasWaiting}
use Rattle.grasp_core.specs.Stands.{StreamStands, CutsAs}
use Rattle.grasp_model_node.specs.Streams.{StreamRecord}
use Rattle.grasp_core.specs.declared.streams.Stream.{Stream}

waits : (limit : ℕ) (c : Option Cutter) (past : Option Past) → CutsAs limit c past → HasWaiting limit past (kept_by c)
waits limit None None h = refl
waits limit None (Some past) h = absurd h
waits limit (Some c) None h = absurd h
waits limit (Some c) (Some past) h =
    let k = subst (λ f. KeepsUp f c past) h.no_fault h.stands.keeps in
    subst (λ m. HasWaiting m (Some past) (kept_by (Some c))) h.limit_is (record { front = k.front; rest = rest_of c; forms = k.forms; parts = k.parts; count_is = refl })

-- each stream keeps what waits on it
pub all_wait : (limit : ℕ) (xs : List Stream) (ys : List StreamRecord) → AllZip (StreamStands limit) xs ys → AllZip (λ y count. HasWaiting limit y.past count) ys (map kept_on xs)
all_wait limit [] [] h = tt
all_wait limit [] (y ∷ ys) h = absurd h
all_wait limit (x ∷ xs) [] h = absurd h
all_wait limit (x ∷ xs) (y ∷ ys) h = (waits limit x.cutter y.past h.0.cuts, all_wait limit xs ys h.1)

sum_from : (n : ℕ) (xs : List Stream) → fold (λ (a : ℕ) (x : Stream). a + kept_on x) n xs ≡ fold (λ (a : ℕ) (k : ℕ). a + k) n (map kept_on xs)
sum_from n [] = refl
sum_from n (x ∷ xs) = sum_from (n + kept_on x) xs

pub sum_map : (xs : List Stream) → sum_by kept_on xs ≡ sum (map kept_on xs)
sum_map xs = sum_from 0 xs
