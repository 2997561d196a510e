-- Where an item ends, from the walker's answers.
use Rattle.std.proofs.Common.{◌≡◌, ℕ, ◌+◌, ◌<◌, ◌≤◌, List, [], ◌∷◌, ◌++◌, length, take, drop, get_or, Err, sym, ap, subst, ◌∙◌, arith}
use Rattle.std.proofs.lemmas.List.{take_more, length-take, length-append, take-append-drop, take-append-le, get_or_append_left}
use Rattle.grasp_cbor.specs.declared.walker.WalkFault.{WalkFault}
use Rattle.grasp_cbor.specs.declared.walker.WalkFault.TheVariants.{Bad, TooLong}
use Rattle.grasp_cbor.specs.declared.walker.Walk.{Walk}
use Rattle.grasp_cbor.specs.CanGoOn.{IsItem, CanGoOnWithin}
use Rattle.grasp_cbor.specs.FaultAt.{FaultAt}
use Rattle.grasp_cbor.specs.Front.{Front, IsNamed}
use Rattle.grasp_cbor.specs.EndsAt.{EndsAt}
use Rattle.grasp_cbor.specs.declared.walker.FaultName.{FaultName}
use Rattle.grasp_cbor.specs.Walking.{Took, open_levels, Answers}
use Rattle.grasp_cbor.proofs.Fronts.{front-open}
use Rattle.grasp_cbor.proofs.Standings.{stands-front}

pub took_open : (w : Walk) (s : List ℕ) → Took w s → CanGoOnWithin 16 s
took_open w s t = front-open s t.spot (stands-front (open_levels w) w.string w.stage s t.spot t.at)

pub item_more : (xs : List ℕ) (i : ℕ) → i < length xs → IsItem 16 (take i xs ++ get_or xs i 0 ∷ []) → IsItem 16 (take (i + 1) xs)
item_more xs i l h = subst (λ z. IsItem 16 z) (sym (take_more xs i 0 l)) h

pub open_more : (xs : List ℕ) (i : ℕ) → i < length xs → CanGoOnWithin 16 (take i xs ++ get_or xs i 0 ∷ []) → CanGoOnWithin 16 (take (i + 1) xs)
open_more xs i l h = subst (λ z. CanGoOnWithin 16 z) (sym (take_more xs i 0 l)) h

pub took_on : (w : Walk) (xs : List ℕ) (i : ℕ) → i < length xs → Took w (take i xs ++ get_or xs i 0 ∷ []) → Took w (take (i + 1) xs)
took_on w xs i l h = subst (λ z. Took w z) (sym (take_more xs i 0 l)) h

pub taken_is : (w : Walk) (xs : List ℕ) (i : ℕ) → i ≤ length xs → Took w (take i xs) → i < w.limit
taken_is w xs i l t = let a = t.taken in let b = t.below in omega (arith, length-take i xs)

-- a fault stays, whatever follows
pub fault_stays : (s t : List ℕ) (place : ℕ) (name : FaultName) → FaultAt s place name → FaultAt (s ++ t) place name
fault_stays s t place name f =
    let l = f.inside in
    let front : take place (s ++ t) ≡ take place s = take-append-le place s t (omega arith) in
    let more : take (place + 1) (s ++ t) ≡ take (place + 1) s = take-append-le (place + 1) s t (omega arith) in
    let cell : get_or (s ++ t) place 0 ≡ get_or s place 0 = get_or_append_left s t 0 place l in
    record {
      inside = omega (arith, length-append s t);
      before = subst (λ x. CanGoOnWithin 16 x) (sym front) f.before;
      not_open = λ o. f.not_open (subst (λ x. CanGoOnWithin 16 x) more o);
      not_whole = λ i. f.not_whole (subst (λ x. IsItem 16 x) more i);
      spot = f.spot;
      front = subst (λ x. Front x f.spot) (sym front) f.front;
      named = subst (λ b. IsNamed f.spot b name) (sym cell) f.named;
    }

pub faulted : (old new : Walk) (xs : List ℕ) (i limit : ℕ) (f : WalkFault) → i < length xs → i < limit → old.limit ≡ limit → Answers old new (take i xs) (get_or xs i 0) (Err f) → EndsAt xs limit (Err f)
faulted old new xs i limit (Bad name at) l below e h =
    let p = h.1 in
    let whole : (take i xs ++ get_or xs i 0 ∷ []) ++ drop (i + 1) xs ≡ xs = ap (λ x. x ++ drop (i + 1) xs) (sym (take_more xs i 0 l)) ∙ take-append-drop (i + 1) xs in
    record { below = omega (arith, length-take i xs); fault = subst (λ x. FaultAt x at name) whole (fault_stays (take i xs ++ get_or xs i 0 ∷ []) (drop (i + 1) xs) at name h.0) }
faulted old new xs i limit TooLong l below e h =
    let k = h.1 in
    let q : i + 1 ≡ limit = omega (arith, length-take i xs) in
    record { long = omega arith; can_go_on = subst (λ n. CanGoOnWithin 16 (take n xs)) q (open_more xs i l h.0) }
