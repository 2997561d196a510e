-- Reading bytes within a limit has exactly one ending.
use Rattle.std.proofs.Common.{◌≡◌, ℕ, zero, suc, ◌+◌, ◌<◌, ◌≤◌, List, [], ◌∷◌, ◌++◌, length, take, drop, get_or, Option, Some, None, refl, sym, ap, subst, ◌∙◌, ◌⊎◌, inl, inr, append_assoc, append-nil, arith}
use Rattle.std.proofs.lemmas.List.{length-append, length-take, take-append-drop, take-take, take_more, take_all}
use Rattle.std.proofs.lemmas.Bool.{cases_lt, cases_order}
use Rattle.grasp_cbor.specs.Step.{name_of}
use Rattle.grasp_cbor.specs.declared.walker.FaultName.{FaultName}
use Rattle.grasp_cbor.proofs.HeadBytes.{AllBytes-append, AllBytes-drop, AllBytes-take, AllBytes-at}
use Rattle.grasp_cbor.specs.Bytes.{AllBytes}
use Rattle.grasp_cbor.specs.CanGoOn.{IsItem, CanGoOnWithin}
use Rattle.grasp_cbor.specs.Front.{Spot, Front}
use Rattle.grasp_cbor.specs.DataItem.{DataItem}
use Rattle.grasp_cbor.specs.Encodes.{Encodes}
use Rattle.grasp_cbor.specs.FaultAt.{FaultAt}
use Rattle.grasp_cbor.specs.Ending.{Ending, whole, partial, too_long, faulty, IsEnding}
use Rattle.grasp_cbor.proofs.Naming.{named_is, named_from}
use Rattle.grasp_cbor.proofs.Whole.{one_encodes}
use Rattle.grasp_cbor.proofs.Insides.{same_item, zero_item}
use Rattle.grasp_cbor.proofs.Fronts.{open-front}
use Rattle.grasp_cbor.proofs.Named.{unnamed_after}
use Rattle.grasp_cbor.proofs.Standings.{next-byte}
use Rattle.grasp_cbor.proofs.Unique.{one_spot}

open_prefix : (a d : List ℕ) → AllBytes d → CanGoOnWithin 16 (a ++ d) → CanGoOnWithin 16 a
open_prefix a [] b o = subst (λ x. CanGoOnWithin 16 x) (append-nil a) o
open_prefix a (x ∷ d) b o = (x, d ++ o.0 ∷ o.1, subst (λ y. IsItem 16 y) (append_assoc a (x ∷ d) (o.0 ∷ o.1)) o.2, AllBytes-append (x ∷ d) (o.0 ∷ o.1) b o.3)

item_prefix : (a d : List ℕ) → AllBytes d → 0 < length d → IsItem 16 (a ++ d) → CanGoOnWithin 16 a
item_prefix a [] b l i = absurd (omega arith)
item_prefix a (x ∷ d) b l i = (x, d, i, b)

not_both : (a d : List ℕ) → IsItem 16 a → CanGoOnWithin 16 (a ++ d) → ⊥
not_both a d i o =
    let e : a ++ (d ++ o.0 ∷ o.1) ≡ ((a ++ d) ++ o.0 ∷ o.1) ++ [] = sym (append_assoc a d (o.0 ∷ o.1)) ∙ sym (append-nil ((a ++ d) ++ o.0 ∷ o.1)) in
    let q = ap length (same_item 16 16 a ((a ++ d) ++ o.0 ∷ o.1) (d ++ o.0 ∷ o.1) [] i o.2 e) in
    omega (arith, length-append a d, length-append (a ++ d) (o.0 ∷ o.1))

parted : (s : List ℕ) (k m : ℕ) → k ≤ m → take m s ≡ take k s ++ drop k (take m s)
parted s k m l = sym (take-append-drop k (take m s)) ∙ ap (λ x. x ++ drop k (take m s)) (take-take k m s l)

pub open_sooner : (s : List ℕ) (bs : AllBytes s) (k m : ℕ) → k ≤ m → CanGoOnWithin 16 (take m s) → CanGoOnWithin 16 (take k s)
open_sooner s bs k m l o = open_prefix (take k s) (drop k (take m s)) (AllBytes-drop k (take m s) (AllBytes-take m s bs)) (subst (λ x. CanGoOnWithin 16 x) (parted s k m l) o)

item_later : (s : List ℕ) (bs : AllBytes s) (k m : ℕ) → k < m → m ≤ length s → IsItem 16 (take m s) → CanGoOnWithin 16 (take k s)
item_later s bs k m l h i =
    let e : take m s ≡ take k s ++ drop k (take m s) = parted s k m (omega arith) in
    let len = ap length e in
    item_prefix (take k s) (drop k (take m s)) (AllBytes-drop k (take m s) (AllBytes-take m s bs)) (omega (arith, length-append (take k s) (drop k (take m s)), length-take k s, length-take m s)) (subst (λ x. IsItem 16 x) e i)

not_later : (s : List ℕ) (k m : ℕ) → k ≤ m → IsItem 16 (take k s) → CanGoOnWithin 16 (take m s) → ⊥
not_later s k m l i o = not_both (take k s) (drop k (take m s)) i (subst (λ x. CanGoOnWithin 16 x) (parted s k m l) o)

at_end : (s : List ℕ) → CanGoOnWithin 16 s → CanGoOnWithin 16 (take (length s) s)
at_end s o = subst (λ x. CanGoOnWithin 16 x) (sym (take_all (length s) s (omega arith))) o

-- an item, as bytes
pub item_here : (item : DataItem) (s : List ℕ) → Encodes item s → IsItem 16 s
item_here item s h = record { item = item; encoding = h.encoding; within = h.within }

fault_front : (s : List ℕ) (bs : AllBytes s) (k m : ℕ) (name : FaultName) → k < m → FaultAt s k name → CanGoOnWithin 16 (take m s) → ⊥
fault_front s bs k m name l f o = f.not_open (open_sooner s bs (k + 1) m (omega arith) o)

fault_item : (s : List ℕ) (bs : AllBytes s) (k m : ℕ) (name : FaultName) → FaultAt s k name → m ≤ length s → IsItem 16 (take m s) → ⊥
fault_item s bs k m name f h i =
    elim (cases_lt k m) [
      | inr le ↦ not_later s m k le i f.before
      | inl lt ↦ elim (cases_lt (k + 1) m) [
        | inl up ↦ f.not_open (item_later s bs (k + 1) m up h i)
        | inr eq ↦ let e : m ≡ k + 1 = omega arith in f.not_whole (subst (λ n. IsItem 16 (take n s)) e i)
      ]
    ]

one_name : (s : List ℕ) (k : ℕ) (a b : FaultName) → FaultAt s k a → FaultAt s k b → a ≡ b
one_name s k a b f g =
    let e : Some a ≡ Some b = sym (named_from f.spot (get_or s k 0) a f.named) ∙ ap (λ x. name_of x (get_or s k 0)) (one_spot (take k s) f.spot g.spot f.front g.front) ∙ named_from g.spot (get_or s k 0) b g.named in
    cc

one_place : (s : List ℕ) (bs : AllBytes s) (a b : FaultName) (n m : ℕ) → FaultAt s n a → FaultAt s m b → n ≡ m
one_place s bs a b n m f g =
    elim (cases_order n m) [
      | inl q ↦ q
      | inr (inl l) ↦ absurd (fault_front s bs n m a l f g.before)
      | inr (inr l) ↦ absurd (fault_front s bs m n b l g f.before)
    ]

pub one_fault : (s : List ℕ) (n m : ℕ) (a b : FaultName) → AllBytes s → FaultAt s n a → FaultAt s m b → (n ≡ m) × (a ≡ b)
one_fault s n m a b bs f g =
    let e : n ≡ m = one_place s bs a b n m f g in
    (e, one_name s m a b (subst (λ k. FaultAt s k a) e f) g)

pub first_fault : (s : List ℕ) (place k : ℕ) (name : FaultName) → AllBytes s → FaultAt s place name → k ≤ place → CanGoOnWithin 16 (take k s)
first_fault s place k name bs f l = open_sooner s bs k place l f.before

-- two items at the front of the same bytes
one_whole : (s : List ℕ) (a b : DataItem) (n m : ℕ) → n ≤ length s → m ≤ length s → Encodes a (take n s) → Encodes b (take m s) → (a ≡ b) × (n ≡ m)
one_whole s a b n m l h p q =
    let e = one_encodes a b (take n s) (take m s) (drop n s) (drop m s) p q (take-append-drop n s ∙ sym (take-append-drop m s)) in
    let k : length (take n s) ≡ length (take m s) = ap length e.1 in
    (e.0, omega (arith, length-take n s, length-take m s))

pub one_ending : (s : List ℕ) (limit : ℕ) (a b : Ending) → AllBytes s → IsEnding s limit a → IsEnding s limit b → a ≡ b
one_ending s limit partial partial bs h k = refl
one_ending s limit partial (whole item n) bs h k = absurd (not_later s n (length s) k.inside (item_here item (take n s) k.encodes) (at_end s h.can_go_on))
one_ending s limit partial too_long bs h k = absurd (let x = h.short in let y = k.long in omega arith)
one_ending s limit partial (faulty name at) bs h k = absurd (fault_front s bs at (length s) name k.fault.inside k.fault (at_end s h.can_go_on))
one_ending s limit (whole item n) partial bs h k = absurd (not_later s n (length s) h.inside (item_here item (take n s) h.encodes) (at_end s k.can_go_on))
one_ending s limit (whole a n) (whole b m) bs h k =
    let e = one_whole s a b n m h.inside k.inside h.encodes k.encodes in
    λ i. whole (e.0 i) (e.1 i)
one_ending s limit (whole item n) too_long bs h k = absurd (not_later s n limit h.within (item_here item (take n s) h.encodes) k.can_go_on)
one_ending s limit (whole item n) (faulty name at) bs h k = absurd (fault_item s bs at n name k.fault h.inside (item_here item (take n s) h.encodes))
one_ending s limit too_long partial bs h k = absurd (let x = h.long in let y = k.short in omega arith)
one_ending s limit too_long (whole item n) bs h k = absurd (not_later s n limit k.within (item_here item (take n s) k.encodes) h.can_go_on)
one_ending s limit too_long too_long bs h k = refl
one_ending s limit too_long (faulty name at) bs h k = absurd (fault_front s bs at limit name k.below k.fault h.can_go_on)
one_ending s limit (faulty name at) partial bs h k = absurd (fault_front s bs at (length s) name h.fault.inside h.fault (at_end s k.can_go_on))
one_ending s limit (faulty name at) (whole item n) bs h k = absurd (fault_item s bs at n name h.fault k.inside (item_here item (take n s) k.encodes))
one_ending s limit (faulty name at) too_long bs h k = absurd (fault_front s bs at limit name h.below h.fault k.can_go_on)
one_ending s limit (faulty a n) (faulty b m) bs h k =
    let e = one_fault s n m a b bs h.fault k.fault in
    λ i. faulty (e.1 i) (e.0 i)

-- a fault from its name
pub made_fault : (s : List ℕ) (k : ℕ) (name : FaultName) (spot : Spot) → k < length s → CanGoOnWithin 16 (take k s) → Front (take k s) spot → name_of spot (get_or s k 0) ≡ Some name → FaultAt s k name
made_fault s k name spot l o f e =
    let none : CanGoOnWithin 16 (take (k + 1) s) ⊎ IsItem 16 (take (k + 1) s) → ⊥ = λ x.
    (let q : Some name ≡ None = sym e ∙ unnamed_after (take k s) spot (get_or s k 0) f (subst (λ y. CanGoOnWithin 16 y ⊎ IsItem 16 y) (take_more s k 0 l) x) in cc) in
    record {
      inside = l;
      before = o;
      not_open = λ x. none (inl x);
      not_whole = λ x. none (inr x);
      spot = spot;
      front = f;
      named = named_is spot (get_or s k 0) name e;
    }

abbrev HasEnding : List ℕ → ℕ → Type 0
HasEnding s limit = (e : Ending) × IsEnding s limit e

by_name : (fuel : ℕ) (s : List ℕ) (limit k : ℕ) → ((i : ℕ) → get_or s i 0 < 256) → k < limit → k < length s → length s ≤ k + suc fuel → CanGoOnWithin 16 (take k s) → (spot : Spot) → Front (take k s) spot → (r : Option FaultName) → name_of spot (get_or s k 0) ≡ r → (CanGoOnWithin 16 (take (k + 1) s) → HasEnding s limit) → HasEnding s limit
by_name fuel s limit k bytes lt more f o spot g (Some name) e rec = (faulty name k, record { below = lt; fault = made_fault s k name spot more o g e })
by_name fuel s limit k bytes lt more f o spot g None e rec =
    elim (next-byte (take k s) spot (get_or s k 0) g (bytes k) e) [
      | inl p ↦ rec (subst (λ x. CanGoOnWithin 16 x) (sym (take_more s k 0 more)) p)
      | inr i ↦ let j : IsItem 16 (take (k + 1) s) = subst (λ x. IsItem 16 x) (sym (take_more s k 0 more)) i in
          (whole j.item (k + 1), record { encodes = record { encoding = j.encoding; within = j.within }; inside = omega arith; within = omega arith })
    ]

nothing_open : CanGoOnWithin 16 []
nothing_open = (0, [], zero_item 16, (omega arith, tt))

from_here : (fuel : ℕ) (s : List ℕ) (limit k : ℕ) → ((i : ℕ) → get_or s i 0 < 256) → k ≤ length s → k ≤ limit → length s ≤ k + fuel → CanGoOnWithin 16 (take k s) → HasEnding s limit
from_here zero s limit k bytes l h f o =
    let e : k ≡ length s = omega arith in
    elim (cases_lt k limit) [
      | inl lt ↦ (partial, record { short = omega arith; can_go_on = subst (λ x. CanGoOnWithin 16 x) (take_all k s (omega arith)) o })
      | inr ge ↦ let q : k ≡ limit = omega arith in (too_long, record { long = omega arith; can_go_on = subst (λ n. CanGoOnWithin 16 (take n s)) q o })
    ]
from_here (suc fuel) s limit k bytes l h f o =
    elim (cases_lt k limit) [
      | inr ge ↦ let q : k ≡ limit = omega arith in (too_long, record { long = omega arith; can_go_on = subst (λ n. CanGoOnWithin 16 (take n s)) q o })
      | inl lt ↦ elim (cases_lt k (length s)) [
        | inr end ↦ (partial, record { short = omega arith; can_go_on = subst (λ x. CanGoOnWithin 16 x) (take_all k s end) o })
        | inl more ↦ let g = open-front (take k s) o in
            by_name fuel s limit k bytes lt more f o g.0 g.1 (name_of g.0 (get_or s k 0)) refl (λ x. from_here fuel s limit (k + 1) bytes (omega arith) (omega arith) (omega arith) x)
      ]
    ]

pub some_ending : (s : List ℕ) (limit : ℕ) → AllBytes s → HasEnding s limit
some_ending s limit bytes = from_here (length s) s limit 0 (AllBytes-at s bytes) (omega arith) (omega arith) (omega arith) nothing_open
