-- Reading the items of a range one after the other.
use Rattle.std.proofs.Common.{MatchOption, Bool, true, false, ◌≡◌, ℕ, ◌+◌, ◌-◌, ◌<◌, ◌≤◌, Option, Some, None, List, [], ◌∷◌, ◌++◌, length, map, take, drop, get_or, slice_get, refl, sym, ap, ◌∙◌, arith, append_assoc, add-one}
use Rattle.std.proofs.lemmas.Option.{slice_get_read}
use Rattle.std.proofs.lemmas.List.{drop-map, take-map}
use Rattle.std.specs.List.{slice_range}
use Rattle.grasp_cbor.proofs.Behind.{drop_got}
use Rattle.grasp_cbor.specs.DataItem.{DataItem}
use Rattle.grasp_wire.specs.Reading.{◌>>=◌, each, one_or_more}

take_more : {X : Type 0} (n m : ℕ) (t : X) (ts : List X) → m + 1 ≡ n → take n (t ∷ ts) ≡ t ∷ take m ts
take_more n m t ts e = ap (λ k. take k (t ∷ ts)) (sym e ∙ add-one m)

pub turn : {X : Type 0} (ts : List X) (i to : ℕ) (t : X) → i < to → slice_get ts i ≡ Some t → slice_range ts i to ≡ t ∷ slice_range ts (i + 1) to
turn ts i to t lt at = ap (take (to - i)) (drop_got ts i t at) ∙ take_more (to - i) (to - (i + 1)) t (drop (i + 1) ts) (omega arith)

pub no_turn : {X : Type 0} (ts : List X) (i to : ℕ) → to ≤ i → slice_range ts i to ≡ []
no_turn ts i to le = let e : to - i ≡ 0 = omega arith in ap (λ k. take k (drop i ts)) e

-- what is read from a range that begins with this item
abbrev pub from_first : {X : Type 0} → (DataItem → Option X) → Option X → List DataItem → Option (List X)
from_first read o ts = o >>= λ x. each read ts >>= λ xs. Some (x ∷ xs)

pub begun : {X : Type 0} (read : DataItem → Option X) (ts : List DataItem) (from to : ℕ) (t : DataItem) (o : Option X) → from < to → slice_get ts from ≡ Some t → o ≡ read t
    → one_or_more read (slice_range ts from to) ≡ from_first read o (slice_range ts (from + 1) to)
begun read ts from to t o lt at is = ap (one_or_more read) (turn ts from to t lt at) ∙ ap (λ p. from_first read p (slice_range ts (from + 1) to)) (sym is)

-- with what was read before
abbrev pub after : {X : Type 0} → List X → Option (List X) → Option (List X)
after held o = o >>= λ xs. Some (held ++ xs)

after_more : {X : Type 0} (held : List X) (x : X) (o : Option (List X)) → after held (o >>= λ xs. Some (x ∷ xs)) ≡ after (held ++ x ∷ []) o
after_more held x None = refl
after_more held x (Some xs) = ap Some (sym (append_assoc held (x ∷ []) xs))

-- the items from one on
left_turn : {Y : Type 0} (v : Y → DataItem) (ys : List Y) (i : ℕ) (y : Y) → i < length ys → y ≡ get_or ys i y → map v (drop i ys) ≡ v y ∷ map v (drop (i + 1) ys)
left_turn v ys i y lt is = ap (map v) (drop_got ys i y (slice_get_read ys (length ys) i y refl lt is))

-- what adding the item's reading to a list answers
abbrev pub Pushes : {X : Type 0} → Option X → Bool → List X → List X → Type 0
Pushes o is_one old new = MatchOption o (is_one ≡ false) (λ x. (is_one ≡ true) × (new ≡ old ++ x ∷ []))

more_read : {X : Type 0} (read : DataItem → Option X) (o : Option X) (ts : List DataItem) (is_one : Bool) (held new : List X)
    → is_one ≡ true → Pushes o is_one held new → after held (from_first read o ts) ≡ after new (each read ts)
more_read read None ts is_one held new one push = absurd (cc)
more_read read (Some x) ts is_one held new one push = after_more held x (each read ts) ∙ ap (λ h. after h (each read ts)) (sym push.1)

pub more_pushed : {X Y : Type 0} (read : DataItem → Option X) (v : Y → DataItem) (ys : List Y) (i : ℕ) (y : Y) (is_one : Bool) (held new : List X)
    → i < length ys → y ≡ get_or ys i y → is_one ≡ true → Pushes (read (v y)) is_one held new
    → after held (each read (map v (drop i ys))) ≡ after new (each read (map v (drop (i + 1) ys)))
more_pushed read v ys i y is_one held new lt is one push =
    ap (λ us. after held (each read us)) (left_turn v ys i y lt is) ∙ more_read read (read (v y)) (map v (drop (i + 1) ys)) is_one held new one push

-- the rest of a range, with what was read first
range_of : {Y : Type 0} (v : Y → DataItem) (ys : List Y) (from to : ℕ) → slice_range (map v ys) from to ≡ map v (slice_range ys from to)
range_of v ys from to = ap (take (to - from)) (drop-map v from ys) ∙ take-map v (to - from) (drop from ys)

pub begun_with : {X Y : Type 0} (read : DataItem → Option X) (v : Y → DataItem) (ys : List Y) (ts : List DataItem) (from to : ℕ) (t : DataItem) (x : X)
    → map v ys ≡ ts → from < to → slice_get ts from ≡ Some t → Some x ≡ read t
    → one_or_more read (slice_range ts from to) ≡ after (x ∷ []) (each read (map v (slice_range ys (from + 1) to)))
begun_with read v ys ts from to t x e lt at is =
    begun read ts from to t (Some x) lt at is
    ∙ ap (λ us. after (x ∷ []) (each read us)) (ap (λ us. slice_range us (from + 1) to) (sym e) ∙ range_of v ys (from + 1) to)
