-- Passing over bytes behind which an item goes on.
use Rattle.std.proofs.Common.{◌≡◌, ℕ, zero, suc, ◌+◌, ◌-◌, ◌/◌, ◌%◌, ◌<◌, ◌≤◌, ◌≢◌, Bool, cond, ltb, eqb, List, [], ◌∷◌, ◌++◌, length, take, drop, get_or, take-add, Option, Some, None, true, false, refl, sym, ap, subst, ◌∙◌, inl, inr, append_assoc, append-nil, arith}
use Rattle.std.proofs.lemmas.Bool.{cases_lt, le-ltb, lt-ltb, le-leb, ne_eqb, eq-eqb}
use Rattle.std.proofs.lemmas.List.{length-append, length-take-le, length-drop, take_all, get_or-take}
use Rattle.grasp_cbor.specs.declared.utf8.Owed.{Owed}
use Rattle.grasp_cbor.specs.declared.heads.StringKind.{StringKind}
use Rattle.grasp_cbor.specs.declared.heads.Major.TheVariants.{Unsigned}
use Rattle.grasp_cbor.specs.declared.walker.FaultName.TheVariants.{NotText}
use Rattle.grasp_cbor.specs.declared.walker.Level.{Level}
use Rattle.grasp_cbor.specs.declared.walker.Stage.{Stage}
use Rattle.grasp_cbor.specs.declared.walker.Stage.TheVariants.{Beginning, Heading, InBytes, InText}
use Rattle.grasp_cbor.specs.declared.walker.Walk.{Walk}
use Rattle.grasp_cbor.specs.Bytes.{AllBytes}
use Rattle.grasp_cbor.specs.Front.{Spot, body_of}
use Rattle.grasp_cbor.specs.Utf8.{ready, lead, owed_after}
use Rattle.grasp_cbor.specs.Step.{Move, goes, whole, bad, step, ended, finished, opened, after_head, width_of, shifted, texts, started, first_name}
use Rattle.grasp_cbor.specs.Stands.{StandsAt}
use Rattle.grasp_cbor.specs.Walking.{Took, limit_of}
use Rattle.grasp_cbor.specs.Passing.{run, stand_of, Passed}
use Rattle.grasp_cbor.specs.Major.{major_of}
use Rattle.grasp_cbor.specs.declared.read.ItemFault.{ItemFault}
use Rattle.grasp_cbor.specs.Ending.{IsPartial}
use Rattle.grasp_cbor.specs.ItemReader.{Keeps}
use Rattle.grasp_cbor.proofs.Taking.{is_open}
use Rattle.grasp_cbor.proofs.Moves.{After, moves, nothing_got}

-- ---- the walker stands behind them

abbrev Stood : List ℕ → Move → Type 0
Stood s (goes levels string stage) = (spot : Spot) × StandsAt levels string stage s spot
Stood s whole = Unit {0}
Stood s (bad name) = Unit {0}

one_stood : (s : List ℕ) (spot : Spot) (byte : ℕ) (m : Move) → After s spot byte m → Stood (s ++ byte ∷ []) m
one_stood s spot byte (goes levels string stage) h = h
one_stood s spot byte whole h = tt
one_stood s spot byte (bad name) h = tt

run_stood : (bs s : List ℕ) (m : Move) → AllBytes bs → Stood s m → Stood (s ++ bs) (run m bs)
run_stood [] s (goes levels string stage) a h = subst (λ x. Stood x (goes levels string stage)) (sym (append-nil s)) h
run_stood (b ∷ bs) s (goes levels string stage) a h =
    subst (λ x. Stood x (run (step levels string stage b) bs)) (append_assoc s (b ∷ []) bs)
    (run_stood bs (s ++ b ∷ []) (step levels string stage b) a.1 (one_stood s h.0 b (step levels string stage b) (moves levels string stage s h.0 b h.1 a.0)))
run_stood _ s _ a h = tt

pub took_passed : (old mid new : Walk) (s bs : List ℕ) → Took old s → AllBytes bs → Passed old mid bs → stand_of mid ≡ stand_of new → new.taken ≡ old.taken + length bs → new.taken < new.limit → Took new (s ++ bs)
took_passed old mid new s bs t a p e n l =
    let h : Stood (s ++ bs) (stand_of new) = subst (λ m. Stood (s ++ bs) m) (p ∙ e) (run_stood bs s (stand_of old) a (t.spot, t.at)) in
    let k = t.taken in
    record { spot = h.0; at = h.1; taken = omega (arith, length-append s bs); below = l }

-- a part of the bytes, and then so many more
then_more : (s xs : List ℕ) (i n : ℕ) → (s ++ take i xs) ++ take n (drop i xs) ≡ s ++ take (i + n) xs
then_more s xs i n = append_assoc s (take i xs) (take n (drop i xs)) ∙ ap (λ x. s ++ x) (sym (take-add i n xs))

-- the bytes from there on
pub suffix : (xs : List ℕ) (i : ℕ) → take (length xs - i) (drop i xs) ≡ drop i xs
suffix xs i = take_all (length xs - i) (drop i xs) (omega (arith, length-drop i xs))

pub then_rest : (s xs : List ℕ) (i n : ℕ) → (s ++ take i xs) ++ take n (take (length xs - i) (drop i xs)) ≡ s ++ take (i + n) xs
then_rest s xs i n = ap (λ x. (s ++ take i xs) ++ take n x) (suffix xs i) ∙ then_more s xs i n

-- ---- strings

pub run_bytes : (bs : List ℕ) (levels : List Level) (string : Option StringKind) (left : ℕ) → length bs ≤ left - 1 → run (goes levels string (InBytes left)) bs ≡ goes levels string (InBytes (left - length bs))
run_bytes [] levels string left h = let e : left ≡ left - 0 = omega arith in ap (λ n. goes levels string (InBytes n)) e
run_bytes (b ∷ bs) levels string left h =
    let l : 1 < left = omega arith in
    let e : left - 1 - length bs ≡ left - suc (length bs) = omega arith in
    ap (λ t. run (cond t (goes levels string (InBytes (left - 1))) (ended levels string)) bs) (lt-ltb 1 left l)
    ∙ run_bytes bs levels string (left - 1) (omega arith) ∙ ap (λ n. goes levels string (InBytes n)) e

ascii_after : (owed : Owed) (b : ℕ) → owed.need ≡ 0 → b < 128 → owed_after owed b ≡ Some ready
unfolding owed_after lead
ascii_after owed b e l = rw (eq-eqb owed.need 0 e, lt-ltb b 128 l) refl

one_ascii : (levels : List Level) (string : Option StringKind) (owed : Owed) (left b : ℕ) → owed.need ≡ 0 → b < 128 → 1 < left → step levels string (InText owed left) b ≡ goes levels string (InText ready (left - 1))
one_ascii levels string owed left b e l m =
    let z : 0 ≤ left - 1 = omega arith in
    ap (λ o. texts levels string o left) (ascii_after owed b e l)
    ∙ ap (λ t. cond t (cond (ltb 1 left) (goes levels string (InText ready (left - 1))) (ended levels string)) (bad NotText)) (le-leb 0 (left - 1) z)
    ∙ ap (λ t. cond t (goes levels string (InText ready (left - 1))) (ended levels string)) (lt-ltb 1 left m)

pub run_text : (b : ℕ) (bs : List ℕ) (levels : List Level) (string : Option StringKind) (owed : Owed) (left : ℕ) → owed.need ≡ 0 → ((k : ℕ) → k < suc (length bs) → get_or (b ∷ bs) k 0 < 128) → suc (length bs) ≤ left - 1
    → run (goes levels string (InText owed left)) (b ∷ bs) ≡ goes levels string (InText ready (left - suc (length bs)))
run_text b [] levels string owed left e a h = ap (λ m. run m []) (one_ascii levels string owed left b e (a 0 (omega arith)) (omega arith))
run_text b (c ∷ bs) levels string owed left e a h =
    let n : left - 1 - suc (length bs) ≡ left - suc (suc (length bs)) = omega arith in
    ap (λ m. run m (c ∷ bs)) (one_ascii levels string owed left b e (a 0 (omega arith)) (omega arith))
    ∙ run_text c bs levels string ready (left - 1) refl (λ k l. a (suc k) (omega arith)) (omega arith)
    ∙ ap (λ x. goes levels string (InText ready x)) n

at_front : (b : ℕ) (s : List ℕ) (n : ℕ) → n ≤ length s → ((k : ℕ) → k < suc n → get_or (b ∷ s) k 0 < 128) → (k : ℕ) → k < suc (length (take n s)) → get_or (b ∷ take n s) k 0 < 128
at_front b s n m h zero l = h 0 (omega arith)
at_front b s n m h (suc j) l =
    let len = length-take-le n s m in
    let e : get_or (take n s) j 0 ≡ get_or s j 0 = get_or-take n s j 0 (omega arith) in
    subst (λ x. x < 128) (sym e) (h (suc j) (omega arith))

pub run_ascii : (n : ℕ) (s : List ℕ) (levels : List Level) (string : Option StringKind) (owed : Owed) (left : ℕ) → owed.need ≡ 0 → 0 < n → n ≤ length s → ((k : ℕ) → k < n → get_or s k 0 < 128) → n ≤ left - 1
    → run (goes levels string (InText owed left)) (take n s) ≡ goes levels string (InText ready (left - n))
run_ascii zero s levels string owed left e z m h l = absurd (omega arith)
run_ascii (suc n) [] levels string owed left e z m h l = absurd (omega arith)
run_ascii (suc n) (b ∷ s) levels string owed left e z m h l =
    let len : length (take n s) ≡ n = length-take-le n s (omega arith) in
    run_text b (take n s) levels string owed left e (at_front b s n (omega arith) h) (omega arith)
    ∙ ap (λ x. goes levels string (InText ready (left - suc x))) len

-- ---- heads

pub small_head : (levels : List Level) (string : Option StringKind) (first : ℕ) → string ≡ None → first_name levels None (first / 32) (first % 32) ≡ None → first % 32 < 24
    → step levels string Beginning first ≡ after_head levels None (body_of (major_of (first / 32)) (first % 32))
small_head levels string first n e l =
    ap (λ z. step levels z Beginning first) n
    ∙ ap (λ f. started levels None f (first / 32) (first % 32)) e
    ∙ ap (λ t. cond t (after_head levels None (body_of (major_of (first / 32)) (first % 32))) (cond (eqb (first % 32) 31) (opened levels None (major_of (first / 32))) (goes levels None (Heading (major_of (first / 32)) (eqb (first % 32) 24) 0 (width_of (first % 32)))))) (lt-ltb (first % 32) 24 l)

unsigned_major : (n : ℕ) → n ≡ 0 → major_of n ≡ Unsigned
unfolding major_of
unsigned_major n e = rw e refl

pub number_head : (levels : List Level) (string : Option StringKind) (first : ℕ) → string ≡ None → first_name levels None (first / 32) (first % 32) ≡ None → 24 ≤ first % 32 → first ≤ 27
    → step levels string Beginning first ≡ goes levels None (Heading Unsigned (eqb (first % 32) 24) 0 (width_of (first % 32)))
number_head levels string first n e g l =
    let ne : first % 32 ≢ 31 = λ q. omega arith in
    ap (λ z. step levels z Beginning first) n
    ∙ ap (λ f. started levels None f (first / 32) (first % 32)) e
    ∙ ap (λ t. cond t (after_head levels None (body_of (major_of (first / 32)) (first % 32))) (cond (eqb (first % 32) 31) (opened levels None (major_of (first / 32))) (goes levels None (Heading (major_of (first / 32)) (eqb (first % 32) 24) 0 (width_of (first % 32)))))) (le-ltb (first % 32) 24 g)
    ∙ ap (λ t. cond t (opened levels None (major_of (first / 32))) (goes levels None (Heading (major_of (first / 32)) (eqb (first % 32) 24) 0 (width_of (first % 32))))) (ne_eqb (first % 32) 31 ne)
    ∙ ap (λ m. goes levels None (Heading m (eqb (first % 32) 24) 0 (width_of (first % 32)))) (unsigned_major (first / 32) (omega arith))

pub run_none : (m : Move) → run m [] ≡ m
run_none (goes levels string stage) = refl
run_none _ = refl

pub run_number : (bs : List ℕ) (levels : List Level) (short : Bool) (value left : ℕ) → 0 < left → length bs ≡ left → run (goes levels None (Heading Unsigned short value left)) bs ≡ finished levels
run_number [] levels short value left z h = absurd (omega arith)
run_number (b ∷ bs) levels short value left z h = elim (cases_lt 1 left) [
  | inl m ↦ ap (λ t. run (cond t (goes levels None (Heading Unsigned short (shifted value b) (left - 1))) (finished levels)) bs) (lt-ltb 1 left m)
      ∙ run_number bs levels short (shifted value b) (left - 1) (omega arith) (omega arith)
  | inr m ↦ ap (λ t. run (cond t (goes levels None (Heading Unsigned short (shifted value b) (left - 1))) (finished levels)) bs) (le-ltb 1 left m)
      ∙ ap (λ x. run (finished levels) x) (nothing_got bs (omega arith)) ∙ run_none (finished levels)
]

some_width : (b : Bool) (x y : ℕ) → 0 < x → 0 < y → 0 < cond b x y
some_width true x y h k = h
some_width false x y h k = k

width_some : (info : ℕ) → 0 < width_of info
width_some info = some_width (eqb info 24) 1 (cond (eqb info 25) 2 (cond (eqb info 26) 4 8)) (omega arith) (some_width (eqb info 25) 2 (cond (eqb info 26) 4 8) (omega arith) (some_width (eqb info 26) 4 8 (omega arith) (omega arith)))

-- a whole number ends an item
pub run_wide : (levels : List Level) (string : Option StringKind) (stage : Stage) (first : ℕ) (rest : List ℕ) (w : ℕ) → stage ≡ Beginning → string ≡ None → first_name levels None (first / 32) (first % 32) ≡ None
    → 24 ≤ first % 32 → first ≤ 27 → w ≡ width_of (first % 32) → w ≤ length rest → run (goes levels string stage) (take (w + 1) (first ∷ rest)) ≡ finished levels
run_wide levels string stage first rest w b n e g l q m =
    let one : w + 1 ≡ suc w = omega arith in
    let len : length (take w rest) ≡ width_of (first % 32) = length-take-le w rest m ∙ q in
    ap (λ k. run (goes levels string stage) (take k (first ∷ rest))) one
    ∙ ap (λ t. run (step levels string t first) (take w rest)) b
    ∙ ap (λ x. run x (take w rest)) (number_head levels string first n e g l)
    ∙ run_number (take w rest) levels (eqb (first % 32) 24) 0 (width_of (first % 32)) (width_some (first % 32)) len

-- ---- a reader

pub waits : (f : Option ItemFault) (old new : Walk) (s more : List ℕ) (n : ℕ) → f ≡ None → (Took old s → Took new (s ++ take n more)) → limit_of new ≡ limit_of old → Keeps f old s → IsPartial (s ++ take n more) (limit_of old)
waits None old new s more n e h l k =
    let t = h k in
    let a = t.taken in
    let b = t.below in
    record { short = omega arith; can_go_on = is_open new (s ++ take n more) (record { spot = t.spot; at = t.at }) }
waits (Some fault) old new s more n e h l k = absurd cc
