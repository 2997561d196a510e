-- The decimal number of a word.
use Rattle.std.proofs.Common.{rules, ◌≡◌, ℕ, zero, suc, ◌+◌, ◌-◌, ◌*◌, ◌^◌, ◌<◌, ◌≤◌, Bool, true, false, cond, ◌&&◌, List, [], ◌∷◌, ◌++◌, length, get_or, take, Option, Some, None, refl, sym, ap, subst, ◌∙◌, append_assoc, arith}
use Rattle.std.specs.Prelude.{decimal, nat_le, codes, IfSome, IfNone}
use Rattle.std.specs.Char.{digit_value}
use Rattle.std.specs.Str.{bytes_eq, IsUtf8}
use Rattle.std.specs.Str.Parse.{digits_value, AllDigits}
use Rattle.std.proofs.lemmas.Bool.{le-leb, leb-true}
use Rattle.std.proofs.lemmas.Fmt.{decimal_is_IsNumeral, decimal-digits_value, decimal_digit, decimal_injective, IsAscii-decimal, digits_decimal, decimal_nonempty, first_decimal}
use Rattle.std.proofs.lemmas.Str.Parse.{IsNumeralModel, numerals_by_value, tells_digits, digit_at, digits_value-take-le, digits_value_short}
use Rattle.std.proofs.lemmas.Int.Digits.{digits_more, digits_value_more}
use Rattle.std.proofs.lemmas.List.{length-take}
use Rattle.std.proofs.lemmas.Str.{IsUtf8-from_ascii}
use Rattle.std.proofs.lemmas.Slice.Eq.{bytes_eq-Decides}
use Rattle.grasp_text.specs.Reading.{number_of}
use Rattle.grasp_text.proofs.Lawful.{Exact}

-- what is never there is absent
pub is_none : {A : Type 0} (o : Option A) → ((x : A) → ¬ (o ≡ Some x)) → o ≡ None
is_none None h = refl
is_none (Some x) h = absurd (h x refl)

abbrev pub some : {A : Type 0} → A → Option A
some x = Some x

pub some_is : {A : Type 0} (x y : A) → some x ≡ some y → x ≡ y
some_is x y e = cc

-- a word of this number up to most
pub record IsNumber (most n : ℕ) (word : List ℕ) : Type 0 where
  pub within : n ≤ most
  pub digits : word ≡ decimal n

-- two tests, and a value where both say so
tested : {A : Type 0} (a b : Bool) (y x : A) → cond (a && b) (some y) None ≡ Some x → (a ≡ true) × (b ≡ true) × (x ≡ y)
tested true true y x e = (refl, refl, sym (some_is y x e))
tested true false y x e = absurd cc
tested false b y x e = absurd cc

pub number_only : (most : ℕ) (word : List ℕ) (n : ℕ) → number_of most word ≡ Some n → IsNumber most n word
unfolding number_of
number_only most word n e =
    let v = digits_value 10 word in
    let t = tested (bytes_eq (decimal v) word) (nat_le v most) v n e in
    let same : decimal v ≡ word = (bytes_eq-Decides (decimal v) word).0 t.0 in
    let le : v ≤ most = leb-true v most t.1 in
    record { within = subst (λ (x : ℕ). x ≤ most) (sym t.2) le; digits = sym same ∙ ap decimal (sym t.2) }

pub number_found : (most n : ℕ) (word : List ℕ) → most < 2 ^ 64 → n ≤ most → word ≡ decimal n → number_of most word ≡ Some n
unfolding number_of
number_found most n word small within digits =
    let v : digits_value 10 word ≡ n = ap (digits_value 10) digits ∙ (decimal_is_IsNumeral n (omega arith)).1 in
    let same : bytes_eq (decimal (digits_value 10 word)) word ≡ true = (bytes_eq-Decides (decimal (digits_value 10 word)) word).1 (ap decimal v ∙ sym digits) in
    let le : nat_le (digits_value 10 word) most ≡ true = le-leb (digits_value 10 word) most (subst (λ (x : ℕ). x ≤ most) (sym v) within) in
    ap (λ (b : Bool). cond (b && nat_le (digits_value 10 word) most) (some (digits_value 10 word)) None) same ∙ ap (λ (b : Bool). cond b (some (digits_value 10 word)) None) le ∙ ap some v

pub number_none : (most : ℕ) (word : List ℕ) → ((n : ℕ) → n ≤ most → ¬ (word ≡ decimal n)) → number_of most word ≡ None
number_none most word h = is_none (number_of most word) (λ n e. let is = number_only most word n e in h n is.within is.digits)

pub number_utf8 : (n : ℕ) (word : List ℕ) → n < 2 ^ 64 → word ≡ decimal n → IsUtf8 word
number_utf8 n word lt e = subst IsUtf8 (sym e) (IsUtf8-from_ascii (decimal n) (IsAscii-decimal n lt))

pub number_exact : (most : ℕ) → most < 2 ^ 64 → Exact (IsNumber most) (number_of most)
number_exact most small = record {
  value = 0;
  word = decimal 0;
  some = record { within = omega arith; digits = refl };
  found = λ n w is. number_found most n w small is.within is.digits;
  only = number_only most;
}

own : IsNumeralModel (AllDigits 10) (digits_value 10)
own = numerals_by_value (AllDigits 10) tells_digits

-- each byte of a number's word is a digit
pub number_digit : (n i : ℕ) → n < 2 ^ 64 → i < length (decimal n) → 48 ≤ get_or (decimal n) i 0
number_digit n i lt inside = let d = digit_at (decimal n) i (digits_decimal own n lt) inside in omega arith

pub number_digit_most : (n i : ℕ) → n < 2 ^ 64 → i < length (decimal n) → get_or (decimal n) i 0 ≤ 57
number_digit_most n i lt inside = let d = digit_at (decimal n) i (digits_decimal own n lt) inside in omega arith

pub number_no_dash : (most : ℕ) → most < 2 ^ 64 → number_of most (codes "-") ≡ None
number_no_dash most small = number_none most (codes "-") (λ n le e.
    let some_digit : 0 < length (decimal n) = decimal_nonempty n (omega arith) in
    let d = number_digit n 0 (omega arith) some_digit in
    let z : get_or (codes "-") 0 0 ≡ get_or (decimal n) 0 0 = ap (λ (x : List ℕ). get_or x 0 0) e in
    absurd (omega arith))

digit_value_of : (c : ℕ) → 48 ≤ c → c < 58 → digit_value c ≡ c - 48
digit_value_of c a b = search rules

-- one more digit
pub digit_more : (ds : List ℕ) (i v w : ℕ) → i < length ds → AllDigits 10 (take i ds) → v ≡ digits_value 10 (take i ds) → 48 ≤ get_or ds i 0 → get_or ds i 0 < 58 → w ≡ v * 10 + (get_or ds i 0 - 48) → AllDigits 10 (take (i + 1) ds) × (w ≡ digits_value 10 (take (i + 1) ds))
digit_more ds i v w inside h e a b f =
    let c : ℕ = get_or ds i 0 in
    let d : digit_value c ≡ c - 48 = digit_value_of c a b in (
      digits_more 10 ds i inside h (omega (arith, d, b)),
      f ∙ ap (λ (x : ℕ). x * 10 + (c - 48)) e ∙ ap (λ (x : ℕ). digits_value 10 (take i ds) * 10 + x) (sym d) ∙ sym (digits_value_more 10 ds i inside),
    )

-- fewer than 19 digits, with which one more fits 64 bits
pub few_digits : (ds : List ℕ) (i v : ℕ) → i < 19 → AllDigits 10 (take i ds) → v ≡ digits_value 10 (take i ds) → v < 10 ^ 18
few_digits ds i v few h e = let below : digits_value 10 (take i ds) < 10 ^ 18 = digits_value_short own (take i ds) 18 h (omega (arith, length-take i ds)) in omega (arith, e, below)

-- a byte that is no digit, or a digit with which the value is too large
pub digit_none : (ds : List ℕ) (i v : ℕ) → i < length ds → v ≡ digits_value 10 (take i ds) → (48 ≤ get_or ds i 0 → get_or ds i 0 < 58 → 2 ^ 64 ≤ v * 10 + (get_or ds i 0 - 48)) → (n : ℕ) → n < 2 ^ 64 → ¬ (ds ≡ decimal n)
digit_none ds i v inside e h n lt is =
    let c : ℕ = get_or ds i 0 in
    let there : i < length (decimal n) = subst (λ (x : List ℕ). i < length x) is inside in
    let a : 48 ≤ c = subst (λ (x : List ℕ). 48 ≤ get_or x i 0) (sym is) (number_digit n i lt there) in
    let b : c ≤ 57 = subst (λ (x : List ℕ). get_or x i 0 ≤ 57) (sym is) (number_digit_most n i lt there) in
    let big : 2 ^ 64 ≤ v * 10 + (c - 48) = h a (omega (arith, b)) in
    let whole : digits_value 10 ds ≡ n = ap (digits_value 10) is ∙ (decimal_is_IsNumeral n lt).1 in
    let le : digits_value 10 (take (i + 1) ds) ≤ digits_value 10 ds = digits_value-take-le 10 ds (i + 1) (omega arith) in
    let more : digits_value 10 (take (i + 1) ds) ≡ digits_value 10 (take i ds) * 10 + digit_value c = digits_value_more 10 ds i inside in
    let d : digit_value c ≡ c - 48 = digit_value_of c a (omega (arith, b)) in
    absurd (omega (arith, big, e, whole, le, more, d, lt))

pub empty_none : (ds : List ℕ) → length ds ≡ 0 → (n : ℕ) → n < 2 ^ 64 → ¬ (ds ≡ decimal n)
empty_none ds none n lt is =
    let some : 0 < length (decimal n) = decimal_nonempty n lt in
    let same : length ds ≡ length (decimal n) = ap length is in
    absurd (omega (arith, some, same, none))

-- a zero before other digits
pub zero_none : (ds : List ℕ) → 1 < length ds → get_or ds 0 0 ≡ 48 → (n : ℕ) → n < 2 ^ 64 → ¬ (ds ≡ decimal n)
zero_none ds long first zero lt is = let same : length ds ≡ 1 = ap length (is ∙ decimal_digit 0 (omega arith)) in absurd (omega (arith, same, long))
zero_none ds long first (suc n) lt is =
    let later : 48 < get_or (decimal (suc n)) 0 0 = first_decimal (suc n) (omega arith) lt in
    let same : get_or ds 0 0 ≡ get_or (decimal (suc n)) 0 0 = ap (λ (x : List ℕ). get_or x 0 0) is in
    absurd (omega (arith, later, same, first))

pub digits_spelled : (ds : List ℕ) (v : ℕ) → AllDigits 10 ds → v ≡ digits_value 10 ds → v < 2 ^ 64 → 0 < length ds → (get_or ds 0 0 ≡ 48 → length ds ≡ 1) → ds ≡ decimal v
digits_spelled ds v digits e small long one = sym (ap decimal e ∙ decimal-digits_value own ds digits long one (subst (λ (x : ℕ). x < 2 ^ 64) e small))

pub digits_answer : (o : Option ℕ) (ds : List ℕ) → IfSome o (λ n. AllDigits 10 ds) → IfSome o (λ n. n ≡ digits_value 10 ds) → IfSome o (λ n. n < 2 ^ 64) → 0 < length ds → (get_or ds 0 0 ≡ 48 → length ds ≡ 1) → IfSome o (λ n. ds ≡ decimal n)
digits_answer None ds h e small long one = tt
digits_answer (Some v) ds h e small long one = digits_spelled ds v h e small long one

pub if_none : {P : Type 0} (o : Option ℕ) → P → IfNone o P
if_none None p = p
if_none (Some n) p = tt

pub number_more_than : (most : ℕ) (word : List ℕ) (n : ℕ) → most < n → n < 2 ^ 64 → word ≡ decimal n → number_of most word ≡ None
number_more_than most word n more small e = number_none most word (λ m le f.
    let same : n ≡ m = decimal_injective n m small (omega (arith, le, more, small)) (sym e ∙ f) in
    absurd (omega (arith, same, le, more)))

pub number_no_digits : (most : ℕ) (word : List ℕ) → most < 2 ^ 64 → ((n : ℕ) → n < 2 ^ 64 → ¬ (word ≡ decimal n)) → number_of most word ≡ None
number_no_digits most word small h = number_none most word (λ n le e. h n (omega (arith, le, small)) e)

-- a blank and a number of one digit behind a text
pub small_number : (old middle new : List ℕ) (n : ℕ) → n < 10 → middle ≡ old ++ 32 ∷ [] → new ≡ middle ++ (48 + n) ∷ [] → new ≡ old ++ 32 ∷ (decimal n ++ [])
small_number old middle new n lt a b = b ∙ ap (λ (x : List ℕ). x ++ (48 + n) ∷ []) a ∙ append_assoc old (32 ∷ []) ((48 + n) ∷ []) ∙ ap (λ (x : List ℕ). old ++ 32 ∷ (x ++ [])) (sym (decimal_digit n lt))
