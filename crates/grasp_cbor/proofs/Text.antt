-- A text's front can be ended in so many bytes where it owes no more.
use Rattle.std.proofs.Common.{◌≡◌, ℕ, zero, suc, ◌+◌, ◌-◌, ◌*◌, ◌/◌, ◌%◌, ◌<◌, ◌≤◌, Bool, true, false, cond, ltb, eqb, ◌||◌, ◌⊎◌, inl, inr, List, [], ◌∷◌, ◌++◌, length, Option, Some, None, refl, sym, ap, subst, ◌∙◌, arith}
use lib.Utf8.{scalar, scalars, encode, encodes, scalar_cases, low_scalar}
use Rattle.std.specs.Str.{IsUtf8}
use Rattle.std.proofs.lemmas.Str.{IsUtf8-append, IsUtf8-nil, IsUtf8-encode, encode_ascii}
use Rattle.std.proofs.lemmas.Bool.{cases_lt, cases_eq, lt-ltb, le-ltb, le-leb, leb-true, eq-eqb, ne_eqb, and_parts}
use Rattle.grasp_cbor.specs.declared.utf8.Owed.{Owed}
use Rattle.grasp_cbor.specs.Bytes.{AllBytes}
use Rattle.grasp_cbor.proofs.HeadBytes.{AllBytes-append}
use Rattle.grasp_cbor.specs.Utf8.{owing, ready, lead, owed_after, owed_of, owes_within, can_end, CanEnd}

abbrev low_3 : ℕ → ℕ
low_3 b = cond (eqb b 224) 160 128

abbrev high_3 : ℕ → ℕ
high_3 b = cond (eqb b 237) 159 191

abbrev low_4 : ℕ → ℕ
low_4 b = cond (eqb b 240) 144 128

abbrev high_4 : ℕ → ℕ
high_4 b = cond (eqb b 244) 143 191

-- ---- forwards

lead_1 : (b : ℕ) → b < 128 → lead b ≡ Some ready
unfolding lead
lead_1 b h = rw (lt-ltb b 128 h) refl

lead_2 : (b : ℕ) → 194 ≤ b → b < 224 → lead b ≡ Some (owing 1 128 191)
unfolding lead
lead_2 b l h =
    let p : ltb b 128 ≡ false = le-ltb b 128 (omega arith) in
    rw (p, le-ltb b 194 l, lt-ltb b 224 h) refl

lead_3 : (b : ℕ) → 224 ≤ b → b < 240 → lead b ≡ Some (owing 2 (low_3 b) (high_3 b))
unfolding lead
lead_3 b l h =
    let p : ltb b 128 ≡ false = le-ltb b 128 (omega arith) in
    let q : ltb b 194 ≡ false = le-ltb b 194 (omega arith) in
    rw (p, q, le-ltb b 224 l, lt-ltb b 240 h) refl

lead_4 : (b : ℕ) → 240 ≤ b → b < 245 → lead b ≡ Some (owing 3 (low_4 b) (high_4 b))
unfolding lead
lead_4 b l h =
    let p : ltb b 128 ≡ false = le-ltb b 128 (omega arith) in
    let q : ltb b 194 ≡ false = le-ltb b 194 (omega arith) in
    let r : ltb b 224 ≡ false = le-ltb b 224 (omega arith) in
    rw (p, q, r, le-ltb b 240 l, lt-ltb b 245 h) refl

from_lead : (o : Owed) (b : ℕ) (r : Option Owed) → o.need ≡ 0 → lead b ≡ r → owed_after o b ≡ r
unfolding owed_after
from_lead o b r z e = rw (eq-eqb o.need 0 z) e

from_next : (o : Owed) (b : ℕ) → 0 < o.need → o.low ≤ b → b ≤ o.high → owed_after o b ≡ Some (owing (o.need - 1) 128 191)
unfolding owed_after
from_next o b z l h =
    let p : eqb o.need 0 ≡ false = ne_eqb o.need 0 (λ e. omega arith) in
    rw (p, le-ltb b o.low l, le-ltb o.high b h) refl

cell_1 : (b : ℕ) (rest : List ℕ) (r : Option Owed) → lead b ≡ r → owed_of (Some ready) (b ∷ rest) ≡ owed_of r rest
cell_1 b rest r e = ap (λ x. owed_of x rest) (from_lead ready b r refl e)

cell : (n l h b : ℕ) (rest : List ℕ) → 0 < n → l ≤ b → b ≤ h → owed_of (Some (owing n l h)) (b ∷ rest) ≡ owed_of (Some (owing (n - 1) 128 191)) rest
cell n l h b rest z p q = ap (λ x. owed_of x rest) (from_next (owing n l h) b z p q)

low_3_ok : (b c : ℕ) → 128 ≤ c → (b ≡ 224 → 160 ≤ c) → low_3 b ≤ c
low_3_ok b c l h = elim (cases_eq b 224) [ inl e ↦ rw (eq-eqb b 224 e) (h e) | inr n ↦ rw (ne_eqb b 224 n) l ]

high_3_ok : (b c : ℕ) → c ≤ 191 → (b ≡ 237 → c ≤ 159) → c ≤ high_3 b
high_3_ok b c l h = elim (cases_eq b 237) [ inl e ↦ rw (eq-eqb b 237 e) (h e) | inr n ↦ rw (ne_eqb b 237 n) l ]

low_4_ok : (b c : ℕ) → 128 ≤ c → (b ≡ 240 → 144 ≤ c) → low_4 b ≤ c
low_4_ok b c l h = elim (cases_eq b 240) [ inl e ↦ rw (eq-eqb b 240 e) (h e) | inr n ↦ rw (ne_eqb b 240 n) l ]

high_4_ok : (b c : ℕ) → c ≤ 191 → (b ≡ 244 → c ≤ 143) → c ≤ high_4 b
high_4_ok b c l h = elim (cases_eq b 244) [ inl e ↦ rw (eq-eqb b 244 e) (h e) | inr n ↦ rw (ne_eqb b 244 n) l ]

run_2 : (a b : ℕ) (rest : List ℕ) → 194 ≤ a → a < 224 → 128 ≤ b → b ≤ 191 → owed_of (Some ready) (a ∷ b ∷ rest) ≡ owed_of (Some ready) rest
run_2 a b rest l h p q = cell_1 a (b ∷ rest) _ (lead_2 a l h) ∙ cell 1 128 191 b rest (omega arith) p q

run_3 : (a b c : ℕ) (rest : List ℕ) → 224 ≤ a → a < 240 → low_3 a ≤ b → b ≤ high_3 a → 128 ≤ c → c ≤ 191 → owed_of (Some ready) (a ∷ b ∷ c ∷ rest) ≡ owed_of (Some ready) rest
run_3 a b c rest l h p q r s =
    cell_1 a (b ∷ c ∷ rest) _ (lead_3 a l h) ∙ cell 2 (low_3 a) (high_3 a) b (c ∷ rest) (omega arith) p q ∙ cell 1 128 191 c rest (omega arith) r s

run_4 : (a b c d : ℕ) (rest : List ℕ) → 240 ≤ a → a < 245 → low_4 a ≤ b → b ≤ high_4 a → 128 ≤ c → c ≤ 191 → 128 ≤ d → d ≤ 191 → owed_of (Some ready) (a ∷ b ∷ c ∷ d ∷ rest) ≡ owed_of (Some ready) rest
run_4 a b c d rest l h p q r s t u =
    cell_1 a (b ∷ c ∷ d ∷ rest) _ (lead_4 a l h) ∙ cell 3 (low_4 a) (high_4 a) b (c ∷ d ∷ rest) (omega arith) p q ∙ cell 2 128 191 c (d ∷ rest) (omega arith) r s ∙ cell 1 128 191 d rest (omega arith) t u

encode_2 : (c : ℕ) → 128 ≤ c → c < 2048 → encode c ≡ (192 + c / 64) ∷ (128 + c % 64) ∷ []
unfolding encode
encode_2 c l h = rw (le-ltb c 128 l, lt-ltb c 2048 h) refl

encode_3 : (c : ℕ) → 2048 ≤ c → c < 65536 → encode c ≡ (224 + c / 4096) ∷ (128 + (c / 64) % 64) ∷ (128 + c % 64) ∷ []
unfolding encode
encode_3 c l h =
    let p : ltb c 128 ≡ false = le-ltb c 128 (omega arith) in
    rw (p, le-ltb c 2048 l, lt-ltb c 65536 h) refl

encode_4 : (c : ℕ) → 65536 ≤ c → encode c ≡ (240 + c / 262144) ∷ (128 + (c / 4096) % 64) ∷ (128 + (c / 64) % 64) ∷ (128 + c % 64) ∷ []
unfolding encode
encode_4 c l =
    let p : ltb c 128 ≡ false = le-ltb c 128 (omega arith) in
    let q : ltb c 2048 ≡ false = le-ltb c 2048 (omega arith) in
    rw (p, q, le-ltb c 65536 l) refl

abbrev Runs : List ℕ → List ℕ → Type 0
Runs s rest = owed_of (Some ready) (s ++ rest) ≡ owed_of (Some ready) rest

char_1 : (c : ℕ) (rest : List ℕ) → c < 128 → Runs (encode c) rest
char_1 c rest h = rw (encode_ascii c h) (cell_1 c rest _ (lead_1 c h))

char_2 : (c : ℕ) (rest : List ℕ) → 128 ≤ c → c < 2048 → Runs (encode c) rest
char_2 c rest l h = rw (encode_2 c l h) (run_2 (192 + c / 64) (128 + c % 64) rest (omega arith) (omega arith) (omega arith) (omega arith))

char_3 : (c : ℕ) (rest : List ℕ) → 2048 ≤ c → c < 65536 → (c < 55296) ⊎ (57344 ≤ c) → Runs (encode c) rest
char_3 c rest l h s =
    rw (encode_3 c l h) (run_3 (224 + c / 4096) (128 + (c / 64) % 64) (128 + c % 64) rest (omega arith) (omega arith)
    (low_3_ok _ _ (omega arith) (λ e. omega arith)) (high_3_ok _ _ (omega arith) (λ e. elim s [ inl a ↦ omega arith | inr a ↦ omega arith ])) (omega arith) (omega arith))

char_4 : (c : ℕ) (rest : List ℕ) → 65536 ≤ c → c < 1114112 → Runs (encode c) rest
char_4 c rest l h =
    rw (encode_4 c l) (run_4 (240 + c / 262144) (128 + (c / 4096) % 64) (128 + (c / 64) % 64) (128 + c % 64) rest (omega arith) (omega arith)
    (low_4_ok _ _ (omega arith) (λ e. omega arith)) (high_4_ok _ _ (omega arith) (λ e. omega arith)) (omega arith) (omega arith) (omega arith) (omega arith))

char_from : (c : ℕ) (rest : List ℕ) → c < 1114112 → (c < 55296) ⊎ (57344 ≤ c) → Runs (encode c) rest
char_from c rest h s =
    elim (cases_lt c 128) [
      | inl a ↦ char_1 c rest a
      | inr a ↦ elim (cases_lt c 2048) [
        | inl b ↦ char_2 c rest a b
        | inr b ↦ elim (cases_lt c 65536) [ inl d ↦ char_3 c rest b d s | inr d ↦ char_4 c rest d h ]
      ]
    ]

char_runs : (c : ℕ) (rest : List ℕ) → scalar c ≡ true → Runs (encode c) rest
char_runs c rest e = elim (scalar_cases c e) [ inl a ↦ char_from c rest (omega arith) (inl a) | inr a ↦ char_from c rest a.1 (inr a.0) ]

encodes_run : (cs : List ℕ) → scalars cs ≡ true → owed_of (Some ready) (encodes cs) ≡ Some ready
encodes_run [] e = refl
encodes_run (c ∷ cs) e = let p = and_parts (scalar c) (scalars cs) e in char_runs c (encodes cs) p.0 ∙ encodes_run cs p.1

pub utf8_runs : (s : List ℕ) → IsUtf8 s → owed_of (Some ready) s ≡ Some ready
utf8_runs s u = ap (owed_of (Some ready)) (sym u.1.1) ∙ encodes_run u.0 u.1.0

-- ---- backwards

is_scalar : (c : ℕ) → c < 1114112 → (c < 55296) ⊎ (57344 ≤ c) → scalar c ≡ true
is_scalar c h (inl l) = low_scalar c l
is_scalar c h (inr g) =
    let p : ltb c 55296 ≡ false = le-ltb c 55296 (omega arith) in
    rw (p, le-leb 57344 c g, lt-ltb c 1114112 h) refl

spelled : (c : ℕ) (s : List ℕ) → c < 1114112 → (c < 55296) ⊎ (57344 ≤ c) → encode c ≡ s → IsUtf8 s
spelled c s h r e = subst IsUtf8 e (IsUtf8-encode c (is_scalar c h r))

utf8_1 : (a : ℕ) → a < 128 → IsUtf8 (a ∷ [])
utf8_1 a h = spelled a _ (omega arith) (inl (omega arith)) (encode_ascii a h)

utf8_2 : (a b c : ℕ) → c + 12416 ≡ a * 64 + b → 194 ≤ a → a < 224 → 128 ≤ b → b ≤ 191 → IsUtf8 (a ∷ b ∷ [])
utf8_2 a b c e l h p q =
    let x : 192 + c / 64 ≡ a = omega arith in
    let y : 128 + c % 64 ≡ b = omega arith in
    spelled c _ (omega arith) (inl (omega arith)) (encode_2 c (omega arith) (omega arith) ∙ (λ i. x i ∷ y i ∷ []))

utf8_3 : (a b c d : ℕ) → d + 925824 ≡ a * 4096 + b * 64 + c → 224 ≤ a → a < 240 → 128 ≤ b → b ≤ 191 → 128 ≤ c → c ≤ 191 → (a ≡ 224 → 160 ≤ b) → (a ≡ 237 → b ≤ 159) → IsUtf8 (a ∷ b ∷ c ∷ [])
utf8_3 a b c d e l h p q r s low high =
    let x : 224 + d / 4096 ≡ a = omega arith in
    let y : 128 + (d / 64) % 64 ≡ b = omega arith in
    let z : 128 + d % 64 ≡ c = omega arith in
    let big : 2048 ≤ d = elim (cases_eq a 224) [ inl g ↦ let k : 160 ≤ b = low g in omega arith | inr g ↦ omega arith ] in
    let fine : (d < 55296) ⊎ (57344 ≤ d) = elim (cases_eq a 237) [ inl g ↦ let k : b ≤ 159 = high g in inl (omega arith) | inr g ↦ elim (cases_lt a 237) [ inl m ↦ inl (omega arith) | inr m ↦ inr (omega arith) ] ] in
    spelled d _ (omega arith) fine (encode_3 d big (omega arith) ∙ (λ i. x i ∷ y i ∷ z i ∷ []))

utf8_4 : (a b c d f : ℕ) → f + 63447168 ≡ a * 262144 + b * 4096 + c * 64 + d → 240 ≤ a → a < 245 → 128 ≤ b → b ≤ 191 → 128 ≤ c → c ≤ 191 → 128 ≤ d → d ≤ 191 → (a ≡ 240 → 144 ≤ b) → (a ≡ 244 → b ≤ 143) → IsUtf8 (a ∷ b ∷ c ∷ d ∷ [])
utf8_4 a b c d f e l h p q r s t u low high =
    let x : 240 + f / 262144 ≡ a = omega arith in
    let y : 128 + (f / 4096) % 64 ≡ b = omega arith in
    let z : 128 + (f / 64) % 64 ≡ c = omega arith in
    let v : 128 + f % 64 ≡ d = omega arith in
    let big : 65536 ≤ f = elim (cases_eq a 240) [ inl g ↦ let k : 144 ≤ b = low g in omega arith | inr g ↦ omega arith ] in
    let fine : f < 1114112 = elim (cases_eq a 244) [ inl g ↦ let k : b ≤ 143 = high g in omega arith | inr g ↦ omega arith ] in
    spelled f _ fine (inr (omega arith)) (encode_4 f big ∙ (λ i. x i ∷ y i ∷ z i ∷ v i ∷ []))

abbrev pub Ends : Option Owed → List ℕ → Type 0
Ends o s = owes_within (owed_of o s) 0 ≡ true

none_ends : (s : List ℕ) → Ends None s → ⊥
none_ends s e = cc

-- what a byte that was taken says
pub record IsNext (o : Owed) (b : ℕ) (r : Option Owed) : Type 0 where
  pub low : o.low ≤ b
  pub high : b ≤ o.high
  pub after : r ≡ Some (owing (o.need - 1) 128 191)

pub next_is : (o : Owed) (b : ℕ) (s : List ℕ) → 0 < o.need → Ends (owed_after o b) s → IsNext o b (owed_after o b)
unfolding owed_after
next_is o b s z e =
    let p : eqb o.need 0 ≡ false = ne_eqb o.need 0 (λ q. omega arith) in
    elim (cases_lt b o.low) [
      | inl l ↦ absurd (none_ends s (rw (p, lt-ltb b o.low l) at e))
      | inr l ↦ elim (cases_lt o.high b) [
        | inl h ↦ absurd (none_ends s (rw (p, le-ltb b o.low l, lt-ltb o.high b h) at e))
        | inr h ↦ record { low = l; high = h; after = rw (p, le-ltb b o.low l, le-ltb o.high b h) refl }
      ]
    ]

-- a text that owes n bytes, the first from l to h
pub record IsOwedByte (n l h : ℕ) (s : List ℕ) : Type 0 where
  pub byte : ℕ
  pub rest : List ℕ
  pub form : s ≡ byte ∷ rest
  pub low : l ≤ byte
  pub high : byte ≤ h
  pub ends : Ends (Some (owing (n - 1) 128 191)) rest

owed_byte : (n l h : ℕ) (s : List ℕ) → 0 < n → Ends (Some (owing n l h)) s → IsOwedByte n l h s
owed_byte n l h [] z e = absurd (let q : n ≤ 0 = leb-true n 0 e in omega arith)
owed_byte n l h (b ∷ s) z e =
    let x = next_is (owing n l h) b s z e in
    record { byte = b; rest = s; form = refl; low = x.low; high = x.high; ends = subst (λ o. Ends o s) x.after e }

from_first : (b : ℕ) (s : List ℕ) → Ends (Some ready) (b ∷ s) → Ends (lead b) s
from_first b s e = subst (λ o. Ends o s) (from_lead ready b (lead b) refl refl) e

-- the texts that are shorter
abbrev Shorter : ℕ → Type 0
Shorter n = (t : List ℕ) → length t ≤ n → Ends (Some ready) t → IsUtf8 t

after_2 : (n a : ℕ) (s : List ℕ) → Shorter n → length s ≤ n → 194 ≤ a → a < 224 → Ends (Some (owing 1 128 191)) s → IsUtf8 (a ∷ s)
after_2 n a s rec len l h e =
    let x = owed_byte 1 128 191 s (omega arith) e in
    let len1 : length x.rest ≤ n = let k = ap length x.form in omega arith in
    subst (λ t. IsUtf8 (a ∷ t)) (sym x.form) (IsUtf8-append (a ∷ x.byte ∷ []) x.rest (utf8_2 a x.byte (a * 64 + x.byte - 12416) (let g = x.low in omega arith) l h x.low x.high) (rec x.rest len1 x.ends))

low_of : (b c k m x y : ℕ) → cond (eqb b k) x y ≤ c → b ≡ k → x ≤ c
low_of b c k m x y h e = rw (eq-eqb b k e) at h

high_of : (b c k m x y : ℕ) → c ≤ cond (eqb b k) x y → b ≡ k → c ≤ x
high_of b c k m x y h e = rw (eq-eqb b k e) at h

low_all : (b c k x y : ℕ) → y ≤ x → cond (eqb b k) x y ≤ c → y ≤ c
low_all b c k x y le h = elim (cases_eq b k) [ inl e ↦ let g : x ≤ c = rw (eq-eqb b k e) at h in omega arith | inr n ↦ rw (ne_eqb b k n) at h ]

high_all : (b c k x y : ℕ) → x ≤ y → c ≤ cond (eqb b k) x y → c ≤ y
high_all b c k x y le h = elim (cases_eq b k) [ inl e ↦ let g : c ≤ x = rw (eq-eqb b k e) at h in omega arith | inr n ↦ rw (ne_eqb b k n) at h ]

after_3 : (n a : ℕ) (s : List ℕ) → Shorter n → length s ≤ n → 224 ≤ a → a < 240 → Ends (Some (owing 2 (low_3 a) (high_3 a))) s → IsUtf8 (a ∷ s)
after_3 n a s rec len l h e =
    let x = owed_byte 2 (low_3 a) (high_3 a) s (omega arith) e in
    let y = owed_byte 1 128 191 x.rest (omega arith) x.ends in
    let b : 128 ≤ x.byte = low_all a x.byte 224 160 128 (omega arith) x.low in
    let c : x.byte ≤ 191 = high_all a x.byte 237 159 191 (omega arith) x.high in
    let g : 128 ≤ y.byte = y.low in
    let whole : s ≡ x.byte ∷ y.byte ∷ y.rest = x.form ∙ ap (λ t. x.byte ∷ t) y.form in
    let len1 : length y.rest ≤ n = let k = ap length whole in omega arith in
    subst (λ t. IsUtf8 (a ∷ t)) (sym whole) (IsUtf8-append (a ∷ x.byte ∷ y.byte ∷ []) y.rest
    (utf8_3 a x.byte y.byte (a * 4096 + x.byte * 64 + y.byte - 925824) (omega arith) l h b c g y.high (low_of a x.byte 224 0 160 128 x.low) (high_of a x.byte 237 0 159 191 x.high)) (rec y.rest len1 y.ends))

after_4 : (n a : ℕ) (s : List ℕ) → Shorter n → length s ≤ n → 240 ≤ a → a < 245 → Ends (Some (owing 3 (low_4 a) (high_4 a))) s → IsUtf8 (a ∷ s)
after_4 n a s rec len l h e =
    let x = owed_byte 3 (low_4 a) (high_4 a) s (omega arith) e in
    let y = owed_byte 2 128 191 x.rest (omega arith) x.ends in
    let z = owed_byte 1 128 191 y.rest (omega arith) y.ends in
    let b : 128 ≤ x.byte = low_all a x.byte 240 144 128 (omega arith) x.low in
    let c : x.byte ≤ 191 = high_all a x.byte 244 143 191 (omega arith) x.high in
    let g : 128 ≤ y.byte = y.low in
    let j : 128 ≤ z.byte = z.low in
    let whole : s ≡ x.byte ∷ y.byte ∷ z.byte ∷ z.rest = x.form ∙ ap (λ t. x.byte ∷ t) y.form ∙ ap (λ t. x.byte ∷ y.byte ∷ t) z.form in
    let len1 : length z.rest ≤ n = let k = ap length whole in omega arith in
    subst (λ t. IsUtf8 (a ∷ t)) (sym whole) (IsUtf8-append (a ∷ x.byte ∷ y.byte ∷ z.byte ∷ []) z.rest
    (utf8_4 a x.byte y.byte z.byte (a * 262144 + x.byte * 4096 + y.byte * 64 + z.byte - 63447168) (omega arith) l h b c g y.high j z.high (low_of a x.byte 240 0 144 128 x.low) (high_of a x.byte 244 0 143 191 x.high)) (rec z.rest len1 z.ends))

after_lead : (n a : ℕ) (s : List ℕ) → Shorter n → length s ≤ n → Ends (lead a) s → IsUtf8 (a ∷ s)
unfolding lead
after_lead n a s rec len e =
    elim (cases_lt a 128) [
      | inl h ↦ IsUtf8-append (a ∷ []) s (utf8_1 a h) (rec s len (rw (lt-ltb a 128 h) at e))
      | inr i ↦ elim (cases_lt a 194) [
        | inl h ↦ absurd (none_ends s (rw (le-ltb a 128 i, lt-ltb a 194 h) at e))
        | inr j ↦ elim (cases_lt a 224) [
          | inl h ↦ after_2 n a s rec len j h (rw (le-ltb a 128 i, le-ltb a 194 j, lt-ltb a 224 h) at e)
          | inr k ↦ elim (cases_lt a 240) [
            | inl h ↦ after_3 n a s rec len k h (rw (le-ltb a 128 i, le-ltb a 194 j, le-ltb a 224 k, lt-ltb a 240 h) at e)
            | inr m ↦ elim (cases_lt a 245) [
              | inl h ↦ after_4 n a s rec len m h (rw (le-ltb a 128 i, le-ltb a 194 j, le-ltb a 224 k, le-ltb a 240 m, lt-ltb a 245 h) at e)
              | inr o ↦ absurd (none_ends s (rw (le-ltb a 128 i, le-ltb a 194 j, le-ltb a 224 k, le-ltb a 240 m, le-ltb a 245 o) at e))
            ]
          ]
        ]
      ]
    ]

shorter : (n : ℕ) → Shorter n
shorter zero [] len e = IsUtf8-nil
shorter zero (a ∷ s) len e = absurd (omega arith)
shorter (suc n) [] len e = IsUtf8-nil
shorter (suc n) (a ∷ s) len e = after_lead n a s (shorter n) (omega arith) (from_first a s e)

pub utf8_ends : (s : List ℕ) → Ends (Some ready) s → IsUtf8 s
utf8_ends s e = shorter (length s) s (omega arith) e

-- ---- how much is owed

pub owed_of-append : (o : Option Owed) (s t : List ℕ) → owed_of o (s ++ t) ≡ owed_of (owed_of o s) t
owed_of-append None s t = refl
owed_of-append (Some o) [] t = refl
owed_of-append (Some o) (b ∷ s) t = owed_of-append (owed_after o b) s t

pub record IsSane (o : Owed) : Type 0 where
  pub range : o.low ≤ o.high

fill : (left : ℕ) (o : Owed) → o.low ≤ o.high → o.need ≤ left → (more : List ℕ) × (length more ≡ left) × Ends (Some o) more
fill zero o r h = ([], refl, le-leb o.need 0 h)
fill (suc left) o r h =
    elim (cases_lt 0 o.need) [
      | inl z ↦ let f = fill left (owing (o.need - 1) 128 191) (omega arith) (omega arith) in
          (o.low ∷ f.0, ap suc f.1, subst (λ x. Ends x f.0) (sym (from_next o o.low z (omega arith) r)) f.2)
      | inr z ↦ let f = fill left ready (omega arith) (omega arith) in
          (0 ∷ f.0, ap suc f.1, subst (λ x. Ends x f.0) (sym (from_lead o 0 (Some ready) (omega arith) (lead_1 0 (omega arith)))) f.2)
    ]

need_within : (s : List ℕ) (o : Owed) → Ends (Some o) s → o.need ≤ length s
need_within [] o e = leb-true o.need 0 e
need_within (b ∷ s) o e =
    elim (cases_lt 0 o.need) [
      | inl z ↦ let x = next_is o b s z e in
          let k : o.need - 1 ≤ length s = need_within s (owing (o.need - 1) 128 191) (subst (λ y. Ends y s) x.after e) in omega arith
      | inr z ↦ omega arith
    ]

abbrev Sane : Option Owed → Type 0
Sane None = Unit {0}
Sane (Some o) = o.low ≤ o.high

sane_cond : (b : Bool) (x y : Option Owed) → Sane x → Sane y → Sane (cond b x y)
sane_cond true x y p q = p
sane_cond false x y p q = q

sane_3 : (b : ℕ) → low_3 b ≤ high_3 b
sane_3 b = low_3_ok b (high_3 b) (high_3_ok b 128 (omega arith) (λ e. omega arith)) (λ e. high_3_ok b 160 (omega arith) (λ f. omega arith))

sane_4 : (b : ℕ) → low_4 b ≤ high_4 b
sane_4 b = low_4_ok b (high_4 b) (high_4_ok b 128 (omega arith) (λ e. omega arith)) (λ e. high_4_ok b 144 (omega arith) (λ f. omega arith))

sane_chain : (a b c d e : Bool) (x y z w : Option Owed) → Sane x → Sane y → Sane z → Sane w → Sane (cond a x (cond b None (cond c y (cond d z (cond e w None)))))
sane_chain true b c d e x y z w p q r s = p
sane_chain false true c d e x y z w p q r s = tt
sane_chain false false true d e x y z w p q r s = q
sane_chain false false false true e x y z w p q r s = r
sane_chain false false false false true x y z w p q r s = s
sane_chain false false false false false x y z w p q r s = tt

sane_lead : (b : ℕ) → Sane (lead b)
unfolding lead
sane_lead b =
    sane_chain (ltb b 128) (ltb b 194) (ltb b 224) (ltb b 240) (ltb b 245) (Some ready) (Some (owing 1 128 191)) (Some (owing 2 (low_3 b) (high_3 b))) (Some (owing 3 (low_4 b) (high_4 b))) (omega arith) (omega arith) (sane_3 b) (sane_4 b)

pub sane_after : (o : Owed) (b : ℕ) → Sane (owed_after o b)
unfolding owed_after
sane_after o b =
    sane_cond (eqb o.need 0) (lead b) (cond (ltb b o.low || ltb o.high b) None (Some (owing (o.need - 1) 128 191))) (sane_lead b) (sane_cond (ltb b o.low || ltb o.high b) None (Some (owing (o.need - 1) 128 191)) tt (omega arith))

sane_of : (o : Option Owed) (s : List ℕ) → Sane o → Sane (owed_of o s)
sane_of None s h = tt
sane_of (Some o) [] h = h
sane_of (Some o) (b ∷ s) h = sane_of (owed_after o b) s (sane_after o b)

ended : (r : Option Owed) (s : List ℕ) (left : ℕ) → owed_of (Some ready) s ≡ r → Sane r → owes_within r left ≡ true → CanEnd s left
ended None s left e r h = absurd cc
ended (Some o) s left e r h =
    let f = fill left o r (leb-true o.need left h) in
    (f.0, f.1, utf8_ends (s ++ f.0) (subst (λ x. owes_within x 0 ≡ true) (sym (owed_of-append (Some ready) s f.0 ∙ ap (λ x. owed_of x f.0) e)) f.2))

within : (r : Option Owed) (t : List ℕ) (left : ℕ) → length t ≡ left → Ends r t → owes_within r left ≡ true
within None t left n e = absurd cc
within (Some o) t left n e = le-leb o.need left (let k = need_within t o e in omega arith)

pub can_end-means : (s : List ℕ) (left : ℕ) → can_end s left ≡ true → CanEnd s left
unfolding can_end
can_end-means s left e = ended (owed_of (Some ready) s) s left refl (sane_of (Some ready) s (omega arith)) e

pub can_end-from : (s : List ℕ) (left : ℕ) → CanEnd s left → can_end s left ≡ true
unfolding can_end
can_end-from s left c =
    within (owed_of (Some ready) s) c.0 left c.1 (subst (λ x. owes_within x 0 ≡ true) (sym (utf8_runs (s ++ c.0) c.2) ∙ owed_of-append (Some ready) s c.0) refl)

-- ---- text is bytes

encode_bytes : (c : ℕ) → c < 1114112 → AllBytes (encode c)
encode_bytes c h =
    elim (cases_lt c 128) [
      | inl a ↦ rw (encode_ascii c a) (omega arith, tt)
      | inr a ↦ elim (cases_lt c 2048) [
        | inl b ↦ rw (encode_2 c a b) (omega arith, (omega arith, tt))
        | inr b ↦ elim (cases_lt c 65536) [
          | inl d ↦ rw (encode_3 c b d) (omega arith, (omega arith, (omega arith, tt)))
          | inr d ↦ rw (encode_4 c d) (omega arith, (omega arith, (omega arith, (omega arith, tt))))
        ]
      ]
    ]

below_of : (c : ℕ) → scalar c ≡ true → c < 1114112
below_of c e = elim (scalar_cases c e) [ inl a ↦ omega arith | inr a ↦ a.1 ]

encodes_bytes : (cs : List ℕ) → scalars cs ≡ true → AllBytes (encodes cs)
encodes_bytes [] e = tt
encodes_bytes (c ∷ cs) e = let p = and_parts (scalar c) (scalars cs) e in AllBytes-append (encode c) (encodes cs) (encode_bytes c (below_of c p.0)) (encodes_bytes cs p.1)

pub utf8_bytes : (s : List ℕ) → IsUtf8 s → AllBytes s
utf8_bytes s u = subst AllBytes u.1.1 (encodes_bytes u.0 u.1.0)
