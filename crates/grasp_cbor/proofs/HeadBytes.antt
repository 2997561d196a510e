-- Heads, byte by byte.
use Rattle.std.proofs.Common.{◌≡◌, ℕ, zero, suc, ◌+◌, ◌*◌, ◌^◌, ◌<◌, List, [], ◌∷◌, ◌++◌, length, get_or, take, drop, replicate, refl, ap, arith}
use Rattle.std.specs.Int.{w16, w32, w64, to_be_bytes}
use Rattle.std.proofs.lemmas.Nat.{be_bytes_2, be_bytes_4, be_bytes_8}
use Rattle.grasp_cbor.specs.Bytes.{AllBytes}
use Rattle.grasp_cbor.specs.Stands.{info_of, argument_width, number_from}
use Rattle.grasp_cbor.specs.Head.{HeadSize, direct, one_byte, two_bytes, four_bytes, eight_bytes, argument_limit, sized_head}

abbrev pub tail_of : HeadSize → ℕ → List ℕ
tail_of direct n = []
tail_of one_byte n = n ∷ []
tail_of two_bytes n = to_be_bytes w16 n
tail_of four_bytes n = to_be_bytes w32 n
tail_of eight_bytes n = to_be_bytes w64 n

pub head_is : (size : HeadSize) (m n : ℕ) → sized_head size m n ≡ (32 * m + info_of size n) ∷ tail_of size n
head_is direct m n = refl
head_is _ m n = refl

pub length-tail_of : (size : HeadSize) (n : ℕ) → length (tail_of size n) ≡ argument_width size
length-tail_of direct n = refl
length-tail_of _ n = refl

-- ---- its number

pub AllBytes-at : (s : List ℕ) → AllBytes s → (i : ℕ) → get_or s i 0 < 256
AllBytes-at [] h i = omega arith
AllBytes-at (b ∷ s) h zero = h.0
AllBytes-at (b ∷ s) h (suc i) = AllBytes-at s h.1 i

pub AllBytes-push : (s : List ℕ) (b : ℕ) → AllBytes s → b < 256 → AllBytes (s ++ b ∷ [])
AllBytes-push [] b h l = (l, tt)
AllBytes-push (c ∷ s) b h l = (h.0, AllBytes-push s b h.1 l)

pub AllBytes-front : (s t : List ℕ) → AllBytes (s ++ t) → AllBytes s
AllBytes-front [] t h = tt
AllBytes-front (c ∷ s) t h = (h.0, AllBytes-front s t h.1)

pub AllBytes-append : (s t : List ℕ) → AllBytes s → AllBytes t → AllBytes (s ++ t)
AllBytes-append [] t h k = k
AllBytes-append (c ∷ s) t h k = (h.0, AllBytes-append s t h.1 k)

pub number_from-push : (v : ℕ) (s : List ℕ) (b : ℕ) → number_from v (s ++ b ∷ []) ≡ number_from v s * 256 + b
number_from-push v [] b = refl
number_from-push v (c ∷ s) b = number_from-push (v * 256 + c) s b

-- the head that these bytes end
pub record IsNumber (size : HeadSize) (n : ℕ) (s : List ℕ) : Type 0 where
  pub fits : n < argument_limit size
  pub form : tail_of size n ≡ s

number_1 : (s : List ℕ) → AllBytes s → length s ≡ 1 → IsNumber one_byte (number_from 0 s) s
number_1 (a ∷ []) h e = let q = h.0 in record { fits = omega arith; form = let z : 0 * 256 + a ≡ a = omega arith in ap (λ x. x ∷ []) z }
number_1 [] h e = absurd (omega arith)
number_1 (a ∷ b ∷ s) h e = absurd (omega arith)

number_2 : (s : List ℕ) → AllBytes s → length s ≡ 2 → IsNumber two_bytes (number_from 0 s) s
number_2 (a ∷ b ∷ []) h e =
    let p = h.0 in
    let q = h.1.0 in
    record { fits = omega arith; form = be_bytes_2 (a ∷ b ∷ []) _ refl (AllBytes-at (a ∷ b ∷ []) h) (omega arith) }
number_2 _ h e = absurd (omega arith)

number_4 : (s : List ℕ) → AllBytes s → length s ≡ 4 → IsNumber four_bytes (number_from 0 s) s
number_4 (a ∷ b ∷ c ∷ d ∷ []) h e =
    let p = h.0 in
    let q = h.1.0 in
    let r = h.1.1.0 in
    let t = h.1.1.1.0 in
    record { fits = omega arith; form = be_bytes_4 (a ∷ b ∷ c ∷ d ∷ []) _ refl (AllBytes-at (a ∷ b ∷ c ∷ d ∷ []) h) (omega arith) }
number_4 _ h e = absurd (omega arith)

number_8 : (s : List ℕ) → AllBytes s → length s ≡ 8 → IsNumber eight_bytes (number_from 0 s) s
number_8 (a ∷ b ∷ c ∷ d ∷ f ∷ g ∷ j ∷ k ∷ []) h e =
    let p = h.0 in
    let q = h.1.0 in
    let r = h.1.1.0 in
    let t = h.1.1.1.0 in
    let u = h.1.1.1.1.0 in
    let v = h.1.1.1.1.1.0 in
    let w = h.1.1.1.1.1.1.0 in
    let x = h.1.1.1.1.1.1.1.0 in
    record { fits = omega arith; form = be_bytes_8 (a ∷ b ∷ c ∷ d ∷ f ∷ g ∷ j ∷ k ∷ []) _ refl (AllBytes-at (a ∷ b ∷ c ∷ d ∷ f ∷ g ∷ j ∷ k ∷ []) h) (omega arith) }
number_8 _ h e = absurd (omega arith)

pub number_is : (size : HeadSize) (s : List ℕ) → 0 < argument_width size → AllBytes s → length s ≡ argument_width size → IsNumber size (number_from 0 s) s
number_is direct s z h e = absurd (omega arith)
number_is one_byte s z h e = number_1 s h e
number_is two_bytes s z h e = number_2 s h e
number_is four_bytes s z h e = number_4 s h e
number_is eight_bytes s z h e = number_8 s h e

pub tail_bytes : (size : HeadSize) (n : ℕ) → n < argument_limit size → AllBytes (tail_of size n)
tail_bytes direct n h = tt
tail_bytes one_byte n h = (h, tt)
tail_bytes two_bytes n h = (omega arith, (omega arith, tt))
tail_bytes four_bytes n h = (omega arith, (omega arith, (omega arith, (omega arith, tt))))
tail_bytes eight_bytes n h = (omega arith, (omega arith, (omega arith, (omega arith, (omega arith, (omega arith, (omega arith, (omega arith, tt))))))))

-- seven bytes fit
pub seven : (s : List ℕ) → AllBytes s → length s < 8 → number_from 0 s < 2 ^ 56
seven [] h l = omega arith
seven (a ∷ []) h l = let p = h.0 in omega arith
seven (a ∷ b ∷ []) h l =
    let p = h.0 in
    let q = h.1.0 in
    omega arith
seven (a ∷ b ∷ c ∷ []) h l =
    let p = h.0 in
    let q = h.1.0 in
    let r = h.1.1.0 in
    omega arith
seven (a ∷ b ∷ c ∷ d ∷ []) h l =
    let p = h.0 in
    let q = h.1.0 in
    let r = h.1.1.0 in
    let t = h.1.1.1.0 in
    omega arith
seven (a ∷ b ∷ c ∷ d ∷ f ∷ []) h l =
    let p = h.0 in
    let q = h.1.0 in
    let r = h.1.1.0 in
    let t = h.1.1.1.0 in
    let u = h.1.1.1.1.0 in
    omega arith
seven (a ∷ b ∷ c ∷ d ∷ f ∷ g ∷ []) h l =
    let p = h.0 in
    let q = h.1.0 in
    let r = h.1.1.0 in
    let t = h.1.1.1.0 in
    let u = h.1.1.1.1.0 in
    let v = h.1.1.1.1.1.0 in
    omega arith
seven (a ∷ b ∷ c ∷ d ∷ f ∷ g ∷ j ∷ []) h l =
    let p = h.0 in
    let q = h.1.0 in
    let r = h.1.1.0 in
    let t = h.1.1.1.0 in
    let u = h.1.1.1.1.0 in
    let v = h.1.1.1.1.1.0 in
    let w = h.1.1.1.1.1.1.0 in
    omega arith
seven (a ∷ b ∷ c ∷ d ∷ f ∷ g ∷ j ∷ k ∷ s) h l = absurd (omega arith)

pub AllBytes-back : (s t : List ℕ) → AllBytes (s ++ t) → AllBytes t
AllBytes-back [] t h = h
AllBytes-back (c ∷ s) t h = AllBytes-back s t h.1

pub AllBytes-drop : (k : ℕ) (s : List ℕ) → AllBytes s → AllBytes (drop k s)
AllBytes-drop zero s h = h
AllBytes-drop (suc k) [] h = tt
AllBytes-drop (suc k) (c ∷ s) h = AllBytes-drop k s h.1

pub AllBytes-take : (k : ℕ) (s : List ℕ) → AllBytes s → AllBytes (take k s)
AllBytes-take zero s h = tt
AllBytes-take (suc k) [] h = tt
AllBytes-take (suc k) (c ∷ s) h = (h.0, AllBytes-take k s h.1)

pub AllBytes-from : (s : List ℕ) → ((i : ℕ) → get_or s i 0 < 256) → AllBytes s
AllBytes-from [] h = tt
AllBytes-from (c ∷ s) h = (h 0, AllBytes-from s (λ i. h (suc i)))

pub zeros : (n : ℕ) → AllBytes (replicate n 0)
zeros zero = tt
zeros (suc n) = (omega arith, zeros n)
