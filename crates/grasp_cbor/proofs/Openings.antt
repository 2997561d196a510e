-- What begins an item: its first byte, and that no opening begins another.
use Rattle.std.proofs.Common.{◌≡◌, ℕ, ◌+◌, ◌*◌, ◌<◌, List, ◌∷◌, ◌++◌, refl, sym, ap, ◌∙◌, append_assoc, arith}
use Rattle.grasp_cbor.specs.Major.{major_number}
use Rattle.grasp_cbor.specs.Head.{HeadSize, direct, argument_limit}
use Rattle.grasp_cbor.specs.Stands.{info_of}
use Rattle.grasp_cbor.specs.declared.heads.Major.{Major}
use Rattle.grasp_cbor.specs.declared.heads.StringKind.TheVariants.{Bytes, Text}
use Rattle.grasp_cbor.specs.CanGoOn.{IsItem}
use Rattle.grasp_cbor.specs.Front.{IsHeadOf}
use Rattle.grasp_cbor.proofs.Majors.{major_number-below}
use Rattle.grasp_cbor.proofs.HeadBytes.{tail_of, head_is}
use Rattle.grasp_cbor.proofs.Same.{same_head}
use Rattle.grasp_cbor.proofs.Shapes.{Endless, chunks, item_row, pair_row, endless_byte, Opening, counted, endless, IsOpening, headed}

pub info_below : (size : HeadSize) (n : ℕ) → n < argument_limit size → info_of size n < 28
info_below direct n h = omega arith
info_below _ n h = omega arith

-- the first byte of a head of definite length
pub record HeadByte (major : Major) (byte : ℕ) : Type 0 where
  pub info : ℕ
  pub low : info < 28
  pub is : byte ≡ 32 * major_number major + info

pub head_byte : (major : Major) (n byte : ℕ) (head x y : List ℕ) → IsHeadOf major n head → byte ∷ x ≡ head ++ y → HeadByte major byte
head_byte major n byte head x y h e =
    let f : byte ∷ x ≡ ((32 * major_number major + info_of h.size n) ∷ tail_of h.size n) ++ y = e ∙ ap (λ z. z ++ y) (h.form ∙ head_is h.size (major_number major) n) in
    record { info = info_of h.size n; low = info_below h.size n h.fits; is = cc }

-- a byte of indefinite length
pub record EndlessByte (byte : ℕ) : Type 0 where
  pub major : ℕ
  pub strings : 1 < major
  pub lists : major < 6
  pub is : byte ≡ 32 * major + 31

abbrev pub endless_is : (e : Endless) → EndlessByte (endless_byte e)
endless_is (chunks Bytes) = record { major = 2; strings = omega arith; lists = omega arith; is = omega arith }
endless_is (chunks Text) = record { major = 3; strings = omega arith; lists = omega arith; is = omega arith }
endless_is item_row = record { major = 4; strings = omega arith; lists = omega arith; is = omega arith }
endless_is pair_row = record { major = 5; strings = omega arith; lists = omega arith; is = omega arith }

one_endless : (a b : Endless) → endless_byte a ≡ endless_byte b → a ≡ b
one_endless (chunks Bytes) (chunks Bytes) e = refl
one_endless (chunks Text) (chunks Text) e = refl
one_endless item_row (chunks Bytes) e = absurd (omega arith)
one_endless item_row item_row e = refl
one_endless pair_row (chunks Bytes) e = absurd (omega arith)
one_endless pair_row pair_row e = refl
one_endless _ _ e = absurd (omega arith)

-- a head and a byte of indefinite length differ
pub head_not_endless : (major : Major) (n byte : ℕ) (head x y : List ℕ) → EndlessByte byte → IsHeadOf major n head → byte ∷ x ≡ head ++ y → ⊥
head_not_endless major n byte head x y b h e =
    let k = head_byte major n byte head x y h e in
    let p = k.is in
    let q = b.is in
    let r = k.low in
    omega arith

pub record AreOne (a b : Opening) (x y : List ℕ) : Type 0 where
  pub opening : a ≡ b
  pub rest : x ≡ y

pub same_openings : (a b : Opening) (s t x y : List ℕ) → IsOpening a s → IsOpening b t → s ++ x ≡ t ++ y → AreOne a b x y
same_openings (counted a n) (counted b p) s t x y h k e =
    let q = same_head h.size k.size a b n p x y h.fits k.fits (ap (λ z. z ++ x) (sym h.form) ∙ e ∙ ap (λ z. z ++ y) k.form) in
    record { opening = λ i. counted (q.major i) (q.number i); rest = q.rest }
same_openings (counted a n) (endless f) s t x y h k e = absurd (head_not_endless a n (endless_byte f) s y x (endless_is f) h (sym (e ∙ ap (λ z. z ++ y) k)))
same_openings (endless f) (counted b p) s t x y h k e = absurd (head_not_endless b p (endless_byte f) t x y (endless_is f) k (ap (λ z. z ++ x) (sym h) ∙ e))
same_openings (endless f) (endless g) s t x y h k e =
    let q : endless_byte f ∷ x ≡ endless_byte g ∷ y = ap (λ z. z ++ x) (sym h) ∙ e ∙ ap (λ z. z ++ y) k in
    let r : endless_byte f ≡ endless_byte g = cc in
    record { opening = ap endless (one_endless f g r); rest = cc }

pub record AreSame (a b : Major) (n p : ℕ) (x y : List ℕ) : Type 0 where
  pub major : a ≡ b
  pub number : n ≡ p
  pub rest : x ≡ y

pub same_heads : (a b : Major) (n p : ℕ) (s t x y : List ℕ) → IsHeadOf a n s → IsHeadOf b p t → s ++ x ≡ t ++ y → AreSame a b n p x y
same_heads a b n p s t x y h k e =
    let q = same_head h.size k.size a b n p x y h.fits k.fits (ap (λ z. z ++ x) (sym h.form) ∙ e ∙ ap (λ z. z ++ y) k.form) in
    record { major = q.major; number = q.number; rest = q.rest }

-- a break begins nothing
pub opening_not_break : (o : Opening) (s x y : List ℕ) → IsOpening o s → 255 ∷ x ≡ s ++ y → ⊥
opening_not_break (counted major n) s x y h e =
    let k = head_byte major n 255 s x y h e in
    let p = k.is in
    let r = k.low in
    let m = major_number-below major in
    omega arith
opening_not_break (endless f) s x y h e =
    let q : 255 ∷ x ≡ endless_byte f ∷ y = e ∙ ap (λ z. z ++ y) h in
    let r : 255 ≡ endless_byte f = cc in
    let b = endless_is f in
    let p = b.is in
    let l = b.lists in
    omega arith

pub item_not_break : (d : ℕ) (w x y : List ℕ) → IsItem d w → 255 ∷ x ≡ w ++ y → ⊥
item_not_break d w x y i e =
    let h = headed d w i in
    opening_not_break h.opening h.first x (h.rest ++ y) h.opens (e ∙ ap (λ z. z ++ y) h.form ∙ append_assoc h.first h.rest y)
