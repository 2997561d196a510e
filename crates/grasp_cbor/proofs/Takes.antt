-- What is taken from the front of bytes.
use Rattle.std.proofs.Common.{◌≡◌, ℕ, suc, ◌+◌, ◌*◌, ◌/◌, ◌%◌, ◌^◌, ◌<◌, ◌≤◌, Bool, true, false, cond, ltb, eqb, List, [], ◌∷◌, ◌++◌, length, get_or, take, drop, Option, Some, None, refl, sym, ap, subst, ◌∙◌, append_assoc, ◌⊎◌, inl, inr, arith}
use Rattle.std.specs.Int.{Width, w16, w32, w64, byte_len, from_be_bytes, to_be_bytes}
use Rattle.std.specs.Str.{IsUtf8, is_utf8}
use Rattle.std.proofs.lemmas.Str.{IsUtf8-from_is_utf8}
use Rattle.std.proofs.lemmas.Bool.{cases_lt, ltb-true, ltb-false, eqb-true}
use Rattle.std.proofs.lemmas.List.{take-append-drop, length-take, get_or-drop, get_or-take, get_or_past}
use Rattle.std.proofs.lemmas.Nat.{be_bytes_2, be_bytes_4, be_bytes_8}
use Rattle.std.proofs.lemmas.Option.{cond_some}
use Rattle.grasp_cbor.specs.Head.{HeadSize, direct, one_byte, two_bytes, four_bytes, eight_bytes, argument_limit, sized_head, IsHead}
use Rattle.grasp_cbor.specs.Major.{major_number, major_of}
use Rattle.grasp_cbor.proofs.Majors.{major_number-major_of}
use Rattle.grasp_cbor.specs.declared.heads.Argument.{Argument}
use Rattle.grasp_cbor.specs.declared.heads.Argument.TheVariants.{Direct, One, Two, Four, Eight}
use Rattle.grasp_cbor.specs.declared.heads.Head.{Head}
use Rattle.grasp_cbor.specs.Build.{◌>>=◌, Found, byte_at, number_at, value_of, sized, argument_at, head_at, opened_by, open_at, break_at, or_end, bytes_at, text_at, content_at, chunk_at}
use Rattle.grasp_cbor.specs.Encodes.{IsContent, IsDefiniteString, string_major}
use Rattle.grasp_cbor.specs.declared.heads.Open.{Open}
use Rattle.grasp_cbor.specs.declared.heads.Open.TheVariants as form
use Rattle.grasp_cbor.specs.declared.heads.StringKind.{StringKind}
use Rattle.grasp_cbor.specs.declared.heads.StringKind.TheVariants as kinds

abbrev pub IsBytes : List ℕ → Type 0
IsBytes s = (i : ℕ) → get_or s i 0 < 256

pub IsBytes-drop : (n : ℕ) (s : List ℕ) → IsBytes s → IsBytes (drop n s)
IsBytes-drop n s h i = rw get_or-drop (h (n + i))

IsBytes-take : (n : ℕ) (s : List ℕ) → IsBytes s → IsBytes (take n s)
IsBytes-take n s h i =
    elim (cases_lt i n) [
      | inl lt ↦ rw (get_or-take n s i 0 lt) (h i)
      | inr le ↦ rw (get_or_past (take n s) i 0 (omega (arith, length-take n s))) (omega arith)
    ]

pub IsBytes-rest : (b : ℕ) (s : List ℕ) → IsBytes (b ∷ s) → IsBytes s
IsBytes-rest b s h i = h (suc i)

-- the value of a step that did not fail
pub bind_ok : {A B : Type 0} (r : Option A) (f : A → Option B) (y : B) → (r >>= f) ≡ Some y → (x : A) × (r ≡ Some x) × (f x ≡ Some y)
bind_ok (Some x) f y e = (x, refl, e)
bind_ok None f y e = absurd cc

-- a test that did not fail
pub guard_ok : {A : Type 0} (b : Bool) (x y : A) → cond b None (Some x) ≡ Some y → (b ≡ false) × (x ≡ y)
guard_ok true x y e = absurd cc
guard_ok false x y e = (refl, cc)

-- which way a test went
pub chosen : {A : Type 0} (b : Bool) (x y z : A) → cond b x y ≡ z → ((b ≡ true) × (x ≡ z)) ⊎ ((b ≡ false) × (y ≡ z))
chosen true x y z e = inl (refl, e)
chosen false x y z e = inr (refl, e)

abbrev done : {A : Type 0} → A → Option A
done x = Some x

pub ok_is : {A : Type 0} (x y : A) → done x ≡ done y → x ≡ y
ok_is x y e = cc

-- what was taken from the front
pub record Takes (s front rest : List ℕ) : Type 0 where
  pub parts : s ≡ front ++ rest
  pub rest_fits : IsBytes rest

pub Takes-then : (a x b y c : List ℕ) → Takes a x b → Takes b y c → Takes a (x ++ y) c
Takes-then a x b y c p q = record { parts = p.parts ∙ ap (λ (t : List ℕ). x ++ t) q.parts ∙ sym (append_assoc x y c); rest_fits = q.rest_fits }

pub record IsWide (w : Width) (below : ℕ) : Type 0 where
  pub back : (s : List ℕ) → length s ≡ byte_len w → IsBytes s → to_be_bytes w (from_be_bytes w s) ≡ s
  pub bound : (s : List ℕ) → IsBytes s → from_be_bytes w s < below

wide16 : IsWide w16 (2 ^ 16)
wide16 = record { back = λ s len fits. be_bytes_2 s _ len fits refl; bound = λ s fits. omega (arith, fits 0, fits 1) }

wide32 : IsWide w32 (2 ^ 32)
wide32 = record { back = λ s len fits. be_bytes_4 s _ len fits refl; bound = λ s fits. omega (arith, fits 0, fits 1, fits 2, fits 3) }

wide64 : IsWide w64 (2 ^ 64)
wide64 = record { back = λ s len fits. be_bytes_8 s _ len fits refl; bound = λ s fits. omega (arith, fits 0, fits 1, fits 2, fits 3, fits 4, fits 5, fits 6, fits 7) }

pub number_takes : (w : Width) (below : ℕ) (wide : IsWide w below) (s : List ℕ) (n : ℕ) (rest : List ℕ) → IsBytes s → number_at w s ≡ Some (n, rest) → Takes s (to_be_bytes w n) rest × (n < below)
number_takes w below wide s n rest fits e =
    let g = guard_ok (ltb (length s) (byte_len w)) (from_be_bytes w (take (byte_len w) s), drop (byte_len w) s) (n, rest) e in
    let long : byte_len w ≤ length s = ltb-false _ _ g.0 in
    let n-is : from_be_bytes w (take (byte_len w) s) ≡ n = ap (λ (p : ℕ × List ℕ). p.0) g.1 in
    let rest-is : drop (byte_len w) s ≡ rest = ap (λ (p : ℕ × List ℕ). p.1) g.1 in
    let front : to_be_bytes w n ≡ take (byte_len w) s = rw (← n-is) (wide.back (take (byte_len w) s) (omega (arith, length-take (byte_len w) s)) (IsBytes-take (byte_len w) s fits)) in
    (record { parts = rw (front, ← rest-is) (sym (take-append-drop (byte_len w) s)); rest_fits = rw (← rest-is) (IsBytes-drop (byte_len w) s fits) }, rw (← n-is) (wide.bound (take (byte_len w) s) (IsBytes-take (byte_len w) s fits)))

-- the size of an argument, the low bits that say so, and the bytes behind them
abbrev pub size_in : Argument → HeadSize
size_in (Direct n) = direct
size_in (One n) = one_byte
size_in (Two n) = two_bytes
size_in (Four n) = four_bytes
size_in (Eight n) = eight_bytes

abbrev pub low_of : Argument → ℕ
low_of (Direct n) = n
low_of (One n) = 24
low_of (Two n) = 25
low_of (Four n) = 26
low_of (Eight n) = 27

abbrev pub tail_of : Argument → List ℕ
tail_of (Direct n) = []
tail_of (One n) = n ∷ []
tail_of (Two n) = to_be_bytes w16 n
tail_of (Four n) = to_be_bytes w32 n
tail_of (Eight n) = to_be_bytes w64 n

pub record IsArgument (i : ℕ) (s : List ℕ) (x : Argument × List ℕ) : Type 0 where
  pub taken : Takes s (tail_of x.0) x.1
  pub low : i ≡ low_of x.0
  pub fits : value_of x.0 < argument_limit (size_in x.0)

pub byte_takes : (s : List ℕ) (n : ℕ) (rest : List ℕ) → IsBytes s → byte_at s ≡ Some (n, rest) → Takes s (n ∷ []) rest × (n < 2 ^ 8)
byte_takes [] n rest fits e = absurd cc
byte_takes (b ∷ s) n rest fits e =
    subst (λ (x : ℕ × List ℕ). Takes (b ∷ s) (x.0 ∷ []) x.1 × (x.0 < 2 ^ 8)) (ok_is (b, s) (n, rest) e) (record { parts = refl; rest_fits = IsBytes-rest b s fits }, fits 0)

direct_takes : (i : ℕ) (s : List ℕ) (x : Argument × List ℕ) → IsBytes s → i < 24 → done (Direct i, s) ≡ Some x → IsArgument i s x
direct_takes i s x fits lt e = subst (λ y. IsArgument i s y) (ok_is (Direct i, s) x e) (record { taken = record { parts = refl; rest_fits = fits }; low = refl; fits = lt })

one_takes : (i : ℕ) (s : List ℕ) (x : Argument × List ℕ) → IsBytes s → i ≡ 24 → sized One (byte_at s) ≡ Some x → IsArgument i s x
one_takes i s x fits q e =
    let b = bind_ok (byte_at s) (λ n. Some (One n.0, n.1)) x e in
    let t = byte_takes s b.0.0 b.0.1 fits b.1 in
    subst (λ y. IsArgument i s y) (ok_is (One b.0.0, b.0.1) x b.2) (record { taken = t.0; low = q; fits = t.1 })

two_takes : (i : ℕ) (s : List ℕ) (x : Argument × List ℕ) → IsBytes s → i ≡ 25 → sized Two (number_at w16 s) ≡ Some x → IsArgument i s x
two_takes i s x fits q e =
    let b = bind_ok (number_at w16 s) (λ n. Some (Two n.0, n.1)) x e in
    let t = number_takes w16 (2 ^ 16) wide16 s b.0.0 b.0.1 fits b.1 in
    subst (λ y. IsArgument i s y) (ok_is (Two b.0.0, b.0.1) x b.2) (record { taken = t.0; low = q; fits = t.1 })

four_takes : (i : ℕ) (s : List ℕ) (x : Argument × List ℕ) → IsBytes s → i ≡ 26 → sized Four (number_at w32 s) ≡ Some x → IsArgument i s x
four_takes i s x fits q e =
    let b = bind_ok (number_at w32 s) (λ n. Some (Four n.0, n.1)) x e in
    let t = number_takes w32 (2 ^ 32) wide32 s b.0.0 b.0.1 fits b.1 in
    subst (λ y. IsArgument i s y) (ok_is (Four b.0.0, b.0.1) x b.2) (record { taken = t.0; low = q; fits = t.1 })

eight_takes : (i : ℕ) (s : List ℕ) (x : Argument × List ℕ) → IsBytes s → i ≡ 27 → sized Eight (number_at w64 s) ≡ Some x → IsArgument i s x
eight_takes i s x fits q e =
    let b = bind_ok (number_at w64 s) (λ n. Some (Eight n.0, n.1)) x e in
    let t = number_takes w64 (2 ^ 64) wide64 s b.0.0 b.0.1 fits b.1 in
    subst (λ y. IsArgument i s y) (ok_is (Eight b.0.0, b.0.1) x b.2) (record { taken = t.0; low = q; fits = t.1 })

pub argument_takes : (i : ℕ) (s : List ℕ) (x : Argument × List ℕ) → IsBytes s → argument_at i s ≡ Some x → IsArgument i s x
unfolding argument_at
argument_takes i s x fits e =
    elim (chosen (ltb i 24) _ _ _ e) [
      | inl a ↦ direct_takes i s x fits (ltb-true i 24 a.0) a.1
      | inr a ↦ elim (chosen (eqb i 24) _ _ _ a.1) [
        | inl b ↦ one_takes i s x fits (eqb-true i 24 b.0) b.1
        | inr b ↦ elim (chosen (eqb i 25) _ _ _ b.1) [
          | inl c ↦ two_takes i s x fits (eqb-true i 25 c.0) c.1
          | inr c ↦ elim (chosen (eqb i 26) _ _ _ c.1) [
            | inl d ↦ four_takes i s x fits (eqb-true i 26 d.0) d.1
            | inr d ↦ elim (chosen (eqb i 27) _ _ _ d.1) [
              | inl f ↦ eight_takes i s x fits (eqb-true i 27 f.0) f.1
              | inr f ↦ absurd (let wrong = f.1 in cc)
            ]
          ]
        ]
      ]
    ]

pub sized_head_is : (major : ℕ) (a : Argument) → sized_head (size_in a) major (value_of a) ≡ (32 * major + low_of a) ∷ tail_of a
sized_head_is major (Direct n) = refl
sized_head_is major _ = refl

pub record IsTakenHead (s : List ℕ) (x : Head × List ℕ) : Type 0 where
  pub taken : Takes s (sized_head (size_in x.0.argument) (major_number x.0.major) (value_of x.0.argument)) x.1
  pub fits : value_of x.0.argument < argument_limit (size_in x.0.argument)

pub head_takes : (s : List ℕ) (x : Head × List ℕ) → IsBytes s → head_at s ≡ Some x → IsTakenHead s x
unfolding head_at
head_takes [] x fits e = absurd cc
head_takes (b ∷ s) x fits e =
    let a = bind_ok (argument_at (b % 32) s) (λ a. Some (record { major = major_of (b / 32); argument = a.0 }, a.1)) x e in
    let t = argument_takes (b % 32) s a.0 (IsBytes-rest b s fits) a.1 in
    let made : Head × List ℕ = (record { major = major_of (b / 32); argument = a.0.0 }, a.0.1) in
    let low : b % 32 ≡ low_of a.0.0 = t.low in
    let below : b < 256 = fits 0 in
    let high : major_number (major_of (b / 32)) ≡ b / 32 = major_number-major_of (b / 32) (omega arith) in
    let first : 32 * major_number (major_of (b / 32)) + low_of a.0.0 ≡ b = omega arith in
    let whole : b ∷ s ≡ sized_head (size_in a.0.0) (major_number (major_of (b / 32))) (value_of a.0.0) ++ a.0.1 =
    ap (λ (y : List ℕ). b ∷ y) t.taken.parts ∙ ap (λ (y : ℕ). y ∷ (tail_of a.0.0 ++ a.0.1)) (sym first) ∙ ap (λ (y : List ℕ). y ++ a.0.1) (sym (sized_head_is (major_number (major_of (b / 32))) a.0.0)) in
    subst (λ y. IsTakenHead (b ∷ s) y) (ok_is made x a.2) (record { taken = record { parts = whole; rest_fits = t.taken.rest_fits }; fits = t.fits })

pub bytes_takes : (n : ℕ) (s : List ℕ) (x : List ℕ × List ℕ) → IsBytes s → bytes_at n s ≡ Some x → Takes s x.0 x.1 × (length x.0 ≡ n)
unfolding bytes_at
bytes_takes n s x fits e =
    let g = guard_ok (ltb (length s) n) (take n s, drop n s) x e in
    let long : n ≤ length s = ltb-false _ _ g.0 in
    subst (λ (y : List ℕ × List ℕ). Takes s y.0 y.1 × (length y.0 ≡ n)) g.1 (record { parts = sym (take-append-drop n s); rest_fits = IsBytes-drop n s fits }, omega (arith, length-take n s))

pub text_takes : (n : ℕ) (s : List ℕ) (x : List ℕ × List ℕ) → IsBytes s → text_at n s ≡ Some x → Takes s x.0 x.1 × (length x.0 ≡ n) × IsUtf8 x.0
unfolding text_at
text_takes n s x fits e =
    let b = bind_ok (bytes_at n s) (λ found. cond (is_utf8 found.0) (Some found) (None)) x e in
    let g = cond_some (is_utf8 b.0.0) b.0 x b.2 in
    let t = bytes_takes n s b.0 fits b.1 in
    subst (λ (y : List ℕ × List ℕ). Takes s y.0 y.1 × (length y.0 ≡ n) × IsUtf8 y.0) g.1 (t.0, t.1, IsUtf8-from_is_utf8 b.0.0 g.0)

-- ---- indefinite lengths

-- the initial byte that opens this
abbrev pub initial : Open → ℕ
initial (form.String kind) = 32 * string_major kind + 31
initial form.Items = 159
initial form.Pairs = 191

pub record IsOpened (s : List ℕ) (x : Open × List ℕ) : Type 0 where
  pub parts : s ≡ initial x.0 ∷ x.1
  pub rest_fits : IsBytes x.1

opened_is : (b : ℕ) (o : Open) → opened_by b ≡ Some o → b ≡ initial o
unfolding opened_by
opened_is b o e =
    elim (chosen (eqb b 95) _ _ _ e) [
      | inl a ↦ eqb-true b 95 a.0 ∙ ap initial (ok_is (form.String kinds.Bytes) o a.1)
      | inr a ↦ elim (chosen (eqb b 127) _ _ _ a.1) [
        | inl c ↦ eqb-true b 127 c.0 ∙ ap initial (ok_is (form.String kinds.Text) o c.1)
        | inr c ↦ elim (chosen (eqb b 159) _ _ _ c.1) [
          | inl d ↦ eqb-true b 159 d.0 ∙ ap initial (ok_is form.Items o d.1)
          | inr d ↦ elim (chosen (eqb b 191) _ _ _ d.1) [
            | inl f ↦ eqb-true b 191 f.0 ∙ ap initial (ok_is form.Pairs o f.1)
            | inr f ↦ absurd (let wrong = f.1 in cc)
          ]
        ]
      ]
    ]

pub open_takes : (s : List ℕ) (x : Open × List ℕ) → IsBytes s → open_at s ≡ Some x → IsOpened s x
open_takes [] x fits e = absurd cc
open_takes (b ∷ s) x fits e =
    let o = bind_ok (opened_by b) (λ o. Some (o, s)) x e in
    subst (λ y. IsOpened (b ∷ s) y) (ok_is (o.0, s) x o.2) (record { parts = ap (λ n. n ∷ s) (opened_is b o.0 o.1); rest_fits = IsBytes-rest b s fits })

break_takes : (s rest : List ℕ) → IsBytes s → break_at s ≡ Some rest → Takes s (255 ∷ []) rest
break_takes [] rest fits e = absurd cc
break_takes (b ∷ s) rest fits e =
    let g = cond_some (eqb b 255) s rest e in
    subst (λ y. Takes (b ∷ s) (255 ∷ []) y) g.1 (record { parts = ap (λ n. n ∷ s) (eqb-true b 255 g.0); rest_fits = IsBytes-rest b s fits })

-- a break ends it, or there is more
pub record Ended {X : Type 0} (s : List ℕ) (x : List X × List ℕ) : Type 0 where
  pub empty : x.0 ≡ []
  pub taken : Takes s (255 ∷ []) x.1

pub ended_or : {X : Type 0} (o : Option (List ℕ)) (s : List ℕ) (more : Found (List X)) (x : List X × List ℕ) → IsBytes s → break_at s ≡ o
    → or_end o more ≡ Some x → Ended s x ⊎ (more ≡ Some x)
ended_or (Some rest) s more x fits b e =
    let same = ok_is ([], rest) x e in
    inl (record {
      empty = sym (ap (λ (y : List _ × List ℕ). y.0) same);
      taken = subst (λ y. Takes s (255 ∷ []) y) (ap (λ (y : List _ × List ℕ). y.1) same)
          (break_takes s rest fits b);
    })
ended_or None s more x fits b e = inr e

pub content_takes : (kind : StringKind) (n : ℕ) (s : List ℕ) (x : List ℕ × List ℕ) → IsBytes s → content_at kind n s ≡ Some x
    → Takes s x.0 x.1 × (length x.0 ≡ n) × IsContent kind x.0
content_takes kinds.Bytes n s x fits e = let t = bytes_takes n s x fits e in (t.0, t.1, tt)
content_takes kinds.Text n s x fits e = text_takes n s x fits e

-- a string that was taken
pub record IsTakenString (kind : StringKind) (s : List ℕ) (x : List ℕ × List ℕ) : Type 0 where
  pub front : List ℕ
  pub string : IsDefiniteString kind x.0 front
  pub taken : Takes s front x.1

pub chunk_takes : (kind : StringKind) (s : List ℕ) (x : List ℕ × List ℕ) → IsBytes s → chunk_at kind s ≡ Some x → IsTakenString kind s x
unfolding chunk_at
chunk_takes kind s x fits e =
    let h = bind_ok (head_at s) (λ h. cond (eqb (major_number h.0.major) (string_major kind)) (content_at kind (value_of h.0.argument) h.1) None) x e in
    let t = head_takes s h.0 fits h.1 in
    elim (chosen (eqb (major_number h.0.0.major) (string_major kind)) _ _ _ h.2) [
      | inr b ↦ absurd (let wrong = b.1 in cc)
      | inl b ↦
          let a = h.0.0.argument in
          let head = sized_head (size_in a) (major_number h.0.0.major) (value_of a) in
          let c = content_takes kind (value_of a) h.0.1 x t.taken.rest_fits b.1 in
          let same : major_number h.0.0.major ≡ string_major kind = eqb-true _ _ b.0 in
          let headed : IsHead (string_major kind) (length x.0) head = (
            size_in a,
            rw c.1 t.fits,
            ap (λ m. sized_head (size_in a) m (value_of a)) same
                ∙ ap (sized_head (size_in a) (string_major kind)) (sym c.1),
          ) in
          record {
            front = head ++ x.0;
            string = record { head = head; opens = headed; fine = c.2; form = refl };
            taken = Takes-then s head h.0.1 x.0 x.1
                t.taken c.0;
          }
    ]
