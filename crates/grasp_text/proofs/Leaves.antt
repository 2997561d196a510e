-- The words that are read: each kind is read where it is one, and nowhere else.
use Rattle.std.proofs.Common.{◌≡◌, ℕ, zero, suc, ◌+◌, ◌-◌, ◌*◌, ◌/◌, ◌%◌, ◌<◌, ◌≤◌, Bool, true, false, cond, eqb, leb, ◌&&◌, inl, inr, List, [], ◌∷◌, ◌++◌, length, length-append, Option, Some, None, refl, sym, ap, subst, ◌∙◌, arith}
use lib.Utf8.{scalar, scalars, encode, encodes, scalar_cases}
use Rattle.std.specs.List.{AllByRecursion}
use Rattle.std.specs.Prelude.{slice_index}
use Rattle.std.specs.Str.{IsUtf8, is_utf8, bytes_eq}
use Rattle.std.proofs.lemmas.Bool.{cases_lt, lt-ltb, le-ltb, eqb-true, leb-true, and_parts}
use Rattle.std.proofs.lemmas.Slice.Eq.{bytes_eq-Decides}
use Rattle.std.proofs.lemmas.Str.{is_utf8-from_IsUtf8, IsUtf8-from_is_utf8}
use Rattle.grasp_cbor.proofs.Facts.Lists.{same_word}
use Rattle.hex.specs.Hex.{lower_digits}
use Rattle.grasp_text.specs.Line.{escaped, all_escaped, text_word}
use Rattle.grasp_text.specs.Reading.{unescaped, first_unescaped, behind_percent, paired, onto, as_text, byte_of, escaped_byte, is_plain, digit_of, text_of, text_behind, behind_byte, absent_or, some_of, exactly}
use Rattle.grasp_text.proofs.Lawful.{Exact}
use Rattle.grasp_text.proofs.NumberWords.{some, some_is}
use Rattle.grasp_text.proofs.TextWords.{then_unescaped, unescaped_first, escaped_plain}

-- ---- words that are spelled out

pub record Spelled {A : Type 0} (spell : A → List ℕ) (a : A) (word : List ℕ) : Type 0 where
  pub spelled : word ≡ spell a

spelled_at : {A : Type 0} (spell : A → List ℕ) (x a : A) (word expected : List ℕ) (other : Option A) (b : Bool) → bytes_eq word expected ≡ b → expected ≡ spell a → (other ≡ Some x → word ≡ spell x) → cond b (some a) other ≡ Some x → word ≡ spell x
spelled_at spell x a word expected other true t is h e = (bytes_eq-Decides word expected).0 t ∙ is ∙ ap spell (some_is a x e)
spelled_at spell x a word expected other false t is h e = h e

-- one of several words
pub one_of : {A : Type 0} (spell : A → List ℕ) (x a : A) (word expected : List ℕ) (other : Option A) → expected ≡ spell a → (other ≡ Some x → word ≡ spell x) → cond (bytes_eq word expected) (some a) other ≡ Some x → word ≡ spell x
one_of spell x a word expected other is h e = spelled_at spell x a word expected other (bytes_eq word expected) refl is h e

pub no_more : {A : Type 0} (x : A) (P : Type 0) → None ≡ some x → P
no_more x P e = absurd (let z : None ≡ some x = e in cc)

-- the word itself
pub exactly_exact : (expected : List ℕ) → Exact (Spelled (λ (u : Unit {0}). expected)) (exactly expected)
exactly_exact expected = record {
  value = tt;
  word = expected;
  some = record { spelled = refl };
  found = λ a w is. ap (λ (b : Bool). cond b (some tt) None) (same_word w expected is.spelled);
  only = λ w a e. record { spelled = one_of (λ (u : Unit {0}). expected) a tt w expected None refl (no_more a (w ≡ expected)) e };
}

-- a word for what is absent, or another word
unfoldable pub IsMaybe : {A : Type 0} → List ℕ → (A → List ℕ → Type 0) → Option A → List ℕ → Type 0
IsMaybe absent Is None word = word ≡ absent
IsMaybe absent Is (Some a) word = Is a word

module _ {A : Type 0} (absent : List ℕ) (Is : A → List ℕ → Type 0) (read : List ℕ → Option A) (E : Exact Is read) (apart : read absent ≡ None) where
  maybe_found_at : (a : A) (w : List ℕ) (b : Bool) → Is a w → bytes_eq w absent ≡ b → cond b (some None) (some_of (read w)) ≡ Some (Some a)
  maybe_found_at a w false is t = ap some_of (E.found a w is)
  maybe_found_at a w true is t = absurd (let z : read w ≡ None = ap read ((bytes_eq-Decides w absent).0 t) ∙ apart in let y = sym z ∙ E.found a w is in cc)

  maybe_found : (o : Option A) (w : List ℕ) → IsMaybe absent Is o w → absent_or absent read w ≡ Some o
  unfolding IsMaybe
  maybe_found None w is = ap (λ (b : Bool). cond b (some None) (some_of (read w))) (same_word w absent is)
  maybe_found (Some a) w is = maybe_found_at a w (bytes_eq w absent) is refl

  maybe_some : (w : List ℕ) (r : Option A) (o : Option A) → read w ≡ r → some_of r ≡ Some o → IsMaybe absent Is o w
  unfolding IsMaybe
  maybe_some w None o r e = absurd (let z = e in cc)
  maybe_some w (Some a) o r e = subst (λ (x : Option A). IsMaybe absent Is x w) (some_is (Some a) o e) (E.only w a r)

  maybe_only_at : (w : List ℕ) (o : Option A) (b : Bool) → bytes_eq w absent ≡ b → cond b (some None) (some_of (read w)) ≡ Some o → IsMaybe absent Is o w
  unfolding IsMaybe
  maybe_only_at w o true t e = subst (λ (x : Option A). IsMaybe absent Is x w) (some_is None o e) ((bytes_eq-Decides w absent).0 t)
  maybe_only_at w o false t e = maybe_some w (read w) o refl e

  pub maybe_exact : Exact (IsMaybe absent Is) (absent_or absent read)
  unfolding IsMaybe
  maybe_exact = record {
    value = None;
    word = absent;
    some = refl;
    found = maybe_found;
    only = λ w o e. maybe_only_at w o (bytes_eq w absent) refl e;
  }

-- ---- texts

abbrev pub AreBytes : List ℕ → Type 0
AreBytes bytes = AllByRecursion (λ b. b < 256) bytes

AreBytes-append : (xs ys : List ℕ) → AreBytes xs → AreBytes ys → AreBytes (xs ++ ys)
AreBytes-append [] ys p q = q
AreBytes-append (x ∷ xs) ys p q = (p.0, AreBytes-append xs ys p.1 q)

encode_small : (c : ℕ) → c < 1114112 → AreBytes (encode c)
unfolding encode
encode_small c lt =
    elim (cases_lt c 128) [
      | inl a ↦ rw (lt-ltb c 128 a) (omega arith, tt)
      | inr a ↦ rw (le-ltb c 128 a) (elim (cases_lt c 2048) [
        | inl b ↦ rw (lt-ltb c 2048 b) (omega arith, (omega arith, tt))
        | inr b ↦ rw (le-ltb c 2048 b) (elim (cases_lt c 65536) [
          | inl d ↦ rw (lt-ltb c 65536 d) (omega arith, (omega arith, (omega arith, tt)))
          | inr d ↦ rw (le-ltb c 65536 d) (omega arith, (omega arith, (omega arith, (omega arith, tt))))
        ])
      ])
    ]

encodes_small : (cs : List ℕ) → scalars cs ≡ true → AreBytes (encodes cs)
encodes_small [] e = tt
encodes_small (c ∷ cs) e =
    let p = and_parts (scalar c) (scalars cs) e in
    let small : c < 1114112 = elim (scalar_cases c p.0) [ inl a ↦ omega arith | inr a ↦ a.1 ] in
    AreBytes-append (encode c) (encodes cs) (encode_small c small) (encodes_small cs p.1)

pub text_bytes : (s : List ℕ) → IsUtf8 s → AreBytes s
text_bytes s u = subst AreBytes u.1.1 (encodes_small u.0 u.1.0)

-- the digits

pub digit_again : (d : ℕ) → d < 16 → digit_of (slice_index lower_digits d) ≡ Some d
digit_again (suc (suc (suc (suc (suc (suc (suc (suc (suc (suc (suc (suc (suc (suc (suc (suc n)))))))))))))))) lt = absurd (omega arith)
digit_again _ lt = refl

-- a digit to 9 is 48 and its value, one from 10 on 87 and its value
decimal_digit_is : (d : ℕ) → d < 10 → slice_index lower_digits d ≡ 48 + d
decimal_digit_is (suc (suc (suc (suc (suc (suc (suc (suc (suc (suc n)))))))))) lt = absurd (omega arith)
decimal_digit_is _ lt = refl

letter_digit_is : (e : ℕ) → e < 6 → slice_index lower_digits (10 + e) ≡ 97 + e
letter_digit_is (suc (suc (suc (suc (suc (suc n)))))) lt = absurd (omega arith)
letter_digit_is _ lt = refl

pub record IsDigit (c d : ℕ) : Type 0 where
  pub small : d < 16
  pub spelled : slice_index lower_digits d ≡ c

abbrev nat_within : ℕ → ℕ → ℕ → Bool
nat_within low high c = leb low c && leb c high

digit_only_at : (c d : ℕ) (p q : Bool) → (nat_within 48 57 c) ≡ p → (nat_within 97 102 c) ≡ q → cond p (some (c - 48)) (cond q (some (c - 87)) None) ≡ Some d → IsDigit c d
digit_only_at c d true q s t e =
    let b = and_parts (leb 48 c) (leb c 57) s in
    let low : 48 ≤ c = leb-true 48 c b.0 in
    let high : c ≤ 57 = leb-true c 57 b.1 in
    let is : c - 48 ≡ d = some_is (c - 48) d e in
    record { small = omega arith; spelled = decimal_digit_is d (omega arith) ∙ omega arith }
digit_only_at c d false true s t e =
    let b = and_parts (leb 97 c) (leb c 102) t in
    let low : 97 ≤ c = leb-true 97 c b.0 in
    let high : c ≤ 102 = leb-true c 102 b.1 in
    let is : c - 87 ≡ d = some_is (c - 87) d e in
    let shift : d ≡ 10 + (c - 97) = omega arith in
    record { small = omega arith; spelled = ap (slice_index lower_digits) shift ∙ letter_digit_is (c - 97) (omega arith) ∙ omega arith }
digit_only_at c d false false s t e = absurd (let z : None ≡ some d = e in cc)

pub digit_only : (c d : ℕ) → digit_of c ≡ Some d → IsDigit c d
digit_only c d e = digit_only_at c d (nat_within 48 57 c) (nat_within 97 102 c) refl refl e

-- one byte

escaped_other : (b : ℕ) → is_plain b ≡ false → escaped b ≡ 37 ∷ slice_index lower_digits (b / 16) ∷ slice_index lower_digits (b % 16) ∷ []
escaped_other b e = ap (λ (p : Bool). cond p (b ∷ []) (37 ∷ slice_index lower_digits (b / 16) ∷ slice_index lower_digits (b % 16) ∷ [])) e

byte_again : (b : ℕ) → b < 256 → is_plain b ≡ false → byte_of (slice_index lower_digits (b / 16)) (slice_index lower_digits (b % 16)) ≡ Some b
unfolding byte_of
byte_again b lt e =
    let whole : b / 16 * 16 + b % 16 ≡ b = omega arith in
    rw (digit_again (b / 16) (omega arith), digit_again (b % 16) (omega arith), whole, e) refl

first_again_at : (b : ℕ) (rest : List ℕ) (p : Bool) → b < 256 → is_plain b ≡ p → first_unescaped (escaped b ++ rest) ≡ Some (b, rest)
unfolding first_unescaped
first_again_at b rest true lt e = ap (λ (x : List ℕ). first_unescaped (x ++ rest)) (escaped_plain b e) ∙ ap (λ (p : Bool). cond p (some (b, rest)) (cond (eqb b 37) (behind_percent rest) None)) e
first_again_at b rest false lt e = ap (λ (x : List ℕ). first_unescaped (x ++ rest)) (escaped_other b e) ∙ ap (λ (o : Option ℕ). paired o rest) (byte_again b lt e)

first_again : (b : ℕ) (rest : List ℕ) → b < 256 → first_unescaped (escaped b ++ rest) ≡ Some (b, rest)
first_again b rest lt = first_again_at b rest (is_plain b) lt refl

record IsFirst (s : List ℕ) (b : ℕ) (rest : List ℕ) : Type 0 where
  parts : s ≡ escaped b ++ rest

byte_only_at : (h l v : ℕ) (x y : Option ℕ) → digit_of h ≡ x → digit_of l ≡ y → escaped_byte x y ≡ Some v → escaped v ≡ 37 ∷ h ∷ l ∷ []
byte_only_at h l v None y p q e = absurd (let z : None ≡ some v = e in cc)
byte_only_at h l v (Some x) None p q e = absurd (let z : None ≡ some v = e in cc)
byte_only_at h l v (Some x) (Some y) p q e = by_plain (is_plain (x * 16 + y)) refl e
  where
    by_plain : (b : Bool) → is_plain (x * 16 + y) ≡ b → cond b None (some (x * 16 + y)) ≡ Some v → escaped v ≡ 37 ∷ h ∷ l ∷ []
    by_plain true t f = absurd (let z : None ≡ some v = f in cc)
    by_plain false t f =
        let is : x * 16 + y ≡ v = some_is (x * 16 + y) v f in
        let dx = digit_only h x p in
        let dy = digit_only l y q in
        let sx : x < 16 = dx.small in
        let sy : y < 16 = dy.small in
        let high : v / 16 ≡ x = omega arith in
        let low : v % 16 ≡ y = omega arith in
        escaped_other v (ap is_plain (sym is) ∙ t) ∙ (λ i. 37 ∷ (ap (slice_index lower_digits) high ∙ dx.spelled) i ∷ (ap (slice_index lower_digits) low ∙ dy.spelled) i ∷ [])

byte_only : (h l v : ℕ) → byte_of h l ≡ Some v → escaped v ≡ 37 ∷ h ∷ l ∷ []
unfolding byte_of
byte_only h l v e = byte_only_at h l v (digit_of h) (digit_of l) refl refl e

paired_only : (h l : ℕ) (tail : List ℕ) (o : Option ℕ) (b : ℕ) (rest : List ℕ) → byte_of h l ≡ o → paired o tail ≡ Some (b, rest) → 37 ∷ h ∷ l ∷ tail ≡ escaped b ++ rest
paired_only h l tail None b rest is e = absurd (let z : None ≡ some (b, rest) = e in cc)
paired_only h l tail (Some v) b rest is e =
    let pair : (v, tail) ≡ (b, rest) = some_is (v, tail) (b, rest) e in
    subst (λ (x : ℕ × List ℕ). 37 ∷ h ∷ l ∷ tail ≡ escaped x.0 ++ x.1) pair (ap (λ (x : List ℕ). x ++ tail) (sym (byte_only h l v is)))

percent_only : (tail : List ℕ) (b : ℕ) (rest : List ℕ) → behind_percent tail ≡ Some (b, rest) → 37 ∷ tail ≡ escaped b ++ rest
percent_only [] b rest e = absurd (let z : None ≡ some (b, rest) = e in cc)
percent_only (h ∷ []) b rest e = absurd (let z : None ≡ some (b, rest) = e in cc)
percent_only (h ∷ l ∷ tail) b rest e = paired_only h l tail (byte_of h l) b rest refl e

first_only_at : (c : ℕ) (tail : List ℕ) (b : ℕ) (rest : List ℕ) (p q : Bool) → is_plain c ≡ p → eqb c 37 ≡ q → cond p (some (c, tail)) (cond q (behind_percent tail) None) ≡ Some (b, rest) → c ∷ tail ≡ escaped b ++ rest
first_only_at c tail b rest true q s t e =
    let pair : (c, tail) ≡ (b, rest) = some_is (c, tail) (b, rest) e in
    subst (λ (x : ℕ × List ℕ). c ∷ tail ≡ escaped x.0 ++ x.1) pair (ap (λ (x : List ℕ). x ++ tail) (sym (escaped_plain c s)))
first_only_at c tail b rest false true s t e = ap (λ (x : ℕ). x ∷ tail) (eqb-true c 37 t) ∙ percent_only tail b rest e
first_only_at c tail b rest false false s t e = absurd (let z : None ≡ some (b, rest) = e in cc)

first_only : (s : List ℕ) (b : ℕ) (rest : List ℕ) → first_unescaped s ≡ Some (b, rest) → s ≡ escaped b ++ rest
unfolding first_unescaped
first_only [] b rest e = absurd (let z : None ≡ some (b, rest) = e in cc)
first_only (c ∷ tail) b rest e = first_only_at c tail b rest (is_plain c) (eqb c 37) refl refl e

-- all bytes

unescaped_by : (s : List ℕ) (b : ℕ) (rest : List ℕ) → first_unescaped s ≡ Some (b, rest) → unescaped s ≡ onto (Some b) (unescaped rest)
unfolding first_unescaped
unescaped_by [] b rest e = absurd (let z : None ≡ some (b, rest) = e in cc)
unescaped_by (c ∷ s) b rest e = unescaped_first c s ∙ ap then_unescaped e

unescaped_again : (bytes : List ℕ) → AreBytes bytes → unescaped (all_escaped bytes) ≡ Some bytes
unfolding unescaped
unescaped_again [] h = refl
unescaped_again (b ∷ bytes) h = unescaped_by (escaped b ++ all_escaped bytes) b (all_escaped bytes) (first_again b (all_escaped bytes) h.0) ∙ ap (onto (Some b)) (unescaped_again bytes h.1)

onto_only : (b : ℕ) (o : Option (List ℕ)) (bytes : List ℕ) → onto (Some b) o ≡ Some bytes → (others : List ℕ) × (o ≡ Some others) × (bytes ≡ b ∷ others)
onto_only b None bytes e = absurd (let z : None ≡ some bytes = e in cc)
onto_only b (Some others) bytes e = (others, refl, sym (some_is (b ∷ others) bytes e))

escaped_long : (b : ℕ) (p : Bool) → is_plain b ≡ p → 0 < length (escaped b)
escaped_long b true e = omega (arith, ap length (escaped_plain b e))
escaped_long b false e = omega (arith, ap length (escaped_other b e))

unescaped_step : (c : ℕ) (s bytes : List ℕ) (o : Option (ℕ × List ℕ)) → ((t more : List ℕ) → length t < length (c ∷ s) → unescaped t ≡ Some more → t ≡ all_escaped more) → first_unescaped (c ∷ s) ≡ o → then_unescaped o ≡ Some bytes → c ∷ s ≡ all_escaped bytes
unescaped_step c s bytes None shorter f e = absurd (let z : None ≡ some bytes = e in cc)
unescaped_step c s bytes (Some x) shorter f e =
    let h = onto_only x.0 (unescaped x.1) bytes e in
    let parts = first_only (c ∷ s) x.0 x.1 f in
    let long = escaped_long x.0 (is_plain x.0) refl in
    let less : length x.1 < length (c ∷ s) = omega (arith, ap length parts, length-append (escaped x.0) x.1) in
    parts ∙ ap (λ (t : List ℕ). escaped x.0 ++ t) (shorter x.1 h.0 less h.1) ∙ ap all_escaped (sym h.2)

unescaped_nil : (bytes : List ℕ) → unescaped [] ≡ Some bytes → [] ≡ all_escaped bytes
unfolding unescaped
unescaped_nil bytes e = ap all_escaped (some_is [] bytes e)

unescaped_within : (n : ℕ) (s bytes : List ℕ) → length s < n → unescaped s ≡ Some bytes → s ≡ all_escaped bytes
unescaped_within zero s bytes lt e = absurd (omega arith)
unescaped_within (suc n) [] bytes lt e = unescaped_nil bytes e
unescaped_within (suc n) (c ∷ s) bytes lt e = unescaped_step c s bytes (first_unescaped (c ∷ s)) (λ t more less f. unescaped_within n t more (omega arith) f) refl (sym (unescaped_first c s) ∙ e)

unescaped_only : (s bytes : List ℕ) → unescaped s ≡ Some bytes → s ≡ all_escaped bytes
unescaped_only s bytes e = unescaped_within (suc (length s)) s bytes (omega arith) e

-- a word of this text
pub record IsText (text word : List ℕ) : Type 0 where
  pub utf8 : IsUtf8 text
  pub spelled : word ≡ text_word text

text_found : (text word : List ℕ) → IsText text word → text_of word ≡ Some text
unfolding text_of
text_found text word is =
    ap (λ (x : List ℕ). text_behind (behind_byte 39 x)) is.spelled
    ∙ ap as_text (unescaped_again text (text_bytes text is.utf8))
    ∙ ap (λ (b : Bool). cond b (some text) None) (is_utf8-from_IsUtf8 text is.utf8)

as_text_only : (o : Option (List ℕ)) (text : List ℕ) → as_text o ≡ Some text → (o ≡ Some text) × IsUtf8 text
as_text_only None text e = absurd (let z : None ≡ some text = e in cc)
as_text_only (Some bytes) text e = by_test (is_utf8 bytes) refl e
  where
    by_test : (b : Bool) → is_utf8 bytes ≡ b → cond b (some bytes) None ≡ Some text → (some bytes ≡ Some text) × IsUtf8 text
    by_test true t f = (f, subst IsUtf8 (some_is bytes text f) (IsUtf8-from_is_utf8 bytes t))
    by_test false t f = absurd (let z : None ≡ some text = f in cc)

-- what stands behind a first byte
pub behind_only : (first : ℕ) (word rest : List ℕ) → behind_byte first word ≡ Some rest → word ≡ first ∷ rest
behind_only first [] rest e = absurd (let z : None ≡ some rest = e in cc)
behind_only first (b ∷ tail) rest e = by_test (eqb b first) refl e
  where
    by_test : (t : Bool) → eqb b first ≡ t → cond t (some tail) None ≡ Some rest → b ∷ tail ≡ first ∷ rest
    by_test true t f = ap (λ (x : ℕ). x ∷ tail) (eqb-true b first t) ∙ ap (λ (x : List ℕ). first ∷ x) (some_is tail rest f)
    by_test false t f = absurd (let z : None ≡ some rest = f in cc)

text_only_at : (word text : List ℕ) (o : Option (List ℕ)) → behind_byte 39 word ≡ o → text_behind o ≡ Some text → IsText text word
text_only_at word text None b e = absurd (let z : None ≡ some text = e in cc)
text_only_at word text (Some rest) b e =
    let h = as_text_only (unescaped rest) text e in
    record { utf8 = h.1; spelled = behind_only 39 word rest b ∙ ap (λ (x : List ℕ). 39 ∷ x) (unescaped_only rest text h.0) }

text_only : (word text : List ℕ) → text_of word ≡ Some text → IsText text word
unfolding text_of
text_only word text e = text_only_at word text (behind_byte 39 word) refl e

pub text_exact : Exact IsText text_of
text_exact = record {
  value = [];
  word = text_word [];
  some = record { utf8 = ([], (refl, refl)); spelled = refl };
  found = text_found;
  only = text_only;
}
