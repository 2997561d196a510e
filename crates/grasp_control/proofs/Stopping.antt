-- Where reading from left to right stops: the words before can go on, and with the next word it stops whatever follows.
use Rattle.std.proofs.Common.{◌≡◌, ℕ, suc, List, [], ◌∷◌, ◌++◌, length, Option, Some, None, Ok, Err, refl, sym, ap, ◌∙◌, append_assoc, arith}
use Rattle.grasp_types.specs.Address.{IsLocator}
use Rattle.grasp_types.specs.declared.address.Locator.{Locator}
use Rattle.grasp_types.specs.declared.address.Locator.TheVariants.{V4}
use Rattle.grasp_types.specs.declared.address.Proto.TheVariants.{Tcp}
use Rattle.grasp_text.specs.Grammar.{ending, locator_at}
use Rattle.grasp_text.specs.Line.{locator_words}
use Rattle.grasp_text.specs.Readers.{IsWordReader}
use Rattle.grasp_text.specs.Reading.{Parsed, ◌>>=◌, or_unfit, word_at, or_end}
use Rattle.grasp_text.specs.Words.{joined}
use Rattle.grasp_text.proofs.PartLaws.{LocatorWords, locator_lawful}
use Rattle.grasp_text.proofs.Readers.{locators_read}

-- a reader stopped at rest, where so many bytes are left; some words behind front are read to the end
pub record Stop {A : Type 0} (p : List (List ℕ) → Parsed A) (ws : List (List ℕ)) (n : ℕ) : Type 0 where
  pub front : List (List ℕ)
  pub rest : List (List ℕ)
  pub parts : ws ≡ front ++ rest
  pub left : n ≡ length (joined rest)
  pub value : A
  pub more : List (List ℕ)
  pub good : p (front ++ more) ≡ Ok (value, [])
  pub again : (x : List ℕ) (others after : List (List ℕ)) → rest ≡ x ∷ others → p (front ++ x ∷ after) ≡ Err (length (joined (x ∷ after)))

-- some words are read to the end, and wherever it is refused it stops
pub record Stopping {A : Type 0} (p : List (List ℕ) → Parsed A) : Type 0 where
  pub value : A
  pub words : List (List ℕ)
  pub some : p words ≡ Ok (value, [])
  pub stops : (ws : List (List ℕ)) (n : ℕ) → p ws ≡ Err n → Stop p ws n

-- ---- one word, and more

-- some word is read as a value
pub record Reading {A : Type 0} (read : List ℕ → Option A) : Type 0 where
  pub value : A
  pub word : List ℕ
  pub is : read word ≡ Some value

-- a value of which the word is read
pub reading : {A : Type 0} {IsOne : A → Type 0} {spell : A → List ℕ} {read : List ℕ → Option A} → IsWordReader IsOne spell read → (a : A) → IsOne a → Reading read
reading {spell = spell} R a one = record { value = a; word = spell a; is = R.found a one }

module _ {A B : Type 0} (read : List ℕ → Option A) (q : A → List (List ℕ) → Parsed B) (R : Reading read) (P : A → Type 0) (has : (w : List ℕ) (a : A) → read w ≡ Some a → P a)
    (Q : (a : A) → P a → Stopping (q a)) where
  abbrev both : List (List ℕ) → Parsed B
  both ws = word_at read ws >>= λ x. q x.0 x.1

  past : (w : List ℕ) (ws : List (List ℕ)) (a : A) → read w ≡ Some a → both (w ∷ ws) ≡ q a ws
  past w ws a e = ap (λ o. or_unfit ws (length (joined (w ∷ ws))) o >>= λ x. q x.0 x.1) e

  before : (w : List ℕ) (ws : List (List ℕ)) → read w ≡ None → both (w ∷ ws) ≡ Err (length (joined (w ∷ ws)))
  before w ws e = ap (λ o. or_unfit ws (length (joined (w ∷ ws))) o >>= λ x. q x.0 x.1) e

  some_more : Stopping (q R.value)
  some_more = Q R.value (has R.word R.value R.is)

  any : both (R.word ∷ some_more.words) ≡ Ok (some_more.value, [])
  any = past R.word some_more.words R.value R.is ∙ some_more.some

  stops_at : (w : List ℕ) (ws : List (List ℕ)) (o : Option A) (n : ℕ) → read w ≡ o → both (w ∷ ws) ≡ Err n → Stop both (w ∷ ws) n
  stops_at w ws None n r e = record {
    front = [];
    rest = w ∷ ws;
    parts = refl;
    left = let z = sym (before w ws r) ∙ e in cc;
    value = some_more.value;
    more = R.word ∷ some_more.words;
    good = any;
    again = λ x others after is. let same : w ≡ x = cc in before x after (ap read (sym same) ∙ r);
  }
  stops_at w ws (Some a) n r e =
      let s = (Q a (has w a r)).stops ws n (sym (past w ws a r) ∙ e)
      in record {
        front = w ∷ s.front;
        rest = s.rest;
        parts = ap (λ t. w ∷ t) s.parts;
        left = s.left;
        value = s.value;
        more = s.more;
        good = past w (s.front ++ s.more) a r ∙ s.good;
        again = λ x others after is. past w (s.front ++ x ∷ after) a r ∙ s.again x others after is;
      }

  stops : (ws : List (List ℕ)) (n : ℕ) → both ws ≡ Err n → Stop both ws n
  stops [] n e = record {
    front = [];
    rest = [];
    parts = refl;
    left = cc;
    value = some_more.value;
    more = R.word ∷ some_more.words;
    good = any;
    again = λ x others after is. absurd cc;
  }
  stops (w ∷ ws) n e = stops_at w ws (read w) n refl e

  pub word_then_if : Stopping (λ ws. word_at read ws >>= λ x. q x.0 x.1)
  word_then_if = record { value = some_more.value; words = R.word ∷ some_more.words; some = any; stops = stops }

pub word_then : {A B : Type 0} (read : List ℕ → Option A) (q : A → List (List ℕ) → Parsed B) → Reading read → ((a : A) → Stopping (q a))
    → Stopping (λ ws. word_at read ws >>= λ x. q x.0 x.1)
word_then {A = A} read q R Q = word_then_if read q R (λ a. Unit {0}) (λ w a e. tt) (λ a u. Q a)

-- ---- no more words

pub over : {A : Type 0} (a : A) → Stopping (ending a)
over a = record {
  value = a;
  words = [];
  some = refl;
  stops = stops;
}
  where
    stops : (ws : List (List ℕ)) (n : ℕ) → ending a ws ≡ Err n → Stop (ending a) ws n
    stops [] n e = absurd cc
    stops (w ∷ ws) n e = record {
      front = [];
      rest = w ∷ ws;
      parts = refl;
      left = cc;
      value = a;
      more = [];
      good = refl;
      again = λ x others after is. refl;
    }

-- ---- perhaps no more words

module _ {A : Type 0} (a : A) (p : List (List ℕ) → Parsed A) (P : Stopping p) where
  same_more : (front : List (List ℕ)) (x : List ℕ) (after : List (List ℕ)) → or_end a p (front ++ x ∷ after) ≡ p (front ++ x ∷ after)
  same_more [] x after = refl
  same_more (w ∷ front) x after = refl

  -- what is read behind some words: nothing more, or what p reads
  good_more : (ws : List (List ℕ)) (b : A) → p ws ≡ Ok (b, []) → (c : A) × (or_end a p ws ≡ Ok (c, []))
  good_more [] b e = (a, refl)
  good_more (w ∷ ws) b e = (b, e)

  or_stops : (ws : List (List ℕ)) (n : ℕ) → or_end a p ws ≡ Err n → Stop (or_end a p) ws n
  or_stops [] n e = absurd cc
  or_stops (w ∷ ws) n e =
      let s = P.stops (w ∷ ws) n e
      in let g = good_more (s.front ++ s.more) s.value s.good
      in record {
        front = s.front;
        rest = s.rest;
        parts = s.parts;
        left = s.left;
        value = g.0;
        more = s.more;
        good = g.1;
        again = λ x others after is. same_more s.front x after ∙ s.again x others after is;
      }

  pub or_over : Stopping (or_end a p)
  or_over = record { value = a; words = []; some = refl; stops = or_stops }

-- ---- a value made of another

module _ {A B : Type 0} (f : A → B) (p : List (List ℕ) → Parsed A) (P : Stopping p) where
  abbrev making : List (List ℕ) → Parsed B
  making ws = p ws >>= λ x. Ok (f x.0, x.1)

  made : (ws : List (List ℕ)) (r : Parsed A) → p ws ≡ r → making ws ≡ (r >>= λ x. Ok (f x.0, x.1))
  made ws r e = ap (λ (t : Parsed A). t >>= λ x. Ok (f x.0, x.1)) e

  made_stops_at : (ws : List (List ℕ)) (r : Parsed A) (n : ℕ) → p ws ≡ r → making ws ≡ Err n → Stop making ws n
  made_stops_at ws (Ok x) n r e = absurd (let z = sym (made ws (Ok x) r) ∙ e in cc)
  made_stops_at ws (Err m) n r e =
      let s = P.stops ws m r
      in record {
        front = s.front;
        rest = s.rest;
        parts = s.parts;
        left = let z = sym (made ws (Err m) r) ∙ e in let y : m ≡ n = cc in sym y ∙ s.left;
        value = f s.value;
        more = s.more;
        good = made (s.front ++ s.more) (Ok (s.value, [])) s.good;
        again = λ x others after is. made (s.front ++ x ∷ after) (Err (length (joined (x ∷ after)))) (s.again x others after is);
      }

  pub making_stops : Stopping (λ ws. p ws >>= λ x. Ok (f x.0, x.1))
  making_stops = record {
    value = f P.value;
    words = P.words;
    some = made P.words (Ok (P.value, [])) P.some;
    stops = λ ws n e. made_stops_at ws (p ws) n refl e;
  }

-- ---- a locator, and more

module _ {B : Type 0} (q : Locator → List (List ℕ) → Parsed B) (Q : (l : Locator) → Stopping (q l)) where
  abbrev joint : List (List ℕ) → Parsed B
  joint ws = locator_at ws >>= λ x. q x.0 x.1

  -- behind the words of a locator, and where they aren't a locator's
  behind : (ws : List (List ℕ)) (l : Locator) (rest : List (List ℕ)) → locator_at ws ≡ Ok (l, rest) → joint ws ≡ q l rest
  behind ws l rest e = ap (λ (r : Parsed Locator). r >>= λ x. q x.0 x.1) e

  stuck : (ws : List (List ℕ)) (n : ℕ) → locator_at ws ≡ Err n → joint ws ≡ Err n
  stuck ws n e = ap (λ (r : Parsed Locator). r >>= λ x. q x.0 x.1) e

  -- a locator's words, and what is read behind them
  found : (l : Locator) (ws : List (List ℕ)) → LocatorWords l ws → joint (ws ++ (Q l).words) ≡ Ok ((Q l).value, [])
  found l ws is =
      behind (ws ++ (Q l).words) l ((Q l).words) (ap (λ t. locator_at (t ++ (Q l).words)) is.spelled ∙ locators_read.found l ((Q l).words) is.ranges)
      ∙ (Q l).some

  joint_stops_at : (ws : List (List ℕ)) (r : Parsed Locator) (n : ℕ) → locator_at ws ≡ r → joint ws ≡ Err n → Stop joint ws n
  joint_stops_at ws (Err m) n r e =
      let s = (locator_lawful (suc (length ws))).stops ws m (omega arith) r
      in record {
        front = s.front;
        rest = s.rest;
        parts = s.parts;
        left = let z = sym (stuck ws m r) ∙ e in let y : m ≡ n = cc in sym y ∙ s.left;
        value = (Q s.value).value;
        more = s.more ++ (Q s.value).words;
        good = ap joint (sym (append_assoc s.front s.more ((Q s.value).words))) ∙ found s.value (s.front ++ s.more) s.begun;
        again = λ x others after is. stuck (s.front ++ x ∷ after) (length (joined (x ∷ after))) (s.again x others after is);
      }
  joint_stops_at ws (Ok y) n r e =
      let g = locators_read.only ws y.0 y.1 r
      in let s = (Q y.0).stops y.1 n (sym (behind ws y.0 y.1 r) ∙ e)
      in let words : List (List ℕ) = locator_words y.0
      in let goes : (others : List (List ℕ)) → joint ((words ++ s.front) ++ others) ≡ q y.0 (s.front ++ others)
      = λ others.
      ap joint (append_assoc words s.front others)
      ∙ behind (words ++ (s.front ++ others)) y.0 (s.front ++ others) (locators_read.found y.0 (s.front ++ others) g.1)
      in record {
        front = words ++ s.front;
        rest = s.rest;
        parts = g.0 ∙ ap (λ t. words ++ t) s.parts ∙ sym (append_assoc words s.front s.rest);
        left = s.left;
        value = s.value;
        more = s.more;
        good = goes s.more ∙ s.good;
        again = λ x others after is. goes (x ∷ after) ∙ s.again x others after is;
      }

  pub locator_then : Stopping (λ ws. locator_at ws >>= λ x. q x.0 x.1)
  locator_then = record {
    value = (Q any).value;
    words = locator_words any ++ (Q any).words;
    some = found any (locator_words any) (record { ranges = any_is; spelled = refl });
    stops = λ ws n e. joint_stops_at ws (locator_at ws) n refl e;
  }
    where
      any : Locator
      any = V4 0 Tcp 0

      any_is : IsLocator any
      any_is = (omega arith, omega arith)
