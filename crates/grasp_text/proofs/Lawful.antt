-- What makes reading from left to right exact: it finds what is there, it finds nothing else, and where it stops, the words
-- before that word can go on, and with it they can't.
use Rattle.std.proofs.Common.{◌≡◌, ℕ, suc, ◌<◌, ◌≤◌, ◌⊎◌, inl, inr, Bool, true, false, cond, List, [], ◌∷◌, ◌++◌, length, Option, Some, None, Ok, Err, refl, sym, ap, subst, ◌∙◌, append_assoc, arith, length-append}
use Rattle.grasp_text.specs.Reading.{Parsed, ◌>>=◌, or_unfit, word_at, end_at, or_end, branch}
use Rattle.grasp_text.specs.Words.{joined}

-- what stands behind where a reader ends: anything, or nothing
abbrev pub Anything : List (List ℕ) → Type 0
Anything rest = Unit {0}

abbrev pub Nothing : List (List ℕ) → Type 0
Nothing rest = rest ≡ []

-- a reader stopped: the words before can go on, and with the next word it stops whatever follows
pub record Stops {A : Type 0} (L : A → List (List ℕ) → Type 0) (p : List (List ℕ) → Parsed A) (ws : List (List ℕ)) (n : ℕ) : Type 0 where
  pub front : List (List ℕ)
  pub rest : List (List ℕ)
  pub parts : ws ≡ front ++ rest
  pub left : n ≡ length (joined rest)
  pub value : A
  pub more : List (List ℕ)
  pub begun : L value (front ++ more)
  pub again : (x : List ℕ) (others after : List (List ℕ)) → rest ≡ x ∷ others → p (front ++ x ∷ after) ≡ Err (length (joined (x ∷ after)))

-- a reader of a language, on fewer than k words, where F may stand behind it
pub record Lawful {A : Type 0} (k : ℕ) (F : List (List ℕ) → Type 0) (L : A → List (List ℕ) → Type 0) (p : List (List ℕ) → Parsed A) : Type 0 where
  pub value : A
  pub words : List (List ℕ)
  pub some : L value words
  pub found : (a : A) (front rest : List (List ℕ)) → L a front → F rest → length (front ++ rest) < k → p (front ++ rest) ≡ Ok (a, rest)
  pub only : (ws : List (List ℕ)) (a : A) (rest : List (List ℕ)) → length ws < k → p ws ≡ Ok (a, rest) → F rest × (front : List (List ℕ)) × L a front × (ws ≡ front ++ rest)
  pub stops : (ws : List (List ℕ)) (n : ℕ) → length ws < k → p ws ≡ Err n → Stops L p ws n

-- one word, and then what its value leads to
pub record WordThen {A B : Type 0} (Is : A → List ℕ → Type 0) (L : A → B → List (List ℕ) → Type 0) (b : B) (ws : List (List ℕ)) : Type 0 where
  pub first : A
  pub word : List ℕ
  pub rest : List (List ℕ)
  pub is : Is first word
  pub others : L first b rest
  pub parts : ws ≡ word ∷ rest

-- some words, and then what their value leads to
pub record Then {A B : Type 0} (L1 : A → List (List ℕ) → Type 0) (L2 : A → B → List (List ℕ) → Type 0) (b : B) (ws : List (List ℕ)) : Type 0 where
  pub first : A
  pub front : List (List ℕ)
  pub rest : List (List ℕ)
  pub is : L1 first front
  pub others : L2 first b rest
  pub parts : ws ≡ front ++ rest

-- a word's value is read where it is one, and nowhere else
pub record Exact {A : Type 0} (Is : A → List ℕ → Type 0) (read : List ℕ → Option A) : Type 0 where
  pub value : A
  pub word : List ℕ
  pub some : Is value word
  pub found : (a : A) (w : List ℕ) → Is a w → read w ≡ Some a
  pub only : (w : List ℕ) (a : A) → read w ≡ Some a → Is a w

abbrev pub okay : {A : Type 0} → A × List (List ℕ) → Parsed A
okay x = Ok x

pub ok_is : {A : Type 0} (x y : A × List (List ℕ)) → okay x ≡ okay y → x ≡ y
ok_is x y e = cc

-- ---- one word, and more

module _ {A B : Type 0} (k : ℕ) (F : List (List ℕ) → Type 0) (Is : A → List ℕ → Type 0) (L : A → B → List (List ℕ) → Type 0) (read : List ℕ → Option A) (q : A → List (List ℕ) → Parsed B) (E : Exact Is read) (Q : (a : A) → Lawful k F (L a) (q a)) where
  abbrev both : List (List ℕ) → Parsed B
  both ws = word_at read ws >>= λ x. q x.0 x.1

  -- behind a word with this value
  behind : (w : List ℕ) (ws : List (List ℕ)) (a : A) → read w ≡ Some a → both (w ∷ ws) ≡ q a ws
  behind w ws a e = ap (λ (o : Option A). or_unfit ws (length (joined (w ∷ ws))) o >>= λ x. q x.0 x.1) e

  -- before a word without a value
  before : (w : List ℕ) (ws : List (List ℕ)) → read w ≡ None → both (w ∷ ws) ≡ Err (length (joined (w ∷ ws)))
  before w ws e = ap (λ (o : Option A). or_unfit ws (length (joined (w ∷ ws))) o >>= λ x. q x.0 x.1) e

  found : (b : B) (front rest : List (List ℕ)) → WordThen Is L b front → F rest → length (front ++ rest) < suc k → both (front ++ rest) ≡ Ok (b, rest)
  found b front rest t f lt =
      let e : front ++ rest ≡ t.word ∷ (t.rest ++ rest) = ap (λ (x : List (List ℕ)). x ++ rest) t.parts in
      let le : length (t.rest ++ rest) < k = omega (arith, ap length e) in
      ap both e ∙ behind t.word (t.rest ++ rest) t.first (E.found t.first t.word t.is) ∙ (Q t.first).found b t.rest rest t.others f le

  only_at : (w : List ℕ) (ws : List (List ℕ)) (o : Option A) (b : B) (rest : List (List ℕ)) → read w ≡ o → length (w ∷ ws) < suc k → both (w ∷ ws) ≡ Ok (b, rest) → F rest × (front : List (List ℕ)) × WordThen Is L b front × (w ∷ ws ≡ front ++ rest)
  only_at w ws None b rest r lt e = absurd (let z = sym (before w ws r) ∙ e in cc)
  only_at w ws (Some a) b rest r lt e =
      let h = (Q a).only ws b rest (omega arith) (sym (behind w ws a r) ∙ e) in
      (h.0, w ∷ h.1, record { first = a; word = w; rest = h.1; is = E.only w a r; others = h.2; parts = refl }, ap (λ (x : List (List ℕ)). w ∷ x) h.3)

  only : (ws : List (List ℕ)) (b : B) (rest : List (List ℕ)) → length ws < suc k → both ws ≡ Ok (b, rest) → F rest × (front : List (List ℕ)) × WordThen Is L b front × (ws ≡ front ++ rest)
  only [] b rest lt e = absurd cc
  only (w ∷ ws) b rest lt e = only_at w ws (read w) b rest refl lt e

  stops_at : (w : List ℕ) (ws : List (List ℕ)) (o : Option A) (n : ℕ) → read w ≡ o → length (w ∷ ws) < suc k → both (w ∷ ws) ≡ Err n → Stops (WordThen Is L) both (w ∷ ws) n
  stops_at w ws None n r lt e = record {
    front = [];
    rest = w ∷ ws;
    parts = refl;
    left = let z = sym (before w ws r) ∙ e in cc;
    value = (Q E.value).value;
    more = E.word ∷ (Q E.value).words;
    begun = record { first = E.value; word = E.word; rest = (Q E.value).words; is = E.some; others = (Q E.value).some; parts = refl };
    again = λ x others after is. let same : w ≡ x = cc in before x after (ap read (sym same) ∙ r);
  }
  stops_at w ws (Some a) n r lt e =
      let s = (Q a).stops ws n (omega arith) (sym (behind w ws a r) ∙ e) in
      record {
        front = w ∷ s.front;
        rest = s.rest;
        parts = ap (λ (x : List (List ℕ)). w ∷ x) s.parts;
        left = s.left;
        value = s.value;
        more = s.more;
        begun = record { first = a; word = w; rest = s.front ++ s.more; is = E.only w a r; others = s.begun; parts = refl };
        again = λ x others after is. behind w (s.front ++ x ∷ after) a r ∙ s.again x others after is;
      }

  stops : (ws : List (List ℕ)) (n : ℕ) → length ws < suc k → both ws ≡ Err n → Stops (WordThen Is L) both ws n
  stops [] n lt e = record {
    front = [];
    rest = [];
    parts = refl;
    left = cc;
    value = (Q E.value).value;
    more = E.word ∷ (Q E.value).words;
    begun = record { first = E.value; word = E.word; rest = (Q E.value).words; is = E.some; others = (Q E.value).some; parts = refl };
    again = λ x others after is. absurd cc;
  }
  stops (w ∷ ws) n lt e = stops_at w ws (read w) n refl lt e

  pub word_then : Lawful (suc k) F (WordThen Is L) (λ ws. word_at read ws >>= λ x. q x.0 x.1)
  word_then = record {
    value = (Q E.value).value;
    words = E.word ∷ (Q E.value).words;
    some = record { first = E.value; word = E.word; rest = (Q E.value).words; is = E.some; others = (Q E.value).some; parts = refl };
    found = found;
    only = only;
    stops = stops;
  }

-- ---- no more words

-- the value is this one, and there are no words
pub record Only {B : Type 0} (b c : B) (ws : List (List ℕ)) : Type 0 where
  pub value : c ≡ b
  pub words : ws ≡ []

module _ {B : Type 0} (k : ℕ) (b : B) where
  given_found : (c : B) (front rest : List (List ℕ)) → Only b c front → Anything rest → length (front ++ rest) < k → okay (b, front ++ rest) ≡ Ok (c, rest)
  given_found c front rest o f lt = ap (λ (x : List (List ℕ)). okay (b, x ++ rest)) o.words ∙ ap (λ (x : B). okay (x, rest)) (sym o.value)

  given_only : (ws : List (List ℕ)) (c : B) (rest : List (List ℕ)) → length ws < k → okay (b, ws) ≡ Ok (c, rest) → Anything rest × (front : List (List ℕ)) × Only b c front × (ws ≡ front ++ rest)
  given_only ws c rest lt e =
      let pair : (b, ws) ≡ (c, rest) = ok_is (b, ws) (c, rest) e in
      (tt, [], record { value = sym (ap (λ (x : B × List (List ℕ)). x.0) pair); words = refl }, ap (λ (x : B × List (List ℕ)). x.1) pair)

  given_stops : (ws : List (List ℕ)) (n : ℕ) → length ws < k → okay (b, ws) ≡ Err n → Stops (Only b) (λ ws. Ok (b, ws)) ws n
  given_stops ws n lt e = absurd cc

  pub given_lawful : Lawful k Anything (Only b) (λ ws. Ok (b, ws))
  given_lawful = record {
    value = b;
    words = [];
    some = record { value = refl; words = refl };
    found = given_found;
    only = given_only;
    stops = given_stops;
  }

  end_found : (c : B) (front rest : List (List ℕ)) → Only b c front → Nothing rest → length (front ++ rest) < k → end_at b (front ++ rest) ≡ Ok (c, rest)
  end_found c [] [] o f lt = ap (λ (x : B). okay (x, [])) (sym o.value)
  end_found c [] (w ∷ ws) o f lt = absurd (let z = f in cc)
  end_found c (w ∷ ws) rest o f lt = absurd (let z = o.words in cc)

  end_only : (ws : List (List ℕ)) (c : B) (rest : List (List ℕ)) → length ws < k → end_at b ws ≡ Ok (c, rest) → Nothing rest × (front : List (List ℕ)) × Only b c front × (ws ≡ front ++ rest)
  end_only [] c rest lt e =
      let pair : (b, []) ≡ (c, rest) = ok_is (b, []) (c, rest) e in
      (sym (ap (λ (x : B × List (List ℕ)). x.1) pair), [], record { value = sym (ap (λ (x : B × List (List ℕ)). x.0) pair); words = refl }, ap (λ (x : B × List (List ℕ)). x.1) pair)
  end_only (w ∷ ws) c rest lt e = absurd cc

  end_stops : (ws : List (List ℕ)) (n : ℕ) → length ws < k → end_at b ws ≡ Err n → Stops (Only b) (end_at b) ws n
  end_stops [] n lt e = absurd cc
  end_stops (w ∷ ws) n lt e = record {
    front = [];
    rest = w ∷ ws;
    parts = refl;
    left = cc;
    value = b;
    more = [];
    begun = record { value = refl; words = refl };
    again = λ x others after is. refl;
  }

  pub end_lawful : Lawful k Nothing (Only b) (end_at b)
  end_lawful = record {
    value = b;
    words = [];
    some = record { value = refl; words = refl };
    found = end_found;
    only = end_only;
    stops = end_stops;
  }

-- ---- perhaps no more words

module _ {B : Type 0} (k : ℕ) (b : B) (L : B → List (List ℕ) → Type 0) (p : List (List ℕ) → Parsed B) (P : Lawful k Nothing L p) (takes : (c : B) → ¬ (L c [])) where
  abbrev pub OrEnd : B → List (List ℕ) → Type 0
  OrEnd c ws = Only b c ws ⊎ L c ws

  same_more : (front : List (List ℕ)) (x : List ℕ) (after : List (List ℕ)) → or_end b p (front ++ x ∷ after) ≡ p (front ++ x ∷ after)
  same_more [] x after = refl
  same_more (w ∷ front) x after = refl

  or_found : (c : B) (front rest : List (List ℕ)) → OrEnd c front → Nothing rest → length (front ++ rest) < k → or_end b p (front ++ rest) ≡ Ok (c, rest)
  or_found c [] [] (inl o) f lt = ap (λ (x : B). okay (x, [])) (sym o.value)
  or_found c [] (w ∷ rest) (inl o) f lt = absurd (let z = f in cc)
  or_found c (w ∷ front) rest (inl o) f lt = absurd (let z = o.words in cc)
  or_found c [] rest (inr l) f lt = absurd (takes c l)
  or_found c (w ∷ front) rest (inr l) f lt = P.found c (w ∷ front) rest l f lt

  or_only : (ws : List (List ℕ)) (c : B) (rest : List (List ℕ)) → length ws < k → or_end b p ws ≡ Ok (c, rest) → Nothing rest × (front : List (List ℕ)) × OrEnd c front × (ws ≡ front ++ rest)
  or_only [] c rest lt e =
      let pair : (b, []) ≡ (c, rest) = ok_is (b, []) (c, rest) e in
      (sym (ap (λ (x : B × List (List ℕ)). x.1) pair), [], inl (record { value = sym (ap (λ (x : B × List (List ℕ)). x.0) pair); words = refl }), ap (λ (x : B × List (List ℕ)). x.1) pair)
  or_only (w ∷ ws) c rest lt e = let h = P.only (w ∷ ws) c rest lt e in (h.0, h.1, inr h.2, h.3)

  or_stops : (ws : List (List ℕ)) (n : ℕ) → length ws < k → or_end b p ws ≡ Err n → Stops OrEnd (or_end b p) ws n
  or_stops [] n lt e = absurd cc
  or_stops (w ∷ ws) n lt e =
      let s = P.stops (w ∷ ws) n lt e in
      record {
        front = s.front;
        rest = s.rest;
        parts = s.parts;
        left = s.left;
        value = s.value;
        more = s.more;
        begun = inr s.begun;
        again = λ x others after is. same_more s.front x after ∙ s.again x others after is;
      }

  pub or_end_lawful : Lawful k Nothing OrEnd (or_end b p)
  or_end_lawful = record {
    value = b;
    words = [];
    some = inl (record { value = refl; words = refl });
    found = or_found;
    only = or_only;
    stops = or_stops;
  }

-- ---- one of two, by the next word

-- the words begin with one of which the test says so
pub record Starts (test : List ℕ → Bool) (answer : Bool) (ws : List (List ℕ)) : Type 0 where
  pub word : List ℕ
  pub others : List (List ℕ)
  pub parts : ws ≡ word ∷ others
  pub says : test word ≡ answer

module _ {B : Type 0} (k : ℕ) (F : List (List ℕ) → Type 0) (test : List ℕ → Bool) (L1 L2 : B → List (List ℕ) → Type 0) (p q : List (List ℕ) → Parsed B) (P : Lawful k F L1 p) (Q : Lawful k F L2 q) (one : (c : B) (ws : List (List ℕ)) → L1 c ws → Starts test true ws) (other : (c : B) (ws : List (List ℕ)) → L2 c ws → Starts test false ws) where
  abbrev pub Either : B → List (List ℕ) → Type 0
  Either c ws = L1 c ws ⊎ L2 c ws

  to_yes : (w : List ℕ) (ws : List (List ℕ)) → test w ≡ true → branch test p q (w ∷ ws) ≡ p (w ∷ ws)
  to_yes w ws e = ap (λ (b : Bool). cond b (p (w ∷ ws)) (q (w ∷ ws))) e

  to_no : (w : List ℕ) (ws : List (List ℕ)) → test w ≡ false → branch test p q (w ∷ ws) ≡ q (w ∷ ws)
  to_no w ws e = ap (λ (b : Bool). cond b (p (w ∷ ws)) (q (w ∷ ws))) e

  either_found : (c : B) (front rest : List (List ℕ)) → Either c front → F rest → length (front ++ rest) < k → branch test p q (front ++ rest) ≡ Ok (c, rest)
  either_found c front rest (inl l) f lt =
      let s = one c front l in
      let e : front ++ rest ≡ s.word ∷ (s.others ++ rest) = ap (λ (x : List (List ℕ)). x ++ rest) s.parts in
      ap (branch test p q) e ∙ to_yes s.word (s.others ++ rest) s.says ∙ ap p (sym e) ∙ P.found c front rest l f lt
  either_found c front rest (inr l) f lt =
      let s = other c front l in
      let e : front ++ rest ≡ s.word ∷ (s.others ++ rest) = ap (λ (x : List (List ℕ)). x ++ rest) s.parts in
      ap (branch test p q) e ∙ to_no s.word (s.others ++ rest) s.says ∙ ap q (sym e) ∙ Q.found c front rest l f lt

  either_only_at : (w : List ℕ) (ws : List (List ℕ)) (b : Bool) (c : B) (rest : List (List ℕ)) → test w ≡ b → length (w ∷ ws) < k → branch test p q (w ∷ ws) ≡ Ok (c, rest) → F rest × (front : List (List ℕ)) × Either c front × (w ∷ ws ≡ front ++ rest)
  either_only_at w ws true c rest t lt e = let h = P.only (w ∷ ws) c rest lt (sym (to_yes w ws t) ∙ e) in (h.0, h.1, inl h.2, h.3)
  either_only_at w ws false c rest t lt e = let h = Q.only (w ∷ ws) c rest lt (sym (to_no w ws t) ∙ e) in (h.0, h.1, inr h.2, h.3)

  either_only : (ws : List (List ℕ)) (c : B) (rest : List (List ℕ)) → length ws < k → branch test p q ws ≡ Ok (c, rest) → F rest × (front : List (List ℕ)) × Either c front × (ws ≡ front ++ rest)
  either_only [] c rest lt e = absurd cc
  either_only (w ∷ ws) c rest lt e = either_only_at w ws (test w) c rest refl lt e

  -- with the same first word the same reader goes on
  still_yes : (w : List ℕ) (ws front : List (List ℕ)) (x : List ℕ) (others after : List (List ℕ)) → test w ≡ true → w ∷ ws ≡ front ++ x ∷ others → branch test p q (front ++ x ∷ after) ≡ p (front ++ x ∷ after)
  still_yes w ws [] x others after t e = let same : w ≡ x = cc in to_yes x after (ap test (sym same) ∙ t)
  still_yes w ws (y ∷ front) x others after t e = let same : w ≡ y = cc in to_yes y (front ++ x ∷ after) (ap test (sym same) ∙ t)

  still_no : (w : List ℕ) (ws front : List (List ℕ)) (x : List ℕ) (others after : List (List ℕ)) → test w ≡ false → w ∷ ws ≡ front ++ x ∷ others → branch test p q (front ++ x ∷ after) ≡ q (front ++ x ∷ after)
  still_no w ws [] x others after t e = let same : w ≡ x = cc in to_no x after (ap test (sym same) ∙ t)
  still_no w ws (y ∷ front) x others after t e = let same : w ≡ y = cc in to_no y (front ++ x ∷ after) (ap test (sym same) ∙ t)

  either_stops_at : (w : List ℕ) (ws : List (List ℕ)) (b : Bool) (n : ℕ) → test w ≡ b → length (w ∷ ws) < k → branch test p q (w ∷ ws) ≡ Err n → Stops Either (branch test p q) (w ∷ ws) n
  either_stops_at w ws true n t lt e =
      let s = P.stops (w ∷ ws) n lt (sym (to_yes w ws t) ∙ e) in
      record {
        front = s.front;
        rest = s.rest;
        parts = s.parts;
        left = s.left;
        value = s.value;
        more = s.more;
        begun = inl s.begun;
        again = λ x others after is. still_yes w ws s.front x others after t (s.parts ∙ ap (λ (y : List (List ℕ)). s.front ++ y) is) ∙ s.again x others after is;
      }
  either_stops_at w ws false n t lt e =
      let s = Q.stops (w ∷ ws) n lt (sym (to_no w ws t) ∙ e) in
      record {
        front = s.front;
        rest = s.rest;
        parts = s.parts;
        left = s.left;
        value = s.value;
        more = s.more;
        begun = inr s.begun;
        again = λ x others after is. still_no w ws s.front x others after t (s.parts ∙ ap (λ (y : List (List ℕ)). s.front ++ y) is) ∙ s.again x others after is;
      }

  either_stops : (ws : List (List ℕ)) (n : ℕ) → length ws < k → branch test p q ws ≡ Err n → Stops Either (branch test p q) ws n
  either_stops [] n lt e = record {
    front = [];
    rest = [];
    parts = refl;
    left = cc;
    value = P.value;
    more = P.words;
    begun = inl P.some;
    again = λ x others after is. absurd cc;
  }
  either_stops (w ∷ ws) n lt e = either_stops_at w ws (test w) n refl lt e

  pub branch_lawful : Lawful k F Either (branch test p q)
  branch_lawful = record {
    value = P.value;
    words = P.words;
    some = inl P.some;
    found = either_found;
    only = either_only;
    stops = either_stops;
  }

-- ---- some words, and more

module _ {A B : Type 0} (k : ℕ) (F : List (List ℕ) → Type 0) (L1 : A → List (List ℕ) → Type 0) (L2 : A → B → List (List ℕ) → Type 0) (p : List (List ℕ) → Parsed A) (q : A → List (List ℕ) → Parsed B) (P : (j : ℕ) → Lawful j Anything L1 p) (Q : (a : A) → Lawful k F (L2 a) (q a)) (takes : (a : A) → ¬ (L1 a [])) where
  abbrev joint : List (List ℕ) → Parsed B
  joint ws = p ws >>= λ x. q x.0 x.1

  -- behind the words of this value
  past : (ws : List (List ℕ)) (a : A) (rest : List (List ℕ)) → p ws ≡ Ok (a, rest) → joint ws ≡ q a rest
  past ws a rest e = ap (λ (r : Parsed A). r >>= λ x. q x.0 x.1) e

  stuck : (ws : List (List ℕ)) (n : ℕ) → p ws ≡ Err n → joint ws ≡ Err n
  stuck ws n e = ap (λ (r : Parsed A). r >>= λ x. q x.0 x.1) e

  one_taken : (a : A) (front : List (List ℕ)) → L1 a front → 1 ≤ length front
  one_taken a [] l = absurd (takes a l)
  one_taken a (w ∷ front) l = omega arith

  then_found : (b : B) (front rest : List (List ℕ)) → Then L1 L2 b front → F rest → length (front ++ rest) < suc k → joint (front ++ rest) ≡ Ok (b, rest)
  then_found b front rest t f lt =
      let e : front ++ rest ≡ t.front ++ (t.rest ++ rest) = ap (λ (x : List (List ℕ)). x ++ rest) t.parts ∙ append_assoc t.front t.rest rest in
      let le : length (t.front ++ (t.rest ++ rest)) < suc k = omega (arith, ap length e) in
      let one = one_taken t.first t.front t.is in
      let shorter : length (t.rest ++ rest) < k = omega (arith, length-append t.front (t.rest ++ rest)) in
      ap joint e ∙ past (t.front ++ (t.rest ++ rest)) t.first (t.rest ++ rest) ((P (suc k)).found t.first t.front (t.rest ++ rest) t.is tt le) ∙ (Q t.first).found b t.rest rest t.others f shorter

  then_only_at : (ws : List (List ℕ)) (r : Parsed A) (b : B) (rest : List (List ℕ)) → p ws ≡ r → length ws < suc k → joint ws ≡ Ok (b, rest) → F rest × (front : List (List ℕ)) × Then L1 L2 b front × (ws ≡ front ++ rest)
  then_only_at ws (Err n) b rest r lt e = absurd (let z = sym (stuck ws n r) ∙ e in cc)
  then_only_at ws (Ok x) b rest r lt e =
      let g = (P (suc k)).only ws x.0 x.1 lt r in
      let one = one_taken x.0 g.1 g.2 in
      let shorter : length x.1 < k = omega (arith, ap length g.3, length-append g.1 x.1) in
      let h = (Q x.0).only x.1 b rest shorter (sym (past ws x.0 x.1 r) ∙ e) in
      (h.0, g.1 ++ h.1, record { first = x.0; front = g.1; rest = h.1; is = g.2; others = h.2; parts = refl }, g.3 ∙ ap (λ (y : List (List ℕ)). g.1 ++ y) h.3 ∙ sym (append_assoc g.1 h.1 rest))

  then_stops_at : (ws : List (List ℕ)) (r : Parsed A) (n : ℕ) → p ws ≡ r → length ws < suc k → joint ws ≡ Err n → Stops (Then L1 L2) joint ws n
  then_stops_at ws (Err m) n r lt e =
      let s = (P (suc k)).stops ws m lt r in
      record {
        front = s.front;
        rest = s.rest;
        parts = s.parts;
        left = let z = sym (stuck ws m r) ∙ e in let y : m ≡ n = cc in sym y ∙ s.left;
        value = (Q s.value).value;
        more = s.more ++ (Q s.value).words;
        begun = record { first = s.value; front = s.front ++ s.more; rest = (Q s.value).words; is = s.begun; others = (Q s.value).some; parts = sym (append_assoc s.front s.more (Q s.value).words) };
        again = λ x others after is. stuck (s.front ++ x ∷ after) (length (joined (x ∷ after))) (s.again x others after is);
      }
  then_stops_at ws (Ok y) n r lt e =
      let g = (P (suc k)).only ws y.0 y.1 lt r in
      let one = one_taken y.0 g.1 g.2 in
      let shorter : length y.1 < k = omega (arith, ap length g.3, length-append g.1 y.1) in
      let s = (Q y.0).stops y.1 n shorter (sym (past ws y.0 y.1 r) ∙ e) in
      record {
        front = g.1 ++ s.front;
        rest = s.rest;
        parts = g.3 ∙ ap (λ (z : List (List ℕ)). g.1 ++ z) s.parts ∙ sym (append_assoc g.1 s.front s.rest);
        left = s.left;
        value = s.value;
        more = s.more;
        begun = record { first = y.0; front = g.1; rest = s.front ++ s.more; is = g.2; others = s.begun; parts = append_assoc g.1 s.front s.more };
        again = λ x others after is.
            let whole : (g.1 ++ s.front) ++ x ∷ after ≡ g.1 ++ (s.front ++ x ∷ after) = append_assoc g.1 s.front (x ∷ after) in
            ap joint whole ∙ past (g.1 ++ (s.front ++ x ∷ after)) y.0 (s.front ++ x ∷ after) ((P (suc (length (g.1 ++ (s.front ++ x ∷ after))))).found y.0 g.1 (s.front ++ x ∷ after) g.2 tt (omega arith)) ∙ s.again x others after is;
      }

  pub then_lawful : Lawful (suc k) F (Then L1 L2) (λ ws. p ws >>= λ x. q x.0 x.1)
  then_lawful = record {
    value = (Q (P 0).value).value;
    words = (P 0).words ++ (Q (P 0).value).words;
    some = record { first = (P 0).value; front = (P 0).words; rest = (Q (P 0).value).words; is = (P 0).some; others = (Q (P 0).value).some; parts = refl };
    found = then_found;
    only = λ ws b rest lt e. then_only_at ws (p ws) b rest refl lt e;
    stops = λ ws n lt e. then_stops_at ws (p ws) n refl lt e;
  }

-- ---- the same reader

-- on fewer words
module _ {A : Type 0} (k : ℕ) (F : List (List ℕ) → Type 0) (L : A → List (List ℕ) → Type 0) (p : List (List ℕ) → Parsed A) (P : Lawful (suc k) F L p) where
  pub fewer : Lawful k F L p
  fewer = record {
    value = P.value;
    words = P.words;
    some = P.some;
    found = λ a front rest l f lt. P.found a front rest l f (omega arith);
    only = λ ws a rest lt e. P.only ws a rest (omega arith) e;
    stops = λ ws n lt e.
        let s = P.stops ws n (omega arith) e in
        record { front = s.front; rest = s.rest; parts = s.parts; left = s.left; value = s.value; more = s.more; begun = s.begun; again = λ x others after is. s.again x others after is };
  }

-- of the same language, in other words
module _ {A : Type 0} (k : ℕ) (F : List (List ℕ) → Type 0) (L M : A → List (List ℕ) → Type 0) (p : List (List ℕ) → Parsed A) (P : Lawful k F L p) (to : (a : A) (ws : List (List ℕ)) → L a ws → M a ws) (from : (a : A) (ws : List (List ℕ)) → M a ws → L a ws) where
  pub restated : Lawful k F M p
  restated = record {
    value = P.value;
    words = P.words;
    some = to P.value P.words P.some;
    found = λ a front rest m f lt. P.found a front rest (from a front m) f lt;
    only = λ ws a rest lt e. let h = P.only ws a rest lt e in (h.0, h.1, to a h.1 h.2, h.3);
    stops = λ ws n lt e.
        let s = P.stops ws n lt e in
        record { front = s.front; rest = s.rest; parts = s.parts; left = s.left; value = s.value; more = s.more; begun = to s.value (s.front ++ s.more) s.begun; again = s.again };
  }

-- a function that is equal to it
module _ {A : Type 0} (k : ℕ) (F : List (List ℕ) → Type 0) (L : A → List (List ℕ) → Type 0) (p q : List (List ℕ) → Parsed A) (P : Lawful k F L p) (same : (ws : List (List ℕ)) → q ws ≡ p ws) where
  pub rewritten : Lawful k F L q
  rewritten = record {
    value = P.value;
    words = P.words;
    some = P.some;
    found = λ a front rest l f lt. same (front ++ rest) ∙ P.found a front rest l f lt;
    only = λ ws a rest lt e. P.only ws a rest lt (sym (same ws) ∙ e);
    stops = λ ws n lt e.
        let s = P.stops ws n lt (sym (same ws) ∙ e) in
        record { front = s.front; rest = s.rest; parts = s.parts; left = s.left; value = s.value; more = s.more; begun = s.begun; again = λ x others after is. same (s.front ++ x ∷ after) ∙ s.again x others after is };
  }

-- on no words
module _ {A : Type 0} (F : List (List ℕ) → Type 0) (L : A → List (List ℕ) → Type 0) (p : List (List ℕ) → Parsed A) (a : A) (ws : List (List ℕ)) (l : L a ws) where
  pub none_lawful : Lawful 0 F L p
  none_lawful = record {
    value = a;
    words = ws;
    some = l;
    found = λ a front rest l f lt. absurd (omega arith);
    only = λ ws a rest lt e. absurd (omega arith);
    stops = λ ws n lt e. absurd (omega arith);
  }

-- ---- on any number of words

module _ {A B : Type 0} (F : List (List ℕ) → Type 0) (Is : A → List ℕ → Type 0) (L : A → B → List (List ℕ) → Type 0) (read : List ℕ → Option A) (q : A → List (List ℕ) → Parsed B) (E : Exact Is read) (Q : (a : A) (k : ℕ) → Lawful k F (L a) (q a)) where
  pub word_then_all : (k : ℕ) → Lawful k F (WordThen Is L) (λ ws. word_at read ws >>= λ x. q x.0 x.1)
  word_then_all k = fewer k F (WordThen Is L) (λ ws. word_at read ws >>= λ x. q x.0 x.1) (word_then k F Is L read q E (λ a. Q a k))

module _ {A B : Type 0} (F : List (List ℕ) → Type 0) (L1 : A → List (List ℕ) → Type 0) (L2 : A → B → List (List ℕ) → Type 0) (p : List (List ℕ) → Parsed A) (q : A → List (List ℕ) → Parsed B) (P : (k : ℕ) → Lawful k Anything L1 p) (Q : (a : A) (k : ℕ) → Lawful k F (L2 a) (q a)) (takes : (a : A) → ¬ (L1 a [])) where
  pub then_all : (k : ℕ) → Lawful k F (Then L1 L2) (λ ws. p ws >>= λ x. q x.0 x.1)
  then_all k = fewer k F (Then L1 L2) (λ ws. p ws >>= λ x. q x.0 x.1) (then_lawful k F L1 L2 p q P (λ a. Q a k) takes)

-- ---- a value made of another

-- a value that f makes of one with these words
pub record Made {A B : Type 0} (f : A → B) (L : A → List (List ℕ) → Type 0) (b : B) (ws : List (List ℕ)) : Type 0 where
  pub from : A
  pub is : b ≡ f from
  pub words : L from ws

module _ {A B : Type 0} (k : ℕ) (F : List (List ℕ) → Type 0) (L : A → List (List ℕ) → Type 0) (p : List (List ℕ) → Parsed A) (f : A → B) (P : Lawful k F L p) where
  abbrev making : List (List ℕ) → Parsed B
  making ws = p ws >>= λ x. Ok (f x.0, x.1)

  made_ok : (ws : List (List ℕ)) (a : A) (rest : List (List ℕ)) → p ws ≡ Ok (a, rest) → making ws ≡ Ok (f a, rest)
  made_ok ws a rest e = ap (λ (r : Parsed A). r >>= λ x. Ok (f x.0, x.1)) e

  made_err : (ws : List (List ℕ)) (n : ℕ) → p ws ≡ Err n → making ws ≡ Err n
  made_err ws n e = ap (λ (r : Parsed A). r >>= λ x. Ok (f x.0, x.1)) e

  made_only_at : (ws : List (List ℕ)) (r : Parsed A) (b : B) (rest : List (List ℕ)) → p ws ≡ r → length ws < k → making ws ≡ Ok (b, rest) → F rest × (front : List (List ℕ)) × Made f L b front × (ws ≡ front ++ rest)
  made_only_at ws (Err n) b rest r lt e = absurd (let z = sym (made_err ws n r) ∙ e in cc)
  made_only_at ws (Ok x) b rest r lt e =
      let pair : (f x.0, x.1) ≡ (b, rest) = ok_is (f x.0, x.1) (b, rest) (sym (made_ok ws x.0 x.1 r) ∙ e) in
      let same : x.1 ≡ rest = ap (λ (y : B × List (List ℕ)). y.1) pair in
      let h = P.only ws x.0 x.1 lt r in
      (subst F same h.0, h.1, record { from = x.0; is = sym (ap (λ (y : B × List (List ℕ)). y.0) pair); words = h.2 }, h.3 ∙ ap (λ (y : List (List ℕ)). h.1 ++ y) same)

  made_stops_at : (ws : List (List ℕ)) (r : Parsed A) (n : ℕ) → p ws ≡ r → length ws < k → making ws ≡ Err n → Stops (Made f L) making ws n
  made_stops_at ws (Ok x) n r lt e = absurd (let z = sym (made_ok ws x.0 x.1 r) ∙ e in cc)
  made_stops_at ws (Err m) n r lt e =
      let s = P.stops ws m lt r in
      record {
        front = s.front;
        rest = s.rest;
        parts = s.parts;
        left = let z = sym (made_err ws m r) ∙ e in let y : m ≡ n = cc in sym y ∙ s.left;
        value = f s.value;
        more = s.more;
        begun = record { from = s.value; is = refl; words = s.begun };
        again = λ x others after is. made_err (s.front ++ x ∷ after) (length (joined (x ∷ after))) (s.again x others after is);
      }

  pub made_lawful : Lawful k F (Made f L) (λ ws. p ws >>= λ x. Ok (f x.0, x.1))
  made_lawful = record {
    value = f P.value;
    words = P.words;
    some = record { from = P.value; is = refl; words = P.some };
    found = λ b front rest m g lt. made_ok (front ++ rest) m.from rest (P.found m.from front rest m.words g lt) ∙ ap (λ (y : B). okay (y, rest)) (sym m.is);
    only = λ ws b rest lt e. made_only_at ws (p ws) b rest refl lt e;
    stops = λ ws n lt e. made_stops_at ws (p ws) n refl lt e;
  }
