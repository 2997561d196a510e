-- A line means one request at most, is read as it, and is refused where it goes wrong.
use Rattle.std.proofs.Common.{◌≡◌, ℕ, ◌+◌, ◌-◌, ◌≤◌, ◌⊎◌, inl, inr, List, [], ◌∷◌, ◌++◌, length, Ok, Err, refl, sym, ap, subst, ◌∙◌, append_assoc, length-append, arith}
use Rattle.grasp_text.specs.Readers.{Begins, StopsAt}
use Rattle.grasp_text.specs.Words.{words_of, joined}
use Rattle.grasp_text.proofs.Lawful.{ok_is}
use Rattle.grasp_text.proofs.Splitting.{joined_again}
use Rattle.grasp_control.specs.Grammar.{request_line_at}
use Rattle.grasp_control.specs.Laws.{RequestsMeanOneThing, RequestsGoWrongOnce}
use Rattle.grasp_control.specs.Places.{IsRequestPlace}
use Rattle.grasp_control.specs.Requests.{request_words, IsRequest, IsRequestLine, IsNoRequest}
use Rattle.grasp_control.specs.declared.request.Request.{Request}
use Rattle.grasp_control.proofs.RequestLaws.{request_only, request_found}
use Rattle.grasp_control.proofs.RequestStops.{line_stops}
use Rattle.grasp_control.proofs.Stopping.{Stop}
use Rattle.grasp_control.proofs.WholeWords.{request_line_words}

pub line_found : (line : List ℕ) (r : Request) → IsRequestLine line r → request_line_at (words_of line) ≡ Ok (r, [])
line_found line r is =
    ap (λ t. request_line_at (words_of t)) is.spelled ∙ ap request_line_at (request_line_words r is.ranges) ∙ request_found r is.ranges

pub line_only : (line : List ℕ) (r : Request) (left : List (List ℕ)) → request_line_at (words_of line) ≡ Ok (r, left) → IsRequestLine line r
line_only line r left e =
    let m = request_only (words_of line) (r, left) e
    in record { ranges = m.ranges; spelled = sym (joined_again line) ∙ ap joined m.spelled }

pub line_none : (line : List ℕ) (n : ℕ) → request_line_at (words_of line) ≡ Err n → IsNoRequest line
line_none line n e r is = let z = sym e ∙ line_found line r is in cc

pub line_one : RequestsMeanOneThing
line_one line a b p q = ap (λ (x : Request × List (List ℕ)). x.0) (ok_is (a, []) (b, []) (sym (line_found line a p) ∙ line_found line b q))

-- a request that was read is the only one
pub line_same : (line : List ℕ) (a : Request) (left : List (List ℕ)) → request_line_at (words_of line) ≡ Ok (a, left) → (b : Request) → IsRequestLine line b → a ≡ b
line_same line a left e b is = line_one line a b (line_only line a left e) is

-- ---- the place

abbrev Starts : List (List ℕ) → Type 0
Starts = Begins IsRequest request_words

-- what is left of a line is no longer than the line
longer : (front rest : List (List ℕ)) → length (joined rest) ≤ length (joined (front ++ rest))
longer [] rest = omega arith
longer (w ∷ front) rest = by (front ++ rest) (longer front rest)
  where
    by : (t : List (List ℕ)) → length (joined rest) ≤ length (joined t) → length (joined rest) ≤ length (joined (w ∷ t))
    by [] le = let none : length (joined rest) ≤ 0 = le in omega arith
    by (v ∷ t) le = omega (arith, length-append w (32 ∷ joined (v ∷ t)))

stop_place : (line : List ℕ) (n : ℕ) → Stop request_line_at (words_of line) n → (n ≤ length line) × IsRequestPlace line (length line - n)
stop_place line n s =
    let whole : length line ≡ length (joined (s.front ++ s.rest)) = ap length (sym (joined_again line) ∙ ap joined s.parts)
    in let le : length (joined s.rest) ≤ length (joined (s.front ++ s.rest)) = longer s.front s.rest
    in let is : n ≡ length (joined s.rest) = s.left
    in let within : n ≤ length line = omega arith
    in let m = request_only (s.front ++ s.more) (s.value, []) s.good
    in (
      within,
      record {
        within = omega arith;
        stops = record {
          front = s.front;
          rest = s.rest;
          parts = s.parts;
          left = omega arith;
          before = record { value = s.value; more = s.more; whole = m.ranges; words = sym m.spelled };
          none = λ word others is b.
              let good = request_found b.value b.whole
              in let words : request_words b.value ≡ s.front ++ word ∷ b.more = b.words ∙ append_assoc s.front (word ∷ []) b.more
              in let bad = s.again word others b.more is
              in let z = sym good ∙ ap request_line_at words ∙ bad
              in cc;
        };
      },
    )

line_stop : (line : List ℕ) (n : ℕ) → request_line_at (words_of line) ≡ Err n → (n ≤ length line) × IsRequestPlace line (length line - n)
line_stop line n e = stop_place line n (line_stops.stops (words_of line) n e)

pub line_left : (line : List ℕ) (n : ℕ) → request_line_at (words_of line) ≡ Err n → n ≤ length line
line_left line n e = (line_stop line n e).0

pub line_place : (line : List ℕ) (n : ℕ) → request_line_at (words_of line) ≡ Err n → IsRequestPlace line (length line - n)
line_place line n e = (line_stop line n e).1

-- ---- one place

-- some words before others begin what these do
starts_less : (a b : List (List ℕ)) → Starts (a ++ b) → Starts a
starts_less a b s = record { value = s.value; more = b ++ s.more; whole = s.whole; words = s.words ∙ append_assoc a b s.more }

-- of two parts of one list, one word more of the first begins the second
record Longer (a b r : List (List ℕ)) : Type 0 where
  word : List ℕ
  others : List (List ℕ)
  more : List (List ℕ)
  rest : r ≡ word ∷ others
  is : b ≡ (a ++ word ∷ []) ++ more

compared : (a b r s : List (List ℕ)) → a ++ r ≡ b ++ s → (r ≡ s) ⊎ (Longer a b r ⊎ Longer b a s)
compared [] [] r s e = inl e
compared [] (y ∷ b) r s e = inr (inl (record { word = y; others = b ++ s; more = b; rest = e; is = refl }))
compared (x ∷ a) [] r s e = inr (inr (record { word = x; others = a ++ r; more = a; rest = sym e; is = refl }))
compared (x ∷ a) (y ∷ b) r s e =
    let head : x ≡ y = cc
    in let tail : a ++ r ≡ b ++ s = cc
    in elim (compared a b r s tail) [
      | inl same ↦ inl same
      | inr longer ↦ elim longer [
        | inl l ↦ inr (inl (record { word = l.word; others = l.others; more = l.more; rest = l.rest; is = λ i. sym head i ∷ l.is i }))
        | inr l ↦ inr (inr (record { word = l.word; others = l.others; more = l.more; rest = l.rest; is = λ i. head i ∷ l.is i }))
      ]
    ]

too_far : (ws : List (List ℕ)) (m n : ℕ) (s : StopsAt IsRequest request_words ws m) (t : StopsAt IsRequest request_words ws n) → ¬ Longer s.front t.front s.rest
too_far ws m n s t l = s.none l.word l.others l.rest (starts_less (s.front ++ l.word ∷ []) l.more (subst Starts l.is t.before))

stops_once : (ws : List (List ℕ)) (m n : ℕ) → StopsAt IsRequest request_words ws m → StopsAt IsRequest request_words ws n → m ≡ n
stops_once ws m n s t = elim (compared s.front t.front s.rest t.rest (sym s.parts ∙ t.parts)) [
  | inl same ↦ s.left ∙ ap (λ r. length (joined r)) same ∙ sym t.left
  | inr longer ↦ elim longer [ inl l ↦ absurd (too_far ws m n s t l) | inr l ↦ absurd (too_far ws n m t s l) ]
]

pub places_once : RequestsGoWrongOnce
places_once line a b p q =
    let same : length line - a ≡ length line - b = stops_once (words_of line) (length line - a) (length line - b) p.stops q.stops
    in let first : a ≤ length line = p.within
    in let second : b ≤ length line = q.within
    in omega arith
