-- The line of a message is read as that message, no other line is, and a line that is refused is refused at its place.
use Rattle.std.proofs.Common.{◌≡◌, ℕ, suc, ◌+◌, ◌-◌, ◌≤◌, inl, inr, List, [], ◌∷◌, ◌++◌, length, Ok, Err, refl, sym, ap, subst, ◌∙◌, append_assoc, arith, length-append}
use Rattle.std.proofs.lemmas.List.{append-nil}
use Rattle.grasp_types.specs.Message.{IsMessage}
use Rattle.grasp_types.specs.declared.message.Message.{Message}
use Rattle.grasp_text.specs.Grammar.{message_at}
use Rattle.grasp_text.specs.Line.{message_words, IsLineOf, IsNoLine, CanBegin}
use Rattle.grasp_text.specs.Place.{IsPlace}
use Rattle.grasp_text.specs.Words.{words_of, joined}
use Rattle.grasp_text.proofs.Blanks.{line_words}
use Rattle.grasp_text.proofs.Lawful.{Stops, ok_is}
use Rattle.grasp_text.proofs.MessageLaws.{MessageWords, message_lawful}
use Rattle.grasp_text.proofs.Splitting.{joined_again}

-- what its words are read as

read_words : (m : Message) → IsMessage m → message_at (message_words m) ≡ Ok (m, [])
read_words m h =
    let f = (message_lawful (suc (length (message_words m ++ [])))).found m (message_words m) [] (record { whole = h; spelled = refl }) refl (omega arith) in
    ap message_at (sym (append-nil (message_words m))) ∙ f

pub line_found : (line : List ℕ) (m : Message) → IsLineOf line m → message_at (words_of line) ≡ Ok (m, [])
line_found line m is = ap (λ (x : List ℕ). message_at (words_of x)) is.spelled ∙ ap message_at (line_words m is.whole) ∙ read_words m is.whole

pub line_only : (line : List ℕ) (m : Message) (left : List (List ℕ)) → message_at (words_of line) ≡ Ok (m, left) → IsLineOf line m
line_only line m left e =
    let h = (message_lawful (suc (length (words_of line)))).only (words_of line) m left (omega arith) e in
    let w : MessageWords m h.1 = h.2 in
    let whole : words_of line ≡ message_words m = h.3 ∙ ap (λ (x : List (List ℕ)). h.1 ++ x) h.0 ∙ append-nil h.1 ∙ w.spelled in
    record { whole = w.whole; spelled = sym (joined_again line) ∙ ap joined whole }

pub line_none : (line : List ℕ) (n : ℕ) → message_at (words_of line) ≡ Err n → IsNoLine line
line_none line n e m is = let z = sym e ∙ line_found line m is in cc

pub line_one : (line : List ℕ) (a b : Message) → IsLineOf line a → IsLineOf line b → a ≡ b
line_one line a b p q = ap (λ (x : Message × List (List ℕ)). x.0) (ok_is (a, []) (b, []) (sym (line_found line a p) ∙ line_found line b q))

-- a message read is the line's message
pub line_same : (line : List ℕ) (a : Message) (left : List (List ℕ)) → message_at (words_of line) ≡ Ok (a, left) → (b : Message) → IsLineOf line b → a ≡ b
line_same line a left e b is = line_one line a b (line_only line a left e) is

-- ---- the place

parted : (front : List (List ℕ)) (x : List ℕ) (others : List (List ℕ)) → length (joined (front ++ x ∷ others)) ≡ length (joined (front ++ [] ∷ [])) + length (joined (x ∷ others))
parted [] x others = omega arith
parted (w ∷ []) x others = omega (arith, length-append w (32 ∷ joined (x ∷ others)), length-append w (32 ∷ []))
parted (w ∷ v ∷ front) x others = omega (arith, parted (v ∷ front) x others, length-append w (32 ∷ joined (v ∷ (front ++ x ∷ others))), length-append w (32 ∷ joined (v ∷ (front ++ [] ∷ []))))

-- no message goes on with the word where reading stopped
stuck : (ws : List (List ℕ)) (n : ℕ) (s : Stops MessageWords message_at ws n) (x : List ℕ) (others : List (List ℕ)) → s.rest ≡ x ∷ others → ¬ (CanBegin (s.front ++ x ∷ []))
stuck ws n s x others is c =
    let whole : message_words c.message ≡ s.front ++ x ∷ c.more = c.words ∙ append_assoc s.front (x ∷ []) c.more in
    let bad = s.again x others c.more is in
    let good = read_words c.message c.whole in
    let z = sym good ∙ ap message_at whole ∙ bad in
    cc

begun : (ws : List (List ℕ)) (n : ℕ) (s : Stops MessageWords message_at ws n) → CanBegin s.front
begun ws n s = let w : MessageWords s.value (s.front ++ s.more) = s.begun in record { message = s.value; more = s.more; whole = w.whole; words = sym w.spelled }

place_at : (line : List ℕ) (n : ℕ) (s : Stops MessageWords message_at (words_of line) n) (rest : List (List ℕ)) → s.rest ≡ rest → (n ≤ length line) × IsPlace line (length line - n)
place_at line n s [] is =
    let none : n ≡ 0 = s.left ∙ ap (λ (x : List (List ℕ)). length (joined x)) is in
    let all : words_of line ≡ s.front = s.parts ∙ ap (λ (x : List (List ℕ)). s.front ++ x) is ∙ append-nil s.front in
    (omega arith, inr (record { before = subst CanBegin (sym all) (begun (words_of line) n s); place = omega arith }))
place_at line n s (x ∷ others) is =
    let parts : words_of line ≡ s.front ++ x ∷ others = s.parts ∙ ap (λ (y : List (List ℕ)). s.front ++ y) is in
    let left : n ≡ length (joined (x ∷ others)) = s.left ∙ ap (λ (y : List (List ℕ)). length (joined y)) is in
    let long : length line ≡ length (joined (s.front ++ x ∷ others)) = ap length (sym (joined_again line) ∙ ap joined parts) in
    let sum = parted s.front x others in (
      omega arith,
      inl (record {
        front = s.front;
        word = x;
        rest = others;
        unfit = record { parts = parts; before = begun (words_of line) n s; none = stuck (words_of line) n s x others is };
        place = omega arith;
      }),
    )

line_stops : (line : List ℕ) (n : ℕ) → message_at (words_of line) ≡ Err n → (n ≤ length line) × IsPlace line (length line - n)
line_stops line n e =
    let s = (message_lawful (suc (length (words_of line)))).stops (words_of line) n (omega arith) e in
    place_at line n s s.rest refl

pub line_left : (line : List ℕ) (n : ℕ) → message_at (words_of line) ≡ Err n → n ≤ length line
line_left line n e = (line_stops line n e).0

pub line_place : (line : List ℕ) (n : ℕ) → message_at (words_of line) ≡ Err n → IsPlace line (length line - n)
line_place line n e = (line_stops line n e).1
