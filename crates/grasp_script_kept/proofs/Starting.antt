-- A header ends in a line of its own, and a bad line before which no header ends is bad in any script.
use Rattle.std.proofs.Common.{◌≡◌, ◌⊎◌, inl, inr, ℕ, zero, suc, ◌+◌, ◌-◌, ◌≤◌, ◌||◌, Bool, true, false, List, [], ◌∷◌, ◌++◌, length, map, take, refl, sym, ap, subst, ◌∙◌, append_assoc, arith}
use Rattle.std.specs.List.{list_any}
use Rattle.std.proofs.lemmas.List.{append-nil}
use Rattle.grasp_text.specs.Words.{joined, words_of}
use Rattle.grasp_text.proofs.Splitting.{joined_again}
use Rattle.grasp_model_network.specs.declared.plan.WorldPlan.{WorldPlan}
use Rattle.grasp_script.specs.Headers.{header_words, start_words}
use Rattle.grasp_script.specs.Reads.{opening_words}
use Rattle.grasp_script.specs.Scripts.{BeginsScript, IsBadLine, IsHeader, IsMissingLine, IsUnfitLine, text_lines}
use Rattle.grasp_script.specs.declared.fault.ScriptFault.TheVariants.{BadScript}
use Rattle.grasp_script.proofs.HeaderLaws.{WordLines}
use Rattle.grasp_script.proofs.ScriptLaws.{Lines, header_parts}
use Rattle.grasp_script_kept.specs.Refusals.{IsRefused}
use Rattle.grasp_script_kept.specs.Scripts.{BeginsKeptScript, IsMissingKeptLine, IsUnfitKeptLine, kept_texts}
use Rattle.grasp_script_kept.specs.Starting.{has_start, is_start}
use Rattle.grasp_script_kept.proofs.ScriptLaws.{begins_plain, unfit_no_script}

or_true : (b : Bool) → (b || true) ≡ true
or_true true = refl
or_true false = refl

-- ---- the last line of a header

start_is : (line : List ℕ) → words_of line ≡ start_words → is_start line ≡ true
start_is line is = subst (λ (l : List ℕ). is_start l ≡ true) (sym (ap joined is) ∙ joined_again line) refl

ends_start : (ls : Lines) (ws : WordLines) → map words_of ls ≡ ws ++ start_words ∷ [] → has_start ls ≡ true
unfolding has_start
ends_start [] [] e = absurd cc
ends_start [] (w ∷ ws) e = absurd cc
ends_start (l ∷ ls) [] e = let first : words_of l ≡ start_words = cc in ap (λ (b : Bool). b || list_any is_start ls) (start_is l first)
ends_start (l ∷ ls) (w ∷ ws) e =
    let rest : map words_of ls ≡ ws ++ start_words ∷ [] = cc in
    ap (λ (b : Bool). is_start l || b) (ends_start ls ws rest) ∙ or_true (is_start l)

pub header_starts : (header : Lines) (plan : WorldPlan) → IsHeader header plan → has_start header ≡ true
header_starts header plan h =
    ends_start header (opening_words plan.nodes h.size h.told) (h.spelled ∙ sym (append-nil (header_words plan.nodes h.size h.told)) ∙ header_parts plan.nodes h.size h.told [])

-- ---- lines without it

none_by : (t u v : Bool) → (t || u) ≡ false → (u ≡ false → v ≡ false) → (t || v) ≡ false
none_by true u v e then = absurd (cc)
none_by false u v e then = then e

front_none : (a b : Lines) → has_start (a ++ b) ≡ false → has_start a ≡ false
unfolding has_start
front_none [] b e = refl
front_none (l ∷ a) b e = none_by (is_start l) (list_any is_start (a ++ b)) (list_any is_start a) e (front_none a b)

-- the first lines of a text
take_front : (front rest : Lines) → take (length front) (front ++ rest) ≡ front
take_front [] rest = refl
take_front (l ∷ front) rest = ap (λ (t : Lines). l ∷ t) (take_front front rest)

-- of two divisions of the same lines, one first part is a front of the other
record Splits (a b : Lines) : Type 0 where
  more : Lines
  parts : b ≡ a ++ more

splits : (a b c d : Lines) → a ++ c ≡ b ++ d → Splits a b ⊎ Splits b a
splits [] b c d e = inl (record { more = b; parts = refl })
splits (x ∷ a) [] c d e = inr (record { more = x ∷ a; parts = refl })
splits (x ∷ a) (y ∷ b) c d e =
    let first : x ≡ y = cc in
    let rest : a ++ c ≡ b ++ d = cc in
    elim (splits a b c d rest) [
      | inl h ↦ inl (record { more = h.more; parts = λ i. sym first i ∷ h.parts i })
      | inr h ↦ inr (record { more = h.more; parts = λ i. first i ∷ h.parts i })
    ]

-- ---- a bad line before which no header ends

-- no header is a front of lines without a start
no_header : (header : Lines) (plan : WorldPlan) (lines : Lines) → IsHeader header plan → has_start lines ≡ false → Splits header lines → ⊥
no_header header plan lines h none s =
    let z : has_start header ≡ false = front_none header s.more (subst (λ (ls : Lines). has_start ls ≡ false) s.parts none) in
    let y : has_start header ≡ true = header_starts header plan h in
    let w : true ≡ false = sym y ∙ z in cc

same_behind : (a c d : Lines) → a ++ c ≡ a ++ d → c ≡ d
same_behind [] c d e = e
same_behind (x ∷ a) c d e = let rest : a ++ c ≡ a ++ d = cc in same_behind a c d rest

nothing_joined : (a c : Lines) → a ++ c ≡ [] → a ≡ []
nothing_joined [] c e = refl
nothing_joined (x ∷ a) c e = absurd cc

-- where lines without a start and one more begin a script whose nodes crash, they begin any
module _ (front : Lines) (line : List ℕ) (none : has_start front ≡ false) (b : BeginsKeptScript (front ++ line ∷ [])) where
  longer : Splits (front ++ line ∷ []) b.header → BeginsScript (front ++ line ∷ [])
  longer s = record { plan = b.plan; header = b.header; lines = []; more = s.more; is_header = b.is_header; meant = tt; parts = append-nil b.header ∙ s.parts }

  -- the header is those lines and some more, but no more than this one
  by_more : (over : Lines) → front ++ line ∷ [] ≡ b.header ++ over → (more : Lines) → b.header ≡ front ++ more → BeginsScript (front ++ line ∷ [])
  by_more over whole [] is = absurd (no_header b.header b.plan front b.is_header none (record { more = []; parts = sym (append-nil b.header ∙ is ∙ append-nil front) }))
  by_more over whole (l ∷ more) is =
      let ends : line ∷ [] ≡ (l ∷ more) ++ over = same_behind front (line ∷ []) ((l ∷ more) ++ over) (whole ∙ ap (λ (t : Lines). t ++ over) is ∙ append_assoc front (l ∷ more) over) in
      let first : l ≡ line = cc in
      let rest : more ++ over ≡ [] = cc in
      let none_left : more ≡ [] = nothing_joined more over rest in
      record {
        plan = b.plan;
        header = b.header;
        lines = [];
        more = [];
        is_header = b.is_header;
        meant = tt;
        parts = append-nil b.header ∙ is ∙ (λ i. front ++ first i ∷ none_left i) ∙ sym (append-nil (front ++ line ∷ []));
      }

  shorter : Splits b.header (front ++ line ∷ []) → BeginsScript (front ++ line ∷ [])
  shorter s = elim (splits b.header front s.more (line ∷ []) (sym s.parts)) [
    | inl h ↦ absurd (no_header b.header b.plan front b.is_header none h)
    | inr h ↦ by_more s.more s.parts h.more h.parts
  ]

  begins_any : BeginsScript (front ++ line ∷ [])
  begins_any = elim (splits b.header (front ++ line ∷ []) (kept_texts b.lines) b.more b.parts) [ inl s ↦ shorter s | inr s ↦ longer s ]

unfit_kept : (text : List ℕ) (n : ℕ) → has_start (take (n - 1) (text_lines text)) ≡ false → IsUnfitLine text n → IsUnfitKeptLine text n
unfit_kept text n none u = record {
  front = u.front;
  line = u.line;
  rest = u.rest;
  parts = u.parts;
  before = begins_plain u.front u.before;
  none = λ b. u.none (begins_any u.front u.line none_before b);
  place = u.place;
} where
  same : n - 1 ≡ length u.front
  same = let place : n ≡ length u.front + 1 = u.place in omega (arith, place)

  none_before : has_start u.front ≡ false
  none_before =
      subst (λ (ls : Lines). has_start ls ≡ false) (ap (λ (m : ℕ). take m (text_lines text)) same ∙ ap (λ (ls : Lines). take (length u.front) ls) u.parts ∙ take_front u.front (u.line ∷ u.rest)) none

missing_kept : (text : List ℕ) (n : ℕ) → has_start (take (n - 1) (text_lines text)) ≡ false → IsMissingLine text n → IsMissingKeptLine text n
missing_kept text n none m = record {
  before = begins_plain (text_lines text) m.before;
  none = λ plan lines s. no_header s.header plan (text_lines text) s.is_header none_at_all (record { more = kept_texts lines; parts = s.parts });
  place = m.place;
} where
  same : n - 1 ≡ length (text_lines text)
  same = let place : n ≡ length (text_lines text) + 1 = m.place in omega (arith, place)

  none_at_all : has_start (text_lines text) ≡ false
  none_at_all =
      subst (λ (ls : Lines). has_start ls ≡ false)
      (ap (λ (m : ℕ). take m (text_lines text)) same ∙ ap (λ (ls : Lines). take (length (text_lines text)) ls) (sym (append-nil (text_lines text))) ∙ take_front (text_lines text) []) none

pub refused : (text : List ℕ) (n : ℕ) → has_start (take (n - 1) (text_lines text)) ≡ false → IsBadLine text n → IsRefused text (BadScript n)
refused text n none (inl u) = (unfit_no_script text n (unfit_kept text n none u), inl (unfit_kept text n none u))
refused text n none (inr m) = ((missing_kept text n none m).none, inr (missing_kept text n none m))

-- ---- looking for it

-- the lines from this one on are looked at
pub no_lines : (m : ℕ) (lines : Lines) → lines ≡ [] → has_start (take m lines) ≡ false
unfolding has_start
no_lines m lines none = ap (λ (ls : Lines). list_any is_start (take m ls)) none ∙ of_none m where
  of_none : (m : ℕ) → list_any is_start (take m []) ≡ false
  of_none zero = refl
  of_none (suc m) = refl

pub here_is : (m : ℕ) (line : List ℕ) (lines rest : Lines) → lines ≡ line ∷ rest → 1 ≤ m → is_start line ≡ true → has_start (take m lines) ≡ true
unfolding has_start
here_is zero line lines rest parts least is = absurd (omega (arith, least))
here_is (suc m) line lines rest parts least is = ap (λ (ls : Lines). list_any is_start (take (suc m) ls)) parts ∙ ap (λ (b : Bool). b || list_any is_start (take m rest)) is

pub not_here : (m : ℕ) (line : List ℕ) (lines rest : Lines) → lines ≡ line ∷ rest → 1 ≤ m → is_start line ≡ false → has_start (take m lines) ≡ has_start (take (m - 1) rest)
unfolding has_start
not_here zero line lines rest parts least is = absurd (omega (arith, least))
not_here (suc m) line lines rest parts least is =
    ap (λ (ls : Lines). list_any is_start (take (suc m) ls)) parts ∙ ap (λ (b : Bool). b || list_any is_start (take m rest)) is
    ∙ ap (λ (k : ℕ). list_any is_start (take k rest)) (let e : m ≡ suc m - 1 = omega arith in e)

-- none is left to look at
pub none_taken : (lines : Lines) → has_start (take 0 lines) ≡ false
unfolding has_start
none_taken lines = refl
