-- Where a header ends.
use Rattle.std.proofs.Common.{◌≡◌, ◌≢◌, ◌⊎◌, inl, inr, ℕ, ◌+◌, ◌-◌, ◌≤◌, List, [], ◌∷◌, ◌++◌, length, take, drop, refl, sym, ap, subst, ◌∙◌, append_assoc, length-append, arith}
use Rattle.std.proofs.Math.Seq.{drop-append_seam, take-append_seam}
use Rattle.std.proofs.lemmas.List.{append-nil}
use Rattle.grasp_text.specs.Words.{words_of}
use Rattle.grasp_script.specs.Headers.{start_words}
use Rattle.grasp_script.specs.Scripts.{text_lines}
use Rattle.grasp_audit.specs.Headers.{EndAtStart, EndsHeader, HasFront, HasPassed, HaveNoStart}
use Rattle.grasp_audit.specs.Splits.{IsCut}
use Rattle.grasp_audit.specs.declared.headers.HeaderEnd.{HeaderEnd}

abbrev Lines : Type 0
Lines = List (List ℕ)

pub no_bytes : (s : List ℕ) → length s ≡ 0 → s ≡ []
no_bytes [] e = refl
no_bytes (b ∷ s) e = absurd (omega (arith, e))

-- ---- a front of a text

no_lines : text_lines [] ≡ []
unfolding text_lines
no_lines = refl

pub begin_passed : (text : List ℕ) → HasPassed text text 0
begin_passed text = record {
  front = [];
  has = record {
    parts = refl;
    lines = ap (λ (ls : Lines). ls ++ text_lines text) (sym no_lines);
    any = inl (λ r. ap (λ (ls : Lines). ls ++ text_lines r) (sym no_lines));
  };
  none = subst HaveNoStart (sym no_lines) tt;
  count = ap length (sym no_lines);
  room = omega arith;
}

-- the front with one line more
pub record Longer (text front line behind : List ℕ) : Type 0 where
  pub next : List ℕ
  pub has : HasFront text behind next
  pub one : text_lines next ≡ text_lines front ++ line ∷ []
  pub longer : length front + 1 ≤ length next

some : (rest : List ℕ) → rest ≢ [] → 1 ≤ length rest
some [] h = absurd (h refl)
some (b ∷ rest) h = omega arith

module _ (text front rest line behind : List ℕ) (h : HasFront text rest front) (first : text_lines rest ≡ line ∷ text_lines behind) where
  -- an LF stands behind it
  ended : ((r : List ℕ) → text_lines (front ++ r) ≡ text_lines front ++ text_lines r) → rest ≡ line ++ 10 ∷ behind → ((r : List ℕ) → text_lines (line ++ 10 ∷ r) ≡ line ∷ text_lines r) → Longer text front line behind
  ended any is more = record {
    next = next;
    has = record { parts = h.parts ∙ ap (λ (t : List ℕ). front ++ t) is ∙ moved behind; lines = h.lines ∙ ap (λ (ls : Lines). text_lines front ++ ls) first ∙ sym (lines_with (text_lines behind)); any = inl goes };
    one = one;
    longer = omega (arith, length-append front (line ++ 10 ∷ []), length-append line (10 ∷ []));
  }
    where
      next : List ℕ
      next = front ++ (line ++ 10 ∷ [])

      moved : (r : List ℕ) → front ++ (line ++ 10 ∷ r) ≡ next ++ r
      moved r = ap (λ (t : List ℕ). front ++ t) (sym (append_assoc line (10 ∷ []) r)) ∙ sym (append_assoc front (line ++ 10 ∷ []) r)

      one : text_lines next ≡ text_lines front ++ line ∷ []
      one = any (line ++ 10 ∷ []) ∙ ap (λ (ls : Lines). text_lines front ++ ls) (more [] ∙ ap (λ (ls : Lines). line ∷ ls) no_lines)

      lines_with : (ls : Lines) → text_lines next ++ ls ≡ text_lines front ++ line ∷ ls
      lines_with ls = ap (λ (t : Lines). t ++ ls) one ∙ append_assoc (text_lines front) (line ∷ []) ls

      goes : (r : List ℕ) → text_lines (next ++ r) ≡ text_lines next ++ text_lines r
      goes r =
          ap text_lines (sym (moved r))
          ∙ any (line ++ 10 ∷ r)
          ∙ ap (λ (ls : Lines). text_lines front ++ ls) (more r)
          ∙ sym (lines_with (text_lines r))

  -- or nothing does
  all_longer : rest ≢ [] → rest ≡ line → behind ≡ [] → Longer text front line behind
  all_longer left is over = record {
    next = text;
    has = record { parts = sym (append-nil text) ∙ ap (λ (t : List ℕ). text ++ t) (sym over); lines = sym (append-nil (text_lines text)) ∙ ap (λ (ls : Lines). text_lines text ++ ls) (sym nothing); any = inr over };
    one = h.lines ∙ ap (λ (ls : Lines). text_lines front ++ ls) (first ∙ ap (λ (ls : Lines). line ∷ ls) nothing);
    longer = omega (arith, some rest left, ap length h.parts, length-append front rest);
  }
    where
      nothing : text_lines behind ≡ []
      nothing = ap text_lines over ∙ no_lines

  pub one_longer : rest ≢ [] → IsCut rest line behind → Longer text front line behind
  one_longer left (inl cut) = by_any h.any where
    by_any : ((r : List ℕ) → text_lines (front ++ r) ≡ text_lines front ++ text_lines r) ⊎ (rest ≡ []) → Longer text front line behind
    by_any (inl any) = ended any cut.0 cut.1
    by_any (inr none) = absurd (left none)
  one_longer left (inr cut) = all_longer left cut.0 cut.1

-- ---- lines without a start

none_both : (a b : Lines) → HaveNoStart a → HaveNoStart b → HaveNoStart (a ++ b)
none_both [] b h k = k
none_both (l ∷ a) b h k = (h.0, none_both a b h.1 k)

-- no header ends at this line
pub pass_line : (text rest line behind : List ℕ) (n : ℕ) → HasPassed text rest n → rest ≢ [] → IsCut rest line behind → text_lines rest ≡ line ∷ text_lines behind → words_of line ≢ start_words → HasPassed text behind (n + 1)
pass_line text rest line behind n h left cut first other =
    let x = one_longer text h.front rest line behind h.has first left cut in
    record {
      front = x.next;
      has = x.has;
      none = subst HaveNoStart (sym x.one) (none_both (text_lines h.front) (line ∷ []) h.none (other, tt));
      count = let count : n ≡ length (text_lines h.front) = h.count in omega (arith, count, ap length x.one, length-append (text_lines h.front) (line ∷ []));
      room = let room : n ≤ length h.front = h.room in let more = x.longer in omega (arith, room, more);
    }

-- ---- the header's end

-- what the code cuts off
front_is : (text rest front : List ℕ) → HasFront text rest front → take (length text - length rest) text ≡ front
front_is text rest front h =
    let used : length text - length rest ≡ length front = omega (arith, ap length h.parts, length-append front rest) in
    ap (λ (n : ℕ). take n text) used ∙ ap (take (length front)) h.parts ∙ take-append_seam front rest

rest_is : (text rest front : List ℕ) → HasFront text rest front → drop (length text - length rest) text ≡ rest
rest_is text rest front h =
    let used : length text - length rest ≡ length front = omega (arith, ap length h.parts, length-append front rest) in
    ap (λ (n : ℕ). drop n text) used ∙ ap (drop (length front)) h.parts ∙ drop-append_seam front rest

abbrev end_at : ℕ → ℕ → HeaderEnd
end_at bytes lines = record { bytes = bytes; lines = lines }

ends_so : (text rest front : List ℕ) (n : ℕ) → HasFront text rest front → EndAtStart (text_lines front) ⊎ (HaveNoStart (text_lines front) × (text_lines rest ≡ [])) → n ≡ length (text_lines front) → n ≤ length front
    → EndsHeader text (end_at (length text - length rest) n)
ends_so text rest front n h ends count room = record {
  within = omega arith;
  split = record {
    parts = h.lines ∙ (λ i. text_lines (sym front_so i) ++ text_lines (sym rest_so i));
    ends = subst (λ (t : List ℕ). EndAtStart (text_lines t) ⊎ (HaveNoStart (text_lines t) × (text_lines (drop (length text - length rest) text) ≡ []))) (sym front_so)
        (subst (λ (t : List ℕ). EndAtStart (text_lines front) ⊎ (HaveNoStart (text_lines front) × (text_lines t ≡ []))) (sym rest_so) ends);
  };
  lines = count ∙ ap (λ (t : List ℕ). length (text_lines t)) (sym front_so);
  room = omega (arith, room, ap length h.parts, length-append front rest);
}
  where
    front_so : take (length text - length rest) text ≡ front
    front_so = front_is text rest front h

    rest_so : drop (length text - length rest) text ≡ rest
    rest_so = rest_is text rest front h

-- it ends behind this line
pub ends_here : (text rest line behind : List ℕ) (n : ℕ) → HasPassed text rest n → rest ≢ [] → IsCut rest line behind → text_lines rest ≡ line ∷ text_lines behind → words_of line ≡ start_words
    → EndsHeader text (end_at (length text - length behind) (n + 1))
ends_here text rest line behind n h left cut first start =
    let x = one_longer text h.front rest line behind h.has first left cut in
    let count : n ≡ length (text_lines h.front) = h.count in
    let room : n ≤ length h.front = h.room in
    let more = x.longer in
    ends_so text behind x.next (n + 1) x.has (inl (record { before = text_lines h.front; last = line; parts = x.one; none = h.none; start = start }))
    (omega (arith, count, ap length x.one, length-append (text_lines h.front) (line ∷ []))) (omega (arith, room, more))

-- it doesn't end
pub ends_nowhere : (text rest : List ℕ) (n : ℕ) → HasPassed text rest n → rest ≡ [] → EndsHeader text (end_at (length text) n)
ends_nowhere text rest n h over =
    let all : length text - length rest ≡ length text = omega (arith, ap length over) in
    subst (λ (k : ℕ). EndsHeader text (end_at k n)) all
    (ends_so text rest h.front n h.has (inr (h.none, ap text_lines over ∙ no_lines)) h.count h.room)
