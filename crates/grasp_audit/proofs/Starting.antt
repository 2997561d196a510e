-- What a record's header tells, and where no header stands.
use Rattle.std.proofs.Common.{◌≡◌, ◌≢◌, ◌⊎◌, inl, inr, ℕ, ◌+◌, List, [], ◌∷◌, ◌++◌, length, map, Option, None, Some, take, drop, refl, sym, ap, subst, ◌∙◌, append_assoc, arith}
use Rattle.std.specs.List.{AllByRecursion}
use Rattle.std.proofs.lemmas.List.{append-nil}
use Rattle.grasp_text.specs.Words.{words_of}
use Rattle.grasp_model_audit.specs.Audits.{HasNoHeader, IsBadHeader}
use Rattle.grasp_model_network.specs.declared.plan.WorldPlan.{WorldPlan}
use Rattle.grasp_script.specs.Headers.{header_line_words, header_words, nodes_words, size_words, start_words}
use Rattle.grasp_script.specs.Reads.{HeaderRead, opening_words}
use Rattle.grasp_script.specs.Scripts.{BeginsScript, IsBadLine, IsHeader, IsMissingLine, IsNoScript, IsUnfitLine, text_lines, texts}
use Rattle.grasp_script.specs.declared.header.HeaderLine.{HeaderLine}
use Rattle.grasp_script.proofs.HeaderLaws.{WordLines, not_start, start_no_size}
use Rattle.grasp_script.proofs.ScriptLaws.{header_parts}
use Rattle.grasp_audit.specs.Headers.{EndAtStart, EndsHeader, HasHeader, HaveNoStart}
use Rattle.grasp_audit.specs.declared.headers.HeaderEnd.{HeaderEnd}

abbrev Lines : Type 0
Lines = List (List ℕ)

-- ---- a header ends at its one start

abbrev StartsNowhere : WordLines → Type 0
StartsNowhere ws = AllByRecursion (λ w. w ≢ start_words) ws

none_told : (told : List HeaderLine) → StartsNowhere (map header_line_words told)
none_told [] = tt
none_told (line ∷ told) = (λ e. not_start line (sym e), none_told told)

none_behind : (size : Option ℕ) (ws : WordLines) → StartsNowhere ws → StartsNowhere (size_words size ++ ws)
none_behind None ws h = h
none_behind (Some limit) ws h = (λ e. start_no_size limit (sym e), h)

-- it is no line that tells how many nodes there are
no_nodes : (nodes : ℕ) → ¬ (start_words ≡ nodes_words nodes)
no_nodes nodes e = absurd (omega (arith, ap length e))

none_opening : (nodes : ℕ) (size : Option ℕ) (told : List HeaderLine) → StartsNowhere (opening_words nodes size told)
none_opening nodes size told = (λ e. no_nodes nodes (sym e), none_behind size (map header_line_words told) (none_told told))

divides : (ls : Lines) (ws : WordLines) → map words_of ls ≡ ws ++ start_words ∷ [] → StartsNowhere ws → EndAtStart ls
divides [] [] e h = absurd cc
divides [] (w ∷ ws) e h = absurd cc
divides (l ∷ []) [] e h = let first : words_of l ≡ start_words = cc in record { before = []; last = l; parts = refl; none = tt; start = first }
divides (l ∷ m ∷ ls) [] e h = absurd cc
divides (l ∷ ls) (w ∷ ws) e h =
    let first : words_of l ≡ w = cc in
    let rest : map words_of ls ≡ ws ++ start_words ∷ [] = cc in
    let d = divides ls ws rest h.1 in
    record { before = l ∷ d.before; last = d.last; parts = ap (λ (t : Lines). l ∷ t) d.parts; none = (λ e. h.0 (sym first ∙ e), d.none); start = d.start }

header_ends : (header : Lines) (plan : WorldPlan) → IsHeader header plan → EndAtStart header
header_ends header plan h =
    divides header (opening_words plan.nodes h.size h.told)
    (h.spelled ∙ sym (append-nil (header_words plan.nodes h.size h.told)) ∙ header_parts plan.nodes h.size h.told []) (none_opening plan.nodes h.size h.told)

-- ---- two parts that end at the first start

-- what stands behind the first start of the same lines
same_start : (a b : Lines) (l m : List ℕ) (c d : Lines) → HaveNoStart a → HaveNoStart b → words_of l ≡ start_words → words_of m ≡ start_words → a ++ l ∷ c ≡ b ++ m ∷ d → (a ++ l ∷ [] ≡ b ++ m ∷ []) × (c ≡ d)
same_start [] [] l m c d h k s t e = let first : l ≡ m = cc in let rest : c ≡ d = cc in (ap (λ (x : List ℕ). x ∷ []) first, rest)
same_start [] (y ∷ b) l m c d h k s t e = absurd (let first : l ≡ y = cc in k.0 (ap words_of (sym first) ∙ s))
same_start (x ∷ a) [] l m c d h k s t e = absurd (let first : x ≡ m = cc in h.0 (ap words_of first ∙ t))
same_start (x ∷ a) (y ∷ b) l m c d h k s t e =
    let first : x ≡ y = cc in
    let rest : a ++ l ∷ c ≡ b ++ m ∷ d = cc in
    let same = same_start a b l m c d h.1 k.1 s t rest in
    ((λ i. first i ∷ same.0 i), same.1)

with_more : (a : Lines) (h : EndAtStart a) (c : Lines) → a ++ c ≡ h.before ++ h.last ∷ c
with_more a h c = ap (λ (t : Lines). t ++ c) h.parts ∙ append_assoc h.before (h.last ∷ []) c

pub same_ends : (a b c d : Lines) → EndAtStart a → EndAtStart b → a ++ c ≡ b ++ d → (a ≡ b) × (c ≡ d)
same_ends a b c d h k e =
    let same = same_start h.before k.before h.last k.last c d h.none k.none h.start k.start (sym (with_more a h c) ∙ e ∙ with_more b k d) in
    (h.parts ∙ same.0 ∙ sym k.parts, same.1)

-- lines without a start don't begin with a header
front_none : (a c : Lines) → HaveNoStart (a ++ c) → HaveNoStart a
front_none [] c h = tt
front_none (l ∷ a) c h = (h.0, front_none a c h.1)

never_last : (a : Lines) (l : List ℕ) → words_of l ≡ start_words → HaveNoStart (a ++ l ∷ []) → ⊥
never_last [] l s h = h.0 s
never_last (x ∷ a) l s h = never_last a l s h.1

no_end : (a c : Lines) → EndAtStart a → HaveNoStart (a ++ c) → ⊥
no_end a c h none = never_last h.before h.last h.start (subst HaveNoStart h.parts (front_none a c none))

-- ---- the plan

module _ (text : List ℕ) (end : HeaderEnd) (h : EndsHeader text end) where
  abbrev front : List ℕ
  front = take end.bytes text

  abbrev behind : List ℕ
  behind = drop end.bytes text

  -- a header that stands at the beginning of the text is its first part
  header_is : (header rest : Lines) (plan : WorldPlan) → IsHeader header plan → text_lines text ≡ header ++ rest → header ≡ text_lines front
  header_is header rest plan is parts = by_end h.split.ends where
    by_end : EndAtStart (text_lines front) ⊎ (HaveNoStart (text_lines front) × (text_lines behind ≡ [])) → header ≡ text_lines front
    by_end (inl ends) = (same_ends header (text_lines front) rest (text_lines behind) (header_ends header plan is) ends (sym parts ∙ h.split.parts)).0
    by_end (inr none) = absurd (no_end header rest (header_ends header plan is)
        (subst HaveNoStart (sym (append-nil (text_lines front)) ∙ ap (λ (ls : Lines). text_lines front ++ ls) (sym none.1) ∙ sym h.split.parts ∙ parts) none.0))

  -- so the first part begins with no other
  front_is : (header rest : Lines) (plan : WorldPlan) → IsHeader header plan → text_lines front ≡ header ++ rest → header ≡ text_lines front
  front_is header rest plan is parts = header_is header (rest ++ text_lines behind) plan is (h.split.parts ∙ ap (λ (ls : Lines). ls ++ text_lines behind) parts ∙ append_assoc header rest (text_lines behind))

  pub plan_told : (rest : List ℕ) (plan : WorldPlan) (number : ℕ) → HeaderRead front rest plan number → HasHeader text behind plan end.lines
  plan_told rest plan number r =
      let same = front_is r.header (text_lines rest) plan r.is_header r.parts in
      record {
        header = r.header;
        is_header = r.is_header;
        parts = h.split.parts ∙ ap (λ (ls : Lines). ls ++ text_lines behind) (sym same);
        place = h.lines ∙ ap length (sym same);
      }

  -- ---- where it tells none

  header_alone : (header : Lines) (plan : WorldPlan) → IsHeader header plan → header ≡ text_lines front → IsNoScript front → ⊥
  header_alone header plan is same none = none plan [] (record { header = header; is_header = is; meant = tt; parts = sym same ∙ sym (append-nil header) })

  no_header : IsNoScript front → HasNoHeader text
  no_header none plan header rest is parts = header_alone header plan is (header_is header rest plan is parts) none

  unfit : (number : ℕ) → IsUnfitLine front number → IsUnfitLine text number
  unfit number u = record {
    front = u.front;
    line = u.line;
    rest = u.rest ++ text_lines behind;
    parts = h.split.parts ∙ ap (λ (ls : Lines). ls ++ text_lines behind) u.parts ∙ append_assoc u.front (u.line ∷ u.rest) (text_lines behind);
    before = u.before;
    none = u.none;
    place = u.place;
  }

  -- a first part that ends at a start misses none
  whole : EndAtStart (text_lines front) → BeginsScript (text_lines front) → IsNoScript front → ⊥
  whole ends b none =
      let same = same_ends b.header (text_lines front) (texts b.lines) b.more (header_ends b.header b.plan b.is_header) ends b.parts in
      header_alone b.header b.plan b.is_header same.0 none

  missing : (number : ℕ) → IsMissingLine front number → IsMissingLine text number
  missing number m = by_end h.split.ends where
    by_end : EndAtStart (text_lines front) ⊎ (HaveNoStart (text_lines front) × (text_lines behind ≡ [])) → IsMissingLine text number
    by_end (inl ends) = absurd (whole ends m.before m.none)
    by_end (inr over) = record {
      before = subst BeginsScript same m.before;
      none = λ plan lines is. m.none plan lines (record { header = is.header; is_header = is.is_header; meant = is.meant; parts = same ∙ is.parts });
      place = m.place ∙ ap (λ (ls : Lines). length ls + 1) same;
    }
      where
        same : text_lines front ≡ text_lines text
        same = sym (append-nil (text_lines front)) ∙ ap (λ (ls : Lines). text_lines front ++ ls) (sym over.1) ∙ sym h.split.parts

  bad_line : (number : ℕ) → IsBadLine front number → IsBadLine text number
  bad_line number (inl u) = inl (unfit number u)
  bad_line number (inr m) = inr (missing number m)

  pub plan_missed : (number : ℕ) → IsNoScript front → IsBadLine front number → IsBadHeader text number
  plan_missed number none bad = record { none = no_header none; place = bad_line number bad }
