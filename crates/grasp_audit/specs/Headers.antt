-- Inside: the header of a record, and the lines behind it.
use Rattle.std.specs.Prelude.{◌≡◌, ◌≢◌, ◌⊎◌, ◌≤◌, ℕ, List, [], ◌∷◌, ◌++◌, length, take, drop, Result, Ok, Err}
use Rattle.std.specs.List.{AllByRecursion}
use Rattle.grasp_model_audit.specs.Audits.{IsBadHeader}
use Rattle.grasp_model_audit.specs.declared.verdict.AuditFault.{AuditFault}
use Rattle.grasp_model_audit.specs.declared.verdict.AuditFault.TheVariants as fault
use Rattle.grasp_model_network.specs.declared.plan.WorldPlan.{WorldPlan}
use Rattle.grasp_script.specs.Headers.{start_words}
use Rattle.grasp_script.specs.Scripts.{IsHeader, text_lines}
use Rattle.grasp_text.specs.Words.{words_of}
use Rattle.grasp_audit.specs.declared.headers.HeaderEnd.{HeaderEnd}

-- ---- where it ends

-- none of the lines ends a header
abbrev pub HaveNoStart : List (List ℕ) → Type 0
HaveNoStart lines = AllByRecursion (λ line. words_of line ≢ start_words) lines

-- the last of the lines ends a header, and none before it
pub record EndAtStart (lines : List (List ℕ)) : Type 0 where
  pub before : List (List ℕ)
  pub last : List ℕ
  pub parts : lines ≡ before ++ last ∷ []
  pub none : HaveNoStart before
  pub start : words_of last ≡ start_words

-- the lines of the text are those of these two parts; a line ends a header only at the end of the first part, and is there where the second has lines
pub record IsSplit (text header rest : List ℕ) : Type 0 where
  pub parts : text_lines text ≡ text_lines header ++ text_lines rest
  pub ends : EndAtStart (text_lines header) ⊎ (HaveNoStart (text_lines header) × (text_lines rest ≡ []))

-- the text is split behind so many bytes, which have so many lines
pub record EndsHeader (text : List ℕ) (end : HeaderEnd) : Type 0 where
  pub within : end.bytes ≤ length text
  pub split : IsSplit text (take end.bytes text) (drop end.bytes text)
  pub lines : end.lines ≡ length (text_lines (take end.bytes text))
  pub room : end.lines ≤ end.bytes

-- ---- on the way

-- Inside: the text is this front and this rest, and its lines are those of the two; so they are with any rest, while one is left
pub record HasFront (text rest front : List ℕ) : Type 0 where
  pub parts : text ≡ front ++ rest
  pub lines : text_lines text ≡ text_lines front ++ text_lines rest
  pub any : ((r : List ℕ) → text_lines (front ++ r) ≡ text_lines front ++ text_lines r) ⊎ (rest ≡ [])

-- Inside: no header ends in the front of the text before this rest, which has so many lines
pub record HasPassed (text rest : List ℕ) (lines : ℕ) : Type 0 where
  pub front : List ℕ
  pub has : HasFront text rest front
  pub none : HaveNoStart (text_lines front)
  pub count : lines ≡ length (text_lines front)
  pub room : lines ≤ length front

-- ---- what it tells

-- the text begins with the header of this plan, and this is the text behind it
pub record HasHeader (text rest : List ℕ) (plan : WorldPlan) (number : ℕ) : Type 0 where
  pub header : List (List ℕ)
  pub is_header : IsHeader header plan
  pub parts : text_lines text ≡ header ++ text_lines rest
  pub place : number ≡ length header

abbrev pub ReadsPlan : List ℕ → HeaderEnd → Result WorldPlan AuditFault → Type 0
ReadsPlan text end (Ok plan) = HasHeader text (drop end.bytes text) plan end.lines
ReadsPlan text end (Err (fault.BadRecord line)) = IsBadHeader text line
ReadsPlan text end (Err fault.OutOfMemory) = Unit {0}
ReadsPlan text end (Err _) = ⊥
