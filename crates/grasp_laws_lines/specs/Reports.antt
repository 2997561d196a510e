-- What the reports of crashes and of questions tell: from the report of a line it can be read. The layout is this project's own.
use Rattle.std.specs.Prelude.{◌≡◌, ℕ, List, Result, Ok, Err}
use Rattle.std.specs.List.{AllByRecursion}
use Rattle.grasp_doubter.specs.declared.asking.AskFault.{AskFault}
use Rattle.grasp_doubter.specs.declared.asking.AskFault.TheVariants.{Busy, NotDoubtful, NotGiven}
use Rattle.grasp_pool.specs.declared.image.PoolImage.{PoolImage}
use Rattle.grasp_script_doubts.specs.Reports.{told_ask}
use Rattle.grasp_script_kept.specs.Reports.{told_restart}
use Rattle.grasp_types.specs.Prefix.{AddressBlock as Prefix, IsPrefix}

-- what an answer names is a prefix
abbrev pub NamesPrefix : Result (Unit {0}) AskFault → Type 0
NamesPrefix (Ok u) = Unit {0}
NamesPrefix (Err (Busy p)) = IsPrefix p.address p.length
NamesPrefix (Err NotDoubtful) = Unit {0}
NamesPrefix (Err NotGiven) = Unit {0}

-- of one line's question: where the reports are one text the answers are one
abbrev pub QuestionReportsDiffer : Type 0
QuestionReportsDiffer = (text : List ℕ) (a b : Result (Unit {0}) AskFault) → NamesPrefix a → NamesPrefix b → told_ask text a ≡ told_ask text b → a ≡ b

abbrev pub ArePrefixes : List Prefix → Type 0
ArePrefixes ps = AllByRecursion (λ p. IsPrefix p.address p.length) ps

-- what an image names are prefixes
pub record NamesPrefixes (image : PoolImage) : Type 0 where
  pub free : ArePrefixes image.free
  pub doubtful : ArePrefixes image.doubtful

-- of one line's crash: where the reports are one text the images are one
abbrev pub CrashReportsDiffer : Type 0
CrashReportsDiffer = (text : List ℕ) (x y : PoolImage) → NamesPrefixes x → NamesPrefixes y → told_restart text x ≡ told_restart text y → x ≡ y
