-- Laws on the lines of records.
use Rattle.std.specs.Prelude.{◌≡◌, ℕ, ◌≤◌, List}
use Rattle.grasp_record.specs.Records.{record_line, IsRecord, IsRecordLine}
use Rattle.grasp_record.specs.declared.line.RecordLine.{RecordLine}

-- a line means one thing at most
abbrev pub RecordLinesMeanOneThing : Type 0
RecordLinesMeanOneThing =
    (nodes : ℕ) (line : List ℕ) (x y : RecordLine) → nodes ≤ 255 → IsRecordLine nodes line x → IsRecordLine nodes line y → x ≡ y

-- what a line can mean has exactly one line
abbrev pub EachRecordHasOneLine : Type 0
EachRecordHasOneLine =
    (nodes : ℕ) (x : RecordLine) → nodes ≤ 255 → IsRecord nodes x
    → IsRecordLine nodes (record_line x) x × ((line : List ℕ) → IsRecordLine nodes line x → line ≡ record_line x)
