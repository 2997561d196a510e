-- The place at which a line stops being the beginning of a request's line.
use Rattle.std.specs.Prelude.{ℕ, ◌-◌, ◌≤◌, List, length}
use Rattle.grasp_text.specs.Readers.{StopsAt}
use Rattle.grasp_text.specs.Words.{words_of}
use Rattle.grasp_control.specs.Requests.{request_words, IsRequest}

-- so many bytes stand before the first word with which, after the words before it, no request's line begins, or all of the line's
-- bytes where a word is missing
pub record IsRequestPlace (line : List ℕ) (at : ℕ) : Type 0 where
  pub within : at ≤ length line
  pub stops : StopsAt IsRequest request_words (words_of line) (length line - at)
