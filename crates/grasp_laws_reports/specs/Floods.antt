-- What the words of a report tell of floods that were read.
use Rattle.std.specs.Prelude.{◌≡◌, ℕ, List, ◌∷◌, ◌++◌, codes}
use Rattle.grasp_types.specs.declared.flood.FloodRead.{FloodRead}
use Rattle.grasp_model_network.specs.Events.{Occurs, after_event}
use Rattle.grasp_model_network.specs.Reports.{report_of}
use Rattle.grasp_model_network.specs.Setting.{Setting}
use Rattle.grasp_model_network.specs.Visits.{Choice}
use Rattle.grasp_model_network.specs.World.{WorldState}
use Rattle.grasp_model_network.specs.declared.event.Event.{Event}
use Rattle.grasp_laws_network.specs.Noted.{ReadsFloods}
use Rattle.grasp_script.specs.Answers.{all_flood_read_words}
use Rattle.grasp_script.specs.Reports.{report_words}

-- an agent's call is answered at the event with floods that have these words in order, and just these floods are noted as read
pub record NotesReads (s : Setting) (w : WorldState) (e : Event) (c : Choice) (words : List (List ℕ)) : Type 0 where
  pub reads : List FloodRead
  pub told : ReadsFloods s w e c reads
  pub have_words : words ≡ all_flood_read_words reads
  pub noted : (after_event s w e c).floods_read ≡ w.floods_read ++ reads

pub record FloodsReportsTell : Type 0 where
  -- an event whose report's words begin with `floods` notes floods as read, and the other words are theirs
  pub reports : (s : Setting) (w : WorldState) (e : Event) (c : Choice) → Occurs s w e c → (words : List (List ℕ))
      → report_words (report_of s w e c) ≡ codes "floods" ∷ words → NotesReads s w e c words
  -- an event at which an agent's call is answered with floods is reported in these words
  pub reads : (s : Setting) (w : WorldState) (e : Event) (c : Choice) (reads : List FloodRead) → ReadsFloods s w e c reads
      → report_words (report_of s w e c) ≡ codes "floods" ∷ all_flood_read_words reads
  -- an event whose report's words don't begin so notes no floods as read
  pub others : (s : Setting) (w : WorldState) (e : Event) (c : Choice) → ((words : List (List ℕ)) → ¬ (report_words (report_of s w e c) ≡ codes "floods" ∷ words))
      → (after_event s w e c).floods_read ≡ w.floods_read
