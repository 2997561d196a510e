use Rattle.grasp_control.specs.Answers.{read_words}
use Rattle.grasp_service_visits.proofs.Shown.{shows_through}
use Rattle.grasp_service_visits.proofs.words.push_reads_of.Goals as goal

pub returns-in-Listener : goal.returns-in-Listener
returns-in-Listener c = shows_through c.push_read.result _ _ (read_words c.name.result.now c.reads.result.now) c.push_read.ensures.text
