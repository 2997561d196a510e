use Rattle.std.proofs.Common.{inl, refl}
use Rattle.grasp_replay_main.proofs.Outcomes.{read_too_far}
use Rattle.grasp_replay_main.proofs.program.read_and_write.Goals as goal

pub returns-in-Err-TooLarge-clause-too_large : goal.returns-in-Err-TooLarge-clause-too_large
returns-in-Err-TooLarge-clause-too_large g c = λ e.
    inl (refl, read_too_far c.args.task _ c.requires.reads ((rw c.in-Err-TooLarge.field-0-is at c.in-Err-TooLarge.ensures.too_large) refl))
