use Rattle.std.proofs.Common.{◌≡◌, true, ◌∙◌}
use Rattle.grasp_session.specs.declared.wanted.Wanted.TheVariants.{UntakenAbove}
use Rattle.grasp_session.specs.Stands.{IsUntaken, fits_at, kept_at}
use Rattle.grasp_session.proofs.Tables.{oldest_stands}
use Rattle.grasp_session.proofs.Calls.{if_some_map, untaken_above_fits}
use Rattle.grasp_session.proofs.table.Table.untaken_above.Goals as goal

pub returns-clause-reply : goal.returns-clause-reply
returns-clause-reply c = λ z st. c.oldest.ensures.oldest ∙ oldest_stands (UntakenAbove c.args.name c.args.number) c.args.self.now z st

pub returns-clause-untaken : goal.returns-clause-untaken
returns-clause-untaken c =
    if_some_map (λ h. fits_at (UntakenAbove c.args.name c.args.number) (kept_at c.args.self.now.places h) ≡ true) (λ h. IsUntaken c.args.self.now h) c.oldest.result
    (λ h e. untaken_above_fits c.args.name c.args.number (kept_at c.args.self.now.places h) e) c.oldest.ensures.wanted
