use Rattle.std.proofs.Common.{rules, ◌≡◌, List, [], ◌∷◌, Result, Err, sym, subst}
use Rattle.toml.specs.View.{table_view}
use Rattle.grasp_config.specs.Config.{FirstBadOf, IsFirstBad}
use Rattle.grasp_config.specs.Faults.{IfBadConfig}
use Rattle.grasp_config.specs.Groups.{basic_keys, place_keys}
use Rattle.grasp_config.specs.declared.config.NodeConfig.{NodeConfig}
use Rattle.grasp_config.specs.declared.fault.ConfigFault.{ConfigFault}
use Rattle.grasp_config.specs.declared.fault.ConfigKey.{ConfigKey}
use Rattle.grasp_config.specs.declared.fault.ConfigKey.TheVariants.{Roots, Link, Want, Beacon, Reader, Unknown}
use Rattle.grasp_config.specs.declared.read.Places.{Places}
use Rattle.grasp_config.proofs.FirstBad.{told_of, further, in_front, basics_good}
use Rattle.grasp_config.proofs.read.config_of.Goals as goal

pub returns-in_err-places-clause-first : goal.returns-in_err-places-clause-first
returns-in_err-places-clause-first c =
    let is : c.from_residual-in_err-places.result ≡ Err c.in_err-places.field-0.0 = search rules in
    let behind : List ConfigKey = Want ∷ Beacon ∷ Reader ∷ Unknown ∷ [] in
    subst (λ (r : Result NodeConfig ConfigFault). IfBadConfig r (IsFirstBad (table_view c.args.table.now))) (sym is)
    (told_of Places NodeConfig (FirstBadOf (table_view c.args.table.now) place_keys) (IsFirstBad (table_view c.args.table.now)) c.in_err-places.field-0.0
    (λ key bad. further (table_view c.args.table.now) basic_keys (Roots ∷ Link ∷ behind) key (basics_good (table_view c.args.table.now) c.in_ok-basics.basics c.in_ok-basics.ensures.found) (in_front (table_view c.args.table.now) place_keys behind key bad))
    c.in_err-places.ensures.first)
