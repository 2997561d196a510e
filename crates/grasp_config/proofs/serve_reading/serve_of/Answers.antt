use Rattle.std.proofs.Common.{rules, arith, ◌≡◌, true, Some, Result, Err, sym, subst}
use Rattle.std.proofs.lemmas.Grind.{common_steps}
use Rattle.toml.specs.Data.{Members}
use Rattle.toml.specs.View.{table_view}
use Rattle.grasp_config.specs.Config.{IsConfigOf}
use Rattle.grasp_config.specs.Floodable.{are_floodable}
use Rattle.grasp_config.specs.NodePart.{serve_part}
use Rattle.grasp_config.specs.Serve.{IsFirstBadServe}
use Rattle.grasp_config.specs.ServeFaults.{IfBadServe}
use Rattle.grasp_config.specs.declared.config.NodeConfig.{NodeConfig}
use Rattle.grasp_config.specs.declared.serve.ServeConfig.{ServeConfig}
use Rattle.grasp_config.specs.declared.serve.ServeTable.{ServeTable}
use Rattle.grasp_config.specs.declared.serve_fault.ServeFault.{ServeFault}
use Rattle.grasp_config.proofs.ServeTold.{told_table, told_node}
use Rattle.grasp_config.proofs.serve_reading.serve_of.Goals as goal

pub returns-in-Err-clause-first : goal.returns-in-Err-clause-first
returns-in-Err-clause-first c =
    subst (λ (e : ServeFault). IfBadServe {A = ServeConfig} (Err e) (IsFirstBadServe (table_view c.args.table))) (sym c.serve_fault_of.ensures)
    (told_node NodeConfig (table_view c.args.table) (table_view c.take_serve.new.table) c.in-Err.fault c.in_ok-serve.ensures.left c.in-Err.ensures.first)

pub returns-in_err-serve-2-clause-first : goal.returns-in_err-serve-2-clause-first
returns-in_err-serve-2-clause-first c =
    let is : c.from_residual-in_err-serve-2.result ≡ Err c.in_err-serve-2.field-0.0 = search rules in
    let fits : are_floodable c.in-Ok.node.address c.in-Ok.node.size c.in-Ok.node.beacons ≡ true = first_of (search rules, grind (arith, common_steps)) in
    let there : serve_part (table_view c.args.table) ≡ Some (table_view c.in-Some.serve.now) = first_of (search rules, grind (arith, common_steps)) in
    subst (λ (r : Result ServeConfig ServeFault). IfBadServe r (IsFirstBadServe (table_view c.args.table))) (sym is)
    (told_table ServeTable (table_view c.args.table) c.in-Ok.node (table_view c.in-Some.serve.now) c.in_err-serve-2.field-0.0
    (record { is = subst (λ (t : Members). IsConfigOf t c.in-Ok.node) c.in_ok-serve.ensures.left c.in-Ok.ensures.found; floodable = fits }) there c.in_err-serve-2.ensures.first)
