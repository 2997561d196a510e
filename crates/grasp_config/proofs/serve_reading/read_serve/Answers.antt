use Rattle.toml.specs.View.{table_view}
use Rattle.grasp_config.proofs.OneServe.{has_first_serve, none_serve}
use Rattle.grasp_config.proofs.serve_reading.read_serve.Goals as goal

pub returns-in-Ok-clause-first : goal.returns-in-Ok-clause-first
returns-in-Ok-clause-first c =
    has_first_serve c.args.text.now (table_view c.in-Ok.table) c.serve_of.result (record { utf8 = c.in-Ok.ensures.ok.0; parsed = c.in-Ok.ensures.ok.1 }) c.serve_of.ensures.first

pub returns-in-Ok-clause-none : goal.returns-in-Ok-clause-none
returns-in-Ok-clause-none c =
    none_serve c.args.text.now c.serve_of.result
    (has_first_serve c.args.text.now (table_view c.in-Ok.table) c.serve_of.result (record { utf8 = c.in-Ok.ensures.ok.0; parsed = c.in-Ok.ensures.ok.1 }) c.serve_of.ensures.first)
