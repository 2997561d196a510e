use Rattle.grasp_io.specs.Faults.{Rose}
use Rattle.grasp_node_main.proofs.Outcomes.{Ends, ends_so, ends_badly, ends_large}
use Rattle.grasp_node_main.proofs.program.node_run.Goals as goal

-- how the program ends, as `run_input` tells it
ends : (g : _) (c : goal.After-run_input g)
    → Ends (Rose (g.S.Source.faults c.args.source.now) (g.S.Source.faults c.run_input.new.source)) (Rose (g.L.Links.faults c.args.links.now) (g.L.Links.faults c.run_input.new.links)) (Rose (g.K.Sink.faults c.args.sink.now) (g.K.Sink.faults c.run_input.new.sink))
    (g.S.Source.left c.args.source.now) c.run_input.result
ends g c = record {
  no_usage = c.run_input.ensures.no_usage;
  read_fault = c.run_input.ensures.read_fault;
  link_fault = c.run_input.ensures.link_fault;
  write_fault = c.run_input.ensures.write_fault;
  too_large = c.run_input.ensures.too_large;
  bad_config = c.run_input.ensures.bad_config;
  configured = c.run_input.ensures.configured;
}

pub returns-then-is_run-clause-complete : goal.returns-then-is_run-clause-complete
returns-then-is_run-clause-complete g c = λ run. ends_so _ _ _ _ c.run_input.result (ends g c) c.configs_have_no_bad_key.ensures c.texts_have_one_bad_key.ensures

pub returns-then-is_run-clause-complete_bad : goal.returns-then-is_run-clause-complete_bad
returns-then-is_run-clause-complete_bad g c = λ run. ends_badly _ _ _ _ c.run_input.result (ends g c) c.configs_have_no_bad_key.ensures c.texts_have_one_bad_key.ensures

pub returns-then-is_run-clause-complete_large : goal.returns-then-is_run-clause-complete_large
returns-then-is_run-clause-complete_large g c = λ run. ends_large _ _ _ _ c.run_input.result (ends g c)
