use Rattle.std.proofs.Common.{rules, refl}
use Rattle.grasp_serve_main.proofs.program.serve_config.Goals as goal

pub returns-in-Err : goal.returns-in-Err
returns-in-Err g c = record {
  ends = tt;
  no_store = λ e. c.in-Err.ensures.named;
  links_untouched = λ u. refl;
  desk_untouched = λ u. refl;
  clock_untouched = λ u. refl;
  link_fault = λ e. absurd (cc e);
  desk_fault = λ e. absurd (cc e);
  no_round = λ e. absurd e;
  store_refused = λ e. c.in-Err.ensures.refused (search rules);
  kept = λ e. absurd (cc e);
  stops = λ fault e. absurd (cc e);
  short = λ e. absurd (cc e);
}
