-- By which data the model of a registry is compared.
use Rattle.std.specs.Prelude.{ℕ, List, refl}
use Rattle.std.specs.Coded.{Coded, code_by, coded×, coded_ℕ, coded_list}
use Rattle.grasp_asa.specs.Registrations.{Registrations}
use Rattle.grasp_asa.specs.declared.entry.Agent.{Agent}
use Rattle.grasp_asa.specs.declared.entry.Registered.{Registered}
use Rattle.grasp_asa.specs.contracts.entry.Agent as agent
use Rattle.grasp_asa.specs.contracts.entry.Registered as registered

-- as the agents, the objectives and the count
abbrev pub coded_registrations : Coded Registrations
coded_registrations =
    code_by (List Agent × (List Registered × ℕ)) (coded× (coded_list agent.the_row.coded) (coded× (coded_list registered.the_row.coded) coded_ℕ)) (λ r. (r.agents, (r.objectives, r.made))) (λ p. record { agents = p.0; objectives = p.1.0; made = p.1.1 }) (λ _. refl)
