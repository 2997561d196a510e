use Rattle.std.proofs.Common.{◌≡◌, ◌∙◌, ap, refl, subst, sym}
use Rattle.grasp_pool.specs.Functions.{pool_of}
use Rattle.grasp_pool.specs.Pools.{IsPool}
use Rattle.grasp_agent.specs.States.{AgentState, first_agent}
use Rattle.grasp_store.specs.Images.{image_of}
use Rattle.grasp_store.proofs.Openings.{pool_back}
use Rattle.grasp_store.proofs.opening.from_roots.Goals as goal

pub returns-clause-from : goal.returns-clause-from
returns-clause-from c =
    let agent : c.in-Ok.agent ≡ first_agent (pool_of c.args.roots.now) = c.in-Ok.ensures.agent
    in let pool : IsPool (pool_of c.args.roots.now) = subst (λ (a : AgentState). IsPool a.pool) agent c.in-Ok.ensures.kept.pool
    in record {
      holds = c.copy_pool.ensures ∙ ap image_of (c.pool.ensures.pool ∙ ap (λ (a : AgentState). a.pool) agent);
      is = agent ∙ ap first_agent (sym (pool_back (pool_of c.args.roots.now) pool refl));
    }
