-- The prefixes of every network that turns lead to are safe.
use Rattle.grasp_model_network.specs.Runs.{IsReached}
use Rattle.grasp_model_network.specs.Setting.{Setting}
use Rattle.grasp_model_network.specs.World.{WorldState}
use Rattle.grasp_laws_prefixes.proofs.AgentKeeps.{agent_keeps}
use Rattle.grasp_laws_prefixes.proofs.FirstPrefixes.{first_stands}
use Rattle.grasp_laws_prefixes.proofs.Networks.{is_kept, in_run}
use Rattle.grasp_laws_prefixes.proofs.QuietKeeps.{quiet_keeps}
use Rattle.grasp_laws_prefixes.proofs.RestartKeeps.{restart_keeps}
use Rattle.grasp_laws_prefixes.proofs.Returned.{told_keeps}
use Rattle.grasp_laws_prefixes.proofs.SetAside.{set_aside}
use Rattle.grasp_laws_prefixes.proofs.SettleKeeps.{settle_keeps}
use Rattle.grasp_laws_prefixes.proofs.Standing.{PrefixesStand}
use Rattle.grasp_laws_prefixes.specs.Apart.{PrefixesAreSafe, PrefixesStayApart}
use Rattle.grasp_laws_prefixes.specs.Grounds.{Grounds}

module _ (l : Grounds) (s : Setting) where
  pub stand : (w : WorldState) → IsReached s w → PrefixesStand w
  stand w r = is_kept l s PrefixesStand (record {
    quiet = λ x y p g said k. quiet_keeps l s x p y said g k;
    agent = λ x y p q a c k. agent_keeps l s x y p q a k c;
    told = λ x y e p t k. told_keeps l s x y e p t k;
    settles = λ x y node p r t k. settle_keeps l s x y node p r t k;
    restarts = λ x y node image r t k. restart_keeps l s x y node image r t k;
  }) (first_stands s r.good l) w r

  safe : (w : WorldState) → IsReached s w → PrefixesAreSafe w
  safe w r = let k = stand w r in record { held = k.held; authorities = k.authorities; offers = set_aside l s w r k.known }

pub stay_apart : Grounds → PrefixesStayApart
stay_apart l = record {
  reached = safe l;
  run = λ s hs good run. in_run s PrefixesAreSafe (safe l s) hs good run;
}
