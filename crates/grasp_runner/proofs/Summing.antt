-- The summary of a run.
use Rattle.std.proofs.Common.{◌≡◌, sym, ap, ◌∙◌, subst, ℕ, List}
use Rattle.grasp_model_network.specs.Runs.{world_of}
use Rattle.grasp_model_network.specs.Setting.{numbers_from, script_setting}
use Rattle.grasp_model_network.specs.World.{WorldState}
use Rattle.grasp_model_network.specs.declared.plan.WorldPlan.{WorldPlan}
use Rattle.grasp_model_network.specs.declared.report.Report.{Report}
use Rattle.grasp_script.specs.declared.script.Script.{Script}
use Rattle.grasp_model_script.specs.Laws.{EachRunIsSafe, ScriptsRestartNobody}
use Rattle.grasp_model_script.specs.LineRuns.{LineRun}
use Rattle.grasp_model_script.specs.ScriptRuns.{network_after}
use Rattle.grasp_model_script.specs.Summary.{Counts, counts_of, reports_of}
use Rattle.grasp_simulator.specs.declared.world.World.{World}
use Rattle.grasp_runner.specs.Scripts.{IsRead}
use Rattle.grasp_runner.specs.Tallies.{HasCounted, HasFirstLives, HasNodes, IsCounted, IsTally, TellsCounts, counted_of}
use Rattle.grasp_runner.specs.declared.summary.Counts.{Counts as CountsCode}
use Rattle.grasp_runner.specs.declared.tally.Tally.{Tally}
use Rattle.grasp_runner.proofs.Ends.{runs_safely}
use Rattle.grasp_runner.proofs.Placing.{plan_members}

-- the network after the lines has the nodes of the plan
pub has_nodes : (script : Script) (code : World) (tally : Tally) (plan : WorldPlan) → HasCounted script.plan script.lines code tally → plan ≡ script.plan → HasNodes code plan.nodes
has_nodes script code tally plan h same = record {
  setting = script_setting script.plan;
  network = network_after (script_setting script.plan) (world_of script.plan) h.run;
  stands = h.has_run.stands;
  count = ap (λ (p : WorldPlan). p.nodes) same ∙ sym (plan_members script.plan);
}

-- in which no node has begun anew
first_lives : ScriptsRestartNobody → (plan : WorldPlan) (run : List LineRun) → HasFirstLives (script_setting plan) (network_after (script_setting plan) (world_of plan) run)
first_lives nobody plan run = nobody.lives plan run ∙ ap (numbers_from 1) (sym (plan_members plan))

made : ℕ → ℕ → ℕ → ℕ → ℕ → ℕ → ℕ → Counts
made n e a d b h t = record { nodes = n; events = e; agreed = a; declined = d; broken = b; held = h; doubt = t }

same_made : (n1 n2 e1 e2 a1 a2 d1 d2 b1 b2 h1 h2 t1 t2 : ℕ) → n1 ≡ n2 → e1 ≡ e2 → a1 ≡ a2 → d1 ≡ d2 → b1 ≡ b2 → h1 ≡ h2 → t1 ≡ t2
    → made n1 e1 a1 d1 b1 h1 t1 ≡ made n2 e2 a2 d2 b2 h2 t2
same_made n1 n2 e1 e2 a1 a2 d1 d2 b1 b2 h1 h2 t1 t2 n e a d b h t =
    ap (λ (x : ℕ). made x e1 a1 d1 b1 h1 t1) n ∙ ap (λ (x : ℕ). made n2 x a1 d1 b1 h1 t1) e ∙ ap (λ (x : ℕ). made n2 e2 x d1 b1 h1 t1) a ∙ ap (λ (x : ℕ). made n2 e2 a2 x b1 h1 t1) d
    ∙ ap (λ (x : ℕ). made n2 e2 a2 d2 x h1 t1) b ∙ ap (λ (x : ℕ). made n2 e2 a2 d2 b2 x t1) h ∙ ap (λ (x : ℕ). made n2 e2 a2 d2 b2 h2 x) t

counts_same : (code : World) (tally : Tally) (c : CountsCode) (plan : WorldPlan) (nodes : ℕ) (rs : List Report) (last : WorldState) → IsTally tally rs → TellsCounts code nodes tally c → nodes ≡ plan.nodes
    → c.held ≡ (counts_of plan rs last).held → c.doubt ≡ (counts_of plan rs last).doubt → counted_of c ≡ counts_of plan rs last
unfolding made
counts_same code tally c plan nodes rs last is tells same held doubt =
    let own : IsTally c.tally rs = subst (λ (t : Tally). IsTally t rs) (sym tells.tally_is) is in
    let k : Counts = counts_of plan rs last in
    same_made c.nodes k.nodes c.tally.events k.events c.tally.agreed k.agreed c.tally.declined k.declined c.tally.broken k.broken c.held k.held c.doubt k.doubt
    (tells.nodes_are ∙ same) own.events own.agreed own.declined own.broken held doubt

pub is_counted : EachRunIsSafe → ScriptsRestartNobody → (script : Script) (code : World) (tally : Tally) (c : CountsCode) (plan : WorldPlan) → IsRead script → HasCounted script.plan script.lines code tally → TellsCounts code plan.nodes tally c
    → plan ≡ script.plan → IsCounted script.plan script.lines c
is_counted safe nobody script code tally c plan read h tells same =
    let last : WorldState = network_after (script_setting script.plan) (world_of script.plan) h.run in
    let first : HasFirstLives (script_setting script.plan) last = first_lives nobody script.plan h.run in
    record {
      run = h.run;
      is_run = h.has_run.is_run;
      safely = runs_safely safe script h.run read h.has_run.may_run;
      is = counts_same code tally c script.plan plan.nodes (reports_of script.plan h.run) last h.is tells (ap (λ (p : WorldPlan). p.nodes) same)
          (tells.held (script_setting script.plan) last h.has_run.stands first) (tells.doubt (script_setting script.plan) last h.has_run.stands first);
    }
