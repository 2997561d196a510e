use Rattle.grasp_simulator.specs.Marking.{begins_as}
use Rattle.std.proofs.Common.{rules, refl, ◌∙◌, length}
use Rattle.std.proofs.lemmas.List.Elements.{All-nil}
use Rattle.grasp_model_network.specs.Runs.{first_world}
use Rattle.grasp_model_network.specs.Setting.{script_setting, numbers_from}
use Rattle.grasp_simulator.proofs.FirstWorlds.{first_count, first_reached, first_stand}
use Rattle.grasp_simulator.proofs.Remembered.{nothing_remembered}
use Rattle.grasp_simulator.proofs.Presence.{first_lives_are, script_members}
use Rattle.grasp_simulator.specs.WorldStands.{GoesToNode}
use Rattle.grasp_simulator.proofs.world.World.open.Goals as goal

pub returns : goal.returns
unfolding first_world
returns c =
    let count = first_count (script_setting c.args.plan).members c.in_ok-seats.seats.items c.in_ok-seats.ensures in
    record {
      count = count;
      stands = record {
        goes = record {
          reached = first_reached c.args.plan c.requires;
          keeps = record {
            good = c.requires;
            setting = refl;
            count = count ∙ script_members c.args.plan;
            seats = first_stand c.args.plan c.in_ok-seats.seats.items c.requires c.in_ok-seats.ensures;
            lives = c.in_ok-lives.ensures ∙ first_lives_are c.args.plan;
            streams = c.new.ensures (begins_as (numbers_from 1 (length (script_setting c.args.plan).members)) c.new-2.result c.args.plan.nodes);
            marks = search rules;
            parcels = search rules;
            receivers = All-nil (GoesToNode c.args.plan.nodes);
            places = search rules;
            sent = refl;
            goes = refl;
          };
        };
        remembers = nothing_remembered c.args.plan c.new-3.result c.new-3.ensures.offers c.new-3.ensures.accepted;
      };
    }
