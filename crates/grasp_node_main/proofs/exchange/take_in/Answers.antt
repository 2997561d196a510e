use Rattle.std.proofs.Common.{refl}
use Rattle.grasp_node_main.specs.Turns.{got, nothing, no_memory}
use Rattle.grasp_node_main.proofs.RootMaking.{made_nothing}
use Rattle.grasp_node_main.proofs.exchange.take_in.Goals as goal

pub returns-in-Got : goal.returns-in-Got
returns-in-Got g c = record {
  asking = got c.in-Got.input c.give_in.ensures.reply;
  made = c.give_in.ensures.made;
  asks = c.in-Got.ensures;
  away_is = c.give_in.ensures.away_is;
}

pub returns-in-Nothing : goal.returns-in-Nothing
returns-in-Nothing g c = record {
  asking = nothing;
  made = made_nothing c.args.shared.now c.args.root.now c.requires;
  asks = c.in-Nothing.ensures;
  away_is = refl;
}

pub returns-in-OutOfMemory : goal.returns-in-OutOfMemory
returns-in-OutOfMemory g c = record {
  asking = no_memory;
  made = made_nothing c.args.shared.now c.args.root.now c.requires;
  asks = c.in-OutOfMemory.ensures;
  away_is = refl;
}
