use Rattle.grasp_client.proofs.Answering.{on_ok, asked_status, talked, heard_events, heard_the_stop}
use Rattle.grasp_client.proofs.conversation.converse.Goals as goal

pub returns-in-Status-clause-conversed : goal.returns-in-Status-clause-conversed
returns-in-Status-clause-conversed g c =
    on_ok c.ask_all.result _ _ (asked_status c.args.task (g.S.Source.left c.args.input.now) _ _ _ _ _ _ c.in-Status.is) c.ask_all.ensures.dialogue

pub returns-in-Events-clause-conversed : goal.returns-in-Events-clause-conversed
returns-in-Events-clause-conversed g c =
    on_ok c.watch.result _ _ (heard_events c.args.task (g.S.Source.left c.args.input.now) _ _ _ _ _ _ c.in-Events.is) c.watch.ensures.follows

pub returns-in-Talk-clause-conversed : goal.returns-in-Talk-clause-conversed
returns-in-Talk-clause-conversed g c =
    on_ok c.talk.result _ _ (talked c.args.task (g.S.Source.left c.args.input.now) _ _ _ _ _ _ c.in-Talk.is) c.talk.ensures.talked

pub returns-in-Stop-clause-conversed : goal.returns-in-Stop-clause-conversed
returns-in-Stop-clause-conversed g c =
    on_ok c.watch-in-Stop.result _ _ (heard_the_stop c.args.task (g.S.Source.left c.args.input.now) _ _ _ _ _ _ c.in-Stop.is) c.watch-in-Stop.ensures.follows
