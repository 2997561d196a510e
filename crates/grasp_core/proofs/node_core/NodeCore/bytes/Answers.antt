use Rattle.grasp_core.proofs.TakenPieces.{feeding, was_open, was_closed, still_open, now_shut, too_many, now_starved}
use Rattle.grasp_core.proofs.node_core.NodeCore.bytes.Goals as goal

pub returns-in_default : goal.returns-in_default
returns-in_default c x meets = was_closed c.args.self.now c.take_out.new.self c.args.stream c.args.piece.now x meets c.in_default.ensures.cutter c.in_default.ensures.then

pub returns-in-Open : goal.returns-in-Open
returns-in-Open c x meets =
    let w = was_open c.args.self.now c.take_out.new.self c.args.stream c.args.piece.now x c.in-Some.cutter meets c.in-Some.ensures.cutter c.in-Some.ensures.then in
    still_open c.take_out.new.self c.feed.new.self c.put_back.new.self c.args.stream c.args.piece.now x c.in-Some.cutter c.in-Open.cutter w (c.in-Open.ensures (feeding c.args.stream x w.past) w.feeds) c.put_back.ensures

pub returns-in-Shut : goal.returns-in-Shut
returns-in-Shut c x meets =
    let w = was_open c.args.self.now c.take_out.new.self c.args.stream c.args.piece.now x c.in-Some.cutter meets c.in-Some.ensures.cutter c.in-Some.ensures.then in
    now_shut c.take_out.new.self c.feed.new.self c.args.stream c.args.piece.now x c.in-Some.cutter w (c.in-Shut.ensures (feeding c.args.stream x w.past) w.feeds)

pub returns-in-TooLong : goal.returns-in-TooLong
returns-in-TooLong c x meets =
    let w = was_open c.args.self.now c.take_out.new.self c.args.stream c.args.piece.now x c.in-Some.cutter meets c.in-Some.ensures.cutter c.in-Some.ensures.then in
    too_many c.take_out.new.self c.feed.new.self c.break_off.new.self c.args.stream c.args.piece.now x c.in-Some.cutter w (c.in-TooLong.ensures (feeding c.args.stream x w.past) w.feeds) c.break_off.ensures

pub returns-in-Starved : goal.returns-in-Starved
returns-in-Starved c x meets =
    let w = was_open c.args.self.now c.take_out.new.self c.args.stream c.args.piece.now x c.in-Some.cutter meets c.in-Some.ensures.cutter c.in-Some.ensures.then in
    now_starved c.take_out.new.self c.feed.new.self c.starve_stream.new.self c.args.stream c.args.piece.now x c.in-Some.cutter w (c.in-Starved.ensures (feeding c.args.stream x w.past) w.feeds) c.starve_stream.ensures
