use Rattle.std.proofs.Common.{rules, ◌≡◌, ◌∙◌, sym, ap, subst, arith, ◌+◌, cond, List, [], ◌∷◌, ◌++◌, length, Some}
use Rattle.std.proofs.lemmas.List.{length-append}
use Rattle.grasp_simulator.proofs.StreamDials.{dialled}
use Rattle.grasp_simulator.specs.StreamParts.{first_stream}
use Rattle.grasp_simulator.specs.StreamsStand.{key_of, same_near, dial_at, TableStands}
use Rattle.grasp_model_network.specs.Streams.{StreamEnd, change_at_end, with_number}
use Rattle.grasp_model_network.specs.World.{end_of}
use Rattle.grasp_simulator.specs.declared.stream.Stream.{Stream}
use Rattle.grasp_simulator.proofs.streams.Streams.dial.Goals as goal

pub returns : goal.returns
returns c =
    let old = c.args.self.now in
    let e : StreamEnd = end_of c.args.life c.args.number in
    let new : Stream = first_stream c.args.life c.args.number c.args.to c.args.closed in
    let items : c.push.new.self.items ≡ old.list.items ++ new ∷ [] = c.in_ok-push.ensures.items ∙ ap (λ (x : Stream). old.list.items ++ x ∷ []) c.first_stream.ensures in
    record {
      stands = λ begins ts dials d starts s.
          let more : length (old.list.items ++ new ∷ []) ≡ length old.list.items + 1 = length-append old.list.items (new ∷ []) in
          let long : length c.push.new.self.items ≡ length (old.list.items ++ new ∷ []) = ap length items in
          let was : dials ≡ length old.list.items = s.dialled in
          let counted : c.len-k.result ≡ length c.push.new.self.items = search rules in
          let count : c.len-k.result ≡ dials + 1 = omega (arith, more, long, was, counted) in
          let looks : (q : StreamEnd) → dial_at c.insert.new.self.entries q ≡ cond (same_near (key_of e) (key_of q)) (Some (dials + 1)) (dial_at old.near.entries q) =
          λ q. c.in_ok-insert.ensures.updates.0 (key_of q) ∙ ap (λ k. cond (same_near (key_of e) (key_of q)) (Some k) (dial_at old.near.entries q)) count in
          subst (λ (l : List Stream). TableStands l c.insert.new.self.entries begins (change_at_end ts e (with_number (dials + 1))) (dials + 1)) (sym items)
          (dialled old.list.items old.near.entries c.insert.new.self.entries begins c.args.closed c.args.life c.args.number c.args.to ts dials s d starts (omega (arith, was, c.requires)) looks);
    }
