use Rattle.std.proofs.Common.{[], ◌∷◌, string_bytes}
use Rattle.std.specs.Prelude.{codes, decimal}
use Rattle.grasp_cbor.proofs.Facts.Options.{on_ok}
use Rattle.grasp_text.specs.Line.{text_word}
use Rattle.grasp_text.proofs.Pushed.{some_pushed}
use Rattle.grasp_script.specs.Calls.{peer_word}
use Rattle.grasp_script.proofs.calls.push_synchronize.Goals as goal

pub returns-clause-text : goal.returns-clause-text
returns-clause-text c = on_ok c.push_peer.result c.push_peer.ensures.text (λ e.
    some_pushed (string_bytes c.args.out.now) (string_bytes c.push_limited.new.out) (string_bytes c.push_peer.new.out) (codes "synchronize" ∷ text_word c.args.name.now ∷ decimal c.args.loops ∷ decimal c.args.timeout ∷ []) (peer_word c.args.peer.now ∷ []) c.in_ok-push_limited.ensures.text e)
