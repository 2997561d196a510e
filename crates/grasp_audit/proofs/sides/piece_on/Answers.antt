use Rattle.std.proofs.Common.{rules, ◌≡◌, bytes_eq, length}
use Rattle.grasp_audit.proofs.Bringing.{names_piece}
use Rattle.grasp_audit.proofs.sides.piece_on.Goals as goal

pub returns : goal.returns
returns c =
    let count : c.len-count.result ≡ length c.args.bytes.now = search rules in
    let equal : c.are_same-next.result ≡ bytes_eq c.next_bytes.result.now c.args.bytes.now = search rules in
    names_piece c.streams_are_ready.ensures c.args.world.now c.args.node c.args.stream c.args.number c.args.far c.has_side.result c.requires.node c.requires.stream c.has_side.ensures
    c.args.bytes.now c.next_bytes.result.now c.len-count.result c.are_same-next.result c.named_if_both.result count c.next_bytes.ensures equal c.named_if_both.ensures
