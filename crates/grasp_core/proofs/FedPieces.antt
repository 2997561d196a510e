-- How a piece that is fed and heard leaves its stream.
use Rattle.std.proofs.Common.{◌≡◌, ◌≤◌, ◌+◌, ℕ, List, [], length, refl, ◌∙◌, arith}
use Rattle.grasp_wire.specs.Cutter.{Past, after_feed}
use Rattle.grasp_wire.specs.Stands.{cut_limit, fed_count}
use Rattle.grasp_wire.specs.Stands as cutter
use Rattle.grasp_wire.specs.declared.cutter.Cutter.{Cutter}
use Rattle.grasp_model_node.specs.Bytes.{hear_all, most_bytes}
use Rattle.grasp_core.specs.Feeding.{Feeding, Feeds, Hears, StaysOpen, IsShut, LeftOpen, LeftShut, LeftStarved, HasRoom, with_piece}
use Rattle.grasp_core.specs.declared.node_core.NodeCore.{NodeCore}

pub fed_hears : (core : NodeCore) (c new : Cutter) (piece : List ℕ) (f : Feeding) → Feeds core c piece f → ((p : Past) → cutter.Stands c p → cutter.Stands new (after_feed p piece)) → cut_limit new ≡ cut_limit c → Hears core new (with_piece piece f)
fed_hears core c new piece f x fed same = record { stands = x.stands; cuts = record { stands = fed f.past x.cuts.stands; limit_is = same ∙ x.cuts.limit_is; no_fault = x.cuts.no_fault }; divides = x.divides }

room_in : (core : NodeCore) (c : Cutter) (piece : List ℕ) (f : Feeding) → Feeds core c piece f → fed_count c + length piece ≤ most_bytes → HasRoom piece f
room_in core c piece f x r = omega (arith, x.cuts.stands.count, r)

pub left_open : (stream : ℕ) (core later : NodeCore) (c last : Cutter) (piece : List ℕ) (f : Feeding) → Feeds core c piece f → fed_count c + length piece ≤ most_bytes → StaysOpen stream (with_piece piece f) later last → LeftOpen stream piece f later last
left_open stream core later c last piece f x r o = record { room = room_in core c piece f x r; then = o }

pub left_shut : (stream : ℕ) (core later : NodeCore) (c : Cutter) (piece : List ℕ) (f : Feeding) → Feeds core c piece f → fed_count c + length piece ≤ most_bytes → IsShut stream (with_piece piece f) later → LeftShut stream piece f later
left_shut stream core later c piece f x r o = record { room = room_in core c piece f x r; then = o }

pub unfed : (stream : ℕ) (core : NodeCore) (c : Cutter) (piece : List ℕ) (f : Feeding) → Feeds core c piece f → fed_count c + length piece ≤ most_bytes → LeftStarved stream piece f core
unfolding hear_all
unfed stream core c piece f x r = record { room = room_in core c piece f x r; then = record { some = []; others = f.added.messages; parts = refl; opens = refl; stands = x.stands } }
