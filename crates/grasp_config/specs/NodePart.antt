-- The node's own part of a table, where the node serves.
use Rattle.std.specs.Prelude.{ℕ, pos, if◌then◌else◌, List, Option, Some, None, codes}
use Rattle.std.specs.Ordering.{nat_cmp, match_ordering}
use Rattle.std.specs.Cmp.Lexicographic.{slice_cmp}
use Rattle.toml.specs.Data.{Data, integer, Members, no_members, member, get_member, same_key, as_table}
use Rattle.grasp_config.specs.Table.{◌>>=◌}

-- the members without this key, which stands among them once at most
abbrev pub without : List ℕ → Members → Members
without key no_members = no_members
without key (member name value members) = if same_key key name then members else member name value (without key members)

-- the members with this value at this key, at its place in the order
abbrev pub with_member : List ℕ → Data → Members → Members
with_member key value no_members = member key value no_members
with_member key value (member name other members) = match_ordering (slice_cmp nat_cmp key name) (member key value (member name other members)) (member name value members) (member name other (with_member key value members))

-- one turn where the turns are absent, of which a node that serves makes no use
abbrev pub with_turns : Option Data → Members → Members
with_turns None table = with_member (codes "turns") (integer (pos 1)) table
with_turns (Some turns) table = table

-- the table without its table `serve`, and with turns
unfoldable pub node_part : Members → Members
node_part whole = with_turns (get_member (codes "turns") (without (codes "serve") whole)) (without (codes "serve") whole)

-- the table that a value is, where there is one
abbrev pub table_in : Option Data → Option Members
table_in found = found >>= as_table

-- the table `serve`
abbrev pub serve_part : Members → Option Members
serve_part whole = table_in (get_member (codes "serve") whole)
