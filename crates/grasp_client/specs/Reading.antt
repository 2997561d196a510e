-- Inside: what reading a line gives.
use Rattle.std.specs.Prelude.{List, ℕ, Option}
use Rattle.grasp_client.specs.Lines.{GotLine, GotRest}
use Rattle.grasp_client.specs.declared.lines.Read.{Read}
use Rattle.grasp_client.specs.declared.lines.Read.TheVariants as read

-- Inside: a line was read, or what stood behind the last one
abbrev pub Got : Option (List ℕ) → Option (List ℕ) → Read → Type 0
Got before after (read.Line line) = GotLine before after line.items
Got before after (read.Rest rest) = GotRest before after rest.items
