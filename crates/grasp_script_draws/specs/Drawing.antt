-- Inside: what the code keeps of a round's draws.
use Rattle.std.specs.Prelude.{◌≡◌}
use Rattle.grasp_script_draws.specs.Generator.{Draws}
use Rattle.grasp_script_draws.specs.declared.draws.RoundDraws.{RoundDraws}

-- the draws as definitions name them
abbrev pub drawn_of : RoundDraws → Draws
drawn_of d = record { asking = d.asking; asked = d.asked; length = d.length; chance = d.chance }

abbrev pub IsDrawn : RoundDraws → Draws → Type 0
IsDrawn code d = drawn_of code ≡ d
