-- Each network to which first lines lead is one of the networks of a run.
use Rattle.std.proofs.Common.{◌≡◌, refl, List, [], ◌∷◌, ◌++◌, Contains}
use Rattle.std.proofs.lemmas.List.Elements.{Contains-append_left, Contains-append_right, Contains-push}
use Rattle.grasp_model_network.specs.Setting.{Setting}
use Rattle.grasp_model_network.specs.World.{WorldState}
use Rattle.grasp_model_script.proofs.MoreLines.{network_more}
use Rattle.grasp_model_script.specs.Laws.{NetworksAreListed}
use Rattle.grasp_model_script.specs.LineRuns.{LineRun, after_line}
use Rattle.grasp_model_script.specs.ScriptRuns.{network_after, networks_from}

first_listed : (s : Setting) (w : WorldState) (xs : List LineRun) → Contains (networks_from s w xs) w
unfolding networks_from
first_listed s w [] = Contains-push [] w
first_listed s w (x ∷ xs) = Contains-append_left (w ∷ []) (networks_from s (after_line s w x) xs) w (Contains-push [] w)

each_listed : (s : Setting) (xs ys : List LineRun) (w : WorldState) → Contains (networks_from s w (xs ++ ys)) (network_after s w xs)
unfolding networks_from network_after
each_listed s [] ys w = first_listed s w ys
each_listed s (x ∷ xs) ys w =
    Contains-append_right (w ∷ []) (networks_from s (after_line s w x) (xs ++ ys)) (network_after s (after_line s w x) xs) (each_listed s xs ys (after_line s w x))

none_behind : (s : Setting) (w : WorldState) → network_after s w [] ≡ w
unfolding network_after
none_behind s w = refl

pub networks_are_listed : NetworksAreListed
networks_are_listed = record { none = none_behind; more = λ s w xs x. network_more s xs x w; each = λ s w xs ys. each_listed s xs ys w }
