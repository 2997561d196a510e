-- The reports of crashes. The layout is this project's own.
use Rattle.std.specs.Prelude.{ℕ, List, ◌∷◌, ◌++◌, codes}
use Rattle.grasp_pool.specs.declared.image.PoolImage.{PoolImage}
use Rattle.grasp_text.specs.Words.{spaced}
use Rattle.grasp_script.specs.Answers.{prefix_words}

-- an image: the prefixes that are to be held, and those that are to be in doubt
abbrev pub image_words : PoolImage → List (List ℕ)
image_words image = codes "held" ∷ (prefix_words image.free ++ codes "doubt" ∷ prefix_words image.doubtful)

-- the report of a crash is its line, ` = restarted ` and the image with which the node began anew
abbrev pub told_restart : List ℕ → PoolImage → List ℕ
told_restart text image = text ++ spaced (codes "=" ∷ codes "restarted" ∷ image_words image)
