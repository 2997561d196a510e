-- More lives, and more calls of floods in them.
use Rattle.std.proofs.Common.{◌≡◌, ℕ, ◌-◌, List, [], ◌∷◌, ◌++◌, slice_get, Some}
use Rattle.std.specs.Prelude.{Contains}
use Rattle.std.proofs.lemmas.List.Elements.{Contains-append_left}
use Rattle.std.proofs.lemmas.Option.{get_or_from_slice_get, slice_get_within}
use Rattle.grasp_laws_network.proofs.Appended.{numbered_get, numbered_before}
use Rattle.grasp_model_network.specs.Setting.{Member, numbered}
use Rattle.grasp_model_network.specs.World.{FloodCall}

-- what has a number is one of them
pub numbered_contains : {A : Type 0} (xs : List A) (n : ℕ) (x : A) → numbered xs n ≡ Some x → Contains xs x
numbered_contains xs n x e = at_place (numbered_get xs n x e) where
  at_place : slice_get xs (n - 1) ≡ Some x → Contains xs x
  at_place f = (n - 1, slice_get_within xs (n - 1) x f, get_or_from_slice_get xs (n - 1) x x f)

-- each life is still whose it was, and each of the calls is still one of them
pub record IsMore (ms ns : List Member) (calls called : List FloodCall) : Type 0 where
  pub lives : (n : ℕ) (m : Member) → numbered ms n ≡ Some m → numbered ns n ≡ Some m
  pub among : (c : FloodCall) → Contains calls c → Contains called c

-- with more calls
pub more_calls : (ms : List Member) (calls more : List FloodCall) → IsMore ms ms calls (calls ++ more)
more_calls ms calls more = record { lives = λ n m e. e; among = λ c has. Contains-append_left calls more c has }

-- with one life more
pub more_lives : (ms : List Member) (m : Member) (calls : List FloodCall) → IsMore ms (ms ++ m ∷ []) calls calls
more_lives ms m calls = record { lives = λ n other e. numbered_before ms m n other e; among = λ c has. has }
