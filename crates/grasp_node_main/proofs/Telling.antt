-- Statuses, and the lines and numbers that tell them.
use Rattle.std.proofs.Common.{◌≡◌, ◌⊎◌, ◌∙◌, inl, inr, refl, sym, ap, arith, ℕ, List, [], ◌∷◌, ◌++◌, map, Option, Some}
use Rattle.std.specs.Prelude.{find, bytes_eq}
use Rattle.grasp_config.specs.declared.fault.ConfigKey.{ConfigKey}
use Rattle.grasp_config.specs.declared.fault.ConfigKey.TheVariants.{Address, Listen, Turns, Wait, Size, Roots, Link, Want, Beacon, Reader, Unknown, Toml}
use Rattle.grasp_node_main.specs.Exits.{number_of, fault_line_of, StatusesAreTold}
use Rattle.grasp_node_main.specs.declared.exit.Status.{Status}
use Rattle.grasp_node_main.specs.declared.exit.Status.TheVariants.{Ok, Usage, BadConfig, ReadFault, WriteFault, OutOfMemory, TooLarge, LinkFault}

-- ---- lines

abbrev all_keys : List ConfigKey
all_keys = Address ∷ Listen ∷ Turns ∷ Wait ∷ Size ∷ Roots ∷ Link ∷ Want ∷ Beacon ∷ Reader ∷ Unknown ∷ Toml ∷ []

abbrev all_statuses : List Status
all_statuses = Ok ∷ Usage ∷ ReadFault ∷ WriteFault ∷ OutOfMemory ∷ TooLarge ∷ LinkFault ∷ map (λ key. BadConfig key) all_keys

-- the status of a line
abbrev told_by : List ℕ → Option Status
told_by line = find (λ s. bytes_eq (fault_line_of s) line) all_statuses

-- each is found by its line
found_key : (key : ConfigKey) → told_by (fault_line_of (BadConfig key)) ≡ Some (BadConfig key)
found_key Address = refl
found_key _ = refl

found : (s : Status) → told_by (fault_line_of s) ≡ Some s
found (BadConfig key) = found_key key
found Ok = refl
found _ = refl

same_some : (a b : Status) → Some a ≡ Some b → a ≡ b
same_some a b e = cc

one_line : (a b : Status) → fault_line_of a ≡ fault_line_of b → a ≡ b
one_line a b e = same_some a b (sym (found a) ∙ ap told_by e ∙ found b)

-- ---- numbers

one_number : (a b : Status) → number_of a ≡ number_of b → (a ≡ b) ⊎ ((j k : ConfigKey) × (a ≡ BadConfig j) × (b ≡ BadConfig k))
one_number (BadConfig j) (BadConfig k) e = inr (j, k, refl, refl)
one_number Ok Ok e = inl refl
one_number Usage Usage e = inl refl
one_number ReadFault ReadFault e = inl refl
one_number WriteFault WriteFault e = inl refl
one_number OutOfMemory OutOfMemory e = inl refl
one_number TooLarge TooLarge e = inl refl
one_number LinkFault LinkFault e = inl refl
one_number _ _ e = absurd (omega (arith, e))

pub told : StatusesAreTold
told = record { line = one_line; number = one_number }
