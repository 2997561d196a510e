-- Going over the keys of a table.
use Rattle.std.proofs.Common.{◌≡◌, ℕ, Bool, true, false, ◌&&◌, List, [], ◌∷◌, string_bytes, refl, ap}
use Rattle.std.specs.List.{list_any}
use Rattle.std.specs.Str.{bytes_eq}
use Rattle.toml.specs.View.{members_view}
use Rattle.toml.proofs.Views.{Entry}
use Rattle.grasp_config.specs.Table.{has_only}

-- a known key, and the others
pub known_first : (known : List (List ℕ)) (e : Entry) (rest : List Entry) → list_any (bytes_eq (string_bytes e.0)) known ≡ true
    → has_only known (members_view (e ∷ rest)) ≡ has_only known (members_view rest)
unfolding has_only
known_first known e rest is = ap (λ (b : Bool). b && has_only known (members_view rest)) is

-- a key that isn't known
pub unknown_first : (known : List (List ℕ)) (e : Entry) (rest : List Entry) → list_any (bytes_eq (string_bytes e.0)) known ≡ false
    → has_only known (members_view (e ∷ rest)) ≡ false
unfolding has_only
unknown_first known e rest is = ap (λ (b : Bool). b && has_only known (members_view rest)) is

pub none_unknown : (known : List (List ℕ)) → has_only known (members_view []) ≡ true
unfolding has_only
none_unknown known = refl
