-- What is read of a TOML table and of the values in it.
use Rattle.std.specs.Prelude.{ℕ, ℤ, pos, negsuc, Bool, true, ◌&&◌, nat_le, if◌then◌else◌, List, [], ◌∷◌, length, Option, Some, None}
use Rattle.std.specs.List.{list_any}
use Rattle.std.specs.Str.{bytes_eq}
use Rattle.toml.specs.Data.{Data, Items, no_items, item, Members, no_members, member, as_str, as_integer, as_array, as_table, get_member}

infixl 10 ◌>>=◌
-- what is read of what was found, where something was
abbrev pub ◌>>=◌ : {A B : Type 0} → Option A → (A → Option B) → Option B
None >>= read = None
(Some a) >>= read = read a

-- an integer from least to most
abbrev pub whole_in : ℕ → ℕ → ℤ → Option ℕ
whole_in least most (pos n) = if nat_le least n && nat_le n most then Some n else None
whole_in least most (negsuc n) = None

abbrev pub number_in : ℕ → ℕ → Data → Option ℕ
number_in least most value = as_integer value >>= whole_in least most

-- the text at a key, and the number from least to most at a key
abbrev pub text_at : List ℕ → Members → Option (List ℕ)
text_at key table = get_member key table >>= as_str

abbrev pub number_at : ℕ → ℕ → List ℕ → Members → Option ℕ
number_at least most key table = get_member key table >>= number_in least most

-- what stands where a key is absent, or what is read of the key's value
abbrev pub or_absent : {A : Type 0} → A → (Data → Option A) → Option Data → Option A
or_absent absent read None = Some absent
or_absent absent read (Some value) = read value

-- one before the others
abbrev pub onto : {A : Type 0} → A → Option (List A) → Option (List A)
onto first others = others >>= λ rest. Some (first ∷ rest)

-- what is read of each item, in order
unfoldable pub each : {A : Type 0} → (Data → Option A) → Items → Option (List A)
each read no_items = Some []
each read (item value items) = read value >>= λ first. onto first (each read items)

abbrev pub list_of : {A : Type 0} → (Data → Option A) → Data → Option (List A)
list_of read value = as_array value >>= each read

-- a list that has no more than so many
abbrev pub at_most : {A : Type 0} → ℕ → List A → Option (List A)
at_most most list = if nat_le (length list) most then Some list else None

-- each key of the table is one of these
unfoldable pub has_only : List (List ℕ) → Members → Bool
has_only known no_members = true
has_only known (member key value members) = list_any (bytes_eq key) known && has_only known members

-- a table that has no other keys than these
abbrev pub only_with : List (List ℕ) → Members → Option Members
only_with known table = if has_only known table then Some table else None

abbrev pub table_of : List (List ℕ) → Data → Option Members
table_of known value = as_table value >>= only_with known
