-- Texts of ASCII are UTF-8.
use Rattle.std.proofs.Common.{◌≡◌, refl, ℕ, zero, suc, ◌<◌, nat_lt, ◌&&◌, Bool, true, List, [], ◌∷◌}
use Rattle.std.proofs.lemmas.Bool.{and_parts, ltb-true}
use Rattle.std.proofs.lemmas.Str.{IsUtf8-from_ascii}
use Rattle.std.proofs.lemmas.Str.Ascii.{IsAscii-nil}
use Rattle.std.specs.Prelude.{slice_index}
use Rattle.std.specs.Str.{IsAscii, IsUtf8}
use Rattle.grasp_doubter.specs.Questions.{doubt_name}

abbrev pub all_small : List ℕ → Bool
all_small [] = true
all_small (b ∷ bs) = nat_lt b 128 && all_small bs

small_ascii : (bs : List ℕ) → all_small bs ≡ true → IsAscii bs
small_ascii [] e i = IsAscii-nil i
small_ascii (b ∷ bs) e i = by_place i (and_parts (nat_lt b 128) (all_small bs) e) (small_ascii bs) where
  by_place : (j : ℕ) → (nat_lt b 128 ≡ true) × (all_small bs ≡ true) → (all_small bs ≡ true → IsAscii bs) → slice_index (b ∷ bs) j < 128
  by_place zero t rest = ltb-true b 128 t.0
  by_place (suc j) t rest = rest t.1 j

pub ascii_utf8 : (bs : List ℕ) → all_small bs ≡ true → IsUtf8 bs
ascii_utf8 bs small = IsUtf8-from_ascii bs (small_ascii bs small)

pub doubt_utf8 : IsUtf8 doubt_name
unfolding doubt_name
doubt_utf8 = ascii_utf8 doubt_name refl
