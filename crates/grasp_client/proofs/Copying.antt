-- What lines do that are taken from one place and put to another.
use Rattle.std.proofs.Common.{◌≡◌, ◌≢◌, ◌≤◌, ℕ, List, [], ◌∷◌, ◌++◌, length, take, get_or, Option, None, Some, refl, sym, ap, ◌∙◌, subst, append-nil, arith}
use Rattle.std.proofs.KnownBytes.{Consumes-nil, Appends-nil, Consumes-trans, Appends-trans}
use Rattle.std.proofs.lemmas.Grind.{flat_map-append, common_steps}
use Rattle.std.proofs.lemmas.List.Elements.{All-nil, All-cons, All-append}
use Rattle.std.specs.Io.KnownBytes.{Consumes, Appends}
use Rattle.grasp_io.specs.Known.{EndsExactly}
use Rattle.grasp_client.specs.Lines.{IsLine, ended, text_of, RunsOut, Copies, GotLine}

-- lines, and then more of them
pub text_of-append : (before behind : List (List ℕ)) → text_of (before ++ behind) ≡ text_of before ++ text_of behind
text_of-append before behind = flat_map-append ended before behind

-- one line
pub text_of-one : (line : List ℕ) → text_of (line ∷ []) ≡ ended line
text_of-one line = append-nil (ended line)

-- ---- one byte

take_one : (into : List ℕ) (n : ℕ) → length into ≡ 1 → n ≤ 1 → n ≢ 0 → take n into ≡ get_or into 0 0 ∷ []
take_one into n e le ne = grind (arith, common_steps)

-- a read into one place that gives something gives the byte there
pub byte_taken : (a b : Option (List ℕ)) (into : List ℕ) (n : ℕ) → Consumes a b (take n into) → length into ≡ 1 → n ≤ length into → n ≢ 0
    → Consumes a b (get_or into 0 0 ∷ [])
byte_taken a b into n taken e le ne = subst (Consumes a b) (take_one into n e (omega (arith, e, le)) ne) taken

-- a read that gives nothing takes nothing
pub none_taken : (a b : Option (List ℕ)) (into : List ℕ) → Consumes a b (take 0 into) → Consumes a b []
none_taken a b into taken = taken

-- where a read gives nothing, nothing is left
pub none_left : (a b : Option (List ℕ)) (into : List ℕ) → Consumes a b (take 0 into) → EndsExactly a 0 → RunsOut a b
none_left None b into taken end = tt
none_left (Some x) None into taken end = absurd taken
none_left (Some x) (Some y) into taken end = ap Some (sym taken ∙ end.0 refl)

-- ---- lines

pub copies_none : (left put : Option (List ℕ)) → Copies left left put put []
copies_none left put = record { taken = Consumes-nil left; put = Appends-nil put; are_lines = All-nil IsLine }

pub copies_one : (a b x y : Option (List ℕ)) (line : List ℕ) → GotLine a b line → Appends x y (ended line) → Copies a b x y (line ∷ [])
copies_one a b x y line got put =
    let same = sym (text_of-one line) in
    record { taken = subst (Consumes a b) same got.taken; put = subst (Appends x y) same put; are_lines = All-cons IsLine line [] got.is_line (All-nil IsLine) }

pub copies_more : (a b c x y z : Option (List ℕ)) (lines more : List (List ℕ)) → Copies a b x y lines → Copies b c y z more → Copies a c x z (lines ++ more)
copies_more a b c x y z lines more first second =
    let same = sym (text_of-append lines more) in
    record {
      taken = subst (Consumes a c) same (Consumes-trans a b c _ _ first.taken second.taken);
      put = subst (Appends x z) same (Appends-trans x y z _ _ first.put second.put);
      are_lines = All-append IsLine lines more first.are_lines second.are_lines;
    }

-- what is taken first leaves something to run out
pub runs_out_behind : (a b c : Option (List ℕ)) (bytes : List ℕ) → Consumes a b bytes → RunsOut b c → RunsOut a c
runs_out_behind None b c bytes taken end = tt
runs_out_behind (Some x) None c bytes taken end = absurd taken
runs_out_behind (Some x) (Some y) c bytes taken end = end
