-- What a clock in memory has given.
use Rattle.std.proofs.Common.{◌≡◌, ◌<◌, ◌≤◌, ◌+◌, ℕ, zero, suc, List, [], ◌∷◌, ◌++◌, length, take, get_or, min, sym, ap, ◌∙◌, subst, arith}
use Rattle.std.specs.Prelude.{max}
use Rattle.std.proofs.Math.Numerals.{add-one}
use Rattle.std.proofs.lemmas.List.{take_all}
use Rattle.grasp_io.specs.MemoryClock.{highest, readings_of}

highest_more : (xs : List ℕ) (n x : ℕ) → n < length xs → x ≡ get_or xs n x → highest (take (suc n) xs) ≡ max (highest (take n xs)) x
unfolding highest
highest_more [] n x l e = omega (arith, l)
highest_more (y ∷ ys) zero x l e = omega (arith, e)
highest_more (y ∷ ys) (suc n) x l e = omega (arith, highest_more ys n x (omega (arith, l)) e)

-- a reading that comes is the highest so far, or the highest before it is
pub highest_next : (given : List ℕ) (next count reading latest : ℕ) → next < length given → reading ≡ get_or given next reading
    → next ≡ min count (length given) → latest ≡ highest (take count given) → max latest reading ≡ highest (take (count + 1) given)
highest_next given next count reading latest l e p h =
    let at : next ≡ count = omega (arith, l, p) in
    let e' : reading ≡ get_or given count reading = subst (λ n. reading ≡ get_or given n reading) at e in
    ap (λ k. max k reading) h ∙ sym (highest_more given count reading (omega (arith, l, at)) e') ∙ ap (λ n. highest (take n given)) (sym (add-one count))

-- after the last one the highest stays
pub highest_past : (given : List ℕ) (next count latest : ℕ) → length given ≤ next
    → next ≡ min count (length given) → latest ≡ highest (take count given) → latest ≡ highest (take (count + 1) given)
highest_past given next count latest l p h =
    let long : length given ≤ count = omega (arith, l, p) in
    h ∙ ap highest (take_all count given long ∙ sym (take_all (count + 1) given (omega (arith, long))))

-- one more reading is told
pub readings_more : (given : List ℕ) (before count latest : ℕ) → count ≡ before + 1 → latest ≡ highest (take count given)
    → readings_of given count ≡ readings_of given before ++ latest ∷ []
unfolding readings_of
readings_more given before count latest e h =
    let one : count ≡ suc before = e ∙ add-one before in
    ap (readings_of given) one ∙ ap (λ l. readings_of given before ++ l ∷ []) (ap (λ n. highest (take n given)) (sym one) ∙ sym h)

-- before the first one
pub none_highest : (given : List ℕ) (count : ℕ) → count ≡ 0 → 0 ≡ highest (take count given)
unfolding highest
none_highest given count e = sym (ap (λ n. highest (take n given)) e)

pub none_told : (given : List ℕ) (count : ℕ) → count ≡ 0 → readings_of given count ≡ []
unfolding readings_of
none_told given count e = ap (readings_of given) e
