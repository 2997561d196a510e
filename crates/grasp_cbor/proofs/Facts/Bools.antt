-- Facts of tests and of what they choose.
use Rattle.std.proofs.Common.{Bool, ◌&&◌, ◌≡◌, true, false, ◌||◌, refl, cond, ap}
use Rattle.std.proofs.lemmas.Bool.{true≢false}

-- where both tests pass, the second does
pub and_second : (a b : Bool) → (a && b) ≡ true → b ≡ true
and_second true b h = h
and_second false b h = absurd (cc)

-- where neither test passes, the first fails
pub left_false : (a b : Bool) → (a || b) ≡ false → a ≡ false
left_false true b e = absurd (true≢false e)
left_false false b e = refl

-- where neither test passes, the second fails
pub right_false : (a b : Bool) → (a || b) ≡ false → b ≡ false
right_false true b e = absurd (true≢false e)
right_false false b e = e

-- a test that doesn't pass fails
pub not_true : (b : Bool) → ¬ (b ≡ true) → b ≡ false
not_true true h = absurd (h refl)
not_true false h = refl

-- a test and one that fails don't both pass
pub and_false : (b : Bool) → (b && false) ≡ false
and_false true = refl
and_false false = refl

-- what is chosen where the test passes
pub chosen_yes : {A : Type 0} (b : Bool) (x y : A) → b ≡ true → cond b x y ≡ x
chosen_yes b x y e = ap (λ (t : Bool). cond t x y) e

-- what is chosen where the test fails
pub chosen_no : {A : Type 0} (b : Bool) (x y : A) → b ≡ false → cond b x y ≡ y
chosen_no b x y e = ap (λ (t : Bool). cond t x y) e
