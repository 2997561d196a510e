-- Which session number a node draws next.
use Rattle.std.proofs.Common.{◌≡◌, ◌≤◌, ◌<◌, ◌+◌, ◌^◌, ◌%◌, ℕ, zero, suc, Bool, true, false, cond, refl, sym, ◌∙◌, subst, arith}
use Rattle.grasp_laws_node.proofs.Numbers.Used.{few_unused, in_use_few}
use Rattle.grasp_laws_numbers.specs.Next.{DrawnIsNext}
use Rattle.grasp_laws_session.proofs.Runs.{calls_in_order}
use Rattle.grasp_model_node.proofs.Facts.{word_below}
use Rattle.grasp_model_node.specs.Draws.{first_unused, is_used, next_word}

-- the first number that isn't used, or the last that is looked at: those before it are used
record Raised (used : ℕ → Bool) (number found most : ℕ) : Type 0 where
  count : ℕ
  few : count ≤ most
  is : found ≡ (number + count) % 2 ^ 32
  before : (k : ℕ) → k < count → used ((number + k) % 2 ^ 32) ≡ true

itself : (number : ℕ) → number < 2 ^ 32 → (number + 0) % 2 ^ 32 ≡ number
itself number small = omega (arith, small)

next : (number k : ℕ) → number < 2 ^ 32 → suc k < 2 ^ 32 → ((number + 1) % 2 ^ 32 + k) % 2 ^ 32 ≡ (number + suc k) % 2 ^ 32
next number k small h = omega (arith, small, h)

below : (number : ℕ) → (number + 1) % 2 ^ 32 < 2 ^ 32
below number = omega arith

none_before : (used : ℕ → Bool) (number most : ℕ) → number < 2 ^ 32 → Raised used number number most
none_before used number most small = record { count = 0; few = omega arith; is = sym (itself number small); before = λ k lt. absurd (omega (arith, lt)) }

raised : (used : ℕ → Bool) (most number : ℕ) → number < 2 ^ 32 → most < 2 ^ 32 → Raised used number (first_unused used most number) most
unfolding first_unused
raised used zero number small few = none_before used number 0 small
raised used (suc most) number small few = by_test (used number) refl (raised used most ((number + 1) % 2 ^ 32) (below number) (omega (arith, few))) where
  one_more : used number ≡ true → Raised used ((number + 1) % 2 ^ 32) (first_unused used most ((number + 1) % 2 ^ 32)) most → Raised used number (first_unused used most ((number + 1) % 2 ^ 32)) (suc most)
  one_more e r = record {
    count = suc r.count;
    few = let h = r.few in omega (arith, h);
    is = r.is ∙ next number r.count small (let h = r.few in omega (arith, h, few));
    before = before;
  } where
    before : (k : ℕ) → k < suc r.count → used ((number + k) % 2 ^ 32) ≡ true
    before zero lt = subst (λ m. used m ≡ true) (sym (itself number small)) e
    before (suc k) lt = subst (λ m. used m ≡ true) (next number k small (let h = r.few in omega (arith, h, few, lt))) (r.before k (omega (arith, lt)))

  by_test : (b : Bool) → used number ≡ b → Raised used ((number + 1) % 2 ^ 32) (first_unused used most ((number + 1) % 2 ^ 32)) most
      → Raised used number (cond b (first_unused used most ((number + 1) % 2 ^ 32)) number) (suc most)
  by_test true e r = one_more e r
  by_test false e r = none_before used number (suc most) small

pub drawn_is_next : DrawnIsNext
drawn_is_next n k =
    let r = raised (is_used n) 128 (next_word n) (word_below n) (omega arith) in
    let long = (calls_in_order n.sessions k.sessions).long in
    record {
      raised = r.count;
      number_is = r.is;
      unused = (few_unused n (in_use_few n (omega (arith, long)) k.discoveries.few_searches)).0;
      lesser = r.before;
    }
