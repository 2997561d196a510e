-- No head begins another.
use Rattle.std.proofs.Common.{◌≡◌, ℕ, ◌<◌, List, ◌++◌, refl, sym, ap, ◌∙◌}
use Rattle.grasp_cbor.specs.Head.{HeadSize, direct, argument_limit, sized_head}
use Rattle.grasp_cbor.specs.Major.{major_number}
use Rattle.grasp_cbor.specs.declared.heads.Head.{Head}
use Rattle.grasp_cbor.specs.declared.heads.Major.{Major}
use Rattle.grasp_cbor.specs.Build.{value_of, head_at}
use Rattle.grasp_cbor.proofs.Takes.{ok_is, size_in}
use Rattle.grasp_cbor.proofs.HeadsRead.{head_again, argument_of, value_of-argument_of}

pub record IsSame (a b : HeadSize) (k m : Major) (n p : ℕ) (x y : List ℕ) : Type 0 where
  pub size : a ≡ b
  pub major : k ≡ m
  pub number : n ≡ p
  pub rest : x ≡ y

size_in-argument_of : (size : HeadSize) (n : ℕ) → size_in (argument_of size n) ≡ size
size_in-argument_of direct n = refl
size_in-argument_of _ n = refl

pub same_head : (a b : HeadSize) (k m : Major) (n p : ℕ) (x y : List ℕ) → n < argument_limit a → p < argument_limit b → sized_head a (major_number k) n ++ x ≡ sized_head b (major_number m) p ++ y → IsSame a b k m n p x y
same_head a b k m n p x y l h e =
    let q : Head × List ℕ = (record { major = k; argument = argument_of a n }, x) in
    let r : Head × List ℕ = (record { major = m; argument = argument_of b p }, y) in
    let s : q ≡ r = ok_is q r (sym (head_again a k n x l) ∙ ap head_at e ∙ head_again b m p y h) in
    record {
      size = sym (size_in-argument_of a n) ∙ ap (λ (z : Head × List ℕ). size_in z.0.argument) s ∙ size_in-argument_of b p;
      major = ap (λ (z : Head × List ℕ). z.0.major) s;
      number = sym (value_of-argument_of a n) ∙ ap (λ (z : Head × List ℕ). value_of z.0.argument) s ∙ value_of-argument_of b p;
      rest = ap (λ (z : Head × List ℕ). z.1) s;
    }
