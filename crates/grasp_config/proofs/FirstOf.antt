-- The first of some keys that is bad.
use Rattle.std.proofs.Common.{◌≡◌, inl, inr, List, [], ◌∷◌, ◌++◌, Err, refl, sym, ◌∙◌}
use Rattle.grasp_config.specs.Serve.{FirstOf}
use Rattle.grasp_config.specs.ServeFaults.{IfBadServe}
use Rattle.grasp_config.specs.declared.serve_fault.ServeKey.{ServeKey}
use Rattle.grasp_config.specs.declared.serve_fault.ServeFault.{ServeFault}
use Rattle.grasp_config.specs.declared.serve_fault.ServeFault.TheVariants.{BadServe, OutOfMemory}

-- none of these keys is bad
abbrev pub NoneOf : {K : Type 0} → (K → Type 0) → List K → Type 0
NoneOf IsBad [] = Unit {0}
NoneOf IsBad (key ∷ keys) = (¬ IsBad key) × NoneOf IsBad keys

in_front : {K : Type 0} (IsBad : K → Type 0) (keys others : List K) (key : K) → FirstOf IsBad keys key → FirstOf IsBad (keys ++ others) key
in_front IsBad [] others key bad = absurd bad
in_front IsBad (first ∷ keys) others key (inl bad) = inl bad
in_front IsBad (first ∷ keys) others key (inr more) = inr (more.0, in_front IsBad keys others key more.1)

behind : {K : Type 0} (IsBad : K → Type 0) (keys others : List K) (key : K) → NoneOf IsBad keys → FirstOf IsBad others key → FirstOf IsBad (keys ++ others) key
behind IsBad [] others key good bad = bad
behind IsBad (first ∷ keys) others key good bad = inr (good.0, behind IsBad keys others key good.1 bad)

-- good keys, one behind the other
pub none_of_both : {K : Type 0} (IsBad : K → Type 0) (keys others : List K) → NoneOf IsBad keys → NoneOf IsBad others → NoneOf IsBad (keys ++ others)
none_of_both IsBad [] others good more = more
none_of_both IsBad (first ∷ keys) others good more = (good.0, none_of_both IsBad keys others good.1 more)

-- the first bad key of some, with good ones in front, and others behind
pub told_between : (A B : Type 0) (IsBad : ServeKey → Type 0) (before keys others : List ServeKey) (e : ServeFault) → NoneOf IsBad before
    → IfBadServe {A = A} (Err e) (FirstOf IsBad keys) → IfBadServe {A = B} (Err e) (FirstOf IsBad (before ++ (keys ++ others)))
told_between A B IsBad before keys others (BadServe key) good bad = behind IsBad before (keys ++ others) key good (in_front IsBad keys others key bad)
told_between A B IsBad before keys others OutOfMemory good bad = tt

-- of some keys at most one is the first bad key
pub one_first_of : {K : Type 0} (IsBad : K → Type 0) (keys : List K) (a b : K) → FirstOf IsBad keys a → FirstOf IsBad keys b → a ≡ b
one_first_of IsBad [] a b x y = absurd x
one_first_of IsBad (first ∷ others) a b (inl x) (inl y) = x.1 ∙ sym y.1
one_first_of IsBad (first ∷ others) a b (inl x) (inr y) = absurd (y.0 x.0)
one_first_of IsBad (first ∷ others) a b (inr x) (inl y) = absurd (x.0 y.0)
one_first_of IsBad (first ∷ others) a b (inr x) (inr y) = one_first_of IsBad others a b x.1 y.1

-- where no key is bad, none is the first bad one
pub no_first_of : {K : Type 0} (IsBad : K → Type 0) (keys : List K) (key : K) → ((k : K) → ¬ IsBad k) → ¬ FirstOf IsBad keys key
no_first_of IsBad [] key good = λ bad. bad
no_first_of IsBad (first ∷ others) key good = λ bad. elim bad [
  | inl here ↦ good first here.0
  | inr more ↦ no_first_of IsBad others key good more.1
]

-- the last key is the first bad one where those before it are good
pub last_of : {K : Type 0} (IsBad : K → Type 0) (keys : List K) (key : K) → NoneOf IsBad keys → IsBad key → FirstOf IsBad (keys ++ key ∷ []) key
last_of IsBad keys key good bad = behind IsBad keys (key ∷ []) key good (inl (bad, refl))
