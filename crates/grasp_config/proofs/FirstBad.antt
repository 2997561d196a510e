-- The first key that is bad, key by key.
use Rattle.std.proofs.Common.{◌≡◌, inl, inr, List, [], ◌∷◌, ◌++◌, Option, Some, None, Err, sym, subst, ◌∙◌}
use Rattle.toml.specs.Data.{Members}
use Rattle.grasp_pool.specs.declared.roots.RootPrefix.{RootPrefix}
use Rattle.grasp_config.specs.Config.{AreRoots, AreBadRoots, IsBadKey, FirstBadOf}
use Rattle.grasp_config.specs.Groups.{basic_keys, AreBasics}
use Rattle.grasp_config.specs.declared.read.Basics.{Basics}
use Rattle.grasp_config.specs.Faults.{IfBadConfig}
use Rattle.grasp_config.specs.declared.fault.ConfigKey.{ConfigKey}
use Rattle.grasp_config.specs.declared.fault.ConfigFault.{ConfigFault}
use Rattle.grasp_config.specs.declared.fault.ConfigFault.TheVariants.{BadConfig, OutOfMemory}

-- what is read isn't missing
pub is_read : {A : Type 0} (found : Option A) (a : A) → found ≡ Some a → ¬ (found ≡ None)
is_read found a is none = let e : Some a ≡ None = sym is ∙ none in cc

-- what is told of some keys, told of all
pub told_of : (A B : Type 0) (P Q : ConfigKey → Type 0) (e : ConfigFault) → ((key : ConfigKey) → P key → Q key) → IfBadConfig {A = A} (Err e) P → IfBadConfig {A = B} (Err e) Q
told_of A B P Q (BadConfig k) all h = all k h
told_of A B P Q OutOfMemory all h = tt

-- no key of these is bad
abbrev pub AreGood : Members → List ConfigKey → Type 0
AreGood table [] = Unit {0}
AreGood table (key ∷ keys) = (¬ IsBadKey table key) × AreGood table keys

-- the first bad key of some, where others stand behind them, and where good ones stand before them
pub in_front : (table : Members) (keys others : List ConfigKey) (key : ConfigKey) → FirstBadOf table keys key → FirstBadOf table (keys ++ others) key
in_front table [] others key bad = absurd bad
in_front table (first ∷ keys) others key (inl bad) = inl bad
in_front table (first ∷ keys) others key (inr more) = inr (more.0, in_front table keys others key more.1)

pub further : (table : Members) (keys others : List ConfigKey) (key : ConfigKey) → AreGood table keys → FirstBadOf table others key → FirstBadOf table (keys ++ others) key
further table [] others key good bad = bad
further table (first ∷ keys) others key good bad = inr (good.0, further table keys others key good.1 bad)

pub good_roots : (found : Option (List RootPrefix)) (roots : List RootPrefix) → found ≡ Some roots → AreRoots roots → ¬ AreBadRoots found
good_roots found roots is good = subst (λ (o : Option (List RootPrefix)). ¬ AreBadRoots o) (sym is) (λ bad. bad good)

-- the keys of the first group are good
pub basics_good : (table : Members) (basics : Basics) → AreBasics table basics → AreGood table basic_keys
basics_good table basics is = (is_read _ basics.address is.address, (is_read _ basics.listen is.listen, (is_read _ basics.turns is.turns, (is_read _ basics.wait is.wait, (is_read _ basics.size is.size, tt)))))

-- of some keys at most one is the first bad key
pub one_first : (table : Members) (keys : List ConfigKey) (a b : ConfigKey) → FirstBadOf table keys a → FirstBadOf table keys b → a ≡ b
one_first table [] a b x y = absurd x
one_first table (first ∷ others) a b (inl x) (inl y) = x.1 ∙ sym y.1
one_first table (first ∷ others) a b (inl x) (inr y) = absurd (y.0 x.0)
one_first table (first ∷ others) a b (inr x) (inl y) = absurd (x.0 y.0)
one_first table (first ∷ others) a b (inr x) (inr y) = one_first table others a b x.1 y.1
