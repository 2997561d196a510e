-- How the program ends where no read fails.
use Rattle.std.proofs.Common.{◌≡◌, ◌≢◌, inl, inr, arith, ap, ℕ, List, [], Option, None, Some, refl}
use Rattle.std.specs.Prelude.{⊤}
use Rattle.grasp_config.specs.Laws.{ConfigsHaveNoBadKey, TextsHaveOneBadKey}
use Rattle.grasp_config.specs.declared.fault.ConfigKey.{ConfigKey}
use Rattle.grasp_node_main.specs.Program.{EndsBadly, EndsLarge, EndsSo, IsAfterConfig, IsBadWithin, IsConfiguredWithin, IsLarge, IsOkOrMemory, SomeInput}
use Rattle.grasp_node_main.specs.declared.exit.Status.{Status}
use Rattle.grasp_node_main.specs.declared.exit.Status.TheVariants as status

-- R, L and K: the source, the links and the sink failed
pub record Ends (R L K : Type 0) (left : Option (List ℕ)) (s : Status) : Type 0 where
  pub no_usage : s ≢ status.Usage
  pub read_fault : s ≡ status.ReadFault → R
  pub link_fault : s ≡ status.LinkFault → L
  pub write_fault : s ≡ status.WriteFault → K
  pub too_large : s ≡ status.TooLarge → SomeInput left IsLarge
  pub bad_config : (key : ConfigKey) → s ≡ status.BadConfig key → SomeInput left (IsBadWithin key)
  pub configured : IsAfterConfig s → SomeInput left IsConfiguredWithin

-- ---- one input

large_refused : (input : List ℕ) → IsLarge input → EndsLarge status.TooLarge input
large_refused input large = λ l. inl refl

large_not_bad : (input : List ℕ) → IsLarge input → EndsBadly status.TooLarge input
large_not_bad input large = λ key small bad. absurd (omega (arith, large, small))

large_so : (input : List ℕ) → IsLarge input → EndsSo status.TooLarge input
large_so input large = record {
  large = large_refused input large;
  bad = large_not_bad input large;
  well = λ small is. absurd (omega (arith, large, small));
}

bad_not_large : (key : ConfigKey) (input : List ℕ) → IsBadWithin key input → EndsLarge (status.BadConfig key) input
bad_not_large key input b = λ large. absurd (omega (arith, large, b.small))

module _ (one : TextsHaveOneBadKey) where
  bad_refused : (key : ConfigKey) (input : List ℕ) → IsBadWithin key input → EndsBadly (status.BadConfig key) input
  bad_refused key input b = λ other small bad. inl (ap (λ k. status.BadConfig k) (one input key other b.bad bad))

configured_not_large : (s : Status) (input : List ℕ) → IsConfiguredWithin input → EndsLarge s input
configured_not_large s input c = λ large. absurd (omega (arith, large, c.small))

module _ (none : ConfigsHaveNoBadKey) where
  configured_not_bad : (s : Status) (input : List ℕ) → IsConfiguredWithin input → EndsBadly s input
  configured_not_bad s input c = λ key small bad. absurd (none input c.is.config key c.is.has bad)

  configured_so : (s : Status) → IsOkOrMemory s → (input : List ℕ) → IsConfiguredWithin input → EndsSo s input
  configured_so s well input c = record {
    large = configured_not_large s input c;
    bad = configured_not_bad s input c;
    well = λ small is. well;
  }

  module _ (one : TextsHaveOneBadKey) where
    bad_so : (key : ConfigKey) (input : List ℕ) → IsBadWithin key input → EndsSo (status.BadConfig key) input
    bad_so key input b = record {
      large = bad_not_large key input b;
      bad = bad_refused one key input b;
      well = λ small is. absurd (none input is.config key is.has b.bad);
    }

starved_large : (input : List ℕ) → EndsLarge status.OutOfMemory input
starved_large input = λ large. inr refl

starved_bad : (input : List ℕ) → EndsBadly status.OutOfMemory input
starved_bad input = λ key small bad. inr refl

starved_so : (input : List ℕ) → EndsSo status.OutOfMemory input
starved_so input = record { large = starved_large input; bad = starved_bad input; well = λ small is. tt }

-- ---- some input

-- an input that is the known one, where one is known
any_input : (left : Option (List ℕ)) → SomeInput left (λ i. ⊤)
any_input None = record { input = []; told = tt; holds = tt }
any_input (Some input) = record { input = input; told = refl; holds = tt }

-- what is so of some input
some_so : (left : Option (List ℕ)) (P Q : List ℕ → Type 0) → ((i : List ℕ) → P i → Q i) → SomeInput left P → SomeInput left Q
some_so left P Q f x = record { input = x.input; told = x.told; holds = f x.input x.holds }

-- what is so of every input
all_so : (left : Option (List ℕ)) (Q : List ℕ → Type 0) → ((i : List ℕ) → Q i) → SomeInput left Q
all_so left Q f = some_so left (λ i. ⊤) Q (λ i x. f i) (any_input left)

pub ends_so : (R L K : Type 0) (left : Option (List ℕ)) (s : Status) → Ends R L K left s → ConfigsHaveNoBadKey → TextsHaveOneBadKey → ¬ R → ¬ L → ¬ K
    → SomeInput left (EndsSo s)
ends_so R L K left status.Ok h none one r l k = some_so left IsConfiguredWithin (EndsSo status.Ok) (configured_so none status.Ok tt) (h.configured tt)
ends_so R L K left status.Usage h none one r l k = absurd (h.no_usage refl)
ends_so R L K left (status.BadConfig key) h none one r l k =
    some_so left (IsBadWithin key) (EndsSo (status.BadConfig key)) (bad_so none one key) (h.bad_config key refl)
ends_so R L K left status.ReadFault h none one r l k = absurd (r (h.read_fault refl))
ends_so R L K left status.WriteFault h none one r l k = absurd (k (h.write_fault refl))
ends_so R L K left status.OutOfMemory h none one r l k = all_so left (EndsSo status.OutOfMemory) starved_so
ends_so R L K left status.TooLarge h none one r l k = some_so left IsLarge (EndsSo status.TooLarge) large_so (h.too_large refl)
ends_so R L K left status.LinkFault h none one r l k = absurd (l (h.link_fault refl))

pub ends_badly : (R L K : Type 0) (left : Option (List ℕ)) (s : Status) → Ends R L K left s → ConfigsHaveNoBadKey → TextsHaveOneBadKey → ¬ R
    → SomeInput left (EndsBadly s)
ends_badly R L K left status.Ok h none one r = some_so left IsConfiguredWithin (EndsBadly status.Ok) (configured_not_bad none status.Ok) (h.configured tt)
ends_badly R L K left status.Usage h none one r = absurd (h.no_usage refl)
ends_badly R L K left (status.BadConfig key) h none one r =
    some_so left (IsBadWithin key) (EndsBadly (status.BadConfig key)) (bad_refused one key) (h.bad_config key refl)
ends_badly R L K left status.ReadFault h none one r = absurd (r (h.read_fault refl))
ends_badly R L K left status.WriteFault h none one r =
    some_so left IsConfiguredWithin (EndsBadly status.WriteFault) (configured_not_bad none status.WriteFault) (h.configured tt)
ends_badly R L K left status.OutOfMemory h none one r = all_so left (EndsBadly status.OutOfMemory) starved_bad
ends_badly R L K left status.TooLarge h none one r = some_so left IsLarge (EndsBadly status.TooLarge) large_not_bad (h.too_large refl)
ends_badly R L K left status.LinkFault h none one r =
    some_so left IsConfiguredWithin (EndsBadly status.LinkFault) (configured_not_bad none status.LinkFault) (h.configured tt)

pub ends_large : (R L K : Type 0) (left : Option (List ℕ)) (s : Status) → Ends R L K left s → ¬ R → SomeInput left (EndsLarge s)
ends_large R L K left status.Ok h r = some_so left IsConfiguredWithin (EndsLarge status.Ok) (configured_not_large status.Ok) (h.configured tt)
ends_large R L K left status.Usage h r = absurd (h.no_usage refl)
ends_large R L K left (status.BadConfig key) h r = some_so left (IsBadWithin key) (EndsLarge (status.BadConfig key)) (bad_not_large key) (h.bad_config key refl)
ends_large R L K left status.ReadFault h r = absurd (r (h.read_fault refl))
ends_large R L K left status.WriteFault h r = some_so left IsConfiguredWithin (EndsLarge status.WriteFault) (configured_not_large status.WriteFault) (h.configured tt)
ends_large R L K left status.OutOfMemory h r = all_so left (EndsLarge status.OutOfMemory) starved_large
ends_large R L K left status.TooLarge h r = some_so left IsLarge (EndsLarge status.TooLarge) large_refused (h.too_large refl)
ends_large R L K left status.LinkFault h r = some_so left IsConfiguredWithin (EndsLarge status.LinkFault) (configured_not_large status.LinkFault) (h.configured tt)
