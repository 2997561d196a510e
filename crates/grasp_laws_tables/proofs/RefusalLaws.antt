-- Readings of a clock, and the numbers and printed names of refusals.
use Rattle.std.proofs.Common.{◌≡◌, ℕ, ◌+◌, ◌-◌, ◌^◌, ◌<◌, ◌≤◌, nat_eq, List, [], ◌∷◌, Option, Some, refl, sym, ap, ◌∙◌, arith}
use Rattle.std.specs.Prelude.{find, bytes_eq}
use Rattle.grasp_types.specs.declared.refusal.ApiRefused.{ApiRefused}
use Rattle.grasp_types.specs.declared.refusal.ApiRefused.TheVariants.{NoAsa, AsasFull, DuplicateAsa, NotBoth, ObjectivesFull, ObjectiveTaken, NotYourObjective, NotNegotiable, NotSynchronizable, NotDry, BadLocator, NoSession, NotYourTurn, LoopsSpent, WaitsSpent, NoFlood, SessionsFull, StreamsFull, TooLong, OutboxFull, OutOfMemory}
use Rattle.grasp_types.specs.Reading.{reading_after}
use Rattle.grasp_types.specs.Refusal.{refusal_number, refusal_name}
use Rattle.grasp_laws_tables.specs.Refusals.{ReadingsAreSums, RefusalsDiffer}

-- Readings

within_sum : (now millis : ℕ) → now + millis < 2 ^ 64 → reading_after now millis ≡ now + millis
within_sum now millis h = grind (arith, h)

past_sum : (now millis : ℕ) → 2 ^ 64 ≤ now + millis → reading_after now millis ≡ 2 ^ 64 - 1
past_sum now millis h = grind (arith, h)

pub sums : ReadingsAreSums
sums = record { sum = within_sum; greatest = past_sum }

-- Refusals

-- all of them, in the order of their numbers
abbrev all_refusals : List ApiRefused
all_refusals = NoAsa ∷ AsasFull ∷ DuplicateAsa ∷ NotBoth ∷ ObjectivesFull ∷ ObjectiveTaken ∷ NotYourObjective ∷ NotNegotiable ∷ NotSynchronizable ∷ NotDry ∷ BadLocator ∷ NoSession ∷ NotYourTurn ∷ LoopsSpent ∷ WaitsSpent ∷ NoFlood ∷ SessionsFull ∷ StreamsFull ∷ TooLong ∷ OutboxFull ∷ OutOfMemory ∷ []

-- the refusal of a number, and that of a name
abbrev numbered : ℕ → Option ApiRefused
numbered n = find (λ x. nat_eq (refusal_number x) n) all_refusals

abbrev named : List ℕ → Option ApiRefused
named name = find (λ x. bytes_eq (refusal_name x) name) all_refusals

-- each is found by its number and by its name, and its number is 1 to 21
found : (x : ApiRefused) → (numbered (refusal_number x) ≡ Some x) × (named (refusal_name x) ≡ Some x)
found NoAsa = (refl, refl)
found _ = (refl, refl)

range : (x : ApiRefused) → (1 ≤ refusal_number x) × (refusal_number x ≤ 21)
range NoAsa = (omega arith, omega arith)
range _ = (omega arith, omega arith)

same_some : (x y : ApiRefused) → Some x ≡ Some y → x ≡ y
same_some x y e = cc

pub differ : RefusalsDiffer
differ = record {
  number = λ x y e. same_some x y (sym (found x).0 ∙ ap numbered e ∙ (found y).0);
  name = λ x y e. same_some x y (sym (found x).1 ∙ ap named e ∙ (found y).1);
  range = range;
}
