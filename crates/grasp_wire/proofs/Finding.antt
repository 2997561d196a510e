-- What is found in the bytes that are kept.
use Rattle.std.proofs.Common.{◌≡◌, ℕ, ◌+◌, ◌-◌, List, [], length, take, drop, Option, Result, Err, refl, ap, subst, ◌∙◌, arith}
use Rattle.std.proofs.lemmas.List.{take_rest}
use Rattle.grasp_cbor.specs.ItemReader.{EndsWith}
use Rattle.grasp_cbor.specs.declared.walker.FaultName.TheVariants as name
use Rattle.grasp_cbor.specs.declared.read.ItemFault.{ItemFault}
use Rattle.grasp_cbor.specs.declared.read.ItemFault.TheVariants.{Malformed, NotText, TooDeep, TooLong, OutOfMemory}
use Rattle.grasp_wire.specs.ReadOn.{AnswersRest, cut_of}
use Rattle.grasp_wire.specs.Stream.{too_long, faulty}
use Rattle.grasp_wire.specs.Stands.{AnswersFound}

-- the slice from the start on
pub kept_rest : (view held : List ℕ) (start : ℕ) → view ≡ held → take (length view - start) (drop start view) ≡ drop start held
kept_rest view held start e = take_rest view start ∙ ap (drop start) e

pub kept_taken : (view held : List ℕ) (start n : ℕ) → view ≡ held → length view ≡ n → take (length view - start) (drop start view) ≡ take (n - start) (drop start held)
kept_taken view held start n e l = λ i. take (l i - start) (drop start (e i))

-- none of them
pub none_taken : (n : ℕ) (s : List ℕ) → [] ≡ take (n - n) s
none_taken n s = let e : 0 ≡ n - n = omega arith in ap (λ k. take k s) e

pub found_rest : (view held : List ℕ) (start read a b : ℕ) (r : Result (Option ℕ) ItemFault) → view ≡ held → a ≡ b → AnswersRest read (take (length view - start) (drop start view)) a r → AnswersRest read (drop start held) b r
found_rest view held start read a b r e same h = subst (λ n. AnswersRest read (drop start held) n r) same (subst (λ x. AnswersRest read x a r) (kept_rest view held start e) h)

-- what a fault tells
pub fault_tells : (rest : List ℕ) (limit before : ℕ) (f : ItemFault) → EndsWith rest limit f → AnswersFound rest limit before (Err (cut_of before f))
fault_tells rest limit before (Malformed at) h = (record { kind = faulty name.Malformed at; kind_is = h; fault_is = refl }, refl)
fault_tells rest limit before (NotText at) h = (record { kind = faulty name.NotText at; kind_is = h; fault_is = refl }, refl)
fault_tells rest limit before (TooDeep at) h = (record { kind = faulty name.TooDeep at; kind_is = h; fault_is = refl }, refl)
fault_tells rest limit before TooLong h = (record { kind = too_long; kind_is = h; fault_is = refl }, refl)
fault_tells rest limit before OutOfMemory h = absurd h

-- the slice of the first so many
pub kept_front : (view held : List ℕ) (start used : ℕ) → view ≡ held → take ((start + used) - start) (drop start view) ≡ take used (drop start held)
kept_front view held start used e = let q : (start + used) - start ≡ used = omega arith in λ i. take (q i) (drop start (e i))
