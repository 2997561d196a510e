-- Steps of reading on.
use Rattle.std.proofs.Common.{◌≡◌, ℕ, ◌+◌, ◌-◌, ◌<◌, List, [], ◌∷◌, ◌++◌, take, drop, get_or, length, None, Some, Result, Ok, inl, inr, refl, sym, ap, subst, ◌∙◌, append_assoc, arith}
use Rattle.std.proofs.lemmas.Bool.{cases_lt}
use Rattle.std.proofs.lemmas.List.{length-append, length-take-le, length_push, take_at, take_more, take-append-drop, take-append-le}
use Rattle.grasp_cbor.specs.Bytes.{AllBytes}
use Rattle.grasp_cbor.specs.CanGoOn.{CanGoOn}
use Rattle.grasp_cbor.specs.DataItem.{DataItem}
use Rattle.grasp_cbor.specs.Ending.{too_long, faulty, IsWhole, IsPartial, IsTooLong, IsFaulty}
use Rattle.grasp_cbor.specs.ItemReader.{Reading, EndsWith, AnswersTaken, bytes_with, bytes_passed, fault_of, reader_limit}
use Rattle.grasp_cbor.specs.declared.item_reader.ItemReader.{ItemReader}
use Rattle.grasp_cbor.specs.declared.read.ItemFault.{ItemFault}
use Rattle.grasp_cbor.specs.declared.read.ItemFault.TheVariants.{Malformed, NotText, TooDeep, TooLong, OutOfMemory}
use Rattle.grasp_cbor.specs.declared.walker.FaultName.{FaultName}
use Rattle.grasp_cbor.specs.declared.walker.FaultName.TheVariants as name
use Rattle.grasp_cbor.specs.declared.walker.Taken.{Taken}
use Rattle.grasp_cbor.specs.declared.walker.Taken.TheVariants.{More, Whole}
use Rattle.grasp_cbor.proofs.Cases.{one_ending}
use Rattle.grasp_cbor.proofs.HeadBytes.{AllBytes-append, AllBytes-take, AllBytes-drop}
use Rattle.grasp_cbor.proofs.Passing.{then_rest}
use Rattle.grasp_cbor.proofs.Insides.{zero_item}
use Rattle.grasp_cbor.proofs.Kept.{ends_stays}
use Rattle.grasp_wire.specs.ReadOn.{IsOpen, AnswersRead, MeetsFault, taken_at}

-- no bytes can go on
pub nothing_waits : (limit : ℕ) → 0 < limit → IsPartial [] limit
nothing_waits limit l = record { short = omega arith; can_go_on = (0, [], zero_item 16, (omega arith, tt)) }

-- one more of them
pub one_more : (bytes more : List ℕ) (i : ℕ) → i < length more → (bytes ++ take i more) ++ get_or more i 0 ∷ [] ≡ bytes ++ take (i + 1) more
one_more bytes more i l = append_assoc bytes (take i more) (get_or more i 0 ∷ []) ∙ ap (λ x. bytes ++ x) (sym (take_more more i 0 l))

-- the bytes up to there, and the others
pub others : (bytes more : List ℕ) (i : ℕ) → (bytes ++ take i more) ++ drop i more ≡ bytes ++ more
others bytes more i = append_assoc bytes (take i more) (drop i more) ∙ ap (λ x. bytes ++ x) (take-append-drop i more)

-- an item at the front stays, whatever follows
pub whole_stays : (s t : List ℕ) (limit used : ℕ) (item : DataItem) → IsWhole s limit item used → IsWhole (s ++ t) limit item used
whole_stays s t limit used item w =
    let inside = w.inside in
    record { encodes = rw (take-append-le used s t inside) w.encodes; inside = omega (arith, length-append s t); within = w.within }

-- what is answered where no fault was met
pub exact_open : (reader : ItemReader) (s : List ℕ) (byte limit : ℕ) (r : Result Taken ItemFault) → fault_of reader ≡ None → AnswersTaken (bytes_with (fault_of reader) s byte) limit r → AnswersTaken (s ++ byte ∷ []) limit r
exact_open reader s byte limit r e h = subst (λ f. AnswersTaken (bytes_with f s byte) limit r) e h

-- the byte at this place was taken, and more can follow
pub open_more : (old new : ItemReader) (bytes more : List ℕ) (i : ℕ) → i < length more → get_or more i 0 < 256 → IsOpen old (bytes ++ take i more) → reader_limit new ≡ reader_limit old → fault_of new ≡ None
    → AnswersTaken (bytes_with (fault_of old) (bytes ++ take i more) (get_or more i 0)) (reader_limit old) (Ok More) → Reading new (bytes_with (fault_of old) (bytes ++ take i more) (get_or more i 0))
    → IsOpen new (bytes ++ take (i + 1) more)
open_more old new bytes more i l byte o same none answer read =
    let front : List ℕ = bytes ++ take i more in
    let waits : IsPartial (front ++ get_or more i 0 ∷ []) (reader_limit old) = exact_open old front (get_or more i 0) (reader_limit old) (Ok More) o.no_fault answer in
    subst (λ x. IsOpen new x) (one_more bytes more i l) (record {
      reading = subst (λ f. Reading new (bytes_with f front (get_or more i 0))) o.no_fault read;
      no_fault = none;
      are_bytes = AllBytes-append front (get_or more i 0 ∷ []) o.are_bytes (byte, tt);
      waits = subst (λ n. IsPartial (front ++ get_or more i 0 ∷ []) n) (sym same) waits;
    })

-- so many bytes were passed over, and more can follow
pub open_passed : (old new : ItemReader) (bytes more : List ℕ) (i n : ℕ) → AllBytes more → IsOpen old (bytes ++ take i more) → reader_limit new ≡ reader_limit old → fault_of new ≡ fault_of old
    → Reading new (bytes_passed (fault_of old) (bytes ++ take i more) (take (length more - i) (drop i more)) n) → IsPartial ((bytes ++ take i more) ++ take n (take (length more - i) (drop i more))) (reader_limit old)
    → IsOpen new (bytes ++ take (i + n) more)
open_passed old new bytes more i n all o same none read waits =
    let front : List ℕ = bytes ++ take i more in
    let rest : List ℕ = take (length more - i) (drop i more) in
    subst (λ x. IsOpen new x) (then_rest bytes more i n) (record {
      reading = subst (λ f. Reading new (bytes_passed f front rest n)) o.no_fault read;
      no_fault = none ∙ o.no_fault;
      are_bytes = AllBytes-append front (take n rest) o.are_bytes (AllBytes-take n rest (AllBytes-take (length more - i) (drop i more) (AllBytes-drop i more all)));
      waits = subst (λ k. IsPartial (front ++ take n rest) k) (sym same) waits;
    })

-- where the byte at this place ends an item, reading more bytes ends with that item
pub ended : (limit : ℕ) (bytes more : List ℕ) (i : ℕ) → i < length more → AnswersTaken ((bytes ++ take i more) ++ get_or more i 0 ∷ []) limit (Ok Whole) → AnswersRead bytes more limit (Ok (Some (i + 1)))
ended limit bytes more i l answer =
    let front : List ℕ = (bytes ++ take i more) ++ get_or more i 0 ∷ [] in
    let size : length front ≡ length bytes + (i + 1) = omega (arith, length_push (bytes ++ take i more) (get_or more i 0), length-append bytes (take i more), length-take-le i more) in
    let at : IsWhole front limit answer.0 (length bytes + (i + 1)) = subst (λ n. IsWhole front limit answer.0 n) size answer.1 in
    let joined : front ++ drop (i + 1) more ≡ bytes ++ more = ap (λ x. x ++ drop (i + 1) more) (one_more bytes more i l) ∙ others bytes more (i + 1) in
    (omega arith, (answer.0, subst (λ x. IsWhole x limit answer.0 (length bytes + (i + 1))) joined (whole_stays front (drop (i + 1) more) limit (length bytes + (i + 1)) answer.0 at)))

-- a fault is met with the last byte where the others can go on
faulty_met : (s : List ℕ) (byte limit at : ℕ) (name : FaultName) → AllBytes (s ++ byte ∷ []) → IsPartial s limit → IsFaulty (s ++ byte ∷ []) limit name at → at + 1 ≡ length s + 1
faulty_met s byte limit at name bytes w h =
    let inside = h.fault.inside in
    let front : take (length s) (s ++ byte ∷ []) ≡ s = take_at s (byte ∷ []) (length s) refl in
    elim (cases_lt at (length s)) [
      | inl lt ↦
          let long : IsTooLong (s ++ byte ∷ []) (length s) = record { long = omega (arith, length_push s byte); can_go_on = subst (λ x. CanGoOn x) (sym front) w.can_go_on } in
          let early : IsFaulty (s ++ byte ∷ []) (length s) name at = record { below = lt; fault = h.fault } in
          absurd (let e : too_long ≡ faulty name at = one_ending (s ++ byte ∷ []) (length s) too_long (faulty name at) bytes long early in cc)
      | inr ge ↦ omega (arith, length_push s byte)
    ]

pub met : (s : List ℕ) (byte limit : ℕ) (f : ItemFault) → AllBytes (s ++ byte ∷ []) → IsPartial s limit → EndsWith (s ++ byte ∷ []) limit f → taken_at limit f ≡ length s + 1
met s byte limit (Malformed at) bytes w h = faulty_met s byte limit at name.Malformed bytes w h
met s byte limit (NotText at) bytes w h = faulty_met s byte limit at name.NotText bytes w h
met s byte limit (TooDeep at) bytes w h = faulty_met s byte limit at name.TooDeep bytes w h
met s byte limit TooLong bytes w h = let short = w.short in let long = h.long in omega (arith, length_push s byte)
met s byte limit OutOfMemory bytes w h = absurd h

-- where the byte at this place has a fault, reading more bytes meets that fault there
pub faulted : (limit : ℕ) (bytes more : List ℕ) (i : ℕ) (fault : ItemFault) → i < length more → AllBytes ((bytes ++ take i more) ++ get_or more i 0 ∷ []) → IsPartial (bytes ++ take i more) limit
    → EndsWith ((bytes ++ take i more) ++ get_or more i 0 ∷ []) limit fault → MeetsFault bytes (bytes ++ more) limit fault × (taken_at limit fault ≡ length bytes + (i + 1))
faulted limit bytes more i fault l all w h =
    let front : List ℕ = (bytes ++ take i more) ++ get_or more i 0 ∷ [] in
    let joined : front ++ drop (i + 1) more ≡ bytes ++ more = ap (λ x. x ++ drop (i + 1) more) (one_more bytes more i l) ∙ others bytes more (i + 1) in
    let at : taken_at limit fault ≡ length bytes + (i + 1) = omega (arith, met (bytes ++ take i more) (get_or more i 0) limit fault all w h, length-append bytes (take i more), length-take-le i more) in (
      record {
        ends = subst (λ x. EndsWith x limit fault) joined (ends_stays front (drop (i + 1) more) limit fault h);
        later = omega arith;
        inside = omega (arith, length-append bytes more);
      },
      at,
    )

-- after a whole item
pub open_again : (old new : ItemReader) (bytes : List ℕ) → IsOpen old bytes → reader_limit new ≡ reader_limit old → fault_of new ≡ None → Reading new [] → IsOpen new []
open_again old new bytes o same none read =
    let short = o.waits.short in
    record { reading = read; no_fault = none; are_bytes = tt; waits = nothing_waits (reader_limit new) (omega arith) }
