-- What the answers of a cutter say of the division of what was fed.
use Rattle.std.proofs.Common.{◌≡◌, ℕ, ◌-◌, ◌⊎◌, inl, inr, List, [], ◌∷◌, ◌++◌, length, append_assoc, Option, Some, None, Result, Ok, Err, refl, sym, ap, subst, ◌∙◌, arith}
use Rattle.std.proofs.lemmas.List.{length-append, append_cancel_left}
use Rattle.grasp_cbor.specs.Bytes.{AllBytes}
use Rattle.grasp_cbor.proofs.HeadBytes.{AllBytes-back}
use Rattle.grasp_types.specs.declared.message.Message.{Message}
use Rattle.grasp_wire.specs.declared.cutter.Cutter.{Cutter}
use Rattle.grasp_wire.specs.declared.fault.CutFault.{CutFault}
use Rattle.grasp_wire.specs.declared.fault.CutFault.TheVariants.{Malformed, NotText, TooDeep, TooLong, NotMessage, OutOfMemory}
use Rattle.grasp_wire.specs.Cutter.{Past, BeginsWith, Waits, HasFault, Finds, AnswersNext}
use Rattle.grasp_wire.specs.Laws.{TellsNext, AnswersAreDivided, OneNextAnswer}
use Rattle.grasp_wire.specs.Reads.{fault_of}
use Rattle.grasp_wire.specs.Stands.{KeepsUp, cut_limit}
use Rattle.grasp_wire.specs.Stream.{Divides, RestKind, IsRest, waiting}
use Rattle.grasp_wire.proofs.Dividing.{one_division, one_kind}
use Rattle.grasp_wire.proofs.Joins.{joined_first}
use Rattle.grasp_wire.proofs.SomeDivision.{some_division}

rest_bytes : (s : List ℕ) (limit : ℕ) (messages : List Message) (rest : List ℕ) (kind : RestKind) → AllBytes s → Divides s limit messages rest kind → AllBytes rest
rest_bytes s limit messages rest kind bytes d = AllBytes-back d.splits.front rest (subst AllBytes d.splits.parts bytes)

-- a stream's rest has one kind
same_kind : (s : List ℕ) (limit : ℕ) (a b : List Message) (r t : List ℕ) (k l : RestKind) → AllBytes s → Divides s limit a r k → Divides s limit b t l → k ≡ l
same_kind s limit a b r t k l bytes d e =
    let same = one_division s limit a b r t d.splits e.splits in
    one_kind t limit k l (rest_bytes s limit b t l bytes e) (subst (λ x. IsRest x limit k) same.1 d.kind_is) e.kind_is

begins_tells : (limit : ℕ) (past : Past) (m : Message) (messages : List Message) (rest : List ℕ) (kind : RestKind) → BeginsWith past.fed limit (past.given ++ m ∷ []) → Divides past.fed limit messages rest kind
    → TellsNext past messages rest kind (Ok (Some m))
begins_tells limit past m messages rest kind b d =
    let s = d.splits in
    let j = joined_first (past.given ++ m ∷ []) messages b.front s.front b.rest rest limit b.forms s.forms (sym b.parts ∙ s.parts) s.no_more in
    (j.more, j.all ∙ append_assoc past.given (m ∷ []) j.more)

waits_tells : (limit : ℕ) (past : Past) (messages : List Message) (rest : List ℕ) (kind : RestKind) → AllBytes past.fed → Waits limit past → Divides past.fed limit messages rest kind → TellsNext past messages rest kind (Ok None)
waits_tells limit past messages rest kind bytes w d =
    ((one_division past.fed limit messages past.given rest w.rest d.splits w.divides.splits).0, same_kind past.fed limit messages past.given rest w.rest kind waiting bytes d w.divides)

abbrev TellsFault : Past → List Message → List ℕ → RestKind → CutFault → Type 0
TellsFault past messages rest kind fault = (messages ≡ past.given) × (fault_of (length past.fed - length rest) kind ≡ Some fault)

fault_tells : (limit : ℕ) (past : Past) (fault : CutFault) (messages : List Message) (rest : List ℕ) (kind : RestKind) → AllBytes past.fed → HasFault limit past fault → Divides past.fed limit messages rest kind
    → TellsFault past messages rest kind fault
fault_tells limit past fault messages rest kind bytes h d =
    let same = one_division past.fed limit messages past.given rest h.rest d.splits h.divides.splits in
    let kinds : kind ≡ h.kind = same_kind past.fed limit messages past.given rest h.rest kind h.kind bytes d h.divides in
    let at : length past.fed - length rest ≡ length h.front = omega (arith, ap length h.parts, length-append h.front h.rest, ap length same.1) in
    (same.0, ap (λ n. fault_of n kind) at ∙ ap (fault_of (length h.front)) kinds ∙ h.fault_is)

tells_fault : (past : Past) (fault : CutFault) (messages : List Message) (rest : List ℕ) (kind : RestKind) → TellsFault past messages rest kind fault → TellsNext past messages rest kind (Err fault)
tells_fault past OutOfMemory messages rest kind h = tt
tells_fault past _ messages rest kind h = h

found_tells : (limit : ℕ) (past : Past) (r : Result (Option Message) CutFault) (messages : List Message) (rest : List ℕ) (kind : RestKind) → AllBytes past.fed → Finds limit past r → Divides past.fed limit messages rest kind
    → TellsNext past messages rest kind r
found_tells limit past (Ok (Some m)) messages rest kind bytes f d = begins_tells limit past m messages rest kind f d
found_tells limit past (Ok None) messages rest kind bytes f d = waits_tells limit past messages rest kind bytes f d
found_tells limit past (Err (Malformed at)) messages rest kind bytes f d = fault_tells limit past (Malformed at) messages rest kind bytes f d
found_tells limit past (Err (NotText at)) messages rest kind bytes f d = fault_tells limit past (NotText at) messages rest kind bytes f d
found_tells limit past (Err (TooDeep at)) messages rest kind bytes f d = fault_tells limit past (TooDeep at) messages rest kind bytes f d
found_tells limit past (Err (TooLong at)) messages rest kind bytes f d = fault_tells limit past (TooLong at) messages rest kind bytes f d
found_tells limit past (Err (NotMessage at)) messages rest kind bytes f d = fault_tells limit past (NotMessage at) messages rest kind bytes f d
found_tells limit past (Err OutOfMemory) messages rest kind bytes f d = tt

answer_tells : (c : Cutter) (past : Past) (f : Option CutFault) (r : Result (Option Message) CutFault) (messages : List Message) (rest : List ℕ) (kind : RestKind) → AllBytes past.fed → KeepsUp f c past
    → AnswersNext (cut_limit c) past f r → Divides past.fed (cut_limit c) messages rest kind → TellsNext past messages rest kind r
answer_tells c past None r messages rest kind bytes k a d = found_tells (cut_limit c) past r messages rest kind bytes a d
answer_tells c past (Some fault) r messages rest kind bytes k a d =
    subst (λ x. TellsNext past messages rest kind x) (sym a) (tells_fault past fault messages rest kind (fault_tells (cut_limit c) past fault messages rest kind bytes k d))

pub answers_are_divided : AnswersAreDivided
answers_are_divided c past r messages rest kind s a d = answer_tells c past past.fault r messages rest kind s.bytes s.keeps a d

-- ---- one answer

abbrev AreAlike : Result (Option Message) CutFault → Result (Option Message) CutFault → Type 0
AreAlike a b = (a ≡ b) ⊎ ((a ≡ Err OutOfMemory) ⊎ (b ≡ Err OutOfMemory))

-- a message comes, or none is left
one_is_left : (given : List Message) (m : Message) (others : List Message) (messages : List Message) → messages ≡ given ++ m ∷ others → messages ≡ given → ⊥
one_is_left given m others messages e f = omega (arith, ap length e, ap length f, length-append given (m ∷ others))

same_faults : (past : Past) (messages : List Message) (rest : List ℕ) (kind : RestKind) (e f : CutFault) → TellsFault past messages rest kind e → TellsFault past messages rest kind f → e ≡ f
same_faults past messages rest kind e f h k = let q : Some e ≡ Some f = sym h.1 ∙ k.1 in cc

no_fault_waits : (past : Past) (messages : List Message) (rest : List ℕ) (kind : RestKind) (f : CutFault) → kind ≡ waiting → TellsFault past messages rest kind f → ⊥
no_fault_waits past messages rest kind f w h = let q : None ≡ Some f = sym (ap (fault_of (length past.fed - length rest)) w) ∙ h.1 in cc

of_fault : (past : Past) (messages : List Message) (rest : List ℕ) (kind : RestKind) (f : CutFault) → TellsNext past messages rest kind (Err f) → (f ≡ OutOfMemory) ⊎ TellsFault past messages rest kind f
of_fault past messages rest kind OutOfMemory h = inl refl
of_fault past messages rest kind _ h = inr h

alike : (past : Past) (messages : List Message) (rest : List ℕ) (kind : RestKind) (a b : Result (Option Message) CutFault) → TellsNext past messages rest kind a → TellsNext past messages rest kind b → AreAlike a b
alike past messages rest kind (Ok (Some m)) (Ok (Some n)) h k =
    let e : m ∷ h.0 ≡ n ∷ k.0 = append_cancel_left past.given (m ∷ h.0) (n ∷ k.0) (sym h.1 ∙ k.1) in
    let q : m ≡ n = cc in
    inl (ap (λ x. Ok (Some x)) q)
alike past messages rest kind (Ok (Some m)) (Ok None) h k = absurd (one_is_left past.given m h.0 messages h.1 k.0)
alike past messages rest kind (Ok (Some m)) (Err f) h k = elim (of_fault past messages rest kind f k) [ inl e ↦ inr (inr (ap Err e)) | inr t ↦ absurd (one_is_left past.given m h.0 messages h.1 t.0) ]
alike past messages rest kind (Ok None) (Ok (Some n)) h k = absurd (one_is_left past.given n k.0 messages k.1 h.0)
alike past messages rest kind (Ok None) (Ok None) h k = inl refl
alike past messages rest kind (Ok None) (Err f) h k = elim (of_fault past messages rest kind f k) [ inl e ↦ inr (inr (ap Err e)) | inr t ↦ absurd (no_fault_waits past messages rest kind f h.1 t) ]
alike past messages rest kind (Err e) (Ok (Some n)) h k = elim (of_fault past messages rest kind e h) [ inl o ↦ inr (inl (ap Err o)) | inr t ↦ absurd (one_is_left past.given n k.0 messages k.1 t.0) ]
alike past messages rest kind (Err e) (Ok None) h k = elim (of_fault past messages rest kind e h) [ inl o ↦ inr (inl (ap Err o)) | inr t ↦ absurd (no_fault_waits past messages rest kind e k.1 t) ]
alike past messages rest kind (Err e) (Err f) h k = elim (of_fault past messages rest kind e h) [
  | inl o ↦ inr (inl (ap Err o))
  | inr t ↦ elim (of_fault past messages rest kind f k) [ inl o ↦ inr (inr (ap Err o)) | inr u ↦ inl (ap Err (same_faults past messages rest kind e f t u)) ]
]

pub one_next_answer : OneNextAnswer
one_next_answer c past a b few s h k =
    let d = some_division past.fed (cut_limit c) few s.bytes in
    alike past d.0 d.1 d.2 a b (answers_are_divided c past a d.0 d.1 d.2 s h d.3) (answers_are_divided c past b d.0 d.1 d.2 s k d.3)
