-- How streams divide.
use Rattle.std.proofs.Common.{◌≡◌, ℕ, List, [], ◌∷◌, ◌++◌, append_assoc, append-nil, Option, Some, None, refl, sym, ap, ◌∙◌}
use Rattle.std.specs.Prelude.{IsSome}
use Rattle.grasp_cbor.specs.Bytes.{AllBytes}
use Rattle.grasp_cbor.specs.Ending.{Ending, whole, partial, too_long, faulty, IsEnding}
use Rattle.grasp_cbor.proofs.Cases.{one_ending}
use Rattle.grasp_types.specs.declared.message.Message.{Message}
use Rattle.grasp_wire.specs.declared.fault.CutFault.{CutFault}
use Rattle.grasp_wire.specs.declared.cutter.Cutter.{Cutter}
use Rattle.grasp_wire.specs.Wire.{IsWireForm, AreWireForms}
use Rattle.grasp_wire.specs.Stream.{Splits, RestKind, IsRest}
use Rattle.grasp_wire.specs.Stream as rest
use Rattle.grasp_wire.specs.Cutter.{Past, Waits}
use Rattle.grasp_wire.specs.Stands.{Stands, KeepsUp, cut_limit, rest_of}
use Rattle.grasp_wire.proofs.Joins.{one_form, joined_first, begins}

pub one_message : (a b : Message) (bytes : List ℕ) (limit : ℕ) → IsWireForm a bytes limit → IsWireForm b bytes limit → a ≡ b
one_message a b bytes limit f g = (one_form a b bytes bytes [] [] limit f g refl).message

-- the division of a longer stream begins with that of the stream
pub grows : (stream more : List ℕ) (limit : ℕ) (a b : List Message) (r s : List ℕ) → Splits stream limit a r → Splits (stream ++ more) limit b s → (others : List Message) × (b ≡ a ++ others)
grows stream more limit a b r s p q =
    let e : p.front ++ (r ++ more) ≡ q.front ++ s = sym (append_assoc p.front r more) ∙ ap (λ x. x ++ more) (sym p.parts) ∙ q.parts in
    let j = joined_first a b p.front q.front (r ++ more) s limit p.forms q.forms e q.no_more in
    (j.more, j.all)

-- nothing more, where the rest begins with no message
nothing_more : (more : List Message) (middle r s : List ℕ) (limit : ℕ) → AreWireForms more middle limit → r ≡ middle ++ s → rest.BeginsNoMessage r limit → (more ≡ []) × (r ≡ s)
nothing_more [] middle r s limit f e none = (refl, e ∙ ap (λ x. x ++ s) f)
nothing_more (m ∷ ms) middle r s limit f e none = absurd (begins m f.0 (f.1 ++ s) r limit f.2 (e ∙ ap (λ x. x ++ s) f.4 ∙ append_assoc f.0 f.1 s) none)

-- a stream divides in one way
pub one_division : (stream : List ℕ) (limit : ℕ) (a b : List Message) (r s : List ℕ) → Splits stream limit a r → Splits stream limit b s → (a ≡ b) × (r ≡ s)
one_division stream limit a b r s p q =
    let e : p.front ++ r ≡ q.front ++ s = sym p.parts ∙ q.parts in
    let j = joined_first a b p.front q.front r s limit p.forms q.forms e q.no_more in
    let n = nothing_more j.more j.middle r s limit j.forms j.parts p.no_more in
    (sym (j.all ∙ ap (λ x. a ++ x) n.0 ∙ append-nil a), n.1)

-- ---- kinds

abbrev kind_of : Ending → RestKind
kind_of (whole item used) = rest.not_message
kind_of partial = rest.waiting
kind_of too_long = rest.too_long
kind_of (faulty name at) = rest.faulty name at

pub record EndsAs (s : List ℕ) (limit : ℕ) (kind : RestKind) : Type 0 where
  pub ending : Ending
  pub is : IsEnding s limit ending
  pub kind_is : kind_of ending ≡ kind

ends_as : (s : List ℕ) (limit : ℕ) (kind : RestKind) → IsRest s limit kind → EndsAs s limit kind
ends_as s limit rest.waiting h = record { ending = partial; is = h; kind_is = refl }
ends_as s limit rest.too_long h = record { ending = too_long; is = h; kind_is = refl }
ends_as s limit rest.not_message h = record { ending = whole h.item h.used; is = h.whole; kind_is = refl }
ends_as s limit (rest.faulty name at) h = record { ending = faulty name at; is = h; kind_is = refl }

pub one_kind : (s : List ℕ) (limit : ℕ) (a b : RestKind) → AllBytes s → IsRest s limit a → IsRest s limit b → a ≡ b
one_kind s limit a b bytes h k =
    let x = ends_as s limit a h in
    let y = ends_as s limit b k in
    sym x.kind_is ∙ ap kind_of (one_ending s limit x.ending y.ending bytes x.is y.is) ∙ y.kind_is

-- ---- what a cutter gave

pub all_given_at_none : (limit : ℕ) (past : Past) (messages : List Message) (r : List ℕ) → Waits limit past → Splits past.fed limit messages r → messages ≡ past.given
all_given_at_none limit past messages r w q = (one_division past.fed limit messages past.given r w.rest q w.divides.splits).0

given_all : (c : Cutter) (past : Past) (f : Option CutFault) (messages : List Message) (r : List ℕ) → IsSome f → KeepsUp f c past → Splits past.fed (cut_limit c) messages r → messages ≡ past.given
given_all c past None messages r some h q = absurd cc
given_all c past (Some fault) messages r some h q = (one_division past.fed (cut_limit c) messages past.given r h.rest q h.divides.splits).0

pub all_given_at_fault : (c : Cutter) (past : Past) (messages : List Message) (r : List ℕ) → Stands c past → IsSome past.fault → Splits past.fed (cut_limit c) messages r → messages ≡ past.given
all_given_at_fault c past messages r s some q = given_all c past past.fault messages r some s.keeps q

given_first : (c : Cutter) (past : Past) (f : Option CutFault) (messages : List Message) (r : List ℕ) → KeepsUp f c past → Splits past.fed (cut_limit c) messages r → (others : List Message) × (messages ≡ past.given ++ others)
given_first c past None messages r k q =
    let j = joined_first past.given messages k.front q.front (rest_of c) r (cut_limit c) k.forms q.forms (sym k.parts ∙ q.parts) q.no_more in
    (j.more, j.all)
given_first c past (Some fault) messages r h q = ([], (one_division past.fed (cut_limit c) messages past.given r h.rest q h.divides.splits).0 ∙ sym (append-nil past.given))

pub given_come : (c : Cutter) (past : Past) (messages : List Message) (r : List ℕ) → Stands c past → Splits past.fed (cut_limit c) messages r → (others : List Message) × (messages ≡ past.given ++ others)
given_come c past messages r s q = given_first c past past.fault messages r s.keeps q
