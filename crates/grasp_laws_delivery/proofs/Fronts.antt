-- The first bytes of what was sent are cut into the first messages.
use Rattle.std.proofs.Common.{◌≡◌, refl, sym, ap, ◌∙◌, subst, arith, ℕ, zero, suc, ◌+◌, ◌<◌, ◌≤◌, ◌^◌, nat_le, true, false, ◌⊎◌, inl, inr, List, [], ◌∷◌, ◌++◌, length, take, drop, All}
use Rattle.std.proofs.lemmas.Bool.Decides.{leb_tells}
use Rattle.std.proofs.lemmas.List.{take_all, drop_all}
use Rattle.std.proofs.Math.Seq.{take-length}
use Rattle.grasp_cbor.proofs.HeadBytes.{AllBytes-append, AllBytes-back, AllBytes-take}
use Rattle.grasp_cbor.proofs.ShortestBytes.{shortest_bytes}
use Rattle.grasp_cbor.specs.Bytes.{AllBytes}
use Rattle.grasp_cbor.specs.Shortest.{shortest}
use Rattle.grasp_session.specs.Messages.{Side, other}
use Rattle.grasp_types.specs.Message.{item_of}
use Rattle.grasp_types.specs.declared.message.Message.{Message}
use Rattle.grasp_wire.proofs.Dividing.{one_division, one_kind}
use Rattle.grasp_wire.proofs.EncodedFirst.{first_sendable, others_sendable}
use Rattle.grasp_wire.proofs.ShortestForm.{sendable_encodable}
use Rattle.grasp_wire.proofs.Wholes.{fronts}
use Rattle.grasp_wire.specs.Cutter.{Past}
use Rattle.grasp_wire.specs.Laws.{encoded, IsSendable}
use Rattle.grasp_wire.specs.Stream.{Divides, IsRest, waiting}
use Rattle.grasp_laws_network.specs.Keeping.{IsLonger}
use Rattle.grasp_model_network.specs.Streams.{StreamState, sent_by, next_bytes}
use Rattle.grasp_laws_delivery.specs.Pieces.{IsCutInFront, FrontsAreCut, PiecesAdd}
use Rattle.grasp_laws_delivery.specs.Records.{HasCome}

-- ---- bytes

pub encoded_bytes : (limit : ℕ) (ms : List Message) → limit < 2 ^ 64 → All (IsSendable limit) ms → AllBytes (encoded ms)
encoded_bytes limit [] l h = tt
encoded_bytes limit (m ∷ ms) l h = behind (first_sendable limit m ms h) (encoded_bytes limit ms l (others_sendable limit m ms h)) where
  behind : IsSendable limit m → AllBytes (encoded ms) → AllBytes (encoded (m ∷ ms))
  behind one others = AllBytes-append (shortest (item_of m)) (encoded ms) (shortest_bytes (item_of m) (sendable_encodable m limit l one.0 one.1)) others

-- so many of them, and then so many of the others
pub take_more : (n k : ℕ) (xs : List ℕ) → take n xs ++ take k (drop n xs) ≡ take (n + k) xs
take_more n k [] = ap (λ ys. ys ++ take k (drop n [])) (take_all n [] (omega arith)) ∙ (ap (take k) (drop_all n [] (omega arith)) ∙ (take_all k [] (omega arith) ∙ sym (take_all (n + k) [] (omega arith))))
take_more zero k (x ∷ xs) = ap (λ i. take i (x ∷ xs)) (zero_more k) where
  zero_more : (i : ℕ) → i ≡ 0 + i
  zero_more i = omega arith
take_more (suc n) k (x ∷ xs) = ap (λ ys. x ∷ ys) (take_more n k xs) ∙ ap (λ i. take i (x ∷ xs)) (one_more n k) where
  one_more : (a b : ℕ) → suc (a + b) ≡ suc a + b
  one_more a b = omega arith

-- ---- a front

record HasFront (limit n : ℕ) (messages : List Message) : Type 0 where
  given : List Message
  rest : List ℕ
  first : IsLonger given messages
  divides : Divides (take n (encoded messages)) limit given rest waiting

has_front : (limit n : ℕ) (messages : List Message) → 0 < limit → limit < 2 ^ 64 → All (IsSendable limit) messages → HasFront limit n messages
has_front limit n messages some l h = by_length (leb_tells n (length (encoded messages))) where
  front_of : (k : ℕ) → k ≤ length (encoded messages) → take k (encoded messages) ≡ take n (encoded messages) → HasFront limit n messages
  front_of k le same = from (fronts messages limit k some l h le) where
    from : (given others : List Message) × (rest : List ℕ) × (messages ≡ given ++ others) × Divides (take k (encoded messages)) limit given rest waiting → HasFront limit n messages
    from f = record {
      given = f.0;
      rest = f.2;
      first = (f.1, f.3);
      divides = subst (λ (bytes : List ℕ). Divides bytes limit f.0 f.2 waiting) same f.4;
    }

  by_length : ((nat_le n (length (encoded messages)) ≡ true) × (n ≤ length (encoded messages))) ⊎ ((nat_le n (length (encoded messages)) ≡ false) × (length (encoded messages) < n)) → HasFront limit n messages
  by_length (inl t) = front_of n t.1 refl
  by_length (inr t) =
      let more = t.1 in
      let least : length (encoded messages) ≤ n = omega arith in
      front_of (length (encoded messages)) (omega arith) (take-length (encoded messages) ∙ sym (take_all n (encoded messages) least))

pub fronts_are_cut : FrontsAreCut
fronts_are_cut limit n messages given rest kind some l h d = by_front (has_front limit n messages some l h) where
  rest_bytes : AllBytes rest
  rest_bytes =
      AllBytes-back d.splits.front rest (subst AllBytes d.splits.parts (AllBytes-take n (encoded messages) (encoded_bytes limit messages l h)))

  by_front : HasFront limit n messages → IsCutInFront messages given kind
  by_front f = same (one_division (take n (encoded messages)) limit given f.given rest f.rest d.splits f.divides.splits) where
    same : (given ≡ f.given) × (rest ≡ f.rest) → IsCutInFront messages given kind
    same e = record {
      given_first = subst (λ (ms : List Message). IsLonger ms messages) (sym e.0) f.first;
      waits = one_kind rest limit kind waiting rest_bytes d.kind_is (subst (λ (bytes : List ℕ). IsRest bytes limit waiting) (sym e.1) f.divides.kind_is);
    }

-- ---- a piece

-- what came before a piece, and the piece, are the first bytes of what was sent
pub fed_with : (t : StreamState) (side : Side) (past : Past) (count : ℕ) → HasCome t side past
    → past.fed ++ next_bytes t (other side) count ≡ take ((sent_by t (other side)).delivered + count) (encoded (sent_by t (other side)).sent)
fed_with t side past count c =
    ap (λ bytes. bytes ++ next_bytes t (other side) count) c.fed ∙ take_more (sent_by t (other side)).delivered count (encoded (sent_by t (other side)).sent)

pub pieces_add : PiecesAdd
pieces_add limit count t side past a some l h c adds =
    fronts_are_cut limit ((sent_by t (other side)).delivered + count) (sent_by t (other side)).sent (past.given ++ a.messages) a.rest a.kind some l h
    (subst (λ (bytes : List ℕ). Divides bytes limit (past.given ++ a.messages) a.rest a.kind) (fed_with t side past count c) adds)
