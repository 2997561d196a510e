-- What a message's item is made of is read from it again.
use Rattle.std.proofs.Common.{◌≡◌, ◌<◌, ◌^◌, ℕ, Option, Some, None, option_map, List, [], ◌∷◌, ◌++◌, map, refl, ap, ◌∙◌, length}
use Rattle.grasp_cbor.specs.DataItem.{DataItem, unsigned}
use Rattle.grasp_types.specs.Address.{address_item}
use Rattle.grasp_types.specs.Message.{item_of, verdict_item, answer_items, flood_part_item, IsMessage, IsFloodPart}
use Rattle.grasp_types.specs.Objective.{optional, objective_item, IsObjective}
use Rattle.grasp_types.specs.declared.address.Address.{Address}
use Rattle.grasp_types.specs.declared.flood.FloodPart.{FloodPart}
use Rattle.grasp_types.specs.declared.message.Answer.{Answer}
use Rattle.grasp_types.specs.declared.message.Message.TheVariants.{Noop, Discovery, Response, ReqNeg, ReqSyn, Negotiate, End, Wait, Synch, Flood, Invalid}
use Rattle.grasp_types.specs.declared.message.Verdict.{Verdict}
use Rattle.grasp_types.specs.declared.objective.Objective.{Objective}
use Rattle.grasp_wire.specs.Reading.{◌>>=◌, has_text_first, last_at, one_or_more}
use Rattle.grasp_wire.specs.ReadParts.{narrow_in, objective_in, answer_between, flood_part_in}
use Rattle.grasp_wire.specs.ReadMessages.{told_of, req_neg_of, req_syn_of, negotiate_of, synch_of, noop_of, discovery_of, response_of, end_of, wait_of, flood_of, invalid_of, message_of_kind, message_of, message_in}
use Rattle.grasp_wire.proofs.Scalars.{Again, array_again, narrow_again}
use Rattle.grasp_wire.proofs.Addresses.{address_again}
use Rattle.grasp_wire.proofs.Objectives.{value_again, objective_again, verdict_again, flood_part_again}
use Rattle.grasp_wire.proofs.Responses.{range_rest, NoText, answer_no_text, end_is, last_again, answer_again}
use Rattle.grasp_wire.proofs.Steps.{some_again}

noop_again : noop_of (unsigned 0 ∷ []) ≡ Some Noop
unfolding noop_of
noop_again = refl

discovery_again : (session : ℕ) (a : Address) (o : Objective) → IsMessage (Discovery session a o)
    → discovery_of (unsigned 1 ∷ unsigned session ∷ address_item a ∷ objective_item o ∷ []) ≡ Some (Discovery session a o)
unfolding discovery_of
discovery_again session a o h = rw (narrow_again session h.0, address_again a h.1, objective_again o h.2) refl

no_text : (session ttl : ℕ) (a : Address) (answer : Answer) → NoText (unsigned 2 ∷ unsigned session ∷ address_item a ∷ unsigned ttl ∷ answer_items answer)
unfolding has_text_first
no_text session ttl a answer = (refl, (refl, (refl, (refl, answer_no_text answer))))

response_again : (session : ℕ) (a : Address) (ttl : ℕ) (answer : Answer) (o : Option Objective) → IsMessage (Response session a ttl answer o)
    → response_of (unsigned 2 ∷ unsigned session ∷ address_item a ∷ unsigned ttl ∷ (answer_items answer ++ optional (option_map objective_item o))) ≡ Some (Response session a ttl answer o)
unfolding response_of
response_again session a ttl answer o h =
    let xs = unsigned 2 ∷ unsigned session ∷ address_item a ∷ unsigned ttl ∷ answer_items answer in
    let rest = optional (option_map objective_item o) in
    let ts = xs ++ rest in
    let end = end_is xs o (no_text session ttl a answer) in
    rw (narrow_again session h.0, address_again a h.1, narrow_again ttl h.2) (
    ap (λ n. answer_between ts 4 n >>= λ b. last_at objective_in ts n >>= λ p. Some (Response session a ttl b p)) end
    ∙ ap (λ v. v >>= λ b. last_at objective_in ts (length xs) >>= λ p. Some (Response session a ttl b p))
    (answer_again (unsigned 2) (unsigned session) (address_item a) (unsigned ttl) answer rest h.3)
    ∙ ap (λ v. v >>= λ p. Some (Response session a ttl answer p)) (last_again objective_in objective_item IsObjective objective_again xs o h.4)
    )

told_again : (t : DataItem) (session : ℕ) (o : Objective) → session < 2 ^ 32 → IsObjective o → told_of (t ∷ unsigned session ∷ objective_item o ∷ []) ≡ Some (session, o)
unfolding told_of
told_again t session o h k = rw (narrow_again session h, objective_again o k) refl

req_neg_again : (session : ℕ) (o : Objective) → IsMessage (ReqNeg session o) → req_neg_of (unsigned 3 ∷ unsigned session ∷ objective_item o ∷ []) ≡ Some (ReqNeg session o)
unfolding req_neg_of
req_neg_again session o h = ap (λ p. p >>= λ told. Some (ReqNeg told.0 told.1)) (told_again (unsigned 3) session o h.0 h.1)

req_syn_again : (session : ℕ) (o : Objective) → IsMessage (ReqSyn session o) → req_syn_of (unsigned 4 ∷ unsigned session ∷ objective_item o ∷ []) ≡ Some (ReqSyn session o)
unfolding req_syn_of
req_syn_again session o h = ap (λ p. p >>= λ told. Some (ReqSyn told.0 told.1)) (told_again (unsigned 4) session o h.0 h.1)

negotiate_again : (session : ℕ) (o : Objective) → IsMessage (Negotiate session o) → negotiate_of (unsigned 5 ∷ unsigned session ∷ objective_item o ∷ []) ≡ Some (Negotiate session o)
unfolding negotiate_of
negotiate_again session o h = ap (λ p. p >>= λ told. Some (Negotiate told.0 told.1)) (told_again (unsigned 5) session o h.0 h.1)

synch_again : (session : ℕ) (o : Objective) → IsMessage (Synch session o) → synch_of (unsigned 8 ∷ unsigned session ∷ objective_item o ∷ []) ≡ Some (Synch session o)
unfolding synch_of
synch_again session o h = ap (λ p. p >>= λ told. Some (Synch told.0 told.1)) (told_again (unsigned 8) session o h.0 h.1)

end_again : (session : ℕ) (v : Verdict) → IsMessage (End session v) → end_of (unsigned 6 ∷ unsigned session ∷ verdict_item v ∷ []) ≡ Some (End session v)
unfolding end_of
end_again session v h = rw (narrow_again session h.0, verdict_again v h.1) refl

wait_again : (session millis : ℕ) → IsMessage (Wait session millis) → wait_of (unsigned 7 ∷ unsigned session ∷ unsigned millis ∷ []) ≡ Some (Wait session millis)
unfolding wait_of
wait_again session millis h =
    ap (λ v. v >>= λ s. narrow_in (unsigned millis) >>= λ n. Some (Wait s n)) (narrow_again session h.0)
    ∙ ap (λ v. v >>= λ n. Some (Wait session n)) (narrow_again millis h.1)

flood_again : (session : ℕ) (a : Address) (ttl : ℕ) (parts : List FloodPart) → IsMessage (Flood session a ttl parts)
    → flood_of (unsigned 9 ∷ unsigned session ∷ address_item a ∷ unsigned ttl ∷ map flood_part_item parts) ≡ Some (Flood session a ttl parts)
unfolding flood_of
flood_again session a ttl parts h =
    let ts = unsigned 9 ∷ unsigned session ∷ address_item a ∷ unsigned ttl ∷ map flood_part_item parts in
    rw (narrow_again session h.0, address_again a h.1, narrow_again ttl h.2) (
    ap (λ us. one_or_more flood_part_in us >>= λ told. Some (Flood session a ttl told)) (range_rest ts 4)
    ∙ ap (λ v. v >>= λ told. Some (Flood session a ttl told)) (some_again flood_part_in flood_part_item IsFloodPart flood_part_again parts h.3.some h.3.each)
    )

invalid_again : (session : ℕ) (detail : Option DataItem) → IsMessage (Invalid session detail) → invalid_of (unsigned 99 ∷ unsigned session ∷ optional detail) ≡ Some (Invalid session detail)
unfolding invalid_of
invalid_again session None h = rw (narrow_again session h.0) refl
invalid_again session (Some t) h = rw (narrow_again session h.0, value_again t h.1) refl

pub message_again : Again message_in item_of IsMessage
unfolding message_in message_of message_of_kind
message_again Noop h = array_again message_of (unsigned 0 ∷ []) ∙ noop_again
message_again (Discovery session a o) h = array_again message_of (unsigned 1 ∷ unsigned session ∷ address_item a ∷ objective_item o ∷ []) ∙ discovery_again session a o h
message_again (Response session a ttl answer o) h =
    array_again message_of (unsigned 2 ∷ unsigned session ∷ address_item a ∷ unsigned ttl ∷ (answer_items answer ++ optional (option_map objective_item o)))
    ∙ response_again session a ttl answer o h
message_again (ReqNeg session o) h = array_again message_of (unsigned 3 ∷ unsigned session ∷ objective_item o ∷ []) ∙ req_neg_again session o h
message_again (ReqSyn session o) h = array_again message_of (unsigned 4 ∷ unsigned session ∷ objective_item o ∷ []) ∙ req_syn_again session o h
message_again (Negotiate session o) h = array_again message_of (unsigned 5 ∷ unsigned session ∷ objective_item o ∷ []) ∙ negotiate_again session o h
message_again (End session v) h = array_again message_of (unsigned 6 ∷ unsigned session ∷ verdict_item v ∷ []) ∙ end_again session v h
message_again (Wait session millis) h = array_again message_of (unsigned 7 ∷ unsigned session ∷ unsigned millis ∷ []) ∙ wait_again session millis h
message_again (Synch session o) h = array_again message_of (unsigned 8 ∷ unsigned session ∷ objective_item o ∷ []) ∙ synch_again session o h
message_again (Flood session a ttl parts) h =
    array_again message_of (unsigned 9 ∷ unsigned session ∷ address_item a ∷ unsigned ttl ∷ map flood_part_item parts) ∙ flood_again session a ttl parts h
message_again (Invalid session detail) h = array_again message_of (unsigned 99 ∷ unsigned session ∷ optional detail) ∙ invalid_again session detail h
