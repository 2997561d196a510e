-- How what comes on a stream and by a datagram is read.
use Rattle.std.proofs.Common.{◌≡◌, ◌↔◌, ◌++◌, ℕ, List, Option, None, Some, ap, subst}
use Rattle.std.proofs.lemmas.Option.{same_Some}
use Rattle.grasp_laws_beginning.specs.Reading.{PiecesAreDivided, DatagramsAreRead, WhatComesIsRead}
use Rattle.grasp_laws_node.proofs.Beginning.{beginnings_end}
use Rattle.grasp_model_node.specs.Begin.{begin}
use Rattle.grasp_model_node.specs.Bytes.{AddsOn}
use Rattle.grasp_model_node.specs.Datagrams.{Carries}
use Rattle.grasp_model_node.specs.Node.{NodeState}
use Rattle.grasp_model_node.specs.declared.plan.NodePlan.{NodePlan}
use Rattle.grasp_types.specs.declared.message.Message.{Message}
use Rattle.grasp_wire.specs.Cutter.{Past}
use Rattle.grasp_wire.specs.Stream.{Divides}
use Rattle.grasp_wire.specs.Wire.{IsWireForm}
use Rattle.grasp_wire.proofs.Dividing.{one_message}

limit_is : (n : NodeState) (now : ℕ) → (begin n now).plan.limit ≡ n.plan.limit
limit_is n now = ap (λ (p : NodePlan). p.limit) (beginnings_end n now).0.plan

pieces_are_divided : PiecesAreDivided
pieces_are_divided n after now stream piece x r past s e =
    subst (λ (limit : ℕ). Divides (past.fed ++ piece) limit (past.given ++ x.added.messages) x.added.rest x.added.kind) (limit_is n now)
    (subst (λ (o : Option Past). AddsOn (begin n now).plan.limit piece x.added o) e s.is_coming)

reads : (limit : ℕ) (bytes : List ℕ) (o : Option Message) (m : Message) → Carries limit bytes o → o ≡ Some m ↔ IsWireForm m bytes limit
reads limit bytes None m h = (λ e. absurd (cc), λ form. absurd (h m form))
reads limit bytes (Some k) m h =
    (λ e. subst (λ (x : Message). IsWireForm x bytes limit) (same_Some k m e) h, λ form. ap Some (one_message k m bytes limit h form))

datagrams_are_read : DatagramsAreRead
datagrams_are_read n after now link from bytes x r s m =
    subst (λ (limit : ℕ). x.carried ≡ Some m ↔ IsWireForm m bytes limit) (limit_is n now) (reads (begin n now).plan.limit bytes x.carried m s.is_coming)

pub what_comes_is_read : WhatComesIsRead
what_comes_is_read = (pieces_are_divided, datagrams_are_read)
