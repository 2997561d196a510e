-- What a datagram does.
use Rattle.std.proofs.Common.{◌≡◌, ℕ, Option, None, Some, refl, sym, ◌∙◌, subst}
use Rattle.std.proofs.lemmas.Option.{same_Some}
use Rattle.grasp_laws_hearing.proofs.First.{neighbour_is}
use Rattle.grasp_model_node.specs.Begin.{begin}
use Rattle.grasp_model_node.specs.Datagrams.{datagram_of, datagram_by, after_datagram}
use Rattle.grasp_model_node.specs.Hear.{neighbour_at}
use Rattle.grasp_model_node.specs.Node.{NodeState}
use Rattle.grasp_model_node.specs.Step.{Coming, TakesDatagram}
use Rattle.grasp_types.specs.declared.links.Neighbour.{Neighbour}
use Rattle.grasp_types.specs.declared.message.Message.{Message}
use Rattle.grasp_types.specs.declared.message.Message.TheVariants.{Noop, Discovery, Response, ReqNeg, ReqSyn, Negotiate, End, Wait, Synch, Flood, Invalid}
use Rattle.grasp_types.specs.declared.reply.Reply.{Reply}
use Rattle.grasp_types.specs.declared.reply.Reply.TheVariants as reply
use Rattle.grasp_laws_datagrams.proofs.Discoveries.{discovery_does}
use Rattle.grasp_laws_datagrams.proofs.Floods.{flood_does}
use Rattle.grasp_laws_datagrams.specs.Datagrams.{MessageDoes, DatagramDoes, IsTaken, DatagramsAreTaken}

message_does : (n : NodeState) (link from : ℕ) (neighbour : Neighbour) (m : Option Message) → MessageDoes n link from neighbour m (datagram_of n (record { link = link; from = from }) neighbour m)
message_does n link from neighbour None = refl
message_does n link from neighbour (Some (Discovery session initiator o)) = discovery_does n link from neighbour session initiator o
message_does n link from neighbour (Some (Flood session initiator ttl parts)) = flood_does n link session initiator ttl parts
message_does n link from neighbour (Some Noop) = refl
message_does n link from neighbour (Some (Response session initiator ttl told o)) = refl
message_does n link from neighbour (Some (ReqNeg session o)) = refl
message_does n link from neighbour (Some (ReqSyn session o)) = refl
message_does n link from neighbour (Some (Negotiate session o)) = refl
message_does n link from neighbour (Some (End session verdict)) = refl
message_does n link from neighbour (Some (Wait session millis)) = refl
message_does n link from neighbour (Some (Synch session o)) = refl
message_does n link from neighbour (Some (Invalid session detail)) = refl

datagram_does : (n : NodeState) (link from : ℕ) (m : Option Message) → DatagramDoes n link from m (after_datagram n link from m)
unfolding after_datagram
datagram_does n link from m = by (neighbour_at n link from) refl where
  by : (o : Option Neighbour) → neighbour_at n link from ≡ o → DatagramDoes n link from m (datagram_by n (record { link = link; from = from }) m o)
  by None e = record { neighbour = λ neighbour is. let clash : None ≡ Some neighbour = sym e ∙ (neighbour_is n link from neighbour).1 is in absurd (cc); stranger = λ none. refl }
  by (Some one) e = record {
    neighbour = λ neighbour is.
        subst (λ (x : Neighbour). MessageDoes n link from x m (datagram_of n (record { link = link; from = from }) one m))
        (same_Some one neighbour (sym e ∙ (neighbour_is n link from neighbour).1 is)) (message_does n link from one m);
    stranger = λ none. absurd (none one ((neighbour_is n link from one).0 e));
  }

taken : (n after : NodeState) (link from : ℕ) (x : Coming) (r : Reply) → TakesDatagram n link from x r after → IsTaken n link from x.carried r after
taken n after link from x reply.Taken e = subst (DatagramDoes n link from x.carried) (sym e) (datagram_does n link from x.carried)
taken n after link from x reply.OutOfMemory e = e
taken n after link from x _ e = e

pub datagrams_are_taken : DatagramsAreTaken
datagrams_are_taken n after now link from bytes x r s = taken (begin n now) after link from x r s.acts
