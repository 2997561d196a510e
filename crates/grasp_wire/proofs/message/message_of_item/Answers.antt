use Rattle.std.proofs.Common.{◌≡◌, Option, Some, None, IfSome, IfNone, IfOk, Result, Ok, Err, sym, ap, ◌∙◌}
use Rattle.std.proofs.lemmas.Option.{none-some}
use Rattle.grasp_cbor.specs.DataItem.{DataItem}
use Rattle.grasp_cbor.specs.Encodable.{IsEncodable}
use Rattle.grasp_cbor.specs.Item.{data_item_of}
use Rattle.grasp_types.specs.Message.{item_of, IsMessage}
use Rattle.grasp_types.specs.declared.message.Message.{Message}
use Rattle.grasp_wire.specs.ReadMessages.{message_in}
use Rattle.grasp_wire.specs.Stream.{IsNoMessage}
use Rattle.grasp_wire.proofs.Messages.{message_finds}
use Rattle.grasp_wire.proofs.MessagesAgain.{message_again}
use Rattle.grasp_wire.proofs.message.message_of_item.Goals as goal

ranges : {E : Type 0} (t : DataItem) (r : Result (Option Message) E) → IsEncodable t → IfOk r (λ o. o ≡ message_in t) → IfOk r (λ o. IfSome o IsMessage)
ranges t (Err e) enc h = tt
ranges t (Ok None) enc h = tt
ranges t (Ok (Some m)) enc h = (message_finds t m enc (sym h)).1

found : {E : Type 0} (t : DataItem) (r : Result (Option Message) E) → IsEncodable t → IfOk r (λ o. o ≡ message_in t) → IfOk r (λ o. IfSome o (λ m. t ≡ item_of m))
found t (Err e) enc h = tt
found t (Ok None) enc h = tt
found t (Ok (Some m)) enc h = (message_finds t m enc (sym h)).0

none : {E : Type 0} (t : DataItem) (r : Result (Option Message) E) → IfOk r (λ o. o ≡ message_in t) → IfOk r (λ o. IfNone o (IsNoMessage t))
none t (Err e) h = tt
none t (Ok (Some m)) h = tt
none t (Ok None) h = λ m is e. none-some m (h ∙ ap message_in e ∙ message_again m is)

pub returns-clause-ranges : goal.returns-clause-ranges
returns-clause-ranges c = ranges (data_item_of c.args.item.now) c.message_in.result c.requires c.message_in.ensures

pub returns-clause-found : goal.returns-clause-found
returns-clause-found c = found (data_item_of c.args.item.now) c.message_in.result c.requires c.message_in.ensures

pub returns-clause-none : goal.returns-clause-none
returns-clause-none c = none (data_item_of c.args.item.now) c.message_in.result c.message_in.ensures
