-- What it is that calls began a flood, and that it stays so along the flood's way.
use Rattle.std.proofs.Common.{◌≡◌, ℕ, ◌≤◌, ◌-◌, List, [], ◌∷◌, All, Option, Some, None, arith, refl, ◌∙◌}
use Rattle.std.specs.Prelude.{Contains}
use Rattle.std.proofs.lemmas.List.Elements.{All-cons, All-head, All-tail, All-weaker}
use Rattle.grasp_cbor.proofs.Facts.Numbers.{up}
use Rattle.grasp_model_node.proofs.Facts.{objective_lowered, flood_parts_lowered}
use Rattle.grasp_model_node.specs.Datagrams.{lowered, loops_of}
use Rattle.grasp_model_node.specs.Queue.{Queued}
use Rattle.grasp_flood.specs.Floods.{read_of}
use Rattle.grasp_flood.specs.declared.keys.FloodKey.{FloodKey}
use Rattle.grasp_flood.specs.declared.kept.FloodKept.{FloodKept}
use Rattle.grasp_model_network.specs.Setting.{Member, numbered}
use Rattle.grasp_model_network.specs.World.{FloodCall}
use Rattle.grasp_types.specs.Flood.{first_loops}
use Rattle.grasp_types.specs.Message.{IsMessage}
use Rattle.grasp_types.specs.declared.address.Address.{Address}
use Rattle.grasp_types.specs.declared.address.Locator.{Locator}
use Rattle.grasp_types.specs.declared.flood.FloodPart.{FloodPart}
use Rattle.grasp_types.specs.declared.flood.FloodRead.{FloodRead}
use Rattle.grasp_types.specs.declared.message.Message.{Message}
use Rattle.grasp_types.specs.declared.message.Message.TheVariants.{Discovery, Flood}
use Rattle.grasp_types.specs.declared.objective.Objective.{Objective}
use Rattle.grasp_laws_floods.proofs.Lives.{IsMore}
use Rattle.grasp_laws_floods.proofs.Queueing.{QueuedIs, queued_weaker}

-- one of these calls flooded it, in a life of the member whose address is the initiator's; of each life it is known whose it is
pub record Made (ms : List Member) (calls : List FloodCall) (initiator : Address) (o : Objective) (locator : Option Locator) : Type 0 where
  pub call : FloodCall
  pub among : Contains calls call
  pub member : Member
  pub made_at : numbered ms call.node ≡ Some member
  pub address : initiator ≡ member.plan.address
  pub name : o.name ≡ call.name
  pub value : o.value ≡ Some call.value
  pub flags : o.flags ≡ call.flags
  pub loops : o.loops ≤ call.loops
  pub no_locator : locator ≡ None

abbrev pub PartMade : List Member → List FloodCall → Address → FloodPart → Type 0
PartMade ms calls initiator part = Made ms calls initiator part.objective part.locator

abbrev pub ReadMade : List Member → List FloodCall → FloodRead → Type 0
ReadMade ms calls read = Made ms calls read.initiator read.objective read.locator

abbrev pub EntryMade : List Member → List FloodCall → FloodKey × FloodKept → Type 0
EntryMade ms calls entry = ReadMade ms calls (read_of entry)

abbrev pub PartsMade : List Member → List FloodCall → Message → Type 0
PartsMade ms calls (Flood session initiator ttl parts) = All (PartMade ms calls initiator) parts
PartsMade ms calls _ = Unit {0}

-- the message's parts are in range, so that it is decoded, and each flood in it was made
pub record MessageMade (ms : List Member) (calls : List FloodCall) (m : Message) : Type 0 where
  pub is_message : IsMessage m
  pub parts : PartsMade ms calls m

abbrev pub QueuedMade : List Member → List FloodCall → Queued → Type 0
QueuedMade ms calls q = QueuedIs (MessageMade ms calls) q

-- ---- more lives and more calls

module _ (ms ns : List Member) (calls called : List FloodCall) (more : IsMore ms ns calls called) where
  pub made_more : (initiator : Address) (o : Objective) (locator : Option Locator) → Made ms calls initiator o locator → Made ns called initiator o locator
  made_more initiator o locator m = record {
    call = m.call;
    among = more.among m.call m.among;
    member = m.member;
    made_at = more.lives m.call.node m.member m.made_at;
    address = m.address;
    name = m.name;
    value = m.value;
    flags = m.flags;
    loops = m.loops;
    no_locator = m.no_locator;
  }

  parts_more : (m : Message) → PartsMade ms calls m → PartsMade ns called m
  parts_more (Flood session initiator ttl parts) p =
      All-weaker (PartMade ms calls initiator) (PartMade ns called initiator) (λ part. made_more initiator part.objective part.locator) parts p
  parts_more _ p = tt

  pub message_more : (m : Message) → MessageMade ms calls m → MessageMade ns called m
  message_more m k = record { is_message = k.is_message; parts = parts_more m k.parts }

  pub queued_more : (q : Queued) → QueuedMade ms calls q → QueuedMade ns called q
  queued_more = queued_weaker (MessageMade ms calls) (MessageMade ns called) message_more

-- ---- loop counts that are lowered

one_less : (a : ℕ) → a - 1 ≤ a
one_less a = omega arith

-- what tells the same, with a loop count that isn't higher, was made by the same call
pub made_as : (ms : List Member) (calls : List FloodCall) (initiator : Address) (o p : Objective) (locator : Option Locator) → p.name ≡ o.name → p.value ≡ o.value → p.flags ≡ o.flags → p.loops ≤ o.loops
    → Made ms calls initiator o locator → Made ms calls initiator p locator
made_as ms calls initiator o p locator name value flags loops m = record {
  call = m.call;
  among = m.among;
  member = m.member;
  made_at = m.made_at;
  address = m.address;
  name = name ∙ m.name;
  value = value ∙ m.value;
  flags = flags ∙ m.flags;
  loops = up p.loops o.loops m.call.loops loops m.loops;
  no_locator = m.no_locator;
}

part_lowered : (ms : List Member) (calls : List FloodCall) (initiator : Address) (part : FloodPart) → PartMade ms calls initiator part
    → PartMade ms calls initiator (record part { objective = record part.objective { loops = part.objective.loops - 1 } })
part_lowered ms calls initiator part m =
    made_as ms calls initiator part.objective (record part.objective { loops = part.objective.loops - 1 }) part.locator refl refl refl (one_less part.objective.loops) m

pub parts_lowered : (ms : List Member) (calls : List FloodCall) (initiator : Address) (parts : List FloodPart) → All (PartMade ms calls initiator) parts
    → All (PartMade ms calls initiator) (first_loops parts (loops_of parts - 1))
parts_lowered ms calls initiator [] all = all
parts_lowered ms calls initiator (part ∷ parts) all =
    All-cons (PartMade ms calls initiator) (record part { objective = record part.objective { loops = part.objective.loops - 1 } }) parts
    (part_lowered ms calls initiator part (All-head (PartMade ms calls initiator) part parts all)) (All-tail (PartMade ms calls initiator) part parts all)

-- a flood that is sent on
pub flood_lowered : (ms : List Member) (calls : List FloodCall) (session : ℕ) (initiator : Address) (ttl : ℕ) (parts : List FloodPart) → MessageMade ms calls (Flood session initiator ttl parts)
    → MessageMade ms calls (Flood session initiator ttl (first_loops parts (loops_of parts - 1)))
flood_lowered ms calls session initiator ttl parts k = record {
  is_message = (k.is_message.0, k.is_message.1, k.is_message.2, flood_parts_lowered parts k.is_message.3);
  parts = parts_lowered ms calls initiator parts k.parts;
}

-- a discovery that is sent on
pub discovery_lowered : (ms : List Member) (calls : List FloodCall) (session : ℕ) (initiator : Address) (o : Objective) → MessageMade ms calls (Discovery session initiator o)
    → MessageMade ms calls (Discovery session initiator (lowered o))
discovery_lowered ms calls session initiator o k = record { is_message = (k.is_message.0, k.is_message.1, objective_lowered o k.is_message.2); parts = tt }
