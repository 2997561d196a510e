-- What a datagram leaves in a node's cache of floods.
use Rattle.std.proofs.Common.{◌≡◌, refl, sym, subst, ℕ, Bool, true, false, cond, List, All, Option, ◌⊎◌, inl, inr}
use Rattle.std.specs.Prelude.{Any}
use Rattle.std.proofs.lemmas.List.Elements.{All-weaker}
use Rattle.grasp_cbor.proofs.Facts.Numbers.{itself}
use Rattle.grasp_model_node.specs.Datagrams.{discovery_kept, discovery_heard, is_dropped, after_discovery, flood_kept, flood_heard, after_flood, after_datagram}
use Rattle.grasp_model_node.specs.Moves.{with_discoveries, with_floods}
use Rattle.grasp_model_node.specs.Node.{NodeState}
use Rattle.grasp_discovery.specs.Discoveries as discovery
use Rattle.grasp_discovery.specs.declared.answers.Cause.{Cause}
use Rattle.grasp_discovery.specs.declared.answers.Heard as answered
use Rattle.grasp_discovery.specs.declared.answers.Heard.TheVariants as discovered
use Rattle.grasp_flood.proofs.LawFloods.{entries_told}
use Rattle.grasp_flood.specs.Floods as flood
use Rattle.grasp_flood.specs.Floods.{end_of, entry_of, read_of}
use Rattle.grasp_flood.specs.Laws.{IsOld}
use Rattle.grasp_flood.specs.declared.heard.Heard as told
use Rattle.grasp_flood.specs.declared.heard.Heard.TheVariants as flooded
use Rattle.grasp_flood.specs.declared.keys.FloodKey.{FloodKey}
use Rattle.grasp_flood.specs.declared.kept.FloodKept.{FloodKept}
use Rattle.grasp_model_network.specs.Setting.{Member}
use Rattle.grasp_model_network.specs.World.{FloodCall}
use Rattle.grasp_types.specs.Origin.{origin_of}
use Rattle.grasp_types.specs.Same.{same_address}
use Rattle.grasp_types.specs.declared.address.Address.{Address}
use Rattle.grasp_types.specs.declared.flood.FloodPart.{FloodPart}
use Rattle.grasp_types.specs.declared.links.Neighbour.{Neighbour}
use Rattle.grasp_types.specs.declared.message.Message.{Message}
use Rattle.grasp_types.specs.declared.message.Message.TheVariants.{Flood}
use Rattle.grasp_types.specs.declared.objective.Objective.{Objective}
use Rattle.grasp_types.specs.declared.origin.Origin.{Origin}
use Rattle.grasp_laws_floods.proofs.Made.{EntryMade, PartMade, MessageMade, made_as}
use Rattle.grasp_laws_floods.proofs.Datagrams.{datagram_so}
use Rattle.grasp_laws_floods.proofs.Leaving.{flood_relay_leaves, answered_leaves}
use Rattle.grasp_laws_floods.proofs.Queueing.{OptionIs}

-- the message, if there is one, is made
abbrev pub OptionMade : List Member → List FloodCall → Option Message → Type 0
OptionMade ms calls m = OptionIs (MessageMade ms calls) m

-- ---- what was told

any_of : {X : Type 0} (P Q : X → Type 0) (R : Type 0) (xs : List X) → All P xs → Any Q xs → ((x : X) → P x → Q x → R) → R
any_of P Q R xs all a so = so a.1 (subst P a.3 (all a.0 a.1 a.2)) a.4

old_made : (ms : List Member) (calls : List FloodCall) (entry old : FloodKey × FloodKept) → EntryMade ms calls old → IsOld old entry → EntryMade ms calls entry
old_made ms calls entry old m is =
    subst (λ key. EntryMade ms calls (key, entry.1)) (sym is.0) (subst (λ kept. EntryMade ms calls (old.0, kept)) (sym is.1) m)

part_entry : (ms : List Member) (calls : List FloodCall) (session : ℕ) (initiator : Address) (last : Option ℕ) (part : FloodPart) → PartMade ms calls initiator part
    → EntryMade ms calls (entry_of (origin_of session initiator) last part)
part_entry ms calls session initiator last part m =
    made_as ms calls initiator part.objective (read_of (entry_of (origin_of session initiator) last part)).objective part.locator refl refl refl (itself part.objective.loops) m

-- the entry is an old one, perhaps with a later end, or a part of the flood
abbrev IsTold : List (FloodKey × FloodKept) → Origin → Option ℕ → List FloodPart → FloodKey × FloodKept → Type 0
IsTold before origin last parts entry = Any (λ old. IsOld old entry) before ⊎ Any (λ part. entry ≡ entry_of origin last part) parts

told_made : (ms : List Member) (calls : List FloodCall) (before : List (FloodKey × FloodKept)) (session : ℕ) (initiator : Address) (last : Option ℕ) (parts : List FloodPart)
    → All (EntryMade ms calls) before → All (PartMade ms calls initiator) parts
    → (entry : FloodKey × FloodKept) → IsTold before (origin_of session initiator) last parts entry → EntryMade ms calls entry
told_made ms calls before session initiator last parts old new entry (inl a) =
    any_of (EntryMade ms calls) (λ x. IsOld x entry) (EntryMade ms calls entry) before old a (old_made ms calls entry)
told_made ms calls before session initiator last parts old new entry (inr a) =
    any_of (PartMade ms calls initiator) (λ part. entry ≡ entry_of (origin_of session initiator) last part) (EntryMade ms calls entry) parts new a
    (λ part m e. subst (EntryMade ms calls) (sym e) (part_entry ms calls session initiator last part m))

-- ---- a flood

flood_entries : (ms : List Member) (calls : List FloodCall) (n : NodeState) (link session : ℕ) (initiator : Address) (ttl : ℕ) (parts : List FloodPart)
    → All (EntryMade ms calls) n.floods.entries → All (PartMade ms calls initiator) parts → All (EntryMade ms calls) (after_flood n link session initiator ttl parts).floods.entries
unfolding with_floods
flood_entries ms calls n link session initiator ttl parts old new = by_own (same_address n.plan.address initiator) where
  all_told : All (EntryMade ms calls) (flood.after_heard n.floods n.reading (origin_of session initiator) ttl parts (flood.heard_reply n.floods (origin_of session initiator))).entries
  all_told =
      All-weaker (IsTold n.floods.entries (origin_of session initiator) (end_of n.reading ttl) parts) (EntryMade ms calls)
      (told_made ms calls n.floods.entries session initiator (end_of n.reading ttl) parts old new)
      (flood.after_heard n.floods n.reading (origin_of session initiator) ttl parts (flood.heard_reply n.floods (origin_of session initiator))).entries
      (entries_told n.floods n.reading (origin_of session initiator) ttl parts)

  by_heard : (h : told.Heard) → All (EntryMade ms calls) (flood.after_heard n.floods n.reading (origin_of session initiator) ttl parts h).entries
      → All (EntryMade ms calls) (flood_heard n link session initiator ttl parts h).floods.entries
  by_heard flooded.Known all = all
  by_heard flooded.NoPlace all = old
  by_heard flooded.New all =
      subst (λ f. All (EntryMade ms calls) f.entries) (sym (flood_relay_leaves (flood_kept n session initiator ttl parts flooded.New) link session initiator ttl parts).floods) all

  by_own : (b : Bool)
      → All (EntryMade ms calls) (cond b n (flood_heard n link session initiator ttl parts (flood.heard_reply n.floods (origin_of session initiator)))).floods.entries
  by_own true = old
  by_own false = by_heard (flood.heard_reply n.floods (origin_of session initiator)) all_told

-- ---- a discovery

heard_floods : (n : NodeState) (cause : Cause) (neighbour : Neighbour) (session : ℕ) (initiator : Address) (o : Objective) (h : answered.Heard)
    → (discovery_heard n cause neighbour session initiator o h).floods ≡ n.floods
unfolding with_discoveries
heard_floods n cause neighbour session initiator o discovered.Known = refl
heard_floods n cause neighbour session initiator o discovered.NoPlace = refl
heard_floods n cause neighbour session initiator o discovered.New = (answered_leaves (discovery_kept n cause session initiator o) cause.link neighbour session initiator o).floods

discovery_floods : (n : NodeState) (cause : Cause) (neighbour : Neighbour) (session : ℕ) (initiator : Address) (o : Objective)
    → (after_discovery n cause neighbour session initiator o).floods ≡ n.floods
discovery_floods n cause neighbour session initiator o = by_test (is_dropped n initiator o.flags) where
  by_test : (b : Bool)
      → (cond b n (discovery_heard n cause neighbour session initiator o (discovery.heard_reply n.discoveries (origin_of session initiator)))).floods ≡ n.floods
  by_test true = refl
  by_test false = heard_floods n cause neighbour session initiator o (discovery.heard_reply n.discoveries (origin_of session initiator))

-- ---- a datagram

pub datagram_entries : (ms : List Member) (calls : List FloodCall) (n : NodeState) (link from : ℕ) (m : Option Message) → OptionMade ms calls m
    → All (EntryMade ms calls) n.floods.entries → All (EntryMade ms calls) (after_datagram n link from m).floods.entries
datagram_entries ms calls n link from m k old = datagram_so (λ x. All (EntryMade ms calls) x.floods.entries) n old link from m (record {
  after_discoveries = λ cause neighbour session initiator o e. subst (λ f. All (EntryMade ms calls) f.entries) (sym (discovery_floods n cause neighbour session initiator o)) old;
  after_floods = λ link session initiator ttl parts e.
      let made : MessageMade ms calls (Flood session initiator ttl parts) = subst (OptionMade ms calls) e k in flood_entries ms calls n link session initiator ttl parts old made.parts;
})
